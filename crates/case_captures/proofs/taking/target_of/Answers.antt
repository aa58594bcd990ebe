-- The origin that a request is aimed at.
use Rattle.case_captures.proofs.taking.target_of.Goals as goal

pub returns-in-Ok-Origin : goal.returns-in-Ok-Origin
returns-in-Ok-Origin c = record {
  site = record { base = c.in_ok-from_str.field-0; host = c.in_ok-from_str-2.field-0; port = 8080 };
  stream = c.requires.0;
  request = c.requires.1;
  aim = rw c.in-Ok-Origin.field-0-is at c.in-Ok-Origin.ensures.aim;
  host = rw c.in-Ok-Origin.field-0-is at c.in-Ok-Origin.ensures.short;
}
