-- The laws, by those of lower crates.
use Rattle.session.proofs.GrowingLaws.{Growing, courses_grow, courses_show_on, courses_stay_consistent, courses_count, ids_differ}
use Rattle.session.proofs.laws.courses_only_grow.Goals as goal

pub returns : goal.returns
returns c =
    let laws : Growing = record {
      itself = c.growth_keeps_captures.ensures.itself;
      steps = c.growth_keeps_captures.ensures.steps;
      keeps = c.growth_keeps_captures.ensures.keeps;
      leads = c.leading_books_grow.ensures.itself;
      leading = c.leading_books_grow.ensures.grows;
      gains = c.stored_captures_stand_behind.ensures.grows;
      stores = c.stored_captures_stand_behind.ensures.stores;
    } in
    record {
      grow = courses_grow laws;
      show_on = courses_show_on;
      consistent = courses_stay_consistent;
      faults = courses_count;
      ids = ids_differ laws;
    }
