use Rattle.std.proofs.Common.{sym, ◌∙◌}
use Rattle.digest32.proofs.Groups.{base32-numbers, group_bytes_in_range, eight_elements}
use Rattle.digest32.proofs.base32.bytes_of.Goals as goal

pub returns : goal.returns
returns c =
    let text = eight_elements c.args.text.now c.requires in
    let numbers = base32-numbers c.in_ok-a.a c.in_ok-b.b c.in_ok-c.c c.in_ok-d.d c.in_ok-e.e c.in_ok-f.f c.in_ok-g.g c.in_ok-h.h
    c.in_ok-a.ensures.0 c.in_ok-b.ensures.0 c.in_ok-c.ensures.0 c.in_ok-d.ensures.0 c.in_ok-e.ensures.0 c.in_ok-f.ensures.0 c.in_ok-g.ensures.0 c.in_ok-h.ensures.0 in
    let in_range = group_bytes_in_range c.in_ok-a.a c.in_ok-b.b c.in_ok-c.c c.in_ok-d.d c.in_ok-e.e c.in_ok-f.f c.in_ok-g.g c.in_ok-h.h
    c.in_ok-a.ensures.0 c.in_ok-b.ensures.0 c.in_ok-c.ensures.0 c.in_ok-d.ensures.0 c.in_ok-e.ensures.0 c.in_ok-f.ensures.0 c.in_ok-g.ensures.0 c.in_ok-h.ensures.0 in
    (in_range, text ∙ rw (c.in_ok-a.ensures.1, c.in_ok-b.ensures.1, c.in_ok-c.ensures.1, c.in_ok-d.ensures.1, c.in_ok-e.ensures.1, c.in_ok-f.ensures.1, c.in_ok-g.ensures.1, c.in_ok-h.ensures.1) (sym numbers))
