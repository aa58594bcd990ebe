use Rattle.std.proofs.Common.{sym, ◌∙◌, ap, length}
use Rattle.index_snapshot.proofs.Adding.{adds_moves}
use Rattle.index_snapshot.proofs.note.Note.after.Goals as goal

pub compare_exchange-found-requires : goal.compare_exchange-found-requires
compare_exchange-found-requires g c =
    let h = c.requires in
    let offer = c.plain-offer.ensures in
    let pen = c.no_pen-pen.ensures in
    let again = c.again-seen.ensures in
    let of = ap (λ e. e.of) c.self.view_is in (
      ap (λ w. w.tracked) h,
      ap (λ s. s.book) again ∙ (of ∙ sym (ap (λ w. w.book) h)),
      pen.0 ∙ (ap (λ s. s.book) again ∙ (of ∙ sym (ap (λ w. w.book) h))),
      offer.0,
      rw (ap (λ w. w.key) h, pen.1, offer.1, offer.3) (adds_moves c.again-seen.result.log c.args.item.now c.self.inside.len (ap (λ s. length s.log) again ∙ sym c.self.invariant)),
    )
