use Rattle.std.proofs.Common.{◌<◌, ◌∙◌, sym, ap, ◌++◌, cond, ◌∷◌, []}
use Rattle.std.specs.Str.{bytes_eq}
use Rattle.std.proofs.lemmas.List.Elements.{recursion_from_All}
use Rattle.revisit_table.proofs.Rising.{increasing-push}
use Rattle.revisit_table.proofs.TableLemmas.{numbers-push, somes_apart, none_added}
use Rattle.revisit_table.proofs.digests.Digests.add.Goals as goal

pub invariant_of-self : goal.invariant_of-self
invariant_of-self c =
    let kept = c.self.inside.kept.items in
    let number = c.args.number in
    let pushed = c.push_reserved.ensures.items in
    let reserved = rw (sym c.self.view_is) at c.requires.reserved in
    let above = rw (sym c.self.view_is) at c.requires.above in
    record {
      rising = rw pushed (increasing-push (λ entry. entry.1) kept (c.args.digest.now, number) c.self.invariant.rising (recursion_from_All (λ entry. entry.1 < number) kept above));
      same = λ other. rw pushed (c.add_at.ensures.numbers other ∙ ap (λ l. l ++ cond (bytes_eq c.args.digest.now other) (number ∷ []) []) (c.self.invariant.same other) ∙ sym (numbers-push other kept c.args.digest.now number));
      room = λ other h. cc;
      spare = λ other h. cc;
      used = λ other unreserved none.
          let before = none_added (bytes_eq c.args.digest.now other) number _ _ (c.add_at.ensures.numbers other) none in
          let apart = somes_apart c.args.digest.now other before.0 in
          c.add_at.ensures.lists other ∙ c.self.invariant.used other (λ same. apart (sym reserved ∙ same)) before.1;
    }
