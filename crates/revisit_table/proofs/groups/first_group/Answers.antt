-- An entry's number is put behind those so far, up to the first entry with another digest.
use Rattle.std.proofs.Common.{◌≡◌, ◌∷◌, List, ℕ, true, false, sym, subst, ◌∙◌, ap, arith, length}
use Rattle.std.specs.Str.{bytes_eq}
use Rattle.std.proofs.lemmas.Bool.{not-false, not-true}
use Rattle.std.proofs.lemmas.List.{nil_from_length}
use Rattle.std.proofs.lemmas.Slice.Eq.{bytes_eq-Decides}
use Rattle.revisit_table.specs.Groups.{AreInOrder, AreNotBelow}
use Rattle.revisit_table.specs.Lists.{items_of}
use Rattle.revisit_table.specs.Table.{numbers_of}
use Rattle.revisit_table.proofs.GroupLemmas.{filled_more, gone_behind, numbers_past, whole_group}
use Rattle.revisit_table.proofs.groups.first_group.Goals as goal

pub entries-preserved : goal.entries-preserved
entries-preserved c =
    let digest = c.args.first.now.0 in
    let entry = c.in-Some.entry.now in
    let left = c.in-Some.left.now in
    let was = c.entries.invariant in
    let splits = c.in-Some.ensures.cases.0 in
    let same : bytes_eq entry.0 digest ≡ true = not-false (bytes_eq entry.0 digest) (sym c.ne.ensures ∙ c.if-ne.false) in
    let is : entry.0 ≡ digest = (bytes_eq-Decides entry.0 digest).0 same in
    let order : AreInOrder (entry ∷ left) = subst AreInOrder splits was.in_order in
    let above : AreNotBelow digest (entry ∷ left) = subst (AreNotBelow digest) splits was.above in
    let count = ap length splits in
    record {
      filled = filled_more digest entry left c.entries.rest.now (items_of c.entries.numbers) (items_of c.put.new.self) _ splits same c.in_ok-put.ensures.ok was.filled;
      others = λ other apart. sym (ap (numbers_of other) splits ∙ numbers_past other entry left (ap (λ (d : List ℕ). bytes_eq d other) is ∙ apart)) ∙ was.others other apart;
      in_order = order.1;
      above = above.1;
      fewer = omega (arith, was.fewer, count);
    }

pub returns-then-ne : goal.returns-then-ne
returns-then-ne c =
    let digest = c.args.first.now.0 in
    let entry = c.in-Some.entry.now in
    let left = c.in-Some.left.now in
    let was = c.entries.invariant in
    let splits = c.in-Some.ensures.cases.0 in
    let apart : bytes_eq entry.0 digest ≡ false = not-true (bytes_eq entry.0 digest) (sym c.ne.ensures ∙ c.if-ne.true) in
    let gone = ap (numbers_of digest) splits ∙ gone_behind digest entry left apart (subst (AreNotBelow digest) splits was.above) (subst AreInOrder splits was.in_order) in
    whole_group digest c.args.first.now.1 c.args.behind.now c.entries.rest.now c.entries.numbers was.filled gone was.others was.in_order was.fewer

pub returns : goal.returns
returns c =
    let digest = c.args.first.now.0 in
    let was = c.entries.invariant in
    let gone = ap (numbers_of digest) (nil_from_length c.entries.rest.now c.in_default.ensures.cases) in
    whole_group digest c.args.first.now.1 c.args.behind.now c.entries.rest.now c.entries.numbers was.filled gone was.others was.in_order was.fewer
