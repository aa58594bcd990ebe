use Rattle.std.proofs.Common.{◌≡◌, ◌+◌, ◌<◌, [], ◌∷◌, ◌++◌, ℕ, List, length, map, refl, sym, ap, subst, ◌∙◌, arith, append-nil, append_assoc}
use Rattle.std.specs.Prelude.{All}
use Rattle.std.specs.Vec.Iter.{into_iter_items}
use Rattle.std.proofs.lemmas.List.{nil_from_length}
use Rattle.std.proofs.lemmas.List.Elements.{All-head, All-tail}
use Rattle.capture.specs.Captures.{captures}
use Rattle.cdxj_line.specs.Lines.{IsWritable}
use Rattle.cdxj_line.specs.declared.line.Line.{Line}
use Rattle.archive_volumes.specs.Held.{book_of}
use Rattle.archive_volumes.specs.Lines.{told_spot}
use Rattle.archive_volumes.specs.declared.spot.Spot.{Spot}
use Rattle.archive_gathering.specs.Lines.{AreLinesIn, AreNext, ArePlacedIn, HasAddedLine, capture_by}
use Rattle.archive_gathering.proofs.ComeLaws.{come_on, left_is, made_line, more_captures, within_line}
use Rattle.archive_gathering.proofs.gathered.Gathered.add_lines.Goals as goal

pub add_line-requires-clause-writable : goal.add_line-requires-clause-writable
add_line-requires-clause-writable c =
    let left = left_is c.next.result (into_iter_items c.lines.rest) (into_iter_items c.next.new.self) c.in-Some.line c.next.ensures.items c.in-Some.is in
    All-head IsWritable c.in-Some.line (into_iter_items c.next.new.self) (subst (All IsWritable) left c.lines.invariant.writable)

pub add_line-requires-clause-number : goal.add_line-requires-clause-number
add_line-requires-clause-number c =
    let left = left_is c.next.result (into_iter_items c.lines.rest) (into_iter_items c.next.new.self) c.in-Some.line c.next.ensures.items c.in-Some.is in
    (subst (AreNext (length c.lines.self.spots.items) c.args.len) left c.lines.invariant.next).0.number_is

pub add_line-requires-clause-few : goal.add_line-requires-clause-few
add_line-requires-clause-few c =
    let left = left_is c.next.result (into_iter_items c.lines.rest) (into_iter_items c.next.new.self) c.in-Some.line c.next.ensures.items c.in-Some.is in
    let first = (subst (AreNext (length c.lines.self.spots.items) c.args.len) left c.lines.invariant.next).0 in
    omega (arith, first.few, first.number_is)

pub add_line-requires-clause-volume : goal.add_line-requires-clause-volume
add_line-requires-clause-volume c = omega (arith, c.requires.volume, c.lines.invariant.volumes)

pub lines-preserved : goal.lines-preserved
lines-preserved c =
    let left = left_is c.next.result (into_iter_items c.lines.rest) (into_iter_items c.next.new.self) c.in-Some.line c.next.ensures.items c.in-Some.is in
    let was = c.lines.self in
    let is = c.add_line.new.self in
    let line = c.in-Some.line in
    let rest = into_iter_items c.next.new.self in
    let added : HasAddedLine was is (capture_by c.args.known.now.value line) line = c.in_ok-add_line.ensures.added in
    let next = subst (AreNext (length was.spots.items) c.args.len) left c.lines.invariant.next in
    let some : 0 < length (book_of was.held).volumes = omega (arith, c.requires.volume, c.lines.invariant.volumes) in
    let more = more_captures was is (capture_by c.args.known.now.value line) line c.lines.invariant.steady next.0.number_is some added in
    let writable = subst (All IsWritable) left c.lines.invariant.writable in
    let P : Line → Type 0 = λ l. l.volume + 1 ≡ length (book_of c.args.self.now.held).volumes in
    let volumes = subst (All P) left c.lines.invariant.of_volume in
    record {
      steady = c.in_ok-add_line.ensures.steady;
      volumes = more.volumes ∙ c.lines.invariant.volumes;
      sealed = more.sealed ∙ c.lines.invariant.sealed;
      namespace = more.namespace ∙ c.lines.invariant.namespace;
      count = omega (arith, more.captures_are, c.lines.invariant.count, ap length left);
      next = subst (λ (n : ℕ). AreNext n c.args.len rest) (sym more.spots) next.1;
      writable = All-tail IsWritable line rest writable;
      of_volume = All-tail P line rest volumes;
      filled = λ filled. more.filled (c.lines.invariant.filled filled);
      last = λ less. more.last;
      spots = ap (λ (l : List Spot). l ++ map (λ (x : Line). told_spot x) rest) added.spots
          ∙ append_assoc was.spots.items (told_spot line ∷ []) (map (λ (x : Line). told_spot x) rest)
          ∙ ap (λ (l : List Line). was.spots.items ++ map (λ (x : Line). told_spot x) l) (sym left) ∙ c.lines.invariant.spots;
      numbered = λ are. more.numbered (c.lines.invariant.numbered are);
      requested = λ are. more.requested (c.lines.invariant.requested are);
      within = λ texts within placed.
          let so = c.lines.invariant.within texts within placed in
          let there = subst (ArePlacedIn texts) left so.1 in
          (within_line was is (capture_by c.args.known.now.value line) line added texts so.0 there.0, there.1);
      made = λ none made.
          made_line was is line c.lines.invariant.steady next.0.number_is (All-head P line rest volumes ∙ sym c.lines.invariant.volumes)
          (All-head IsWritable line rest writable).date next.0.short (subst (λ o. HasAddedLine was is (capture_by o line) line) none added) (c.lines.invariant.made none made);
      told = λ b texts known so are.
          let comes = c.lines.invariant.told b texts known so are in
          come_on c.reading_laws.ensures b texts was is line rest c.lines.invariant.steady next.0.number_is
          (subst (λ o. HasAddedLine was is (capture_by o line) line) known added)
          (record { come = comes.come; left = subst (λ (l : List Line). AreLinesIn b texts l) left comes.left });
    }

pub lines-init : goal.lines-init
lines-init c =
    let was = c.args.self.now in
    let items = c.into_iter-rest.ensures.rest in
    let P : Line → Type 0 = λ l. l.volume + 1 ≡ length (book_of was.held).volumes in
    record {
      steady = c.requires.steady;
      volumes = refl;
      sealed = refl;
      namespace = refl;
      count = ap (λ (l : List Line). length (captures (book_of was.held)) + length l) items;
      next = subst (AreNext (length was.spots.items) c.args.len) (sym items) c.requires.next;
      writable = subst (All IsWritable) (sym items) c.requires.writable;
      of_volume = subst (All P) (sym items) c.requires.of_volume;
      filled = λ filled. filled;
      last = λ less. absurd (omega (arith, less, ap length items));
      spots = ap (λ (l : List Line). was.spots.items ++ map (λ (x : Line). told_spot x) l) items;
      numbered = λ are. are;
      requested = λ are. are;
      within = λ texts within placed. (within, subst (ArePlacedIn texts) (sym items) placed);
      made = λ none made. made;
      told = λ b texts known so are. record {
        come = record { now = texts; so_far = so; count = refl; others = λ k less. refl };
        left = subst (λ (l : List Line). AreLinesIn b texts l) (sym items) are;
      };
    }

pub returns-clause-more : goal.returns-clause-more
returns-clause-more c =
    let none = nil_from_length (into_iter_items c.lines.rest) (sym c.lines.rest.rest.ok.0 ∙ c.in_default.ensures.cases.0) in
    let so = c.lines.invariant in
    record {
      captures_are = omega (arith, so.count, ap length none);
      volumes = so.volumes;
      sealed = so.sealed;
      namespace = so.namespace;
      filled = so.filled;
      last = λ less. so.last (omega (arith, less, ap length none));
      numbered = so.numbered;
      requested = so.requested;
    }

pub returns-clause-spots : goal.returns-clause-spots
returns-clause-spots c =
    let none = nil_from_length (into_iter_items c.lines.rest) (sym c.lines.rest.rest.ok.0 ∙ c.in_default.ensures.cases.0) in
    let spots = c.lines.self.spots.items in
    sym (append-nil spots) ∙ ap (λ (l : List Line). spots ++ map (λ (x : Line). told_spot x) l) (sym none) ∙ c.lines.invariant.spots

pub returns-clause-within : goal.returns-clause-within
returns-clause-within c = λ texts within placed. (c.lines.invariant.within texts within placed).0

pub returns-clause-made : goal.returns-clause-made
returns-clause-made c = c.lines.invariant.made

pub returns-clause-told : goal.returns-clause-told
returns-clause-told c = λ b texts known so are. (c.lines.invariant.told b texts known so are).come
