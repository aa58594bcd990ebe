use Rattle.std.proofs.Common.{rules, ◌≡◌, ◌+◌, ◌<◌, ◌≤◌, ℕ, List, Some, get_or, length, map, sym, ap, subst, ◌∙◌, arith}
use Rattle.std.specs.Prelude.{option_to_list}
use Rattle.capture.specs.declared.book.Volume.{Volume}
use Rattle.archive_volumes.specs.Held.{volume_of}
use Rattle.archive_volumes.specs.declared.held.Shadow.{Shadow}
use Rattle.archive_volumes.proofs.FactsLaws.{Told, sum_within, told_last, told_more}
use Rattle.archive_volumes.proofs.held.Held.facts.Goals as goal

pub overflow_cast-count : goal.overflow_cast-count
overflow_cast-count c =
    let sealed = c.args.self.now.sealed.items in
    let others : List Volume = map volume_of (option_to_list c.args.self.now.last) in
    let shadow = c.index-sealed-done.result in
    let less : c.volumes.done < length sealed = search rules in
    let at : shadow ≡ get_or sealed c.volumes.done shadow = c.index-sealed-done.is ∙ ap (λ (l : List Shadow). get_or l c.volumes.done shadow) c.as_slice-sealed.ensures.value in
    let count : c.len-count.result ≡ length shadow.captures.items = search rules in
    omega (arith, sum_within sealed others c.volumes.done shadow less at, count, c.requires.captures)

pub tell-requires-clause-small : goal.tell-requires-clause-small
tell-requires-clause-small c =
    let sealed = c.args.self.now.sealed.items in
    let others : List Volume = map volume_of (option_to_list c.args.self.now.last) in
    let shadow = c.index-sealed-done.result in
    let less : c.volumes.done < length sealed = search rules in
    let at : shadow ≡ get_or sealed c.volumes.done shadow = c.index-sealed-done.is ∙ ap (λ (l : List Shadow). get_or l c.volumes.done shadow) c.as_slice-sealed.ensures.value in
    let count : c.len-count.result ≡ length shadow.captures.items = search rules in
    omega (arith, sum_within sealed others c.volumes.done shadow less at, count, c.requires.captures, c.volumes.invariant.told.before)

pub volumes-preserved : goal.volumes-preserved
volumes-preserved c =
    let sealed = c.args.self.now.sealed.items in
    let shadow = c.index-sealed-done.result in
    let less : c.volumes.done < length sealed = search rules in
    let at : shadow ≡ get_or sealed c.volumes.done shadow = c.index-sealed-done.is ∙ ap (λ (l : List Shadow). get_or l c.volumes.done shadow) c.as_slice-sealed.ensures.value in
    let count : c.len-count.result ≡ length shadow.captures.items = search rules in
    record {
      told = subst (λ (f : ℕ). Told sealed (c.volumes.done + 1) f c.tell.new.facts.items) (sym c.in_ok-first.ensures.next)
          (told_more sealed c.volumes.done c.volumes.first c.volumes.facts.items c.volumes.invariant.told shadow c.len-count.result c.tell.new.facts.items
          less at count c.in_ok-first.ensures.told);
    }

pub returns-in_ok-tell-in-Some : goal.returns-in_ok-tell-in-Some
returns-in_ok-tell-in-Some c =
    let sealed = c.args.self.now.sealed.items in
    let last = c.in-Some.last in
    let some : c.args.self.now.last ≡ Some last = c.in-Some.is in
    let le : length sealed ≤ c.volumes.done = search rules in
    let count : c.len-count-in-Some.result ≡ length last.captures.items = omega (arith, c.len-count-in-Some.ensures, last.captures.ok.0) in
    told_last sealed c.volumes.done c.volumes.first c.volumes.facts.items c.volumes.invariant.told c.args.self.now.last last c.len-count-in-Some.result
    c.tell-in-Some.new.facts.items some le count c.in_ok-tell-in-Some.ensures.told
