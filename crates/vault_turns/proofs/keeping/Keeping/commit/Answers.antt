-- A capture was stored, or not.
use Rattle.std.proofs.Common.{Bool, true, List, sym, subst}
use Rattle.std.specs.Prelude.{Contains}
use Rattle.std.proofs.lemmas.List.Elements.{Contains-append_left}
use Rattle.capture.specs.declared.book.Book.{Book}
use Rattle.archive_shelf.specs.Comparing.{IsRight}
use Rattle.archive_volumes.proofs.ChangeLaws.{DiskLaws}
use Rattle.history_lock.specs.Seen.{Adds}
use Rattle.archive_core.proofs.LastingLaws.{stored_behind}
use Rattle.archive_index.specs.Shown.{numbered}
use Rattle.archive_core.specs.Told.{told_of}
use Rattle.archive_shelf.proofs.CallLaws.{stored_goes_on}
use Rattle.index_entry.specs.Facts.{Facts}
use Rattle.vault_turns.specs.Guarded.{Guarded, KeepsShown}
use Rattle.vault_turns.specs.History.{by_of, is_told, told_book}
use Rattle.vault_turns.specs.Noting.{Notes}
use Rattle.vault_turns.specs.Turns.{Commits}
use Rattle.vault_turns.specs.declared.noted.Noted.{Noted}
use Rattle.vault_turns.proofs.CalmLaws.{roomy, stays_right, stays_stood, store_calm}
use Rattle.vault_turns.proofs.CommitLaws.{all_committed}
use Rattle.vault_turns.proofs.NotingLaws.{noting_from, values}
use Rattle.vault_turns.proofs.keeping.Keeping.commit.Given.{Over}
use Rattle.vault_turns.proofs.keeping.Keeping.commit.Goals as goal

disk_laws : (g : Over) → DiskLaws g.D.Disk
disk_laws g = record { earlier = g.met.D.Disk.earlier; now_counts = g.met.D.Disk.now_counts; now_only = g.met.D.Disk.now_only }

pub stored-answer-requires-clause-right : goal.stored-answer-requires-clause-right
stored-answer-requires-clause-right g c = λ payload has.
    subst (λ (t : Bool). IsRight t c.self.inside.archive.book payload c.args.looked) (sym c.self.invariant.0.told)
    (subst (λ (b : Book). IsRight (is_told (values c.self.inside.history.items)) b payload c.args.looked) (sym c.self.invariant.0.book)
    (subst (λ (kept : Guarded _). IsRight (is_told kept.history) (told_book kept.history) payload c.args.looked) (sym c.self.view_is)
    (c.requires.right payload has)))

pub invariant_of-self : goal.invariant_of-self
invariant_of-self g c = roomy g.D.Disk c.self.inside.archive c.self.inside.history.items c.reserve.new.self.items c.reserve.ensures.items c.self.invariant

pub invariant_of-self-2 : goal.invariant_of-self-2
invariant_of-self-2 g c =
    let store = c.stored-answer.ensures.stores in
    let noting = noting_from c.self.inside.history.items c.reserve.new.self.items (values c.note_store.new.history.items)
    (λ (added : List Noted). Notes c.args.by c.args.taken.now c.stored-answer.result.1 c.stored-answer.result.0 added)
    c.reserve.ensures.items c.note_store.ensures in
    let grows = (stored_goes_on true c.args.taken.now (told_of g.D.Disk c.self.inside.archive) (told_of g.D.Disk c.stored-answer.new.archive) c.stored-answer.result.0
    c.stored-answer.ensures.shows.consistent store.told).grows in
    let both = (all_committed g.D.Disk c.args.by c.args.taken.now (values c.self.inside.history.items) (values c.note_store.new.history.items)
    c.self.inside.archive c.stored-answer.new.archive c.stored-answer.result.0 c.stored-answer.result.1 c.self.invariant.0 c.self.invariant.1
    store c.stored-answer.ensures.began c.stored-answer.ensures.shows.consistent.sound noting).0 in (
      both.0,
      both.1,
      store_calm g.D.Disk (disk_laws g) (values c.self.inside.history.items) noting.added (values c.note_store.new.history.items) c.self.inside.archive
          c.stored-answer.new.archive c.self.invariant.0.begun noting.joined c.self.invariant.2 c.args.by c.args.taken.now c.stored-answer.result.1 grows
          c.stored-answer.result.0 noting.done store,
      stays_right g.D.Disk (values c.self.inside.history.items) noting.added (values c.note_store.new.history.items) c.self.inside.archive
          c.stored-answer.new.archive c.self.invariant.0.begun noting.joined grows store.told.crash.kept c.self.invariant.3,
      stays_stood g.D.Disk (values c.self.inside.history.items) noting.added (values c.note_store.new.history.items) c.self.inside.archive
          c.stored-answer.new.archive c.self.invariant.0.begun noting.joined
          (λ tells keeps. stored_behind g.D.Disk (disk_laws g) _ c.self.inside.archive c.stored-answer.new.archive c.args.taken.now tells keeps
          c.stored-answer.result.0 store) c.self.invariant.4,
    )

pub returns-clause-adds : goal.returns-clause-adds
returns-clause-adds g c =
    subst (λ (kept : Guarded _). Adds by_of c.args.by kept.history (values c.note_store.new.history.items)
    (λ added. Commits (is_told kept.history) (numbered kept.holdings.index) c.args.taken.now kept.history added c.stored-answer.result.0)) c.self.view_is
    (all_committed g.D.Disk c.args.by c.args.taken.now (values c.self.inside.history.items) (values c.note_store.new.history.items)
    c.self.inside.archive c.stored-answer.new.archive c.stored-answer.result.0 c.stored-answer.result.1 c.self.invariant.0 c.self.invariant.1
    c.stored-answer.ensures.stores c.stored-answer.ensures.began c.stored-answer.ensures.shows.consistent.sound
    (noting_from c.self.inside.history.items c.reserve.new.self.items (values c.note_store.new.history.items)
    (λ (added : List Noted). Notes c.args.by c.args.taken.now c.stored-answer.result.1 c.stored-answer.result.0 added)
    c.reserve.ensures.items c.note_store.ensures)).1

pub returns-clause-shows : goal.returns-clause-shows
returns-clause-shows g c =
    let more = (stored_goes_on true c.args.taken.now (told_of g.D.Disk c.self.inside.archive) (told_of g.D.Disk c.stored-answer.new.archive) c.stored-answer.result.0
    c.stored-answer.ensures.shows.consistent c.stored-answer.ensures.stores.told).shows in
    subst (λ (kept : Guarded _). KeepsShown kept.holdings c.stored-answer.new.archive) c.self.view_is
    (λ e has. subst (λ (l : List Facts). Contains l e) (sym more.joined) (Contains-append_left (numbered c.self.inside.archive.index) more.rest e has))
