-- Where there is no memory nobody served; else those come back who went.
use denote.Ref.{NamedLft}
use denote.Param.Send.{sendable}
use Rattle.std.proofs.Crossing.{crosses}
use Rattle.std.proofs.Common.{◌≡◌, ◌≤◌, ◌∙◌, false, List, drop, length, map, vec_len, refl, sym, ap, subst, arith}
use Rattle.std.specs.List.{All}
use Rattle.vault.specs.Company.{Passing, told_at}
use Rattle.vault.specs.Members.{IsMember}
use Rattle.vault_turns.specs.Own.{own_captures}
use Rattle.vault.proofs.Moving.{at_send}
use Rattle.crew.proofs.CrewSums.{serves_none}
use Rattle.proxy_run.proofs.SeatLaws.{same_numbers}
use Rattle.proxy_run.proofs.VaultSeats.{members_again, members_of, number_of}
use Rattle.proxy_run.proofs.seating.serve_by.Goals as goal

pub returns-in_default-clause-serves : goal.returns-in_default-clause-serves
returns-in_default-clause-serves g c = λ t u.
    serves_none false told_at g.C.Clock.tells g.G.Gate.kept g.G.Link.Link.tells c.args.site.now _ _ _ _ refl refl

pub returns-in_default-with_capacity-clause-serves : goal.returns-in_default-with_capacity-clause-serves
returns-in_default-with_capacity-clause-serves g c = λ t u.
    serves_none false told_at g.C.Clock.tells g.G.Gate.kept g.G.Link.Link.tells c.args.site.now _ _ _ _ refl refl

pub seat_all-requires-clause-members : goal.seat_all-requires-clause-members
seat_all-requires-clause-members g c =
    subst (λ (l : List Passing). All (λ (p : Passing). IsMember g.J.Naming.vault p.known) l) (sym (ap (λ v. v.items) c.replace-seats.ensures.value))
    (members_of g.J.Naming.vault c.args.passes.now.items c.requires.members)

pub serve_crew-shift-requires-send-S : goal.serve_crew-shift-requires-send-S
serve_crew-shift-requires-send-S g c κs within =
    let a = λ (κ : NamedLft). at_send κ _ _ _ g.D.Disk g.J.Naming c.type_bounds.sync-R c.type_bounds.send-D c.type_bounds.send-J in
    search (sendable, crosses, a) depth 20

pub returns-clause-same_others : goal.returns-clause-same_others
returns-clause-same_others g c =
    let seats : length c.seat_all.new.shelves.items ≡ length c.args.passes.now.items =
    ap (λ (l : List Passing). length l) c.seat_all.ensures ∙ ap (λ v. length v.items) c.replace-seats.ensures.value in
    let same : vec_len c.seat_all.new.shelves ≡ vec_len c.args.passes.now = omega (arith, seats, c.seat_all.new.shelves.ok.0, c.args.passes.now.ok.0) in
    subst (λ n. drop n c.serve_crew-shift.new.crew.items ≡ drop n c.args.crew.now.items) same c.serve_crew-shift.ensures.same_others

pub returns-clause-members : goal.returns-clause-members
returns-clause-members g c =
    let first : c.seat_all.new.shelves.items ≡ c.args.passes.now.items = c.seat_all.ensures ∙ ap (λ v. v.items) c.replace-seats.ensures.value in
    let many = ap (λ (l : List Passing). length l) first in
    let few : length c.seat_all.new.shelves.items ≤ length c.args.crew.now.items =
    omega (arith, many, c.requires.few, c.args.passes.now.ok.0, c.args.crew.now.ok.0) in
    let back : length c.serve_crew-shift.result.shelves.items ≡ length c.seat_all.new.shelves.items =
    omega (arith, c.serve_crew-shift.ensures.same_count, c.serve_crew-shift.result.shelves.ok.0, c.seat_all.new.shelves.ok.0) in
    let numbers : map number_of c.serve_crew-shift.result.shelves.items ≡ map number_of c.seat_all.new.shelves.items =
    same_numbers g.N.Dialer g.C.Clock false told_at number_of (λ (p : Passing). own_captures p.known.numbers p.known.seen) (λ p. refl)
    c.seat_all.new.shelves.items c.serve_crew-shift.result.shelves.items c.args.crew.now.items c.serve_crew-shift.new.crew.items few back c.serve_crew-shift.ensures.go_on in
    members_again g.J.Naming.vault c.args.passes.now.items c.stand_up.new.passes.items c.requires.members c.stand_up.ensures.members
    (ap (λ (l : List Passing). map number_of l) c.stand_up.ensures.same ∙ (numbers ∙ ap (λ (l : List Passing). map number_of l) first))
