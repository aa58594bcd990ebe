-- What was accepted was served by all members, or by the first one at last.
use Rattle.std.proofs.Common.{◌<◌, ◌&&◌, drop, length, map, refl, ap, arith}
use Rattle.crew.specs.steps.Working.{desk_of, door_of}
use Rattle.crew.proofs.CrewLaws.{as_many, first_is, first_set, still_out, works_all, works_none}
use Rattle.crew.proofs.crew.work.Goals as goal

pub index_mut-requires : goal.index_mut-requires
index_mut-requires g c =
    let s = c.in-Ok.ensures.served in
    omega (arith, c.requires.some, c.args.members.ok.0, c.in-Ok.served.workers.ok.0, as_many _ _ c.args.members.items c.in-Ok.served.workers.items s.shifts s.served)

pub finish-requires : goal.finish-requires
finish-requires g c =
    let s = c.in-Ok.ensures.served in
    let some : 0 < length c.in-Ok.served.workers.items =
    omega (arith, c.requires.some, c.args.members.ok.0, as_many _ _ c.args.members.items c.in-Ok.served.workers.items s.shifts s.served) in
    λ t.
    still_out g.S.Finder.alone g.S.Finder.told g.C.Clock.tells g.G.Gate.kept (g.G.Link.Link.tells && g.N.Link.Link.tells) g.G.Link.Link.tells (λ a. door_of g.G.Gate a.gate a.status) (desk_of g.N.Dialer g.C.Clock) _ _ _
    (λ a b answer t. t) (λ a b r. r) (λ a b l r. r) _ c.in-Ok.served.acceptor _ c.in-Ok.served.workers.items c.index_mut.result.now
    (drop 1 c.in-Ok.served.workers.items) _ _ s (first_is c.in-Ok.served.workers.items _ _ some c.index_mut.ensures.value) c.requires.none refl t

pub returns-in-Ok-clause-works : goal.returns-in-Ok-clause-works
returns-in-Ok-clause-works g c =
    let s = c.in-Ok.ensures.served in
    let some : 0 < length c.in-Ok.served.workers.items =
    omega (arith, c.requires.some, c.args.members.ok.0, as_many _ _ c.args.members.items c.in-Ok.served.workers.items s.shifts s.served) in
    works_all g.S.Finder.alone g.S.Finder.told g.C.Clock.tells g.G.Gate.kept _ g.G.Link.Link.tells (λ a. door_of g.G.Gate a.gate a.status) (desk_of g.N.Dialer g.C.Clock) _ _ _
    (λ a b answer t. t) (λ a b r. r) (λ a b l r. r) _ c.in-Ok.served.acceptor _ _ c.in-Ok.served.workers.items _ c.index_mut.result.now c.finish.new.member
    (drop 1 c.in-Ok.served.workers.items) _ _ s (first_is c.in-Ok.served.workers.items _ _ some c.index_mut.ensures.value)
    (first_set c.in-Ok.served.workers.items c.finish.new.member some) c.requires.none c.finish.ensures refl

pub returns-in-Ok-clause-count : goal.returns-in-Ok-clause-count
returns-in-Ok-clause-count g c =
    let s = c.in-Ok.ensures.served in
    omega (arith, c.args.members.ok.0, c.in-Ok.served.workers.ok.0, as_many _ _ c.args.members.items c.in-Ok.served.workers.items s.shifts s.served)

pub returns-in-Err-clause-works : goal.returns-in-Err-clause-works
returns-in-Err-clause-works g c =
    let e = c.in-Err.ensures.unserved in
    works_none g.S.Finder.alone g.S.Finder.told g.C.Clock.tells g.G.Gate.kept _ _ _ _ _ _ c.requires.none (ap (λ a. door_of g.G.Gate a.gate a.status) e.0) refl (ap (λ ws. map (desk_of g.N.Dialer g.C.Clock) ws) e.1)
