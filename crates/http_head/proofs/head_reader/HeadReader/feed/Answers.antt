use Rattle.std.proofs.Common.{length, ap, subst, arith, refl}
use Rattle.http_head.specs.HeadReading.{Reaches}
use Rattle.http_head.proofs.FeedLaws.{going_at, grown_within, fed_seek, fed_ends, fed_soonest, fed_whole}
use Rattle.http_head.proofs.head_reader.HeadReader.feed.Goals as goal

pub seek_end-found-requires : goal.seek_end-found-requires
seek_end-found-requires c = going_at _ _ _ c.self.invariant c.self.view_is c.requires.0

pub invariant_of-self-2 : goal.invariant_of-self-2
invariant_of-self-2 c =
    fed_seek _ _ c.self.inside.bytes.items c.split_at.result.0.now c.extend_from_slice.new.self.items
    c.seek_end-found.result.used c.self.invariant c.seek_end-found.ensures.seek
    (grown_within _ c.self.inside.bytes.items _ c.split_at-2.result.0.now c.args.piece.now c.split_at.result.0.now
    c.seek_end-found.result.used c.min.result c.in_ok-extend_from_slice.ensures.items refl
    c.split_at-2.ensures.front c.split_at.ensures.front c.seek_end-found.ensures.fits)

pub progress-requires : goal.progress-requires
progress-requires c =
    fed_ends _ c.self.inside.bytes.items c.split_at.result.0.now c.extend_from_slice.new.self.items
    c.seek_end-found.result.used c.self.invariant c.seek_end-found.ensures.fits c.seek_end-found.ensures.soonest
    (grown_within _ c.self.inside.bytes.items _ c.split_at-2.result.0.now c.args.piece.now c.split_at.result.0.now
    c.seek_end-found.result.used c.min.result c.in_ok-extend_from_slice.ensures.items refl
    c.split_at-2.ensures.front c.split_at.ensures.front c.seek_end-found.ensures.fits)

pub returns-clause-whole : goal.returns-clause-whole
returns-clause-whole c = λ more.
    fed_whole c.seek_end-found.result.seek c.args.self.now c.args.piece.now c.split_at.result.0.now
    c.extend_from_slice.new.self.items c.seek_end-found.result.used c.min.result
    (fed_seek _ _ c.self.inside.bytes.items c.split_at.result.0.now c.extend_from_slice.new.self.items
    c.seek_end-found.result.used c.self.invariant c.seek_end-found.ensures.seek
    (grown_within _ c.self.inside.bytes.items _ c.split_at-2.result.0.now c.args.piece.now c.split_at.result.0.now
    c.seek_end-found.result.used c.min.result c.in_ok-extend_from_slice.ensures.items refl
    c.split_at-2.ensures.front c.split_at.ensures.front c.seek_end-found.ensures.fits))
    (subst (λ p. Reaches p c.extend_from_slice.new.self.items) more c.progress.ensures)
    c.seek_end-found.ensures.whole c.split_at.ensures.front
    (grown_within _ c.self.inside.bytes.items c.args.self.now c.split_at-2.result.0.now c.args.piece.now
    c.split_at.result.0.now c.seek_end-found.result.used c.min.result c.in_ok-extend_from_slice.ensures.items
    c.self.view_is c.split_at-2.ensures.front c.split_at.ensures.front c.seek_end-found.ensures.fits)
    c.requires.1
    (omega (arith, c.min.ensures, ap length c.self.view_is))

pub returns-clause-soonest : goal.returns-clause-soonest
returns-clause-soonest c =
    fed_soonest _ c.self.inside.bytes.items c.args.piece.now c.split_at.result.0.now c.args.self.now
    c.seek_end-found.result.used c.min.result c.self.invariant c.self.view_is c.split_at.ensures.front
    c.seek_end-found.ensures.fits c.requires.1 (omega (arith, c.min.ensures, ap length c.self.view_is))
    c.seek_end-found.ensures.soonest
