-- The source was followed, or there was no memory to ask it.
use Rattle.following.proofs.FollowsLaws.{unasked}
use Rattle.following.proofs.following.follow_site.Goals as goal

pub returns-in-Err : goal.returns-in-Err
returns-in-Err g c = unasked g.D.Disk g.N.Dialer g.O.Sink g.N.Link.Link.tells _ c.args.archive.now _ c.args.out.now

pub returns-in-Err-new : goal.returns-in-Err-new
returns-in-Err-new g c = unasked g.D.Disk g.N.Dialer g.O.Sink g.N.Link.Link.tells _ c.args.archive.now _ c.args.out.now
