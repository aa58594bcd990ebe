-- An accepted target begins with `http://`, and it is ASCII, as its URL's host is.
use Rattle.exchange.proofs.AimLemmas.{http_room, IsAscii-host_of, IsAscii-after_authority}
use Rattle.exchange.proofs.aiming.aim_of_url.Goals as goal

pub after_authority-rest-requires : goal.after_authority-rest-requires
after_authority-rest-requires c = http_room c.args.target.now c.requires.accepted.form

pub ascii_text-requires : goal.ascii_text-requires
ascii_text-requires c =
    IsAscii-after_authority c.args.target.now c.after_authority-rest.result.now c.after_authority-rest.ensures c.requires.ascii

pub from_str-requires : goal.from_str-requires
from_str-requires c = rw c.host_of-host.ensures (IsAscii-host_of c.args.url.now c.port.ensures.valid)

pub origin_form-requires : goal.origin_form-requires
origin_form-requires c =
    IsAscii-after_authority c.args.target.now c.after_authority-rest.result.now c.after_authority-rest.ensures c.requires.ascii
