use Rattle.cdxj_line.proofs.shown.numbers_of.Goals as goal

pub returns-in_err-volume_of-clause-found : goal.returns-in_err-volume_of-clause-found
returns-in_err-volume_of-clause-found c = λ line is shows.
    let none = c.in_err-volume_of.ensures.found line.volume is.typed.volume shows.filename in
    absurd (cc)

pub returns-in_err-number_of-clause-found : goal.returns-in_err-number_of-clause-found
returns-in_err-number_of-clause-found c = λ line is shows.
    let none = c.in_err-number_of.ensures.found line.length is.typed.length shows.length in
    absurd (cc)

pub returns-in_err-small_number_of-clause-found : goal.returns-in_err-small_number_of-clause-found
returns-in_err-small_number_of-clause-found c = λ line is shows.
    let none = c.in_err-small_number_of.ensures.found line.number is.typed.number shows.number in
    absurd (cc)

pub returns-in_err-number_of-2-clause-found : goal.returns-in_err-number_of-2-clause-found
returns-in_err-number_of-2-clause-found c = λ line is shows.
    let none = c.in_err-number_of-2.ensures.found line.offset is.typed.offset shows.offset in
    absurd (cc)

pub returns-in_err-status_of-clause-found : goal.returns-in_err-status_of-clause-found
returns-in_err-status_of-clause-found c = λ line is shows.
    let none = c.in_err-status_of.ensures.found line.status is.writable.status_from is.writable.status_to shows.status in
    absurd (cc)

pub returns-clause-found : goal.returns-clause-found
returns-clause-found c = λ line is shows.
    record {
      volume = cc (c.in_ok-volume_of.ensures.found line.volume is.typed.volume shows.filename);
      length = cc (c.in_ok-number_of.ensures.found line.length is.typed.length shows.length);
      number = cc (c.in_ok-small_number_of.ensures.found line.number is.typed.number shows.number);
      offset = cc (c.in_ok-number_of-2.ensures.found line.offset is.typed.offset shows.offset);
      status = cc (c.in_ok-status_of.ensures.found line.status is.writable.status_from is.writable.status_to shows.status);
    }

pub returns-clause-some : goal.returns-clause-some
returns-clause-some c =
    record {
      volume = c.in_ok-volume_of.ensures.some;
      length = c.in_ok-number_of.ensures.some;
      number = c.in_ok-small_number_of.ensures.some;
      offset = c.in_ok-number_of-2.ensures.some;
      status = c.in_ok-status_of.ensures.some;
    }
