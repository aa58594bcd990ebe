use Rattle.std.proofs.Common.{◌≡◌, ◌+◌, ◌<◌, arith}
use Rattle.outside.specs.Calls.{one_more}
use Rattle.outside.proofs.Clocks.{length-first_answers, first_answers-next}
use Rattle.outside.proofs.memory.clock.MemoryClockClock.TheImpl.Goals as goal

pub now-tells : goal.now-tells
now-tells c =
    let list = c.args.self.now.list in
    let asked = c.args.self.now.asked in
    record {
      answers = λ tells short.
          let fewer : c.new.self.now.asked < 18446744073709551615 = rw (length-first_answers c.new.self.now.list c.new.self.now.asked) at short in
          let fewer_after : one_more asked < 18446744073709551615 = rw c.ensures.after at fewer in
          let next : one_more asked ≡ asked + 1 = omega arith in
          rw (c.ensures.after, c.ensures.value, next) (first_answers-next list asked);
      later = λ tells.
          rw (length-first_answers list asked, length-first_answers c.new.self.now.list c.new.self.now.asked) c.ensures.later;
    }
