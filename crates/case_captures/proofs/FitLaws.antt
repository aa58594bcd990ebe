-- A request that was forwarded and a response that was read are stored as they are.
use Rattle.std.proofs.Common.{◌≡◌, ℕ, ◌≤◌, ◌^◌, List, length, arith}
use Rattle.exchange.specs.Storing.{CanBeForwarded}
use Rattle.http_wire.specs.Storing.{CanBeStored}
use Rattle.exchange.specs.Texts.{forwarded}
use Rattle.exchange.specs.declared.aim.Target.{Target}
use Rattle.http_head.specs.declared.head.Received.{Received}
use Rattle.http_head.specs.declared.head.RequestMessage.{RequestMessage}
use Rattle.time_text.specs.Texts.{InRange}
use Rattle.warc_text.specs.Fits.{Fits}

pub fits_by : (message : RequestMessage) (target : Target) (response : Received) (date : ℕ) (method uri request head wire : List ℕ)
    → CanBeForwarded message target → CanBeStored response message.head.method → InRange date → length response.wire ≤ 2 ^ 40
    → method ≡ message.head.method → uri ≡ target.uri → request ≡ forwarded message target → head ≡ response.head.text → wire ≡ response.wire
    → Fits (record { method = method; uri = uri; date = date; request = request; head = head; wire = wire; cut = response.cut })
fits_by message target response date method uri request head wire sends gets range few m u r h w = record {
  well_formed = record {
    target = rw u sends.accepted;
    request = rw m (rw r sends.whole);
    response = rw m (rw h (rw w gets.responds));
  };
  date = range;
  short = record {
    uri = rw u (omega (arith, sends.short_uri));
    head = rw h (omega (arith, gets.short));
    wire = rw w (omega (arith, few));
    request = rw r sends.short;
  };
}
