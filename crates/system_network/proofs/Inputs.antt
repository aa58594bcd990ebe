-- Reads that gave nothing leave the input as it was, as far as that is known.
use Rattle.std.proofs.Common.{◌≡◌, ℕ, ◌+◌, ◌<◌, false, true, List, Option, None, Some, Result, Ok, Err, ◌∙◌, refl, sym, take, arith}
use Rattle.std.specs.Io.KnownBytes.{Keeps, Consumes}
use Rattle.std.proofs.KnownBytes.{Keeps-trans}
use Rattle.system_network.specs.Streams.{Input, Reads}

-- so many reads did, which one whose end was met before doesn't
pub record IsStill (many : ℕ) (was is : Input) : Type 0 where
  pub same : is.ended ≡ was.ended
  pub keeps : was.ended ≡ false → Keeps was.left is.left
  pub none : was.ended ≡ true → many ≡ 0
  pub stays : was.ended ≡ true → is ≡ was

no_failure : {A E : Type 0} (e : E) (result : Result ℕ E) → result ≡ Err e → result ≡ Ok 0 → A
no_failure e result failed came = absurd cc

-- one more was
pub still_on : {E : Type 0} (many : ℕ) (was mid is : Input) (e : E) (into : List ℕ) → IsStill many was mid → Reads mid is (Err e) into → IsStill (many + 1) was is
still_on many was mid is e into still reads = record {
  same = reads.same_end ∙ still.same;
  keeps = λ open_yet. Keeps-trans was.left mid.left is.left (still.keeps open_yet) (reads.bytes (still.same ∙ open_yet));
  none = λ ended. no_failure e (Err e) refl (reads.stays_ended (still.same ∙ ended)).0;
  stays = λ ended. no_failure e (Err e) refl (reads.stays_ended (still.same ∙ ended)).0;
}

kept_consumes : (a b c : Option (List ℕ)) (bs : List ℕ) → Keeps a b → Consumes b c bs → Consumes a c bs
kept_consumes None b c bs p q = tt
kept_consumes (Some x) None c bs p q = absurd p
kept_consumes (Some x) (Some y) None bs p q = absurd q
kept_consumes (Some x) (Some y) (Some z) bs p q = sym p ∙ q

-- a read behind them is one of the input as it was
pub reads_on : {E : Type 0} (many : ℕ) (was mid is : Input) (result : Result ℕ E) (into : List ℕ) → IsStill many was mid → Reads mid is result into → Reads was is result into
reads_on many was mid is (Ok n) into still reads = record {
  bytes = λ open_yet. (kept_consumes was.left mid.left is.left (take n into) (still.keeps open_yet) (reads.bytes (still.same ∙ open_yet)).0, (reads.bytes (still.same ∙ open_yet)).1);
  meets_end = reads.meets_end;
  stays_ended = λ ended. ((reads.stays_ended (still.same ∙ ended)).0, (reads.stays_ended (still.same ∙ ended)).1 ∙ still.stays ended);
  same_end = tt;
}
reads_on many was mid is (Err e) into still reads = record {
  bytes = λ open_yet. Keeps-trans was.left mid.left is.left (still.keeps open_yet) (reads.bytes (still.same ∙ open_yet));
  meets_end = tt;
  stays_ended = λ ended. no_failure e (Err e) refl (reads.stays_ended (still.same ∙ ended)).0;
  same_end = reads.same_end ∙ still.same;
}

-- where nothing has come till the end, that is what a read leaves which failed
pub still_fails : {E : Type 0} (many : ℕ) (was is : Input) (e : E) (into : List ℕ) → 0 < many → IsStill many was is → Reads was is (Err e) into
still_fails many was is e into some still = record {
  bytes = still.keeps;
  meets_end = tt;
  stays_ended = λ ended. absurd (omega (arith, some, still.none ended));
  same_end = still.same;
}
