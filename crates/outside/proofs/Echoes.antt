-- The answers of the origin that echoes, byte by byte.
use Rattle.std.proofs.Common.{◌≡◌, ℕ, List, [], ◌∷◌, ◌++◌, true, false, length, drop, refl, sym, ◌∙◌, arith, length-append}
use Rattle.std.proofs.lemmas.List.{append_assoc, drop_all, drop-append-le}
use Rattle.std.proofs.lemmas.List.Sums.{fold-append}
use Rattle.outside.specs.Echo.{Echoed, echoed, echo_byte, ends_head, answer}
use Rattle.outside.specs.EchoLink.{IsEcho}

-- nothing was taken yet
pub IsEcho-new : IsEcho [] [] [] 0
unfolding echoed
IsEcho-new = record { within = omega arith; begun = refl; answers = refl }

-- one byte more
echoed-next : (taken : List ℕ) (byte : ℕ) → echoed (taken ++ byte ∷ []) ≡ echo_byte (echoed taken) byte
unfolding echoed
echoed-next taken byte = fold-append echo_byte (record { begun = []; answers = [] }) taken (byte ∷ [])

-- a byte that ends the head
echo_byte-ends : (before : Echoed) (byte : ℕ) → ends_head before.begun byte ≡ true →
    echo_byte before byte ≡ record { begun = []; answers = before.answers ++ answer before.begun }
echo_byte-ends before byte ends = rw ends refl

-- a byte that the head goes on by
echo_byte-goes_on : (before : Echoed) (byte : ℕ) → ends_head before.begun byte ≡ false →
    echo_byte before byte ≡ record { begun = before.begun ++ byte ∷ []; answers = before.answers }
echo_byte-goes_on before byte goes_on = rw goes_on refl

-- the head that has begun is whole with this byte, and its answer was added
pub IsEcho-answered : (taken given left : List ℕ) (place byte : ℕ) → IsEcho taken given left place →
    ends_head (drop place taken) byte ≡ true →
    IsEcho (taken ++ byte ∷ []) given (left ++ answer (drop place taken)) (length (taken ++ byte ∷ []))
IsEcho-answered taken given left place byte echo ends =
    let next = echoed-next taken byte ∙ echo_byte-ends (echoed taken) byte (rw (← echo.begun) ends) in
    record {
      within = omega arith;
      begun = rw next (drop_all (length (taken ++ byte ∷ [])) (taken ++ byte ∷ []) (omega arith));
      answers = rw (next, ← echo.answers, ← echo.begun) (sym (append_assoc given left (answer (drop place taken))));
    }

-- the head that has begun goes on by this byte
pub IsEcho-goes_on : (taken given left : List ℕ) (place byte : ℕ) → IsEcho taken given left place →
    ends_head (drop place taken) byte ≡ false → IsEcho (taken ++ byte ∷ []) given left place
IsEcho-goes_on taken given left place byte echo goes_on =
    let next = echoed-next taken byte ∙ echo_byte-goes_on (echoed taken) byte (rw (← echo.begun) goes_on) in
    record {
      within = simp length-append (omega (arith, echo.within));
      begun = rw (next, ← echo.begun) (drop-append-le place taken (byte ∷ []) echo.within);
      answers = rw next echo.answers;
    }
