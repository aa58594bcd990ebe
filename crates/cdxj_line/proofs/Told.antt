-- A media type is of ASCII.
use Rattle.std.proofs.Common.{◌≡◌, ℕ, ◌<◌, true, not, ◌==◌, List, length, IsAscii, arith, codes}
use Rattle.std.specs.Prelude.{bytes_eq}
use Rattle.std.specs.Char.{is_ascii_graphic}
use Rattle.std.specs.List.{list_all}
use Rattle.std.proofs.lemmas.Bool.{and_parts}
use Rattle.std.proofs.lemmas.List.Elements.{All-weaker}
use Rattle.std.proofs.lemmas.List.Sums.{AllPass-from_list_all}
use Rattle.std.proofs.lemmas.Str.Ascii.{IsAscii-from_all}
use Rattle.cdxj_line.specs.MediaType.{is_told}

graphic_below : (b : ℕ) → is_ascii_graphic b ≡ true → b < 128
graphic_below b graphic = grind arith

pub told_ascii : (text : List ℕ) → is_told text ≡ true → IsAscii text
told_ascii text told =
    let some_graphic = (and_parts _ (not (bytes_eq text (codes "warc/revisit"))) told).0 in
    let graphic = (and_parts (not (length text == 0)) (list_all is_ascii_graphic text) some_graphic).1 in
    IsAscii-from_all text (All-weaker (λ b. is_ascii_graphic b ≡ true) (λ b. b < 128) graphic_below text (AllPass-from_list_all is_ascii_graphic text graphic))
