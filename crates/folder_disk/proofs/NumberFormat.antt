-- The format of a file's number.
use Rattle.std.proofs.Common.{◌≡◌, ℕ, [], false, arith, ◌^◌, ◌-◌}
use Rattle.std.proofs.lemmas.List.{append-nil}
use Rattle.std.specs.Fmt.{padded_integral, format_spec, decimal, char_count}
use Rattle.folder_disk.specs.NameTexts.{six_digits}

pub padded_to_six : (number : ℕ) → padded_integral (format_spec 32 0 4 6 (2 ^ 64 - 1)) false [] (decimal number) ≡ six_digits number
unfolding padded_integral char_count six_digits
padded_to_six number = grind (arith, append-nil)
