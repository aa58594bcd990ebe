-- The names of the archive's files.
use Rattle.std.specs.Prelude.{ℕ, ◌-◌, List, ◌++◌, length, replicate, codes, decimal}
use Rattle.disk_model.specs.declared.kind.Kind.{Kind}
use Rattle.disk_model.specs.declared.kind.Kind.TheVariants.{Warc, Cdxj}

-- a number in six decimal digits or more, zeros before it
unfoldable pub six_digits : ℕ → List ℕ
six_digits number = replicate (6 - length (decimal number)) 48 ++ decimal number

-- the ending of a kind of files
abbrev pub ending_of : Kind → List ℕ
ending_of Warc = codes ".warc"
ending_of Cdxj = codes ".cdxj"

-- the name of a file in its folder
unfoldable pub name_of : Kind → ℕ → List ℕ
name_of kind number = codes "vol-" ++ six_digits number ++ ending_of kind
