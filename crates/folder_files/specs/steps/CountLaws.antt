-- Laws of counting.
use Rattle.std.proofs.Common.{◌≡◌, ◌≢◌, ◌<◌, ◌^◌, ℕ, zero, suc, List, [], ◌∷◌, ◌++◌, refl, sym, ap, ◌∙◌, subst, ⊎_elim, arith}
use Rattle.std.specs.Prelude.{Option, Some, None, max}
use Rattle.std.specs.List.{Contains}
use Rattle.std.specs.Str.{IsUtf8}
use Rattle.std.proofs.lemmas.List.Elements.{Contains-append_cases}
use Rattle.disk_model.specs.Image.{file_count}
use Rattle.disk_model.specs.declared.kind.Kind.{Kind}
use Rattle.disk_model.specs.declared.kind.Kind.TheVariants.{Warc, Cdxj}
use Rattle.folder_model.specs.Calls.{Lists}
use Rattle.folder_model.specs.Folder.{FolderPast, contents_of, IsUnfailed}
use Rattle.folder_model.specs.Known.{image_of, bytes_or_none}
use Rattle.folder_model.specs.steps.ReadingLaws.{image_of-count, image_of-file}
use Rattle.folder_files.specs.Counting.{AreBelow, HasNoMore, IsCounted, known_of}

-- the only name of a list of one
only_name : (one two : List ℕ) → Contains (one ∷ []) two → one ≡ two
only_name one two (zero, below, is) = is
only_name one two (suc k, below, is) = absurd (omega (arith, below))

-- one name more
pub one_below : (name : Kind → ℕ → List ℕ) (warc cdxj more_warc more_cdxj : ℕ) (given : List (List ℕ)) (new : List ℕ)
    → AreBelow name warc cdxj given
    → ((file : ℕ) → file < 2 ^ 32 → new ≡ name Warc file → file < more_warc)
    → ((file : ℕ) → file < 2 ^ 32 → new ≡ name Cdxj file → file < more_cdxj)
    → AreBelow name (max warc more_warc) (max cdxj more_cdxj) (given ++ new ∷ [])
one_below name warc cdxj more_warc more_cdxj given new below of_warc of_cdxj Warc file small has =
    ⊎_elim
    (λ (was : Contains given (name Warc file)). omega (arith, below Warc file small was))
    (λ (is : Contains (new ∷ []) (name Warc file)). omega (arith, of_warc file small (only_name new (name Warc file) is)))
    (Contains-append_cases given (new ∷ []) (name Warc file) has)
one_below name warc cdxj more_warc more_cdxj given new below of_warc of_cdxj Cdxj file small has =
    ⊎_elim
    (λ (was : Contains given (name Cdxj file)). omega (arith, below Cdxj file small was))
    (λ (is : Contains (new ∷ []) (name Cdxj file)). omega (arith, of_cdxj file small (only_name new (name Cdxj file) is)))
    (Contains-append_cases given (new ∷ []) (name Cdxj file) has)

not_none : (bytes : List ℕ) → Some bytes ≡ None → ⊥
not_none bytes same = cc

-- where a list has all names, no file is there whose number isn't below
pub no_more_listed : (name : Kind → ℕ → List ℕ) → ((kind : Kind) (file : ℕ) → file < 2 ^ 32 → IsUtf8 (name kind file))
    → (past : FolderPast) (warc cdxj : ℕ) (given : List (List ℕ))
    → AreBelow name warc cdxj given → Lists (contents_of past) [] given → HasNoMore name past warc cdxj
no_more_listed name text past warc cdxj given below lists kind file beyond small = none (contents_of past (name kind file)) refl
  where
    none : (found : Option (List ℕ)) → contents_of past (name kind file) ≡ found → found ≡ None
    none None is = refl
    none (Some bytes) is =
        let listed : Contains given (name kind file) =
        subst (λ (xs : List (List ℕ)). Contains xs (name kind file)) (sym lists.further)
        (lists.each (name kind file) (text kind file small) (λ lacks. absurd (not_none bytes (sym is ∙ lacks)))) in
        absurd (omega (arith, below kind file small listed, beyond))

-- a folder with each file below and none beyond is counted
pub is_counted : (name : Kind → ℕ → List ℕ) (past : FolderPast) (warc cdxj : ℕ) → warc < 2 ^ 32 → cdxj < 2 ^ 32
    → IsUnfailed past → HasNoMore name past warc cdxj
    → ((kind : Kind) (file : ℕ) → file < known_of warc cdxj kind → contents_of past (name kind file) ≢ None)
    → IsCounted name past warc cdxj
is_counted name past warc cdxj few fewer unfailed no_more there = record {
  unfailed = unfailed;
  image = image_of (λ kind file. contents_of past (name kind file)) (known_of warc cdxj);
  seen = record {
    few = λ kind. omega (arith, counted kind, small few fewer kind);
    there = λ kind file inside.
        let below : file < known_of warc cdxj kind = omega (arith, inside, counted kind) in
        some (contents_of past (name kind file)) (there kind file below)
        ∙ ap (λ (b : List ℕ). Some b) (sym (image_of-file (λ k f. contents_of past (name k f)) (known_of warc cdxj) kind file below));
    no_more = λ kind file outside in_range. no_more kind file (omega (arith, outside, counted kind)) in_range;
  };
  counts = counted;
  numbers = small few fewer;
}
  where
    counted : (kind : Kind) → file_count (image_of (λ k f. contents_of past (name k f)) (known_of warc cdxj)) kind ≡ known_of warc cdxj kind
    counted kind = image_of-count (λ k f. contents_of past (name k f)) (known_of warc cdxj) kind

    small : warc < 2 ^ 32 → cdxj < 2 ^ 32 → (kind : Kind) → known_of warc cdxj kind < 2 ^ 32
    small few fewer Warc = few
    small few fewer Cdxj = fewer

    some : (found : Option (List ℕ)) → found ≢ None → found ≡ Some (bytes_or_none found)
    some None is = absurd (is refl)
    some (Some bytes) is = refl

-- a folder that was counted by several calls, which left its past
pub counted_after : (name : Kind → ℕ → List ℕ) (first second third last : FolderPast) (warc cdxj : ℕ) → warc < 2 ^ 32 → cdxj < 2 ^ 32
    → IsUnfailed first → second ≡ first → third ≡ second → last ≡ third → HasNoMore name second warc cdxj
    → ((file : ℕ) → file < warc → contents_of third (name Warc file) ≢ None)
    → ((file : ℕ) → file < cdxj → contents_of last (name Cdxj file) ≢ None)
    → IsCounted name last warc cdxj
counted_after name first second third last warc cdxj few fewer unfailed one two three no_more of_warc of_cdxj =
    is_counted name last warc cdxj few fewer
    (subst IsUnfailed (sym (three ∙ two ∙ one)) unfailed)
    (subst (λ (p : FolderPast). HasNoMore name p warc cdxj) (sym (three ∙ two)) no_more)
    there
  where
    there : (kind : Kind) (file : ℕ) → file < known_of warc cdxj kind → contents_of last (name kind file) ≢ None
    there Warc file below = subst (λ (p : FolderPast). contents_of p (name Warc file) ≢ None) (sym three) (of_warc file below)
    there Cdxj file below = of_cdxj file below
