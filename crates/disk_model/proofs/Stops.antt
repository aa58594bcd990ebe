-- What a stop leaves is one of the images that a crash may leave.
use Rattle.std.proofs.Common.{◌≡◌, ◌<◌, ◌≤◌, ◌+◌, ◌-◌, ℕ, zero, suc, Bool, true, false, not, ◌||◌, ◌&&◌, nat_le, List, [], ◌∷◌, ◌++◌, length, take, refl, sym, ap, ◌∙◌, subst, arith, inl, ⊎_elim, length-append, length-take}
use Rattle.std.specs.List.{list_any}
use Rattle.std.proofs.lemmas.Bool.{cases_lt, cases_eq, eq-eqb, eqb-true, le-leb, leb-true, leb-false}
use Rattle.disk_model.specs.Image.{Image, IsApart, file_count, file_of, with_file, with_new, written}
use Rattle.disk_model.specs.steps.ImageLaws.{file_of-with_file, file_count-with_file, file_count-with_new, file_count-with_new_kind, with_file_past, with_file-file_of, same_or_apart, same_kind_or_other, others_stay, bytes_stay}
use Rattle.disk_model.specs.Crash.{Torn, Cut}
use Rattle.disk_model.specs.steps.CrashLaws.{torn_none, torn_written, cut_none, cut_done, on_file_none}
use Rattle.disk_model.specs.Changes.{done, replayed, left_by, left_after, may_leave, is_kind, is_sync_of, keeps_file, is_pending, durable_changes, torn_changes, stopped_changes}
use Rattle.disk_model.specs.steps.ChangesLaws.{replayed_is_left, on_if, fewer-with_new, fewer-half, half_bytes, half_may_create, half_past, half_count, half_count_kind, half_grows}
use Rattle.disk_model.specs.declared.kind.Kind.{Kind}
use Rattle.disk_model.specs.declared.kind.Kind.TheVariants.{Warc, Cdxj}
use Rattle.disk_model.specs.declared.change.Change.{Change}
use Rattle.disk_model.specs.declared.change.Change.TheVariants.{Wrote, Shortened, Made, HalfMade, Synced}

-- a change of the bytes of one file by what they are
changed_alike : (one two : Image) (kind : Kind) (file : ℕ) (f : List ℕ → List ℕ) (k : Kind) (n : ℕ) → file_count one k ≤ file_count two k → (n < file_count two k → n < file_count one k) → file_of one k n ≡ file_of two k n
    → file_of (with_file one kind file (f (file_of one kind file))) k n ≡ file_of (with_file two kind file (f (file_of two kind file))) k n
changed_alike one two kind file f k n fewer inside same =
    ⊎_elim
    (λ here. ⊎_elim
    (λ there.
    let too : file < file_count one kind = omega (arith, here.1, ap (λ (kk : Kind). file_count one kk) here.0, inside (omega (arith, there, here.1, ap (λ (kk : Kind). file_count two kk) here.0))) in
    subst (λ (kk : Kind). file_of (with_file one kind file (f (file_of one kind file))) kk n ≡ file_of (with_file two kind file (f (file_of two kind file))) kk n) (sym here.0)
    (subst (λ (m : ℕ). file_of (with_file one kind file (f (file_of one kind file))) kind m ≡ file_of (with_file two kind file (f (file_of two kind file))) kind m) (sym here.1)
    (file_of-with_file one kind file (f (file_of one kind file)) too
    ∙ ap f ((λ i. file_of one (sym here.0 i) (sym here.1 i)) ∙ same ∙ (λ i. file_of two (here.0 i) (here.1 i)))
    ∙ sym (file_of-with_file two kind file (f (file_of two kind file)) there))))
    (λ past.
    ap (λ (i : Image). file_of i k n) (with_file_past one kind file (f (file_of one kind file)) (omega (arith, past, fewer, ap (λ (kk : Kind). file_count one kk) here.0, ap (λ (kk : Kind). file_count two kk) here.0)))
    ∙ same
    ∙ sym (ap (λ (i : Image). file_of i k n) (with_file_past two kind file (f (file_of two kind file)) past)))
    (cases_lt file (file_count two kind)))
    (λ apart. others_stay one kind file (f (file_of one kind file)) k n apart ∙ same ∙ sym (others_stay two kind file (f (file_of two kind file)) k n apart))
    (same_or_apart kind file k n)

-- a change made of two images with the same file leaves the same file
done_alike : (change : Change) (one two : Image) (k : Kind) (n : ℕ) → file_count one k ≤ file_count two k → (n < file_count two k → n < file_count one k) → file_of one k n ≡ file_of two k n
    → file_of (done change one) k n ≡ file_of (done change two) k n
done_alike (Wrote kind file at bytes) one two k n fewer inside same = changed_alike one two kind file (λ (old : List ℕ). written old at bytes) k n fewer inside same
done_alike (Shortened kind file len) one two k n fewer inside same = changed_alike one two kind file (λ (old : List ℕ). take len old) k n fewer inside same
done_alike (Made kind) one two k n fewer inside same = bytes_stay one kind k n ∙ same ∙ sym (bytes_stay two kind k n)
done_alike (HalfMade kind file) one two k n fewer inside same = half_bytes one kind file k n ∙ same ∙ sym (half_bytes two kind file k n)
done_alike (Synced kind file) one two k n fewer inside same = same

done_fewer : (change : Change) (one two : Image) (k : Kind) → file_count one k ≤ file_count two k → file_count (done change one) k ≤ file_count (done change two) k
done_fewer (Wrote kind file at bytes) one two k fewer = omega (arith, fewer, file_count-with_file one kind file (written (file_of one kind file) at bytes) k, file_count-with_file two kind file (written (file_of two kind file) at bytes) k)
done_fewer (Shortened kind file len) one two k fewer = omega (arith, fewer, file_count-with_file one kind file (take len (file_of one kind file)) k, file_count-with_file two kind file (take len (file_of two kind file)) k)
done_fewer (Made kind) one two k fewer = fewer-with_new one two kind k fewer
done_fewer (HalfMade kind file) one two k fewer = fewer-half one two kind file k fewer
done_fewer (Synced kind file) one two k fewer = fewer

-- the files that are synced later hold the same in both
abbrev Agree : List Change → Image → Image → Type 0
Agree changes image reading = (k : Kind) (n : ℕ) → list_any (is_sync_of k n) changes ≡ true → file_of image k n ≡ file_of reading k n

-- the files of the reading that these changes keep are in the image
abbrev Keeps : List Change → Image → Image → Type 0
Keeps changes image reading = (k : Kind) (n : ℕ) → list_any (keeps_file k n) changes ≡ true → n < file_count reading k → n < file_count image k

-- how an image that a stop leaves so far lies beside the reading, by the changes that follow
record Fits (changes : List Change) (image reading : Image) : Type 0 where
  fewer : (k : Kind) → file_count image k ≤ file_count reading k
  keeps : Keeps changes image reading
  agree : Agree changes image reading

or_right : (a b : Bool) → b ≡ true → (a || b) ≡ true
or_right true b is = refl
or_right false b is = is

or_weaker : (a b c d : Bool) → (a ≡ true → c ≡ true) → (b ≡ true → d ≡ true) → (a || b) ≡ true → (c || d) ≡ true
or_weaker true b c d first rest is = ap (λ (x : Bool). x || d) (first refl)
or_weaker false b c d first rest is = or_right c d (rest is)

any_weaker : (p q : Change → Bool) (changes : List Change) → ((change : Change) → p change ≡ true → q change ≡ true) → list_any p changes ≡ true → list_any q changes ≡ true
any_weaker p q [] weaker is = is
any_weaker p q (c ∷ changes) weaker is = or_weaker (p c) (list_any p changes) (q c) (list_any q changes) (weaker c) (any_weaker p q changes weaker) is

and_weaker : (a b c : Bool) → (b ≡ true → c ≡ true) → (a && b) ≡ true → (a && c) ≡ true
and_weaker true b c weaker is = weaker is
and_weaker false b c weaker is = is

-- a sync of a file keeps it
sync_keeps : (k : Kind) (n : ℕ) (change : Change) → is_sync_of k n change ≡ true → keeps_file k n change ≡ true
sync_keeps k n (Wrote kind file at bytes) is = is
sync_keeps k n (Shortened kind file len) is = is
sync_keeps k n (Made kind) is = absurd (cc)
sync_keeps k n (HalfMade kind file) is = is
sync_keeps k n (Synced kind file) is = and_weaker (is_kind k kind) _ _ (λ same. le-leb n file (omega (arith, eqb-true n file same))) is

-- what keeps a file keeps the one before it
keeps_before : (k : Kind) (n m : ℕ) → m ≤ n → (change : Change) → keeps_file k n change ≡ true → keeps_file k m change ≡ true
keeps_before k n m le (Wrote kind file at bytes) is = is
keeps_before k n m le (Shortened kind file len) is = is
keeps_before k n m le (Made kind) is = is
keeps_before k n m le (HalfMade kind file) is = is
keeps_before k n m le (Synced kind file) is = and_weaker (is_kind k kind) _ _ (λ same. le-leb m file (omega (arith, le, leb-true n file same))) is

is_kind-same : (kind : Kind) → is_kind kind kind ≡ true
is_kind-same Warc = refl
is_kind-same Cdxj = refl

-- before a file is made, the image has all that the reading has of the kind
all_there : (kind : Kind) (later : List Change) (image reading : Image) → Fits (Made kind ∷ later) image reading → file_count image kind ≡ file_count reading kind
all_there kind later image reading fits =
    ⊎_elim
    (λ some. omega (arith, fits.fewer kind, some, fits.keeps kind (file_count reading kind - 1) (ap (λ (b : Bool). b || list_any (keeps_file kind (file_count reading kind - 1)) later) (is_kind-same kind)) (omega (arith, some))))
    (λ none. omega (arith, fits.fewer kind, none))
    (cases_lt 0 (file_count reading kind))

no_less : (n : ℕ) → n < n → ⊥
no_less n less = omega (arith, less)

-- the files that are kept later are in both once a file is half made in both
half_keeps : (kind : Kind) (file : ℕ) (later : List Change) (image reading : Image) → ((k : Kind) → file_count image k ≤ file_count reading k) → Keeps later image reading
    → Keeps later (done (HalfMade kind file) image) (done (HalfMade kind file) reading)
half_keeps kind file later image reading fewer keeps k n kept inside =
    ⊎_elim
    (λ old. omega (arith, keeps k n kept old, half_grows image kind file k))
    (λ past. ⊎_elim
    (λ same. subst (λ (kk : Kind). n < file_count (done (HalfMade kind file) image) kk) (sym same)
    (next (subst (λ (kk : Kind). list_any (keeps_file kk n) later ≡ true) same kept) (subst (λ (kk : Kind). n < file_count (done (HalfMade kind file) reading) kk) same inside)
    (subst (λ (kk : Kind). file_count reading kk ≤ n) same past)))
    (λ apart. absurd (no_less n (omega (arith, inside, half_count_kind reading kind file k apart, past))))
    (same_kind_or_other k kind))
    (cases_lt n (file_count reading k))
  where
    next : list_any (keeps_file kind n) later ≡ true → n < file_count (done (HalfMade kind file) reading) kind → file_count reading kind ≤ n → n < file_count (done (HalfMade kind file) image) kind
    next kept inside past =
        ⊎_elim
        (λ due.
        let number : n ≡ file = omega (arith, due, inside, half_count reading kind file due, past) in
        let all : file ≡ file_count image kind =
        ⊎_elim
        (λ some. omega (arith, due, some, number, fewer kind, keeps kind (file - 1) (any_weaker (keeps_file kind n) (keeps_file kind (file - 1)) later (keeps_before kind n (file - 1) (omega (arith, number))) kept) (omega (arith, due, some))))
        (λ none. omega (arith, due, none, fewer kind))
        (cases_lt 0 file) in
        omega (arith, number, all, half_count image kind file all))
        (λ other. absurd (no_less n (omega (arith, inside, past, ap (λ (i : Image). file_count i kind) (half_past reading kind file other)))))
        (cases_eq file (file_count reading kind))

both_keep : (change : Change) (later : List Change) (image reading : Image) → Fits (change ∷ later) image reading → Keeps later (done change image) (done change reading)
both_keep (Wrote kind file at bytes) later image reading fits k n kept inside =
    omega (arith, file_count-with_file image kind file (written (file_of image kind file) at bytes) k, fits.keeps k n kept (omega (arith, inside, file_count-with_file reading kind file (written (file_of reading kind file) at bytes) k)))
both_keep (Shortened kind file len) later image reading fits k n kept inside =
    omega (arith, file_count-with_file image kind file (take len (file_of image kind file)) k, fits.keeps k n kept (omega (arith, inside, file_count-with_file reading kind file (take len (file_of reading kind file)) k)))
both_keep (Made kind) later image reading fits k n kept inside =
    ⊎_elim
    (λ same. subst (λ (kk : Kind). n < file_count (with_new image kind) kk) (sym same)
    (omega (arith, subst (λ (kk : Kind). n < file_count (with_new reading kind) kk) same inside, file_count-with_new reading kind, file_count-with_new image kind, all_there kind later image reading fits)))
    (λ apart. omega (arith, file_count-with_new_kind image kind k apart, fits.keeps k n (or_right (is_kind k kind) (list_any (keeps_file k n) later) kept) (omega (arith, inside, file_count-with_new_kind reading kind k apart))))
    (same_kind_or_other k kind)
both_keep (HalfMade kind file) later image reading fits k n kept inside = half_keeps kind file later image reading fits.fewer fits.keeps k n kept inside
both_keep (Synced kind file) later image reading fits k n kept inside = fits.keeps k n (or_right (keeps_file k n (Synced kind file)) (list_any (keeps_file k n) later) kept) inside

-- what is made in both
both_fit : (change : Change) (later : List Change) (image reading : Image) → Fits (change ∷ later) image reading → Fits later (done change image) (done change reading)
both_fit change later image reading fits = record {
  fewer = λ k. done_fewer change image reading k (fits.fewer k);
  keeps = both_keep change later image reading fits;
  agree = λ k n synced.
      let too = or_right (is_sync_of k n change) (list_any (is_sync_of k n) later) synced in
      done_alike change image reading k n (fits.fewer k) (fits.keeps k n (any_weaker (is_sync_of k n) (keeps_file k n) (change ∷ later) (sync_keeps k n) too)) (fits.agree k n too);
}

-- a file that isn't synced later is none of those that are
pending_apart : (kind : Kind) (file : ℕ) (k : Kind) (n : ℕ) (later : List Change) → not (list_any (is_sync_of kind file) later) ≡ true → list_any (is_sync_of k n) later ≡ true → IsApart kind file k n
pending_apart kind file k n later pending synced =
    ⊎_elim
    (λ same.
    let here : list_any (is_sync_of kind file) later ≡ true = (λ i. list_any (is_sync_of (sym same.0 i) (sym same.1 i)) later) ∙ synced in
    let no : false ≡ true = sym (ap not here) ∙ pending in
    absurd (cc))
    (λ apart. apart)
    (same_or_apart kind file k n)

-- what is done to the bytes of a pending file is of no account
pending_fits : (kind : Kind) (file : ℕ) (later : List Change) (image reading : Image) (one two : List ℕ) → not (list_any (is_sync_of kind file) later) ≡ true
    → ((k : Kind) → file_count image k ≤ file_count reading k) → Keeps later image reading → Agree later image reading
    → Fits later (with_file image kind file one) (with_file reading kind file two)
pending_fits kind file later image reading one two pending fewer keeps agree = record {
  fewer = λ k. omega (arith, fewer k, file_count-with_file image kind file one k, file_count-with_file reading kind file two k);
  keeps = λ k n kept inside. omega (arith, file_count-with_file image kind file one k, keeps k n kept (omega (arith, inside, file_count-with_file reading kind file two k)));
  agree = λ k n synced.
      let apart = pending_apart kind file k n later pending synced in
      others_stay image kind file one k n apart ∙ agree k n synced ∙ sym (others_stay reading kind file two k n apart);
}

-- of the same bytes nothing is changed
skipped_write : (kind : Kind) (file : ℕ) (later : List Change) (image reading : Image) (two : List ℕ) → not (list_any (is_sync_of kind file) later) ≡ true
    → ((k : Kind) → file_count image k ≤ file_count reading k) → Keeps later image reading → Agree later image reading
    → Fits later image (with_file reading kind file two)
skipped_write kind file later image reading two pending fewer keeps agree =
    subst (λ (i : Image). Fits later i (with_file reading kind file two)) (with_file-file_of image kind file)
    (pending_fits kind file later image reading (file_of image kind file) two pending fewer keeps agree)

-- a change that isn't made is one of what a crash may leave of it
skipped : (change : Change) (later : List Change) (image reading : Image) (images : Image → Type 0) → is_pending change later ≡ true → images image → left_by change reading images image
skipped (Wrote kind file at bytes) later image reading images pending is = (image, is, on_file_none kind file (Torn at (length bytes)) image (torn_none at (length bytes) _))
skipped (Shortened kind file len) later image reading images pending is = (image, is, on_file_none kind file (Cut len) image (cut_none len _))
skipped (Made kind) later image reading images pending is = absurd (cc)
skipped (HalfMade kind file) later image reading images pending is = (image, is, inl refl)
skipped (Synced kind file) later image reading images pending is = absurd (cc)

-- a file that was half made and isn't kept may be missing
skipped_keeps : (kind : Kind) (file : ℕ) (later : List Change) (image reading : Image) → not (list_any (keeps_file kind file) later) ≡ true → Keeps later image reading → Keeps later image (done (HalfMade kind file) reading)
skipped_keeps kind file later image reading pending keeps k n kept inside =
    ⊎_elim
    (λ old. keeps k n kept old)
    (λ past. ⊎_elim
    (λ same. next (subst (λ (kk : Kind). list_any (keeps_file kk n) later ≡ true) same kept) (subst (λ (kk : Kind). n < file_count (done (HalfMade kind file) reading) kk) same inside)
    (subst (λ (kk : Kind). file_count reading kk ≤ n) same past))
    (λ apart. absurd (no_less n (omega (arith, inside, half_count_kind reading kind file k apart, past))))
    (same_kind_or_other k kind))
    (cases_lt n (file_count reading k))
  where
    next : list_any (keeps_file kind n) later ≡ true → n < file_count (done (HalfMade kind file) reading) kind → file_count reading kind ≤ n → n < file_count image k
    next here inside past =
        ⊎_elim
        (λ due.
        let number : n ≡ file = omega (arith, due, inside, half_count reading kind file due, past) in
        let no : false ≡ true = sym (ap not (ap (λ (m : ℕ). list_any (keeps_file kind m) later) (sym number) ∙ here)) ∙ pending in
        absurd (cc))
        (λ other. absurd (no_less n (omega (arith, inside, past, ap (λ (i : Image). file_count i kind) (half_past reading kind file other)))))
        (cases_eq file (file_count reading kind))

skipped_fits : (change : Change) (later : List Change) (image reading : Image) → is_pending change later ≡ true → Fits (change ∷ later) image reading → Fits later image (done change reading)
skipped_fits (Wrote kind file at bytes) later image reading pending fits = skipped_write kind file later image reading _ pending fits.fewer fits.keeps fits.agree
skipped_fits (Shortened kind file len) later image reading pending fits = skipped_write kind file later image reading _ pending fits.fewer fits.keeps fits.agree
skipped_fits (Made kind) later image reading pending fits = absurd (cc)
skipped_fits (HalfMade kind file) later image reading pending fits = record {
  fewer = λ k. omega (arith, fits.fewer k, half_grows reading kind file k);
  keeps = skipped_keeps kind file later image reading pending fits.keeps;
  agree = λ k n synced. fits.agree k n synced ∙ sym (half_bytes reading kind file k n);
}
skipped_fits (Synced kind file) later image reading pending fits = absurd (cc)

is_sync_of-same : (kind : Kind) (file : ℕ) → is_sync_of kind file (Synced kind file) ≡ true
is_sync_of-same Warc file = eq-eqb file file refl
is_sync_of-same Cdxj file = eq-eqb file file refl

-- a change that is made is one, where a sync finds its file as a read gives it
made : (change : Change) (later : List Change) (image reading : Image) (images : Image → Type 0) → images image → Fits (change ∷ later) image reading → left_by change reading images (done change image)
made (Wrote kind file at bytes) later image reading images is fits = (image, is, record { bytes = _; step = torn_written at (length bytes) (file_of image kind file) bytes (omega arith); whole = refl })
made (Shortened kind file len) later image reading images is fits = (image, is, record { bytes = _; step = cut_done len (file_of image kind file); whole = refl })
made (Made kind) later image reading images is fits = (image, is, all_there kind later image reading fits, refl)
made (HalfMade kind file) later image reading images is fits = (image, is, half_may_create image kind file)
made (Synced kind file) later image reading images is fits = (
  is,
  fits.keeps kind file (ap (λ (b : Bool). b || list_any (keeps_file kind file) later) (sync_keeps kind file (Synced kind file) (is_sync_of-same kind file))),
  fits.agree kind file (ap (λ (b : Bool). b || list_any (is_sync_of kind file) later) (is_sync_of-same kind file)),
)

durable_is_left : (changes : List Change) (image reading : Image) (images : Image → Type 0) → images image → Fits changes image reading
    → left_after changes reading images (replayed (durable_changes changes) image)
durable_is_left [] image reading images is fits = is
durable_is_left (change ∷ later) image reading images is fits =
    on_if (λ (some : List Change). left_after later (done change reading) (left_by change reading images) (replayed some image))
    (is_pending change later) (durable_changes later) (change ∷ durable_changes later)
    (λ pending. durable_is_left later image (done change reading) (left_by change reading images)
    (skipped change later image reading images pending is) (skipped_fits change later image reading pending fits))
    (λ durable. durable_is_left later (done change image) (done change reading) (left_by change reading images)
    (made change later image reading images is fits) (both_fit change later image reading fits))

torn_is_left : (budget : ℕ) (changes : List Change) (image reading : Image) (images : Image → Type 0) → images image → Fits changes image reading
    → left_after changes reading images (replayed (torn_changes budget changes) image)
torn_is_left budget [] image reading images is fits = is
torn_is_left budget (Wrote kind file at bytes ∷ later) image reading images is fits =
    let change = Wrote kind file at bytes in
    let P = λ (some : List Change). left_after later (done change reading) (left_by change reading images) (replayed some image) in
    let torn = take budget bytes ++ 87 ∷ [] in
    on_if P (is_pending change later) _ (change ∷ torn_changes budget later)
    (λ pending. on_if P (nat_le (length bytes) budget) (change ∷ torn_changes (budget - length bytes) later) (Wrote kind file at torn ∷ durable_changes later)
    (λ whole. torn_is_left (budget - length bytes) later (done change image) (done change reading) (left_by change reading images)
    (made change later image reading images is fits) (both_fit change later image reading fits))
    (λ short. durable_is_left later (done (Wrote kind file at torn) image) (done change reading) (left_by change reading images) (
      image,
      is,
      record {
        bytes = _;
        step = torn_written at (length bytes) (file_of image kind file) torn (omega (arith, leb-false (length bytes) budget short, length-append (take budget bytes) (87 ∷ []), length-take budget bytes));
        whole = refl;
      },
    )
    (pending_fits kind file later image reading _ _ pending fits.fewer fits.keeps fits.agree)))
    (λ durable. torn_is_left budget later (done change image) (done change reading) (left_by change reading images)
    (made change later image reading images is fits) (both_fit change later image reading fits))
torn_is_left budget (Shortened kind file len ∷ later) image reading images is fits =
    let change = Shortened kind file len in
    torn_is_left budget later (done change image) (done change reading) (left_by change reading images)
    (made change later image reading images is fits) (both_fit change later image reading fits)
torn_is_left budget (Made kind ∷ later) image reading images is fits =
    torn_is_left budget later (done (Made kind) image) (done (Made kind) reading) (left_by (Made kind) reading images)
    (made (Made kind) later image reading images is fits) (both_fit (Made kind) later image reading fits)
torn_is_left budget (HalfMade kind file ∷ later) image reading images is fits =
    torn_is_left budget later (done (HalfMade kind file) image) (done (HalfMade kind file) reading) (left_by (HalfMade kind file) reading images)
    (made (HalfMade kind file) later image reading images is fits) (both_fit (HalfMade kind file) later image reading fits)
torn_is_left budget (Synced kind file ∷ later) image reading images is fits =
    torn_is_left budget later image reading (left_by (Synced kind file) reading images)
    (made (Synced kind file) later image reading images is fits) (both_fit (Synced kind file) later image reading fits)

alike : (changes : List Change) (first : Image) → Fits changes first first
alike changes first = record { fewer = λ k. omega arith; keeps = λ k n kept inside. inside; agree = λ k n synced. refl }

pub stopped_is_left : (choice : ℕ) (changes : List Change) (first : Image) → may_leave changes first (replayed (stopped_changes choice changes) first)
stopped_is_left zero changes first = durable_is_left changes first first (λ image. image ≡ first) refl (alike changes first)
stopped_is_left (suc zero) changes first = replayed_is_left changes first (λ image. image ≡ first) refl
stopped_is_left (suc (suc budget)) changes first = torn_is_left budget changes first first (λ image. image ≡ first) refl (alike changes first)
