-- A book has one list of entries, and one index.
use Rattle.std.proofs.Common.{◌≡◌, ℕ, zero, suc, ◌+◌, ◌<◌, ◌≤◌, inl, inr, List, [], ◌∷◌, ◌++◌, length, length-append, get_or, take, sym, ap, subst, ◌∙◌, arith}
use Rattle.std.specs.Prelude.{Option, Some, slice_get}
use Rattle.std.specs.Cmp.{IsTotalOrder}
use Rattle.std.proofs.lemmas.Bool.{cases_order}
use Rattle.std.proofs.lemmas.Cmp.{nat_cmp_total, on_total}
use Rattle.std.proofs.lemmas.List.{ext_get_or}
use Rattle.std.proofs.lemmas.Option.{same_Some, slice_get_within}
use Rattle.httparse.specs.Grammar.{ResponseHead, status_code}
use Rattle.httparse.proofs.GrammarLemmas.{response_unique}
use Rattle.sha1.specs.Sha1.{sha1}
use Rattle.capture.specs.Captures.{captures_in, first_number}
use Rattle.capture.specs.Fields.{named_values}
use Rattle.capture.specs.Message.{IsResponseHeadText}
use Rattle.capture.specs.declared.book.Book.{Book}
use Rattle.capture.specs.declared.book.Volume.{Volume}
use Rattle.capture.specs.declared.captured.Stored.{Stored}
use Rattle.surt_key.specs.Key.{key_of}
use Rattle.warc_text.specs.Books.{joined}
use Rattle.warc_text.specs.Growth.{NumbersHaveOneGroup}
use Rattle.warc_text.specs.Records.{info_text}
use Rattle.warc_text.specs.declared.same_of.SameOf.{SameOf}
use Rattle.index_entry.specs.Facts.{Facts}
use Rattle.index_entry.specs.Order.{order}
use Rattle.index_entry.specs.OfBook.{mime_by, record_of, IsBefore, IsEntryOf, AreOf, by_number, BooksHaveOneIndex, BooksHaveOneListOfEntries}
use Rattle.index_entry.proofs.Members.{Among, among_from_contains, contains_from_among, same_from_members}
use Rattle.index_entry.proofs.Orders.{order_total}

-- ---- a capture stands in one volume, at one place

-- the numbers of a volume's captures are below those of each later volume
room : (volumes : List Volume) (k j : ℕ) (v : Volume) → slice_get volumes k ≡ Some v → k < j → j < length volumes
    → length (captures_in (take k volumes)) + length v.captures ≤ length (captures_in (take j volumes))
room [] k j v at lt within = absurd (omega (arith, within))
room (w ∷ ws) k zero v at lt within = absurd (omega (arith, lt))
room (w ∷ ws) zero (suc j) v at lt within =
    let same : length w.captures ≡ length v.captures = ap (λ (x : Volume). length x.captures) (same_Some w v at) in
    let long = length-append w.captures (captures_in (take j ws)) in
    omega (arith, same, long)
room (w ∷ ws) (suc k) (suc j) v at lt within =
    let rest = room ws k j v at (omega (arith, lt)) (omega (arith, within)) in
    let long = length-append w.captures (captures_in (take k ws)) in
    let long₂ = length-append w.captures (captures_in (take j ws)) in
    omega (arith, rest, long, long₂)

-- the earlier of two volumes doesn't hold the number of a capture of the later one
not_before : (book : Book) (k j p q : ℕ) (t u : List ℕ) → IsBefore book k p t → IsBefore book j q u
    → first_number book k + p ≡ first_number book j + q → k < j → ⊥
not_before book k j p q t u a b e lt =
    let within = slice_get_within book.volumes j b.volume b.placed in
    let above = room book.volumes k j a.volume a.placed lt within in
    let inside = a.within in
    omega (arith, above, inside, e)

one_volume : (book : Book) (k j p q : ℕ) (t u : List ℕ) → IsBefore book k p t → IsBefore book j q u
    → first_number book k + p ≡ first_number book j + q → k ≡ j
one_volume book k j p q t u a b e = elim (cases_order k j) [
  | inl same ↦ same
  | inr (inl lt) ↦ absurd (not_before book k j p q t u a b e lt)
  | inr (inr gt) ↦ absurd (not_before book j k q p u t b a (sym e) gt)
]

-- what stands before a capture is one text
one_front : NumbersHaveOneGroup → (book : Book) (k p : ℕ) (t u : List ℕ) → IsBefore book k p t → IsBefore book k p u → t ≡ u
one_front one book k p t u a b =
    let volume : a.volume ≡ b.volume = same_Some a.volume b.volume (sym a.placed ∙ b.placed) in
    let count : length a.groups ≡ length b.groups = a.count ∙ sym b.count in
    let groups : a.groups ≡ b.groups = ext_get_or [] a.groups b.groups count
    (λ j lt. (one book (first_number book k + j) (get_or a.groups j []) (get_or b.groups j []) (a.each j lt) (b.each j (omega (arith, lt, count)))).texts) in
    a.composed ∙ ap (λ (v : Volume). info_text book.namespace k v.born ++ joined a.groups) volume
    ∙ ap (λ (g : List (List ℕ)). info_text book.namespace k b.volume.born ++ joined g) groups ∙ sym b.composed

-- ---- a capture has one entry

pub one_entry : NumbersHaveOneGroup → (book : Book) (number : ℕ) (e f : Facts) → IsEntryOf book number e → IsEntryOf book number f → e ≡ f
one_entry one book number e f a b =
    let g = one book number a.text b.text a.group b.group in
    let parsed : IsResponseHeadText b.group.stored.head a.head = subst (λ (s : Stored). IsResponseHeadText s.head a.head) g.stored a.parsed in
    let head : a.head ≡ b.head = (response_unique b.group.stored.head a.head b.head _ _ parsed.reads b.parsed.reads).0 in
    let key : e.key ≡ f.key = same_Some e.key f.key (sym a.keyed ∙ ap (λ (s : Stored). key_of s.uri) g.stored ∙ b.keyed) in
    let date : e.date ≡ f.date = a.date_is ∙ ap (λ (s : Stored). s.date) g.stored ∙ sym b.date_is in
    let number_is : e.number ≡ f.number = a.number_is ∙ sym b.number_is in
    let uri : e.uri ≡ f.uri = a.uri_is ∙ ap (λ (s : Stored). s.uri) g.stored ∙ sym b.uri_is in
    let mime : e.mime ≡ f.mime = a.mime_is ∙ ap (λ (s : Stored). mime_by s.kept (named_values a.head.fields)) g.stored
    ∙ ap (λ (h : ResponseHead). mime_by b.group.stored.kept (named_values h.fields)) head ∙ sym b.mime_is in
    let status : e.status ≡ f.status = a.status_is ∙ ap status_code head ∙ sym b.status_is in
    let digest : e.digest ≡ f.digest = a.digest_is ∙ ap sha1 g.payload ∙ sym b.digest_is in
    let places : first_number book e.volume + a.place ≡ first_number book f.volume + b.place = sym a.numbered ∙ b.numbered in
    let volume : e.volume ≡ f.volume = one_volume book e.volume f.volume a.place b.place a.before b.before a.behind b.behind places in
    let firsts : first_number book e.volume ≡ first_number book f.volume = ap (first_number book) volume in
    let place : a.place ≡ b.place = omega (arith, places, firsts) in
    let behind : IsBefore book f.volume b.place a.before =
    subst (λ (p : ℕ). IsBefore book f.volume p a.before) place (subst (λ (k : ℕ). IsBefore book k a.place a.before) volume a.behind) in
    let offset : e.offset ≡ f.offset = a.offset_is ∙ ap (λ (l : List ℕ). length l) (one_front one book f.volume b.place a.before b.before behind b.behind) ∙ sym b.offset_is in
    let long : Stored → List ℕ → Option SameOf → ℕ = λ s p o. length (record_of book number s p o) in
    let size : e.length ≡ f.length = a.length_is ∙ ap (λ (s : Stored). long s a.group.payload a.group.same) g.stored
    ∙ ap (λ (p : List ℕ). long b.group.stored p a.group.same) g.payload
    ∙ ap (λ (o : Option SameOf). long b.group.stored b.group.payload o) g.refers ∙ sym b.length_is in
    λ i. record {
      key = key i;
      date = date i;
      number = number_is i;
      uri = uri i;
      mime = mime i;
      status = status i;
      digest = digest i;
      volume = volume i;
      offset = offset i;
      length = size i;
    }

-- ---- lists of entries

-- what one list of the book's entries holds, another holds too
held_too : NumbersHaveOneGroup → (book : Book) (entries other : List Facts) → AreOf book entries → AreOf book other
    → (e : Facts) → Among entries e → Among other e
held_too one book entries other a b e there =
    let in_list = contains_from_among entries e there in
    let is = a.each e in_list in
    let found = b.all e.number is.group.stored is.group.placed (a.found e is.group.stored in_list is.group.placed) in
    let is₂ : IsEntryOf book e.number found.0 = subst (λ (n : ℕ). IsEntryOf book n found.0) found.2 (b.each found.0 found.1) in
    let same : e ≡ found.0 = one_entry one book e.number e found.0 is is₂ in
    subst (λ (f : Facts). Among other f) (sym same) (among_from_contains other found.0 found.1)

number_total : IsTotalOrder by_number
number_total = on_total (λ (e : Facts). e.number) nat_cmp_total

pub books_have_one_index : NumbersHaveOneGroup → BooksHaveOneIndex
books_have_one_index one book entries other a b =
    same_from_members order order_total entries other a.index.in_order b.index.in_order
    (held_too one book entries other a.of_book b.of_book) (held_too one book other entries b.of_book a.of_book)

pub books_have_one_list : NumbersHaveOneGroup → BooksHaveOneListOfEntries
books_have_one_list one book entries other a b =
    same_from_members by_number number_total entries other a.in_order b.in_order
    (held_too one book entries other a.of_book b.of_book) (held_too one book other entries b.of_book a.of_book)
