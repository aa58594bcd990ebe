-- What the openings of records tell, whatever follows them.
use Rattle.std.proofs.Common.{◌≡◌, ℕ, Bool, true, false, List, ◌∷◌, ◌++◌, length, length-append, append_assoc, get_or, drop, refl, sym, ap, ◌∙◌, arith}
use Rattle.std.specs.Prelude.{codes}
use Rattle.digest32.specs.Base32.{base32, IsDigest}
use Rattle.digest32.proofs.Texts.{length-digest_text, digest_injective}
use Rattle.time_text.specs.Texts.{warc_date}
use Rattle.time_text.proofs.DateLaws.{warc_date_front}
use Rattle.warc_text.specs.declared.kind.RecordKind.{RecordKind}
use Rattle.warc_text.specs.declared.kind.RecordKind.TheVariants as kinds
use Rattle.warc_text.specs.Groups.{IsOneLine, IsReference}
use Rattle.warc_text.specs.Ids.{IsUuid, id_text}
use Rattle.warc_text.specs.Lines.{field, id_field, date_field, version_line, type_line, id_line, date_line, opening, target_line, digest_line, concurrent_line, refers_line, refers_target_line, refers_date_line, profile_lines, cut_line, content_line}
use Rattle.warc_text.specs.Records.{response_opening, refers_to, revisit_front, revisit_end, revisit_opening, request_opening}
use Rattle.warc_text.specs.References.{Reference}
use Rattle.warc_text.proofs.LengthLaws.{length-id_text, length-id_line, length-digest_line, length-concurrent_line, length-refers_line}
use Rattle.warc_text.proofs.IdLaws.{id_told}
use Rattle.warc_text.proofs.Fronts.{fronts, field_apart, target_front, refers_target_front}

spread3 : (a b c x : List ℕ) → (a ++ b ++ c) ++ x ≡ a ++ (b ++ (c ++ x))
spread3 a b c x = append_assoc (a ++ b) c x ∙ append_assoc a b (c ++ x)

spread4 : (a b c d x : List ℕ) → (a ++ b ++ c ++ d) ++ x ≡ a ++ (b ++ (c ++ (d ++ x)))
spread4 a b c d x = append_assoc (a ++ b ++ c) d x ∙ spread3 a b c (d ++ x)

spread5 : (a b c d e x : List ℕ) → (a ++ b ++ c ++ d ++ e) ++ x ≡ a ++ (b ++ (c ++ (d ++ (e ++ x))))
spread5 a b c d e x = append_assoc (a ++ b ++ c ++ d) e x ∙ spread4 a b c d (e ++ x)

-- a field's value of a known length
pub field_value : (name u v : List ℕ) → length u ≡ length v → field name u ≡ field name v → u ≡ v
unfolding field
field_value name u v long same =
    let front = name ++ codes ": " in
    let line = fronts (front ++ u) (front ++ v) (codes "\r\n") (codes "\r\n") (omega (arith, length-append front u, length-append front v, long)) same in
    (fronts front front u v refl line.0).1

-- a date is told by its field
date_field_front : (name : List ℕ) (d e : ℕ) (x y : List ℕ) → date_field name d ++ x ≡ date_field name e ++ y → (d ≡ e) × (x ≡ y)
unfolding date_field
date_field_front name d e x y same =
    let apart = sym (field_apart name (warc_date d) x) ∙ same ∙ field_apart name (warc_date e) y in
    let values = fronts (name ++ codes ": ") (name ++ codes ": ") (warc_date d ++ (13 ∷ (10 ∷ x))) (warc_date e ++ (13 ∷ (10 ∷ y))) refl apart in
    let parts = warc_date_front d e (13 ∷ (10 ∷ x)) (13 ∷ (10 ∷ y)) values.1 in
    (parts.0, ap (drop 2) parts.1)

date_line_front : (d e : ℕ) (x y : List ℕ) → date_line d ++ x ≡ date_line e ++ y → (d ≡ e) × (x ≡ y)
unfolding date_line
date_line_front d e x y same = date_field_front (codes "WARC-Date") d e x y same

refers_date_front : (d e : ℕ) (x y : List ℕ) → refers_date_line d ++ x ≡ refers_date_line e ++ y → (d ≡ e) × (x ≡ y)
unfolding refers_date_line
refers_date_front d e x y same = date_field_front (codes "WARC-Refers-To-Date") d e x y same

-- of two records of one type
pub opening_front : (kind : RecordKind) (i j : List ℕ) (d e : ℕ) (x y : List ℕ) → opening kind i d ++ x ≡ opening kind j e ++ y → (d ≡ e) × (x ≡ y)
unfolding opening
opening_front kind i j d e x y same =
    let front = version_line ++ type_line kind in
    let apart = sym (append_assoc (front ++ id_line i) (date_line d) x) ∙ same ∙ append_assoc (front ++ id_line j) (date_line e) y in
    let long : length (front ++ id_line i) ≡ length (front ++ id_line j) =
    omega (arith, length-append front (id_line i), length-append front (id_line j), length-id_line i, length-id_line j) in
    date_line_front d e x y (fronts (front ++ id_line i) (front ++ id_line j) (date_line d ++ x) (date_line e ++ y) long apart).1

digest_told : (p q : List ℕ) → IsDigest p → IsDigest q → digest_line p ≡ digest_line q → p ≡ q
unfolding digest_line
digest_told p q is is₂ same =
    let name = codes "WARC-Payload-Digest" in
    let long : length (codes "sha1:" ++ base32 p) ≡ length (codes "sha1:" ++ base32 q) = omega (arith, length-digest_text p is, length-digest_text q is₂) in
    let values = field_value name (codes "sha1:" ++ base32 p) (codes "sha1:" ++ base32 q) long same in
    digest_injective p q is is₂ (fronts (codes "sha1:") (codes "sha1:") (base32 p) (base32 q) refl values).1

digest_front : (p q x y : List ℕ) → IsDigest p → IsDigest q → digest_line p ++ x ≡ digest_line q ++ y → (p ≡ q) × (x ≡ y)
digest_front p q x y is is₂ same =
    let lines = fronts (digest_line p) (digest_line q) x y (length-digest_line p is ∙ sym (length-digest_line q is₂)) same in
    (digest_told p q is is₂ lines.0, lines.1)

-- the type of a response's block, with the mark before it or not
cut_front : (c b : Bool) (x y : List ℕ) → cut_line c ++ (content_line kinds.Response ++ x) ≡ cut_line b ++ (content_line kinds.Response ++ y) → (c ≡ b) × (x ≡ y)
unfolding cut_line content_line field
cut_front true true x y same =
    let marks = fronts (cut_line true) (cut_line true) (content_line kinds.Response ++ x) (content_line kinds.Response ++ y) refl same in
    (refl, (fronts (content_line kinds.Response) (content_line kinds.Response) x y refl marks.1).1)
cut_front false false x y same = (refl, (fronts (content_line kinds.Response) (content_line kinds.Response) x y refl same).1)
cut_front true false x y same = let first : 87 ≡ 67 = ap (λ (l : List ℕ). get_or l 0 0) same in absurd (omega (arith, first))
cut_front false true x y same = let first : 67 ≡ 87 = ap (λ (l : List ℕ). get_or l 0 0) same in absurd (omega (arith, first))

-- what the openings of two responses tell
pub record SameResponse (d e : ℕ) (u v p q : List ℕ) (c b : Bool) (x y : List ℕ) : Type 0 where
  pub date : d ≡ e
  pub target : u ≡ v
  pub payload_digest : p ≡ q
  pub cut : c ≡ b
  pub behind : x ≡ y

pub response_opening_front : (i j : List ℕ) (d e : ℕ) (u v p q : List ℕ) (c b : Bool) (x y : List ℕ) → IsOneLine u → IsOneLine v → IsDigest p → IsDigest q
    → response_opening i d u p c ++ x ≡ response_opening j e v q b ++ y → SameResponse d e u v p q c b x y
unfolding response_opening
response_opening_front i j d e u v p q c b x y one one₂ is is₂ same =
    let content = content_line kinds.Response in
    let apart = sym (spread5 (opening kinds.Response i d) (target_line u) (digest_line p) (cut_line c) content x) ∙ same
    ∙ spread5 (opening kinds.Response j e) (target_line v) (digest_line q) (cut_line b) content y in
    let openings = opening_front kinds.Response i j d e _ _ apart in
    let targets = target_front u v _ _ one one₂ openings.1 in
    let digests = digest_front p q _ _ is is₂ targets.1 in
    let ends = cut_front c b x y digests.1 in
    record { date = openings.0; target = targets.0; payload_digest = digests.0; cut = ends.0; behind = ends.1 }

refers_line_front : (i j x y : List ℕ) → IsUuid i → IsUuid j → refers_line i ++ x ≡ refers_line j ++ y → (i ≡ j) × (x ≡ y)
unfolding refers_line id_field
refers_line_front i j x y is is₂ same =
    let lines = fronts (refers_line i) (refers_line j) x y (length-refers_line i ∙ sym (length-refers_line j)) same in
    (id_told i j is is₂ (field_value (codes "WARC-Refers-To") (id_text i) (id_text j) (length-id_text i ∙ sym (length-id_text j)) lines.0), lines.1)

refers_to_front : (s t : Reference) (x y : List ℕ) → IsReference s → IsReference t → refers_to s ++ x ≡ refers_to t ++ y → (s ≡ t) × (x ≡ y)
unfolding refers_to
refers_to_front s t x y is is₂ same =
    let apart = sym (spread3 (refers_line s.id) (refers_target_line s.uri) (refers_date_line s.date) x) ∙ same
    ∙ spread3 (refers_line t.id) (refers_target_line t.uri) (refers_date_line t.date) y in
    let ids = refers_line_front s.id t.id _ _ is.id is₂.id apart in
    let targets = refers_target_front s.uri t.uri _ _ is.uri is₂.uri ids.1 in
    let dates = refers_date_front s.date t.date x y targets.1 in
    let one : s ≡ t = λ k. record { id = ids.0 k; uri = targets.0 k; date = dates.0 k } in
    (one, dates.1)

-- what the openings of two revisits tell
pub record SameRevisit (d e : ℕ) (u v p q : List ℕ) (s t : Reference) (x y : List ℕ) : Type 0 where
  pub date : d ≡ e
  pub target : u ≡ v
  pub payload_digest : p ≡ q
  pub refers : s ≡ t
  pub behind : x ≡ y

revisit_end_front : (s t : Reference) (x y : List ℕ) → IsReference s → IsReference t → revisit_end s ++ x ≡ revisit_end t ++ y → (s ≡ t) × (x ≡ y)
unfolding revisit_end
revisit_end_front s t x y is is₂ same =
    let content = content_line kinds.Revisit in
    let apart = sym (spread3 (refers_to s) profile_lines content x) ∙ same ∙ spread3 (refers_to t) profile_lines content y in
    let refers = refers_to_front s t _ _ is is₂ apart in
    let profiles = fronts profile_lines profile_lines (content ++ x) (content ++ y) refl refers.1 in
    (refers.0, (fronts content content x y refl profiles.1).1)

pub revisit_opening_front : (i j : List ℕ) (d e : ℕ) (u v p q : List ℕ) (s t : Reference) (x y : List ℕ) → IsOneLine u → IsOneLine v → IsDigest p → IsDigest q
    → IsReference s → IsReference t → revisit_opening i d u p s ++ x ≡ revisit_opening j e v q t ++ y → SameRevisit d e u v p q s t x y
unfolding revisit_opening revisit_front
revisit_opening_front i j d e u v p q s t x y one one₂ is is₂ refers refers₂ same =
    let apart = sym (spread4 (opening kinds.Revisit i d) (target_line u) (digest_line p) (revisit_end s) x) ∙ same
    ∙ spread4 (opening kinds.Revisit j e) (target_line v) (digest_line q) (revisit_end t) y in
    let openings = opening_front kinds.Revisit i j d e _ _ apart in
    let targets = target_front u v _ _ one one₂ openings.1 in
    let digests = digest_front p q _ _ is is₂ targets.1 in
    let ends = revisit_end_front s t x y refers refers₂ digests.1 in
    record { date = openings.0; target = targets.0; payload_digest = digests.0; refers = ends.0; behind = ends.1 }

-- of two requests
pub request_opening_front : (i j answer other : List ℕ) (d e : ℕ) (u v x y : List ℕ) → IsOneLine u → IsOneLine v
    → request_opening i answer d u ++ x ≡ request_opening j other e v ++ y → (d ≡ e) × (u ≡ v) × (x ≡ y)
unfolding request_opening
request_opening_front i j answer other d e u v x y one one₂ same =
    let content = content_line kinds.Request in
    let apart = sym (spread4 (opening kinds.Request i d) (target_line u) (concurrent_line answer) content x) ∙ same
    ∙ spread4 (opening kinds.Request j e) (target_line v) (concurrent_line other) content y in
    let openings = opening_front kinds.Request i j d e _ _ apart in
    let targets = target_front u v _ _ one one₂ openings.1 in
    let concurrents = fronts (concurrent_line answer) (concurrent_line other) (content ++ x) (content ++ y) (length-concurrent_line answer ∙ sym (length-concurrent_line other)) targets.1 in
    (openings.0, targets.0, (fronts content content x y refl concurrents.1).1)

-- a response is no revisit
pub response_no_revisit : (i j : List ℕ) (d e : ℕ) (u v p q : List ℕ) (c : Bool) (t : Reference) (x y : List ℕ)
    → response_opening i d u p c ++ x ≡ revisit_opening j e v q t ++ y → ⊥
unfolding response_opening revisit_opening revisit_front opening version_line type_line field
response_no_revisit i j d e u v p q c t x y same =
    let third : 115 ≡ 118 = ap (λ (l : List ℕ). get_or l 23 0) same in
    omega (arith, third)
