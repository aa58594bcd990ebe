-- A warcinfo tells its namespace and its birth, and what a record begins with.
use Rattle.std.proofs.Common.{◌≡◌, ℕ, List, ◌∷◌, ◌++◌, length, length-append, append_assoc, refl, sym, ap, ◌∙◌, arith}
use Rattle.std.specs.Prelude.{codes, slice_index}
use Rattle.warc_text.specs.declared.id.IdKind.TheVariants as ids
use Rattle.warc_text.specs.declared.kind.RecordKind.{RecordKind}
use Rattle.warc_text.specs.declared.kind.RecordKind.TheVariants as kinds
use Rattle.warc_text.specs.Ids.{IsUuid, id_of, uuid_text}
use Rattle.warc_text.specs.Lines.{version_line, type_line, id_line, date_line, opening, content_line, length_lines, record_end, ended, software_lines, namespace_line, volume_line, info_block}
use Rattle.capture.specs.Tails.{IsCommitted}
use Rattle.warc_text.specs.StandsFor.{commit_byte, InfosAreCommitted}
use Rattle.warc_text.specs.Records.{info_text, info_opening}
use Rattle.warc_text.proofs.LengthLaws.{length-uuid_text, length_of_info_block}
use Rattle.warc_text.proofs.IdLaws.{uuid_text_told}
use Rattle.warc_text.proofs.Fronts.{fronts}
use Rattle.warc_text.proofs.Openings.{field_value, opening_front}

-- blocks of one length, whatever follows them
same_block : (b c x y : List ℕ) → length b ≡ length c → ended b ++ x ≡ ended c ++ y → (b ≡ c) × (x ≡ y)
unfolding ended
same_block b c x y long same =
    let lines : length_lines (length b) ≡ length_lines (length c) = ap length_lines long in
    let spread : (a m e z : List ℕ) → (a ++ m ++ e) ++ z ≡ a ++ (m ++ (e ++ z)) = λ a m e z. append_assoc (a ++ m) e z ∙ append_assoc a m (e ++ z) in
    let apart = sym (spread (length_lines (length b)) b record_end x) ∙ same ∙ spread (length_lines (length c)) c record_end y in
    let behind = fronts (length_lines (length b)) (length_lines (length c)) (b ++ (record_end ++ x)) (c ++ (record_end ++ y)) (ap (λ (l : List ℕ). length l) lines) apart in
    let blocks = fronts b c (record_end ++ x) (record_end ++ y) long behind.1 in
    (blocks.0, (fronts record_end record_end x y refl blocks.1).1)

namespace_told : (n m : List ℕ) → IsUuid n → IsUuid m → namespace_line n ≡ namespace_line m → n ≡ m
unfolding namespace_line
namespace_told n m is is₂ same =
    let texts = field_value (codes "archive-namespace") (uuid_text n) (uuid_text m) (length-uuid_text n ∙ sym (length-uuid_text m)) same in
    uuid_text_told n m is.length_is is₂.length_is is.bytes is₂.bytes texts

block_namespace : (n m : List ℕ) (k : ℕ) → info_block n k ≡ info_block m k → namespace_line n ≡ namespace_line m
unfolding info_block
block_namespace n m k same =
    let whole = length_of_info_block n k ∙ sym (length_of_info_block m k) in
    let parts = length-append (software_lines ++ namespace_line n) (volume_line k) in
    let parts₂ = length-append (software_lines ++ namespace_line m) (volume_line k) in
    let before = fronts (software_lines ++ namespace_line n) (software_lines ++ namespace_line m) (volume_line k) (volume_line k)
    (omega (arith, parts, parts₂, ap (λ (l : List ℕ). length l) same)) same in
    (fronts software_lines software_lines (namespace_line n) (namespace_line m) refl before.0).1

-- what the openings of two warcinfos tell
pub info_opening_front : (i j : List ℕ) (born born₂ : ℕ) (x y : List ℕ) → info_opening i born ++ x ≡ info_opening j born₂ ++ y → (born ≡ born₂) × (x ≡ y)
unfolding info_opening
info_opening_front i j born born₂ x y same =
    let content = content_line kinds.Info in
    let apart = sym (append_assoc (opening kinds.Info i born) content x) ∙ same ∙ append_assoc (opening kinds.Info j born₂) content y in
    let openings = opening_front kinds.Info i j born born₂ (content ++ x) (content ++ y) apart in
    (openings.0, (fronts content content x y refl openings.1).1)

-- of two warcinfos of one volume
pub info_front : (n m : List ℕ) (k born born₂ : ℕ) (x y : List ℕ) → IsUuid n → IsUuid m → info_text n k born ++ x ≡ info_text m k born₂ ++ y
    → (n ≡ m) × (born ≡ born₂) × (x ≡ y)
unfolding info_text
info_front n m k born born₂ x y is is₂ same =
    let i = id_of n ids.Info k in
    let j = id_of m ids.Info k in
    let apart = sym (append_assoc (info_opening i born) (ended (info_block n k)) x) ∙ same ∙ append_assoc (info_opening j born₂) (ended (info_block m k)) y in
    let openings = info_opening_front i j born born₂ (ended (info_block n k) ++ x) (ended (info_block m k) ++ y) apart in
    let blocks = same_block (info_block n k) (info_block m k) x y (length_of_info_block n k ∙ sym (length_of_info_block m k)) openings.1 in
    (namespace_told n m is is₂ (block_namespace n m k blocks.0), openings.0, blocks.1)

-- the text begins as each record does
abbrev pub BeginsRecord : List ℕ → Type 0
BeginsRecord text = (rest : List ℕ) × (text ≡ 87 ∷ 65 ∷ rest)

pub begins-append : (text more : List ℕ) → BeginsRecord text → BeginsRecord (text ++ more)
begins-append text more o = (o.0 ++ more, ap (λ (l : List ℕ). l ++ more) o.1)

pub begins-opening : (kind : RecordKind) (id : List ℕ) (date : ℕ) → BeginsRecord (opening kind id date)
unfolding opening version_line
begins-opening kind id date =
    begins-append (version_line ++ type_line kind ++ id_line id) (date_line date)
    (begins-append (version_line ++ type_line kind) (id_line id) (begins-append version_line (type_line kind) (_, refl)))

pub begins-info : (namespace : List ℕ) (k born : ℕ) → BeginsRecord (info_text namespace k born)
unfolding info_text info_opening
begins-info namespace k born =
    let head = opening kinds.Info (id_of namespace ids.Info k) born in
    begins-append (head ++ content_line kinds.Info) (ended (info_block namespace k))
    (begins-append head (content_line kinds.Info) (begins-opening kinds.Info (id_of namespace ids.Info k) born))

-- so its commit byte stands, and more behind it
pub committed : (text : List ℕ) → BeginsRecord text → IsCommitted commit_byte text
committed text begins = record {
  begins = ap (λ (l : List ℕ). slice_index l 0) begins.1;
  more = omega (arith, ap (λ (l : List ℕ). length l) begins.1);
}

pub infos_are_committed : InfosAreCommitted
infos_are_committed namespace volume born = committed (info_text namespace volume born) (begins-info namespace volume born)
