-- The lines that tell ids, in the pieces that are compared.
use Rattle.std.proofs.Common.{◌≡◌, ℕ, List, ◌++◌, append_assoc, sym, ap, subst, ◌∙◌}
use Rattle.std.specs.Prelude.{codes}
use Rattle.httparse.specs.Ascii.{crlf_bytes}
use Rattle.warc_text.specs.Ids.{id_text, uuid_text}
use Rattle.warc_text.specs.Lines.{concurrent_line, field, id_field, id_line, version_line}
use Rattle.record_opening.specs.steps.OpeningFronts.{start_text}
use Rattle.record_opening.specs.Stops.{Differs}
use Rattle.record_opening.specs.declared.stop.Stop.{Stop}
use Rattle.record_opening.proofs.FivePieces.{fifth_of_five, first_of_five, five, fourth_of_five, second_of_five, third_of_five}
use Rattle.record_opening.proofs.Pieces.{first_of_three, second_of_three, third_of_three, three}

differs_as : (stop : Stop) (bytes text other : List ℕ) → text ≡ other → Differs stop bytes text → Differs stop bytes other
differs_as stop bytes text other same d = subst (λ t. Differs stop bytes t) same d

-- what stands behind an id
abbrev pub id_end : List ℕ
id_end = codes ">\r\n"

-- ---- what each record begins with

-- what stands before its type
abbrev pub type_mark : List ℕ
type_mark = codes "WARC/1.1\r\nWARC-Type: "

-- and what stands between its type and its id
abbrev pub id_mark : List ℕ
id_mark = codes "\r\nWARC-Record-ID: <urn:uuid:"

regrouped : (v t w e r m u g : List ℕ) → (v ++ t) ++ w ++ (e ++ r ++ m) ++ u ++ (g ++ e) ≡ v ++ (t ++ w ++ e) ++ (r ++ (m ++ u ++ g) ++ e)
regrouped v t w e r m u g = simp append_assoc

start_is : (word id : List ℕ) → type_mark ++ word ++ id_mark ++ uuid_text id ++ id_end ≡ start_text word id
unfolding version_line field id_line id_field id_text
start_is word id =
    regrouped (codes "WARC/1.1\r\n") (codes "WARC-Type: ") word crlf_bytes (codes "WARC-Record-ID: ") (codes "<urn:uuid:") (uuid_text id) (codes ">")

module _ (word id bytes : List ℕ) where
  pub start_stands : (r s t u rest : List ℕ) → bytes ≡ type_mark ++ r → r ≡ word ++ s → s ≡ id_mark ++ t → t ≡ uuid_text id ++ u → u ≡ id_end ++ rest
      → bytes ≡ start_text word id ++ rest
  start_stands r s t u rest e₁ e₂ e₃ e₄ e₅ =
      five type_mark word id_mark (uuid_text id) id_end bytes r s t u rest e₁ e₂ e₃ e₄ e₅ ∙ ap (λ x. x ++ rest) (start_is word id)

  pub before_type : (stop : Stop) → Differs stop bytes type_mark → Differs stop bytes (start_text word id)
  before_type stop d = differs_as stop bytes _ _ (start_is word id) (first_of_five stop type_mark word id_mark (uuid_text id) id_end bytes d)

  pub at_type : (stop : Stop) (r : List ℕ) → bytes ≡ type_mark ++ r → Differs stop r word → Differs stop bytes (start_text word id)
  at_type stop r e₁ d = differs_as stop bytes _ _ (start_is word id) (second_of_five stop type_mark word id_mark (uuid_text id) id_end bytes r e₁ d)

  pub before_id : (stop : Stop) (r s : List ℕ) → bytes ≡ type_mark ++ r → r ≡ word ++ s → Differs stop s id_mark → Differs stop bytes (start_text word id)
  before_id stop r s e₁ e₂ d = differs_as stop bytes _ _ (start_is word id) (third_of_five stop type_mark word id_mark (uuid_text id) id_end bytes r s e₁ e₂ d)

  pub at_id : (stop : Stop) (r s t : List ℕ) → bytes ≡ type_mark ++ r → r ≡ word ++ s → s ≡ id_mark ++ t → Differs stop t (uuid_text id)
      → Differs stop bytes (start_text word id)
  at_id stop r s t e₁ e₂ e₃ d =
      differs_as stop bytes _ _ (start_is word id) (fourth_of_five stop type_mark word id_mark (uuid_text id) id_end bytes r s t e₁ e₂ e₃ d)

  pub behind_id : (stop : Stop) (r s t u : List ℕ) → bytes ≡ type_mark ++ r → r ≡ word ++ s → s ≡ id_mark ++ t → t ≡ uuid_text id ++ u
      → Differs stop u id_end → Differs stop bytes (start_text word id)
  behind_id stop r s t u e₁ e₂ e₃ e₄ d =
      differs_as stop bytes _ _ (start_is word id) (fifth_of_five stop type_mark word id_mark (uuid_text id) id_end bytes r s t u e₁ e₂ e₃ e₄ d)

-- ---- the response that goes with a request

abbrev pub concurrent_mark : List ℕ
concurrent_mark = codes "WARC-Concurrent-To: <urn:uuid:"

concurrent_is : (id : List ℕ) → concurrent_mark ++ uuid_text id ++ id_end ≡ concurrent_line id
unfolding concurrent_line id_field field id_text
concurrent_is id = ap (λ t. concurrent_mark ++ t) (sym (append_assoc (uuid_text id) (codes ">") crlf_bytes))

module _ (id bytes : List ℕ) where
  pub concurrent_stands : (r s rest : List ℕ) → bytes ≡ concurrent_mark ++ r → r ≡ uuid_text id ++ s → s ≡ id_end ++ rest → bytes ≡ concurrent_line id ++ rest
  concurrent_stands r s rest e₁ e₂ e₃ =
      three concurrent_mark (uuid_text id) id_end bytes r s rest e₁ e₂ e₃ ∙ ap (λ x. x ++ rest) (concurrent_is id)

  pub before_concurrent : (stop : Stop) → Differs stop bytes concurrent_mark → Differs stop bytes (concurrent_line id)
  before_concurrent stop d = differs_as stop bytes _ _ (concurrent_is id) (first_of_three stop concurrent_mark (uuid_text id) id_end bytes d)

  pub at_concurrent : (stop : Stop) (r : List ℕ) → bytes ≡ concurrent_mark ++ r → Differs stop r (uuid_text id) → Differs stop bytes (concurrent_line id)
  at_concurrent stop r e₁ d = differs_as stop bytes _ _ (concurrent_is id) (second_of_three stop concurrent_mark (uuid_text id) id_end bytes r e₁ d)

  pub behind_concurrent : (stop : Stop) (r s : List ℕ) → bytes ≡ concurrent_mark ++ r → r ≡ uuid_text id ++ s → Differs stop s id_end
      → Differs stop bytes (concurrent_line id)
  behind_concurrent stop r s e₁ e₂ d =
      differs_as stop bytes _ _ (concurrent_is id) (third_of_three stop concurrent_mark (uuid_text id) id_end bytes r s e₁ e₂ d)
