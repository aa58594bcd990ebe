-- The address of a form is read as that form.
use Rattle.std.proofs.Common.{ℕ, ◌≤◌, List, [], ◌++◌, codes, length, take, refl, sym, subst, arith}
use Rattle.std.proofs.lemmas.Bool.{cond-true}
use Rattle.std.specs.List.{All}
use Rattle.time_text.specs.Bytes.{IsDigit}
use Rattle.time_text.specs.Texts.{InRange, all_digits}
use Rattle.surt_key.specs.Addresses.{has_scheme}
use Rattle.replay_url.specs.Address.{Parts}
use Rattle.replay_url.specs.Forms.{CanBePut, FormAt, IsForm, IsUrl, address_text, memento_digits}
use Rattle.replay_url.specs.ReadBack.{IsTold, StandsAlone}
use Rattle.replay_url.specs.declared.form.Form.{Form}
use Rattle.replay_url.specs.declared.form.Form.TheVariants.{Memento, Gate, Map, Query, Number, Ship}
use Rattle.replay_url.proofs.ReadBackLemmas.{are_digits, digits_counted, digits_some, gate_parts, map_parts, memento_parts, number_parts, piece_parts, query_parts}

its_url : (url : List ℕ) → StandsAlone url → IsUrl url url
its_url url alone = record { value = sym (cond-true (has_scheme url) url (codes "http://" ++ url) alone.schemed); keyed = alone.keyed }

pub read_back : ((date n : ℕ) → InRange date → All IsDigit (take n (all_digits date))) → (form : Form) → CanBePut form → IsTold form → IsForm (address_text [] form) form
read_back digits (Memento time count raw url) can told =
    let text = memento_digits time count in
    let counted = digits_counted time count can.1 in
    let some : 1 ≤ length text = omega (arith, counted, digits_some count can.1) in
    let parts = memento_parts text url raw (are_digits text (digits time count can.0)) some in
    subst (λ (p : Parts). FormAt p (Memento time count raw url)) (sym parts) (told.earliest, counted, refl, its_url url told.alone)
read_back digits (Gate url) can told =
    subst (λ (p : Parts). FormAt p (Gate url)) (sym (gate_parts url told.schemed)) (its_url url told)
read_back digits (Map url) can told =
    subst (λ (p : Parts). FormAt p (Map url)) (sym (map_parts url)) (its_url url told)
read_back digits (Query text) can told =
    subst (λ (p : Parts). FormAt p (Query text)) (sym (query_parts text)) refl
read_back digits (Number number) can told =
    subst (λ (p : Parts). FormAt p (Number number)) (sym (number_parts number)) (record { fits = told; digits = refl })
read_back digits (Ship number) can told =
    subst (λ (p : Parts). FormAt p (Ship number)) (sym (piece_parts number)) (record { fits = told; digits = refl })
