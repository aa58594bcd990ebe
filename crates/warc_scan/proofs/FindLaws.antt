-- A group is refused where one of its parts is, and why more is asked for.
use Rattle.std.proofs.Common.{◌≡◌, ℕ, ◌-◌, ◌<◌, ◌≤◌, ◌^◌, inl, inr, List, ◌++◌, length, take, length-append, append_assoc, refl, sym, ap, subst, ◌∙◌, arith}
use Rattle.std.proofs.lemmas.List.{take_at}
use Rattle.capture.specs.Captures.{taken_back}
use Rattle.capture.specs.Target.{IsAcceptedAs}
use Rattle.warc_text.specs.Groups.{answer_block}
use Rattle.warc_text.specs.Ids.{id_of}
use Rattle.warc_text.specs.Lines.{ended, length_lines, record_end}
use Rattle.warc_text.specs.Records.{request_opening}
use Rattle.warc_text.specs.declared.id.IdKind.TheVariants as ids
use Rattle.record_opening.specs.BlockParts.{AsksForBlock, RefusesBlock}
use Rattle.record_opening.specs.Openings.{IsOpening, Opening, opening_of, opening_text}
use Rattle.record_opening.specs.Stops.{Differs, Leaves, NoneStands, Refuses}
use Rattle.record_opening.specs.declared.stop.Stop.{Stop}
use Rattle.record_opening.specs.declared.stop.Stop.TheVariants.{Open, Until, Wrong, Memory}
use Rattle.record_opening.proofs.BlockTold.{block_told}
use Rattle.record_opening.proofs.OpeningTold.{opening_told}
use Rattle.record_opening.proofs.Refusals.{refuses_behind, refuses_more}
use Rattle.record_opening.proofs.FirstLaws.{behind_both, length_before, opening_told_by}
use Rattle.warc_scan.specs.steps.Founds.{AsksByStop, IsFoundIn}
use Rattle.warc_scan.specs.Asking.{second_opening}
use Rattle.warc_scan.specs.Groups.{IsGroup, reference_in}
use Rattle.warc_scan.specs.declared.group.Group.{Group}
use Rattle.warc_scan.specs.declared.find.Found.{Found}
use Rattle.warc_scan.proofs.GroupParts.{group_is, opening_in, opening_is_right}

-- the front that is left before a rest
pub front_taken : (bytes front rest : List ℕ) → bytes ≡ front ++ rest → take (length bytes - length rest) bytes ≡ front
front_taken bytes front rest e =
    ap (take (length bytes - length rest)) e
    ∙ take_at front rest (length bytes - length rest) (omega (arith, ap length e, length-append front rest))

pub rest_fits : (bytes front rest : List ℕ) → bytes ≡ front ++ rest → length rest ≤ length bytes
rest_fits bytes front rest e = omega (arith, ap length e, length-append front rest)

-- ---- texts of groups by their openings and blocks

abbrev pub first_text : List ℕ → ℕ → Opening → List ℕ → List ℕ
first_text namespace number o block = opening_text (id_of namespace ids.Response number) o ++ ended block

abbrev pub whole_text : List ℕ → ℕ → Opening → List ℕ → List ℕ → List ℕ
whole_text namespace number o block request = first_text namespace number o block ++ (second_opening namespace number o ++ ended request)

-- the parts of a group's text
pub record Parts (namespace : List ℕ) (number : ℕ) (text : List ℕ) : Type 0 where
  pub opening : Opening
  pub block : List ℕ
  pub request : List ℕ
  pub right : IsOpening opening
  pub composed : text ≡ whole_text namespace number opening block request
  pub short : length text < 2 ^ 63

abbrev pub parts_of : (namespace : List ℕ) (number : ℕ) (text : List ℕ) (group : Group) → IsGroup namespace number text group → Parts namespace number text
parts_of namespace number text group is = record {
  opening = opening_in (taken_back group.stored) group.digest (reference_in group.same);
  block = answer_block (taken_back group.stored) (reference_in group.same);
  request = group.stored.request;
  right = opening_is_right namespace number text group is;
  composed = is.composed ∙ group_is namespace number (taken_back group.stored) group.digest (reference_in group.same);
  short = is.short;
}

module _ (namespace : List ℕ) (number : ℕ) where
  pub first_shorter : (text : List ℕ) (parts : Parts namespace number text) → length (first_text namespace number parts.opening parts.block) < 2 ^ 63
  first_shorter text parts =
      omega (
        arith,
        parts.short,
        ap length parts.composed,
        length-append (first_text namespace number parts.opening parts.block)
            (second_opening namespace number parts.opening ++ ended parts.request),
      )

  pub block_shorter : (o : Opening) (block : List ℕ) → length (first_text namespace number o block) < 2 ^ 63 → length block < 2 ^ 64
  unfolding ended
  block_shorter o block short =
      omega (
        arith,
        short,
        length-append (opening_text (id_of namespace ids.Response number) o) (ended block),
        length-append (length_lines (length block) ++ block) record_end,
        length-append (length_lines (length block)) block,
      )

  -- ---- the opening of the first record

  pub no_opening : (bytes : List ℕ) (stop : Stop) → NoneStands IsOpening (opening_text (id_of namespace ids.Response number)) stop bytes
      → (text : List ℕ) → Parts namespace number text → Refuses stop bytes text
  no_opening bytes stop none text parts =
      subst (λ t. Refuses stop bytes t) (sym parts.composed)
      (refuses_more stop bytes (first_text namespace number parts.opening parts.block) (second_opening namespace number parts.opening ++ ended parts.request)
      (refuses_more stop bytes (opening_text (id_of namespace ids.Response number) parts.opening) (ended parts.block)
      (none.refuses parts.opening parts.right)))

  pub opening_asks : (bytes : List ℕ) (stop : Stop) → NoneStands IsOpening (opening_text (id_of namespace ids.Response number)) stop bytes
      → AsksByStop namespace number bytes stop
  opening_asks bytes Open none =
      let some = none.ends refl in (inl (record { o = some.0; right = some.1; ends = some.2 }), refl)
  opening_asks bytes (Until n) none = absurd none.line
  opening_asks bytes Wrong none = tt
  opening_asks bytes Memory none = tt

  -- ---- the block of the first record

  -- a group behind the opening that stands has this opening
  pub record OpeningStands (o : Opening) (rest after other block request : List ℕ) (p : Opening) : Type 0 where
    pub same : p ≡ o
    pub behind : rest ++ after ≡ (ended block ++ (second_opening namespace number p ++ ended request)) ++ other

  pub opening_stands : (bytes rest : List ℕ) (o : Opening) → IsOpening o → bytes ≡ opening_text (id_of namespace ids.Response number) o ++ rest
      → (text : List ℕ) (parts : Parts namespace number text) (after other : List ℕ) → bytes ++ after ≡ text ++ other
      → OpeningStands o rest after other parts.block parts.request parts.opening
  opening_stands bytes rest o is composed text parts after other e =
      let id = id_of namespace ids.Response number in
      let second = second_opening namespace number parts.opening ++ ended parts.request in
      let apart : opening_text id o ++ (rest ++ after) ≡ opening_text id parts.opening ++ ((ended parts.block ++ second) ++ other) =
      sym (append_assoc (opening_text id o) rest after) ∙ sym (ap (λ t. t ++ after) composed) ∙ e ∙ ap (λ t. t ++ other) parts.composed
      ∙ ap (λ t. t ++ other) (append_assoc (opening_text id parts.opening) (ended parts.block) second)
      ∙ append_assoc (opening_text id parts.opening) (ended parts.block ++ second) other in
      let told = opening_told id o is parts.opening (rest ++ after) ((ended parts.block ++ second) ++ other) parts.right apart in
      record { same = sym told.0; behind = told.1 }

  pub no_block : (bytes rest : List ℕ) (stop : Stop) (o : Opening) → IsOpening o → bytes ≡ opening_text (id_of namespace ids.Response number) o ++ rest
      → RefusesBlock stop (opening_text (id_of namespace ids.Response number) o) bytes
      → (text : List ℕ) → Parts namespace number text → Refuses stop bytes text
  no_block bytes rest stop o is composed refused text parts = λ after other e.
      let stands = opening_stands bytes rest o is composed text parts after other e in
      let short : length (first_text namespace number o parts.block) < 2 ^ 63 =
      subst (λ p. length (first_text namespace number p parts.block) < 2 ^ 63) stands.same (first_shorter text parts) in
      let text_is : text ≡ first_text namespace number o parts.block ++ (second_opening namespace number o ++ ended parts.request) =
      parts.composed ∙ ap (λ p. whole_text namespace number p parts.block parts.request) stands.same in
      subst (λ t. Leaves stop bytes t) (sym text_is)
      (refuses_more stop bytes (first_text namespace number o parts.block) (second_opening namespace number o ++ ended parts.request)
      (refused parts.block short) after other (e ∙ ap (λ t. t ++ other) text_is))

  pub block_asks : (bytes : List ℕ) (stop : Stop) (o : Opening) → IsOpening o
      → AsksForBlock (opening_text (id_of namespace ids.Response number) o) bytes stop → AsksByStop namespace number bytes stop
  block_asks bytes Open o is asks = (
    inr (inr (record {
      o = o;
      before = opening_text (id_of namespace ids.Response number) o;
      len = asks.0;
      come = asks.1;
      right = is;
      is_before = inl refl;
      word = asks.2;
      composed = asks.3;
      ends = asks.4;
    })),
    refl,
  )
  block_asks bytes (Until n) o is asks = record {
    o = o;
    before = opening_text (id_of namespace ids.Response number) o;
    right = is;
    is_before = inl refl;
    block = asks;
  }
  block_asks bytes Wrong o is asks = tt
  block_asks bytes Memory o is asks = tt

  -- ---- the opening of the second record

  -- a group behind the first record that stands has this record
  pub record FirstStands (o p : Opening) (block come rest after other request text : List ℕ) : Type 0 where
    pub opening_is : p ≡ o
    pub block_is : come ≡ block
    pub text_is : text ≡ whole_text namespace number o block request
    pub behind : rest ++ after ≡ (second_opening namespace number o ++ ended request) ++ other

  pub first_stands : (bytes rest : List ℕ) (o : Opening) (block : List ℕ) → IsOpening o → bytes ≡ first_text namespace number o block ++ rest
      → length (first_text namespace number o block) < 2 ^ 63
      → (text : List ℕ) (parts : Parts namespace number text) (after other : List ℕ) → bytes ++ after ≡ text ++ other
      → FirstStands o parts.opening block parts.block rest after other parts.request text
  first_stands bytes rest o block is composed short text parts after other e =
      let id = id_of namespace ids.Response number in
      let stands = opening_stands bytes (ended block ++ rest) o is (composed ∙ append_assoc (opening_text id o) (ended block) rest) text parts after other e in
      let second = second_opening namespace number parts.opening ++ ended parts.request in
      let apart : ended block ++ (rest ++ after) ≡ ended parts.block ++ (second ++ other) =
      sym (append_assoc (ended block) rest after) ∙ stands.behind ∙ append_assoc (ended parts.block) second other in
      let told = block_told block parts.block (rest ++ after) (second ++ other) (block_shorter o block short)
      (block_shorter parts.opening parts.block (first_shorter text parts)) apart in
      record {
        opening_is = stands.same;
        block_is = sym told.0;
        text_is = parts.composed ∙ ap (λ p. whole_text namespace number p parts.block parts.request) stands.same
            ∙ ap (λ b. whole_text namespace number o b parts.request) (sym told.0);
        behind = told.1 ∙ ap (λ p. (second_opening namespace number p ++ ended parts.request) ++ other) stands.same;
      }

  pub no_second_opening : (bytes rest : List ℕ) (stop : Stop) (o : Opening) (block : List ℕ) → IsOpening o
      → bytes ≡ first_text namespace number o block ++ rest → length (first_text namespace number o block) < 2 ^ 63
      → Differs stop rest (second_opening namespace number o)
      → (text : List ℕ) → Parts namespace number text → Refuses stop bytes text
  no_second_opening bytes rest stop o block is composed short d text parts = λ after other e.
      let stands = first_stands bytes rest o block is composed short text parts after other e in
      subst (λ t. Leaves stop bytes t) (sym stands.text_is)
      (refuses_behind stop bytes (first_text namespace number o block) rest (second_opening namespace number o ++ ended parts.request) d.line composed
      (refuses_more stop rest (second_opening namespace number o) (ended parts.request) d.refuses) after other
      (e ∙ ap (λ t. t ++ other) stands.text_is))

  pub second_opening_asks : (bytes rest : List ℕ) (stop : Stop) (o : Opening) (block : List ℕ) → IsOpening o
      → bytes ≡ first_text namespace number o block ++ rest → Differs stop rest (second_opening namespace number o)
      → AsksByStop namespace number bytes stop
  second_opening_asks bytes rest Open o block is composed d = (
    inr (inl (record { o = o; block = block; come = rest; right = is; composed = composed; begins = d.ends refl })),
    refl,
  )
  second_opening_asks bytes rest (Until n) o block is composed d = absurd d.line
  second_opening_asks bytes rest Wrong o block is composed d = tt
  second_opening_asks bytes rest Memory o block is composed d = tt

  -- ---- the block of the second record

  abbrev pub before_request : Opening → List ℕ → List ℕ
  before_request o block = first_text namespace number o block ++ second_opening namespace number o

  regroup_text : (o : Opening) (block request : List ℕ) → before_request o block ++ ended request ≡ whole_text namespace number o block request
  regroup_text o block request = append_assoc (first_text namespace number o block) (second_opening namespace number o) (ended request)

  pub no_request : (bytes rest : List ℕ) (stop : Stop) (o : Opening) (block : List ℕ) → IsOpening o
      → bytes ≡ first_text namespace number o block ++ rest → length (first_text namespace number o block) < 2 ^ 63
      → RefusesBlock stop (before_request o block) bytes
      → (text : List ℕ) → Parts namespace number text → Refuses stop bytes text
  no_request bytes rest stop o block is composed short refused text parts = λ after other e.
      let stands = first_stands bytes rest o block is composed short text parts after other e in
      let text_is : text ≡ before_request o block ++ ended parts.request = stands.text_is ∙ sym (regroup_text o block parts.request) in
      subst (λ t. Leaves stop bytes t) (sym text_is)
      (refused parts.request (subst (λ t. length t < 2 ^ 63) text_is parts.short) after other (e ∙ ap (λ t. t ++ other) text_is))

  pub request_asks : (bytes : List ℕ) (stop : Stop) (o : Opening) (block : List ℕ) → IsOpening o
      → AsksForBlock (before_request o block) bytes stop → AsksByStop namespace number bytes stop
  request_asks bytes Open o block is asks = (
    inr (inr (record {
      o = o;
      before = before_request o block;
      len = asks.0;
      come = asks.1;
      right = is;
      is_before = inr (record { block = block; composed = refl });
      word = asks.2;
      composed = asks.3;
      ends = asks.4;
    })),
    refl,
  )
  request_asks bytes (Until n) o block is asks = record {
    o = o;
    before = before_request o block;
    right = is;
    is_before = inr (record { block = block; composed = refl });
    block = asks;
  }
  request_asks bytes Wrong o block is asks = tt
  request_asks bytes Memory o block is asks = tt

-- ---- what was found

pub found_in : (namespace : List ℕ) (number : ℕ) (bytes : List ℕ) (found : Found) (answer_rest request_rest : List ℕ) → IsOpening (opening_of found.opening)
    → IsAcceptedAs found.opening.uri.now found.opening.url
    → bytes ≡ first_text namespace number (opening_of found.opening) found.answer.now ++ answer_rest
    → bytes ≡ (before_request namespace number (opening_of found.opening) found.answer.now ++ ended found.request.now) ++ request_rest
    → length (before_request namespace number (opening_of found.opening) found.answer.now ++ ended found.request.now) < 2 ^ 63
    → found.first_len ≡ length bytes - length answer_rest → found.len ≡ length bytes - length request_rest
    → IsFoundIn namespace number bytes found
found_in namespace number bytes found answer_rest request_rest is target first whole short first_len len =
    let o = opening_of found.opening in
    let front = first_text namespace number o found.answer.now in
    let text_is : before_request namespace number o found.answer.now ++ ended found.request.now
    ≡ front ++ (second_opening namespace number o ++ ended found.request.now) =
    append_assoc front (second_opening namespace number o) (ended found.request.now) in
    let lens : found.len ≡ length (before_request namespace number o found.answer.now ++ ended found.request.now) =
    len ∙ length_before bytes (before_request namespace number o found.answer.now ++ ended found.request.now) request_rest whole in
    record {
      rest = request_rest;
      composed = whole ∙ ap (λ t. t ++ request_rest) text_is;
      opening = is;
      target = target;
      first_len = first_len ∙ length_before bytes front answer_rest first;
      len = lens ∙ ap length text_is;
      short = omega (arith, lens, short);
    }

-- ---- as the reader has it

module _ (namespace : List ℕ) (number : ℕ) (bytes id request_id : List ℕ) (id_is : id ≡ id_of namespace ids.Response number) where
  -- what is told of the block behind the opening
  pub first_front : (P : List ℕ → Type 0) (o : Opening) (rest : List ℕ) → bytes ≡ opening_text id o ++ rest → P (take (length bytes - length rest) bytes)
      → P (opening_text (id_of namespace ids.Response number) o)
  first_front P o rest composed told =
      subst P (front_taken bytes (opening_text (id_of namespace ids.Response number) o) rest (opening_told_by namespace number bytes id id_is o rest composed)) told

  module _ (request_id_is : request_id ≡ id_of namespace ids.Request number) (o : Opening) where
    pub second_told : (P : List ℕ → Type 0) → P (request_opening request_id id o.date o.uri) → P (second_opening namespace number o)
    second_told P told =
        subst (λ r. P (request_opening r (id_of namespace ids.Response number) o.date o.uri)) request_id_is
        (subst (λ i. P (request_opening request_id i o.date o.uri)) id_is told)

    pub request_at : (block answer_rest rest : List ℕ) → bytes ≡ first_text namespace number o block ++ answer_rest
        → answer_rest ≡ request_opening request_id id o.date o.uri ++ rest → bytes ≡ before_request namespace number o block ++ rest
    request_at block answer_rest rest first second =
        behind_both bytes (first_text namespace number o block) answer_rest (second_opening namespace number o) rest first
        (second_told (λ t. answer_rest ≡ t ++ rest) second)

    -- what is told of the block behind the second opening
    pub second_front : (P : List ℕ → Type 0) (block answer_rest rest : List ℕ) → bytes ≡ first_text namespace number o block ++ answer_rest
        → answer_rest ≡ request_opening request_id id o.date o.uri ++ rest → P (take (length bytes - length rest) bytes)
        → P (before_request namespace number o block)
    second_front P block answer_rest rest first second told =
        subst P (front_taken bytes (before_request namespace number o block) rest (request_at block answer_rest rest first second)) told
