-- What was found in the bytes is the group that stands there.
use Rattle.std.proofs.Common.{◌≡◌, ℕ, ◌+◌, ◌<◌, ◌≤◌, ◌^◌, false, List, [], ◌∷◌, ◌++◌, length, Some, None, length-append, append_assoc, refl, sym, ap, subst, ◌∙◌, arith}
use Rattle.std.specs.Prelude.{Option, IfSome, IsTrue}
use Rattle.capture.specs.Captures.{is_cut, kept_wire, taken_back}
use Rattle.capture.specs.Target.{is_accepted_uri}
use Rattle.capture.specs.WellFormed.{IsRequestOf}
use Rattle.capture.specs.declared.captured.Kept.{Kept}
use Rattle.capture.specs.declared.captured.Kept.TheVariants.{Wire, Same, Cut}
use Rattle.capture.specs.declared.captured.Stored.{Stored}
use Rattle.time_text.specs.Texts.{InRange}
use Rattle.warc_text.specs.Groups.{answer_block, answer_cut}
use Rattle.warc_text.specs.Ids.{id_of}
use Rattle.warc_text.specs.Lines.{ended, length_lines, record_end}
use Rattle.warc_text.specs.Records.{answer_text, group_text}
use Rattle.warc_text.specs.References.{Reference}
use Rattle.warc_text.specs.declared.id.IdKind.TheVariants as ids
use Rattle.warc_text.proofs.Fronts.{fronts}
use Rattle.record_opening.specs.Openings.{Opening, opening_of, opening_text}
use Rattle.record_opening.specs.Stops.{Refuses}
use Rattle.record_opening.specs.declared.stop.Stop.{Stop}
use Rattle.record_opening.specs.declared.stop.Stop.TheVariants.{Open, Until, Wrong, Memory}
use Rattle.record_opening.proofs.BlockTold.{block_told}
use Rattle.warc_scan.specs.steps.Responses.{IsAnswerOf, IsMessageStop}
use Rattle.warc_scan.specs.steps.Founds.{AsksByStop, IsFound, IsFoundIn, IsGroupIn, first_record, second_record}
use Rattle.warc_scan.specs.Asking.{second_opening}
use Rattle.warc_scan.specs.Groups.{IsAnswer, IsGroup, reference_in}
use Rattle.warc_scan.specs.Answers.{BeginsWithGroup}
use Rattle.warc_scan.specs.declared.group.Group.{Group}
use Rattle.warc_scan.specs.declared.find.Found.{Found}
use Rattle.warc_scan.proofs.FindLaws.{FirstStands, first_stands, first_text, parts_of, whole_text}
use Rattle.warc_scan.proofs.FoundLaws.{block_by, cut_by}
use Rattle.warc_scan.proofs.GroupParts.{first_record_is, group_is, opening_in}

ended_length : (block : List ℕ) → length block + 4 ≤ length (ended block)
unfolding ended record_end
ended_length block =
    omega (arith, length-append (length_lines (length block) ++ block) (13 ∷ 10 ∷ 13 ∷ 10 ∷ []), length-append (length_lines (length block)) block)

-- ---- what was found is fit to be read

pub found_is : (namespace : List ℕ) (number : ℕ) (bytes : List ℕ) (found : Found) → IsFoundIn namespace number bytes found → IsFound found
found_is namespace number bytes found is =
    let opening = opening_text (id_of namespace ids.Response number) (opening_of found.opening) in
    record {
      opening = is.opening;
      target = is.target;
      places = omega (arith, is.first_len, length-append opening (ended found.answer.now), ended_length found.answer.now);
      short = omega (arith, is.first_len, is.len, is.short, length-append (first_record namespace number found) (second_record namespace number found));
    }

-- ---- what it makes is a group

module _ (namespace : List ℕ) (number : ℕ) (bytes : List ℕ) (found : Found) (is : IsFoundIn namespace number bytes found)
    (group : Group) (made : IsGroupIn number found group) where
  same_is : reference_in group.same ≡ (opening_of found.opening).same
  same_is = made.same

  answer_is : IsAnswer group.stored.method group.stored.head group.digest (reference_in group.same) group.stored.kept
  answer_is =
      subst (λ d. IsAnswer group.stored.method group.stored.head d (reference_in group.same) group.stored.kept) (sym made.digest)
      (subst (λ s. IsAnswer group.stored.method group.stored.head found.opening.digest s group.stored.kept) (sym made.same) made.answer.answer)

  block_is : answer_block (taken_back group.stored) (reference_in group.same) ≡ found.answer.now
  block_is =
      block_by group.stored group.digest found.answer.now (reference_in group.same) group.stored.kept refl answer_is made.answer.composed

  cut_is : answer_cut (taken_back group.stored) (reference_in group.same) ≡ found.opening.cut
  cut_is = cut_by group.stored (reference_in group.same) found.opening.cut made.answer.cut_is
      (subst (λ (s : Option Reference). IfSome s (λ reference. found.opening.cut ≡ false)) (sym made.same) is.opening.whole)

  opening_is : opening_in (taken_back group.stored) group.digest (reference_in group.same) ≡ opening_of found.opening
  opening_is = λ i. record { date = made.date i; uri = made.target i; digest = made.digest i; cut = cut_is i; same = made.same i }

  first_is : answer_text (id_of namespace ids.Response number) (taken_back group.stored) group.digest (reference_in group.same)
      ≡ first_record namespace number found
  first_is =
      first_record_is (id_of namespace ids.Response number) (taken_back group.stored) group.digest (reference_in group.same)
      ∙ ap (λ (o : Opening). first_text namespace number o (answer_block (taken_back group.stored) (reference_in group.same))) opening_is
      ∙ ap (λ (b : List ℕ). first_text namespace number (opening_of found.opening) b) block_is

  text_is : group_text namespace number (taken_back group.stored) group.digest (reference_in group.same)
      ≡ first_record namespace number found ++ second_record namespace number found
  text_is =
      group_is namespace number (taken_back group.stored) group.digest (reference_in group.same)
      ∙ ap (λ (o : Opening). whole_text namespace number o (answer_block (taken_back group.stored) (reference_in group.same)) group.stored.request) opening_is
      ∙ ap (λ (b : List ℕ). whole_text namespace number (opening_of found.opening) b group.stored.request) block_is
      ∙ ap (λ (r : List ℕ). whole_text namespace number (opening_of found.opening) found.answer.now r) made.request_is

  pub found_group : BeginsWithGroup namespace number bytes group
  found_group = record {
    text = first_record namespace number found ++ second_record namespace number found;
    rest = is.rest;
    composed = is.composed;
    is = record {
      number_is = made.number_is;
      composed = sym text_is;
      short = omega (arith, is.len, is.short);
      target = subst (λ u. IsTrue (is_accepted_uri u)) (sym made.target) is.opening.target;
      date = subst InRange (sym made.date) is.opening.date_is;
      request = subst (IsRequestOf group.stored.method) (sym made.request_is) made.request;
      answer = answer_is;
      payload_len = made.payload_len;
      places = record {
        len = made.len ∙ is.len;
        first_len = made.first_len ∙ is.first_len ∙ ap length (sym first_is);
        head = omega (arith, made.head_at, is.first_len, ap length first_is, ap length block_is);
        body = made.body_at;
      };
    };
  }

-- ---- and each group that stands there is one that it makes

-- the block is the head and what is kept
block_of : (stored : Stored) (digest : List ℕ) (same : Option Reference) → IsAnswer stored.method stored.head digest same stored.kept
    → answer_block (taken_back stored) same ≡ stored.head ++ kept_wire stored.kept
block_of stored digest same answer = block_by stored digest (stored.head ++ kept_wire stored.kept) same stored.kept refl answer refl

some_is_no_none : (r : Reference) (same : Option Reference) → same ≡ Some r → same ≡ None → ⊥
some_is_no_none r same p q = cc

pub cut_of : (stored : Stored) (digest : List ℕ) (same : Option Reference) (kept : Kept) → stored.kept ≡ kept
    → IsAnswer stored.method stored.head digest same kept → answer_cut (taken_back stored) same ≡ is_cut stored.kept
cut_of stored digest None kept e answer = refl
cut_of stored digest (Some r) (Wire wire) e answer = absurd (some_is_no_none r (Some r) refl answer.0)
cut_of stored digest (Some r) (Cut wire) e answer = absurd (some_is_no_none r (Some r) refl answer.0)
cut_of stored digest (Some r) (Same number) e answer = sym (ap is_cut e)

request_small : (namespace : List ℕ) (number : ℕ) (o : Opening) (block request : List ℕ) → length (whole_text namespace number o block request) < 2 ^ 63
    → length request < 2 ^ 64
request_small namespace number o block request short =
    omega (
      arith,
      short,
      ended_length request,
      length-append (first_text namespace number o block) (second_opening namespace number o ++ ended request),
      length-append (second_opening namespace number o) (ended request),
    )

module _ (namespace : List ℕ) (number : ℕ) (bytes : List ℕ) (found : Found) (is : IsFoundIn namespace number bytes found)
    (text : List ℕ) (group : Group) (there : IsGroup namespace number text group) (after other : List ℕ) (e : bytes ++ after ≡ text ++ other) where
  abbrev said : Opening
  said = opening_of found.opening

  first_short : length (first_text namespace number said found.answer.now) < 2 ^ 63
  first_short = omega (arith, is.len, is.short, length-append (first_record namespace number found) (second_record namespace number found))

  stands : FirstStands namespace number said (parts_of namespace number text group there).opening found.answer.now (parts_of namespace number text group there).block
      (second_record namespace number found ++ is.rest) after other (parts_of namespace number text group there).request text
  stands =
      first_stands namespace number bytes (second_record namespace number found ++ is.rest) said found.answer.now is.opening
      (is.composed ∙ append_assoc (first_record namespace number found) (second_record namespace number found) is.rest) first_short
      text (parts_of namespace number text group there) after other e

  opening_told_ : opening_in (taken_back group.stored) group.digest (reference_in group.same) ≡ said
  opening_told_ = stands.opening_is

  block_told_ : answer_block (taken_back group.stored) (reference_in group.same) ≡ found.answer.now
  block_told_ = stands.block_is

  text_told : text ≡ whole_text namespace number said found.answer.now group.stored.request
  text_told = stands.text_is

  request_told : found.request.now ≡ group.stored.request
  request_told =
      let so = second_opening namespace number said in
      let apart : so ++ (ended found.request.now ++ (is.rest ++ after)) ≡ so ++ (ended group.stored.request ++ other) =
      sym (ap (λ t. t ++ after) (append_assoc so (ended found.request.now) is.rest) ∙ append_assoc so (ended found.request.now ++ is.rest) after
      ∙ ap (λ t. so ++ t) (append_assoc (ended found.request.now) is.rest after))
      ∙ stands.behind ∙ append_assoc so (ended group.stored.request) other in
      let behind = (fronts so so (ended found.request.now ++ (is.rest ++ after)) (ended group.stored.request ++ other) refl apart).1 in
      (block_told found.request.now group.stored.request (is.rest ++ after) other
      (request_small namespace number said found.answer.now found.request.now (omega (arith, is.len, is.short)))
      (request_small namespace number said found.answer.now group.stored.request (subst (λ t. length t < 2 ^ 63) text_told there.short)) behind).0

  first_told : answer_text (id_of namespace ids.Response number) (taken_back group.stored) group.digest (reference_in group.same)
      ≡ first_record namespace number found
  first_told =
      first_record_is (id_of namespace ids.Response number) (taken_back group.stored) group.digest (reference_in group.same)
      ∙ ap (λ (o : Opening). first_text namespace number o (answer_block (taken_back group.stored) (reference_in group.same))) opening_told_
      ∙ ap (λ (b : List ℕ). first_text namespace number said b) block_told_

  group_len : group.len ≡ found.len
  group_len =
      there.places.len ∙ ap length (text_told ∙ ap (λ (r : List ℕ). whole_text namespace number said found.answer.now r) (sym request_told)) ∙ sym is.len

  pub group_there : IsGroupIn number found group
  group_there = record {
    number_is = there.number_is;
    date = ap (λ (o : Opening). o.date) opening_told_;
    target = ap (λ (o : Opening). o.uri) opening_told_;
    digest = ap (λ (o : Opening). o.digest) opening_told_;
    same = ap (λ (o : Opening). o.same) opening_told_;
    request_is = sym request_told;
    request = subst (IsRequestOf group.stored.method) (sym request_told) there.request;
    answer = record {
      composed = sym block_told_ ∙ block_of group.stored group.digest (reference_in group.same) there.answer;
      cut_is = sym (cut_of group.stored group.digest (reference_in group.same) group.stored.kept refl there.answer) ∙ ap (λ (o : Opening). o.cut) opening_told_;
      answer =
          subst (λ d. IsAnswer group.stored.method group.stored.head d said.same group.stored.kept) (ap (λ (o : Opening). o.digest) opening_told_)
          (subst (λ s. IsAnswer group.stored.method group.stored.head group.digest s group.stored.kept) (ap (λ (o : Opening). o.same) opening_told_) there.answer);
    };
    payload_len = there.payload_len;
    len = group_len;
    first_len = there.places.first_len ∙ ap length first_told ∙ sym is.first_len;
    head_at = omega (arith, there.places.head, ap length first_told, is.first_len, ap length block_told_);
    body_at = there.places.body;
  }

-- ---- what the reader answers

pub refused_by : (namespace : List ℕ) (number : ℕ) (bytes : List ℕ) (found : Found) → IsFoundIn namespace number bytes found
    → (stop : Stop) → IsMessageStop stop
    → (stop ≡ Wrong → (method head : List ℕ) (kept : Kept) → IsRequestOf method found.request.now → IsAnswerOf method found.answer.now found.opening head kept → ⊥)
    → (text : List ℕ) (group : Group) → IsGroup namespace number text group → Refuses stop bytes text
refused_by namespace number bytes found is Open stops wrong text group there = absurd stops
refused_by namespace number bytes found is (Until n) stops wrong text group there = absurd stops
refused_by namespace number bytes found is Wrong stops wrong text group there = λ after other e.
    let made = group_there namespace number bytes found is text group there after other e in
    wrong refl group.stored.method group.stored.head group.stored.kept made.request made.answer
refused_by namespace number bytes found is Memory stops wrong text group there = λ after other e. tt

pub asked_by : (namespace : List ℕ) (number : ℕ) (bytes : List ℕ) (stop : Stop) → IsMessageStop stop → AsksByStop namespace number bytes stop
asked_by namespace number bytes Open stops = absurd stops
asked_by namespace number bytes (Until n) stops = absurd stops
asked_by namespace number bytes Wrong stops = tt
asked_by namespace number bytes Memory stops = tt
