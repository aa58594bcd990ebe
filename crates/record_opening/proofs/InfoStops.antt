-- Why no warcinfo stands first, or one that goes on.
use Rattle.std.proofs.Common.{◌≡◌, ℕ, ◌+◌, ◌<◌, inl, inr, List, ◌++◌, length, length-append, append_assoc, refl, sym, ap, subst, ◌∙◌, arith}
use Rattle.httparse.specs.Ascii.{crlf_bytes}
use Rattle.warc_text.specs.Ids.{IsUuid, id_of, uuid_text}
use Rattle.warc_text.specs.Lines.{record_end, volume_line}
use Rattle.warc_text.specs.Records.{info_text}
use Rattle.warc_text.specs.declared.id.IdKind.TheVariants as ids
use Rattle.warc_text.specs.declared.kind.RecordKind.TheVariants as kinds
use Rattle.warc_text.proofs.Fronts.{fronts}
use Rattle.warc_text.proofs.IdLaws.{id_is_uuid}
use Rattle.warc_text.proofs.LengthLaws.{length-opening, length-uuid_text, length_of_info}
use Rattle.record_opening.specs.InfoParts.{EndsInFront, IsInfoLen, info_front, info_middle}
use Rattle.record_opening.specs.steps.InfoFronts.{IsInfoFront, NoNamespaceStands, front_of_info}
use Rattle.record_opening.specs.Infos.{IsInfo}
use Rattle.record_opening.specs.OpenValues.{IsPartOfUuid}
use Rattle.record_opening.specs.InfoAnswers.{InfosReach}
use Rattle.record_opening.specs.Stops.{Differs, IsLineStop, Leaves, NoneStands, NoValueStands, Refuses}
use Rattle.record_opening.specs.declared.stop.Stop.{Stop}
use Rattle.record_opening.specs.declared.stop.Stop.TheVariants.{Open, Memory}
use Rattle.record_opening.proofs.InfoFronts.{front_told, info_is, info_tail}
use Rattle.record_opening.proofs.Refusals.{memory_is_not_open, refuses_behind, refuses_more}
use Rattle.record_opening.proofs.UuidFronts.{part_of_uuid, uuid_told}

-- each warcinfo of this volume is refused
abbrev pub RefusesInfos : ℕ → Stop → List ℕ → Type 0
RefusesInfos volume stop bytes = (text namespace : List ℕ) (born len : ℕ) → IsInfo volume text namespace born len → Refuses stop bytes text

module _ (volume : ℕ) (bytes : List ℕ) where
  -- ---- no lines up to a date stand

  pub front_refuses : (stop : Stop) → NoneStands IsInfoFront front_of_info stop bytes → RefusesInfos volume stop bytes
  front_refuses stop none text namespace born len is =
      let id = id_of namespace ids.Info volume in
      subst (λ t. Refuses stop bytes t) (sym (is.composed ∙ info_is namespace volume born))
      (refuses_more stop bytes (info_front id born ++ (info_middle volume ++ uuid_text namespace)) (info_tail volume)
      (refuses_more stop bytes (info_front id born) (info_middle volume ++ uuid_text namespace)
      (none.refuses (id, born) (id_is_uuid namespace ids.Info volume, is.date))))

  pub front_ends : (stop : Stop) → stop ≡ Open → NoneStands IsInfoFront front_of_info stop bytes → EndsInFront bytes
  front_ends stop open_ none =
      let some = none.ends open_ in
      record { id = some.0.0; born = some.0.1; id_is = some.1.0; date = some.1.1; ends = some.2 }

  -- ---- they stand, but nothing of a namespace behind them

  module _ (id : List ℕ) (born : ℕ) (rest : List ℕ) (id_is : IsUuid id) (composed : bytes ≡ info_front id born ++ rest) where
    -- a warcinfo that stands has this date, and goes on so
    pub record FrontStands (namespace after other : List ℕ) (date : ℕ) : Type 0 where
      pub same : born ≡ date
      pub front : info_front id born ≡ info_front (id_of namespace ids.Info volume) date
      pub behind : rest ++ after ≡ (info_middle volume ++ uuid_text namespace) ++ (info_tail volume ++ other)

    pub front_is : (text namespace after other : List ℕ) (date len : ℕ) → IsInfo volume text namespace date len → bytes ++ after ≡ text ++ other
        → FrontStands namespace after other date
    front_is text namespace after other date len is e =
        let its = id_of namespace ids.Info volume in
        let lines = info_middle volume ++ uuid_text namespace in
        let whole : info_front id born ++ (rest ++ after) ≡ info_front its date ++ (lines ++ (info_tail volume ++ other)) =
        sym (append_assoc (info_front id born) rest after) ∙ sym (ap (λ t. t ++ after) composed) ∙ e
        ∙ ap (λ t. t ++ other) (is.composed ∙ info_is namespace volume date)
        ∙ append_assoc (info_front its date ++ lines) (info_tail volume) other
        ∙ append_assoc (info_front its date) lines (info_tail volume ++ other) in
        let told = front_told id born id_is (its, date) (rest ++ after) (lines ++ (info_tail volume ++ other)) (id_is_uuid namespace ids.Info volume, is.date) whole in
        record { same = ap (λ (p : List ℕ × ℕ). p.1) told.0; front = ap front_of_info told.0; behind = told.1 }

    -- so its length is known
    pub date_reaches : (n : ℕ) → IsInfoLen volume born n → InfosReach volume bytes n
    date_reaches n long after namespace date len begins =
        let stands = front_is begins.text namespace after begins.rest date len begins.is begins.composed in
        omega (arith, long namespace, ap (λ d. length (info_text namespace volume d)) stands.same, ap length begins.is.composed, begins.is.len_is)

    -- what the lines up to the namespace and that itself refuse
    lines_refuse : (stop : Stop) → IsLineStop stop → ((namespace : List ℕ) → IsUuid namespace → Refuses stop rest (info_middle volume ++ uuid_text namespace))
        → RefusesInfos volume stop bytes
    lines_refuse stop line refused text namespace date len is = λ after other e.
        let stands = front_is text namespace after other date len is e in
        let lines = info_middle volume ++ uuid_text namespace in
        let text_is : text ≡ (info_front id born ++ lines) ++ info_tail volume =
        is.composed ∙ info_is namespace volume date ∙ ap (λ t. (t ++ lines) ++ info_tail volume) (sym stands.front) in
        subst (λ t. Leaves stop bytes t) (sym text_is)
        (refuses_more stop bytes (info_front id born ++ lines) (info_tail volume)
        (refuses_behind stop bytes (info_front id born) rest lines line composed (refused namespace is.namespace_is))
        after other (e ∙ ap (λ t. t ++ other) text_is))

    length_of_lines : (namespace : List ℕ) → length (info_front id born) + length (info_middle volume) + 36 < length (info_text namespace volume born)
    length_of_lines namespace =
        let its = id_of namespace ids.Info volume in
        let lines = info_middle volume ++ uuid_text namespace in
        omega (
          arith,
          ap length (info_is namespace volume born),
          length-append (info_front its born ++ lines) (info_tail volume),
          length-append (info_front its born) lines,
          length-append (info_middle volume) (uuid_text namespace),
          length-uuid_text namespace,
          length-opening kinds.Info id born,
          length-opening kinds.Info its born,
          length-append crlf_bytes (volume_line volume ++ record_end),
        )

    short_of_lines : (namespace : List ℕ) → length rest < length (info_middle volume) + 36 → length bytes < length (info_text namespace volume born)
    short_of_lines namespace short = omega (arith, short, length_of_lines namespace, ap length composed, length-append (info_front id born) rest)

    pub no_middle : (stop : Stop) → Differs stop rest (info_middle volume) → NoNamespaceStands volume born stop bytes
    no_middle stop d = record {
      refuses = lines_refuse stop d.line (λ namespace is. refuses_more stop rest (info_middle volume) (uuid_text namespace) d.refuses);
      line = d.line;
      ends = λ open_. inl (record { id = id; come = rest; id_is = id_is; composed = composed; ends = inl (d.ends open_) });
      inside = λ open_ namespace.
          let is = d.ends open_ in
          short_of_lines namespace (omega (arith, ap length is.composed, length-append rest is.behind, is.more));
    }

    pub no_namespace : (stop : Stop) (named : List ℕ) → rest ≡ info_middle volume ++ named → (stop ≡ Open → length named < 36)
        → NoValueStands IsUuid uuid_text IsPartOfUuid stop named → NoNamespaceStands volume born stop bytes
    no_namespace stop named e short none = record {
      refuses = lines_refuse stop none.line
          (λ namespace is. refuses_behind stop rest (info_middle volume) named (uuid_text namespace) none.line e (none.refuses namespace is));
      line = none.line;
      ends = λ open_. inl (record { id = id; come = rest; id_is = id_is; composed = composed; ends = inr (named, e, part_of_uuid named stop none open_) });
      inside = λ open_ namespace.
          short_of_lines namespace (omega (arith, short open_, ap length e, length-append (info_middle volume) named));
    }

    -- ---- the namespace stands, and the text is known

    module _ (namespace named behind : List ℕ) (is : IsUuid namespace) (e : rest ≡ info_middle volume ++ named) (read : named ≡ uuid_text namespace ++ behind) where
      same_namespace : (other : List ℕ) (after last : List ℕ) → IsUuid other → rest ++ after ≡ (info_middle volume ++ uuid_text other) ++ last → namespace ≡ other
      same_namespace other after last was whole =
          let middle = info_middle volume in
          let apart : middle ++ (named ++ after) ≡ middle ++ (uuid_text other ++ last) =
          sym (append_assoc middle named after) ∙ sym (ap (λ t. t ++ after) e) ∙ whole ∙ append_assoc middle (uuid_text other) last in
          let values : uuid_text namespace ++ (behind ++ after) ≡ uuid_text other ++ last =
          sym (append_assoc (uuid_text namespace) behind after) ∙ sym (ap (λ t. t ++ after) read)
          ∙ (fronts middle middle (named ++ after) (uuid_text other ++ last) refl apart).1 in
          (uuid_told namespace is other (behind ++ after) last was values).0

      other_text : (stop : Stop) → Differs stop bytes (info_text namespace volume born) → NoNamespaceStands volume born stop bytes
      other_text stop d = record {
        refuses = λ text other date len there after last whole.
            let stands = front_is text other after last date len there whole in
            let same = same_namespace other after (info_tail volume ++ last) there.namespace_is stands.behind in
            let text_is : text ≡ info_text namespace volume born =
            there.composed ∙ ap (λ t. info_text t volume date) (sym same) ∙ ap (λ d. info_text namespace volume d) (sym stands.same) in
            subst (λ t. Leaves stop bytes t) (sym text_is) (d.refuses after last (whole ∙ ap (λ t. t ++ last) text_is));
        line = d.line;
        ends = λ open_. inr (record { namespace = namespace; namespace_is = is; begins = d.ends open_ });
        inside = λ open_ other.
            let begins = d.ends open_ in
            omega (arith, ap length begins.composed, length-append bytes begins.behind, begins.more, length_of_info namespace volume born, length_of_info other volume born);
      }

      pub no_text : (stop : Stop) (written : List ℕ) → written ≡ info_text namespace volume born → Differs stop bytes written
          → NoNamespaceStands volume born stop bytes
      no_text stop written writes d = other_text stop (subst (λ t. Differs stop bytes t) writes d)

  pub no_memory : (born : ℕ) → NoNamespaceStands volume born Memory bytes
  no_memory born = record {
    refuses = λ text namespace date len is after other e. tt;
    line = tt;
    ends = λ is. absurd (memory_is_not_open Memory Open refl refl is);
    inside = λ is. absurd (memory_is_not_open Memory Open refl refl is);
  }
