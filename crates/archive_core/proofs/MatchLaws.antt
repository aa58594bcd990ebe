-- The payload of a new capture, and what it refers to.
use Rattle.std.proofs.Common.{◌≡◌, ℕ, ◌<◌, Bool, true, false, IsTrue, List, length, Option, Some, None, Result, Ok, Err, refl, sym, ap, subst, ◌∙◌, arith}
use Rattle.std.specs.Prelude.{IfSome, IsErrAnd}
use Rattle.sha1.specs.Sha1.{sha1}
use Rattle.capture.specs.BodyLaws.{BodiesHaveAPayload, CutWiresHaveAPayload, WiresHaveOnePayload}
use Rattle.capture.specs.Body.{IsWire}
use Rattle.capture.specs.Captures.{captures, HasPayload}
use Rattle.capture.specs.Growth.{Grows}
use Rattle.capture.specs.Soundness.{HasSoundCaptures}
use Rattle.capture.specs.Methods.{asks_for_head}
use Rattle.capture.specs.Payload.{IsPayload}
use Rattle.capture.specs.declared.book.Book.{Book}
use Rattle.capture.specs.declared.captured.Taken.{Taken}
use Rattle.capture.specs.declared.framing.Framing.{Framing}
use Rattle.warc_text.specs.Fits.{Fits}
use Rattle.archive_shelf.specs.Comparing.{CanRefer, RefersBy, IsRight, KeepsWire}
use Rattle.archive_shelf.specs.Contents.{Contents}
use Rattle.archive_shelf.specs.Laws.{LookedStaysRight}
use Rattle.archive_shelf.specs.declared.fault.StoreFault.{StoreFault}
use Rattle.archive_shelf.specs.declared.fault.StoreFault.TheVariants as stores
use Rattle.archive_shelf.specs.declared.looked.Looked.{Looked}
use Rattle.archive_payloads.specs.Choosing.{LooksOn}
use Rattle.archive_reading.specs.Decoding.{TellsFraming}
use Rattle.archive_core.specs.Matching.{FindsAmongAll, IsFramedBy}
use Rattle.archive_core.specs.Looking.{IsDigestOf, IsRightOf, LooksFor, RefersTo}
use Rattle.archive_reading.proofs.DecodeLaws.{one_framing}
use Rattle.archive_core.proofs.PayloadLaws.{HasOne, has_one, one_payload}

-- ---- the payload of a capture that fits

-- its payload
abbrev pub Has : Taken → List ℕ → Type 0
Has taken payload = HasPayload taken.cut taken.method taken.head taken.wire payload

-- its head tells a framing
pub tells_one : BodiesHaveAPayload → CutWiresHaveAPayload → (taken : Taken) → Fits taken → TellsFraming taken.method taken.head None → ⊥
tells_one whole cut_short taken fits none =
    let there = has_one whole cut_short taken fits in
    none taken.cut taken.wire there.payload (omega (arith, fits.short.wire)) there.has

module _ (whole : BodiesHaveAPayload) (cut_short : CutWiresHaveAPayload) (taken : Taken) (fits : Fits taken) (framing : Framing)
    (tells : TellsFraming taken.method taken.head (Some framing)) where
  there : HasOne taken.cut taken.method taken.head taken.wire
  there = has_one whole cut_short taken fits

  same : there.has.framing ≡ framing
  same =
      one_framing (asks_for_head taken.method) taken.head there.has.framing framing (there.has.parsed, there.has.whole, there.has.framed) tells

  -- its wire is one of that framing
  has_wire : IsWire taken.cut framing taken.wire
  has_wire = subst (λ (f : Framing). IsWire taken.cut f taken.wire) same there.has.wire_is

  -- what is decoded by that framing is its payload
  has_decoded : (payload : List ℕ) → IsPayload taken.cut framing taken.wire payload → Has taken payload
  has_decoded payload is = record {
    parsed = there.has.parsed;
    framing = there.has.framing;
    whole = there.has.whole;
    framed = there.has.framed;
    wire_is = there.has.wire_is;
    decoded = subst (λ (f : Framing). IsPayload taken.cut f taken.wire payload) (sym same) is;
  }

  -- and its payload is what is decoded so
  needs_framing : (payload : List ℕ) → Has taken payload → IsPayload taken.cut framing taken.wire payload
  needs_framing payload has =
      let its : has.framing ≡ framing =
      one_framing (asks_for_head taken.method) taken.head has.framing framing (has.parsed, has.whole, has.framed) tells in
      subst (λ (f : Framing). IsPayload taken.cut f taken.wire payload) its has.decoded

  pub framed_by : IsFramedBy taken framing
  framed_by = record { wire = has_wire; gives = has_decoded; needs = needs_framing }

-- a whole one, by its wire
module _ (taken : Taken) (framing : Framing) (framed : IsFramedBy taken framing) (cut : taken.cut ≡ false) (wire : List ℕ) (same : wire ≡ taken.wire) where
  pub wire_whole : IsWire false framing wire
  wire_whole = subst (λ (w : List ℕ). IsWire false framing w) (sym same) (subst (λ (b : Bool). IsWire b framing taken.wire) cut framed.wire)

  pub its_payload : (payload : List ℕ) → IsPayload false framing wire payload → Has taken payload
  its_payload payload is =
      framed.gives payload (subst (λ (b : Bool). IsPayload b framing taken.wire payload) (sym cut)
      (subst (λ (w : List ℕ). IsPayload false framing w payload) same is))

  pub its_decoded : (payload : List ℕ) → Has taken payload → IsPayload false framing wire payload
  its_decoded payload has =
      subst (λ (w : List ℕ). IsPayload false framing w payload) (sym same)
      (subst (λ (b : Bool). IsPayload b framing taken.wire payload) cut (framed.needs payload has))

-- the digest of its payload
pub digest_by : WiresHaveOnePayload → (taken : Taken) (digest payload : List ℕ) → Has taken payload → digest ≡ sha1 payload → IsDigestOf taken digest
digest_by one taken digest payload has is other too =
    is ∙ ap sha1 (one_payload one taken.cut taken.method taken.head taken.wire payload other has too)

-- ---- what it refers to

-- what was cut refers to nothing
pub refers_cut : BodiesHaveAPayload → CutWiresHaveAPayload → (now : Contents) (taken : Taken) → Fits taken → taken.cut ≡ true → RefersTo now taken None
refers_cut whole cut_short now taken fits cut =
    let there = has_one whole cut_short taken fits in
    record {
      can = subst (λ (b : Bool). CanRefer b now.seen None) (sym cut) refl;
      does = λ told. record {
        payload = there.payload;
        has = there.has;
        refers = subst (λ (b : Bool). RefersBy b now.seen (length (captures now.seen)) there.payload None) (sym cut) refl;
      };
    }

-- what was found among all captures is what a whole one refers to
refers_whole : (now : Contents) (taken : Taken) (payload : List ℕ) → Has taken payload → taken.cut ≡ false → (looked : Looked)
    → looked.upto ≡ length (captures now.seen) → IsRight now.tells now.seen payload looked → RefersTo now taken looked.same
refers_whole now taken payload has cut looked upto right = record {
  can = subst (λ (b : Bool). CanRefer b now.seen looked.same) (sym cut) (keeps looked.same right.earlier);
  does = λ told. record {
    payload = payload;
    has = has;
    refers = subst (λ (b : Bool). RefersBy b now.seen (length (captures now.seen)) payload looked.same) (sym cut)
        (subst (λ (n : ℕ). RefersBy false now.seen n payload looked.same) upto (right.finds told));
  };
}
  where
    keeps : (same : Option ℕ) → IfSome same (λ number. (number < looked.upto) × KeepsWire now.seen number) → IfSome same (λ number. KeepsWire now.seen number)
    keeps None earlier = tt
    keeps (Some number) earlier = earlier.1

-- all captures were looked at before
pub refers_before : BodiesHaveAPayload → CutWiresHaveAPayload → (now : Contents) (taken : Taken) → Fits taken → taken.cut ≡ false → (looked : Looked)
    → looked.upto ≡ length (captures now.seen) → IsRightOf now taken looked → RefersTo now taken looked.same
refers_before whole cut_short now taken fits cut looked upto right =
    let there = has_one whole cut_short taken fits in
    refers_whole now taken there.payload there.has cut looked upto (right there.payload there.has)

-- what looking among all captures answers
pub looks_for : (now : Contents) (taken : Taken) (payload : List ℕ) → Has taken payload → taken.cut ≡ false → (r : Result (Option ℕ) StoreFault)
    → FindsAmongAll now.tells now.seen payload r → LooksFor now taken r
looks_for now taken payload has cut (Ok same) finds =
    refers_whole now taken payload has cut (record { upto = length (captures now.seen); same = same }) refl finds
looks_for now taken payload has cut (Err (stores.Full count limit)) finds = finds
looks_for now taken payload has cut (Err stores.DiskFault) finds = tt
looks_for now taken payload has cut (Err (stores.Damaged at kept found)) finds = finds
looks_for now taken payload has cut (Err stores.Memory) finds = tt

-- ---- among all captures

module _ (tells : Bool) (book : Book) (payload : List ℕ) where
  pub finds_all : (looked : Looked) → LooksOn tells book payload (Ok looked) → FindsAmongAll tells book payload (Ok looked.same)
  finds_all looked looks = record {
    within = omega arith;
    earlier = subst (λ (n : ℕ). IfSome looked.same (λ number. (number < n) × KeepsWire book number)) looks.1 looks.0.earlier;
    finds = λ told. subst (λ (n : ℕ). RefersBy false book n payload looked.same) looks.1 (looks.0.finds told);
  }

  -- a fault that looking met is the answer
  finds_err : (fault : StoreFault) → LooksOn tells book payload (Err fault) → FindsAmongAll tells book payload (Err fault)
  finds_err (stores.Full count limit) looks = looks
  finds_err stores.DiskFault looks = tt
  finds_err (stores.Damaged at kept found) looks = looks
  finds_err stores.Memory looks = tt

  -- what a `?` hands out
  pub finds_exit : (fault : StoreFault) (r : Result (Option ℕ) StoreFault) → IsErrAnd r (λ y. y ≡ fault) → LooksOn tells book payload (Err fault)
      → FindsAmongAll tells book payload r
  finds_exit fault (Ok found) is looks = absurd is
  finds_exit fault (Err other) is looks = subst (λ (f : StoreFault). FindsAmongAll tells book payload (Err f)) (sym is) (finds_err fault looks)

-- ---- for those who store later

pub right_later : WiresHaveOnePayload → LookedStaysRight → (was now : Contents) (taken : Taken) (payload : List ℕ) (looked : Looked)
    → (IsTrue now.tells → HasSoundCaptures was.seen) → Grows was.seen now.seen → Has taken payload → IsRight now.tells was.seen payload looked
    → IsRightOf now taken looked
right_later one stays was now taken payload looked sound grows has right other too =
    subst (λ (p : List ℕ). IsRight now.tells now.seen p looked)
    (one_payload one taken.cut taken.method taken.head taken.wire payload other has too)
    (stays now.tells was.seen now.seen payload looked sound grows right)
