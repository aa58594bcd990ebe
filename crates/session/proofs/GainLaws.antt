-- What is gained in one step after another.
use Rattle.std.proofs.Common.{◌≡◌, ℕ, ◌+◌, ◌-◌, ◌^◌, ◌<◌, Bool, List, [], ◌++◌, length, sym, ◌∙◌, ap, arith, append_assoc, length-append}
use Rattle.std.proofs.lemmas.List.{append-nil}
use Rattle.archive_shelf.specs.Contents.{Contents}
use Rattle.capture.specs.Faults.{RoseBy}
use Rattle.outside.specs.Records.{Links}
use Rattle.outside.specs.declared.dialer.Transcript.{Transcript}
use Rattle.outside.specs.declared.gate.Heard.{Heard}
use Rattle.session.specs.steps.Endings.{heard_now}
use Rattle.request_answer.specs.Gains.{Setting, World, Gains}
use Rattle.request_answer.specs.steps.Making.{Gained}
use Rattle.session.specs.steps.Gaining.{no_gains, both_gains}
use Rattle.request_answer.specs.Traces.{CountsMet}

pub behind_text : (a b text more : List ℕ) → b ≡ a ++ text → b ++ more ≡ a ++ (text ++ more)
behind_text a b text more e = ap (λ x. x ++ more) e ∙ append_assoc a text more

behind_log : (a b log more : List Transcript) → b ≡ a ++ log → b ++ more ≡ a ++ (log ++ more)
behind_log a b log more e = ap (λ (x : List Transcript). x ++ more) e ∙ append_assoc a log more

-- what is shorter than a list that others stand behind
shorter_before : (a b more : List ℕ) → b ≡ a ++ more → length b < 2 ^ 64 - 1 → length a < 2 ^ 64 - 1
shorter_before a b more e h = omega (arith, ap (λ (x : List ℕ). length x) e, length-append a more, h)

asked_on : (a b c m n : List ℕ) → (length b < 2 ^ 64 - 1 → b ≡ a ++ m) → (length c < 2 ^ 64 - 1 → c ≡ b ++ n)
    → length c < 2 ^ 64 - 1 → c ≡ a ++ (m ++ n)
asked_on a b c m n f g h = g h ∙ behind_text a b m n (f (shorter_before b c n (g h) h))

logged_on : (a b c : Links Transcript) (m n : List Transcript) → b ≡ record a { log = a.log ++ m } → c ≡ record b { log = b.log ++ n }
    → c ≡ record a { log = a.log ++ (m ++ n) }
logged_on a b c m n e f =
    f ∙ ap (λ (x : Links Transcript). record x { log = x.log ++ n }) e
    ∙ ap (λ (l : List Transcript). record a { log = l }) (append_assoc a.log m n)

none_before : (a b : ℕ) → a + b ≡ 0 → a ≡ 0
none_before a b z = omega (arith, z)

none_after : (a b : ℕ) → a + b ≡ 0 → b ≡ 0
none_after a b z = omega (arith, z)

rose_both : (a b x y z : ℕ) → RoseBy a x y → RoseBy b y z → RoseBy (a + b) x z
rose_both a b x y z h k = omega (arith, h, k)

pub met_both : (a b x y z : ℕ) → CountsMet a x y → CountsMet b y z → CountsMet (a + b) x z
met_both a b x y z h k = record {
  rose = rose_both a b x y z h.rose k.rose;
  steady = λ e. k.steady (none_after a b e) ∙ h.steady (none_before a b e);
}

stored_on : (a b c : Contents) (m n : List ℕ) → b ≡ record a { seen = b.seen; shown = b.shown; mine = a.mine ++ m }
    → c ≡ record b { seen = c.seen; shown = c.shown; mine = b.mine ++ n }
    → c ≡ record a { seen = c.seen; shown = c.shown; mine = a.mine ++ (m ++ n) }
stored_on a b c m n e f =
    f ∙ ap (λ (x : Contents). record x { seen = c.seen; shown = c.shown; mine = x.mine ++ n }) e
    ∙ ap (λ (l : List ℕ). record a { seen = c.seen; shown = c.shown; mine = l }) (append_assoc a.mine m n)

stored_none : (a : Contents) → a ≡ record a { seen = a.seen; shown = a.shown; mine = a.mine ++ [] }
stored_none a = ap (λ (l : List ℕ). record a { mine = l }) (sym (append-nil a.mine))

-- what was gained in one step, and then in others
pub gained_both : (alone : Bool) (setting : Setting) (was mid is : World) (first second : Gains)
    → Gained alone setting was mid first → Gained alone setting mid is second → Gained alone setting was is (both_gains first second)
gained_both alone setting was mid is first second h k = record {
  asked = λ told. asked_on was.answers mid.answers is.answers first.times second.times (h.asked told) (k.asked told);
  logged = logged_on was.links mid.links is.links first.transcripts second.transcripts h.logged k.logged;
  stored = stored_on was.shelf.contents mid.shelf.contents is.shelf.contents first.numbers second.numbers h.stored k.stored;
}

-- where nothing but the client was heard, nothing was gained
pub gained_none : (alone : Bool) (setting : Setting) (was : World) (now : Heard) → Gained alone setting was (heard_now was now) no_gains
gained_none alone setting was now = record {
  asked = λ _ _. sym (append-nil was.answers);
  logged = ap (λ (l : List Transcript). record was.links { log = l }) (sym (append-nil was.links.log));
  stored = stored_none was.shelf.contents;
}
