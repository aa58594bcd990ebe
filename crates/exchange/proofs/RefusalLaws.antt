-- The texts of refusals, which are put piece by piece.
use Rattle.std.proofs.Common.{◌≡◌, ◌≤◌, ℕ, List, [], ◌++◌, length, sym, ◌∙◌, ap, append_assoc, arith}
use Rattle.head_lines.specs.Statuses.{reason_phrase}
use Rattle.head_lines.specs.declared.status.Status.{Status}
use Rattle.head_lines.specs.declared.status.Status.TheVariants.{Ok, Found, BadRequest, NotFound, MethodNotAllowed, ContentTooLarge, HeadTooLarge, InternalServerError, NotImplemented, BadGateway, ServiceUnavailable, InsufficientStorage}

-- each reason phrase is short
pub reason_is_short : (s : Status) → length (reason_phrase s) ≤ 31
unfolding reason_phrase
reason_is_short Ok = omega arith
reason_is_short Found = omega arith
reason_is_short BadRequest = omega arith
reason_is_short NotFound = omega arith
reason_is_short MethodNotAllowed = omega arith
reason_is_short ContentTooLarge = omega arith
reason_is_short HeadTooLarge = omega arith
reason_is_short InternalServerError = omega arith
reason_is_short NotImplemented = omega arith
reason_is_short BadGateway = omega arith
reason_is_short ServiceUnavailable = omega arith
reason_is_short InsufficientStorage = omega arith

-- the start of an answer
pub start_is : (version code between reason ends type none a b c d text : List ℕ) → none ≡ [] → a ≡ none ++ version → b ≡ a ++ code → c ≡ b ++ between
    → d ≡ c ++ reason → text ≡ d ++ (ends ++ type) → text ≡ version ++ code ++ between ++ reason ++ ends ++ type
start_is version code between reason ends type none a b c d text start first second third fourth last =
    let front : d ≡ version ++ code ++ between ++ reason = fourth ∙ ap (λ l. l ++ reason) (third ∙ ap (λ l. l ++ between) (second ∙ ap (λ l. l ++ code) (first ∙ ap (λ l. l ++ version) start))) in
    last ∙ sym (append_assoc d ends type) ∙ ap (λ l. l ++ ends ++ type) front

-- the end of its head
pub end_is : (old name len ends close a b text behind : List ℕ) → a ≡ old ++ name → b ≡ a ++ len → behind ≡ ends ++ close ++ ends → text ≡ b ++ behind
    → text ≡ old ++ (name ++ len ++ ends ++ close ++ ends)
end_is old name len ends close a b text behind first second known last =
    let front : b ≡ old ++ (name ++ len) = second ∙ ap (λ l. l ++ len) first ∙ append_assoc old name len in
    let parts : (name ++ len) ++ (ends ++ close ++ ends) ≡ name ++ len ++ ends ++ close ++ ends =
    sym (append_assoc (name ++ len) (ends ++ close) ends) ∙ ap (λ l. l ++ ends) (sym (append_assoc (name ++ len) ends close)) in
    last ∙ ap (λ l. b ++ l) known ∙ ap (λ l. l ++ (ends ++ close ++ ends)) front ∙ append_assoc old (name ++ len) (ends ++ close ++ ends)
    ∙ ap (λ l. old ++ l) parts
