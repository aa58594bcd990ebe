-- Equal groups of one number are of equal captures: a request's text tells its method, and a response's text tells where
-- its head ends.
use Rattle.std.proofs.Common.{◌≡◌, ℕ, Bool, true, false, List, [], ◌++◌, refl, sym, ap, subst, ◌∙◌}
use Rattle.std.specs.Prelude.{Option, Some, None}
use Rattle.std.proofs.lemmas.List.{append_cancel_right}
use Rattle.httparse.specs.Grammar.{RequestHead, ResponseHead, ReadsResponse}
use Rattle.httparse.proofs.GrammarLemmas.{request_unique, response_unique, ReadsResponse-append}
use Rattle.capture.specs.WellFormed.{IsRequestOf, RespondsTo}
use Rattle.capture.specs.declared.captured.Taken.{Taken}
use Rattle.warc_text.specs.References.{Reference}
use Rattle.warc_text.specs.Groups.{answer_block, answer_cut, HasMessages, AreOneCapture, SayTheSame, EqualGroupsAreOfEqualCaptures}
use Rattle.warc_text.proofs.PrefixLaws.{groups_tell_their_captures}

-- one text is a request of one method
pub one_method : (m n text other : List ℕ) → text ≡ other → IsRequestOf m text → IsRequestOf n other → m ≡ n
one_method m n text other same is is₂ =
    let second : IsRequestOf n text = subst (IsRequestOf n) (sym same) is₂ in
    let heads = request_unique text is.head second.head is.wire second.wire is.whole.head.reads second.whole.head.reads in
    sym is.named ∙ ap (λ (h : RequestHead). h.method) heads.0 ∙ second.named

-- a head alone
record IsHead (text : List ℕ) : Type 0 where
  pub parsed : ResponseHead
  pub reads : ReadsResponse text parsed []

head_of : (cut : Bool) (method head wire : List ℕ) → RespondsTo cut method head wire → IsHead head
head_of false method head wire is = record { parsed = is.parsed; reads = is.head_is.whole.reads }
head_of true method head wire is = record { parsed = is.parsed; reads = is.head_is.whole.reads }

-- one text is one head and what follows it
one_head : (head wire front body : List ℕ) → IsHead head → IsHead front → head ++ wire ≡ front ++ body → (head ≡ front) × (wire ≡ body)
one_head head wire front body is is₂ same =
    let longer = ReadsResponse-append head is.parsed [] wire is.reads in
    let other : ReadsResponse (head ++ wire) is₂.parsed body =
    subst (λ t. ReadsResponse t is₂.parsed body) (sym same) (ReadsResponse-append front is₂.parsed [] body is₂.reads) in
    let bodies : wire ≡ body = (response_unique (head ++ wire) is.parsed is₂.parsed wire body longer other).1 in
    (append_cancel_right head front body (ap (λ w. head ++ w) (sym bodies) ∙ same), bodies)

-- the parts of two captures that both groups have are the same
pub record HasSameParts (x y : Taken) (s : Option Reference) : Type 0 where
  pub method : x.method ≡ y.method
  pub uri : x.uri ≡ y.uri
  pub date : x.date ≡ y.date
  pub request : x.request ≡ y.request
  pub head : x.head ≡ y.head
  pub wire : s ≡ None → x.wire ≡ y.wire
  pub cut : s ≡ None → x.cut ≡ y.cut

-- the block of the response has equal heads, and equal wires where it has any
same_block : (x y : Taken) (s t : Option Reference) → s ≡ t → HasMessages x s → HasMessages y t → answer_block x s ≡ answer_block y t → (x.head ≡ y.head) × (s ≡ None → x.wire ≡ y.wire)
same_block x y None None alike is is₂ same =
    let parts = one_head x.head x.wire y.head y.wire (head_of x.cut x.method x.head x.wire (is.response refl)) (head_of y.cut y.method y.head y.wire (is₂.response refl)) same in
    (parts.0, λ _. parts.1)
same_block x y (Some s) (Some t) alike is is₂ same = (same, λ none. cc)
same_block x y None (Some t) alike is is₂ same = cc
same_block x y (Some s) None alike is is₂ same = cc

same_cut : (x y : Taken) (s t : Option Reference) → s ≡ t → answer_cut x s ≡ answer_cut y t → s ≡ None → x.cut ≡ y.cut
same_cut x y None None alike same none = same
same_cut x y (Some s) t alike same none = cc
same_cut x y None (Some t) alike same none = cc

pub same_parts : (x y : Taken) (d e : List ℕ) (s t : Option Reference) → HasMessages x s → HasMessages y t → SayTheSame x y d e s t → HasSameParts x y s
same_parts x y d e s t is is₂ say =
    let blocks = same_block x y s t say.refers is is₂ say.block in
    record {
      method = one_method x.method y.method x.request y.request say.request is.request is₂.request;
      uri = say.target;
      date = say.date;
      request = say.request;
      head = blocks.0;
      wire = blocks.1;
      cut = same_cut x y s t say.refers say.cut;
    }

one_capture : (x y : Taken) (s : Option Reference) → HasSameParts x y s → AreOneCapture s x y
one_capture x y None parts = λ i. record {
  method = parts.method i;
  uri = parts.uri i;
  date = parts.date i;
  request = parts.request i;
  head = parts.head i;
  wire = parts.wire refl i;
  cut = parts.cut refl i;
}
one_capture x y (Some s) parts = λ i. record {
  method = parts.method i;
  uri = parts.uri i;
  date = parts.date i;
  request = parts.request i;
  head = parts.head i;
  wire = [];
  cut = false;
}

pub equal_groups_are_of_equal_captures : EqualGroupsAreOfEqualCaptures
equal_groups_are_of_equal_captures namespace number x y d e s t is is₂ messages messages₂ same =
    let say = groups_tell_their_captures namespace number x y d e s t is is₂ same in
    record {
      captures = one_capture x y s (same_parts x y d e s t messages messages₂ say);
      payload_digest = say.payload_digest;
      refers = say.refers;
    }
