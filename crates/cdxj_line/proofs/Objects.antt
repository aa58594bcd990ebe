-- The text of a line's JSON object: in which pieces it is written, and that it reads as that object.
use Rattle.std.proofs.Common.{◌≡◌, ℕ, ◌≤◌, List, [], ◌∷◌, ◌++◌, Bool, true, false, Some, refl, ap, sym, ◌∙◌, arith}
use Rattle.std.specs.Prelude.{max, option_and_then, codes}
use Rattle.std.specs.Fmt.{decimal}
use Rattle.std.proofs.lemmas.List.{append-nil, append_assoc}
use Rattle.digest32.specs.Base32.{base32}
use Rattle.json.specs.Json.{if_last, value}
use Rattle.json.specs.Lex.{tokens}
use Rattle.json.specs.Print.{quoted, escape, escape_byte}
use Rattle.json.specs.Tree as tree
use Rattle.json.proofs.Printed.Tokens.{tokens-print}
use Rattle.json.proofs.Printed.Trees.{value-json_tokens, ArePrintable-json_tokens}
use Rattle.serde_json.specs.Data.{object}
use Rattle.serde_json.specs.Read.{read, of_json, max_depth}
use Rattle.serde_json.specs.Written.{compact_text, outline, members_outline}
use Rattle.serde_json.proofs.Texts.{print-outline}
use Rattle.cdxj_line.specs.Lines.{file_name, strings, members_of, object_of, object_text}
use Rattle.time_text.specs.Texts.{time_digits}
use Rattle.cdxj_line.specs.steps.Shown.{joined}
use Rattle.cdxj_line.specs.steps.Written.{first_members, further_member, last_members, member_text, number_members}
use Rattle.cdxj_line.specs.declared.line.Line.{Line}

-- ---- in pieces

flat_five : (a1 q1 a2 q2 a3 q3 a4 q4 a5 q5 rest : List ℕ) → ((a1 ++ q1) ++ (a2 ++ q2) ++ (a3 ++ q3) ++ (a4 ++ q4) ++ (a5 ++ q5)) ++ rest
    ≡ a1 ++ (q1 ++ (a2 ++ (q2 ++ (a3 ++ (q3 ++ (a4 ++ (q4 ++ (a5 ++ (q5 ++ rest)))))))))
flat_five a1 q1 a2 q2 a3 q3 a4 q4 a5 q5 rest = simp append_assoc

flat_three : (a1 q1 a2 q2 a3 q3 rest : List ℕ) → ((a1 ++ q1) ++ (a2 ++ q2) ++ (a3 ++ q3)) ++ rest ≡ a1 ++ (q1 ++ (a2 ++ (q2 ++ (a3 ++ (q3 ++ rest)))))
flat_three a1 q1 a2 q2 a3 q3 rest = simp append_assoc

flat_last : (a q b u c k z : List ℕ) → (a ++ q) ++ (b ++ u) ++ (c ++ k) ++ z ≡ a ++ (q ++ (b ++ (u ++ (c ++ (k ++ z)))))
flat_last a q b u c k z = simp append_assoc

flat_short : (b u z : List ℕ) → [] ++ (b ++ u) ++ [] ++ z ≡ b ++ (u ++ z)
flat_short b u z = simp (append_assoc, append-nil)

-- the first eight members before the rest of the object
eight_members : (line : Line) (rest : List ℕ) → first_members line ++ (number_members line ++ rest)
    ≡ codes "{\"digest\":" ++ (quoted (base32 line.digest) ++ (codes ",\"filename\":" ++ (quoted (file_name line.volume)
    ++ (codes ",\"length\":" ++ (quoted (decimal line.length) ++ (codes ",\"method\":" ++ (quoted line.method ++ (codes ",\"mime\":" ++ (quoted line.mime
    ++ (codes ",\"number\":" ++ (quoted (decimal line.number) ++ (codes ",\"offset\":" ++ (quoted (decimal line.offset) ++ (codes ",\"status\":" ++ (quoted (decimal line.status)
    ++ rest)))))))))))))))
unfolding first_members number_members member_text
eight_members line rest =
    let numbers = number_members line ++ rest in
    flat_five (codes "{\"digest\":") (quoted (base32 line.digest)) (codes ",\"filename\":") (quoted (file_name line.volume)) (codes ",\"length\":") (quoted (decimal line.length))
    (codes ",\"method\":") (quoted line.method) (codes ",\"mime\":") (quoted line.mime) numbers
    ∙ ap (λ (r : List ℕ). codes "{\"digest\":" ++ (quoted (base32 line.digest) ++ (codes ",\"filename\":" ++ (quoted (file_name line.volume)
    ++ (codes ",\"length\":" ++ (quoted (decimal line.length) ++ (codes ",\"method\":" ++ (quoted line.method ++ (codes ",\"mime\":" ++ (quoted line.mime ++ r))))))))))
    (flat_three (codes ",\"number\":") (quoted (decimal line.number)) (codes ",\"offset\":") (quoted (decimal line.offset)) (codes ",\"status\":") (quoted (decimal line.status)) rest)

pub object_pieces : (further : Bool) (line : Line) → first_members line ++ (number_members line ++ last_members further line) ≡ object_text further line
unfolding object_text last_members further_member member_text escape_byte
object_pieces true line =
    ap (λ (r : List ℕ). first_members line ++ (number_members line ++ r))
    (flat_last (codes ",\"timestamp\":") (quoted (time_digits line.date)) (codes ",\"url\":") (quoted line.url) (codes ",\"urlkey\":") (quoted line.key) (codes "}"))
    ∙ eight_members line _
object_pieces false line =
    ap (λ (r : List ℕ). first_members line ++ (number_members line ++ r)) (flat_short (codes ",\"url\":") (quoted line.url) (codes "}"))
    ∙ eight_members line _

three_put : (f n l o0 o1 o2 o3 : List ℕ) → o1 ≡ o0 ++ f → o2 ≡ o1 ++ n → o3 ≡ o2 ++ l → o3 ≡ o0 ++ (f ++ (n ++ l))
three_put f n l o0 o1 o2 o3 h1 h2 h3 = h3 ∙ ap (λ t. t ++ l) (h2 ∙ ap (λ t. t ++ n) h1) ∙ simp append_assoc

pub object_put : (further : Bool) (line : Line) (o0 o1 o2 o3 : List ℕ) → o1 ≡ o0 ++ first_members line → o2 ≡ o1 ++ number_members line → o3 ≡ o2 ++ last_members further line
    → o3 ≡ o0 ++ object_text further line
object_put further line o0 o1 o2 o3 h1 h2 h3 =
    three_put (first_members line) (number_members line) (last_members further line) o0 o1 o2 o3 h1 h2 h3 ∙ ap (λ (t : List ℕ). o0 ++ t) (object_pieces further line)

-- ---- what it reads as

HasNumbers-strings : (pairs : List (List ℕ × List ℕ)) → tree.MembersHaveNumbers (members_outline (strings pairs))
HasNumbers-strings [] = tt
HasNumbers-strings (pair ∷ pairs) = (tt, HasNumbers-strings pairs)

depth-strings : (pairs : List (List ℕ × List ℕ)) → tree.members_depth (members_outline (strings pairs)) ≡ 0
depth-strings [] = refl
depth-strings (pair ∷ pairs) = ap (max 0) (depth-strings pairs)

tokens-object : (pairs : List (List ℕ × List ℕ)) → tokens (compact_text (object (strings pairs))) ≡ tree.json_tokens (outline (object (strings pairs)))
tokens-object pairs =
    let d = object (strings pairs) in
    ap tokens (sym (print-outline d)) ∙ tokens-print (tree.json_tokens (outline d)) (ArePrintable-json_tokens (outline d) (HasNumbers-strings pairs))

read-strings : (pairs : List (List ℕ × List ℕ)) → read (compact_text (object (strings pairs))) ≡ of_json (outline (object (strings pairs)))
read-strings pairs =
    let d = object (strings pairs) in
    let j = outline d in
    let shallow : tree.depth j ≤ max_depth = omega (arith, depth-strings pairs) in
    let parsed : value max_depth (tokens (compact_text d)) ≡ Some (j, []) =
    ap (value max_depth) (tokens-object pairs ∙ sym (append-nil (tree.json_tokens j))) ∙ value-json_tokens j max_depth [] shallow in
    ap (λ r. option_and_then of_json (option_and_then (λ p. if_last p.0 p.1) r)) parsed

pub read-object_text : (line : Line) → read (object_text false line) ≡ Some (object_of false line)
unfolding object_text
read-object_text line = read-strings (members_of false line)

-- ---- by the strings as they stand between their quotes

flat_object : (line : Line) → object_text false line
    ≡ codes "{\"digest\":" ++ (quoted (base32 line.digest) ++ (codes ",\"filename\":" ++ (quoted (file_name line.volume)
    ++ (codes ",\"length\":" ++ (quoted (decimal line.length) ++ (codes ",\"method\":" ++ (quoted line.method ++ (codes ",\"mime\":" ++ (quoted line.mime
    ++ (codes ",\"number\":" ++ (quoted (decimal line.number) ++ (codes ",\"offset\":" ++ (quoted (decimal line.offset) ++ (codes ",\"status\":" ++ (quoted (decimal line.status)
    ++ (codes ",\"url\":" ++ (quoted line.url ++ codes "}")))))))))))))))))
unfolding object_text escape_byte
flat_object line = refl

open_string : (front s r q : List ℕ) → r ≡ q → front ++ (quoted s ++ r) ≡ front ++ 34 ∷ (escape s ++ 34 ∷ q)
open_string front s r q e = ap (λ t. front ++ 34 ∷ t) (append_assoc (escape s) (34 ∷ []) r ∙ ap (λ t. escape s ++ 34 ∷ t) e)

pub object_joined : (line : Line) → object_text false line
    ≡ joined (escape (base32 line.digest)) (escape (file_name line.volume)) (escape (decimal line.length)) (escape line.method) (escape line.mime) (escape (decimal line.number))
    (escape (decimal line.offset)) (escape (decimal line.status)) (escape line.url)
unfolding joined
object_joined line =
    flat_object line
    ∙ open_string (codes "{\"digest\":") (base32 line.digest) _ _ (open_string (codes ",\"filename\":") (file_name line.volume) _ _ (open_string (codes ",\"length\":") (decimal line.length) _ _
    (open_string (codes ",\"method\":") line.method _ _ (open_string (codes ",\"mime\":") line.mime _ _ (open_string (codes ",\"number\":") (decimal line.number) _ _
    (open_string (codes ",\"offset\":") (decimal line.offset) _ _ (open_string (codes ",\"status\":") (decimal line.status) _ _ (open_string (codes ",\"url\":") line.url (codes "}") (codes "}") refl))))))))
