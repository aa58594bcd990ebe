-- Where a reference leads to from an address of the web, whichever path that has.
use Rattle.std.proofs.Common.{◌≡◌, ℕ, ◌≤◌, Bool, true, false, cond, not, ◌&&◌, ◌||◌, ◌==◌, ◌⊎◌, List, [], ◌++◌, drop, Some, None, Ok, Err, refl, sym, ap, ◌∙◌, subst, inl, inr, ⊎_elim, arith}
use Rattle.std.specs.Prelude.{Option, is_some, codes, bytes_eq}
use Rattle.std.specs.Option.{option_or}
use Rattle.std.proofs.lemmas.Bool.{cond-true, cond-false, and_left, and_parts, cases_Bool, or_cases}
use Rattle.std.proofs.lemmas.Slice.Eq.{bytes_eq-Decides}
use Rattle.url.specs.Ascii.{number_sign, question_mark}
use Rattle.url.specs.declared.error.ParseError.{ParseError}
use Rattle.url.specs.declared.scheme.SchemeType.TheVariants.{SpecialNotFile}
use Rattle.url.specs.Head.{head_only}
use Rattle.url.specs.Input.{is_empty, lowercase, split_once, strip_tabs_and_new_lines, trim_c0_control_and_space}
use Rattle.url.specs.Parser.{Parsed, after_double_slash, after_slashes, and_then, before_tail, leading_slashes, parse_all, parse_body, parse_by_scheme, parse_parts, parse_relative, parse_url, split_scheme, with_path, with_tail}
use Rattle.url.specs.Parts.{Parts, has_authority, kind_of}
use Rattle.url.specs.Path.{escape_end, parse_path, shorten_path}
use Rattle.url.specs.Scheme.{default_port, is_file, is_special, scheme_type}
use Rattle.html_rewrite.specs.Links.{http_url, is_http, target_from}
use Rattle.html_rewrite.specs.steps.Paths.{IsRooted, front_with}
use Rattle.html_rewrite.proofs.Fronts.{front_none}
use Rattle.html_rewrite.proofs.Kept.{Becomes, IsPath, chosen, nothing, own, parsed, shortened}

-- of each such path the result is the same, but for a front of the path
data Way (n : ℕ) (result : List ℕ → Parsed Parts) : Type 0 where
  refuses : (e : ParseError) (is : (p : List ℕ) → IsPath n p → result p ≡ Err e) → Way n result
  gives : (url : Parts) (kept : ℕ) (tail : List ℕ) (within : kept ≤ n) (headed : (kept ≡ 0) ⊎ (has_authority url ≡ true)) (is : (p : List ℕ) → IsPath n p → result p ≡ Ok (with_path url (front_with kept p ++ tail))) → Way n result

same_way : (n : ℕ) (f g : List ℕ → Parsed Parts) → ((p : List ℕ) → g p ≡ f p) → Way n f → Way n g
same_way n f g same (refuses e is) = refuses e (λ p h. same p ∙ is p h)
same_way n f g same (gives url kept tail within headed is) = gives url kept tail within headed (λ p h. same p ∙ is p h)

-- where the path isn't read
one_way : (n : ℕ) (r : Parsed Parts) → Way n (λ p. r)
one_way n (Err e) = refuses e (λ p h. refl)
one_way n (Ok url) = gives url 0 url.path (omega arith) (inl refl) (λ p h. ap (λ t. Ok (with_path url (t ++ url.path))) (sym (front_none p h.first)))

path_way : (n : ℕ) (url : Parts) (f : List ℕ → List ℕ) → has_authority url ≡ true → Becomes n f → Way n (λ p. Ok (with_path url (f p)))
path_way n url f authority b = gives url b.kept b.tail b.within (inr authority) (λ p h. ap (λ t. Ok (with_path url t)) (b.is p h))

chosen_way : (n : ℕ) (f g : List ℕ → Parsed Parts) (test : Bool) → Way n f → Way n g → Way n (λ p. cond test (f p) (g p))
chosen_way n f g true x y = x
chosen_way n f g false x y = y

pub web_kind : (url : Parts) → is_http url ≡ true → kind_of url ≡ SpecialNotFile
unfolding scheme_type default_port
web_kind url web =
    ⊎_elim
    (λ http. ap scheme_type ((bytes_eq-Decides url.scheme (codes "http")).0 http))
    (λ https. ap scheme_type ((bytes_eq-Decides url.scheme (codes "https")).0 https))
    (or_cases _ _ web)

module _ (n : ℕ) (base : Parts) (rooted : IsRooted base) where
  abbrev at : List ℕ → Parts
  at p = with_path base p

  not_file : is_file (kind_of base) ≡ false
  not_file = ap is_file (web_kind base rooted.web)

  special : is_special (kind_of base) ≡ true
  special = ap is_special (web_kind base rooted.web)

  -- the query and the fragment behind a body that was read
  abbrev tailed : Option (List ℕ) → Option (List ℕ) → Parsed Parts → Parsed Parts
  tailed query fragment r = and_then r (λ url. Ok (with_tail (before_tail url query fragment) query fragment))

  tailed_path : (query fragment : Option (List ℕ)) (f : List ℕ → List ℕ) → Becomes n f → Way n (λ p. tailed query fragment (Ok (with_path (head_only base) (f p))))
  tailed_path query fragment f b =
      same_way n (λ p. Ok (with_path (with_tail (head_only base) query fragment) (f p))) (λ p. tailed query fragment (Ok (with_path (head_only base) (f p))))
      (λ p. let url = with_path (head_only base) (f p) in ap (λ (u : Parts). Ok (with_tail u query fragment)) (cond-false (not (is_special (kind_of base)) && (is_some query || is_some fragment)) (with_path url (escape_end (f p))) url (and_left _ _ (ap not special))))
      (path_way n (with_tail (head_only base) query fragment) f rooted.authority b)

  relative_by : (query fragment : Option (List ℕ)) (r : Parsed Parts) (f : List ℕ → List ℕ) (test : Bool) → Becomes n f → Way n (λ p. tailed query fragment (cond test r (Ok (with_path (head_only base) (f p)))))
  relative_by query fragment r f true b = one_way n (tailed query fragment r)
  relative_by query fragment r f false b = tailed_path query fragment f b

  relative : (body : List ℕ) (query fragment : Option (List ℕ)) → Way n (λ p. tailed query fragment (parse_relative (at p) body))
  unfolding parse_relative
  relative body query fragment =
      let kind = kind_of base in
      let count = leading_slashes kind body in
      let start = chosen n (λ p. shorten_path kind p) (λ p. []) (count == 0) (shortened n kind not_file (λ p. p) (own n)) (nothing n) in
      relative_by query fragment (after_double_slash base.scheme (after_slashes kind body)) (λ p. parse_path kind (cond (count == 0) (shorten_path kind p) []) (drop count body)) (count == 2)
      (parsed n kind not_file (drop count body) (λ p. cond (count == 0) (shorten_path kind p) []) [] start)

  all_way : (scheme body : List ℕ) (query fragment : Option (List ℕ)) → is_file (scheme_type scheme) ≡ false → Way n (λ p. parse_all scheme (Some (at p)) body query fragment)
  unfolding parse_body
  all_way scheme body query fragment other =
      same_way n (λ p. tailed query fragment (parse_relative (at p) body)) (λ p. parse_all scheme (Some (at p)) body query fragment)
      (λ p. ap (tailed query fragment) (cond-false _ _ _ other))
      (relative body query fragment)

  parts_way : (scheme body : List ℕ) (query fragment : Option (List ℕ)) → is_file (scheme_type scheme) ≡ false → Way n (λ p. parse_parts scheme (Some (at p)) body query fragment)
  unfolding parse_parts
  parts_way scheme body query fragment other =
      chosen_way n (λ p. Ok (with_tail (at p) (option_or query base.query) fragment)) (λ p. parse_all scheme (Some (at p)) body query fragment) (is_empty body)
      (path_way n (with_tail base (option_or query base.query) fragment) (λ p. p) rooted.authority (own n))
      (all_way scheme body query fragment other)

  by_base : (scheme body : List ℕ) (query fragment : Option (List ℕ)) (test : Bool) → (test ≡ true → is_file (scheme_type scheme) ≡ false) → Way n (λ p. parse_parts scheme (cond test (Some (at p)) None) body query fragment)
  by_base scheme body query fragment true other = parts_way scheme body query fragment (other refl)
  by_base scheme body query fragment false other = one_way n (parse_parts scheme None body query fragment)

  by_scheme : (split : Option (List ℕ × List ℕ)) (body : List ℕ) (query fragment : Option (List ℕ)) → Way n (λ p. parse_by_scheme split (Some (at p)) body query fragment)
  by_scheme None body query fragment =
      same_way n (λ p. parse_parts base.scheme (Some (at p)) body query fragment) (λ p. parse_by_scheme None (Some (at p)) body query fragment)
      (λ p. cond-false _ _ _ (and_left _ _ (and_left _ _ (ap not rooted.authority))))
      (parts_way base.scheme body query fragment not_file)
  by_scheme (Some split) body query fragment =
      by_base (lowercase split.0) split.1 query fragment (is_special (kind_of base) && bytes_eq base.scheme (lowercase split.0))
      (λ both. subst (λ s. is_file (scheme_type s) ≡ false) ((bytes_eq-Decides base.scheme (lowercase split.0)).0 (and_parts _ _ both).1) not_file)

  leads : (reference : List ℕ) → Way n (λ p. parse_url (Some (at p)) reference)
  unfolding parse_url
  leads reference =
      let hash = split_once number_sign (strip_tabs_and_new_lines (trim_c0_control_and_space reference)) in
      let question = split_once question_mark hash.0 in
      by_scheme (split_scheme question.0) question.0 question.1 hash.1

-- of each such path the target is the same, but for a front of the path
pub data Target (n : ℕ) (target : List ℕ → Option Parts) : Type 0 where
  nowhere : (is : (p : List ℕ) → IsPath n p → target p ≡ None) → Target n target
  somewhere : (url : Parts) (kept : ℕ) (tail : List ℕ) (within : kept ≤ n) (headed : (kept ≡ 0) ⊎ (has_authority url ≡ true)) (is : (p : List ℕ) → IsPath n p → target p ≡ Some (with_path url (front_with kept p ++ tail))) → Target n target

http : (n : ℕ) (f : List ℕ → Parsed Parts) → Way n f → Target n (λ p. http_url (f p))
http n f (refuses e is) = nowhere (λ p h. ap http_url (is p h))
http n f (gives url kept tail within headed is) =
    ⊎_elim
    (λ web. somewhere url kept tail within headed (λ p h. ap http_url (is p h) ∙ cond-true _ _ _ web))
    (λ other. nowhere (λ p h. ap http_url (is p h) ∙ cond-false _ _ _ other))
    (cases_Bool (is_http url))

pub target_way : (n : ℕ) (base : Parts) (reference : List ℕ) → IsRooted base → Target n (λ p. target_from (Some (with_path base p)) reference)
target_way n base reference rooted = http n (λ p. parse_url (Some (with_path base p)) reference) (leads n base rooted reference)
