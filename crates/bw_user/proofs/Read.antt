-- What is sent is read as the request that it is.
use Rattle.std.proofs.Common.{◌≡◌, ◌<◌, ◌≤◌, ◌+◌, ◌^◌, ℕ, Bool, true, false, List, [], ◌∷◌, ◌++◌, length, refl, sym, ap, ◌∙◌, subst, arith, decimal}
use Rattle.std.proofs.Common.{codes, cond, All, append_assoc, append-nil, Ok}
use Rattle.std.specs.Prelude.{nat_lt, ◌&&◌, not, reverse}
use Rattle.std.specs.List.{list_all, AllPass}
use Rattle.std.specs.Str.Parse.{digits_value}
use Rattle.std.proofs.lemmas.Bool.{and_parts}
use Rattle.std.proofs.lemmas.Bool.Decides.{nat_tests}
use Rattle.std.proofs.lemmas.Fmt.{decimal_is_IsNumeral, length-decimal-le}
use Rattle.std.proofs.lemmas.List.{length-append, nil_from_length}
use Rattle.std.proofs.lemmas.List.Elements.{All-cons, All-nil}
use Rattle.std.proofs.lemmas.List.Sums.{AllPass-from_list_all, list_all-from_AllPass}
use Rattle.httparse.proofs.OnLiterals.{httparse_on_literals}
use Rattle.httparse.proofs.GrammarLemmas.{request_unique, print_request-append}
use Rattle.httparse.proofs.TrimLemmas.{trim_ows_space, AllPass-reverse}
use Rattle.httparse.specs.Grammar.{RequestHead, IsRequestHead, ReadsRequest, Field, IsField, crlf, is_token_byte, is_value_byte, is_ows, skip_ows}
use Rattle.httparse.specs.Grammar.{trim_ows, print_request}
use Rattle.bw_http.specs.declared.decide.Decision.TheVariants.{Refused, Body}
use Rattle.bw_http.specs.declared.decide.Length.TheVariants.{Wrong, Bytes}
use Rattle.bw_http.specs.declared.request.Method.TheVariants.{Get, Post}
use Rattle.bw_http.specs.declared.request.Path.{Path}
use Rattle.bw_http.specs.declared.request.Path.TheVariants.{Index, Start, Turn}
use Rattle.bw_http.specs.declared.request.ReadOutcome.TheVariants.{BodyTooLong, Media}
use Rattle.bw_http.specs.declared.request.Request.{Request}
use Rattle.bw_http.specs.Cuts.{Cut}
use Rattle.bw_http.specs.Decisions.{decide, decide_on, decide_body, length_of, is_size}
use Rattle.bw_http.specs.Forms.{form_of}
use Rattle.bw_http.specs.Messages.{IsMessage, IsRequest}
use Rattle.bw_http.specs.Paths.{after_authority, IsForm, LeadsTo, path_part, spelling}
use Rattle.bw_http.proofs.OnePath.{one_request}
use Rattle.bw_http.proofs.Lossy.{requests_are_text}
use Rattle.bw_user.specs.Laws.{AnswersAreText, GetsAreRead, PostsAreRead}
use Rattle.bw_user.specs.Messages.{get, post}
use Rattle.bw_user.proofs.Plain.{ok, Plain, decimal_plain, start_plain, turn_plain, plain_uri, plain_utf8, whole_query}

-- ---- the heads

abbrev field : List ℕ → List ℕ → Field
field name value = record { name = name; raw = 32 ∷ value; end = crlf }

abbrev host : Field
host = field (codes "Host") (codes "a")

abbrev form_type : List ℕ
form_type = codes "application/x-www-form-urlencoded"

abbrev get_head : List ℕ → RequestHead
get_head target =
    record { blank = []; method = codes "GET"; target = target; minor = 1; line_end = crlf; fields = host ∷ []; last = crlf }

abbrev post_head : List ℕ → ℕ → RequestHead
post_head target n =
    record {
      blank = [];
      method = codes "POST";
      target = target;
      minor = 1;
      line_end = crlf;
      fields = host ∷ field (codes "Content-Type") form_type ∷ field (codes "Content-Length") (decimal n) ∷ [];
      last = crlf;
    }

get_bytes : (target : List ℕ) → get target ≡ print_request (get_head target) ++ []
get_bytes target = sym (print_request-append (get_head target) [])

tail : (digits body : List ℕ) → digits ++ (codes "\r\n\r\n" ++ body) ≡ (((digits ++ codes "\r\n") ++ []) ++ codes "\r\n") ++ body
tail digits body =
    sym (ap (λ t. (t ++ codes "\r\n") ++ body) (append-nil (digits ++ codes "\r\n"))
    ∙ append_assoc (digits ++ codes "\r\n") (codes "\r\n") body ∙ append_assoc digits (codes "\r\n") (codes "\r\n" ++ body))

abbrev between : List ℕ → List ℕ
between t = codes " HTTP/1.1\r\nHost: a\r\nContent-Type: application/x-www-form-urlencoded\r\nContent-Length: " ++ t

post_bytes : (target body : List ℕ) → post target body ≡ print_request (post_head target (length body)) ++ body
post_bytes target body =
    ap (λ t. codes "POST " ++ (target ++ between t)) (tail (decimal (length body)) body)
    ∙ sym (print_request-append (post_head target (length body)) body)

-- ---- they are heads

value_ok : (b : ℕ) → ok b ≡ true → is_value_byte b ≡ true
value_ok b h = grind (arith, nat_tests)

value_plain : (bs : List ℕ) → Plain bs → list_all is_value_byte bs ≡ true
value_plain [] h = refl
value_plain (b ∷ bs) h = let p = and_parts _ _ h in (λ i. value_ok b p.0 i && value_plain bs p.1 i)

is_field : (name value : List ℕ) → 0 < length name → list_all is_token_byte name ≡ true → list_all is_value_byte (32 ∷ value) ≡ true
    → IsField (field name value)
is_field name value some h k =
    record { name = (some, AllPass-from_list_all is_token_byte name h); raw = AllPass-from_list_all is_value_byte (32 ∷ value) k }

host_is : IsField host
unfolding is_token_byte
host_is = is_field (codes "Host") (codes "a") (omega arith) refl refl

type_is : IsField (field (codes "Content-Type") form_type)
unfolding is_token_byte
type_is = is_field (codes "Content-Type") form_type (omega arith) refl refl

length_is : (n : ℕ) → n < 2 ^ 64 → IsField (field (codes "Content-Length") (decimal n))
unfolding is_token_byte
length_is n h = is_field (codes "Content-Length") (decimal n) (omega arith) refl (value_plain (decimal n) (decimal_plain n h))

get_is : (target : List ℕ) → Plain target → 0 < length target → IsRequestHead (get_head target)
unfolding is_token_byte
get_is target p some = record {
  method = (omega arith, AllPass-from_list_all is_token_byte (codes "GET") refl);
  target = (some, plain_uri target p);
  target_text = plain_utf8 target p;
  minor = omega arith;
  fields = All-cons IsField host [] host_is (All-nil IsField);
}

post_is : (target : List ℕ) (n : ℕ) → Plain target → 0 < length target → n < 2 ^ 64 → IsRequestHead (post_head target n)
unfolding is_token_byte
post_is target n p some small =
    let type = field (codes "Content-Type") form_type in
    let len = field (codes "Content-Length") (decimal n) in
    record {
      method = (omega arith, AllPass-from_list_all is_token_byte (codes "POST") refl);
      target = (some, plain_uri target p);
      target_text = plain_utf8 target p;
      minor = omega arith;
      fields = All-cons IsField host (type ∷ len ∷ []) host_is
          (All-cons IsField type (len ∷ []) type_is (All-cons IsField len [] (length_is n small) (All-nil IsField)));
    }

-- ---- what the tests decide

get_decides : (target : List ℕ) → decide (get_head target) ≡ Body 0
unfolding decide_on httparse_on_literals
get_decides target = refl

post_decides : (target : List ℕ) (n : ℕ) → decide (post_head target n) ≡ decide_body Post (length_of (trim_ows (32 ∷ decimal n) ∷ [])) true
unfolding decide_on httparse_on_literals
post_decides target n = refl

no_blank : (b : ℕ) → ok b ≡ true → is_ows b ≡ false
no_blank b h = grind (arith, nat_tests)

skips_none : (bs : List ℕ) → Plain bs → skip_ows bs ≡ bs
skips_none [] h = refl
skips_none (b ∷ bs) h = let p = and_parts _ _ h in ap (λ (t : Bool). cond t (skip_ows bs) (b ∷ bs)) (no_blank b p.0)

sized : (t : Bool) (d m : ℕ) → decide_body Post (cond t (Bytes d) Wrong) true ≡ Body m → d ≡ m
sized false d m e = absurd cc
sized true d m e = by_test (nat_lt 65536 d) (nat_lt 0 d) e
  where
    by_test : (u v : Bool) → cond u (Refused BodyTooLong) (cond (true && (v && not true)) (Refused Media) (Body d)) ≡ Body m → d ≡ m
    by_test true v e = absurd cc
    by_test false true e = cc
    by_test false false e = cc

-- ---- what is read

same_rest : (b rest body : List ℕ) → b ++ rest ≡ body → length b ≡ length body → (b ≡ body)
same_rest b rest body e h =
    let none : rest ≡ [] = nil_from_length rest (omega (arith, h, ap length e, length-append b rest)) in
    sym (append-nil b) ∙ ap (λ t. b ++ t) (sym none) ∙ e

path_stays : (target : List ℕ) → Plain target → after_authority target ≡ target → path_part target ≡ target
path_stays target p h = ap after_authority (whole_query target p) ∙ h

pub gets_are_read : GetsAreRead
gets_are_read name rest r form cut =
    let target = spelling (Start name) in
    let p = start_plain name form in
    let h = get_head target in
    let same = request_unique (get target) cut.0 h (cut.1 ++ rest) [] cut.2.begins.reads (get_is target p (omega arith), get_bytes target) in
    let size : Body 0 ≡ Body (length cut.1) = sym (get_decides target) ∙ ap decide (sym same.0) ∙ cut.2.size in
    let len : 0 ≡ length cut.1 = cc in
    let mine : IsRequest h cut.1 (record { method = Get; path = Start name; form = [] })
    = record { method = refl; path = (form, path_stays target p refl); form = refl } in
    one_request h cut.1 r (record { method = Get; path = Start name; form = [] }) (subst (λ k. IsRequest k cut.1 r) same.0 cut.3) mine

backwards : (bs : List ℕ) → Plain bs → Plain (reverse bs)
backwards bs h = list_all-from_AllPass ok (reverse bs) (AllPass-reverse ok bs (AllPass-from_list_all ok bs h))

length_read : (n : ℕ) → n < 2 ^ 64 → trim_ows (32 ∷ decimal n) ≡ decimal n
length_read n h =
    trim_ows_space (decimal n) (skips_none (decimal n) (decimal_plain n h))
    (skips_none (reverse (decimal n)) (backwards (decimal n) (decimal_plain n h)))

pub posts_are_read : PostsAreRead
posts_are_read number key turn body rest r form small cut =
    let target = spelling (Turn number key turn) in
    let n = length body in
    let p = turn_plain number key turn form in
    let h = post_head target n in
    let same = request_unique (post target body) cut.0 h (cut.1 ++ rest) body cut.2.begins.reads
    (post_is target n p (omega arith) small, post_bytes target body) in
    let size : decide_body Post (length_of (decimal n ∷ [])) true ≡ Body (length cut.1)
    = ap (λ v. decide_body Post (length_of (v ∷ [])) true) (sym (length_read n small)) ∙ sym (post_decides target n) ∙ ap decide (sym same.0) ∙ cut.2.size in
    let value : digits_value 10 (decimal n) ≡ length cut.1 = sized (is_size (decimal n)) (digits_value 10 (decimal n)) (length cut.1) size in
    let own : cut.1 ≡ body = same_rest cut.1 rest body same.1 (sym value ∙ (decimal_is_IsNumeral n small).1) in
    let mine : IsRequest h body (record { method = Post; path = Turn number key turn; form = form_of body })
    = record { method = refl; path = (form, path_stays target p refl); form = refl } in
    one_request h body r (record { method = Post; path = Turn number key turn; form = form_of body })
    (subst (λ k. IsRequest k body r) same.0 (subst (λ b. IsRequest cut.0 b r) own cut.3)) mine

-- ---- the values of a form

pub answers_are_text : AnswersAreText
answers_are_text bytes =
    requests_are_text (post_head (codes "/") 0) bytes (record { method = Post; path = Index; form = form_of bytes })
    (record { method = refl; path = refl; form = refl })
