-- Where it is no use to look again for a head.
use Rattle.std.proofs.Common.{◌≡◌, ℕ, ◌+◌, ◌<◌, ◌≤◌, Bool, true, false, List, [], ◌∷◌, ◌++◌, length, take, drop, refl, sym, ap, ◌∙◌, subst, arith, inl, inr}
use Rattle.std.proofs.Common.{◌&&◌, ◌||◌, append_assoc, append-nil}
use Rattle.std.proofs.lemmas.List.{take-append-le, drop-append-le, take_at, drop_at, take-append-drop, length-append}
use Rattle.std.proofs.lemmas.List.Folds.{list_all-append, list_any-append}
use Rattle.std.proofs.lemmas.Bool.{false≢true, cases_lt}
use Rattle.std.specs.List.{count_by, flat_map, list_all, list_any}
use Rattle.httparse.specs.Grammar.{LineEnd, crlf, lf, print_end, print_blank, print_version, print_field, print_section, RequestHead, print_request}
use Rattle.httparse.specs.Pieces.{is_newline}
use Rattle.httparse.proofs.GrammarLemmas.{print_request-append}
use Rattle.bw_http.specs.Heads.{is_line_feed, skip_newlines, line_count, BeginsWith, HasNoHead}
use Rattle.bw_http.proofs.Heads.{skip_one, line_count-head}

or-true : (b : Bool) → b || true ≡ true
or-true true = refl
or-true false = refl

and-left : (a b : Bool) → a && b ≡ true → a ≡ true
and-left true b e = refl
and-left false b e = e

and-right : (a b : Bool) → a && b ≡ true → b ≡ true
and-right true b e = e
and-right false b e = absurd (false≢true e)

-- bytes that are all newlines have nothing behind them
pub skip_all : (xs : List ℕ) → list_all is_newline xs ≡ true → skip_newlines xs ≡ []
skip_all [] e = refl
skip_all (b ∷ xs) e = skip_one b xs (and-left (is_newline b) _ e) ∙ skip_all xs (and-right (is_newline b) _ e)

-- the bytes end in a line feed
EndsLine : List ℕ → Type 0
EndsLine bytes = (front : List ℕ) × (bytes ≡ front ++ 10 ∷ [])

ends-append : (xs ys : List ℕ) → EndsLine ys → EndsLine (xs ++ ys)
unfolding EndsLine
ends-append xs ys e = (xs ++ e.0, ap (λ (t : List ℕ). xs ++ t) e.1 ∙ sym (append_assoc xs e.0 (10 ∷ [])))

ends-end : (e : LineEnd) → EndsLine (print_end e)
unfolding EndsLine
ends-end crlf = (13 ∷ [], refl)
ends-end lf = ([], refl)

-- a head ends in a line feed
head_ends : (h : RequestHead) → EndsLine (print_request h)
head_ends h =
    let section = print_section h.fields h.last in
    let last = subst EndsLine (sym (append-nil section)) (ends-append (flat_map print_field h.fields) (print_end h.last) (ends-end h.last)) in
    let line = ends-append (print_end h.line_end) _ last in
    let version = ends-append (print_version h.minor) _ line in
    let target = ends-append h.target _ (ends-append (32 ∷ []) _ version) in
    let method = ends-append h.method _ (ends-append (32 ∷ []) _ target) in
    subst EndsLine (sym (print_request-append h []) ∙ append-nil (print_request h)) (ends-append (print_blank h.blank) _ method)

-- where the head ends in the front, the front begins with it
pub head_in_front : (front more : List ℕ) (h : RequestHead) (rest : List ℕ) → BeginsWith (front ++ more) h rest
    → length (print_request h) ≤ length front → BeginsWith front h (drop (length (print_request h)) front)
head_in_front front more h rest b fits =
    let n = length (print_request h) in
    let head : take n front ≡ print_request h
    = sym (take-append-le n front more fits) ∙ ap (take n) b.reads.1 ∙ take_at (print_request h) rest n refl in
    record {
      reads = (b.reads.0, sym (take-append-drop n front) ∙ ap (λ (t : List ℕ). t ++ drop n front) head);
      limits = b.limits;
    }

-- a head that ends behind some bytes at the front ends in a line feed of the others
line_behind : (h : RequestHead) (front more rest : List ℕ) → front ++ more ≡ print_request h ++ rest
    → length front < length (print_request h) → list_any is_line_feed more ≡ true
unfolding EndsLine
line_behind h front more rest split longer =
    let e = head_ends h in
    let n = length front in
    let size : length (print_request h) ≡ length e.0 + 1 = ap length e.1 ∙ length-append e.0 (10 ∷ []) in
    let within : n ≤ length e.0 = omega (arith, longer, size) in
    let whole : front ++ more ≡ e.0 ++ (10 ∷ rest)
    = split ∙ ap (λ (t : List ℕ). t ++ rest) e.1 ∙ append_assoc e.0 (10 ∷ []) rest in
    let tail : more ≡ drop n e.0 ++ (10 ∷ rest)
    = sym (drop_at front more n refl) ∙ ap (drop n) whole ∙ drop-append-le n e.0 (10 ∷ rest) within in
    ap (list_any is_line_feed) tail ∙ list_any-append is_line_feed (drop n e.0) (10 ∷ rest) ∙ or-true (list_any is_line_feed (drop n e.0))

-- bytes without a head have none when no line feed came behind them
pub no_line : (front more : List ℕ) → HasNoHead front → list_any is_line_feed more ≡ false → HasNoHead (front ++ more)
no_line front more none e h rest b =
    elim (cases_lt (length front) (length (print_request h))) [
      | inl longer ↦ absurd (false≢true (sym e ∙ line_behind h front more rest b.reads.1 longer))
      | inr fits ↦ none h (drop (length (print_request h)) front) (head_in_front front more h rest b fits)
    ]

-- empty lines alone are no head
pub blank_none : (bytes : List ℕ) → list_all is_newline bytes ≡ true → HasNoHead bytes
blank_none bytes all h rest b =
    let split : list_all is_newline (print_request h) && list_all is_newline rest ≡ true
    = sym (list_all-append is_newline (print_request h) rest) ∙ ap (list_all is_newline) (sym b.reads.1) ∙ all in
    let front : list_all is_newline (print_request h) ≡ true = and-left _ _ split in
    let blank : line_count (print_request h) ≡ 0 = ap (count_by is_line_feed) (skip_all (print_request h) front) in
    absurd (omega (arith, line_count-head h b.reads.0, blank))
