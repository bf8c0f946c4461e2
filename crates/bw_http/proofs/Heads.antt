-- Heads within the limits: their lines, and a head at the front of more bytes.
use Rattle.std.proofs.Common.{◌≡◌, ◌≢◌, ℕ, ◌+◌, ◌-◌, ◌≤◌, Bool, true, false, cond, List, [], ◌∷◌, ◌++◌, length, take, drop, refl, sym, ap, ◌∙◌, subst, suc}
use Rattle.std.proofs.Common.{arith, append_assoc, append-nil, codes, IsTrue}
use Rattle.std.proofs.lemmas.List.{drop_at, take-append-drop, length-take-le, length-take, length-map}
use Rattle.std.proofs.lemmas.List.Elements.{All-head, All-tail}
use Rattle.std.proofs.lemmas.List.Sums.{sum_by-append}
use Rattle.std.proofs.Math.Seq.{take-append-add}
use Rattle.std.proofs.lemmas.Bool.{false≢true, ne_eqb}
use Rattle.std.specs.List.{count_by, prefix_len, flat_map}
use Rattle.std.specs.Prelude.{All}
use Rattle.httparse.specs.Grammar.{is_token_byte, is_uri_byte, is_value_byte, AllPass, LineEnd, crlf, lf, print_end, print_blank, print_version, Field}
use Rattle.httparse.specs.Grammar.{print_field, print_section, IsField, RequestHead, IsRequestHead, print_request, ReadsRequest, NeverHasRequest}
use Rattle.httparse.specs.Pieces.{is_newline, Stops}
use Rattle.httparse.specs.Spans.{IsRequestWithin, IsRequestOf, header_bytes, name_and_value}
use Rattle.httparse.specs.declared.spans.HeaderSpan.{HeaderSpan}
use Rattle.httparse.specs.declared.spans.RequestSpans.{RequestSpans}
use Rattle.bw_http.specs.Looks.{IsHeadAt}
use Rattle.httparse.proofs.PieceLemmas.{Stops_token}
use Rattle.httparse.proofs.GrammarLemmas.{print_request-append}
use Rattle.bw_http.specs.Heads.{is_line_feed, skip_newlines, line_count, HasNoHead}

-- ---- lines

count-append : (xs ys : List ℕ) → count_by is_line_feed (xs ++ ys) ≡ count_by is_line_feed xs + count_by is_line_feed ys
count-append xs ys = sum_by-append (λ (b : ℕ). cond (is_line_feed b) 1 0) xs ys

count-cons : (b : ℕ) (ys : List ℕ) → count_by is_line_feed (b ∷ ys) ≡ cond (is_line_feed b) 1 0 + count_by is_line_feed ys
count-cons b ys =
    let one : 0 + cond (is_line_feed b) 1 0 ≡ cond (is_line_feed b) 1 0 = omega arith in
    count-append (b ∷ []) ys ∙ ap (λ (n : ℕ). n + count_by is_line_feed ys) one

count_other : (b : ℕ) (ys : List ℕ) → b ≢ 10 → count_by is_line_feed (b ∷ ys) ≡ count_by is_line_feed ys
count_other b ys ne =
    count-cons b ys ∙ ap (λ (t : Bool). cond t 1 0 + count_by is_line_feed ys) (ne_eqb b 10 ne) ∙ omega arith

count_none : (p : ℕ → Bool) → p 10 ≡ false → (xs : List ℕ) → AllPass p xs → count_by is_line_feed xs ≡ 0
count_none p fails [] all = refl
count_none p fails (b ∷ xs) all =
    let ne : b ≢ 10 = λ e. false≢true (sym fails ∙ subst (λ (v : ℕ). p v ≡ true) e (All-head (λ v. IsTrue (p v)) b xs all)) in
    count_other b xs ne ∙ count_none p fails xs (All-tail (λ v. IsTrue (p v)) b xs all)

count-end : (e : LineEnd) (ys : List ℕ) → count_by is_line_feed (print_end e ++ ys) ≡ 1 + count_by is_line_feed ys
count-end crlf ys = count_other 13 (10 ∷ ys) (λ e. absurd (omega (arith, e))) ∙ count-cons 10 ys
count-end lf ys = count-cons 10 ys

token_no_lf : is_token_byte 10 ≡ false
unfolding is_token_byte
token_no_lf = refl

count-field : (f : Field) (ys : List ℕ) → IsField f → count_by is_line_feed (print_field f ++ ys) ≡ 1 + count_by is_line_feed ys
count-field f ys is =
    let shape : print_field f ++ ys ≡ f.name ++ (58 ∷ (f.raw ++ (print_end f.end ++ ys)))
    = append_assoc (f.name ++ 58 ∷ f.raw) (print_end f.end) ys
    ∙ append_assoc f.name (58 ∷ f.raw) (print_end f.end ++ ys) in
    let name = count_none is_token_byte token_no_lf f.name is.name.1 in
    let raw = count_none is_value_byte refl f.raw is.raw in
    let tail = count-end f.end ys in
    let after = count-append f.raw (print_end f.end ++ ys) in
    let colon = count_other 58 (f.raw ++ (print_end f.end ++ ys)) (λ e. absurd (omega (arith, e))) in
    let whole = count-append f.name (58 ∷ (f.raw ++ (print_end f.end ++ ys))) in
    ap (count_by is_line_feed) shape ∙ omega (arith, name, raw, tail, after, colon, whole)

count-fields : (fs : List Field) (ys : List ℕ) → All IsField fs
    → count_by is_line_feed (flat_map print_field fs ++ ys) ≡ length fs + count_by is_line_feed ys
count-fields [] ys all = omega arith
count-fields (f ∷ fs) ys all =
    let here = count-field f (flat_map print_field fs ++ ys) (All-head IsField f fs all) in
    let rest = count-fields fs ys (All-tail IsField f fs all) in
    ap (count_by is_line_feed) (append_assoc (print_field f) (flat_map print_field fs) ys) ∙ omega (arith, here, rest)

-- ---- the empty lines before a request

skip_stop : (xs : List ℕ) → Stops is_newline xs → skip_newlines xs ≡ xs
skip_stop [] h = absurd h
skip_stop (b ∷ xs) stops = ap (λ (t : Bool). drop (cond t (1 + prefix_len is_newline xs) 0) (b ∷ xs)) stops

pub skip_one : (b : ℕ) (xs : List ℕ) → is_newline b ≡ true → skip_newlines (b ∷ xs) ≡ skip_newlines xs
skip_one b xs is =
    let one : 1 + prefix_len is_newline xs ≡ suc (prefix_len is_newline xs) = omega arith in
    ap (λ (t : Bool). drop (cond t (1 + prefix_len is_newline xs) 0) (b ∷ xs)) is
    ∙ ap (λ (n : ℕ). drop n (b ∷ xs)) one

skip-end : (e : LineEnd) (xs : List ℕ) → skip_newlines (print_end e ++ xs) ≡ skip_newlines xs
skip-end crlf xs = skip_one 13 (10 ∷ xs) refl ∙ skip_one 10 xs refl
skip-end lf xs = skip_one 10 xs refl

skip-blank : (ends : List LineEnd) (xs : List ℕ) → Stops is_newline xs → skip_newlines (print_blank ends ++ xs) ≡ xs
skip-blank [] xs stops = skip_stop xs stops
skip-blank (e ∷ ends) xs stops =
    ap skip_newlines (append_assoc (print_end e) (print_blank ends) xs)
    ∙ skip-end e (print_blank ends ++ xs) ∙ skip-blank ends xs stops

version_of : (minor : ℕ) → minor ≤ 1 → (ys : List ℕ) → count_by is_line_feed (print_version minor ++ ys) ≡ count_by is_line_feed ys
version_of minor small ys =
    count-append (print_version minor) ys
    ∙ ap (λ (n : ℕ). n + count_by is_line_feed ys)
    (count-append (codes "HTTP/1.") ((48 + minor) ∷ []) ∙ ap (λ (n : ℕ). 0 + n) (count_other (48 + minor) [] (λ e. absurd (omega (arith, e)))))
    ∙ omega arith

-- a head has a line for the request, one for each field, and the empty one
pub line_count-head : (h : RequestHead) → IsRequestHead h → line_count (print_request h) ≡ length h.fields + 2
line_count-head h is =
    let section = print_section h.fields h.last ++ [] in
    let after_version = print_end h.line_end ++ section in
    let after_target = print_version h.minor ++ after_version in
    let after_method = h.target ++ 32 ∷ after_target in
    let line : List ℕ = h.method ++ 32 ∷ after_method in
    let shape : print_request h ≡ print_blank h.blank ++ line = sym (append-nil (print_request h)) ∙ print_request-append h [] in
    let skipped : skip_newlines (print_request h) ≡ line
    = ap skip_newlines shape ∙ skip-blank h.blank line (Stops_token h.method _ is.method.0 is.method.1) in
    let a = count-append h.method (32 ∷ after_method) in
    let b = count_none is_token_byte token_no_lf h.method is.method.1 in
    let c = count_other 32 after_method (λ e. absurd (omega (arith, e))) in
    let d = count-append h.target (32 ∷ after_target) in
    let e = count_none is_uri_byte refl h.target is.target.1 in
    let f = count_other 32 after_target (λ e. absurd (omega (arith, e))) in
    let g = version after_version in
    let i = count-end h.line_end section in
    let j = fields in
    ap (count_by is_line_feed) skipped ∙ omega (arith, a, b, c, d, e, f, g, i, j)
  where
    version : (ys : List ℕ) → count_by is_line_feed (print_version h.minor ++ ys) ≡ count_by is_line_feed ys
    version ys = version_of h.minor is.minor ys

    fields : count_by is_line_feed (print_section h.fields h.last ++ []) ≡ length h.fields + 1
    fields =
        ap (count_by is_line_feed) (append_assoc (flat_map print_field h.fields) (print_end h.last) [])
        ∙ count-fields h.fields (print_end h.last ++ []) is.fields ∙ ap (λ (n : ℕ). length h.fields + n) (count-end h.last [])

-- ---- a head at the front of more bytes

-- a head that fits the first n bytes is one of them
front_of : (n : ℕ) (bytes front rest : List ℕ) → length front ≤ n → bytes ≡ front ++ rest
    → (more : List ℕ) × (take n bytes ≡ front ++ more)
front_of n bytes front rest fits is =
    let sum : length front + (n - length front) ≡ n = omega arith in (
      take (n - length front) rest,
      ap (take n) is ∙ ap (λ (k : ℕ). take k (front ++ rest)) (sym sum) ∙ take-append-add front rest (n - length front),
    )

pub HasNoHead-front : (bytes : List ℕ) → HasNoHead (take 16384 bytes) → HasNoHead bytes
HasNoHead-front bytes none h rest b =
    let cut = front_of 16384 bytes (print_request h) rest b.limits.bytes b.reads.1 in
    none h cut.0 (record { reads = (b.reads.0, cut.1); limits = b.limits })

pub Never-front : (n : ℕ) (bytes : List ℕ) → NeverHasRequest (take n bytes) → NeverHasRequest bytes
Never-front n bytes never more h rest reads =
    let whole : bytes ++ more ≡ take n bytes ++ (drop n bytes ++ more)
    = ap (λ (t : List ℕ). t ++ more) (sym (take-append-drop n bytes)) ∙ append_assoc (take n bytes) (drop n bytes) more in
    never (drop n bytes ++ more) h rest (subst (λ (t : List ℕ). ReadsRequest t h rest) whole reads)

-- the head that the parser found in the front is the one of all the bytes
pub IsHeadAt-front : (bytes : List ℕ) (headers : List HeaderSpan) (r : RequestSpans) → length headers ≡ 64
    → IsRequestWithin (take 16384 bytes) headers r → IsRequestOf (take 16384 bytes) headers r
    → IsHeadAt bytes headers r
IsHeadAt-front bytes headers r room within at =
    let h = at.0 in
    let is = at.1 in
    let part = take 16384 bytes in
    let small : length part ≤ 16384 = omega (arith, length-take 16384 bytes) in
    let fits : length (print_request h) ≤ 16384 = omega (arith, is.len, within.section.len_fits, small) in
    let count : length h.fields ≡ r.headers =
    sym (length-map h.fields name_and_value) ∙ ap length (sym is.fields)
    ∙ length-map (take r.headers headers) (header_bytes part) ∙ length-take-le r.headers headers within.section.count_fits in
    let lines = line_count-head h is.reads.0 in
    let whole : bytes ≡ print_request h ++ (drop r.len part ++ drop 16384 bytes)
    = sym (take-append-drop 16384 bytes) ∙ ap (λ (t : List ℕ). t ++ drop 16384 bytes) is.reads.1
    ∙ append_assoc (print_request h) (drop r.len part) (drop 16384 bytes) in
    let rest : drop r.len bytes ≡ drop r.len part ++ drop 16384 bytes
    = ap (drop r.len) whole ∙ drop_at (print_request h) (drop r.len part ++ drop 16384 bytes) r.len (sym is.len) in
    record {
      head = h;
      begins = record {
        reads = (is.reads.0, whole ∙ ap (λ (t : List ℕ). print_request h ++ t) (sym rest));
        limits = record {
          bytes = fits;
          fields = omega (arith, count, within.section.count_fits, room);
          lines = omega (arith, lines, count, within.section.count_fits, room);
        };
      };
      spans = is;
      within = within;
    }
