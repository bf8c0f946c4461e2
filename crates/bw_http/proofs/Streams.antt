-- From the bytes that were taken to the whole stream, and what is free in a cut.
use Rattle.std.proofs.Common.{◌≡◌, ℕ, ◌⊎◌, ◌<◌, List, [], ◌++◌, length, take, drop, refl, sym, ap, ◌∙◌, subst, arith, append_assoc, append-nil, inl, inr}
use Rattle.std.proofs.Common.{Option, Some, None, Result, Ok, Err}
use Rattle.std.proofs.lemmas.List.{take-append-drop, length-append, drop_at, take_at, take-append-le, nil_from_length}
use Rattle.std.proofs.lemmas.Bool.{cases_lt}
use Rattle.std.specs.Io.KnownBytes.{Consumes}
use Rattle.httparse.specs.Grammar.{RequestHead, print_request, ReadsRequest, HasNoRequest, NeverHasRequest}
use Rattle.httparse.proofs.GrammarLemmas.{request_unique, ReadsRequest-append}
use Rattle.bw_http.specs.declared.request.ReadOutcome.{ReadOutcome}
use Rattle.bw_http.specs.declared.request.ReadOutcome.TheVariants.{End, BadHead, Truncated, HeadTooLong, NoHost, Coding, BadLength, LengthRequired, BodyTooLong}
use Rattle.bw_http.specs.declared.request.ReadOutcome.TheVariants.{Media, ReadFault, Memory}
use Rattle.bw_http.specs.declared.decide.Decision.TheVariants.{Refused, Body}
use Rattle.bw_http.specs.declared.request.Request.{Request}
use Rattle.bw_http.specs.Heads.{line_count, BeginsWith, HasNoHead, IsOverLimits, IsTooLong}
use Rattle.bw_http.specs.Decisions.{decide}
use Rattle.bw_http.proofs.Heads.{line_count-head}
use Rattle.bw_http.proofs.Lines.{lines_grow}
use Rattle.bw_http.proofs.LookingAgain.{head_in_front}
use Rattle.bw_http.specs.Messages.{IsMessage, IsDenied, IsSettled, IsShort, IsRefusal, IsOutcome, ComesOf}
use Rattle.bw_http.specs.Cuts.{AtFront, CutsAs, Cut, Tells}

-- ---- more bytes behind a head

begins-append : (bytes more : List ℕ) (h : RequestHead) (rest : List ℕ) → BeginsWith bytes h rest → BeginsWith (bytes ++ more) h (rest ++ more)
begins-append bytes more h rest b = record { reads = ReadsRequest-append bytes h rest more b.reads; limits = b.limits }

message-append : (bytes more : List ℕ) (h : RequestHead) (body rest : List ℕ) → IsMessage bytes h body rest
    → IsMessage (bytes ++ more) h body (rest ++ more)
message-append bytes more h body rest m = record {
  begins = subst (λ (t : List ℕ). BeginsWith (bytes ++ more) h t) (append_assoc body rest more) (begins-append bytes more h (body ++ rest) m.begins);
  size = m.size;
}

pub denied-append : (bytes more : List ℕ) (e : ReadOutcome) → IsDenied bytes e → IsDenied (bytes ++ more) e
denied-append bytes more e d = record { head = d.head; rest = d.rest ++ more; begins = begins-append bytes more d.head d.rest d.begins; test = d.test }

-- ---- the whole stream

behind : {kept have : List ℕ} (left : List ℕ) → kept ≡ have → kept ++ left ≡ have ++ left
behind left e = ap (λ (t : List ℕ). t ++ left) e

refusal_cut : (have left : List ℕ) (e : ReadOutcome) (rest : List ℕ) → IsRefusal have (left ≡ []) e rest → CutsAs (have ++ left) e (rest ++ left)
refusal_cut have left End rest r = (ap (λ (t : List ℕ). have ++ t) r.0 ∙ append-nil have ∙ r.1, behind left r.2)
refusal_cut have left BadHead rest r = ((have, left, refl, r.0), behind left r.1)
refusal_cut have left Truncated rest r =
    let same : have ++ left ≡ have = ap (λ (t : List ℕ). have ++ t) r.0 ∙ append-nil have in
    (λ e. r.1 (sym same ∙ e), subst (λ (t : List ℕ). IsShort t) (sym same) r.2, behind left r.3)
refusal_cut have left HeadTooLong rest r = ((have, left, refl, r.0), behind left r.1)
refusal_cut have left NoHost rest r = (denied-append have left NoHost r.0, behind left r.1)
refusal_cut have left Coding rest r = (denied-append have left Coding r.0, behind left r.1)
refusal_cut have left BadLength rest r = (denied-append have left BadLength r.0, behind left r.1)
refusal_cut have left LengthRequired rest r = (denied-append have left LengthRequired r.0, behind left r.1)
refusal_cut have left BodyTooLong rest r = (denied-append have left BodyTooLong r.0, behind left r.1)
refusal_cut have left Media rest r = (denied-append have left Media r.0, behind left r.1)
refusal_cut have left ReadFault rest r = ((have, left, refl, r.0), behind left r.1)
refusal_cut have left Memory rest r = (r.0, r.1, message-append have left r.0 r.1 rest r.2)

outcome_cut : (have left : List ℕ) (r : Result Request ReadOutcome) (rest : List ℕ) → IsOutcome have (left ≡ []) r rest
    → Cut (have ++ left) r (rest ++ left)
outcome_cut have left (Ok q) rest o = (o.0, o.1, message-append have left o.0 o.1 rest o.2, o.3)
outcome_cut have left (Err e) rest o = refusal_cut have left e rest o

pub cut_tells : (before after : Option (List ℕ)) (held : List ℕ) (r : Result Request ReadOutcome) (rest : List ℕ)
    → ComesOf before after held r rest → Tells before after held r rest
cut_tells before None held r rest c bytes e =
    absurd (subst (λ (t : Option (List ℕ)). Consumes t None c.filled.0) e c.filled.1)
cut_tells before (Some left) held r rest c bytes e =
    let split : bytes ≡ c.filled.0 ++ left = subst (λ (t : Option (List ℕ)). Consumes t (Some left) c.filled.0) e c.filled.1 in
    let whole : held ++ bytes ≡ c.have ++ left
    = ap (λ (t : List ℕ). held ++ t) split ∙ sym (append_assoc held c.filled.0 left) ∙ ap (λ (t : List ℕ). t ++ left) (sym c.filled.2) in
    (left, refl, subst (λ (t : List ℕ). Cut t r (rest ++ left)) (sym whole) (outcome_cut c.have left r rest c.outcome))

-- ---- what is free

-- where it ends behind the front, the front is its beginning
front_in_head : (front more : List ℕ) (h : RequestHead) (rest : List ℕ) → BeginsWith (front ++ more) h rest
    → length front < length (print_request h) → print_request h ≡ front ++ drop (length front) (print_request h)
front_in_head front more h rest b longer =
    let n = length front in
    let start : take n (print_request h) ≡ front
    = sym (take-append-le n (print_request h) rest (omega arith)) ∙ ap (take n) (sym b.reads.1) ∙ take_at front more n refl in
    sym (take-append-drop n (print_request h)) ∙ ap (λ (t : List ℕ). t ++ drop n (print_request h)) start

-- what passes a limit passes it whatever follows
limits_grow : (front more : List ℕ) → IsOverLimits front → IsOverLimits (front ++ more)
limits_grow front more over =
    elim over [
      | inl bytes ↦ inl (omega (arith, bytes, length-append front more))
      | inr lines ↦ inr (omega (arith, lines, lines_grow front more))
    ]

-- a front without a head and over the limits has none, whatever follows
pub too_long_stays : (front more : List ℕ) → IsTooLong front → HasNoHead (front ++ more)
too_long_stays front more t h rest b =
    elim (cases_lt (length front) (length (print_request h))) [
      | inl longer ↦ elim t.1 [
        | inl bytes ↦ absurd (omega (arith, b.limits.bytes))
        | inr lines ↦
            let whole = front_in_head front more h rest b longer in
            let grow = lines_grow front (drop (length front) (print_request h)) in
            let same = ap line_count whole in
            absurd (omega (arith, b.limits.lines, grow, same))
      ]
      | inr fits ↦ absurd (t.0 h (drop (length (print_request h)) front) (head_in_front front more h rest b fits))
    ]

-- what is settled is settled whatever follows
pub settled_stays : (front more : List ℕ) → IsSettled front → IsSettled (front ++ more)
settled_stays front more settled =
    elim settled [
      | inl whole ↦ inl (whole.0, whole.1, whole.2 ++ more, message-append front more whole.0 whole.1 whole.2 whole.3)
      | inr other ↦
          elim other [
            | inl denied ↦ inr (inl (denied.0, denied-append front more denied.0 denied.1))
            | inr last ↦
                elim last [
                  | inl long ↦ inr (inr (inl (too_long_stays front more long, limits_grow front more long.1)))
                  | inr bad ↦ inr (inr (inr (λ after. subst HasNoRequest (sym (append_assoc front more after)) (bad (more ++ after)))))
                ]
          ]
    ]

-- a stream has at most one whole message
pub message_unique : (stream : List ℕ) (h k : RequestHead) (a b r q : List ℕ) → IsMessage stream h a r → IsMessage stream k b q
    → (h ≡ k) × (a ≡ b) × (r ≡ q)
message_unique stream h k a b r q m n =
    let same = request_unique stream h k (a ++ r) (b ++ q) m.begins.reads n.begins.reads in
    let sizes : Body (length a) ≡ Body (length b) = sym m.size ∙ ap decide same.0 ∙ n.size in
    let len : length a ≡ length b = cc in
    let body : a ≡ b = sym (take_at a r (length b) len) ∙ ap (take (length b)) same.1 ∙ take_at b q (length b) refl in
    (same.0, body, sym (drop_at a r (length b) len) ∙ ap (drop (length b)) same.1 ∙ drop_at b q (length b) refl)

-- ---- where the head is whole, the outcome is a function of it

pub no_bad : (stream : List ℕ) (h : RequestHead) (rest : List ℕ) → BeginsWith stream h rest → AtFront NeverHasRequest stream → ⊥
no_bad stream h rest b f = f.3 f.1 h rest (subst (λ (t : List ℕ). ReadsRequest t h rest) f.2 b.reads)

pub no_long : (stream : List ℕ) (h : RequestHead) (rest : List ℕ) → BeginsWith stream h rest → AtFront IsTooLong stream → ⊥
no_long stream h rest b f = too_long_stays f.0 f.1 f.3 h rest (subst (λ (t : List ℕ). BeginsWith t h rest) f.2 b)

pub no_end : (h : RequestHead) (rest : List ℕ) → BeginsWith [] h rest → ⊥
no_end h rest b =
    let nil : print_request h ≡ [] = nil_from_length (print_request h) (omega (arith, ap length b.reads.1, length-append (print_request h) rest)) in
    let some = line_count-head h b.reads.0 in
    let none = ap line_count nil in
    absurd (omega (arith, some, none))

same_decision : (stream : List ℕ) (h k : RequestHead) (r q : List ℕ) → BeginsWith stream h r → BeginsWith stream k q → decide h ≡ decide k
same_decision stream h k r q a b = ap decide (request_unique stream h k r q a.reads b.reads).0

same_test : (stream : List ℕ) (e f : ReadOutcome) → IsDenied stream e → IsDenied stream f → ◌≡◌ {A = Result Request ReadOutcome} (Err f) (Err e)
same_test stream e f d g =
    let same : Refused e ≡ Refused f = sym d.test ∙ same_decision stream d.head g.head d.rest g.rest d.begins g.begins ∙ g.test in
    cc

-- no test refuses the head of a whole message
pub not_denied : (stream : List ℕ) (h : RequestHead) (body rest : List ℕ) (e : ReadOutcome) → IsMessage stream h body rest → IsDenied stream e → ⊥
not_denied stream h body rest e m d =
    let bad : Refused e ≡ Body (length body) = sym d.test ∙ same_decision stream d.head h d.rest (body ++ rest) d.begins m.begins ∙ m.size in
    cc

-- a test that refuses the head gives the outcome, unless a read failed first
pub denied_exact : (stream : List ℕ) (e : ReadOutcome) (r : Result Request ReadOutcome) (rest : List ℕ)
    → IsDenied stream e → Cut stream r rest → (r ≡ Err e) ⊎ (r ≡ Err ReadFault)
denied_exact stream e (Ok q) rest d c = absurd (not_denied stream c.0 c.1 rest e c.2 d)
denied_exact stream e (Err End) rest d c = absurd (no_end d.head d.rest (subst (λ (t : List ℕ). BeginsWith t d.head d.rest) c.0 d.begins))
denied_exact stream e (Err BadHead) rest d c = absurd (no_bad stream d.head d.rest d.begins c.0)
denied_exact stream e (Err Truncated) rest d c =
    elim c.1 [
      | inl lacks ↦ absurd (lacks.none d.head d.rest d.begins)
      | inr lacks ↦
          let same = same_decision stream d.head lacks.head d.rest lacks.rest d.begins lacks.begins in
          let bad : Refused e ≡ Body lacks.size = sym d.test ∙ same ∙ lacks.wants in
          cc
    ]
denied_exact stream e (Err HeadTooLong) rest d c = absurd (no_long stream d.head d.rest d.begins c.0)
denied_exact stream e (Err NoHost) rest d c = inl (same_test stream e NoHost d c.0)
denied_exact stream e (Err Coding) rest d c = inl (same_test stream e Coding d c.0)
denied_exact stream e (Err BadLength) rest d c = inl (same_test stream e BadLength d c.0)
denied_exact stream e (Err LengthRequired) rest d c = inl (same_test stream e LengthRequired d c.0)
denied_exact stream e (Err BodyTooLong) rest d c = inl (same_test stream e BodyTooLong d c.0)
denied_exact stream e (Err Media) rest d c = inl (same_test stream e Media d c.0)
denied_exact stream e (Err ReadFault) rest d c = inr refl
denied_exact stream e (Err Memory) rest d c = absurd (not_denied stream c.0 c.1 rest e c.2 d)
