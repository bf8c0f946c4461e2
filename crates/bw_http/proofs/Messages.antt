-- The head that was found, and the message.
use Rattle.std.proofs.Common.{◌≡◌, ◌≢◌, ℕ, ◌+◌, ◌-◌, ◌<◌, ◌≤◌, List, [], ◌∷◌, ◌++◌, length, take, drop, map, refl, sym, ap, ◌∙◌, subst, arith, append_assoc}
use Rattle.std.proofs.Common.{append-nil, Option, Some, None, Ok, Err, inr, slice_range}
use Rattle.std.proofs.lemmas.List.{take-append-drop, length-take-le, length-append, drop-take, drop_at, take-take, take_at}
use Rattle.httparse.specs.Grammar.{print_request}
use Rattle.httparse.specs.Spans.{header_bytes, span_bytes}
use Rattle.httparse.specs.declared.spans.HeaderSpan.{HeaderSpan}
use Rattle.httparse.specs.declared.spans.RequestSpans.{RequestSpans}
use Rattle.bw_http.specs.declared.request.ReadOutcome.{ReadOutcome}
use Rattle.bw_http.specs.declared.request.ReadOutcome.TheVariants.{End, Truncated, Memory}
use Rattle.bw_http.specs.declared.decide.Decision.TheVariants.{Body}
use Rattle.bw_http.specs.declared.reading.Parts.{Parts}
use Rattle.bw_http.specs.declared.request.Request.{Request}
use Rattle.std.specs.Io.KnownBytes.{Consumes, Keeps}
use Rattle.bw_http.specs.Taken.{IsFilled}
use Rattle.bw_http.proofs.Tests.{decide_size}
use Rattle.bw_http.specs.declared.reading.Verdict.TheVariants.{Short}
use Rattle.bw_http.specs.declared.reading.Lack.TheVariants.{Bytes as Lacking}
use Rattle.httparse.proofs.GrammarLemmas.{ReadsRequest-append}
use Rattle.bw_http.specs.Heads.{BeginsWith}
use Rattle.bw_http.specs.Decisions.{decide, decide_on, method_of}
use Rattle.bw_http.specs.Looks.{IsHeadAt}
use Rattle.bw_http.specs.Messages.{IsMessage, IsMessageAt, IsShort, IsRefusal, IsOutcome, IsRequest, IsVerdict}

-- ---- the head that was found

-- the tests on the spans are those on the head
pub decided : (bytes : List ℕ) (headers : List HeaderSpan) (r : RequestSpans) (at : IsHeadAt bytes headers r)
    → decide_on (span_bytes (take 16384 bytes) r.method) r.version (map (header_bytes (take 16384 bytes)) (take r.headers headers)) ≡ decide at.head
decided bytes headers r at =
    let pairs = map (header_bytes (take 16384 bytes)) (take r.headers headers) in
    ap (λ (t : List ℕ). decide_on t r.version pairs) at.spans.method
    ∙ ap (λ (t : ℕ). decide_on at.head.method t pairs) at.spans.version
    ∙ ap (λ (t : List (List ℕ × List ℕ)). decide_on at.head.method at.head.minor t) at.spans.fields

-- what follows the head
rest_is : (bytes : List ℕ) (headers : List HeaderSpan) (r : RequestSpans) (at : IsHeadAt bytes headers r)
    → length bytes ≡ r.len + length (drop r.len bytes)
rest_is bytes headers r at =
    ap length at.begins.reads.1 ∙ length-append (print_request at.head) (drop r.len bytes)
    ∙ ap (λ (n : ℕ). n + length (drop r.len bytes)) (sym at.spans.len)

head_fits : (bytes : List ℕ) (headers : List HeaderSpan) (r : RequestSpans) (at : IsHeadAt bytes headers r) → r.len ≤ 16384
head_fits bytes headers r at = omega (arith, at.spans.len, at.begins.limits.bytes)

pub body_lacks : (bytes : List ℕ) (headers : List HeaderSpan) (r : RequestSpans) (size : ℕ) (at : IsHeadAt bytes headers r)
    → decide at.head ≡ Body size → length bytes - r.len < size → IsVerdict bytes (Short (Lacking (r.len + size)))
body_lacks bytes headers r size at wants less =
    let whole = rest_is bytes headers r at in (
      omega (arith, whole),
      omega (arith, head_fits bytes headers r at, decide_size at.head size wants),
      λ more few. inr (record {
        head = at.head;
        rest = drop r.len bytes ++ more;
        size = size;
        begins = record { reads = ReadsRequest-append bytes at.head (drop r.len bytes) more at.begins.reads; limits = at.begins.limits };
        wants = wants;
        lacks = omega (arith, whole, few, length-append bytes more, length-append (drop r.len bytes) more);
      }),
    )

pub part_same : (n i j : ℕ) (xs : List ℕ) → i ≤ j → j ≤ n → slice_range (take n xs) i j ≡ slice_range xs i j
part_same n i j xs g h =
    let sum : i + (n - i) ≡ n = omega arith in
    ap (λ (k : ℕ). take (j - i) (drop i (take k xs))) (sym sum)
    ∙ ap (take (j - i)) (drop-take i (n - i) xs)
    ∙ take-take (j - i) (n - i) (drop i xs) (omega arith)

pub message_at : (bytes : List ℕ) (headers : List HeaderSpan) (r : RequestSpans) (size : ℕ) (at : IsHeadAt bytes headers r)
    → decide at.head ≡ Body size → size ≤ length bytes - r.len
    → IsMessageAt bytes (record { method = method_of at.head.method; target = r.path; len = r.len; size = size })
message_at bytes headers r size at wants enough =
    let whole = rest_is bytes headers r at in
    let tail = drop r.len bytes in
    let count : length (take size tail) ≡ size = length-take-le size tail (omega (arith, whole)) in
    record {
      head = at.head;
      body = take size tail;
      rest = drop size tail;
      is = record {
        begins = subst (λ (t : List ℕ). BeginsWith bytes at.head t) (sym (take-append-drop size tail)) at.begins;
        size = wants ∙ ap Body (sym count);
      };
      len = at.spans.len;
      size = sym count;
      method = refl;
      within = at.within.path;
      target = sym (part_same 16384 r.path.start r.path.end bytes at.within.path.0 (omega (arith, head_fits bytes headers r at, at.within.path.1)))
          ∙ at.spans.path;
    }

-- ---- the message

message_split : (bytes : List ℕ) (p : Parts) (m : IsMessageAt bytes p) → bytes ≡ print_request m.head ++ (m.body ++ m.rest)
message_split bytes p m = m.is.begins.reads.1

pub message_length : (bytes : List ℕ) (p : Parts) (m : IsMessageAt bytes p) → p.len + p.size ≤ length bytes
message_length bytes p m =
    omega (arith, ap length (message_split bytes p m), length-append (print_request m.head) (m.body ++ m.rest), length-append m.body m.rest, m.len, m.size)

pub message_body : (bytes : List ℕ) (p : Parts) (m : IsMessageAt bytes p) → slice_range bytes p.len (p.len + p.size) ≡ m.body
message_body bytes p m =
    let less : (p.len + p.size) - p.len ≡ p.size = omega arith in
    ap (λ (t : List ℕ). slice_range t p.len (p.len + p.size)) (message_split bytes p m)
    ∙ ap (λ (t : List ℕ). take ((p.len + p.size) - p.len) t) (drop_at (print_request m.head) (m.body ++ m.rest) p.len (sym m.len))
    ∙ take_at m.body m.rest ((p.len + p.size) - p.len) (omega (arith, less, m.size))

pub message_rest : (bytes : List ℕ) (p : Parts) (m : IsMessageAt bytes p) → drop (p.len + p.size) bytes ≡ m.rest
message_rest bytes p m =
    ap (drop (p.len + p.size)) (message_split bytes p m ∙ sym (append_assoc (print_request m.head) m.body m.rest))
    ∙ drop_at (print_request m.head ++ m.body) m.rest (p.len + p.size) (omega (arith, length-append (print_request m.head) m.body, m.len, m.size))

-- the same bytes are the same message
abbrev pub same_message : (bytes others : List ℕ) (p : Parts) → bytes ≡ others → IsMessageAt bytes p → IsMessageAt others p
same_message bytes others p e m = record {
  head = m.head;
  body = m.body;
  rest = m.rest;
  is = record { begins = record { reads = (m.is.begins.reads.0, sym e ∙ m.is.begins.reads.1); limits = m.is.begins.limits }; size = m.is.size };
  len = m.len;
  size = m.size;
  method = m.method;
  within = m.within;
  target = ap (λ (t : List ℕ). span_bytes t p.target) (sym e) ∙ m.target;
}

-- ---- what came of a read

-- a whole message is read
pub message_read : (have : List ℕ) (ended : Type 0) (p : Parts) (m : IsMessageAt have p) (q : Request) (rest : List ℕ)
    → rest ≡ m.rest → IsRequest m.head m.body q → IsOutcome have ended (Ok q) rest
message_read have ended p m q rest e x = (m.head, m.body, subst (λ (t : List ℕ). IsMessage have m.head m.body t) (sym e) m.is, x)

-- or taken without memory for it
pub message_taken : (have : List ℕ) (ended : Type 0) (p : Parts) (m : IsMessageAt have p) (rest : List ℕ)
    → rest ≡ m.rest → IsOutcome have ended (Err Memory) rest
message_taken have ended p m rest e = (m.head, m.body, subst (λ (t : List ℕ). IsMessage have m.head m.body t) (sym e) m.is)

-- the source ended before a message was whole
pub ended_outcome : (have : List ℕ) (ended : Type 0) (e : ReadOutcome) → (have ≡ [] → e ≡ End) → (have ≢ [] → e ≡ Truncated)
    → IsShort have → ended → IsOutcome have ended (Err e) have
ended_outcome [] ended e end truncated short is = subst (λ (t : ReadOutcome). IsRefusal [] ended t []) (sym (end refl)) (is, refl, refl)
ended_outcome (b ∷ have) ended e end truncated short is =
    let some : b ∷ have ≢ [] = λ nil. absurd (omega (arith, ap length nil)) in
    subst (λ (t : ReadOutcome). IsRefusal (b ∷ have) ended t (b ∷ have)) (sym (truncated some)) (is, some, short, refl)

-- ---- bytes that were taken

consumed : (u v w : Option (List ℕ)) (a b : List ℕ) → Consumes u v a → Consumes v w b → Consumes u w (a ++ b)
consumed None v w a b x y = tt
consumed (Some xs) None w a b x y = absurd x
consumed (Some xs) (Some ys) None a b x y = absurd y
consumed (Some xs) (Some ys) (Some zs) a b x y = x ∙ ap (λ (t : List ℕ). a ++ t) y ∙ sym (append_assoc a b zs)

pub filled_more : (u v w : Option (List ℕ)) (x y z : List ℕ) → IsFilled u v x y → IsFilled v w y z → IsFilled u w x z
filled_more u v w x y z a b = (
  a.0 ++ b.0,
  consumed u v w a.0 b.0 a.1 b.1,
  b.2 ∙ ap (λ (t : List ℕ). t ++ b.0) a.2 ∙ append_assoc x a.0 b.0,
)

kept : (u v : Option (List ℕ)) → Keeps u v → Consumes u v []
kept None v k = tt
kept (Some xs) None k = absurd k
kept (Some xs) (Some ys) k = sym k

pub filled_none : (u v : Option (List ℕ)) (x y : List ℕ) → Keeps u v → y ≡ x → IsFilled u v x y
filled_none u v x y k e = ([], kept u v k, e ∙ sym (append-nil x))
