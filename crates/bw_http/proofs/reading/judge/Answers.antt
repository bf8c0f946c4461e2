use Rattle.std.proofs.Common.{◌≡◌, ℕ, List, take, map, slice_range, arith, ap, sym, ◌∙◌, subst}
use Rattle.httparse.specs.Spans.{header_bytes}
use Rattle.bw_http.specs.Decisions.{decide_on, method_of}
use Rattle.bw_http.specs.declared.request.Method.{Method}
use Rattle.bw_http.specs.Messages.{IsMessageAt}
use Rattle.bw_http.proofs.Messages.{decided, body_lacks, message_at}
use Rattle.bw_http.proofs.reading.judge.Goals as goal

pub returns-then-bytes-spans : goal.returns-then-bytes-spans
returns-then-bytes-spans c =
    let r = c.args.spans in
    let d = decided c.args.bytes.now c.args.headers.now r c.requires in
    let used = take r.headers c.args.headers.now in
    let e = c.in-Body.ensures
    ∙ ap (λ (t : List ℕ). decide_on t r.version (map (header_bytes c.front-part.result.now) used)) c.of-name.ensures
    ∙ ap (λ (t : List ℕ). decide_on (slice_range t r.method.start r.method.end) r.version (map (header_bytes t) used)) c.front-part.ensures
    ∙ d in
    body_lacks c.args.bytes.now c.args.headers.now r c.in-Body.size c.requires (sym e) c.if-bytes-spans.true

pub returns-else-bytes-spans : goal.returns-else-bytes-spans
returns-else-bytes-spans c =
    let r = c.args.spans in
    let d = decided c.args.bytes.now c.args.headers.now r c.requires in
    let used = take r.headers c.args.headers.now in
    let e = c.in-Body.ensures
    ∙ ap (λ (t : List ℕ). decide_on t r.version (map (header_bytes c.front-part.result.now) used)) c.of-name.ensures
    ∙ ap (λ (t : List ℕ). decide_on (slice_range t r.method.start r.method.end) r.version (map (header_bytes t) used)) c.front-part.ensures
    ∙ d in
    let m : c.method_of-method.result ≡ method_of c.requires.head.method = c.method_of-method.ensures ∙ ap method_of c.of-name.ensures
    ∙ ap (λ (t : List ℕ). method_of (slice_range t r.method.start r.method.end)) c.front-part.ensures ∙ ap method_of c.requires.spans.method in
    subst (λ (t : Method). IsMessageAt c.args.bytes.now (record { method = t; target = r.path; len = r.len; size = c.in-Body.size })) (sym m)
    (message_at c.args.bytes.now c.args.headers.now r c.in-Body.size c.requires (sym e) c.if-bytes-spans.false)

pub overflow_add-result : goal.overflow_add-result
overflow_add-result c =
    let r = c.args.spans in
    let d = decided c.args.bytes.now c.args.headers.now r c.requires in
    let used = take r.headers c.args.headers.now in
    let e = c.in-Body.ensures
    ∙ ap (λ (t : List ℕ). decide_on t r.version (map (header_bytes c.front-part.result.now) used)) c.of-name.ensures
    ∙ ap (λ (t : List ℕ). decide_on (slice_range t r.method.start r.method.end) r.version (map (header_bytes t) used)) c.front-part.ensures
    ∙ d in
    let lacks = body_lacks c.args.bytes.now c.args.headers.now r c.in-Body.size c.requires (sym e) c.if-bytes-spans.true in
    omega (arith, lacks.1)
