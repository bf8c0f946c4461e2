use Rattle.std.proofs.Common.{Bool, ap, ◌∙◌, not, codes, map}
use Rattle.httparse.specs.Spans.{header_bytes}
use Rattle.bw_http.specs.declared.request.Method.{Method}
use Rattle.bw_http.specs.declared.decide.Length.{Length}
use Rattle.bw_http.specs.Decisions.{decide_on, decide_in_order, values, is_one, is_none, length_of, method_of}
use Rattle.bw_http.proofs.decide.decide_on.Goals as goal

pub returns : goal.returns
unfolding decide_on
returns c =
    let pairs = map (header_bytes c.args.buf.now) c.args.headers.now in
    let hosts = values (codes "host") pairs in
    let codings = values (codes "transfer-encoding") pairs in
    let lengths = values (codes "content-length") pairs in
    let host = c.is_one-host.ensures c.args.buf.now hosts c.find.ensures in
    let coded = c.is_none-coded.ensures c.args.buf.now codings c.find-2.ensures in
    let size = c.length_of-length.ensures lengths c.find-3.ensures in
    let form = c.is_form-form.ensures (values (codes "content-type") pairs) c.find-4.ensures in
    let minor = c.args.minor in
    let method = c.args.method.now in
    c.decide_in_order.ensures
    ∙ ap (λ (t : Bool). decide_in_order minor t (not c.is_none-coded.result) c.method_of.result c.length_of-length.result c.is_form-form.result) host
    ∙ ap (λ (t : Bool). decide_in_order minor (is_one hosts) (not t) c.method_of.result c.length_of-length.result c.is_form-form.result) coded
    ∙ ap (λ (t : Method). decide_in_order minor (is_one hosts) (not (is_none codings)) t c.length_of-length.result c.is_form-form.result)
    c.method_of.ensures
    ∙ ap (λ (t : Length). decide_in_order minor (is_one hosts) (not (is_none codings)) (method_of method) t c.is_form-form.result) size
    ∙ ap (λ (t : Bool). decide_in_order minor (is_one hosts) (not (is_none codings)) (method_of method) (length_of lengths) t) form
