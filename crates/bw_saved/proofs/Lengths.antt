-- A file has little more bytes than its values weigh.
use Rattle.std.proofs.Common.{◌≡◌, ◌<◌, ◌≤◌, ℕ, zero, suc, ◌+◌, ◌^◌, List, [], ◌∷◌, ◌++◌, length, refl, sym, ap, subst, ◌∙◌, arith}
use Rattle.std.specs.Prelude.{◌*◌, sum_by, codes}
use Rattle.std.specs.List.{flat_map, AllByRecursion}
use Rattle.std.specs.Int.{w16, w32, w64, to_be_bytes, cast_unsigned}
use Rattle.std.proofs.lemmas.List.{append-nil, length-append}
use Rattle.std.proofs.lemmas.List.Concat.{flat_map-cons}
use Rattle.std.proofs.lemmas.List.Sums.{sum_by-cons}
use Rattle.std.proofs.lemmas.Grind.{flat_map-append}
use Rattle.bw_doc.specs.Made.{Made, constant, plug, plug_text, tree, measure}
use Rattle.bw_doc.specs.Operations.{Operation, operations}
use Rattle.bw_doc.specs.Operations as ops
use Rattle.bw_eval.specs.declared.value.Value.{Value}
use Rattle.bw_eval.specs.declared.value.Value.TheVariants as values
use Rattle.bw_eval.specs.View as view
use Rattle.bw_flow.specs.Steps.{Step}
use Rattle.bw_lang.specs.declared.limits.TheConstants.{MAX_FILE_BYTES}
use Rattle.bw_lang.specs.declared.service.Service.{Service}
use Rattle.bw_lang.specs.declared.stmt.Kind.{Kind}
use Rattle.bw_lang.specs.declared.stmt.Kind.TheVariants as kinds
use Rattle.bw_lang.specs.Document.Documents.{count}
use Rattle.bw_lang.specs.Document.Measures.{items_weight}
use Rattle.bw_meaning.specs.Values.{list_weight, weight, weights}
use Rattle.bw_run.specs.Follow.Kinds.{kinds_in}
use Rattle.bw_run.specs.Follow.Runs.{rests_weight}
use Rattle.bw_run.specs.Walks.{number_at}
use Rattle.bw_saved.specs.declared.limits.TheConstants.{MAX_SAVED_BYTES, MAX_SAVED_WEIGHT}
use Rattle.bw_saved.specs.declared.saved.Record.{Record}
use Rattle.bw_saved.specs.declared.saved.Saved.{Saved}
use Rattle.bw_saved.specs.Documents.Demands.{IsBuilt, IsDocument}
use Rattle.bw_saved.specs.Documents.Layout.{operation, document}
use Rattle.bw_saved.specs.Fields.Spelling.{integer, text, strings}
use Rattle.bw_flow.specs.Layout.{flow_of}
use Rattle.bw_saved.specs.Sessions.Demands.{IsSession, IsSaved}
use Rattle.bw_saved.specs.Sessions.Layout.{session, waiting, file}
use Rattle.bw_saved.specs.Sessions.Weights.{session_weight, total_weight}
use Rattle.bw_saved.specs.Values.Demands.{IsValue, AreVariables}
use Rattle.bw_saved.specs.Values.Layout.{bit, value, variables}
use Rattle.bw_saved.proofs.DocumentLaws.{grows}
use Rattle.bw_types.specs.Scopes.{shared_kinds}

-- ---- fields

two_bytes : (n : ℕ) → length (to_be_bytes w16 n) ≤ 2
two_bytes n = let e : length (to_be_bytes w16 n) ≡ 2 = refl in omega (arith, e)

four_bytes : (n : ℕ) → length (to_be_bytes w32 n) ≤ 4
four_bytes n = let e : length (to_be_bytes w32 n) ≡ 4 = refl in omega (arith, e)

eight_bytes : (n : ℕ) → length (to_be_bytes w64 n) ≤ 8
eight_bytes n = let e : length (to_be_bytes w64 n) ≡ 8 = refl in omega (arith, e)

then_bytes : (a b : List ℕ) (n m : ℕ) → length a ≤ n → length b ≤ m → length (a ++ b) ≤ n + m
then_bytes a b n m h k = omega (arith, length-append a b, h, k)

text_length : (s : List ℕ) → length (text s) ≤ 4 + length s
text_length s = then_bytes (to_be_bytes w32 (length s)) s 4 (length s) (four_bytes (length s)) (omega arith)

texts_length : (ss : List (List ℕ)) → length (flat_map text ss) ≤ sum_by (λ s. 16 + length s) ss
texts_length [] = omega arith
texts_length (s ∷ ss) =
    let bytes = ap length (flat_map-cons text s ss) in
    let both = then_bytes (text s) (flat_map text ss) (4 + length s) (sum_by (λ (s : List ℕ). 16 + length s) ss) (text_length s) (texts_length ss) in
    let weighs = sum_by-cons (λ (s : List ℕ). 16 + length s) s ss in
    omega (arith, bytes, both, weighs)

strings_length : (ss : List (List ℕ)) → 1 + length (strings ss) ≤ list_weight ss
strings_length ss =
    let all = then_bytes (to_be_bytes w32 (length ss)) (flat_map text ss) 4 (sum_by (λ (s : List ℕ). 16 + length s) ss)
    (four_bytes (length ss)) (texts_length ss) in
    omega (arith, all)

rests_length : (rs : List (List (List ℕ))) → length (flat_map strings rs) ≤ rests_weight rs
rests_length [] = omega arith
rests_length (r ∷ rs) =
    let bytes = ap length (flat_map-cons strings r rs) in
    let both = then_bytes (strings r) (flat_map strings rs) (list_weight r) (rests_weight rs) (omega (arith, strings_length r)) (rests_length rs) in
    let weighs = sum_by-cons list_weight r rs in
    omega (arith, bytes, both, weighs)

-- ---- documents

-- each operation has fewer bytes than it makes the document heavier
plug_sums : (b a w v p : ℕ) → b + 61 ≤ w → a + 61 ≤ v → v ≤ p → b + (a + 3) + 61 ≤ 64 + w + p
plug_sums b a w v p hb ha hp = omega (arith, hb, ha, hp)

text_sums : (b w n p : ℕ) → b + 61 ≤ w → 16 + n ≤ p → b + (7 + n) + 61 ≤ 64 + w + p
text_sums b w n p hb hp = omega (arith, hb, hp)

one_operation : (o : Operation) → flat_map operation (o ∷ []) ≡ operation o
one_operation o = flat_map-cons operation o [] ∙ append-nil (operation o)

number_length : (n t : ℕ) → length (t ∷ to_be_bytes w16 n) ≤ 3
number_length n t = let h = two_bytes n in omega (arith, h)

text_operation_length : (g : ℕ) (s : List ℕ) → length (operation (ops.plug_text g s)) ≤ 7 + length s
text_operation_length g s =
    let h = then_bytes (to_be_bytes w16 g) (text s) 2 (4 + length s) (two_bytes g) (text_length s) in omega (arith, h)

operations_length : (service : Service) (d : Made) → IsBuilt service d → length (flat_map operation (operations d)) + 61 ≤ (measure d).weight
operations_length service (constant n items) h =
    let one = ap length (one_operation (ops.constant n)) in
    let three = number_length n 0 in
    let weighs : (measure (constant n items)).weight ≡ 64 + items_weight items = refl in
    omega (arith, one, three, weighs)
operations_length service (plug b g a) h =
    let one = ap length (one_operation (ops.plug g)) in
    let three = number_length g 1 in
    let outer = ap length (flat_map-append operation (operations b) (operations a ++ ops.plug g ∷ [])) in
    let inner = ap length (flat_map-append operation (operations a) (ops.plug g ∷ [])) in
    let o = length-append (flat_map operation (operations b)) (flat_map operation (operations a ++ ops.plug g ∷ [])) in
    let i = length-append (flat_map operation (operations a)) (flat_map operation (ops.plug g ∷ [])) in
    let sums = plug_sums (length (flat_map operation (operations b))) (length (flat_map operation (operations a))) (measure b).weight (measure a).weight
    (count g (tree b) * (measure a).weight) (operations_length service b h.0) (operations_length service a h.1)
    (grows (measure a).weight (count g (tree b)) h.3.opens) in
    let weighs : (measure (plug b g a)).weight ≡ 64 + (measure b).weight + count g (tree b) * (measure a).weight = refl in
    omega (arith, one, three, outer, inner, o, i, sums, weighs)
operations_length service (plug_text b g s) h =
    let one = ap length (one_operation (ops.plug_text g s)) in
    let last = text_operation_length g s in
    let outer = ap length (flat_map-append operation (operations b) (ops.plug_text g s ∷ [])) in
    let o = length-append (flat_map operation (operations b)) (flat_map operation (ops.plug_text g s ∷ [])) in
    let sums = text_sums (length (flat_map operation (operations b))) (measure b).weight (length s) (count g (tree b) * (16 + length s))
    (operations_length service b h.0) (grows (16 + length s) (count g (tree b)) h.2.opens) in
    let weighs : (measure (plug_text b g s)).weight ≡ 64 + (measure b).weight + count g (tree b) * (16 + length s) = refl in
    omega (arith, one, last, outer, o, sums, weighs)

document_length : (service : Service) (d : Made) → IsBuilt service d → 1 + length (document d) ≤ (measure d).weight
document_length service d h =
    let n = length (operations d) in
    let all = length-append (to_be_bytes w32 n) (flat_map operation (operations d)) in
    let front = four_bytes n in
    let behind = operations_length service d h in
    omega (arith, all, front, behind)

-- ---- values

value_length : (service : Service) (kind : Kind) (v : Value) → IsValue service kind v → length (value v) ≤ weight (view.value v)
value_length service kind (values.Int n) h = let e = eight_bytes (cast_unsigned w64 n) in omega (arith, e)
value_length service kind (values.Bool b) h = omega arith
value_length service kind (values.Str s) h = let e = text_length s in omega (arith, e)
value_length service kinds.Html (values.Html d) h = let e = document_length service d h.built in omega (arith, e)
value_length service kinds.Int (values.Html d) h = absurd h
value_length service kinds.Bool (values.Html d) h = absurd h
value_length service kinds.Str (values.Html d) h = absurd h
value_length service kinds.Strs (values.Html d) h = absurd h
value_length service kind (values.Strs ss) h = let e = strings_length ss in omega (arith, e)

variables_length : (service : Service) (ks : List (List ℕ × Kind)) (xs : List (List ℕ × Value)) → AreVariables service ks xs →
    length (variables xs) ≤ weights (view.values xs)
variables_length service [] [] h = omega arith
variables_length service [] (x ∷ xs) h = absurd h
variables_length service (k ∷ ks) [] h = absurd h
variables_length service (k ∷ ks) (x ∷ xs) h =
    let bytes = ap length (flat_map-cons (λ (x : List ℕ × Value). value x.1) x xs) in
    let both = then_bytes (value x.1) (variables xs) (weight (view.value x.1)) (weights (view.values xs))
    (value_length service k.1 x.1 h.0.1) (variables_length service ks xs h.1) in
    let weighs = sum_by-cons (λ x. weight x.1) (view.named x) (view.values xs) in
    omega (arith, bytes, both, weighs)

-- ---- sessions

session_length : (service : Service) (next : ℕ) (r : Record) → IsSession service next r → length (session (flow_of service) r) ≤ 22 + session_weight r
session_length service next r h =
    let at = number_at (flow_of service) r.frame.point in
    let page_is = document r.page in
    let rests_are : List ℕ = flat_map strings r.frame.rests ++ page_is in
    let locals_are : List ℕ = variables r.frame.locals ++ rests_are in
    let at_is : List ℕ = to_be_bytes w32 at ++ locals_are in
    let turn_is : List ℕ = to_be_bytes w32 r.turn ++ at_is in
    let session_is : List ℕ = to_be_bytes w16 r.session ++ turn_is in
    let key_is : List ℕ = to_be_bytes w64 r.key ++ session_is in
    let w = (measure r.page).weight in
    let v = rests_weight r.frame.rests in
    let u = weights (view.values r.frame.locals) in
    let page : length page_is ≤ w = let e = document_length service r.page h.page.built in omega (arith, e) in
    let rests = then_bytes (flat_map strings r.frame.rests) page_is v w (rests_length r.frame.rests) page in
    let locals = then_bytes (variables r.frame.locals) rests_are u (v + w)
    (variables_length service (kinds_in h.step.scope) r.frame.locals h.waits.locals) rests in
    let number = then_bytes (to_be_bytes w32 at) locals_are 4 (u + (v + w)) (four_bytes at) locals in
    let turn = then_bytes (to_be_bytes w32 r.turn) at_is 4 (4 + (u + (v + w))) (four_bytes r.turn) number in
    let which = then_bytes (to_be_bytes w16 r.session) turn_is 2 (4 + (4 + (u + (v + w)))) (two_bytes r.session) turn in
    let key = then_bytes (to_be_bytes w64 r.key) session_is 8 (2 + (4 + (4 + (u + (v + w))))) (eight_bytes r.key) which in
    let all : length (session (flow_of service) r) ≤ 4 + (8 + (2 + (4 + (4 + (u + (v + w)))))) =
    then_bytes (to_be_bytes w32 r.number) key_is 4 (8 + (2 + (4 + (4 + (u + (v + w)))))) (four_bytes r.number) key in
    sum_is (length (session (flow_of service) r)) u v w all
  where
    sum_is : (n u v w : ℕ) → n ≤ 4 + (8 + (2 + (4 + (4 + (u + (v + w)))))) → n ≤ 22 + (u + v + w)
    sum_is n u v w h = omega (arith, h)

sessions_length : (service : Service) (next : ℕ) (rs : List Record) → AllByRecursion (IsSession service next) rs →
    length (flat_map (session (flow_of service)) rs) ≤ 22 * length rs + sum_by session_weight rs
sessions_length service next [] h = omega arith
sessions_length service next (r ∷ rs) h =
    let flow = flow_of service in
    let bytes = ap length (flat_map-cons (session flow) r rs) in
    let both = then_bytes (session flow r) (flat_map (session flow) rs) (22 + session_weight r) (22 * length rs + sum_by session_weight rs)
    (session_length service next r h.0) (sessions_length service next rs h.1) in
    let weighs = sum_by-cons session_weight r rs in
    omega (arith, bytes, both, weighs)

-- ---- files

sums_up : (t n v w total bytes : ℕ) → t ≤ MAX_FILE_BYTES → n ≤ 1000 → v + w ≡ total → total ≤ MAX_SAVED_WEIGHT →
    bytes ≤ 8 + (4 + t + (8 + (4 + (v + (4 + (22 * n + w)))))) → bytes ≤ MAX_SAVED_BYTES
sums_up t n v w total bytes ht hn hs hw h = omega (arith, ht, hn, hs, hw, h)

pub file_is_short : (service : Service) (t : List ℕ) (s : Saved) → IsSaved service s → length t ≤ MAX_FILE_BYTES → total_weight s ≤ MAX_SAVED_WEIGHT →
    length (file (flow_of service) t s) ≤ MAX_SAVED_BYTES
file_is_short service t s h short light =
    let records_are : List ℕ = flat_map (session (flow_of service)) s.records in
    let count_is : List ℕ = to_be_bytes w32 (length s.records) ++ records_are in
    let shared_are : List ℕ = variables s.shared ++ count_is in
    let first_is : List ℕ = to_be_bytes w32 s.first ++ shared_are in
    let w = sum_by session_weight s.records in
    let n = length s.records in
    let v = weights (view.values s.shared) in
    let count = then_bytes (to_be_bytes w32 n) records_are 4 (22 * n + w) (four_bytes n) (sessions_length service s.next s.records h.sessions) in
    let shared = then_bytes (variables s.shared) count_is v (4 + (22 * n + w)) (variables_length service (shared_kinds service) s.shared h.shared) count in
    let first = then_bytes (to_be_bytes w32 s.first) shared_are 4 (v + (4 + (22 * n + w))) (four_bytes s.first) shared in
    let next = then_bytes (to_be_bytes w64 s.next) first_is 8 (4 + (v + (4 + (22 * n + w)))) (eight_bytes s.next) first in
    let front = then_bytes (text t) (waiting (flow_of service) s) (4 + length t) (8 + (4 + (v + (4 + (22 * n + w))))) (text_length t) next in
    let all : length (file (flow_of service) t s) ≤ 8 + (4 + length t + (8 + (4 + (v + (4 + (22 * n + w)))))) =
    then_bytes (codes "BWSAVE1\n") (text t ++ waiting (flow_of service) s) 8 (4 + length t + (8 + (4 + (v + (4 + (22 * n + w))))))
    (omega arith) front in
    sums_up (length t) n v w (total_weight s) (length (file (flow_of service) t s)) short h.few refl light all
