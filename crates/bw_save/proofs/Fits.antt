-- Where plugs filled gaps, what weighs no more than may be saved can be written.
use Rattle.std.proofs.Common.{◌≡◌, ◌<◌, ◌≤◌, ◌+◌, ◌^◌, ℕ, true, List, [], ◌∷◌, ◌++◌, length, All, refl, arith}
use Rattle.std.specs.Prelude.{◌*◌, ◌&&◌, sum_by}
use Rattle.std.specs.List.{AllByRecursion, list_all}
use Rattle.std.proofs.lemmas.Bool.{ltb-true}
use Rattle.std.proofs.lemmas.List.{length-append}
use Rattle.std.proofs.lemmas.List.Elements.{All-from_recursion, recursion_from_All}
use Rattle.std.proofs.lemmas.List.Sums.{sum_by-cons}
use Rattle.bw_doc.specs.Made.{Made, constant, plug, plug_text, tree, measure}
use Rattle.bw_doc.specs.Operations.{Operation, operations}
use Rattle.bw_doc.specs.Operations as ops
use Rattle.bw_eval.specs.declared.value.Value.{Value}
use Rattle.bw_eval.specs.declared.value.Value.TheVariants.{Int, Bool as Truth, Str, Html, Strs}
use Rattle.bw_eval.specs.View as view
use Rattle.bw_lang.specs.declared.service.Service.{Service}
use Rattle.bw_lang.specs.Document.Documents.{count}
use Rattle.bw_lang.specs.Document.Measures.{items_weight}
use Rattle.bw_meaning.specs.Values.{list_weight, weight, weights}
use Rattle.bw_run.specs.Follow.Runs.{rests_weight}
use Rattle.bw_save.specs.Filled.{is_filled, is_filled_value, are_filled, is_filled_session, is_all_filled}
use Rattle.bw_save.specs.Fitting.{FitsOperation, FitsDocument, FitsList, FitsValue, FitValues, FitsRecord}
use Rattle.bw_save.specs.Saves.{told, FitSessions}
use Rattle.bw_saved.specs.declared.limits.TheConstants.{MAX_SAVED_WEIGHT}
use Rattle.bw_saved.specs.declared.saved.Record.{Record}
use Rattle.bw_saved.specs.declared.saved.Saved.{Saved}
use Rattle.bw_saved.specs.Documents.Demands.{IsSmall}
use Rattle.bw_saved.specs.Documents.Reading.{opens}
use Rattle.bw_saved.specs.Sessions.Weights.{session_weight, total_weight}
use Rattle.bw_saved.proofs.DocumentLaws.{both_true, opens_is, grows}

-- ---- documents

plug_counts : (nb na w v p : ℕ) → 64 * nb ≤ w → 64 * na ≤ v → v ≤ p → 64 * (nb + (na + 1)) ≤ 64 + w + p
plug_counts nb na w v p hb ha hp = omega (arith, hb, ha, hp)

text_counts : (nb w p : ℕ) → 64 * nb ≤ w → 64 * (nb + 1) ≤ 64 + w + p
text_counts nb w p hb = omega (arith, hb)

-- each operation weighs 64 at least
counts : (service : Service) (d : Made) → is_filled service d ≡ true → 64 * length (operations d) ≤ (measure d).weight
counts service (constant n items) h =
    let weighs : (measure (constant n items)).weight ≡ 64 + items_weight items = refl in
    omega (arith, weighs)
counts service (plug b g a) h =
    let t = both_true (opens service b g) (is_filled service b && is_filled service a) h in
    let parts = both_true (is_filled service b) (is_filled service a) t.1 in
    let outer = length-append (operations b) (operations a ++ ops.plug g ∷ []) in
    let inner = length-append (operations a) (ops.plug g ∷ []) in
    let sums = plug_counts (length (operations b)) (length (operations a)) (measure b).weight (measure a).weight (count g (tree b) * (measure a).weight)
    (counts service b parts.0) (counts service a parts.1) (grows (measure a).weight (count g (tree b)) (opens_is service b g t.0).1) in
    let weighs : (measure (plug b g a)).weight ≡ 64 + (measure b).weight + count g (tree b) * (measure a).weight = refl in
    omega (arith, outer, inner, sums, weighs)
counts service (plug_text b g s) h =
    let t = both_true (opens service b g) (is_filled service b) h in
    let outer = length-append (operations b) (ops.plug_text g s ∷ []) in
    let sums = text_counts (length (operations b)) (measure b).weight (count g (tree b) * (16 + length s)) (counts service b t.1) in
    let weighs : (measure (plug_text b g s)).weight ≡ 64 + (measure b).weight + count g (tree b) * (16 + length s) = refl in
    omega (arith, outer, sums, weighs)

both_fit : (xs ys : List Operation) → AllByRecursion FitsOperation xs → AllByRecursion FitsOperation ys → AllByRecursion FitsOperation (xs ++ ys)
both_fit [] ys h k = k
both_fit (x ∷ xs) ys h k = (h.0, both_fit xs ys h.1 k)

-- the base and what fills its gaps weigh no more than both
base_light : (w p n : ℕ) → n ≡ 64 + w + p → n < 2 ^ 32 → w < 2 ^ 32
base_light w p n e h = omega (arith, e, h)

arg_light : (w v p n : ℕ) → n ≡ 64 + w + p → v ≤ p → n < 2 ^ 32 → v < 2 ^ 32
arg_light w v p n e le h = omega (arith, e, le, h)

operations_fit : (service : Service) → IsSmall service → (d : Made) → is_filled service d ≡ true → (measure d).weight < 2 ^ 32 →
    AllByRecursion FitsOperation (operations d)
operations_fit service small (constant n items) h light =
    let lt : n < length service.templates = ltb-true n (length service.templates) h in
    (omega (arith, lt, small.templates), tt)
operations_fit service small (plug b g a) h light =
    let t = both_true (opens service b g) (is_filled service b && is_filled service a) h in
    let parts = both_true (is_filled service b) (is_filled service a) t.1 in
    let opened = opens_is service b g t.0 in
    let p = count g (tree b) * (measure a).weight in
    let base = base_light (measure b).weight p (measure (plug b g a)).weight refl light in
    let arg = arg_light (measure b).weight (measure a).weight p (measure (plug b g a)).weight refl
    (grows (measure a).weight (count g (tree b)) opened.1) light in
    both_fit (operations b) (operations a ++ ops.plug g ∷ []) (operations_fit service small b parts.0 base)
    (both_fit (operations a) (ops.plug g ∷ []) (operations_fit service small a parts.1 arg) (omega (arith, opened.0, small.gaps), tt))
operations_fit service small (plug_text b g s) h light =
    let t = both_true (opens service b g) (is_filled service b) h in
    let opened = opens_is service b g t.0 in
    let p = count g (tree b) * (16 + length s) in
    let base = base_light (measure b).weight p (measure (plug_text b g s)).weight refl light in
    let text = arg_light (measure b).weight (16 + length s) p (measure (plug_text b g s)).weight refl
    (grows (16 + length s) (count g (tree b)) opened.1) light in
    both_fit (operations b) (ops.plug_text g s ∷ []) (operations_fit service small b t.1 base)
    ((omega (arith, opened.0, small.gaps), omega (arith, text)), tt)

few_enough : (n w : ℕ) → 64 * n ≤ w → w < 2 ^ 32 → n < 2 ^ 32
few_enough n w h light = omega (arith, h, light)

document_fits : (service : Service) → IsSmall service → (d : Made) → is_filled service d ≡ true → (measure d).weight < 2 ^ 32 → FitsDocument d
document_fits service small d h light = record {
  each = operations_fit service small d h light;
  few = few_enough (length (operations d)) (measure d).weight (counts service d h) light;
}

-- ---- lists

texts_fit : (ss : List (List ℕ)) → sum_by (λ s. 16 + length s) ss < 2 ^ 32 → AllByRecursion (λ s. length s < 2 ^ 32) ss
texts_fit [] h = tt
texts_fit (s ∷ ss) h =
    let weighs = sum_by-cons (λ (s : List ℕ). 16 + length s) s ss in
    (omega (arith, weighs, h), texts_fit ss (omega (arith, weighs, h)))

texts_few : (ss : List (List ℕ)) → length ss ≤ sum_by (λ s. 16 + length s) ss
texts_few [] = omega arith
texts_few (s ∷ ss) =
    let weighs = sum_by-cons (λ (s : List ℕ). 16 + length s) s ss in
    let so_far = texts_few ss in
    omega (arith, weighs, so_far)

list_fits : (ss : List (List ℕ)) → list_weight ss < 2 ^ 32 → FitsList ss
list_fits ss h =
    let few = texts_few ss in
    record {
      each = All-from_recursion (λ (s : List ℕ). length s < 2 ^ 32) ss (texts_fit ss (omega (arith, h)));
      few = omega (arith, few, h);
    }

rests_fit : (rs : List (List (List ℕ))) → rests_weight rs < 2 ^ 32 → AllByRecursion FitsList rs
rests_fit [] h = tt
rests_fit (r ∷ rs) h =
    let weighs = sum_by-cons list_weight r rs in
    (list_fits r (omega (arith, weighs, h)), rests_fit rs (omega (arith, weighs, h)))

-- ---- values

value_fits : (service : Service) → IsSmall service → (v : Value) → is_filled_value service v ≡ true → weight (view.value v) < 2 ^ 32 → FitsValue v
value_fits service small (Int n) h light = tt
value_fits service small (Truth b) h light = tt
value_fits service small (Str s) h light = omega (arith, light)
value_fits service small (Html d) h light = document_fits service small d h light
value_fits service small (Strs ss) h light = list_fits ss light

values_fit : (service : Service) → IsSmall service → (xs : List (List ℕ × Value)) → are_filled service xs ≡ true → weights (view.values xs) < 2 ^ 32 →
    AllByRecursion (λ (x : List ℕ × Value). FitsValue x.1) xs
values_fit service small [] h light = tt
values_fit service small (x ∷ xs) h light =
    let both = both_true (is_filled_value service x.1) (are_filled service xs) h in
    let weighs = sum_by-cons (λ x. weight x.1) (view.named x) (view.values xs) in
    (value_fits service small x.1 both.0 (omega (arith, weighs, light)), values_fit service small xs both.1 (omega (arith, weighs, light)))

all_fit : (service : Service) → IsSmall service → (xs : List (List ℕ × Value)) → are_filled service xs ≡ true → weights (view.values xs) < 2 ^ 32 →
    FitValues xs
all_fit service small xs h light = All-from_recursion (λ (x : List ℕ × Value). FitsValue x.1) xs (values_fit service small xs h light)

-- ---- sessions

-- three weights, of which each is light where all together are
three_light : (u v w n : ℕ) → n ≡ u + v + w → n < 2 ^ 32 → (u < 2 ^ 32) × (v < 2 ^ 32) × (w < 2 ^ 32)
three_light u v w n e h = (omega (arith, e, h), omega (arith, e, h), omega (arith, e, h))

record_fits : (service : Service) → IsSmall service → (r : Record) → r.session < 2 ^ 16 → is_filled_session service r ≡ true → session_weight r < 2 ^ 32 →
    FitsRecord r
record_fits service small r few h light =
    let both = both_true (are_filled service r.frame.locals) (is_filled service r.page) h in
    let each = three_light (weights (view.values r.frame.locals)) (rests_weight r.frame.rests) (measure r.page).weight (session_weight r) refl light in
    record {
      session = few;
      locals = all_fit service small r.frame.locals both.0 each.0;
      rests = All-from_recursion FitsList r.frame.rests (rests_fit r.frame.rests each.1);
      page = document_fits service small r.page both.1 each.2;
    }

records_fit : (service : Service) → IsSmall service → (rs : List Record) → AllByRecursion (λ (r : Record). r.session < 2 ^ 16) rs →
    list_all (is_filled_session service) rs ≡ true → sum_by session_weight rs < 2 ^ 32 → AllByRecursion FitsRecord rs
records_fit service small [] few h light = tt
records_fit service small (r ∷ rs) few h light =
    let both = both_true (is_filled_session service r) (list_all (is_filled_session service) rs) h in
    let weighs = sum_by-cons session_weight r rs in
    (record_fits service small r few.0 both.0 (omega (arith, weighs, light)), records_fit service small rs few.1 both.1 (omega (arith, weighs, light)))

-- ---- all that is saved

light_parts : (u v n : ℕ) → n ≡ u + v → n ≤ MAX_SAVED_WEIGHT → (u < 2 ^ 32) × (v < 2 ^ 32)
light_parts u v n e h = (omega (arith, e, h), omega (arith, e, h))

pub shared_fit : (service : Service) → IsSmall service → (s : Saved) → is_all_filled service s ≡ true → total_weight s ≤ MAX_SAVED_WEIGHT →
    FitValues s.shared
shared_fit service small s h light =
    let both = both_true (are_filled service s.shared) (list_all (is_filled_session service) s.records) h in
    let each = light_parts (weights (view.values s.shared)) (sum_by session_weight s.records) (total_weight s) refl light in
    all_fit service small s.shared both.0 each.0

pub sessions_fit : (service : Service) → IsSmall service → (s : Saved) → FitSessions s.records → is_all_filled service s ≡ true →
    total_weight s ≤ MAX_SAVED_WEIGHT → All FitsRecord s.records
sessions_fit service small s few h light =
    let both = both_true (are_filled service s.shared) (list_all (is_filled_session service) s.records) h in
    let each = light_parts (weights (view.values s.shared)) (sum_by session_weight s.records) (total_weight s) refl light in
    All-from_recursion FitsRecord s.records
    (records_fit service small s.records (recursion_from_All (λ (r : Record). r.session < 2 ^ 16) s.records few) both.1 each.1)

-- ---- what a weight is told as

pub told_light : (weight n : ℕ) → n ≡ told weight → n ≤ MAX_SAVED_WEIGHT → weight ≤ MAX_SAVED_WEIGHT
told_light weight n e h = omega (arith, e, h)

pub told_heavy : (weight n : ℕ) → n ≡ told weight → MAX_SAVED_WEIGHT < n → MAX_SAVED_WEIGHT < weight
told_heavy weight n e h = omega (arith, e, h)
