-- The test of plugs, document by document; and that what may be saved passes it.
use Rattle.std.proofs.Common.{◌≡◌, ◌<◌, ◌+◌, ◌^◌, ℕ, Bool, true, false, List, [], ◌∷◌, ◌++◌, length, refl, sym, ap, ◌∙◌, arith}
use Rattle.std.specs.Prelude.{◌&&◌, sum_by}
use Rattle.std.specs.List.{AllByRecursion, list_all}
use Rattle.std.proofs.lemmas.Bool.{lt-ltb}
use Rattle.std.proofs.lemmas.List.Elements.{All-from_recursion}
use Rattle.std.proofs.lemmas.List.Folds.{list_all-append}
use Rattle.std.proofs.lemmas.List.Sums.{sum_by-append}
use Rattle.bw_doc.specs.Made.{Made, constant, plug, plug_text, parts}
use Rattle.bw_eval.specs.declared.value.Value.{Value}
use Rattle.bw_eval.specs.declared.value.Value.TheVariants as values
use Rattle.bw_lang.specs.declared.service.Service.{Service}
use Rattle.bw_lang.specs.declared.stmt.Kind.{Kind}
use Rattle.bw_lang.specs.declared.stmt.Kind.TheVariants as kinds
use Rattle.bw_run.specs.Follow.Kinds.{kinds_in}
use Rattle.bw_save.specs.Filled.{fills, parts_of, is_filled, is_filled_value, are_filled, is_filled_session}
use Rattle.bw_save.specs.Saves.{SavedMayBeWritten}
use Rattle.bw_saved.specs.declared.saved.Record.{Record}
use Rattle.bw_saved.specs.Documents.Demands.{IsBuilt}
use Rattle.bw_saved.specs.Documents.Reading.{opens}
use Rattle.bw_saved.specs.Sessions.Demands.{IsSession}
use Rattle.bw_saved.specs.Values.Demands.{IsValue, AreVariables}
use Rattle.bw_saved.proofs.DocumentLaws.{is_true, is_open}
use Rattle.bw_types.specs.Scopes.{shared_kinds}

-- ---- one document

pub and_true : (b : Bool) → (b && true) ≡ b
and_true true = refl
and_true false = refl

and_false : (b : Bool) → (b && false) ≡ false
and_false true = refl
and_false false = refl

-- the document itself, and its parts
by_parts : (service : Service) (d : Made) → is_filled service d ≡ (fills service d && list_all (is_filled service) (parts_of d))
by_parts service (constant n items) = sym (and_true (fills service (constant n items)))
by_parts service (plug b g a) = ap (λ (f : Bool). opens service b g && (is_filled service b && f)) (sym (and_true (is_filled service a)))
by_parts service (plug_text b g s) = ap (λ (f : Bool). opens service b g && f) (sym (and_true (is_filled service b)))

with_last : (service : Service) (mid : List Made) (d : Made) →
    list_all (is_filled service) (mid ++ d ∷ [])
    ≡ (list_all (is_filled service) mid && (fills service d && list_all (is_filled service) (parts_of d)))
with_last service mid d =
    list_all-append (is_filled service) mid (d ∷ [])
    ∙ ap (λ (b : Bool). list_all (is_filled service) mid && b) (and_true (is_filled service d) ∙ by_parts service d)

-- where it fills a gap, its parts are left
pub goes_on : (service : Service) (old mid new : List Made) (d : Made) → old ≡ mid ++ d ∷ [] → new ≡ mid ++ parts_of d → fills service d ≡ true →
    list_all (is_filled service) new ≡ list_all (is_filled service) old
goes_on service old mid new d e f h =
    ap (list_all (is_filled service)) f ∙ list_all-append (is_filled service) mid (parts_of d)
    ∙ sym (ap (list_all (is_filled service)) e ∙ with_last service mid d
    ∙ ap (λ (b : Bool). list_all (is_filled service) mid && (b && list_all (is_filled service) (parts_of d))) h)

pub ends : (service : Service) (old mid : List Made) (d : Made) → old ≡ mid ++ d ∷ [] → fills service d ≡ false →
    list_all (is_filled service) old ≡ false
ends service old mid d e h =
    ap (list_all (is_filled service)) e ∙ with_last service mid d
    ∙ ap (λ (b : Bool). list_all (is_filled service) mid && (b && list_all (is_filled service) (parts_of d))) h
    ∙ and_false (list_all (is_filled service) mid)

fewer_parts : (d : Made) → sum_by parts (parts_of d) + 1 ≡ parts d
fewer_parts (constant n items) = omega arith
fewer_parts (plug b g a) = omega arith
fewer_parts (plug_text b g s) = omega arith

-- and there is less to do
pub falls : (old mid new : List Made) (d : Made) → old ≡ mid ++ d ∷ [] → new ≡ mid ++ parts_of d → sum_by parts new < sum_by parts old
falls old mid new d e f =
    let before = ap (sum_by parts) e ∙ sum_by-append parts mid (d ∷ []) in
    let after = ap (sum_by parts) f ∙ sum_by-append parts mid (parts_of d) in
    let last : sum_by parts (d ∷ []) ≡ parts d = omega arith in
    let less = fewer_parts d in
    omega (arith, before, after, last, less)

-- ---- what may be saved

built_is_filled : (service : Service) (d : Made) → IsBuilt service d → is_filled service d ≡ true
built_is_filled service (constant n items) h = lt-ltb n (length service.templates) h.0
built_is_filled service (plug b g a) h =
    is_true (opens service b g) (is_filled service b && is_filled service a) (is_open service b g h.3.known h.3.opens)
    (is_true (is_filled service b) (is_filled service a) (built_is_filled service b h.0) (built_is_filled service a h.1))
built_is_filled service (plug_text b g s) h =
    is_true (opens service b g) (is_filled service b) (is_open service b g h.2.known h.2.opens) (built_is_filled service b h.0)

value_is_filled : (service : Service) (kind : Kind) (v : Value) → IsValue service kind v → is_filled_value service v ≡ true
value_is_filled service kind (values.Int n) h = refl
value_is_filled service kind (values.Bool b) h = refl
value_is_filled service kind (values.Str s) h = refl
value_is_filled service kinds.Html (values.Html d) h = built_is_filled service d h.built
value_is_filled service kinds.Int (values.Html d) h = absurd h
value_is_filled service kinds.Bool (values.Html d) h = absurd h
value_is_filled service kinds.Str (values.Html d) h = absurd h
value_is_filled service kinds.Strs (values.Html d) h = absurd h
value_is_filled service kind (values.Strs ss) h = refl

variables_are_filled : (service : Service) (ks : List (List ℕ × Kind)) (xs : List (List ℕ × Value)) → AreVariables service ks xs →
    are_filled service xs ≡ true
variables_are_filled service [] [] h = refl
variables_are_filled service [] (x ∷ xs) h = absurd h
variables_are_filled service (k ∷ ks) [] h = absurd h
variables_are_filled service (k ∷ ks) (x ∷ xs) h =
    is_true (is_filled_value service x.1) (are_filled service xs) (value_is_filled service k.1 x.1 h.0.1) (variables_are_filled service ks xs h.1)

sessions_are_filled : (service : Service) (next : ℕ) (rs : List Record) → AllByRecursion (IsSession service next) rs →
    list_all (is_filled_session service) rs ≡ true
sessions_are_filled service next [] h = refl
sessions_are_filled service next (r ∷ rs) h =
    is_true (is_filled_session service r) (list_all (is_filled_session service) rs)
    (is_true (are_filled service r.frame.locals) (is_filled service r.page)
    (variables_are_filled service (kinds_in h.0.step.scope) r.frame.locals h.0.waits.locals) (built_is_filled service r.page h.0.page.built))
    (sessions_are_filled service next rs h.1)

fit_sessions : (service : Service) (next : ℕ) (rs : List Record) → AllByRecursion (IsSession service next) rs →
    AllByRecursion (λ (r : Record). r.session < 2 ^ 16) rs
fit_sessions service next [] h = tt
fit_sessions service next (r ∷ rs) h = (h.0.session, fit_sessions service next rs h.1)

pub saved_may_be_written : SavedMayBeWritten
saved_may_be_written t s h = record {
  few = h.few;
  sessions = All-from_recursion (λ (r : Record). r.session < 2 ^ 16) s.records (fit_sessions t.service s.next s.records h.sessions);
  filled = is_true (are_filled t.service s.shared) (list_all (is_filled_session t.service) s.records)
      (variables_are_filled t.service (shared_kinds t.service) s.shared h.shared) (sessions_are_filled t.service s.next s.records h.sessions);
}
