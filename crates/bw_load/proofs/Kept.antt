-- What may be saved is fit for a world.
use Rattle.std.proofs.Common.{◌≡◌, ◌<◌, ◌≤◌, ◌⊎◌, ℕ, zero, suc, ◌+◌, Bool, true, false, cond, List, [], ◌∷◌, ◌++◌, length, map, take, All, Option, Some}
use Rattle.std.proofs.Common.{None, refl, sym, ap, subst, ◌∙◌, arith, inl, inr}
use Rattle.std.specs.Prelude.{slice_get, position, nat_lt, unwrap_or, sum_by}
use Rattle.std.specs.List.{AllByRecursion}
use Rattle.std.proofs.lemmas.Bool.{ltb-true, ltb-false}
use Rattle.std.proofs.lemmas.List.Sums.{sum_by-cons}
use Rattle.std.proofs.lemmas.List.Elements.{All-from_recursion, recursion_from_All}
use Rattle.bw_saved.proofs.Codecs.{bind_some, guarded, some_is}
use Rattle.bw_saved.specs.Codec.{EachFits}
use Rattle.bw_saved.specs.Fields.Reading.{◌>>=◌}
use Rattle.bw_saved.specs.Fields.Spelling.{IsText, AreTexts}
use Rattle.bw_doc.specs.Made.{Made, constant, plug, plug_text}
use Rattle.bw_doc.specs.Operations.{IsOf as IsOfTemplates, items_at}
use Rattle.bw_doc.specs.Operations as ops
use Rattle.bw_doc.proofs.OfLaws.{plug_is_of, text_is_of}
use Rattle.bw_eval.specs.declared.value.Value.{Value}
use Rattle.bw_eval.specs.declared.value.Value.TheVariants as values
use Rattle.bw_eval.specs.Sound.{IsSound, AreSound}
use Rattle.bw_typed.specs.ShortStrings.{IsShort}
use Rattle.bw_eval.specs.View as view
use Rattle.bw_flow.specs.declared.point.Local.{Local}
use Rattle.bw_flow.specs.Flows.{is_statement}
use Rattle.bw_flow.specs.Layout.{plan_of}
use Rattle.bw_flow.specs.Stands.{IsAt, Lowered, AllLowered}
use Rattle.bw_flow.specs.Steps.{Plan, Step, Act, sets, tests, goes_over, shows, exits, joins}
use Rattle.bw_flow.proofs.Found.{finds_each}
use Rattle.bw_flow.proofs.Stands.{stands_for_all}
use Rattle.bw_run.specs.Follow.Kinds.{kind_of, kinds_of, kinds_in}
use Rattle.bw_run.specs.Follow.Laws as follow
use Rattle.bw_flow.specs.Flows.{is_show}
use Rattle.bw_run.proofs.Follow.Kept.{typed_is_ready}
use Rattle.bw_load.specs.Kept.{SessionsAreFit, SharedAreFit}
use Rattle.bw_lang.specs.declared.service.Service.{Service}
use Rattle.bw_lang.specs.declared.service.Session.{Session}
use Rattle.bw_lang.specs.declared.service.Template.{Template}
use Rattle.bw_lang.specs.declared.stmt.Kind.{Kind}
use Rattle.bw_lang.specs.declared.stmt.Kind.TheVariants as kinds
use Rattle.bw_lang.specs.Document.Forest.{Forest}
use Rattle.bw_lang.specs.Service.Code.{Code, done, declare, assign, if_then, if_else, while_loop, for_each, block, show, exit, numbered}
use Rattle.bw_lang.specs.Service.Numbers.{statements, first_number}
use Rattle.bw_meaning.specs.GoOn.{body_of}
use Rattle.bw_run.specs.Fit.{AreFit, AreShared, IsFrame}
use Rattle.bw_run.specs.Walks.{number_at, number_of}
use Rattle.bw_saved.specs.declared.saved.Record.{Record}
use Rattle.bw_saved.specs.declared.saved.Saved.{Saved}
use Rattle.bw_saved.specs.Sessions.Reading.{number_at_point, number_of_first, is_before, is_from, is_own, if_shows, show_at}
use Rattle.bw_saved.specs.Sessions.Demands.{IsSession, IsSaved}
use Rattle.bw_saved.specs.Documents.Demands.{IsBuilt}
use Rattle.bw_saved.specs.Values.Demands.{IsValue, AreVariables}
use Rattle.bw_types.specs.declared.typed.Typed.{Typed}
use Rattle.bw_types.specs.Faults.{ends_in_exit}
use Rattle.bw_types.specs.Scopes.{shared_kinds}

-- ---- documents

there : {X : Type 0} (xs : List X) (n : ℕ) → n < length xs → (x : X) × (slice_get xs n ≡ Some x)
there [] n lt = absurd (omega (arith, lt))
there (x ∷ xs) zero lt = (x, refl)
there (x ∷ xs) (suc n) lt = there xs n (omega (arith, lt))

constant_of : (templates : List Template) (n : ℕ) (items : Forest) (o : Option Template) (t : Template) → o ≡ Some t → items ≡ ops.items_in o →
    ops.pushed o [] ≡ Some (ops.value_of (constant n items) ∷ [])
constant_of templates n items None t e is = absurd cc
constant_of templates n items (Some u) t e is = ap (λ (i : Forest). Some (ops.value_of (constant n i) ∷ [])) (sym is)

pub built_is_of : (service : Service) (d : Made) → IsBuilt service d → IsOfTemplates service.templates d
built_is_of service (constant n items) h =
    let t = there service.templates n h.0 in
    constant_of service.templates n items (slice_get service.templates n) t.0 t.1 h.1
built_is_of service (plug b g a) h = plug_is_of service.templates b a g (built_is_of service b h.0) (built_is_of service a h.1)
built_is_of service (plug_text b g s) h = text_is_of service.templates b g s (built_is_of service b h.0)

-- ---- values

texts_short : (ss : List (List ℕ)) → AllByRecursion IsText ss → AllByRecursion IsShort ss
texts_short [] h = tt
texts_short (s ∷ ss) h = (h.0.short, texts_short ss h.1)

value_fits : (service : Service) (kind : Kind) (v : Value) → IsValue service kind v → (kind_of (view.value v) ≡ kind) × IsSound service.templates v
value_fits service kinds.Int (values.Int n) h = (refl, tt)
value_fits service kinds.Bool (values.Bool b) h = (refl, tt)
value_fits service kinds.Str (values.Str s) h = (refl, h.short)
value_fits service kinds.Html (values.Html d) h = (refl, built_is_of service d h.built)
value_fits service kinds.Strs (values.Strs ss) h = (refl, All-from_recursion IsShort ss (texts_short ss h.each))
value_fits service kinds.Int (values.Bool b) h = absurd h
value_fits service kinds.Int (values.Str b) h = absurd h
value_fits service kinds.Int (values.Html b) h = absurd h
value_fits service kinds.Int (values.Strs b) h = absurd h
value_fits service kinds.Bool (values.Int b) h = absurd h
value_fits service kinds.Bool (values.Str b) h = absurd h
value_fits service kinds.Bool (values.Html b) h = absurd h
value_fits service kinds.Bool (values.Strs b) h = absurd h
value_fits service kinds.Str (values.Int b) h = absurd h
value_fits service kinds.Str (values.Bool b) h = absurd h
value_fits service kinds.Str (values.Html b) h = absurd h
value_fits service kinds.Str (values.Strs b) h = absurd h
value_fits service kinds.Html (values.Int b) h = absurd h
value_fits service kinds.Html (values.Bool b) h = absurd h
value_fits service kinds.Html (values.Str b) h = absurd h
value_fits service kinds.Html (values.Strs b) h = absurd h
value_fits service kinds.Strs (values.Int b) h = absurd h
value_fits service kinds.Strs (values.Bool b) h = absurd h
value_fits service kinds.Strs (values.Str b) h = absurd h
value_fits service kinds.Strs (values.Html b) h = absurd h

variables_kinds : (service : Service) (ks : List (List ℕ × Kind)) (xs : List (List ℕ × Value)) → AreVariables service ks xs → kinds_of (view.values xs) ≡ ks
variables_kinds service [] [] h = refl
variables_kinds service [] (x ∷ xs) h = absurd h
variables_kinds service (k ∷ ks) [] h = absurd h
variables_kinds service (k ∷ ks) (x ∷ xs) h =
    let one : (x.0, kind_of (view.value x.1)) ≡ k = λ i. (h.0.0 i, (value_fits service k.1 x.1 h.0.1).0 i) in
    ap (λ (y : List ℕ × Kind). y ∷ kinds_of (view.values xs)) one ∙ ap (λ (ys : List (List ℕ × Kind)). k ∷ ys) (variables_kinds service ks xs h.1)

variables_sound : (service : Service) (ks : List (List ℕ × Kind)) (xs : List (List ℕ × Value)) → AreVariables service ks xs →
    AllByRecursion (λ (x : List ℕ × Value). IsSound service.templates x.1) xs
variables_sound service [] [] h = tt
variables_sound service [] (x ∷ xs) h = absurd h
variables_sound service (k ∷ ks) [] h = absurd h
variables_sound service (k ∷ ks) (x ∷ xs) h = ((value_fits service k.1 x.1 h.0.1).1, variables_sound service ks xs h.1)

pub variables_fit : (service : Service) (ks : List (List ℕ × Kind)) (xs : List (List ℕ × Value)) → AreVariables service ks xs → AreFit service.templates ks xs
variables_fit service ks xs h = record {
  kinds_are = variables_kinds service ks xs h;
  sound = All-from_recursion (λ (x : List ℕ × Value). IsSound service.templates x.1) xs (variables_sound service ks xs h);
}

rests_short : (rs : List (List (List ℕ))) → AllByRecursion AreTexts rs → AllByRecursion (All IsShort) rs
rests_short [] h = tt
rests_short (r ∷ rs) h = (All-from_recursion IsShort r (texts_short r h.0.each), rests_short rs h.1)

-- ---- the first statement of a session

-- statements have none, or their first point has their first number
lowered_begins : (service : Service) (flow : List Step) (c : Code) (n : ℕ) (sc : List Local) (d p q : ℕ) → Lowered service flow c n sc d p q →
    ((numbered c ≡ 0) × (p ≡ q)) ⊎ ((x : Step) × IsAt flow p x × (x.number ≡ n))
lowered_begins service flow done n sc d p q l = inl (refl, l)
lowered_begins service flow (declare k w e rest) n sc d p q l = inr (_, l.1, refl)
lowered_begins service flow (assign w e rest) n sc d p q l = inr (_, l.1, refl)
lowered_begins service flow (if_then e y rest) n sc d p q l = inr (_, l.3, refl)
lowered_begins service flow (if_else e y o rest) n sc d p q l = inr (_, l.4, refl)
lowered_begins service flow (while_loop e b rest) n sc d p q l = inr (_, l.2, refl)
lowered_begins service flow (for_each w e b rest) n sc d p q l = inr (_, l.2, refl)
lowered_begins service flow (show e rs rest) n sc d p q l = inr (_, l.1, refl)
lowered_begins service flow (exit e rest) n sc d p q l = inr (_, l.1, refl)
lowered_begins service flow (block b rest) n sc d p q l =
    elim (lowered_begins service flow b n sc d p l.0 l.1) [
      | inr there ↦ inr there
      | inl none ↦ elim (lowered_begins service flow rest (n + numbered b) sc d l.0 q l.2) [
        | inl also ↦ inl (omega (arith, none.0, also.0), none.1 ∙ also.1)
        | inr x ↦ inr (x.0, subst (λ (r : ℕ). IsAt flow r x.0) (sym none.1) x.1, x.2 ∙ omega (arith, none.0))
      ]
    ]

some_statement : (c : Code) → ends_in_exit c ≡ true → 1 ≤ numbered c
some_statement done e = absurd cc
some_statement (declare k w x rest) e = omega arith
some_statement (assign w x rest) e = omega arith
some_statement (if_then t y rest) e = omega arith
some_statement (if_else t y z rest) e = omega arith
some_statement (while_loop t b rest) e = omega arith
some_statement (for_each w x b rest) e = omega arith
some_statement (show p rs rest) e = omega arith
some_statement (exit p rest) e = omega arith
some_statement (block b rest) e = let h = some_statement rest e in omega (arith, h)

-- the number of the first statement of the session at a place of a list, of which the first has number n
number_from : (ss : List Session) (n k : ℕ) → ℕ
number_from ss n k = n + statements (take k ss)

firsts_say : (service : Service) (plan : Plan) (ss : List Session) (fs : List ℕ) (n out k : ℕ) → AllLowered service plan.steps ss fs n out →
    AllByRecursion (λ (s : Session). ends_in_exit s.body ≡ true) ss →
    (k < length ss → (slice_get fs k >>= λ p. number_at_point (slice_get plan.steps p)) ≡ Some (n + statements (take k ss)))
    × (length ss ≤ k → slice_get fs k ≡ None)
firsts_say service plan [] [] n out k low ends = (λ lt. absurd (omega (arith, lt)), λ le. refl)
firsts_say service plan [] (f ∷ fs) n out k low ends = absurd low
firsts_say service plan (s ∷ ss) [] n out k low ends = absurd low
firsts_say service plan (s ∷ ss) (f ∷ fs) n out zero low ends = (λ lt. first, λ le. absurd (omega (arith, le)))
  where
    first : number_at_point (slice_get plan.steps f) ≡ Some (n + 0)
    first =
        elim (lowered_begins service plan.steps s.body n [] 0 f out low.0) [
          | inl none ↦ let h = some_statement s.body ends.0 in absurd (omega (arith, h, none.0))
          | inr x ↦ ap number_at_point x.1 ∙ ap (λ (m : ℕ). Some m) (x.2 ∙ omega arith)
        ]
firsts_say service plan (s ∷ ss) (f ∷ fs) n out (suc k) low ends =
    let more = firsts_say service plan ss fs (n + numbered s.body) out k low.1 ends.1 in
    let taken : statements (take (suc k) (s ∷ ss)) ≡ numbered s.body + statements (take k ss) = sum_by-cons (λ (s : Session). numbered s.body) s (take k ss) in
    (λ lt. more.0 (omega (arith, lt)) ∙ ap (λ (m : ℕ). Some m) (omega (arith, taken)), λ le. more.1 (omega (arith, le)))

-- ---- a session's own statements

-- one session more
taken_more : (ss : List Session) (k : ℕ) → k < length ss →
    statements (take (suc k) ss) ≡ statements (take k ss) + numbered (unwrap_or (slice_get (map (λ (s : Session). s.body) ss) k) done)
taken_more [] k lt = absurd (omega (arith, lt))
taken_more (s ∷ ss) zero lt = omega arith
taken_more (s ∷ ss) (suc k) lt =
    let e = taken_more ss k (omega (arith, lt)) in
    let a : statements (take (suc (suc k)) (s ∷ ss)) ≡ numbered s.body + statements (take (suc k) ss) = sum_by-cons (λ (s : Session). numbered s.body) s
    (take (suc k) ss) in
    let b : statements (take (suc k) (s ∷ ss)) ≡ numbered s.body + statements (take k ss) = sum_by-cons (λ (s : Session). numbered s.body) s (take k ss) in
    omega (arith, e, a, b)

taken_all : (ss : List Session) (k : ℕ) → length ss ≤ k → statements (take k ss) ≡ statements ss
taken_all [] zero le = refl
taken_all [] (suc k) le = refl
taken_all (s ∷ ss) zero le = absurd (omega (arith, le))
taken_all (s ∷ ss) (suc k) le =
    sum_by-cons (λ (s : Session). numbered s.body) s (take k ss) ∙ ap (λ (m : ℕ). numbered s.body + m) (taken_all ss k (omega (arith, le)))
    ∙ sym (sum_by-cons (λ (s : Session). numbered s.body) s ss)

from_says : (n : ℕ) (o next : Option ℕ) → is_from n o next ≡ true → (first : ℕ) × (o ≡ Some first) × (first ≤ n) × (is_before n next ≡ true)
from_says n None next e = absurd cc
from_says n (Some first) next e = by (nat_lt n first) refl e
  where
    by : (b : Bool) → nat_lt n first ≡ b → cond b false (is_before n next) ≡ true →
        (m : ℕ) × (Some first ≡ Some m) × (m ≤ n) × (is_before n next ≡ true)
    by true q e = absurd cc
    by false q e = (first, refl, ltb-false _ _ q, e)

none_is_some : (k : ℕ) → None ≡ Some k → ⊥
none_is_some k e = cc

no_first : (plan : Plan) (k : ℕ) → slice_get plan.firsts k ≡ None → number_of_first plan k ≡ None
no_first plan k e = ap (λ (o : Option ℕ). o >>= λ p. number_at_point (slice_get plan.steps p)) e

before_is : (n : ℕ) (o : Option ℕ) (m : ℕ) → o ≡ Some m → is_before n o ≡ true → n < m
before_is n None m e b = absurd cc
before_is n (Some k) m e b = subst (λ (j : ℕ). n < j) (some_is k m e) (ltb-true _ _ b)

at_most : (a b : ℕ) → (a < b) ⊎ (b ≤ a)
at_most a b = by (nat_lt a b) refl
  where
    by : (c : Bool) → nat_lt a b ≡ c → (a < b) ⊎ (b ≤ a)
    by true q = inl (ltb-true _ _ q)
    by false q = inr (ltb-false _ _ q)

exits_of : (ss : List Session) → All (λ (s : Session). ends_in_exit s.body ≡ true) ss → AllByRecursion (λ (s : Session). ends_in_exit s.body ≡ true) ss
exits_of ss h = recursion_from_All (λ (s : Session). ends_in_exit s.body ≡ true) ss h

pub own_is : (t : Typed) (session n : ℕ) → n ≤ statements t.service.sessions → is_own (plan_of t.service) session n ≡ true →
    follow.IsOf t.service session n
own_is t session n le own =
    let service = t.service in
    let plan = plan_of service in
    let ends = exits_of service.sessions (typed_is_ready t).closed in
    let at = λ (k : ℕ). firsts_say service plan service.sessions plan.firsts 1 (length plan.steps) k (stands_for_all service) ends in
    let f = from_says n (number_of_first plan session) (number_of_first plan (session + 1)) own in
    elim (at_most session (length service.sessions)) [
      | inr out ↦ absurd (none_is_some f.0 (sym (no_first plan session ((at session).1 out)) ∙ f.1))
      | inl inside ↦
          let first : f.0 ≡ first_number service session = some_is f.0 (first_number service session) (sym f.1 ∙ (at session).0 inside) in
          let more = taken_more service.sessions session inside in
          let suc_is : session + 1 ≡ suc session = omega arith in
          record {
            from = omega (arith, first, f.2);
            below = elim (at_most (session + 1) (length service.sessions)) [
              | inl next ↦
                  let b = before_is n (number_of_first plan (session + 1)) (1 + statements (take (session + 1) service.sessions)) ((at (session + 1)).0 next)
                  f.3 in
                  let e : statements (take (session + 1) service.sessions) ≡ statements (take (suc session) service.sessions) =
                  ap (λ (k : ℕ). statements (take k service.sessions)) suc_is in
                  omega (arith, b, e, more)
              | inr last ↦
                  let e = taken_all service.sessions (suc session) (omega (arith, last)) in
                  omega (arith, le, e, more)
            ];
          }
    ]

-- ---- frames

show_of : (a : Act) → is_show a ≡ true → (e : _) × (rs : _) × (a ≡ shows e rs)
show_of (shows e rs) h = (e, rs, refl)
show_of (sets v e) h = absurd cc
show_of (tests e) h = absurd cc
show_of (goes_over v e) h = absurd cc
show_of (exits e) h = absurd cc
show_of joins h = absurd cc

shows_at : (q p : ℕ) (o : Option Step) (x : Step) → if_shows q o ≡ Some p → o ≡ Some x → (q ≡ p) × (is_show x.act ≡ true)
shows_at q p None x e at = absurd cc
shows_at q p (Some y) x e at =
    let g = guarded (is_show y.act) (Some q) p e in
    (some_is q p g.1, subst (λ (z : Step). is_show z.act ≡ true) (some_is y x at) g.0)

pub sessions_are_fit : SessionsAreFit
sessions_are_fit t next r h =
    let service = t.service in
    let plan = plan_of service in
    let n = number_at plan.steps r.frame.point in
    let g = guarded (is_own plan r.session n) (position (is_statement n) plan.steps >>= λ q. if_shows q (slice_get plan.steps q)) r.frame.point h.waits.shows in
    let b = bind_some (position (is_statement n) plan.steps) (λ q. if_shows q (slice_get plan.steps q)) r.frame.point g.1 in
    let f = (finds_each service n).0 b.0 b.1 in
    let s = shows_at b.0 r.frame.point (slice_get plan.steps b.0) f.0 b.2 f.1 in
    let at : IsAt plan.steps b.0 h.step = ap (slice_get plan.steps) s.0 ∙ h.waits.is in
    let same : f.0 ≡ h.step = some_is f.0 h.step (sym f.1 ∙ at) in
    let show = show_of h.step.act (subst (λ (x : Step). is_show x.act ≡ true) same s.1) in
    record {
      frame = record {
        point = h.step;
        page = show.0;
        fields = show.1;
        is = h.waits.is;
        acts = show.2;
        locals = variables_fit service (kinds_in h.step.scope) r.frame.locals h.waits.locals;
        rests = h.waits.rests;
        short = All-from_recursion (All IsShort) r.frame.rests (rests_short r.frame.rests h.waits.strings);
      };
      page = built_is_of service r.page h.page.built;
      own = own_is t r.session n f.5 g.0;
    }

pub shared_are_fit : SharedAreFit
shared_are_fit t s h = variables_fit t.service (shared_kinds t.service) s.shared h.shared
