-- Services in which no test fails.
use Rattle.std.proofs.Common.{◌≡◌, ℕ, true, false, List, [], ◌∷◌, ◌++◌, map, Some, refl, ap, sym, ◌∙◌, append_assoc, append-nil}
use Rattle.std.specs.Prelude.{not}
use Rattle.std.specs.List.{All}
use Rattle.std.proofs.lemmas.List.Elements.{All-cons, All-nil, All-head, All-tail}
use Rattle.bw_lang.specs.declared.declaration.Declaration.{Declaration}
use Rattle.bw_lang.specs.declared.declaration.Declaration.TheVariants as declarations
use Rattle.bw_lang.specs.declared.service.Literal.{Literal}
use Rattle.bw_lang.specs.declared.service.Literal.TheVariants as literals
use Rattle.bw_lang.specs.declared.service.Service.{Service}
use Rattle.bw_lang.specs.declared.service.Session.{Session}
use Rattle.bw_lang.specs.declared.service.Shared.{Shared}
use Rattle.bw_lang.specs.declared.service.Template.{Template}
use Rattle.bw_lang.specs.declared.stmt.Kind.{Kind}
use Rattle.bw_lang.specs.declared.stmt.Kind.TheVariants.{Int, Bool as Truth, Str}
use Rattle.bw_lang.specs.Service.Sorted.{as_template, as_shared, as_session, templates_of, shared_of, sessions_of}
use Rattle.bw_types.specs.declared.fault.TypeFault.TheVariants as faults
use Rattle.bw_types.specs.ExpressionFaults.{demand}
use Rattle.bw_types.specs.Faults.{code_faults, literal_kind, literal_unknown, ends_in_exit, own_faults, faults_behind}
use Rattle.bw_types.specs.Scopes.{is_among, name_of, no_locals, template_kind}
use Rattle.bw_types.specs.TemplateFaults.{fault_if, items_faults}
use Rattle.bw_types.specs.Typing.{IsTypedSession}
use Rattle.bw_types.proofs.CompleteKinds.{demand_met, known, code_passes}
use Rattle.bw_types.proofs.Elements.{passing}
use Rattle.bw_types.proofs.Differing.{Differ, taken, not_repeated, next_name}
use Rattle.bw_types.proofs.Parts.{nothing_first, nothing_behind, none_of_both}
use Rattle.bw_types.proofs.SoundKinds.{is_known, is_demanded, code_typed}

-- ---- the walk

pub own_none : (s : Service) (E : List (List ℕ)) (ds : List Declaration) → faults_behind s E ds ≡ [] → All (λ d. own_faults s d ≡ []) ds
own_none s E [] h = All-nil (λ d. own_faults s d ≡ [])
own_none s E (d ∷ ds) h =
    let b = nothing_behind (fault_if (is_among (name_of d) E) _) _ h in
    All-cons (λ d. own_faults s d ≡ []) d ds (nothing_first _ _ b) (own_none s (E ++ name_of d ∷ []) ds (nothing_behind (own_faults s d) _ b))

pub names_differ : (s : Service) (E : List (List ℕ)) (ds : List Declaration) → faults_behind s E ds ≡ [] → Differ E → Differ (E ++ map name_of ds)
names_differ s E [] h e = rw (append-nil E) e
names_differ s E (d ∷ ds) h e =
    rw (← append_assoc E (name_of d ∷ []) (map name_of ds))
    (names_differ s (E ++ name_of d ∷ []) ds (nothing_behind (own_faults s d) _ (nothing_behind (fault_if (is_among (name_of d) E) _) _ h))
    (taken (name_of d) E (nothing_first _ _ h) e))

pub walk_passes : (s : Service) (E : List (List ℕ)) (ds : List Declaration) → Differ (E ++ map name_of ds) → All (λ d. own_faults s d ≡ []) ds
    → faults_behind s E ds ≡ []
walk_passes s E [] h a = refl
walk_passes s E (d ∷ ds) h a =
    none_of_both (fault_if (is_among (name_of d) E) (faults.Repeated (name_of d))) _ (not_repeated E (name_of d) (map name_of ds) h)
    (none_of_both (own_faults s d) _ (All-head (λ d. own_faults s d ≡ []) d ds a)
    (walk_passes s (E ++ name_of d ∷ []) ds (next_name E (name_of d) (map name_of ds) h) (All-tail (λ d. own_faults s d ≡ []) d ds a)))

-- what holds of all of each sort holds of all
pub each_declaration : (P : Declaration → Type 0) (ds : List Declaration) → All (λ t. P (declarations.Template t)) (templates_of ds)
    → All (λ v. P (declarations.Shared v)) (shared_of ds)
    → All (λ s. P (declarations.Session s)) (sessions_of ds) → All P ds
each_declaration P [] a b c = All-nil P
each_declaration P (declarations.Template t ∷ ds) a b c =
    All-cons P (declarations.Template t) ds (All-head (λ t. P (declarations.Template t)) t (templates_of ds) a)
    (each_declaration P ds (All-tail (λ t. P (declarations.Template t)) t (templates_of ds) a) b c)
each_declaration P (declarations.Shared v ∷ ds) a b c =
    All-cons P (declarations.Shared v) ds (All-head (λ v. P (declarations.Shared v)) v (shared_of ds) b)
    (each_declaration P ds a (All-tail (λ v. P (declarations.Shared v)) v (shared_of ds) b) c)
each_declaration P (declarations.Session s ∷ ds) a b c =
    All-cons P (declarations.Session s) ds (All-head (λ s. P (declarations.Session s)) s (sessions_of ds) c)
    (each_declaration P ds a b (All-tail (λ s. P (declarations.Session s)) s (sessions_of ds) c))

-- ---- the declarations of a sort

module _ (s : Service) where
  pub template_own : (d : Declaration) (t : Template) → as_template d ≡ Some t → own_faults s d ≡ [] → items_faults s t.name t.items ≡ []
  template_own (declarations.Template u) t e h = let same : u ≡ t = cc in rw (← same) h
  template_own (declarations.Shared v) t e h = absurd (cc)
  template_own (declarations.Session v) t e h = absurd (cc)

  literal_fits : (l : Literal) (kind : Kind) → literal_unknown s l ++ demand kind (literal_kind s l) ≡ [] → literal_kind s l ≡ Some kind
  literal_fits (literals.Int n) kind d = ap Some (is_demanded kind Int d)
  literal_fits (literals.Bool b) kind d = ap Some (is_demanded kind Truth d)
  literal_fits (literals.Str v) kind d = ap Some (is_demanded kind Str d)
  literal_fits (literals.Tmpl w) kind d =
      let k = is_known w (template_kind s w) (nothing_first _ _ d) in
      k.1 ∙ ap Some (is_demanded kind k.0 (ap (demand kind) (sym k.1) ∙ nothing_behind (literal_unknown s (literals.Tmpl w)) _ d))

  literal_passes : (l : Literal) (kind : Kind) → literal_kind s l ≡ Some kind → literal_unknown s l ≡ []
  literal_passes (literals.Int n) kind h = refl
  literal_passes (literals.Bool b) kind h = refl
  literal_passes (literals.Str v) kind h = refl
  literal_passes (literals.Tmpl w) kind h = known w (template_kind s w) kind h

  pub shared_own : (d : Declaration) (v : Shared) → as_shared d ≡ Some v → own_faults s d ≡ [] → literal_kind s v.init ≡ Some v.kind
  shared_own (declarations.Template t) v e h = absurd (cc)
  shared_own (declarations.Shared u) v e h = let same : u ≡ v = cc in rw (← same) (literal_fits u.init u.kind h)
  shared_own (declarations.Session t) v e h = absurd (cc)

  pub shared_passes : (v : Shared) → literal_kind s v.init ≡ Some v.kind → own_faults s (declarations.Shared v) ≡ []
  shared_passes v h = none_of_both (literal_unknown s v.init) _ (literal_passes v.init v.kind h) (demand_met v.kind (literal_kind s v.init) h)

  -- no test fails in its body, and it ends in `exit`
  pub record Walked (x : Session) : Type 0 where
    pub body : code_faults s no_locals x.body ≡ []
    pub last : ends_in_exit x.body ≡ true

  ends : (b : _) (fault : _) → fault_if (not b) fault ≡ [] → b ≡ true
  ends true fault h = refl
  ends false fault h = absurd (cc)

  pub session_own : (d : Declaration) (x : Session) → as_session d ≡ Some x → own_faults s d ≡ [] → Walked x
  session_own (declarations.Template t) x e h = absurd (cc)
  session_own (declarations.Shared v) x e h = absurd (cc)
  session_own (declarations.Session y) x e h =
      let same : y ≡ x = cc in rw (← same) (record {
        body = nothing_first _ _ h;
        last = ends (ends_in_exit y.body) _ (nothing_behind (code_faults s no_locals y.body) _ h);
      })

  pub session_passes : (x : Session) → IsTypedSession s x → own_faults s (declarations.Session x) ≡ []
  session_passes x h = none_of_both (code_faults s no_locals x.body) _ (code_passes s no_locals x.body h.0) (passing _ (faults.NoExit x.name) (ap not h.1))

  pub session_typed : (x : Session) → Walked x → IsTypedSession s x
  session_typed x w = (code_typed s no_locals x.body w.body, w.last)

-- the name of a declaration of a sort
pub template_named : (d : Declaration) (t : Template) → as_template d ≡ Some t → name_of d ≡ t.name
template_named (declarations.Template u) t e = cc
template_named (declarations.Shared v) t e = absurd (cc)
template_named (declarations.Session v) t e = absurd (cc)

pub session_named : (d : Declaration) (x : Session) → as_session d ≡ Some x → name_of d ≡ x.name
session_named (declarations.Template t) x e = absurd (cc)
session_named (declarations.Shared v) x e = absurd (cc)
session_named (declarations.Session y) x e = cc
