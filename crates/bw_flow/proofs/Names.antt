-- What names stand for at a point.
use Rattle.std.proofs.Common.{◌≡◌, ◌⊎◌, ℕ, zero, suc, Bool, true, false, cond, List, [], ◌∷◌, ◌++◌, map, Option, Some, None, refl, sym, ap, ◌∙◌, subst, inl}
use Rattle.std.proofs.Common.{inr, arith}
use Rattle.std.specs.Prelude.{◌≢◌, slice_get, find, if◌then◌else◌}
use Rattle.std.specs.List.{AllPairs, Contains}
use Rattle.std.specs.Option.{option_map, option_or}
use Rattle.std.proofs.lemmas.Cmp.{nat_list_eq_equiv}
use Rattle.std.proofs.lemmas.List.Elements.{Contains-append_left, Contains-append_right, Contains-push}
use Rattle.bw_lang.specs.declared.declaration.Declaration.{Declaration}
use Rattle.bw_lang.specs.declared.declaration.Declaration.TheVariants as declarations
use Rattle.bw_lang.specs.declared.service.Service.{Service}
use Rattle.bw_lang.specs.declared.service.Shared.{Shared}
use Rattle.bw_lang.specs.declared.stmt.Kind.{Kind}
use Rattle.bw_lang.specs.Table.Names.{same, beside}
use Rattle.bw_lang.specs.Service.Order.{declarations_of}
use Rattle.bw_lang.specs.Service.Sorted.{shared_of}
use Rattle.bw_lang.specs.Service.Term.{Term, int, truth, string, name, nothing, paren, not, neg, binary, call, plug, Fillings, no_more, filling}
use Rattle.bw_lang.proofs.SameNames.{same_is}
use Rattle.bw_types.specs.Scopes.{Scope, no_locals, name_of, declared_names, shared_kind, variable_kind, template_kind, name_kind, with_local}
use Rattle.bw_types.specs.Typing.{HasKind, AreTyped, IsNew, IsTypedService}
use Rattle.bw_flow.proofs.Parts.{either}
use Rattle.bw_flow.specs.declared.point.Local.{Local}
use Rattle.bw_flow.specs.Scopes as flow
use Rattle.bw_flow.specs.Scopes.{kind_in}
use Rattle.bw_flow.specs.TypedFlow.{names_at, kind_at, HasKindAt, AreNames}
use Rattle.bw_lang.specs.Service.Order.{IsWoven}

-- ---- shared variables among the declarations of a service

pair_of : Shared → List ℕ × Kind
pair_of v = (v.name, v.kind)

beside_here : {A : Type 0} (w : List ℕ) (x : List ℕ × A) (xs : List (List ℕ × A)) → same w x.0 ≡ true → beside w (x ∷ xs) ≡ Some x.1
beside_here w x xs e = ap (λ b. option_map (λ y. y.1) (cond b (Some x) (find (λ y. same w y.0) xs))) e

beside_there : {A : Type 0} (w : List ℕ) (x : List ℕ × A) (xs : List (List ℕ × A)) → same w x.0 ≡ false → beside w (x ∷ xs) ≡ beside w xs
beside_there w x xs e = ap (λ b. option_map (λ y. y.1) (cond b (Some x) (find (λ y. same w y.0) xs))) e

-- a shared variable's name is among those of the declarations
shared_named : (ds : List Declaration) (w : List ℕ) (k : Kind) → beside w (map (λ v. (v.name, v.kind)) (shared_of ds)) ≡ Some k → Contains (map name_of ds) w
shared_named [] w k e = cc
shared_named (declarations.Template t ∷ ds) w k e = Contains-append_right (t.name ∷ []) (map name_of ds) w (shared_named ds w k e)
shared_named (declarations.Session s ∷ ds) w k e = Contains-append_right (s.name ∷ []) (map name_of ds) w (shared_named ds w k e)
shared_named (declarations.Shared v ∷ ds) w k e = by (either (same w v.name)) (shared_named ds w k)
  where
    rest : List (List ℕ × Kind)
    rest = map (λ u. (u.name, u.kind)) (shared_of ds)

    by : (same w v.name ≡ true) ⊎ (same w v.name ≡ false) → (beside w rest ≡ Some k → Contains (map name_of ds) w) → Contains (v.name ∷ map name_of ds) w
    by (inl h) more = (0, omega arith, sym (same_is w v.name h))
    by (inr h) more = Contains-append_right (v.name ∷ []) (map name_of ds) w (more (sym (beside_there w (v.name, v.kind) rest h) ∙ e))

pub tail_pairs : (x : List ℕ) (xs : List (List ℕ)) → AllPairs (λ v w. v ≢ w) (x ∷ xs) → AllPairs (λ v w. v ≢ w) xs
tail_pairs x xs h i j d lt l = h (suc i) (suc j) d (omega arith) (omega arith)

pub head_differs : (x : List ℕ) (xs : List (List ℕ)) (w : List ℕ) → AllPairs (λ v w. v ≢ w) (x ∷ xs) → Contains xs w → same w x ≡ true → ⊥
head_differs x xs w h c e = let lt = c.1 in h 0 (suc c.0) w (omega arith) (omega arith) (sym (c.2 ∙ same_is w x e))

shared_found : (ds : List Declaration) → AllPairs (λ v w. v ≢ w) (map name_of ds) → (j : ℕ) (v : Shared) → slice_get (shared_of ds) j ≡ Some v
    → beside v.name (map (λ u. (u.name, u.kind)) (shared_of ds)) ≡ Some v.kind
shared_found [] h j v e = cc
shared_found (declarations.Template t ∷ ds) h j v e = shared_found ds (tail_pairs t.name (map name_of ds) h) j v e
shared_found (declarations.Session s ∷ ds) h j v e = shared_found ds (tail_pairs s.name (map name_of ds) h) j v e
shared_found (declarations.Shared u ∷ ds) h zero v e =
    let is : u ≡ v = cc in
    beside_here v.name (u.name, u.kind) (map (λ z. (z.name, z.kind)) (shared_of ds))
    (ap (λ (z : Shared). same v.name z.name) is ∙ nat_list_eq_equiv.refl v.name)
    ∙ ap (λ (z : Shared). Some z.kind) is
shared_found (declarations.Shared u ∷ ds) h (suc j) v e =
    let more = shared_found ds (tail_pairs u.name (map name_of ds) h) j v e in
    by (either (same v.name u.name)) more
  where
    by : (same v.name u.name ≡ true) ⊎ (same v.name u.name ≡ false) → beside v.name (map (λ z. (z.name, z.kind)) (shared_of ds)) ≡ Some v.kind
        → beside v.name ((u.name, u.kind) ∷ map (λ z. (z.name, z.kind)) (shared_of ds)) ≡ Some v.kind
    by (inl a) more = absurd (head_differs u.name (map name_of ds) v.name h (shared_named ds v.name v.kind more) a)
    by (inr a) more = beside_there v.name (u.name, u.kind) (map (λ z. (z.name, z.kind)) (shared_of ds)) a ∙ more

-- a name of no declaration is no shared variable
unshared : (service : Service) (w : List ℕ) → IsWoven service → (¬ (Contains (declared_names service) w)) → shared_kind service w ≡ None
unshared service w woven new = by (shared_kind service w) refl
  where
    by : (o : Option Kind) → shared_kind service w ≡ o → o ≡ None
    by None e = refl
    by (Some k) e = absurd (new (shared_named (declarations_of service) w k
        (ap (λ vs. beside w (map (λ v. (v.name, v.kind)) vs)) woven.shared ∙ e)))

-- each shared variable is found by its name
pub shared_is : (service : Service) → IsWoven service → IsTypedService service → (j : ℕ) (v : Shared) → slice_get service.shared j ≡ Some v
    → shared_kind service v.name ≡ Some v.kind
shared_is service woven typed j v e =
    ap (λ vs. beside v.name (map (λ u. (u.name, u.kind)) vs)) (sym woven.shared)
    ∙ shared_found (declarations_of service) typed.names j v (ap (λ vs. slice_get vs j) woven.shared ∙ e)

-- ---- the locals in scope

-- the local of that name is found among the pairs as among the locals
pub kind_in_is : (scope : List Local) (w : List ℕ) → beside w (names_at scope).locals ≡ kind_in scope w
kind_in_is [] w = refl
kind_in_is (l ∷ ls) w = by (same w l.name) (kind_in_is ls w)
  where
    by : (b : Bool) → beside w (names_at ls).locals ≡ kind_in ls w
        → option_map (λ (x : List ℕ × Kind). x.1) (cond b (Some (l.name, l.kind)) (find (λ x. same w x.0) (map (λ z. (z.name, z.kind)) ls)))
        ≡ option_map (λ z. z.kind) (cond b (Some l) (find (λ z. same w z.name) ls))
    by true e = refl
    by false e = e

kind_in_push : (scope : List Local) (l : Local) (w : List ℕ) →
    kind_in (scope ++ l ∷ []) w ≡ option_or (kind_in scope w) (if same w l.name then Some l.kind else None)
kind_in_push [] l w = one (same w l.name)
  where
    one : (b : Bool) → option_map (λ z. z.kind) (cond b (Some l) (find (λ (z : Local). same w z.name) [])) ≡ (if b then Some l.kind else None)
    one true = refl
    one false = refl
kind_in_push (x ∷ xs) l w = by (same w x.name) (kind_in_push xs l w)
  where
    by : (b : Bool) → kind_in (xs ++ l ∷ []) w ≡ option_or (kind_in xs w) (if same w l.name then Some l.kind else None)
        → option_map (λ z. z.kind) (cond b (Some x) (find (λ z. same w z.name) (xs ++ l ∷ [])))
        ≡ option_or (option_map (λ z. z.kind) (cond b (Some x) (find (λ z. same w z.name) xs))) (if same w l.name then Some l.kind else None)
    by true e = refl
    by false e = e

-- bw_types' scope has the locals in scope, and has taken their names
pub record Matches (service : Service) (scope : Scope) (sc : List Local) : Type 0 where
  pub kinds : (w : List ℕ) → beside w scope.locals ≡ kind_in sc w
  pub taken : (w : List ℕ) (k : Kind) → kind_in sc w ≡ Some k → Contains scope.taken w
  pub names : AreNames service sc

pub matches_nothing : (service : Service) → Matches service no_locals []
matches_nothing service = record {
  kinds = λ w. refl;
  taken = λ w k e. cc;
  names = record { found = λ i l e. none i l e; apart = λ i l e. none_kind i l e };
}
  where
    none : (i : ℕ) (l : Local) → slice_get [] i ≡ Some l → kind_in [] l.name ≡ Some l.kind
    none i l e = cc

    none_kind : (i : ℕ) (l : Local) → slice_get [] i ≡ Some l → shared_kind service l.name ≡ None
    none_kind i l e = cc

pub matches_more : (service : Service) (scope : Scope) (sc : List Local) (names : List (List ℕ)) → Matches service scope sc
    → Matches service (record { locals = scope.locals; taken = scope.taken ++ names }) sc
matches_more service scope sc names m =
    record { kinds = m.kinds; taken = λ w k e. Contains-append_left scope.taken names w (m.taken w k e); names = m.names }

-- a new name is no local's
unknown : (service : Service) (scope : Scope) (sc : List Local) (w : List ℕ) → Matches service scope sc → IsNew service scope w → kind_in sc w ≡ None
unknown service scope sc w m new = by (kind_in sc w) refl
  where
    by : (o : Option Kind) → kind_in sc w ≡ o → o ≡ None
    by None e = refl
    by (Some k) e = absurd (new.1 (m.taken w k e))

pub kind_at_is : (service : Service) (scope : Scope) (sc : List Local) (w : List ℕ) → Matches service scope sc →
    variable_kind service scope w ≡ kind_at service sc w
kind_at_is service scope sc w m = ap (λ o. option_or o (shared_kind service w)) (m.kinds w ∙ sym (kind_in_is sc w))

pub new_at : (service : Service) (scope : Scope) (sc : List Local) (w : List ℕ) → IsWoven service → Matches service scope sc → IsNew service scope w →
    kind_at service sc w ≡ None
new_at service scope sc w woven m new =
    ap (λ o. option_or o (shared_kind service w)) (kind_in_is sc w ∙ unknown service scope sc w m new) ∙ unshared service w woven new.0

-- ---- one local more

pub push_cases : (sc : List Local) (l : Local) (i : ℕ) (x : Local) → slice_get (sc ++ l ∷ []) i ≡ Some x → (slice_get sc i ≡ Some x) ⊎ (l ≡ x)
push_cases [] l zero x e = inr cc
push_cases [] l (suc i) x e = cc
push_cases (y ∷ ys) l zero x e = inl e
push_cases (y ∷ ys) l (suc i) x e = push_cases ys l i x e

pub names_push : (service : Service) (sc : List Local) (l : Local) → AreNames service sc → kind_in sc l.name ≡ None → shared_kind service l.name ≡ None →
    AreNames service (sc ++ l ∷ [])
names_push service sc l names fresh apart =
    record { found = λ i x e. found i x (push_cases sc l i x e); apart = λ i x e. away i x (push_cases sc l i x e) }
  where
    found : (i : ℕ) (x : Local) → (slice_get sc i ≡ Some x) ⊎ (l ≡ x) → kind_in (sc ++ l ∷ []) x.name ≡ Some x.kind
    found i x (inl h) = kind_in_push sc l x.name ∙ ap (λ o. option_or o (if same x.name l.name then Some l.kind else None)) (names.found i x h)
    found i x (inr h) =
        kind_in_push sc l x.name ∙ ap (λ (z : Local). option_or (kind_in sc z.name) (if same z.name l.name then Some l.kind else None)) (sym h)
        ∙ ap (λ o. option_or o (if same l.name l.name then Some l.kind else None)) fresh
        ∙ ap (λ (b : Bool). if b then Some l.kind else None) (nat_list_eq_equiv.refl l.name) ∙ ap (λ (z : Local). Some z.kind) h

    away : (i : ℕ) (x : Local) → (slice_get sc i ≡ Some x) ⊎ (l ≡ x) → shared_kind service x.name ≡ None
    away i x (inl h) = names.apart i x h
    away i x (inr h) = ap (λ (z : Local). shared_kind service z.name) (sym h) ∙ apart

pub matches_new : (service : Service) (scope : Scope) (sc : List Local) (w : List ℕ) (k : Kind) → IsWoven service → Matches service scope sc →
    IsNew service scope w
    → Matches service (with_local scope w k) (flow.with_local sc w k)
matches_new service scope sc w k woven m new =
    let l : Local = record { name = w; kind = k } in
    let fresh = unknown service scope sc w m new in
    record {
      kinds = λ v. seen v (either (same v w)) ∙ sym (kind_in_push sc l v);
      taken = λ v j e. took v j (either (same v w)) (sym (kind_in_push sc l v) ∙ e);
      names = names_push service sc l m.names fresh (unshared service w woven new.0);
    }
  where
    seen : (v : List ℕ) → (same v w ≡ true) ⊎ (same v w ≡ false) →
        beside v ((w, k) ∷ scope.locals) ≡ option_or (kind_in sc v) (if same v w then Some k else None)
    seen v (inl h) =
        beside_here v (w, k) scope.locals h
        ∙ sym (ap (λ (b : Bool). option_or (kind_in sc v) (if b then Some k else None)) h
        ∙ ap (λ o. option_or o (Some k)) (ap (kind_in sc) (same_is v w h) ∙ unknown service scope sc w m new))
    seen v (inr h) =
        beside_there v (w, k) scope.locals h ∙ m.kinds v
        ∙ sym (ap (λ (b : Bool). option_or (kind_in sc v) (if b then Some k else None)) h ∙ same_or (kind_in sc v))
      where
        same_or : (o : Option Kind) → option_or o None ≡ o
        same_or None = refl
        same_or (Some j) = refl

    took : (v : List ℕ) (j : Kind) → (same v w ≡ true) ⊎ (same v w ≡ false) → option_or (kind_in sc v) (if same v w then Some k else None) ≡ Some j →
        Contains (scope.taken ++ w ∷ []) v
    took v j (inl h) e = subst (λ z. Contains (scope.taken ++ w ∷ []) z) (sym (same_is v w h)) (Contains-push scope.taken w)
    took v j (inr h) e = Contains-append_left scope.taken (w ∷ []) v
        (old (kind_in sc v) refl (ap (λ (b : Bool). option_or (kind_in sc v) (if b then Some k else None)) (sym h) ∙ e))
      where
        old : (o : Option Kind) → kind_in sc v ≡ o → option_or o None ≡ Some j → Contains scope.taken v
        old None a b = cc
        old (Some i) a b = m.taken v i a

-- ---- kinds of expressions

module _ (service : Service) (a b : Scope) (alike : (w : List ℕ) → name_kind service a w ≡ name_kind service b w) where
  mutual
    kind_alike : (e : Term) (k : Kind) → HasKind service a e k → HasKind service b e k
    kind_alike (int n) k h = h
    kind_alike (truth x) k h = h
    kind_alike (string s) k h = h
    kind_alike nothing k h = h
    kind_alike (name w) k h = sym (alike w) ∙ h
    kind_alike (paren e) k h = kind_alike e k h
    kind_alike (not e) k h = (kind_alike e _ h.0, h.1)
    kind_alike (neg e) k h = (kind_alike e _ h.0, h.1)
    kind_alike (binary op l r) k h = (h.0, kind_alike l h.0 h.1, kind_alike r h.0 h.2, h.3)
    kind_alike (call f e) k h = (kind_alike e _ h.0, h.1)
    kind_alike (plug e ps) k h = (kind_alike e _ h.0, typed_alike ps h.1, h.2)

    typed_alike : (ps : Fillings) → AreTyped service a ps → AreTyped service b ps
    typed_alike no_more h = tt
    typed_alike (filling w e ps) h = let p = h.0 in ((p.0, p.1, p.2, kind_alike e p.1 p.3, p.4), typed_alike ps h.1)

-- what has a kind by bw_types' scope has it where these locals are in scope
pub has_kind : (service : Service) (scope : Scope) (sc : List Local) (e : Term) (k : Kind) → Matches service scope sc → HasKind service scope e k →
    HasKindAt service sc e k
has_kind service scope sc e k m h =
    kind_alike service scope (names_at sc) (λ w. ap (λ o. option_or o (template_kind service w)) (kind_at_is service scope sc w m)) e k h
