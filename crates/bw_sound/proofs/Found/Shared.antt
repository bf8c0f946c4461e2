-- Each shared variable has one literal, since the names of declarations differ.
use Rattle.std.proofs.Common.{◌≡◌, ◌≢◌, ◌⊎◌, inl, inr, ℕ, zero, suc, Bool, true, false, List, [], ◌∷◌, map, Some, refl, sym, ap, ◌∙◌, arith}
use Rattle.std.specs.Prelude.{slice_get, ◌||◌}
use Rattle.std.specs.List.{AllPairs, Contains}
use Rattle.std.proofs.lemmas.Bool.{false≢true, cases_Bool}
use Rattle.std.proofs.lemmas.List.Elements.{Contains-append_right}
use Rattle.bw_lang.specs.declared.declaration.Declaration.{Declaration}
use Rattle.bw_lang.specs.declared.declaration.Declaration.TheVariants as declarations
use Rattle.bw_lang.specs.declared.service.Service.{Service}
use Rattle.bw_lang.specs.declared.service.Shared.{Shared}
use Rattle.bw_lang.specs.Table.Names.{same}
use Rattle.bw_lang.specs.Service.Order.{declarations_of, IsWoven}
use Rattle.bw_lang.specs.Service.Sorted.{shared_of}
use Rattle.bw_types.specs.Scopes.{is_among, name_of}
use Rattle.bw_types.specs.Typing.{IsTypedService}
use Rattle.bw_lang.proofs.SameNames.{same_is, same_self}
use Rattle.bw_cover.specs.Abstracts.{Abstract}
use Rattle.bw_cover.specs.Facts.{literal_known}
use Rattle.bw_cover.specs.Least.{join, join_if, joined_literals}
use Rattle.bw_flow.proofs.Names.{head_differs, tail_pairs}

abbrev names : List Shared → List (List ℕ)
names vs = map (λ (v : Shared). v.name) vs

-- a shared variable's name is among those of the declarations
named : (ds : List Declaration) (w : List ℕ) → is_among w (names (shared_of ds)) ≡ true → Contains (map name_of ds) w
named [] w h = absurd (false≢true h)
named (declarations.Template t ∷ ds) w h = Contains-append_right (t.name ∷ []) (map name_of ds) w (named ds w h)
named (declarations.Session s ∷ ds) w h = Contains-append_right (s.name ∷ []) (map name_of ds) w (named ds w h)
named (declarations.Shared v ∷ ds) w h = by_test (same w v.name) refl h (named ds w)
  where
    by_test : (b : Bool) → same w v.name ≡ b → (b || is_among w (names (shared_of ds))) ≡ true
        → (is_among w (names (shared_of ds)) ≡ true → Contains (map name_of ds) w) → Contains (v.name ∷ map name_of ds) w
    by_test true s k more = (0, omega arith, sym (same_is w v.name s))
    by_test false s k more = Contains-append_right (v.name ∷ []) (map name_of ds) w (more k)

is_there : (vs : List Shared) (j : ℕ) (v : Shared) → slice_get vs j ≡ Some v → is_among v.name (names vs) ≡ true
is_there [] j v e = absurd (cc)
is_there (u ∷ vs) zero v e = ap (λ b. b || is_among v.name (names vs)) (let k : u ≡ v = cc in ap (λ (z : Shared). same v.name z.name) k ∙ same_self v.name)
is_there (u ∷ vs) (suc j) v e = by_test (same v.name u.name) (is_there vs j v e)
  where
    by_test : (b : Bool) → is_among v.name (names vs) ≡ true → (b || is_among v.name (names vs)) ≡ true
    by_test true h = refl
    by_test false h = h

module _ (service : Service) where
  -- a name that none of these has
  absent : (vs : List Shared) (w : List ℕ) (e : Abstract) → is_among w (names vs) ≡ false → joined_literals service vs w e ≡ e
  absent [] w e h = refl
  absent (v ∷ vs) w e h = by_test (same w v.name) h (absent vs w e)
    where
      by_test : (b : Bool) → (b || is_among w (names vs)) ≡ false → (is_among w (names vs) ≡ false → joined_literals service vs w e ≡ e)
          → join_if b (Some (literal_known service v.init)) (joined_literals service vs w e) ≡ e
      by_test true k ih = absurd (false≢true (sym k))
      by_test false k ih = ih k

  not_among : (x : List ℕ) (ds : List Declaration) → AllPairs (λ v w. v ≢ w) (x ∷ map name_of ds) → is_among x (names (shared_of ds)) ≡ false
  not_among x ds h = by_cases (cases_Bool (is_among x (names (shared_of ds))))
    where
      by_cases : (is_among x (names (shared_of ds)) ≡ true) ⊎ (is_among x (names (shared_of ds)) ≡ false) → is_among x (names (shared_of ds)) ≡ false
      by_cases (inl k) = absurd (head_differs x (map name_of ds) x h (named ds x k) (same_self x))
      by_cases (inr k) = k

  once : (ds : List Declaration) → AllPairs (λ v w. v ≢ w) (map name_of ds) → (j : ℕ) (v : Shared) → slice_get (shared_of ds) j ≡ Some v → (e : Abstract)
      → joined_literals service (shared_of ds) v.name e ≡ join (literal_known service v.init) e
  once [] h j v s e = absurd (cc)
  once (declarations.Template t ∷ ds) h j v s e = once ds (tail_pairs t.name (map name_of ds) h) j v s e
  once (declarations.Session x ∷ ds) h j v s e = once ds (tail_pairs x.name (map name_of ds) h) j v s e
  once (declarations.Shared u ∷ ds) h zero v s e =
      let k : u ≡ v = cc in
      ap (λ b. join_if b (Some (literal_known service u.init)) (joined_literals service (shared_of ds) v.name e))
      (ap (λ (z : Shared). same v.name z.name) k ∙ same_self v.name)
      ∙ ap (join (literal_known service u.init)) (absent (shared_of ds) v.name e (ap (λ (z : Shared). is_among z.name (names (shared_of ds))) (sym k)
      ∙ not_among u.name ds h))
      ∙ ap (λ (z : Shared). join (literal_known service z.init) e) k
  once (declarations.Shared u ∷ ds) h (suc j) v s e =
      by_cases (cases_Bool (same v.name u.name)) (once ds (tail_pairs u.name (map name_of ds) h) j v s e)
    where
      by_cases : (same v.name u.name ≡ true) ⊎ (same v.name u.name ≡ false)
          → joined_literals service (shared_of ds) v.name e ≡ join (literal_known service v.init) e
          → join_if (same v.name u.name) (Some (literal_known service u.init)) (joined_literals service (shared_of ds) v.name e)
          ≡ join (literal_known service v.init) e
      by_cases (inl k) more = absurd (head_differs u.name (map name_of ds) v.name h (named ds v.name (is_there (shared_of ds) j v s)) k)
      by_cases (inr k) more = ap (λ b. join_if b (Some (literal_known service u.init)) (joined_literals service (shared_of ds) v.name e)) k ∙ more

  -- the literals of the shared variables of the name of one of them are its own
  pub one_literal : IsWoven service → IsTypedService service → (j : ℕ) (v : Shared) → slice_get service.shared j ≡ Some v → (e : Abstract)
      → joined_literals service service.shared v.name e ≡ join (literal_known service v.init) e
  one_literal woven typed j v s e =
      ap (λ vs. joined_literals service vs v.name e) (sym woven.shared)
      ∙ once (declarations_of service) typed.names j v (ap (λ vs. slice_get vs j) woven.shared ∙ s) e
