-- What look-ups in the tables of a service find.
use Rattle.std.proofs.Common.{◌≡◌, ℕ, Bool, true, false, cond, List, [], ◌∷◌, map, Some, refl, ap, sym, ◌∙◌}
use Rattle.std.specs.Prelude.{◌||◌, is_some, find, option_map}
use Rattle.bw_lang.specs.declared.declaration.Declaration.{Declaration}
use Rattle.bw_lang.specs.declared.declaration.Declaration.TheVariants as declarations
use Rattle.bw_lang.specs.declared.service.Service.{Service}
use Rattle.bw_lang.specs.declared.stmt.Kind.{Kind}
use Rattle.bw_lang.specs.Table.Names.{same, beside}
use Rattle.bw_lang.specs.Service.Order.{declarations_of, IsWoven}
use Rattle.bw_lang.specs.Service.Sorted.{templates_of, shared_of, sessions_of}
use Rattle.bw_types.specs.declared.tables.Tables.{Tables}
use Rattle.bw_types.specs.Fields.{kind_of_field, template_fields}
use Rattle.bw_types.specs.Gaps.{gap_kind, kind_of_number, template_uses}
use Rattle.bw_types.specs.Known.{IsKnown}
use Rattle.bw_types.specs.Scopes.{is_among, name_of, template_names, session_names, declared_names, shared_kinds, shared_kind}
use Rattle.bw_types.proofs.Seek.{beside-with_kinds, gap_kind-with_uses, among-with_names}

module _ (service : Service) {tables : Tables} (known : IsKnown service tables) where
  pub knows_template : (w : List ℕ) → is_among w tables.templates ≡ is_among w (template_names service)
  knows_template w = ap (is_among w) known.templates ∙ among-with_names w [] (template_names service)

  pub knows_session : (w : List ℕ) → is_among w tables.sessions ≡ is_among w (session_names service)
  knows_session w = ap (is_among w) known.sessions ∙ among-with_names w [] (session_names service)

  pub knows_shared : (w : List ℕ) → beside w tables.shared ≡ shared_kind service w
  knows_shared w = ap (beside w) known.shared ∙ beside-with_kinds w [] (shared_kinds service)

  pub knows_gap : (g : ℕ) → gap_kind tables.gaps g ≡ kind_of_number service g
  knows_gap g = ap (λ t. gap_kind t g) known.gaps ∙ gap_kind-with_uses g [] (template_uses service.templates)

  pub knows_field : (w : List ℕ) → beside w tables.fields ≡ kind_of_field service w
  knows_field w = ap (beside w) known.fields ∙ beside-with_kinds w [] (template_fields service.templates)

-- ---- the names of declarations

abbrev among_shared : List ℕ → List Declaration → Bool
among_shared w ds = is_some (beside w (map (λ v. (v.name, v.kind)) (shared_of ds)))

first_or : (w n : List ℕ) (k : Kind) (vs : List (List ℕ × Kind)) → is_some (beside w ((n, k) ∷ vs)) ≡ (same w n || is_some (beside w vs))
first_or w n k vs = by_test (same w n)
  where
    by_test : (b : Bool) → is_some (option_map (λ (x : List ℕ × Kind). x.1) (cond b (Some (n, k)) (find (λ x. same w x.0) vs))) ≡ (b || is_some (beside w vs))
    by_test true = refl
    by_test false = refl

first_of_three : (b x y z : Bool) → (b || (x || (y || z))) ≡ ((b || x) || (y || z))
first_of_three true x y z = refl
first_of_three false x y z = refl

second_of_three : (b x y z : Bool) → (b || (x || (y || z))) ≡ (x || ((b || y) || z))
second_of_three b true y z = or_true b
  where
    or_true : (b : Bool) → (b || true) ≡ true
    or_true true = refl
    or_true false = refl
second_of_three true false y z = refl
second_of_three false false y z = refl

third_of_three : (b x y z : Bool) → (b || (x || (y || z))) ≡ (x || (y || (b || z)))
third_of_three true true y z = refl
third_of_three true false true z = refl
third_of_three true false false z = refl
third_of_three false x y z = refl

among_declared : (w : List ℕ) (ds : List Declaration)
    → is_among w (map name_of ds) ≡ (is_among w (map (λ t. t.name) (templates_of ds)) || (among_shared w ds || is_among w (map (λ s. s.name) (sessions_of ds))))
among_declared w [] = refl
among_declared w (declarations.Template t ∷ ds) =
    ap (λ b. same w t.name || b) (among_declared w ds)
    ∙ first_of_three (same w t.name) (is_among w (map (λ t. t.name) (templates_of ds))) (among_shared w ds)
    (is_among w (map (λ s. s.name) (sessions_of ds)))
among_declared w (declarations.Shared v ∷ ds) =
    let x = is_among w (map (λ t. t.name) (templates_of ds)) in let z = is_among w (map (λ s. s.name) (sessions_of ds)) in
    ap (λ b. same w v.name || b) (among_declared w ds) ∙ second_of_three (same w v.name) x (among_shared w ds) z
    ∙ ap (λ b. x || (b || z)) (sym (first_or w v.name v.kind (map (λ v. (v.name, v.kind)) (shared_of ds))))
among_declared w (declarations.Session s ∷ ds) =
    ap (λ b. same w s.name || b) (among_declared w ds)
    ∙ third_of_three (same w s.name) (is_among w (map (λ t. t.name) (templates_of ds))) (among_shared w ds)
    (is_among w (map (λ s. s.name) (sessions_of ds)))

-- a name is a declaration's where it is a template's, a shared variable's or a session's
among_three : (s : Service) → IsWoven s → (w : List ℕ)
    → is_among w (declared_names s) ≡ (is_among w (template_names s) || (is_some (shared_kind s w) || is_among w (session_names s)))
among_three s h w =
    among_declared w (declarations_of s) ∙ ap (λ ts. is_among w (map (λ t. t.name) ts)
    || (among_shared w (declarations_of s) || is_among w (map (λ s. s.name) (sessions_of (declarations_of s))))) h.templates
    ∙ ap (λ vs. is_among w (template_names s) || (is_some (beside w (map (λ v. (v.name, v.kind)) vs))
    || is_among w (map (λ s. s.name) (sessions_of (declarations_of s))))) h.shared
    ∙ ap (λ ss. is_among w (template_names s) || (is_some (shared_kind s w) || is_among w (map (λ s. s.name) ss))) h.sessions

-- by the tables
pub declared_by : (s : Service) → IsWoven s → {tables : Tables} → IsKnown s tables → (w : List ℕ)
    → is_among w (declared_names s) ≡ (is_among w tables.templates || (is_some (beside w tables.shared) || is_among w tables.sessions))
declared_by s h {tables} known w =
    among_three s h w ∙ ap (λ b. b || (is_some (shared_kind s w) || is_among w (session_names s))) (sym (knows_template s known w))
    ∙ ap (λ o. is_among w tables.templates || (is_some o || is_among w (session_names s))) (sym (knows_shared s known w))
    ∙ ap (λ b. is_among w tables.templates || (is_some (beside w tables.shared) || b)) (sym (knows_session s known w))
