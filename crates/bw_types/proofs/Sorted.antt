-- The declarations of each sort of a service in which no test fails.
use Rattle.std.proofs.Common.{◌≡◌, ℕ, ◌+◌, ◌<◌, ◌^◌, List, [], ◌∷◌, map, length, cond, Some, None, refl, ap, subst, ◌∙◌, arith}
use Rattle.std.specs.Prelude.{nat_lt, not, position}
use Rattle.std.proofs.lemmas.List.{length-map}
use Rattle.std.specs.List.{All, position_or_len}
use Rattle.bw_lang.specs.declared.service.Service.{Service}
use Rattle.bw_lang.specs.declared.service.Session.{Session}
use Rattle.bw_lang.specs.declared.service.Shared.{Shared}
use Rattle.bw_lang.specs.declared.service.Template.{Template}
use Rattle.bw_lang.specs.Table.Names.{same}
use Rattle.bw_lang.specs.Service.Order.{declarations_of, IsWoven}
use Rattle.bw_lang.specs.Service.Readable.{IsSmall}
use Rattle.bw_lang.specs.Service.Sorted.{as_template, as_shared, as_session}
use Rattle.bw_types.specs.Faults.{own_faults, literal_kind, IsWellTyped}
use Rattle.bw_types.specs.declared.tables.Tables.{Tables}
use Rattle.bw_types.specs.Known.{IsKnown}
use Rattle.bw_types.specs.Scopes.{template_names, session_names, template_of, session_of}
use Rattle.bw_types.specs.TemplateFaults.{items_faults}
use Rattle.bw_types.proofs.Differing.{Differ, none_differ, distinct, all_sorted, sort_differs}
use Rattle.bw_types.proofs.Services.{own_none, names_differ, template_own, shared_own, session_own, template_named, session_named, Walked}

place-map : {X : Type 0} (name : X → List ℕ) (w : List ℕ) (xs : List X) → position_or_len (same w) (map name xs) ≡ position_or_len (λ x. same w (name x)) xs
place-map name w [] = refl
place-map name w (x ∷ xs) = λ i. cond (not (same w (name x))) (1 + place-map name w xs i) 0

position-map : {X : Type 0} (name : X → List ℕ) (w : List ℕ) (xs : List X) → position (same w) (map name xs) ≡ position (λ x. same w (name x)) xs
position-map name w xs = let a = place-map name w xs in let l = length-map xs name in λ i. cond (nat_lt (a i) (l i)) (Some (a i)) None

module _ (s : Service) (w : IsWoven s) (h : IsWellTyped s) where
  pub templates_none : All (λ t. items_faults s t.name t.items ≡ []) s.templates
  templates_none =
      subst (All (λ (t : Template). items_faults s t.name t.items ≡ [])) w.templates
      (all_sorted as_template (λ d. own_faults s d ≡ []) (λ t. items_faults s t.name t.items ≡ []) (template_own s) (declarations_of s)
      (own_none s [] (declarations_of s) h))

  pub shared_none : All (λ v. literal_kind s v.init ≡ Some v.kind) s.shared
  shared_none =
      subst (All (λ (v : Shared). literal_kind s v.init ≡ Some v.kind)) w.shared
      (all_sorted as_shared (λ d. own_faults s d ≡ []) (λ v. literal_kind s v.init ≡ Some v.kind) (shared_own s) (declarations_of s)
      (own_none s [] (declarations_of s) h))

  pub sessions_none : All (Walked s) s.sessions
  sessions_none = subst (All (Walked s)) w.sessions (all_sorted as_session (λ d. own_faults s d ≡ []) (Walked s) (session_own s) (declarations_of s)
      (own_none s [] (declarations_of s) h))

  pub template_names_differ : Differ (template_names s)
  template_names_differ =
      subst (λ ts. Differ (map (λ (t : Template). t.name) ts)) w.templates
      (sort_differs as_template (λ t. t.name) template_named (declarations_of s) (names_differ s [] (declarations_of s) h none_differ))

  pub session_names_differ : Differ (session_names s)
  session_names_differ =
      subst (λ ss. Differ (map (λ (x : Session). x.name) ss)) w.sessions
      (sort_differs as_session (λ x. x.name) session_named (declarations_of s) (names_differ s [] (declarations_of s) h none_differ))

  -- the tables of names are the names as they stand
  pub templates_are : {tables : Tables} → IsKnown s tables → tables.templates ≡ template_names s
  templates_are known = known.templates ∙ distinct (template_names s) template_names_differ

  pub sessions_are : {tables : Tables} → IsKnown s tables → tables.sessions ≡ session_names s
  sessions_are known = known.sessions ∙ distinct (session_names s) session_names_differ

  pub templates_few : {tables : Tables} → IsKnown s tables → IsSmall s → length tables.templates < 2 ^ 32
  templates_few known small = omega (arith, ap length (templates_are known), length-map s.templates (λ (t : Template). t.name), small.templates)

  pub sessions_few : {tables : Tables} → IsKnown s tables → IsSmall s → length tables.sessions < 2 ^ 32
  sessions_few known small = omega (arith, ap length (sessions_are known), length-map s.sessions (λ (x : Session). x.name), small.sessions)

  -- the place of a name in a table is the number of what has it
  pub template_place : {tables : Tables} → IsKnown s tables → (w : List ℕ) → position (same w) tables.templates ≡ template_of s w
  template_place known w = ap (position (same w)) (templates_are known) ∙ position-map (λ (t : Template). t.name) w s.templates

  pub session_place : {tables : Tables} → IsKnown s tables → (w : List ℕ) → position (same w) tables.sessions ≡ session_of s w
  session_place known w = ap (position (same w)) (sessions_are known) ∙ position-map (λ (x : Session). x.name) w s.sessions
