-- A service in which no test fails is typed, and in one that is typed none fails.
use Rattle.std.proofs.Common.{◌≡◌, ℕ, List, [], get_or, sym, subst}
use Rattle.std.specs.List.{All}
use Rattle.bw_lang.specs.declared.controls.FieldKind.{FieldKind}
use Rattle.bw_lang.specs.declared.declaration.Declaration.{Declaration}
use Rattle.bw_lang.specs.declared.declaration.Declaration.TheVariants as declarations
use Rattle.bw_lang.specs.declared.service.Service.{Service}
use Rattle.bw_lang.specs.declared.service.Session.{Session}
use Rattle.bw_lang.specs.declared.service.Shared.{Shared}
use Rattle.bw_lang.specs.declared.service.Template.{Template}
use Rattle.bw_lang.specs.Template.Controls.{fields}
use Rattle.bw_lang.specs.Service.Order.{declarations_of, IsWoven}
use Rattle.bw_types.specs.declared.fault.GapKind.{GapKind}
use Rattle.bw_types.specs.Faults.{own_faults, IsWellTyped}
use Rattle.bw_types.specs.Fields.{template_fields}
use Rattle.bw_types.specs.Gaps.{gap_uses, template_uses}
use Rattle.bw_types.specs.Typing.{IsTypedService}
use Rattle.bw_types.proofs.Differing.{none_differ}
use Rattle.bw_types.proofs.Elements.{Uses, Controls, ItemsFit, items_fit, items_pass}
use Rattle.bw_types.proofs.OneKind.{gaps_agree, gaps_fit, fields_agree, fields_fit}
use Rattle.bw_types.proofs.Parts.{all_parts, parts_of_all}
use Rattle.bw_types.proofs.Services.{names_differ, walk_passes, each_declaration, shared_passes, session_passes, session_typed}
use Rattle.bw_types.proofs.Sorted.{templates_none, shared_none, sessions_none}

module _ (s : Service) (w : IsWoven s) where
  -- the gaps of a template, and the fields of its controls
  abbrev gaps_in : Template → List (ℕ × GapKind)
  gaps_in t = gap_uses t.items

  abbrev fields_in : Template → List (List ℕ × FieldKind)
  fields_in t = fields t.items

  fit : IsWellTyped s → All (λ t. ItemsFit s t.items) s.templates
  fit h = λ i d l. items_fit s _ _ (templates_none s w h i d l)

  pub typed : IsWellTyped s → IsTypedService s
  typed h = record {
    names = names_differ s [] (declarations_of s) h none_differ;
    gaps = gaps_agree (template_uses s.templates) (all_parts gaps_in (Uses s) s.templates (λ i d l. (fit h i d l).uses));
    fields = fields_agree (template_fields s.templates) (all_parts fields_in (Controls s) s.templates (λ i d l. (fit h i d l).controls));
    tags = λ i d l. (fit h i d l).tags;
    files = λ i d l. (fit h i d l).files;
    controls = λ i d l. (fit h i d l).good;
    shared = shared_none s w h;
    sessions = λ i d l. session_typed s _ (sessions_none s w h i d l);
  }

  -- no test of its own fails
  abbrev Passes : Declaration → Type 0
  Passes d = own_faults s d ≡ []

  template_passes : IsTypedService s → All (λ t. Passes (declarations.Template t)) s.templates
  template_passes h i d l =
      let uses = parts_of_all gaps_in (Uses s) s.templates (gaps_fit (template_uses s.templates) h.gaps) in
      let more = parts_of_all fields_in (Controls s) s.templates (fields_fit (template_fields s.templates) h.fields) in
      let t = get_or s.templates i d in
      items_pass s t.name t.items (record { uses = uses i d l; controls = more i d l; tags = h.tags i d l; files = h.files i d l; good = h.controls i d l })

  pub well_typed : IsTypedService s → IsWellTyped s
  well_typed h =
      walk_passes s [] (declarations_of s) h.names
      (each_declaration Passes (declarations_of s) (subst (All (λ (t : Template). Passes (declarations.Template t))) (sym w.templates) (template_passes h))
      (subst (All (λ (v : Shared). Passes (declarations.Shared v))) (sym w.shared) (λ i d l. shared_passes s (get_or s.shared i d) (h.shared i d l)))
      (subst (All (λ (x : Session). Passes (declarations.Session x))) (sym w.sessions) (λ i d l. session_passes s _ (h.sessions i d l))))
