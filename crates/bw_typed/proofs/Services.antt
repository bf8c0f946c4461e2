-- What every service is that was read.
use Rattle.std.proofs.Common.{◌≡◌, ℕ, ◌<◌, ◌≤◌, inl, inr, List, [], length, Some, ap, sym, subst, arith}
use Rattle.std.specs.List.{All}
use Rattle.std.specs.Coded.{le_prop}
use Rattle.std.proofs.Math.Logic.{∥∥₁_elim}
use Rattle.bw_lang.specs.declared.declaration.Declaration.{Declaration}
use Rattle.bw_lang.specs.declared.declaration.Declaration.TheVariants as declarations
use Rattle.bw_lang.specs.declared.service.Service.{Service}
use Rattle.bw_lang.specs.declared.service.Session.{Session}
use Rattle.bw_lang.specs.declared.service.Shared.{Shared}
use Rattle.bw_lang.specs.declared.service.Template.{Template}
use Rattle.bw_lang.specs.Service.Drafts.{IsShareable}
use Rattle.bw_lang.specs.Document.Forest.{Forest}
use Rattle.bw_lang.specs.Document.Measures.{constant_weight, nest}
use Rattle.bw_lang.specs.Service.Reads.{Reads}
use Rattle.bw_lang.specs.Service.Sorted.{as_template, as_shared, as_session, templates_of}
use Rattle.bw_lang.specs.Text.Spelling.{IsCode}
use Rattle.bw_lang.proofs.Small.{all_within, of_each}
use Rattle.bw_tmpl.specs.Markup.{IsMarkup}
use Rattle.bw_types.proofs.Differing.{all_sorted}
use Rattle.bw_types.specs.Gaps.{gap_uses}
use Rattle.bw_typed.specs.Formed.{BodiesAreCode, SharedAreNoLists}
use Rattle.bw_typed.specs.Markup.{TemplatesAreMarkup}
use Rattle.bw_typed.specs.Measured.{IsMeasured, TemplatesAreMeasured}
use Rattle.bw_typed.specs.Numbered.{GapsAreNumbered}
use Rattle.bw_typed.proofs.Props.{code_prop}
use Rattle.bw_typed.proofs.Read.{IsSound, Stands, all_sound, each_stands}

module _ (bytes : List ℕ) (s : Service) (r : Reads bytes s) where
  sound : All (IsSound s.gaps) r.declarations
  sound = (all_sound [] r.drafts r.declarations s.gaps r.drafted.formed r.read).0

  abbrev IsSoundTemplate : Template → Type 0
  IsSoundTemplate t = (nest t.items ≤ 64) × All (λ x. x.0 < length s.gaps) (gap_uses t.items) × IsMarkup t.items

  template_sound : (d : Declaration) (t : Template) → as_template d ≡ Some t → IsSound s.gaps d → IsSoundTemplate t
  template_sound (declarations.Template u) t e h = let same : u ≡ t = cc in subst IsSoundTemplate same h
  template_sound (declarations.Shared v) t e h = absurd (cc)
  template_sound (declarations.Session x) t e h = absurd (cc)

  shared_sound : (d : Declaration) (v : Shared) → as_shared d ≡ Some v → IsSound s.gaps d → IsShareable v.kind
  shared_sound (declarations.Template t) v e h = absurd (cc)
  shared_sound (declarations.Shared u) v e h = let same : u ≡ v = cc in subst (λ (x : Shared). IsShareable x.kind) same h
  shared_sound (declarations.Session x) v e h = absurd (cc)

  session_sound : (d : Declaration) (x : Session) → as_session d ≡ Some x → IsSound s.gaps d → IsCode x.body
  session_sound (declarations.Template t) x e h = absurd (cc)
  session_sound (declarations.Shared v) x e h = absurd (cc)
  session_sound (declarations.Session y) x e h = let same : y ≡ x = cc in subst (λ (z : Session). IsCode z.body) same h

  pub templates_sound : All IsSoundTemplate s.templates
  templates_sound =
      subst (All IsSoundTemplate) (sym (ap (λ (t : Service). t.templates) r.whole))
      (all_sorted as_template (IsSound s.gaps) IsSoundTemplate template_sound r.declarations sound)

  pub shareds_sound : All (λ v. IsShareable v.kind) s.shared
  shareds_sound =
      subst (All (λ (v : Shared). IsShareable v.kind)) (sym (ap (λ (t : Service). t.shared) r.whole))
      (all_sorted as_shared (IsSound s.gaps) (λ (v : Shared). IsShareable v.kind) shared_sound r.declarations sound)

  pub sessions_sound : All (λ x. IsCode x.body) s.sessions
  sessions_sound =
      subst (All (λ (x : Session). IsCode x.body)) (sym (ap (λ (t : Service). t.sessions) r.whole))
      (all_sorted as_session (IsSound s.gaps) (λ (x : Session). IsCode x.body) session_sound r.declarations sound)

  pub weights : All (λ t. constant_weight t.items ≤ 262144) s.templates
  weights =
      subst (All (λ (t : Template). constant_weight t.items ≤ 262144)) (sym (ap (λ (t : Service). t.templates) r.whole))
      (of_each (λ n. n ≤ 262144) (λ (t : Template). constant_weight t.items) (templates_of r.declarations)
      (all_within s.name s.gaps r.declarations r.within).weights)

  pub stands : (g : ℕ) → g < length s.gaps → Stands s.templates g
  stands g l =
      subst (λ ts. Stands ts g) (sym (ap (λ (t : Service). t.templates) r.whole))
      (elim (each_stands [] r.drafts r.declarations s.gaps g r.read l) [ inl k ↦ absurd (omega (arith, k)) | inr c ↦ c ])

small : (items : Forest) → constant_weight items ≤ 262144 → nest items ≤ 64 → IsMeasured items
small items w n = record { weight = w; nest = n; within = record { weight = omega (arith, w); depth = omega arith; nest = omega (arith, n) } }

pub templates_are_measured : TemplatesAreMeasured
templates_are_measured s h =
    λ i d l. small _ (∥∥₁_elim h le_prop (λ r. weights r.0 s r.1 i d l)) (∥∥₁_elim h le_prop (λ r. (templates_sound r.0 s r.1 i d l).0))

pub templates_are_markup : TemplatesAreMarkup
templates_are_markup bytes s r = λ i d l. (templates_sound bytes s r i d l).2

pub gaps_are_numbered : GapsAreNumbered
gaps_are_numbered s h = λ i d l j e m. ∥∥₁_elim h le_prop (λ r. (templates_sound r.0 s r.1 i d l).1 j e m)

pub bodies_are_code : BodiesAreCode
bodies_are_code s h = λ i d l. ∥∥₁_elim h (code_prop _) (λ r. sessions_sound r.0 s r.1 i d l)

pub shared_are_no_lists : SharedAreNoLists
shared_are_no_lists s h = λ i d l e. ∥∥₁_elim h (hlevel le_prop) (λ r. shareds_sound r.0 s r.1 i d l e)
