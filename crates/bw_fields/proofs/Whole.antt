-- The faults of a show's received fields.
use Rattle.std.proofs.Common.{◌≡◌, ◌↔◌, inl, inr, ℕ, true, List, [], length, get_or, Option, Some, None, refl, ap, sym, subst}
use Rattle.std.specs.List.{All}
use Rattle.std.proofs.lemmas.Bool.{false≢true, and_parts, and_from}
use Rattle.std.proofs.lemmas.List.Elements.{All-contains, Contains-get_or}
use Rattle.bw_faults.specs.declared.fault.Fault.{Fault}
use Rattle.bw_faults.specs.Lists.{Lists, OfSome}
use Rattle.bw_faults.proofs.Adding.{none_of, some_to, some_from}
use Rattle.bw_flow.specs.declared.point.Received.{Received}
use Rattle.bw_lang.specs.declared.controls.FieldKind.{FieldKind}
use Rattle.bw_lang.specs.declared.controls.FieldKind.TheVariants.{Single, Choice, Many}
use Rattle.bw_lang.specs.declared.service.Service.{Service}
use Rattle.bw_lang.specs.Document.Documents.{close}
use Rattle.bw_lang.specs.Document.Forest.{Forest}
use Rattle.bw_schema.specs.declared.schema.Schema.{Schema}
use Rattle.bw_strings.specs.Literals.{literals_of}
use Rattle.bw_sum.specs.Graph.{Graph, graph}
use Rattle.bw_sum.specs.Templates.{template_items}
use Rattle.bw_sum.specs.Unfolding.{Unfolds}
use Rattle.bw_sum.specs.declared.summary.Summary.{Summary}
use Rattle.bw_types.specs.Fields.{kind_of_field}
use Rattle.bw_types.specs.Typing.{IsTypedService}
use Rattle.bw_shape.specs.declared.outline.Outline.{Outline}
use Rattle.bw_shape.specs.Outlines.{root_of, may_lack, may_have_twice}
use Rattle.bw_shape.specs.Shape.{Reached, root_is, Lacks, Doubles}
use Rattle.bw_fields.specs.Found.{is_single, OfField}
use Rattle.bw_fields.specs.Received as received
use Rattle.bw_fields.specs.Received.{names_of, IsReceived, IsShown, IsFaultOf, IsFieldFault, HasField}
use Rattle.bw_fields.proofs.Closed.{field_there}
use Rattle.bw_fields.proofs.Services.{templates_plain, templates_agree}

single_is : (k : Option FieldKind) → is_single k ≡ true → k ≡ Some Single
single_is None h = absurd (false≢true h)
single_is (Some Single) h = refl
single_is (Some Choice) h = absurd (false≢true h)
single_is (Some Many) h = absurd (false≢true h)

module _ (service : Service) (page : Summary) (schema : Schema) (o : Outline) (shown : IsShown service page schema o) (point : ℕ) where
  abbrev T : ℕ → Forest
  T = template_items service

  abbrev G : Graph
  G = graph (literals_of service) page

  abbrev root : ℕ
  root = length service.templates

  root_it : root_of page ≡ root
  root_it = ap (λ rs. get_or rs 0 0) shown.1

  at_root : Reached G (root_of page) root
  at_root = subst (Reached G (root_of page)) root_it root_is

  lack_is : (r : Received) → IsReceived service r → (may_lack o root r.id ≡ true) ↔ Lacks T G (names_of service) r.id root (T root)
  lack_is r k = let f = shown.2.facts.lack root r.id k.1 in (λ h. (f.0 h).1, λ h. f.1 (at_root, h))

  twice_is : (r : Received) → IsReceived service r → (may_have_twice o root r.id ≡ true) ↔ Doubles T G (names_of service) r.id root
  twice_is r k = let f = shown.2.facts.twice root r.id k.1 in (λ h. (f.0 h).1, λ h. f.1 (at_root, h))

  field_to : (r : Received) → IsReceived service r → (f : Fault) → OfField service o root point r f → IsFaultOf T G root service point r f
  field_to r k f (inl h) = subst (IsFaultOf T G root service point r) (sym h.1) (received.missing ((lack_is r k).0 h.0))
  field_to r k f (inr (inl h)) =
      let p = and_parts (may_have_twice o root r.id) (is_single (kind_of_field service r.field)) h.0 in
      subst (IsFaultOf T G root service point r) (sym h.1) (received.repeated (single_is (kind_of_field service r.field) p.1) ((twice_is r k).0 p.0))
  field_to r k f (inr (inr h)) = subst (IsFaultOf T G root service point r) (sym h.1) (received.unfit h.0)

  field_from : (r : Received) → IsReceived service r → {f : Fault} → IsFaultOf T G root service point r f → OfField service o root point r f
  field_from r k (received.missing h) = inl ((lack_is r k).1 h, refl)
  field_from r k (received.repeated e h) =
      inr (inl (and_from (may_have_twice o root r.id) (is_single (kind_of_field service r.field)) ((twice_is r k).1 h) (ap is_single e), refl))
  field_from r k (received.unfit h) = inr (inr (h, refl))

  pub exact_fields : (rs : List Received) → All (IsReceived service) rs → (l : List Fault) → Lists (OfSome (OfField service o root point) rs) l
      → Lists (IsFieldFault T G root service point rs) l
  exact_fields rs k l h = record {
    set = h.set;
    sound = λ f m.
        let q = some_to (OfField service o root point) rs f (h.sound f m) in
        (q.0, q.1, field_to q.0 (All-contains (IsReceived service) rs q.0 k q.1) f q.2);
    whole = λ f m.
        h.whole f (some_from (OfField service o root point) rs f m.0 m.1 (field_from m.0 (All-contains (IsReceived service) rs m.0 k m.1) m.2));
  }

  pub sound_fields : IsTypedService service → (rs : List Received) → All (IsReceived service) rs → (l : List Fault)
      → Lists (OfSome (OfField service o root point) rs) l → l ≡ [] → (d : Forest) → Unfolds T G root d → All (HasField service (close d)) rs
  sound_fields typed rs k l h e d u = λ i x low.
      let r = get_or rs i x in
      field_there T G root service point r (templates_plain service typed) (templates_agree service typed r.field) (k i x low)
      (λ f m. none_of {P = IsFieldFault T G root service point rs} l e (exact_fields rs k l h) f (r, Contains-get_or rs i x low, m)) d u
