-- Judging the page graph of a service.
use Rattle.std.proofs.Common.{◌≡◌, inl, inr, ℕ, zero, suc, ◌+◌, ◌^◌, ◌<◌, List, [], ◌∷◌, ◌++◌, length, map, get_or, ap, sym, ◌∙◌, subst, arith}
use Rattle.std.specs.Prelude.{codes}
use Rattle.std.specs.List.{All}
use Rattle.std.proofs.lemmas.List.{get_or_past}
use Rattle.bw_faults.specs.declared.fault.Fault.{Fault}
use Rattle.bw_faults.specs.Lists.{Lists}
use Rattle.bw_faults.proofs.Adding.{none_of}
use Rattle.bw_lang.specs.declared.service.Service.{Service}
use Rattle.bw_lang.specs.declared.service.Template.{Template}
use Rattle.bw_lang.specs.Document.Documents.{elements, close}
use Rattle.bw_lang.specs.Document.Forest.{Forest, none}
use Rattle.bw_lang.specs.Document.Wrappers.{show_wrapper, exit_wrapper}
use Rattle.bw_lang.proofs.Weights.{parts_weigh}
use Rattle.bw_shape.specs.Nodes.Templates.{template_at}
use Rattle.bw_shape.proofs.Nodes.Wrapped.{at_behind}
use Rattle.bw_schema.specs.declared.schema.Schema.{Schema}
use Rattle.bw_schema.specs.Validity.{Valid}
use Rattle.bw_strings.specs.Literals.{literals_of}
use Rattle.bw_sum.specs.Graph.{graph}
use Rattle.bw_sum.specs.Templates.{all_items, template_items}
use Rattle.bw_sum.specs.Unfolding.{Unfolds}
use Rattle.bw_sum.specs.declared.summary.Summary.{Summary}
use Rattle.bw_typed.specs.Measured.{IsMeasured}
use Rattle.bw_shape.specs.declared.outline.Outline.{Outline}
use Rattle.bw_shape.specs.Outlines.{IsPageGraph, IsShape, root_of}
use Rattle.bw_shape.proofs.Shapes.{template_is}
use Rattle.bw_judge.specs.Faults.{IsFault}
use Rattle.bw_judge.specs.Pages.{OfAll, IsWrapper, IsPage}
use Rattle.bw_judge.proofs.ExactPage.{exact_list}
use Rattle.bw_judge.proofs.Sound.{no_fault_valid}

is_show : (service : Service) → template_at (all_items service) (length service.templates) ≡ show_wrapper (length service.gaps)
is_show service =
    let g = length service.gaps in
    let e : length service.templates ≡ length service.templates + 0 = omega arith in
    ap (λ j. template_at (all_items service) j) e ∙ at_behind service.templates (show_wrapper g ∷ exit_wrapper g ∷ []) 0

is_exit : (service : Service) → template_at (all_items service) (length service.templates + 1) ≡ exit_wrapper (length service.gaps)
is_exit service = let g = length service.gaps in at_behind service.templates (show_wrapper g ∷ exit_wrapper g ∷ []) 1

-- a page begins as a wrapper, which is one element
pub wrapper_root : (service : Service) (page : Summary) → IsPageGraph service page → IsWrapper (template_at (all_items service) (root_of page))
wrapper_root service page p = elim p.root [
  | inl e ↦ (codes "html", [], _, ap (λ rs. template_at (all_items service) (get_or rs 0 0)) e ∙ is_show service)
  | inr e ↦ (codes "html", [], _, ap (λ rs. template_at (all_items service) (get_or rs 0 0)) e ∙ is_exit service)
]

-- the templates and the wrappers have few elements
few : (t : Forest) → IsMeasured t → elements t < 2 ^ 32
few t m = let w = parts_weigh t in let l = m.weight in omega (arith, w, l)

few_at : (ts : List Template) (a b : Forest) → All (λ t. IsMeasured t.items) ts → elements a < 2 ^ 32 → elements b < 2 ^ 32 → (n : ℕ)
    → elements (get_or (map (λ t. t.items) ts ++ a ∷ b ∷ []) n none) < 2 ^ 32
few_at [] a b m p q zero = p
few_at [] a b m p q (suc zero) = q
few_at [] a b m p q (suc (suc n)) = subst (λ t. elements t < 2 ^ 32) (sym (get_or_past (a ∷ b ∷ []) (suc (suc n)) none (omega arith))) (omega arith)
few_at (t ∷ ts) a b m p q zero = few t.items (m 0 t (omega arith))
few_at (t ∷ ts) a b m p q (suc n) = few_at ts a b (λ k d l. m (suc k) d (omega (arith, l))) p q n

pub items_are_small : (service : Service) → All (λ t. IsMeasured t.items) service.templates → (n : ℕ) → elements (template_at (all_items service) n) < 2 ^ 32
items_are_small service m n = few_at service.templates (show_wrapper (length service.gaps)) (exit_wrapper (length service.gaps)) m (omega arith) (omega arith) n

-- the tables of the outline are those of the page graph
is_page : (service : Service) (page : Summary) (schema : Schema) (o : Outline) → IsPageGraph service page → IsShape service page schema o
    → IsPage (all_items service) o.graphed.nodes.items o.graphed.said.items (literals_of service) o.tables o.first o.pairs.items schema (root_of page)
    (graph (literals_of service) page)
is_page service page schema o p s = record {
  wrapper = wrapper_root service page p;
  reached = s.kept.reached;
  tables = s.kept.tables;
  strings = s.kept.strings;
  named = s.kept.named;
}

pub exact_page : (service : Service) (page : Summary) (schema : Schema) (o : Outline) (point : ℕ) → IsPageGraph service page → IsShape service page schema o
    → (l : List Fault) → Lists (OfAll (all_items service) (literals_of service) o schema (root_of page) point) l
    → Lists (IsFault (template_items service) (graph (literals_of service) page) (root_of page) schema point) l
exact_page service page schema o point p s l h =
    let G = graph (literals_of service) page in
    subst (λ T. Lists (IsFault T G (root_of page) schema point) l) (template_is service)
    (exact_list (all_items service) o.graphed.nodes.items o.graphed.said.items (literals_of service) o.tables o.first o.pairs.items schema (root_of page)
    point G (is_page service page schema o p s) l h)

pub sound_page : (service : Service) (page : Summary) (schema : Schema) (o : Outline) (point : ℕ) → IsPageGraph service page → IsShape service page schema o
    → (l : List Fault) → Lists (OfAll (all_items service) (literals_of service) o schema (root_of page) point) l → l ≡ []
    → (d : Forest) → Unfolds (template_items service) (graph (literals_of service) page) (root_of page) d → Valid schema (close d)
sound_page service page schema o point p s l h e d u =
    let G = graph (literals_of service) page in
    no_fault_valid (template_items service) G (root_of page) schema point
    (subst (λ T. IsWrapper (T (root_of page))) (template_is service) (wrapper_root service page p))
    (none_of {P = IsFault (template_items service) G (root_of page) schema point} l e (exact_page service page schema o point p s l h)) d u
