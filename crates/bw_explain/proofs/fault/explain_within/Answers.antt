use Rattle.std.proofs.Common.{◌≡◌, ◌==◌, true, false, ℕ, ◌<◌, ◌^◌, List, length, ap, sym, ◌∙◌, subst}
use Rattle.bw_lang.specs.Document.Documents.{elements}
use Rattle.bw_lang.specs.Document.Forest.{Forest}
use Rattle.bw_judge.proofs.Whole.{items_are_small}
use Rattle.bw_shape.specs.Nodes.Templates.{template_at}
use Rattle.bw_shape.specs.Outlines.{root_of}
use Rattle.bw_shape.proofs.Shapes.{template_is}
use Rattle.bw_sum.specs.Graph.{graph as summary_graph}
use Rattle.bw_sum.specs.Templates.{template_items}
use Rattle.bw_typed.proofs.Services.{templates_are_measured}
use Rattle.bw_explain.specs.declared.explained.Explained.{Explained}
use Rattle.bw_explain.specs.Explained.{Ties, IsAnswer, IsAt, FindsOne, Place}
use Rattle.bw_explain.specs.Atoms.{atoms_of}
use Rattle.bw_schema.specs.declared.rules.Rule.{Rule}
use Rattle.bw_strings.specs.Literals.{literals_of}
use Rattle.bw_sum.specs.Unfolding.{Unfolds}
use Rattle.bw_explain.specs.Ways.{Way, graph}
use Rattle.bw_explain.proofs.Placing.{mapped_both}
use Rattle.bw_explain.proofs.Faulty.{by_number, fault_is_placed}
use Rattle.bw_explain.proofs.fault.explain_within.Goals as goal

pub explain_nodes-explained-requires-clause-few : goal.explain_nodes-explained-requires-clause-few
explain_nodes-explained-requires-clause-few c = subst (λ (ts : List Forest). (n : ℕ) → elements (template_at ts n) < 2 ^ 32)
    (sym c.args.basis.now.templates_are)
    (items_are_small c.args.basis.now.typed.now.service (templates_are_measured c.args.basis.now.typed.now.service c.args.basis.now.typed.now.readable))

pub explain_nodes-explained-requires-clause-placed : goal.explain_nodes-explained-requires-clause-placed
explain_nodes-explained-requires-clause-placed c = let s = c.args.basis.now.typed.now.service in
    fault_is_placed s c.args.basis.now.templates.now c.args.basis.now.templates_are (summary_graph (literals_of s) c.args.page.now)
    (root_of c.args.page.now) c.args.basis.now.schema.now
    c.args.fault.now.point c.args.fault.now c.requires.fault

pub explain_nodes-explained-requires-clause-both : goal.explain_nodes-explained-requires-clause-both
explain_nodes-explained-requires-clause-both c = ap length c.as_slice.ensures.value ∙ c.in_ok-ways.ensures.len

pub returns : goal.returns
returns c =
    let s = c.args.basis.now.typed.now.service in
    let f = c.args.fault.now in
    let sch = c.args.basis.now.schema.now in
    let ws = c.in_ok-ways.ways.items in
    let page = c.args.page.now in
    mapped_both c.explain_nodes-explained.result (λ (e : Explained) h k.
    by_number (template_items s) (graph ws) (summary_graph (literals_of s) page) sch f.point f (root_of page) e c.requires.fault
    (subst (λ (ls : List (List ℕ)). Ties (graph ws) (summary_graph ls page)) c.args.basis.now.literals_are c.in_ok-ways.ensures.ties)
    (subst (λ (T : ℕ → Forest). (f.number == 6) ≡ true → IsAnswer (Unfolds T (graph ws) (root_of page)) e) (ap template_at c.args.basis.now.templates_are
    ∙ template_is s)
    (subst (λ (ns : List (List Way)). (f.number == 6) ≡ true → IsAnswer (Unfolds (template_at c.args.basis.now.templates.now) (graph ns) (root_of page)) e)
    c.as_slice.ensures.value
    (subst (λ (r : ℕ). (f.number == 6) ≡ true → IsAnswer (Unfolds (template_at c.args.basis.now.templates.now) (graph c.as_slice.result.now) r) e)
    c.first_of-root.ensures h)))
    (subst (λ (T : ℕ → Forest). (f.number == 6) ≡ false → (p : Place) (r : Rule) → IsAt T sch.elements f p r
    → IsAnswer (FindsOne T (graph ws) p r (atoms_of f.number r) (root_of page)) e) (ap template_at c.args.basis.now.templates_are ∙ template_is s)
    (subst (λ (ns : List (List Way)). (f.number == 6) ≡ false → (p : Place) (r : Rule) → IsAt (template_at c.args.basis.now.templates.now) sch.elements f p r
    → IsAnswer (FindsOne (template_at c.args.basis.now.templates.now) (graph ns) p r (atoms_of f.number r) (root_of page)) e) c.as_slice.ensures.value
    (subst (λ (x : ℕ). (f.number == 6) ≡ false → (p : Place) (r : Rule) → IsAt (template_at c.args.basis.now.templates.now) sch.elements f p r
    → IsAnswer (FindsOne (template_at c.args.basis.now.templates.now) (graph c.as_slice.result.now) p r
    (atoms_of f.number r) x) e) c.first_of-root.ensures k))))
    c.explain_nodes-explained.ensures.root c.explain_nodes-explained.ensures.element
