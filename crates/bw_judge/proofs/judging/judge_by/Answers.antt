use Rattle.std.proofs.Common.{ℕ, ◌^◌, ◌<◌, List, length, ap, sym, ◌∙◌, subst}
use Rattle.std.specs.List.{All}
use Rattle.bw_faults.specs.Lists.{Lists}
use Rattle.bw_lang.specs.Document.Documents.{elements}
use Rattle.bw_lang.specs.Document.Forest.{Forest}
use Rattle.bw_shape.specs.Nodes.Templates.{template_at}
use Rattle.bw_sum.specs.Templates.{all_items}
use Rattle.bw_strings.specs.Literals.{literals_of}
use Rattle.bw_typed.proofs.Services.{templates_are_measured}
use Rattle.bw_shape.specs.Outlines.{root_of}
use Rattle.bw_shape.proofs.Shapes.{has_root, root_is_low}
use Rattle.bw_judge.specs.Pages.{OfAll}
use Rattle.bw_judge.proofs.Whole.{exact_page, sound_page, items_are_small}
use Rattle.bw_shape.proofs.Outcomes.{if_ok}
use Rattle.bw_judge.proofs.judging.judge_by.Goals as goal

pub root_of-requires : goal.root_of-requires
root_of-requires c = has_root c.args.basis.now.typed.now.service c.args.page.now c.requires.page

pub judge_all-requires-clause-root : goal.judge_all-requires-clause-root
judge_all-requires-clause-root c =
    let s = c.args.basis.now.typed.now.service in
    subst (λ (ts : List Forest). c.root_of.result < length ts) (sym c.args.basis.now.templates_are)
    (subst (λ k. k < length (all_items s)) (sym c.root_of.ensures) (root_is_low s c.args.page.now c.requires.page))

pub judge_all-requires-clause-order : goal.judge_all-requires-clause-order
judge_all-requires-clause-order c =
    subst (λ (ts : List Forest). All (λ n. n < length ts) c.args.outline.now.tables.order.items) (sym c.args.basis.now.templates_are)
    c.requires.shape.kept.small

pub judge_all-requires-clause-nodes : goal.judge_all-requires-clause-nodes
judge_all-requires-clause-nodes c = c.requires.shape.kept.rows ∙ ap length (sym c.args.basis.now.templates_are)

pub judge_all-requires-clause-said : goal.judge_all-requires-clause-said
judge_all-requires-clause-said c = c.requires.shape.kept.sayings ∙ ap length (sym c.args.basis.now.templates_are)

pub judge_all-requires-clause-small : goal.judge_all-requires-clause-small
judge_all-requires-clause-small c =
    let t = c.args.basis.now.typed.now in
    subst (λ (ts : List Forest). (n : ℕ) → elements (template_at ts n) < 2 ^ 32) (sym c.args.basis.now.templates_are)
    (items_are_small t.service (templates_are_measured t.service t.readable))

pub returns-clause-exact : goal.returns-clause-exact
returns-clause-exact c =
    let a = c.args in
    let b = a.basis.now in
    let s = b.typed.now.service in
    let o = a.outline.now in
    if_ok c.judge_all.result (λ l h. exact_page s a.page.now b.schema.now o a.point c.requires.page c.requires.shape l
    (subst (λ ts. Lists (OfAll ts (literals_of s) o b.schema.now (root_of a.page.now) a.point) l) b.templates_are
    (subst (λ ls. Lists (OfAll b.templates.now ls o b.schema.now (root_of a.page.now) a.point) l) b.literals_are
    (subst (λ r. Lists (OfAll b.templates.now b.literals.now o b.schema.now r a.point) l) c.root_of.ensures h)))) c.judge_all.ensures

pub returns-clause-sound : goal.returns-clause-sound
returns-clause-sound c =
    let a = c.args in
    let b = a.basis.now in
    let s = b.typed.now.service in
    let o = a.outline.now in
    if_ok c.judge_all.result (λ l h. sound_page s a.page.now b.schema.now o a.point c.requires.page c.requires.shape l
    (subst (λ ts. Lists (OfAll ts (literals_of s) o b.schema.now (root_of a.page.now) a.point) l) b.templates_are
    (subst (λ ls. Lists (OfAll b.templates.now ls o b.schema.now (root_of a.page.now) a.point) l) b.literals_are
    (subst (λ r. Lists (OfAll b.templates.now b.literals.now o b.schema.now r a.point) l) c.root_of.ensures h)))) c.judge_all.ensures
