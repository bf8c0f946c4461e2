use Rattle.std.proofs.Common.{◌<◌, ◌≤◌, ◌+◌, length, List, ℕ, drop, ap, sym, ◌∙◌, arith}
use Rattle.bw_lang.specs.Table.Names.{name_number, with_name}
use Rattle.bw_lang.specs.Template.RepeatedAttributes.{attr_names}
use Rattle.bw_tmpl.proofs.Repeating.{repeated_after, repeated_is, repeated_here, first_here}
use Rattle.bw_tmpl.proofs.repeats.repeat_behind.Goals as goal

pub loop-attr-init : goal.loop-attr-init
loop-attr-init c = ap (λ (t : List (List ℕ)). repeated_after t (attr_names c.args.attrs.now)) c.requires ∙ repeated_is (attr_names c.args.attrs.now)

pub returns-then-branch-count : goal.returns-then-branch-count
returns-then-branch-count c =
    let h : name_number c.loop-attr.seen c.attr-item.result.name < length c.loop-attr.seen =
    omega (arith, c.in_ok-add.ensures.number, c.len-count.ensures, ap (λ n. name_number c.loop-attr.seen n) c.as_str.ensures.text) in
    sym (repeated_here c.loop-attr.seen c.args.attrs.now c.loop-attr.attr-index c.attr-item.result c.loop-attr-test.true c.attr-item.is h)
    ∙ c.loop-attr.invariant

pub loop-attr-preserved : goal.loop-attr-preserved
loop-attr-preserved c =
    let h : length c.loop-attr.seen ≤ name_number c.loop-attr.seen c.attr-item.result.name =
    omega (arith, c.in_ok-add.ensures.number, c.len-count.ensures, ap (λ n. name_number c.loop-attr.seen n) c.as_str.ensures.text) in
    ap (λ (t : List (List ℕ)). repeated_after t (attr_names (drop (c.loop-attr.attr-index + 1) c.args.attrs.now)))
    (c.in_ok-add.ensures.ok ∙ ap (λ n. with_name c.loop-attr.seen n) c.as_str.ensures.text)
    ∙ first_here c.loop-attr.seen c.args.attrs.now c.loop-attr.attr-index c.attr-item.result c.loop-attr-test.true c.attr-item.is h ∙ c.loop-attr.invariant
