use Rattle.std.proofs.Common.{◌≡◌, ◌∙◌, ◌++◌, OnOk, ap, subst}
use Rattle.bw_diagnose.specs.Blocks as spec
use Rattle.bw_diagnose.specs.Marks as marked
use Rattle.bw_hints.specs.Hints as hints
use Rattle.bw_diagnose.proofs.SameBlocks.{same_block}
use Rattle.bw_diagnose.proofs.blocks.push_fault_block.Goals as goal

pub returns : goal.returns
returns c =
    let name = c.args.name.now in
    let text = c.args.told.now.text.now in
    let marks = c.args.marks.now in
    let f = c.args.fault.now in
    let element = marked.marked_element text marks.insides.items f f.template in
    let words = hints.fault_what f.number f.detail (spec.tag_name text f.place element) in
    let same : c.fault_element-element.result ≡ element = c.fault_element-element.ensures
    ∙ ap (λ l. marked.marked_element text l f f.template) c.deref.ensures.value in
    let said : c.deref-3.result.now ≡ words = c.deref-3.ensures.value ∙ c.in_ok-what.ensures
    ∙ ap (λ e. hints.fault_what f.number f.detail (spec.tag_name text f.place e)) same in
    subst (λ b. OnOk c.push_block.result (c.push_block.new.out.items ≡ c.args.out.now.items ++ b))
    (same_block name text c.fault_place.result (marked.marked_place text marks.statements.items f) c.fault_element-element.result element
    c.deref-3.result.now words c.fault_mend.result.now (hints.fault_mend f.number)
    (c.fault_place.ensures ∙ ap (λ l. marked.marked_place text l f) c.deref-2.ensures.value) same said c.fault_mend.ensures)
    c.push_block.ensures
