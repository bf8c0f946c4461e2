use Rattle.std.proofs.Common.{sym, ◌∙◌, flat_map}
use Rattle.bw_lang.specs.Template.Controls.{field_of}
use Rattle.bw_types.specs.TemplateFaults.{field_fault}
use Rattle.bw_types.proofs.First.{exits}
use Rattle.bw_types.proofs.Walks.{element-passes}
use Rattle.bw_types.proofs.names.Names.element.Goals as goal

pub returns-in_err-control-clause-first : goal.returns-in_err-control-clause-first
returns-in_err-control-clause-first c =
    let s = c.args.self.now.service.now in let e = c.args.element.now in
    exits c.from_residual-in_err-control.result c.in_err-control.field-0.0 (flat_map (field_fault s) (field_of e.tag e.attrs)) _ _
    c.from_residual-in_err-control.ensures.1 c.in_err-control.ensures.first
    (element-passes s c.args.template.now e.tag e.attrs (sym c.is_reserved.ensures ∙ c.if-is_reserved.false)
    (sym c.is_file_input.ensures ∙ c.if-is_file_input.false) (sym c.is_bad_control.ensures ∙ c.if-is_bad_control.false))
