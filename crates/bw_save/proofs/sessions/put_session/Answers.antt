use Rattle.std.proofs.Common.{◌++◌, ◌∙◌, ap}
use Rattle.std.specs.List.{flat_map}
use Rattle.bw_saved.specs.Fields.Spelling.{strings}
use Rattle.bw_save.specs.Saves.{front_bytes}
use Rattle.bw_save.proofs.Chains.{four}
use Rattle.bw_saved.specs.Documents.Layout.{document}
use Rattle.bw_saved.specs.Values.Layout.{variables}
use Rattle.bw_save.proofs.sessions.put_session.Goals as goal

pub returns : goal.returns
returns c =
    let r = c.args.one.now in
    four c.args.out.now.items c.put_front.new.out.items c.put_variables.new.out.items c.put_rests.new.out.items c.put_document.new.out.items
    (front_bytes c.args.flow.now.steps r) (variables r.frame.locals) (flat_map strings r.frame.rests) (document r.page)
    c.in_ok-put_front.ensures c.in_ok-put_variables.ensures
    (c.in_ok-put_rests.ensures ∙ ap (λ rs. c.put_variables.new.out.items ++ flat_map strings rs) c.as_slice.ensures)
    c.in_ok-put_document.ensures
