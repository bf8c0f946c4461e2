use Rattle.std.proofs.Common.{refl, ap, Ok, Err}
use Rattle.bw_bringing.proofs.Messages.{not_whole, told_from}
use Rattle.bw_recall.proofs.OneRequest.{without}
use Rattle.bw_recall.proofs.handling.read_whole.Goals as goal

pub returns-else-is_all : goal.returns-else-is_all
returns-else-is_all c =
    let now = c.read_request.new.intake in
    let tells = told_from c.new-source.result.left c.args.message.now c.clear.new.self now _ (Ok c.in-Ok.request) (ap (λ s. s.left) c.new-source.ensures)
    c.clear.ensures c.in-Ok.ensures.stream in
    not_whole c.args.message.now now c.read_request.new.source.left _ c.in-Ok.request
    (λ e. let t = c.is_all.ensures.1 e in let f = c.if-is_all.false in cc) refl tells

pub returns-in-Err : goal.returns-in-Err
returns-in-Err c =
    let now = c.read_request.new.intake in
    let o = c.in-Err.outcome in
    let tells = told_from c.new-source.result.left c.args.message.now c.clear.new.self now _ (Err o) (ap (λ s. s.left) c.new-source.ensures)
    c.clear.ensures c.in-Err.ensures.stream in
    without c.args.message.now now _ o c.without_request.result tells c.without_request.ensures.none c.without_request.ensures.not_done
