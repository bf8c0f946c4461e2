use Rattle.std.proofs.Common.{◌∙◌, sym}
use Rattle.std.proofs.lemmas.Bool.{false≢true}
use Rattle.bw_http.proofs.Spellings.{counts_from_one, count_read, count_unread}
use Rattle.bw_http.proofs.paths.count_of.Goals as goal

pub returns-then-not-begins_count : goal.returns-then-not-begins_count
returns-then-not-begins_count c n count e =
    let first = counts_from_one n c.args.text.now count e in
    false≢true (sym c.if-not-begins_count.true ∙ c.begins_count.ensures.none first.0 first.1)

pub returns-in-Ok : goal.returns-in-Ok
returns-in-Ok c =
    let first = c.begins_count.ensures.yes c.if-not-begins_count.false in
    count_read c.args.text.now c.in-Ok.n first.0 c.in-Ok.ensures.value.0

pub returns-in-Err : goal.returns-in-Err
returns-in-Err c n count = count_unread c.args.text.now c.in-Err.field-0 n c.in-Err.ensures.value.0 count
