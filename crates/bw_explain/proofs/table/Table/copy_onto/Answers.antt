use Rattle.std.proofs.Common.{◌≤◌, length, sym, ap, ◌∙◌, arith}
use Rattle.std.proofs.lemmas.List.{get_or_past}
use Rattle.bw_lang.specs.Document.Documents.{append}
use Rattle.bw_lang.specs.Document.Forest.{none}
use Rattle.bw_lang.proofs.Forests.{append-none}
use Rattle.bw_explain.specs.Tables.{doc_at}
use Rattle.bw_explain.proofs.table.Table.copy_onto.Goals as goal

pub returns-else-n-len : goal.returns-else-n-len
returns-else-n-len c =
    let h : length c.self.inside.docs.items ≤ c.args.n = let e = c.len.ensures in let k = c.if-n-len.false in omega (arith, e, k) in
    sym (ap (append c.args.out.now) (ap (λ t. doc_at t c.args.n) (sym c.self.view_is) ∙ get_or_past c.self.inside.docs.items c.args.n none h)
    ∙ append-none c.args.out.now)
