use Rattle.std.proofs.lemmas.Result.{on_ok_weaker}
use Rattle.bw_flow.proofs.Drafts.{comes_next, comes_last, room_for, rises, head_length, block_length}
use Rattle.bw_flow.proofs.DraftStatements.{declared_one, assigned_one, shown_one, exited_one, if_one, if_other_one, while_one, each_one}
use Rattle.bw_flow.proofs.DraftStatements.{block_one}
use Rattle.std.proofs.Common.{◌+◌, ◌≤◌, ◌∙◌, Option, length, ap, arith, rules}
use Rattle.bw_lang.specs.declared.stmt.Block.TheDeep.{deep-Stmt}
use Rattle.bw_lang.specs.declared.stmt.Stmt.{Stmt}
use Rattle.bw_lang.specs.declared.stmt.Stmt.TheVariants.{If}
use Rattle.bw_lang.specs.Service.Code.{Code, done, code_size}
use Rattle.bw_lang.specs.Service.CodeView.{before}
use Rattle.bw_flow.specs.declared.lowering.TheConstants.{MAX_POINTS}
use Rattle.bw_flow.specs.Layout.{count}
use Rattle.bw_flow.specs.Drawing.{Drawn}
use Rattle.bw_flow.proofs.Codes.{stmt_size_at_read}
use Rattle.bw_flow.proofs.draft.Draft.+block.Goals as goal

pub block-loop-stmt-preserved : goal.block-loop-stmt-preserved
block-loop-stmt-preserved size c =
    comes_next c.args.typed.now.service c.args.self.now c.loop-stmt.self c.statement.new.self c.as_slice-stmt-items.result.now c.loop-stmt.stmt-index
    c.args.inside c.args.next (c.len.result + c.block_points.result)
    (c.len-in-loop-stmt.result + c.stmt_points.result) c.saturating_sub-later.result c.begins.result c.stmt-item.result c.stmt-item.is c.loop-stmt-test.true c.loop-stmt.invariant
    (λ i. c.len-in-loop-stmt.ensures i + c.stmt_points.ensures i) c.saturating_sub-later.ensures c.begins.ensures
    c.in_ok-statement.ensures

pub block-returns : goal.block-returns
block-returns size c =
    comes_last c.args.typed.now.service c.args.self.now c.loop-stmt.self c.leave.new.self c.as_slice-stmt-items.result.now c.args.block.now
    c.loop-stmt.stmt-index c.args.inside c.args.next
    (c.len.result + c.block_points.result) c.depth-depth.result c.loop-stmt-test.false c.loop-stmt.invariant c.as_slice-stmt-items.ensures c.depth-depth.ensures c.leave.ensures

pub statement-returns-in-Declare : goal.statement-returns-in-Declare
statement-returns-in-Declare size c =
    on_ok_weaker c.declaration.result (declared_one c.args.typed.now.service c.args.self.now c.declaration.new.self c.in-Declare.kind c.in-Declare.name
    c.in-Declare.value c.args.inside c.args.next c.args.stmt.now c.in-Declare.is) c.declaration.ensures

pub statement-returns-in-Assign : goal.statement-returns-in-Assign
statement-returns-in-Assign size c =
    on_ok_weaker c.assign.result (assigned_one c.args.typed.now.service c.args.self.now c.assign.new.self c.in-Assign.name c.in-Assign.value c.args.inside
    c.args.next c.args.stmt.now c.in-Assign.is) c.assign.ensures

pub statement-returns-in_ok-head-in-While : goal.statement-returns-in_ok-head-in-While
statement-returns-in_ok-head-in-While size c =
    let h = c.in_ok-head-in-While in
    on_ok_weaker c.block-in-While.result
    (while_one c.args.typed.now.service c.args.self.now c.while_head.new.self c.block-in-While.new.self c.in-While.test c.in-While.body c.args.inside
    c.args.next h.head c.args.stmt.now c.in-While.is h.ensures.head h.ensures.point)
    c.block-in-While.ensures

pub statement-returns-in_ok-block-in-Each : goal.statement-returns-in_ok-block-in-Each
statement-returns-in_ok-block-in-Each size c =
    let e = c.in-Each in let r = c.in_ok-foreach-in-Each in
    each_one c.args.typed.now.service c.args.self.now c.foreach_head.new.self c.block-in-Each.new.self c.leave.new.self e.name e.value e.body c.args.inside
    r.foreach.inside c.args.next r.foreach.head c.depth-outside.result c.args.stmt.now
    e.is r.ensures.head r.ensures.inside r.ensures.point c.depth-outside.ensures c.in_ok-block-in-Each.ensures c.leave.ensures

pub statement-returns-in-Block : goal.statement-returns-in-Block
statement-returns-in-Block size c =
    on_ok_weaker c.block-in-Block.result (block_one c.args.typed.now.service c.args.self.now c.block-in-Block.new.self c.in-Block.block c.args.inside
    c.args.next c.args.stmt.now c.in-Block.is) c.block-in-Block.ensures

pub statement-returns-in-Show : goal.statement-returns-in-Show
statement-returns-in-Show size c =
    on_ok_weaker c.show.result (shown_one c.args.typed.now.service c.args.self.now c.show.new.self c.in-Show.page c.in-Show.receives c.args.inside c.args.next
    c.args.stmt.now c.in-Show.is) c.show.ensures

pub statement-returns-in-Exit : goal.statement-returns-in-Exit
statement-returns-in-Exit size c =
    on_ok_weaker c.exit.result (exited_one c.args.typed.now.service c.args.self.now c.exit.new.self c.in-Exit.page c.args.inside c.args.next c.args.stmt.now
    c.in-Exit.is) c.exit.ensures

pub statement-returns-in_ok-block-in-None : goal.statement-returns-in_ok-block-in-None
statement-returns-in_ok-block-in-None size c =
    let i = c.in-If in let f = c.in_ok-fork-in-None in
    on_ok_weaker c.join.result
    (if_one c.args.typed.now.service c.args.self.now c.if_head.new.self c.block.new.self c.join.new.self i.test i.yes i.no f.fork.number c.args.inside
    c.args.next f.fork.join c.args.stmt.now
    i.is c.in-None.is f.ensures.number f.ensures.join f.ensures.point c.in_ok-block-in-None.ensures)
    c.join.ensures

pub statement-returns-in_ok-block-in-Some-2 : goal.statement-returns-in_ok-block-in-Some-2
statement-returns-in_ok-block-in-Some-2 size c =
    let i = c.in-If in let f = c.in_ok-fork-in-Some in
    on_ok_weaker c.join-in-Some.result
    (if_other_one c.args.typed.now.service c.args.self.now c.if_else_head.new.self c.block-in-Some.new.self c.block-in-Some-2.new.self c.join-in-Some.new.self
    i.test i.yes c.in-Some.no i.no f.fork.number c.args.inside c.args.next f.fork.join c.args.stmt.now
    i.is c.in-Some.is f.ensures.number f.ensures.join f.ensures.point c.in_ok-block-in-Some.ensures c.in_ok-block-in-Some-2.ensures)
    c.join-in-Some.ensures

pub block-statement-requires : goal.block-statement-requires
block-statement-requires size c =
    let xs = c.as_slice-stmt-items.result.now in
    let i = c.loop-stmt.stmt-index in
    let is = c.as_slice-stmt-items.ensures in
    let end = c.len.result + c.block_points.result in
    let s = stmt_size_at_read xs i c.stmt-item.result c.loop-stmt-test.true in
    let within : end ≤ MAX_POINTS = omega (arith, c.requires.room, c.len.ensures, c.block_points.ensures) in
    let rise =
    rises c.args.typed.now.service c.args.self.now c.loop-stmt.self xs i c.args.inside c.args.next end c.loop-stmt.invariant
    (omega (arith, c.len.ensures, c.block_points.ensures, ap count is)) in (
      omega (arith, s.1, ap deep-Stmt c.stmt-item.is, ap code_size is),
      (
        room_for c.args.typed.now.service c.args.self.now c.loop-stmt.self xs i c.args.inside c.args.next end MAX_POINTS c.stmt-item.result
            c.stmt-item.is c.loop-stmt-test.true c.loop-stmt.invariant within,
        omega (arith, c.requires.inside, rise),
      ),
    )

pub statement-block-requires-in-Some-2 : goal.statement-block-requires-in-Some-2
statement-block-requires-in-Some-2 size c =
    let i = c.in-If in
    let f = c.in_ok-fork-in-Some.ensures in
    let long = λ (d : Drawn). length d.steps in
    let head = ap long f.point ∙ head_length c.args.self.now c.args.inside _ _ in
    let first = ap long c.in_ok-block-in-Some.ensures ∙ block_length c.args.typed.now.service c.if_else_head.new.self i.yes c.args.inside _ in
    let whole =
    ap (λ (s : Stmt). count (before s done)) i.is ∙ ap (λ (o : Option Code). count (before (If i.test i.yes o) done)) c.in-Some.is in
    (search rules, (omega (arith, c.requires.room, head, first, whole), omega (arith, c.requires.inside, head, first)))
