use Rattle.std.proofs.Common.{sym, ◌∙◌}
use Rattle.std.proofs.lemmas.Bool.{MatchBool-at_true, MatchBool-at_false}
use Rattle.bw_tmpl.proofs.AtOnce.{filled_more, filled_stops, filled_whether}
use Rattle.bw_tmpl.proofs.Shrinking.{piece_less}
use Rattle.bw_tmpl.proofs.building.Draft.fill.Goals as goal

pub pieces-smaller : goal.pieces-smaller
pieces-smaller c = piece_less c.pieces.rest.now (c.in-Ok.piece, c.in-Ok.after.now) c.in-Ok.ensures

pub pieces-preserved : goal.pieces-preserved
pieces-preserved c =
    sym (filled_more c.args.gaps.now c.args.most c.pieces.self c.take_suiting.new.self c.pieces.rest.now c.in-Ok.piece c.in-Ok.after.now c.in-Ok.ensures
    (MatchBool-at_true _ _ c.if-not-branch.false c.in_ok-take_suiting-in-Ok.ensures))
    ∙ c.pieces.invariant

pub returns-then-not-branch : goal.returns-then-not-branch
returns-then-not-branch c =
    sym c.pieces.invariant
    ∙ filled_stops c.args.gaps.now c.args.most c.pieces.self c.pieces.rest.now c.in-Ok.piece c.in-Ok.after.now c.in-Ok.ensures
    (MatchBool-at_false _ _ c.if-not-branch.true c.in_ok-take_suiting-in-Ok.ensures)

pub returns-in-Err-Malformed : goal.returns-in-Err-Malformed
returns-in-Err-Malformed c =
    filled_whether c.args.gaps.now c.args.most c.pieces.self c.args.self.now c.pieces.rest.now c.args.bytes.now c.is_empty.result c.pieces.invariant
    (rw c.in-Err-Malformed.field-0-is at c.in-Err-Malformed.ensures) c.is_empty.ensures
