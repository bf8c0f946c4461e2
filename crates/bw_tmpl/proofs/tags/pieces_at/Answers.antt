use Rattle.std.proofs.Common.{ap, ◌∙◌, List}
use Rattle.bw_lang.specs.declared.pieces.Piece.{Piece}
use Rattle.bw_tmpl.specs.Steps.Reading.{each, piece_at}
use Rattle.bw_tmpl.proofs.Many.{onto, onto_more, onto_none}
use Rattle.bw_tmpl.proofs.Shrinking.{piece_less, piece_shrinks}
use Rattle.bw_tmpl.proofs.tags.pieces_at.Goals as goal

pub pieces-smaller : goal.pieces-smaller
pieces-smaller c = piece_less c.pieces.rest.now (c.in-Ok.piece, c.in-Ok.after.now) c.in-Ok.ensures

pub pieces-preserved : goal.pieces-preserved
pieces-preserved c =
    ap (λ (t : List Piece). onto t (each piece_at c.in-Ok.after.now)) c.in_ok-push-in-Ok.ensures.items
    ∙ onto_more piece_at piece_shrinks c.pieces.pieces.items c.pieces.rest.now c.in-Ok.piece c.in-Ok.after.now (each piece_at c.args.bytes.now)
    c.in-Ok.ensures c.pieces.invariant

pub returns-in-Err-Malformed : goal.returns-in-Err-Malformed
returns-in-Err-Malformed c =
    onto_none piece_at piece_shrinks c.pieces.pieces.items c.pieces.rest.now (each piece_at c.args.bytes.now)
    (rw c.in-Err-Malformed.field-0-is at c.in-Err-Malformed.ensures) c.pieces.invariant
