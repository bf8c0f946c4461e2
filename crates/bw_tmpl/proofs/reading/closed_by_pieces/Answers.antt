use Rattle.std.proofs.Common.{◌≡◌, ℕ, List, [], Some, ap, sym, ◌∙◌}
use Rattle.std.proofs.lemmas.Result.{err_from_is_err_and, MatchResult-weaker}
use Rattle.bw_lang.specs.Document.Forest.{Forest}
use Rattle.bw_tmpl.specs.declared.fault.TmplFault.{TmplFault}
use Rattle.bw_lang.specs.declared.pieces.Piece.{Piece}
use Rattle.bw_tmpl.specs.Building.{built, MismatchedIfNone}
use Rattle.bw_lang.specs.Template.Templates.{SpellsClosed}
use Rattle.bw_tmpl.proofs.GapLaws.{none_open}
use Rattle.bw_tmpl.proofs.Inverse.{built_reads}
use Rattle.bw_tmpl.proofs.SpelledPieces.{pieces_spelled}
use Rattle.bw_tmpl.proofs.Refusals.{unread, refused, read, built_but_memory, refused_for_memory, has_gap}
use Rattle.bw_tmpl.proofs.reading.closed_by_pieces.Goals as goal

pub returns-in_err-list-clause-items : goal.returns-in_err-list-clause-items
returns-in_err-list-clause-items c =
    let p = err_from_is_err_and c.from_residual.result c.from_residual.ensures.1 in
    rw (p.1, p.2) (unread SpellsClosed (λ (ps : List Piece) (bytes : List ℕ) (k : SpellsClosed ps bytes). k.spells)
    c.args.most c.args.bytes.now c.in_err-list.field-0.0 c.in_err-list.ensures)

pub returns-then-any_gap-clause-items : goal.returns-then-any_gap-clause-items
returns-then-any_gap-clause-items c =
    let s = pieces_spelled c.args.bytes.now c.as_slice-pieces.result.now (c.in_ok-list.ensures ∙ ap Some (sym c.as_slice-pieces.ensures.value)) in
    has_gap c.args.most c.args.bytes.now c.as_slice-pieces.result.now s c.if-any_gap.ensures

pub returns-in_err-check-clause-items : goal.returns-in_err-check-clause-items
returns-in_err-check-clause-items c =
    let s = pieces_spelled c.args.bytes.now c.as_slice-pieces.result.now (c.in_ok-list.ensures ∙ ap Some (sym c.as_slice-pieces.ensures.value)) in
    let p = err_from_is_err_and c.from_residual-in_err-check.result c.from_residual-in_err-check.ensures.1 in
    rw (p.1, p.2) (refused SpellsClosed c.args.most c.args.bytes.now c.as_slice-pieces.result.now c.in_err-check.field-0.0
    (record { spells = s; closed = c.if-any_gap.ensures }) c.in_err-check.ensures)

pub returns-clause-items : goal.returns-clause-items
returns-clause-items c =
    let ps = c.as_slice-pieces.result.now in
    let s = pieces_spelled c.args.bytes.now ps (c.in_ok-list.ensures ∙ ap Some (sym c.as_slice-pieces.ensures.value)) in
    MatchResult-weaker c.items_of.result c.items_of.ensures
    (λ (f : Forest) (b : built c.new.result ps ≡ Some f). read SpellsClosed [] c.args.most c.args.bytes.now ps f
    (record { spells = s; closed = c.if-any_gap.ensures }) c.in_ok-check.ensures (ap (λ (t : List (List ℕ)). built t ps) (sym c.new.ensures) ∙ b))
    (λ (e : TmplFault) (b : MismatchedIfNone e (built c.new.result ps)). refused_for_memory SpellsClosed c.args.most c.args.bytes.now e
    (built_but_memory c.new.result c.args.most ps e c.in_ok-check.ensures b))

pub returns-clause-closed : goal.returns-clause-closed
returns-clause-closed c =
    let ps = c.as_slice-pieces.result.now in
    MatchResult-weaker c.items_of.result c.items_of.ensures
    (λ (f : Forest) (b : built c.new.result ps ≡ Some f). none_open c.new.result ps f c.if-any_gap.ensures (built_reads c.new.result ps f b))
    (λ (e : TmplFault) (b : MismatchedIfNone e (built c.new.result ps)). tt)
