use Rattle.std.proofs.Common.{◌≡◌, ◌≢◌, ℕ, List, Some, ap, sym, ◌∙◌}
use Rattle.std.proofs.lemmas.Result.{err_from_is_err_and, MatchResult-weaker}
use Rattle.bw_lang.specs.Document.Forest.{Forest}
use Rattle.bw_lang.specs.Table.Names.{with_names}
use Rattle.bw_tmpl.specs.declared.fault.TmplFault.{TmplFault}
use Rattle.bw_tmpl.specs.declared.fault.TmplFault.TheVariants as fault
use Rattle.bw_lang.specs.declared.pieces.Piece.{Piece}
use Rattle.bw_lang.specs.declared.limits.TheConstants.{MAX_TEMPLATE_NEST}
use Rattle.bw_tmpl.specs.Building.{built, MismatchedIfNone}
use Rattle.bw_lang.specs.Template.PieceGaps.{gap_names}
use Rattle.bw_lang.specs.Template.Pieces.{SpellsPieces}
use Rattle.bw_tmpl.proofs.GapLaws.{none_unknown}
use Rattle.bw_tmpl.proofs.Inverse.{built_reads}
use Rattle.bw_tmpl.proofs.SpelledPieces.{pieces_spelled}
use Rattle.bw_tmpl.proofs.Spelled.{spelled_once}
use Rattle.bw_tmpl.proofs.Refusals.{unread, refused, read, built_but_memory, refused_for_memory}
use Rattle.bw_tmpl.proofs.reading.read_template.Goals as goal

pub returns-in_err-list-clause-items : goal.returns-in_err-list-clause-items
returns-in_err-list-clause-items c =
    let p = err_from_is_err_and c.from_residual.result c.from_residual.ensures.1 in
    rw (p.1, p.2) (unread SpellsPieces (λ (ps : List Piece) (bytes : List ℕ) (k : SpellsPieces ps bytes). k)
    MAX_TEMPLATE_NEST c.args.bytes.now c.in_err-list.field-0.0 c.in_err-list.ensures)

pub returns-in_err-check-clause-items : goal.returns-in_err-check-clause-items
returns-in_err-check-clause-items c =
    let s = pieces_spelled c.args.bytes.now c.as_slice-pieces.result.now (c.in_ok-list.ensures ∙ ap Some (sym c.as_slice-pieces.ensures.value)) in
    let p = err_from_is_err_and c.from_residual-in_err-check.result c.from_residual-in_err-check.ensures.1 in
    rw (p.1, p.2) (refused SpellsPieces MAX_TEMPLATE_NEST c.args.bytes.now c.as_slice-pieces.result.now c.in_err-check.field-0.0 s c.in_err-check.ensures)

pub returns-clause-items : goal.returns-clause-items
returns-clause-items c =
    let ps = c.as_slice-pieces.result.now in
    let s = pieces_spelled c.args.bytes.now ps (c.in_ok-list.ensures ∙ ap Some (sym c.as_slice-pieces.ensures.value)) in
    MatchResult-weaker c.items_of.result c.items_of.ensures
    (λ (f : Forest) (b : built c.add_all.new.gaps ps ≡ Some f). read SpellsPieces c.add_all.new.gaps MAX_TEMPLATE_NEST c.args.bytes.now ps f s
    c.in_ok-check.ensures b)
    (λ (e : TmplFault) (b : MismatchedIfNone e (built c.add_all.new.gaps ps)). refused_for_memory SpellsPieces MAX_TEMPLATE_NEST c.args.bytes.now e
    (built_but_memory c.add_all.new.gaps MAX_TEMPLATE_NEST ps e c.in_ok-check.ensures b))

pub returns-clause-names : goal.returns-clause-names
returns-clause-names c =
    let ps = c.as_slice-pieces.result.now in
    let s = pieces_spelled c.args.bytes.now ps (c.in_ok-list.ensures ∙ ap Some (sym c.as_slice-pieces.ensures.value)) in
    MatchResult-weaker c.items_of.result c.items_of.ensures
    (λ (f : Forest) (b : built c.add_all.new.gaps ps ≡ Some f) (qs : List Piece) (k : SpellsPieces qs c.args.bytes.now). c.in_ok-add_all.ensures.ok
    ∙ ap (λ (l : List Piece). with_names c.args.gaps.now (gap_names l)) (spelled_once ps qs c.args.bytes.now s k))
    (λ (e : TmplFault) (b : MismatchedIfNone e (built c.add_all.new.gaps ps)). tt)

pub returns-clause-numbered : goal.returns-clause-numbered
returns-clause-numbered c =
    let ps = c.as_slice-pieces.result.now in
    MatchResult-weaker c.items_of.result c.items_of.ensures
    (λ (f : Forest) (b : built c.add_all.new.gaps ps ≡ Some f). none_unknown c.args.gaps.now c.add_all.new.gaps ps f c.in_ok-add_all.ensures.ok
    (built_reads c.add_all.new.gaps ps f b))
    (λ (e : TmplFault) (b : MismatchedIfNone e (built c.add_all.new.gaps ps)). tt)

pub returns-clause-unchanged : goal.returns-clause-unchanged
returns-clause-unchanged c =
    let ps = c.as_slice-pieces.result.now in
    MatchResult-weaker c.items_of.result c.items_of.ensures
    (λ (f : Forest) (b : built c.add_all.new.gaps ps ≡ Some f). tt)
    (λ (e : TmplFault) (b : MismatchedIfNone e (built c.add_all.new.gaps ps)) (n : e ≢ fault.Memory). absurd
    (n (built_but_memory c.add_all.new.gaps MAX_TEMPLATE_NEST ps e c.in_ok-check.ensures b)))
