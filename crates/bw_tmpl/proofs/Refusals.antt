-- The answers of reading in the words of templates.
use Rattle.std.proofs.Common.{◌≡◌, ℕ, List, [], Option, Some, None, refl, sym, ap, subst, ◌∙◌, arith}
use Rattle.bw_lang.specs.Document.Forest.{Forest}
use Rattle.bw_lang.specs.declared.pieces.Piece.{Piece}
use Rattle.bw_tmpl.specs.declared.fault.TmplFault.{TmplFault}
use Rattle.bw_tmpl.specs.declared.fault.TmplFault.TheVariants as fault
use Rattle.bw_lang.specs.Document.Measures.{nest}
use Rattle.bw_lang.specs.Template.PieceItems.{ReadsAs}
use Rattle.bw_tmpl.specs.Steps.Reading.{pieces_of, MalformedIfNone}
use Rattle.bw_tmpl.specs.Building.{built, MismatchedIfNone}
use Rattle.bw_tmpl.specs.Nesting.{depth}
use Rattle.bw_lang.specs.Template.Pieces.{SpellsPieces}
use Rattle.bw_lang.specs.Template.PieceGaps.{gap_names}
use Rattle.bw_tmpl.specs.Steps.Checks.{Passes, Fails}
use Rattle.bw_lang.specs.Template.Templates.{ReadsBy, SpellsClosed}
use Rattle.bw_tmpl.specs.Refusals.{RefusedBy}
use Rattle.bw_lang.proofs.Options.{some_is}
use Rattle.bw_tmpl.proofs.Inverse.{built_reads, reads_built}
use Rattle.bw_tmpl.proofs.Depths.{reads_depth, depth_reads}
use Rattle.bw_tmpl.proofs.Spelled.{spelled_pieces, spelled_once}

apart : {A : Type 0} (x : A) (o : Option A) → o ≡ None → o ≡ Some x → ⊥
apart x o p q = cc

pub unread : (S : List Piece → List ℕ → Type 0) → ((ps : List Piece) (bytes : List ℕ) → S ps bytes → SpellsPieces ps bytes)
    → (most : ℕ) (bytes : List ℕ) (e : TmplFault) → MalformedIfNone e (pieces_of bytes) → RefusedBy S most bytes e
unread S s most bytes fault.Malformed h = λ (ps : List Piece) (k : S ps bytes). apart ps (pieces_of bytes) h (spelled_pieces ps bytes (s ps bytes k))
unread S s most bytes fault.RepeatedAttribute h = absurd h
unread S s most bytes fault.Mismatched h = absurd h
unread S s most bytes fault.Nesting h = absurd h
unread S s most bytes fault.Memory h = tt

-- a list of pieces that can't be built
pub refused : (S : List Piece → List ℕ → Type 0) (most : ℕ) (bytes : List ℕ) (ps : List Piece) (e : TmplFault) → S ps bytes → Fails most ps e
    → RefusedBy S most bytes e
refused S most bytes ps fault.Malformed p h = absurd h
refused S most bytes ps fault.RepeatedAttribute p h = record { pieces = ps; spelled = p; twice = h }
refused S most bytes ps fault.Mismatched p h = record {
  pieces = ps;
  spelled = p;
  once = h.0;
  no_items = λ (names : List (List ℕ)) (f : Forest) (r : ReadsAs names ps f). apart (nest f) (depth ps) h.1 (reads_depth names ps f r);
}
refused S most bytes ps fault.Nesting p h =
    let k = depth_reads [] ps h.1.0 h.1.1 in
    record { pieces = ps; spelled = p; once = h.0; names = []; items = k.0; reads = k.1; deeper = omega (arith, k.2, h.1.2) }
refused S most bytes ps fault.Memory p h = tt

-- a list of pieces that was built
pub read : (S : List Piece → List ℕ → Type 0) (names : List (List ℕ)) (most : ℕ) (bytes : List ℕ) (ps : List Piece) (f : Forest) → S ps bytes
    → Passes most ps → built names ps ≡ Some f → ReadsBy S names most bytes f
read S names most bytes ps f p h b =
    let k = built_reads names ps f b in
    let e : h.1.0 ≡ nest f = some_is h.1.0 (nest f) (sym h.1.1 ∙ reads_depth names ps f k) in
    record { pieces = ps; spelled = p; once = h.0; reads = k; nested = omega (arith, h.1.2) }

-- what passes is refused for want of memory alone
pub built_but_memory : (names : List (List ℕ)) (most : ℕ) (ps : List Piece) (e : TmplFault) → Passes most ps → MismatchedIfNone e (built names ps)
    → e ≡ fault.Memory
built_but_memory names most ps fault.Malformed h r = absurd r
built_but_memory names most ps fault.RepeatedAttribute h r = absurd r
built_but_memory names most ps fault.Mismatched h r =
    let k = depth_reads names ps h.1.0 h.1.1 in absurd (apart k.0 (built names ps) r (reads_built names ps k.0 k.1))
built_but_memory names most ps fault.Nesting h r = absurd r
built_but_memory names most ps fault.Memory h r = refl

pub refused_for_memory : (S : List Piece → List ℕ → Type 0) (most : ℕ) (bytes : List ℕ) (e : TmplFault) → e ≡ fault.Memory → RefusedBy S most bytes e
refused_for_memory S most bytes e h = subst (RefusedBy S most bytes) (sym h) tt

-- pieces with a gap are no template without gaps
pub has_gap : (most : ℕ) (bytes : List ℕ) (ps : List Piece) → SpellsPieces ps bytes → (gap_names ps ≡ [] → ⊥)
    → RefusedBy SpellsClosed most bytes fault.Malformed
has_gap most bytes ps p g qs k = g (ap gap_names (spelled_once ps qs bytes p k.spells) ∙ k.closed)
