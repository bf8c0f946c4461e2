-- Bytes are a template, or there is a reason why not.
use Rattle.std.proofs.Common.{◌≡◌, ◌≢◌, ℕ, Bool, true, false, ◌⊎◌, inl, inr, List, [], ◌∷◌, Option, Some, None, refl, arith}
use Rattle.std.proofs.lemmas.Bool.{cases_lt}
use Rattle.bw_lang.specs.Document.Forest.{Forest}
use Rattle.bw_lang.specs.declared.pieces.Piece.{Piece}
use Rattle.bw_lang.specs.Template.PieceGaps.{gap_names}
use Rattle.bw_lang.specs.Template.Pieces.{SpellsPieces}
use Rattle.bw_lang.specs.Template.RepeatedAttributes.{repeats}
use Rattle.bw_lang.specs.Template.Templates.{ReadsBy, SpellsClosed}
use Rattle.bw_tmpl.specs.declared.fault.TmplFault.{TmplFault}
use Rattle.bw_tmpl.specs.declared.fault.TmplFault.TheVariants as fault
use Rattle.bw_tmpl.specs.Laws.{ReadOrRefused, ClosedReadOrRefused}
use Rattle.bw_tmpl.specs.Nesting.{depth}
use Rattle.bw_tmpl.specs.Steps.Reading.{pieces_of}
use Rattle.bw_tmpl.specs.Refusals.{RefusedBy}
use Rattle.bw_tmpl.proofs.Depths.{depth_reads}
use Rattle.bw_tmpl.proofs.Refusals.{unread, refused, has_gap}
use Rattle.bw_tmpl.proofs.SpelledPieces.{pieces_spelled}

abbrev Answer : (List Piece → List ℕ → Type 0) → List (List ℕ) → ℕ → List ℕ → Type 0
Answer S names most bytes = ((f : Forest) × ReadsBy S names most bytes f) ⊎ ((e : TmplFault) × (e ≢ fault.Memory) × RefusedBy S most bytes e)

-- ---- of bytes that are some pieces

by_depth : (S : List Piece → List ℕ → Type 0) (names : List (List ℕ)) (most : ℕ) (bytes : List ℕ) (ps : List Piece) → S ps bytes → repeats ps ≡ false →
    (o : Option ℕ) → depth ps ≡ o → Answer S names most bytes
by_depth S names most bytes ps s once None d = inr (fault.Mismatched, (λ e. cc), refused S most bytes ps fault.Mismatched s (once, d))
by_depth S names most bytes ps s once (Some n) d = elim (cases_lt most n) [
  | inl over ↦ inr (fault.Nesting, (λ e. cc), refused S most bytes ps fault.Nesting s (once, (n, d, over)))
  | inr within ↦
      let k = depth_reads names ps n d in
      inl (k.0, record { pieces = ps; spelled = s; once = once; reads = k.1; nested = omega (arith, within, k.2) })
]

by_repeats : (S : List Piece → List ℕ → Type 0) (names : List (List ℕ)) (most : ℕ) (bytes : List ℕ) (ps : List Piece) → S ps bytes →
    (b : Bool) → repeats ps ≡ b → Answer S names most bytes
by_repeats S names most bytes ps s true twice =
    inr (fault.RepeatedAttribute, (λ e. cc), refused S most bytes ps fault.RepeatedAttribute s twice)
by_repeats S names most bytes ps s false once = by_depth S names most bytes ps s once (depth ps) refl

-- ---- of any bytes

by_pieces : (names : List (List ℕ)) (most : ℕ) (bytes : List ℕ) (o : Option (List Piece)) → pieces_of bytes ≡ o → Answer SpellsPieces names most bytes
by_pieces names most bytes None h = inr (fault.Malformed, (λ e. cc), unread SpellsPieces (λ ps b k. k) most bytes fault.Malformed h)
by_pieces names most bytes (Some ps) h = by_repeats SpellsPieces names most bytes ps (pieces_spelled bytes ps h) (repeats ps) refl

pub read_or_refused : ReadOrRefused
read_or_refused names most bytes = by_pieces names most bytes (pieces_of bytes) refl

by_gaps : (most : ℕ) (bytes : List ℕ) (ps : List Piece) → SpellsPieces ps bytes → (names : List (List ℕ)) → gap_names ps ≡ names →
    Answer SpellsClosed [] most bytes
by_gaps most bytes ps s [] h = by_repeats SpellsClosed [] most bytes ps (record { spells = s; closed = h }) (repeats ps) refl
by_gaps most bytes ps s (n ∷ names) h = inr (fault.Malformed, (λ e. cc), has_gap most bytes ps s (λ e. cc))

by_closed : (most : ℕ) (bytes : List ℕ) (o : Option (List Piece)) → pieces_of bytes ≡ o → Answer SpellsClosed [] most bytes
by_closed most bytes None h = inr (fault.Malformed, (λ e. cc), unread SpellsClosed (λ ps b k. k.spells) most bytes fault.Malformed h)
by_closed most bytes (Some ps) h = by_gaps most bytes ps (pieces_spelled bytes ps h) (gap_names ps) refl

pub closed_read_or_refused : ClosedReadOrRefused
closed_read_or_refused most bytes = by_closed most bytes (pieces_of bytes) refl
