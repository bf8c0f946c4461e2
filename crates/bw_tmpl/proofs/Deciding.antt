-- What reading answers is determined.
use Rattle.std.proofs.Common.{◌≡◌, ℕ, true, false, List, [], refl, sym, ap, subst, ◌∙◌, arith}
use Rattle.bw_lang.specs.Document.Forest.{Forest}
use Rattle.bw_lang.specs.declared.pieces.Piece.{Piece}
use Rattle.bw_tmpl.specs.declared.fault.TmplFault.{TmplFault}
use Rattle.bw_tmpl.specs.declared.fault.TmplFault.TheVariants as fault
use Rattle.bw_lang.specs.Document.Measures.{nest}
use Rattle.bw_lang.specs.Template.PieceItems.{ReadsAs}
use Rattle.bw_lang.specs.Template.RepeatedAttributes.{repeats}
use Rattle.bw_lang.specs.Template.Pieces.{SpellsPieces}
use Rattle.bw_lang.specs.Template.Templates.{ReadsBy, SpellsClosed}
use Rattle.bw_tmpl.specs.Refusals.{RefusedBy}
use Rattle.bw_tmpl.specs.Laws.{OneTemplate, NotBoth, OneReason, OneClosedTemplate, NotBothClosed, OneClosedReason}
use Rattle.bw_lang.proofs.Options.{some_is}
use Rattle.bw_tmpl.proofs.Inverse.{reads_once}
use Rattle.bw_tmpl.proofs.Depths.{reads_depth}
use Rattle.bw_tmpl.proofs.Spelled.{spelled_once}

true_false : true ≡ false → ⊥
true_false p = cc

-- items of the same pieces stand as deep in one another, whatever the tables
same_nesting : (ps : List Piece) (names others : List (List ℕ)) (f g : Forest) → ReadsAs names ps f → ReadsAs others ps g → nest f ≡ nest g
same_nesting ps names others f g p q = some_is (nest f) (nest g) (sym (reads_depth names ps f p) ∙ reads_depth others ps g q)

module _ (S : List Piece → List ℕ → Type 0) (once : (ps qs : List Piece) (bytes : List ℕ) → S ps bytes → S qs bytes → ps ≡ qs) where
  one : (names : List (List ℕ)) (most : ℕ) (bytes : List ℕ) (f g : Forest) → ReadsBy S names most bytes f → ReadsBy S names most bytes g → f ≡ g
  one names most bytes f g p q =
      reads_once names q.pieces f g (subst (λ (l : List Piece). ReadsAs names l f) (once p.pieces q.pieces bytes p.spelled q.spelled) p.reads) q.reads

  -- a tag can't both name an attribute twice and not
  repeats_and_not : (ps qs : List Piece) (bytes : List ℕ) → S ps bytes → S qs bytes → repeats ps ≡ true → repeats qs ≡ false → ⊥
  repeats_and_not ps qs bytes p q t f = true_false (sym t ∙ ap repeats (once ps qs bytes p q) ∙ f)

  -- pieces can't both read as items and as none
  reads_and_not : (ps qs : List Piece) (bytes : List ℕ) (names : List (List ℕ)) (f : Forest) → S ps bytes → S qs bytes → ReadsAs names ps f
      → ((table : List (List ℕ)) (g : Forest) → ReadsAs table qs g → ⊥) → ⊥
  reads_and_not ps qs bytes names f p q r n = n names f (subst (λ (l : List Piece). ReadsAs names l f) (once ps qs bytes p q) r)

  both : (names : List (List ℕ)) (most : ℕ) (bytes : List ℕ) (f : Forest) (e : TmplFault) → ReadsBy S names most bytes f → RefusedBy S most bytes e
      → e ≡ fault.Memory
  both names most bytes f fault.Malformed p r = absurd (r p.pieces p.spelled)
  both names most bytes f fault.RepeatedAttribute p r = absurd (repeats_and_not r.pieces p.pieces bytes r.spelled p.spelled r.twice p.once)
  both names most bytes f fault.Mismatched p r = absurd (reads_and_not p.pieces r.pieces bytes names f p.spelled r.spelled p.reads r.no_items)
  both names most bytes f fault.Nesting p r =
      let read : ReadsAs names r.pieces f = subst (λ (l : List Piece). ReadsAs names l f) (once p.pieces r.pieces bytes p.spelled r.spelled) p.reads in
      let n = same_nesting r.pieces names r.names f r.items read r.reads in absurd (omega (arith, p.nested, r.deeper, n))
  both names most bytes f fault.Memory p r = refl

  reason : (most : ℕ) (bytes : List ℕ) (d e : TmplFault) → RefusedBy S most bytes d → RefusedBy S most bytes e → (d ≡ fault.Memory → ⊥)
      → (e ≡ fault.Memory → ⊥) → d ≡ e
  reason most bytes fault.Memory e p q m n = absurd (m refl)
  reason most bytes fault.Malformed fault.Memory p q m n = absurd (n refl)
  reason most bytes fault.Malformed fault.Malformed p q m n = refl
  reason most bytes fault.Malformed fault.RepeatedAttribute p q m n = absurd (p q.pieces q.spelled)
  reason most bytes fault.Malformed fault.Mismatched p q m n = absurd (p q.pieces q.spelled)
  reason most bytes fault.Malformed fault.Nesting p q m n = absurd (p q.pieces q.spelled)
  reason most bytes fault.RepeatedAttribute fault.Memory p q m n = absurd (n refl)
  reason most bytes fault.RepeatedAttribute fault.Malformed p q m n = absurd (q p.pieces p.spelled)
  reason most bytes fault.RepeatedAttribute fault.RepeatedAttribute p q m n = refl
  reason most bytes fault.RepeatedAttribute fault.Mismatched p q m n = absurd (repeats_and_not p.pieces q.pieces bytes p.spelled q.spelled p.twice q.once)
  reason most bytes fault.RepeatedAttribute fault.Nesting p q m n = absurd (repeats_and_not p.pieces q.pieces bytes p.spelled q.spelled p.twice q.once)
  reason most bytes fault.Mismatched fault.Memory p q m n = absurd (n refl)
  reason most bytes fault.Mismatched fault.Malformed p q m n = absurd (q p.pieces p.spelled)
  reason most bytes fault.Mismatched fault.RepeatedAttribute p q m n = absurd (repeats_and_not q.pieces p.pieces bytes q.spelled p.spelled q.twice p.once)
  reason most bytes fault.Mismatched fault.Mismatched p q m n = refl
  reason most bytes fault.Mismatched fault.Nesting p q m n =
      absurd (reads_and_not q.pieces p.pieces bytes q.names q.items q.spelled p.spelled q.reads p.no_items)
  reason most bytes fault.Nesting fault.Memory p q m n = absurd (n refl)
  reason most bytes fault.Nesting fault.Malformed p q m n = absurd (q p.pieces p.spelled)
  reason most bytes fault.Nesting fault.RepeatedAttribute p q m n = absurd (repeats_and_not q.pieces p.pieces bytes q.spelled p.spelled q.twice p.once)
  reason most bytes fault.Nesting fault.Mismatched p q m n =
      absurd (reads_and_not p.pieces q.pieces bytes p.names p.items p.spelled q.spelled p.reads q.no_items)
  reason most bytes fault.Nesting fault.Nesting p q m n = refl

closed_once : (ps qs : List Piece) (bytes : List ℕ) → SpellsClosed ps bytes → SpellsClosed qs bytes → ps ≡ qs
closed_once ps qs bytes p q = spelled_once ps qs bytes p.spells q.spells

pub one_template : OneTemplate
one_template = one SpellsPieces spelled_once

pub not_both : NotBoth
not_both = both SpellsPieces spelled_once

pub one_reason : OneReason
one_reason = reason SpellsPieces spelled_once

pub one_closed_template : OneClosedTemplate
one_closed_template = one SpellsClosed closed_once []

pub not_both_closed : NotBothClosed
not_both_closed = both SpellsClosed closed_once []

pub one_closed_reason : OneClosedReason
one_closed_reason = reason SpellsClosed closed_once
