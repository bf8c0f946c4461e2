-- A file gives one answer.
use Rattle.std.proofs.Common.{◌≡◌, inl, inr, ℕ, suc, ◌+◌, List, [], ◌∷◌, ◌++◌, refl, ap, sym, ◌∙◌, subst, arith, chars}
use Rattle.std.specs.declared.result.Result.{Result}
use Rattle.bw_format.specs.declared.file.FormatFault.{FormatFault}
use Rattle.bw_format.specs.declared.format.Format.{Format}
use Rattle.bw_format.specs.Formats.{pattern_of}
use Rattle.bw_format.specs.FormatFile.{HasNoSpace, IsFormat, lines, Gives, Reads, end, skipped, format, malformed, too_many, repeated}
use Rattle.bw_format.specs.Spelling.{Spells}
use Rattle.bw_format.proofs.ReadLaws.{one_spelling}

-- a list has one first space
pub one_cut : (a b x y : List ℕ) → a ++ 32 ∷ x ≡ b ++ 32 ∷ y → HasNoSpace a → HasNoSpace b → (a ≡ b) × (x ≡ y)
one_cut [] [] x y e h k = (refl, cc)
one_cut [] (c ∷ b) x y e h k = absurd (k 0 (omega arith) (let s : 32 ≡ c = cc in sym s))
one_cut (c ∷ a) [] x y e h k = absurd (h 0 (omega arith) (let s : c ≡ 32 = cc in s))
one_cut (c ∷ a) (d ∷ b) x y e h k =
    let t : a ++ 32 ∷ x ≡ b ++ 32 ∷ y = cc in
    let s : c ≡ d = cc in
    let r = one_cut a b x y t (λ i l. h (suc i) (omega (arith, l))) (λ i l. k (suc i) (omega (arith, l))) in
    (let p : a ≡ b = r.0 in cc, r.1)

-- a line is one format
one_format : (line : List ℕ) (f g : Format) → IsFormat line f → IsFormat line g → f ≡ g
one_format line f g h k =
    let cut = one_cut h.2.0 k.2.0 h.2.1 k.2.1 (sym h.2.2 ∙ k.2.2) h.2.3 k.2.3 in
    let field : f.field ≡ g.field = h.2.4.0 ∙ cut.0 ∙ sym k.2.4.0 in
    let P : List ℕ → Type 0 = λ rest. Spells (chars rest) f.pattern in
    let pattern : f.pattern ≡ g.pattern = one_spelling (chars k.2.1) f.pattern g.pattern (subst P cut.1 h.2.4.3) k.2.4.3 in
    λ i. record { field = field i; pattern = pattern i }

pub one_reads : (n : ℕ) (formats : List Format) (ls : List (List ℕ)) (r s : Result (List Format) FormatFault) → Reads n formats ls r → Reads n formats ls s
    → r ≡ s
one_reads n fs ls r s (end n1 fs1) (end n2 fs2) = refl
one_reads n fs ls r s (skipped n1 fs1 line lines r1 a h) (skipped n2 fs2 line2 lines2 r2 b k) = one_reads _ _ _ r1 r2 h k
one_reads n fs ls r s (skipped n1 fs1 line lines r1 a h) (format n2 fs2 line2 f lines2 r2 b l m k) = absurd (b.1 a)
one_reads n fs ls r s (skipped n1 fs1 line lines r1 a h) (malformed n2 fs2 line2 lines2 b) = absurd (b.0 a)
one_reads n fs ls r s (skipped n1 fs1 line lines r1 a h) (too_many n2 fs2 line2 f lines2 b l) = absurd (b.1 a)
one_reads n fs ls r s (skipped n1 fs1 line lines r1 a h) (repeated n2 fs2 line2 f lines2 b l m) = absurd (b.1 a)
one_reads n fs ls r s (format n1 fs1 line f lines r1 a l m h) (skipped n2 fs2 line2 lines2 r2 b k) = absurd (a.1 b)
one_reads n fs ls r s (format n1 fs1 line f lines r1 a l m h) (format n2 fs2 line2 g lines2 r2 b o p k) =
    let same : f ≡ g = one_format _ f g a b in
    let P : Format → Type 0 = λ x. Reads (n + 1) (fs ++ x ∷ []) lines r1 in
    one_reads _ _ _ r1 r2 (subst P same h) k
one_reads n fs ls r s (format n1 fs1 line f lines r1 a l m h) (malformed n2 fs2 line2 lines2 b) = absurd (b.1 f a)
one_reads n fs ls r s (format n1 fs1 line f lines r1 a l m h) (too_many n2 fs2 line2 g lines2 b o) = absurd (omega (arith, l, o))
one_reads n fs ls r s (format n1 fs1 line f lines r1 a l m h) (repeated n2 fs2 line2 g lines2 b o p) =
    let same : f ≡ g = one_format _ f g a b in
    absurd (p (ap (λ x. pattern_of fs x.field) (sym same) ∙ m))
one_reads n fs ls r s (malformed n1 fs1 line lines a) (skipped n2 fs2 line2 lines2 r2 b k) = absurd (a.0 b)
one_reads n fs ls r s (malformed n1 fs1 line lines a) (format n2 fs2 line2 f lines2 r2 b l m k) = absurd (a.1 f b)
one_reads n fs ls r s (malformed n1 fs1 line lines a) (malformed n2 fs2 line2 lines2 b) = refl
one_reads n fs ls r s (malformed n1 fs1 line lines a) (too_many n2 fs2 line2 f lines2 b l) = absurd (a.1 f b)
one_reads n fs ls r s (malformed n1 fs1 line lines a) (repeated n2 fs2 line2 f lines2 b l m) = absurd (a.1 f b)
one_reads n fs ls r s (too_many n1 fs1 line f lines a o) (skipped n2 fs2 line2 lines2 r2 b k) = absurd (a.1 b)
one_reads n fs ls r s (too_many n1 fs1 line f lines a o) (format n2 fs2 line2 g lines2 r2 b l m k) = absurd (omega (arith, l, o))
one_reads n fs ls r s (too_many n1 fs1 line f lines a o) (malformed n2 fs2 line2 lines2 b) = absurd (b.1 f a)
one_reads n fs ls r s (too_many n1 fs1 line f lines a o) (too_many n2 fs2 line2 g lines2 b l) = refl
one_reads n fs ls r s (too_many n1 fs1 line f lines a o) (repeated n2 fs2 line2 g lines2 b l m) = absurd (omega (arith, l, o))
one_reads n fs ls r s (repeated n1 fs1 line f lines a l m) (skipped n2 fs2 line2 lines2 r2 b k) = absurd (a.1 b)
one_reads n fs ls r s (repeated n1 fs1 line f lines a l m) (format n2 fs2 line2 g lines2 r2 b o p k) =
    let same : f ≡ g = one_format _ f g a b in
    absurd (m (ap (λ x. pattern_of fs x.field) same ∙ p))
one_reads n fs ls r s (repeated n1 fs1 line f lines a l m) (malformed n2 fs2 line2 lines2 b) = absurd (b.1 f a)
one_reads n fs ls r s (repeated n1 fs1 line f lines a l m) (too_many n2 fs2 line2 g lines2 b o) = absurd (omega (arith, l, o))
one_reads n fs ls r s (repeated n1 fs1 line f lines a l m) (repeated n2 fs2 line2 g lines2 b o p) = refl

pub one_answer : (bytes : List ℕ) (r s : Result (List Format) FormatFault) → Gives bytes r → Gives bytes s → r ≡ s
one_answer bytes r s (inl a) (inl b) = a.1 ∙ sym b.1
one_answer bytes r s (inl a) (inr b) = absurd (omega (arith, a.0, b.0))
one_answer bytes r s (inr a) (inl b) = absurd (omega (arith, a.0, b.0))
one_answer bytes r s (inr a) (inr b) = one_reads 1 [] (lines bytes) r s a.1 b.1
