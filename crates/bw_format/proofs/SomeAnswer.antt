-- A file gives an answer.
use Rattle.std.proofs.Common.{
  ◌≡◌,
  ◌≢◌,
  ◌⊎◌,
  inl,
  inr,
  ℕ,
  zero,
  suc,
  ◌+◌,
  ◌<◌,
  ◌≤◌,
  ◌==◌,
  Bool,
  true,
  false,
  List,
  [],
  ◌∷◌,
  ◌++◌,
  length,
  Some,
  None,
  Ok,
  Err,
  refl,
  sym,
  ap,
  ◌∙◌,
  subst,
  arith,
  chars,
  IsUtf8,
}
use Rattle.std.specs.declared.option.Option.{Option}
use Rattle.std.specs.declared.result.Result.{Result}
use Rattle.std.specs.Str.{is_utf8}
use Rattle.std.proofs.lemmas.Bool.{cases_lt, eqb-true, eq-eqb}
use Rattle.std.proofs.lemmas.Str.{is_utf8-from_IsUtf8, IsUtf8-from_is_utf8}
use Rattle.bw_format.specs.declared.file.FormatFault.{FormatFault}
use Rattle.bw_format.specs.declared.file.FormatFault.TheVariants as fault
use Rattle.bw_format.specs.declared.format.Format.{Format}
use Rattle.bw_format.specs.Formats.{pattern_of}
use Rattle.bw_format.specs.FormatFile.{
  IsSkipped,
  HasNoSpace,
  AreParts,
  IsFormat,
  IsMalformed,
  lines,
  Reads,
  end,
  skipped,
  format,
  malformed,
  too_many,
  repeated,
}
use Rattle.bw_format.specs.Laws.{SomeAnswer}
use Rattle.bw_format.specs.Pattern.{Pattern}
use Rattle.bw_format.specs.Reading.{read}
use Rattle.bw_format.proofs.Complete.{complete}
use Rattle.bw_format.proofs.OneAnswer.{one_cut}
use Rattle.bw_format.proofs.Sound.{sound}

-- ---- one line

skipped_or_not : (line : List ℕ) → IsSkipped line ⊎ (IsSkipped line → ⊥)
skipped_or_not [] = inl (inl refl)
skipped_or_not (b ∷ rest) = by (b == 35) refl
  where
    by : (c : Bool) → (b == 35) ≡ c → IsSkipped (b ∷ rest) ⊎ (IsSkipped (b ∷ rest) → ⊥)
    by true e = inl (inr (rest, (let s = eqb-true b 35 e in ap (λ x. x ∷ rest) s)))
    by false e = inr (λ h. no h)
      where
        no : IsSkipped (b ∷ rest) → ⊥
        no (inl h) = cc
        no (inr h) = let s : b ≡ 35 = (let k = h.1 in cc) in let t = eq-eqb b 35 s in cc

-- the parts round the first space
abbrev pub Cut : List ℕ → Type 0
Cut line = (field : List ℕ) × (rest : List ℕ) × (line ≡ field ++ 32 ∷ rest) × HasNoSpace field

no_space_more : (c : ℕ) (field : List ℕ) → (c ≡ 32 → ⊥) → HasNoSpace field → HasNoSpace (c ∷ field)
no_space_more c field n h zero l = n
no_space_more c field n h (suc i) l = h i (omega (arith, l))

pub cut_or_not : (line : List ℕ) → Cut line ⊎ ((field rest : List ℕ) → line ≡ field ++ 32 ∷ rest → ⊥)
cut_or_not [] = inr none
  where
    none : (field rest : List ℕ) → [] ≡ field ++ 32 ∷ rest → ⊥
    none [] rest e = cc
    none (c ∷ field) rest e = cc
cut_or_not (c ∷ line) = by (c == 32) refl (cut_or_not line)
  where
    by : (b : Bool) → (c == 32) ≡ b → Cut line ⊎ ((field rest : List ℕ) → line ≡ field ++ 32 ∷ rest → ⊥)
        → Cut (c ∷ line) ⊎ ((field rest : List ℕ) → c ∷ line ≡ field ++ 32 ∷ rest → ⊥)
    by true e later = inl ([], line, ap (λ x. x ∷ line) (eqb-true c 32 e), λ i l. absurd (omega (arith, l)))
    by false e (inl k) = inl (c ∷ k.0, k.1, ap (λ l. c ∷ l) k.2, no_space_more c k.0 (λ s. (let t = eq-eqb c 32 s in cc)) k.3)
    by false e (inr k) = inr none
      where
        none : (field rest : List ℕ) → c ∷ line ≡ field ++ 32 ∷ rest → ⊥
        none [] rest f = let s : c ≡ 32 = cc in let t = eq-eqb c 32 s in cc
        none (d ∷ field) rest f = k field rest (let g : line ≡ field ++ 32 ∷ rest = cc in g)

-- where there is none, the line has no space
pub no_space : (line : List ℕ) → ((field rest : List ℕ) → line ≡ field ++ 32 ∷ rest → ⊥) → HasNoSpace line
no_space [] n i l = absurd (omega (arith, l))
no_space (c ∷ line) n zero l = λ e. n [] line (ap (λ x. x ∷ line) e)
no_space (c ∷ line) n (suc i) l = no_space line (λ field rest e. n (c ∷ field) rest (ap (λ x. c ∷ x) e)) i (omega (arith, l))

parts_or_not : (field rest : List ℕ) → ((f : Format) × AreParts field rest f) ⊎ ((f : Format) → AreParts field rest f → ⊥)
parts_or_not [] rest = inr (λ f p. p.1 refl)
parts_or_not (c ∷ field) rest = elim (cases_lt 256 (length (chars rest))) [
  | inl gt ↦ inr (λ f p. (let few = p.2 in omega (arith, gt, few)))
  | inr le ↦ by le (read (chars rest)) refl
]
  where
    by : length (chars rest) ≤ 256 → (o : Option Pattern) → read (chars rest) ≡ o
        → ((f : Format) × AreParts (c ∷ field) rest f) ⊎ ((f : Format) → AreParts (c ∷ field) rest f → ⊥)
    by le None e = inr (λ f p. (let k : None ≡ Some f.pattern = sym e ∙ complete (chars rest) f.pattern p.3 in cc))
    by le (Some p) e = inl (record { field = c ∷ field; pattern = p }, (refl, λ n. cc, le, sound (chars rest) p e))

module _ (line : List ℕ) (not : IsSkipped line → ⊥) where
  abbrev FormatOrNot : Type 0
  FormatOrNot = ((f : Format) × IsFormat line f) ⊎ IsMalformed line

  by_parts : IsUtf8 line → Cut line → FormatOrNot
  by_parts u k = elim (parts_or_not k.0 k.1) [
    | inl p ↦ inl (p.0, (u, not, (k.0, k.1, k.2, k.3, p.1)))
    | inr n ↦ inr (not, λ f h. none n f h)
  ]
    where
      none : ((f : Format) → AreParts k.0 k.1 f → ⊥) → (f : Format) → IsFormat line f → ⊥
      none n f h =
          let same = one_cut h.2.0 k.0 h.2.1 k.1 (sym h.2.2 ∙ k.2) h.2.3 k.3 in
          let P : List ℕ → Type 0 = λ field. AreParts field h.2.1 f in
          let Q : List ℕ → Type 0 = λ rest. AreParts k.0 rest f in
          n f (subst Q same.1 (subst P same.0 h.2.4))

  by_utf8 : (b : Bool) → is_utf8 line ≡ b → FormatOrNot
  by_utf8 true e = elim (cut_or_not line) [
    | inl k ↦ by_parts (IsUtf8-from_is_utf8 line e) k
    | inr n ↦ inr (not, λ f h. n h.2.0 h.2.1 h.2.2)
  ]
  by_utf8 false e = inr (not, λ f h. (let t = is_utf8-from_IsUtf8 line h.0 in cc))

-- ---- all lines

abbrev Answer : ℕ → List Format → List (List ℕ) → Type 0
Answer n formats ls = (r : Result (List Format) FormatFault) × Reads n formats ls r × (r ≢ Err fault.Memory)

some_reads : (n : ℕ) (formats : List Format) (ls : List (List ℕ)) → Answer n formats ls
some_reads n formats [] = (Ok formats, end n formats, λ e. cc)
some_reads n formats (line ∷ ls) = elim (skipped_or_not line) [
  | inl s ↦ (let later = some_reads (n + 1) formats ls in (later.0, skipped n formats line ls later.0 s later.1, later.2))
  | inr s ↦ elim (by_utf8 line s (is_utf8 line) refl) [
    | inl f ↦ taken f.0 f.1 (λ all. some_reads (n + 1) all ls)
    | inr m ↦ (Err (fault.Malformed n), malformed n formats line ls m, λ e. cc)
  ]
]
  where
    known : (f : Format) → IsFormat line f → length formats < 128 → ((all : List Format) → Answer (n + 1) all ls) → (o : Option Pattern)
        → pattern_of formats f.field ≡ o → Answer n formats (line ∷ ls)
    known f is few later None e =
        let l = later (formats ++ f ∷ []) in (l.0, format n formats line f ls l.0 is few e l.1, l.2)
    known f is few later (Some p) e = (Err (fault.Repeated n), repeated n formats line f ls is few (λ k. (let g : None ≡ Some p = sym k ∙ e in cc)), λ k. cc)

    taken : (f : Format) → IsFormat line f → ((all : List Format) → Answer (n + 1) all ls) → Answer n formats (line ∷ ls)
    taken f is later = elim (cases_lt (length formats) 128) [
      | inl few ↦ known f is few later (pattern_of formats f.field) refl
      | inr many ↦ (Err (fault.Malformed n), too_many n formats line f ls is many, λ e. cc)
    ]

pub some_answer : SomeAnswer
some_answer bytes = elim (cases_lt 65536 (length bytes)) [
  | inl gt ↦ (Err fault.TooLong, inl (gt, refl), λ e. cc)
  | inr le ↦ (let k = some_reads 1 [] (lines bytes) in (k.0, inr (le, k.1), k.2))
]
