-- Reading the lines of a file of formats.
use Rattle.std.proofs.Common.{
  ◌≡◌,
  ◌≢◌,
  inr,
  ℕ,
  ◌+◌,
  ◌-◌,
  ◌<◌,
  ◌≤◌,
  true,
  false,
  List,
  [],
  ◌∷◌,
  ◌++◌,
  length,
  get_or,
  take,
  drop,
  Some,
  None,
  Ok,
  MatchOption,
  is_some,
  refl,
  ap,
  sym,
  ◌∙◌,
  subst,
  arith,
  IsUtf8,
  lit<,
  cond,
  ◌==◌,
  add-one,
  drop-cons,
  length-drop,
  eq-eqb,
}
use Rattle.std.specs.declared.option.Option.{Option}
use Rattle.std.specs.declared.result.Result.{Result}
use Rattle.std.specs.Borrow.{Bor}
use Rattle.std.proofs.lemmas.Str.Pattern.{IsSplitOnceResult, split_parts, split_after}
use Rattle.std.proofs.lemmas.Bool.{ne_eqb}
use Rattle.std.proofs.lemmas.List.{get_or-drop, drop_all, take_more}
use Rattle.bw_format.specs.declared.file.FormatFault.{FormatFault}
use Rattle.bw_format.specs.declared.format.Format.{Format}
use Rattle.bw_format.specs.declared.line.Line.{Line}
use Rattle.bw_format.specs.Pattern.{Pattern}
use Rattle.bw_format.specs.Formats.{pattern_of}
use Rattle.bw_format.specs.FormatFile.{IsSkipped, AreParts, IsFormat, IsLine, without_cr, lines_from, lines, Gives, Reads, end, format}
use Rattle.bw_format.specs.Adding.{Continues}

-- a line without a space is no format
pub no_space : (text : List ℕ) (r : Option (Bor (List ℕ) × Bor (List ℕ))) → IsSplitOnceResult 32 text r → r ≡ None → (f : Format) → IsFormat text f → ⊥
no_space text r h e f w =
    let k = split_after 32 text w.2.0 w.2.1 r h (lit< tt) w.2.2 w.2.3 in
    let P : Option (Bor (List ℕ) × Bor (List ℕ)) → Type 0 = λ o. MatchOption o ⊥ (λ x. (x.0.now ≡ w.2.0) × (x.1.now ≡ w.2.1)) in
    subst P e k

-- a format has the parts round the first space
pub has_parts : (text : List ℕ) (r : Option (Bor (List ℕ) × Bor (List ℕ))) (x : Bor (List ℕ) × Bor (List ℕ)) → IsSplitOnceResult 32 text r → r ≡ Some x
    → (f : Format) → IsFormat text f → AreParts x.0.now x.1.now f
has_parts text r x h e f w =
    let k = split_after 32 text w.2.0 w.2.1 r h (lit< tt) w.2.2 w.2.3 in
    let P : Option (Bor (List ℕ) × Bor (List ℕ)) → Type 0 = λ o. MatchOption o ⊥ (λ x. (x.0.now ≡ w.2.0) × (x.1.now ≡ w.2.1)) in
    let both = subst P e k in
    let F : List ℕ → Type 0 = λ field. AreParts field w.2.1 f in
    let G : List ℕ → Type 0 = λ rest. AreParts x.0.now rest f in
    subst G (sym both.1) (subst F (sym both.0) w.2.4)

-- these parts make a format
pub is_format : (text : List ℕ) (r : Option (Bor (List ℕ) × Bor (List ℕ))) (x : Bor (List ℕ) × Bor (List ℕ)) → IsSplitOnceResult 32 text r → r ≡ Some x
    → IsUtf8 text → (IsSkipped text → ⊥) → (f : Format) → AreParts x.0.now x.1.now f → IsFormat text f
is_format text r x h e u s f p =
    let k = split_parts 32 text r h (lit< tt) in
    let P : Option (Bor (List ℕ) × Bor (List ℕ)) → Type 0 =
    λ o. MatchOption o ((i : ℕ) → i < length text → get_or text i 0 ≢ 32) (λ x. (text ≡ x.0.now ++ (32 ∷ x.1.now)) × ((i : ℕ) → i < length x.0.now
    → get_or x.0.now i 0 ≢ 32)) in
    let both = subst P e k in
    (u, s, (x.0.now, x.1.now, both.0, both.1, p))

pub at_none : (field rest : List ℕ) (o : Option Format) → o ≡ None → MatchOption o ((f : Format) → AreParts field rest f → ⊥) (λ f. AreParts field rest f)
    → (f : Format) → AreParts field rest f → ⊥
at_none field rest o e h =
    let P : Option Format → Type 0 = λ o. MatchOption o ((f : Format) → AreParts field rest f → ⊥) (λ f. AreParts field rest f) in
    subst P e h

pub at_some : (field rest : List ℕ) (o : Option Format) (f : Format) → o ≡ Some f → MatchOption o ((f : Format) → AreParts field rest f
    → ⊥) (λ f. AreParts field rest f) → AreParts field rest f
at_some field rest o f e h =
    let P : Option Format → Type 0 = λ o. MatchOption o ((f : Format) → AreParts field rest f → ⊥) (λ f. AreParts field rest f) in
    subst P e h

pub line_is : (bytes : List ℕ) (l x : Line) → l ≡ x → IsLine bytes l → IsLine bytes x
line_is bytes l x e h = let P : Line → Type 0 = IsLine bytes in subst P e h

pub is_new : (o : Option Pattern) → is_some o ≡ false → o ≡ None
is_new None e = refl
is_new (Some p) e = cc

pub is_known : (o : Option Pattern) → is_some o ≡ true → o ≢ None
is_known None e = λ h. (let k : false ≡ true = e in cc)
is_known (Some p) e = λ h. cc

-- a format more
pub adds : (n : ℕ) (formats new : List Format) (bytes : List ℕ) (f : Format) → IsFormat bytes f → length formats < 128 → pattern_of formats f.field ≡ None
    → new ≡ formats ++ f ∷ [] → Continues n formats bytes new
adds n formats new bytes f h few fresh e lines r k =
    let P : List Format → Type 0 = λ fs. Reads (n + 1) fs lines r in
    format n formats bytes f lines r h few fresh (subst P e k)

-- the bytes from a place on
cut_bytes : (bytes : List ℕ) (i : ℕ) → i < length bytes → drop i bytes ≡ get_or bytes i 0 ∷ drop (i + 1) bytes
cut_bytes bytes i h = rw add-one (drop-cons bytes i 0 h)

-- what is read of a line, and one byte more
line_more : (bytes : List ℕ) (start i : ℕ) → i < length bytes → start ≤ i
    → take (i + 1 - start) (drop start bytes) ≡ take (i - start) (drop start bytes) ++ get_or bytes i 0 ∷ []
line_more bytes start i h s =
    let n : i + 1 - start ≡ (i - start) + 1 = omega (arith, s) in
    let few : i - start < length (drop start bytes) = simp length-drop (omega (arith, h, s)) in
    let at : get_or (drop start bytes) (i - start) 0 ≡ get_or bytes i 0 = get_or-drop start bytes (i - start) 0
    ∙ ap (λ k. get_or bytes k 0) (let k : start + (i - start) ≡ i = omega (arith, s) in k) in
    ap (λ k. take k (drop start bytes)) n ∙ take_more (drop start bytes) (i - start) 0 few ∙ ap (λ b. take (i - start) (drop start bytes) ++ b ∷ []) at

pub line_goes_on : (bytes : List ℕ) (start i : ℕ) → i < length bytes → start ≤ i → (get_or bytes i 0 == 10) ≡ false
    → lines_from (take (i - start) (drop start bytes)) (drop i bytes) ≡ lines_from (take (i + 1 - start) (drop start bytes)) (drop (i + 1) bytes)
line_goes_on bytes start i h s e =
    let line = take (i - start) (drop start bytes) in
    ap (lines_from line) (cut_bytes bytes i h)
    ∙ ap (λ t. cond t (without_cr line ∷ lines_from [] (drop (i + 1) bytes)) (lines_from (line ++ get_or bytes i 0 ∷ []) (drop (i + 1) bytes))) e
    ∙ ap (λ l. lines_from l (drop (i + 1) bytes)) (sym (line_more bytes start i h s))

pub line_ends : (bytes : List ℕ) (start i : ℕ) → i < length bytes → (get_or bytes i 0 == 10) ≡ true
    → lines_from (take (i - start) (drop start bytes)) (drop i bytes) ≡ without_cr (take (i - start) (drop start bytes)) ∷ lines_from (take (i + 1 - (i + 1))
    (drop (i + 1) bytes)) (drop (i + 1) bytes)
line_ends bytes start i h e =
    let line = take (i - start) (drop start bytes) in
    let n : i + 1 - (i + 1) ≡ 0 = omega arith in
    ap (lines_from line) (cut_bytes bytes i h)
    ∙ ap (λ t. cond t (without_cr line ∷ lines_from [] (drop (i + 1) bytes)) (lines_from (line ++ get_or bytes i 0 ∷ []) (drop (i + 1) bytes))) e
    ∙ ap (λ k. without_cr line ∷ lines_from (take k (drop (i + 1) bytes)) (drop (i + 1) bytes)) (sym n)

pub line_last : (bytes : List ℕ) (start i : ℕ) → length bytes ≤ i → i ≤ length bytes
    → lines_from (take (i - start) (drop start bytes)) (drop i bytes) ≡ take (length bytes - start) (drop start bytes) ∷ []
line_last bytes start i h k =
    ap (lines_from (take (i - start) (drop start bytes))) (drop_all i bytes h)
    ∙ ap (λ n. take (n - start) (drop start bytes) ∷ []) (let same : i ≡ length bytes = omega (arith, h, k) in same)

-- what the rest gives from here, the file gives
abbrev pub SoFar : List ℕ → ℕ → List Format → ℕ → ℕ → Type 0
SoFar bytes number formats start i =
    (r : Result (List Format) FormatFault) → Reads number formats (lines_from (take (i - start) (drop start bytes)) (drop i bytes)) r
    → Reads 1 [] (lines bytes) r

pub so_far_at : (bytes : List ℕ) (number number2 : ℕ) (formats formats2 : List Format) (start start2 i : ℕ)
    → number2 ≡ number → formats2 ≡ formats → start2 ≡ start → SoFar bytes number formats start i → SoFar bytes number2 formats2 start2 i
so_far_at bytes number number2 formats formats2 start start2 i n f s h =
    let A : ℕ → Type 0 = λ k. SoFar bytes k formats start i in
    let B : List Format → Type 0 = λ fs. SoFar bytes number2 fs start i in
    let C : ℕ → Type 0 = λ k. SoFar bytes number2 formats2 k i in
    subst C (sym s) (subst B (sym f) (subst A (sym n) h))

pub so_far_on : (bytes : List ℕ) (number : ℕ) (formats : List Format) (start i : ℕ) → i < length bytes → start ≤ i → get_or bytes i 0 ≢ 10
    → SoFar bytes number formats start i → SoFar bytes number formats start (i + 1)
so_far_on bytes number formats start i h s e k r m =
    let L : List (List ℕ) → Type 0 = λ ls. Reads number formats ls r in
    k r (subst L (sym (line_goes_on bytes start i h s (not_ten (get_or bytes i 0) e))) m)
  where
    not_ten : (b : ℕ) → b ≢ 10 → (b == 10) ≡ false
    not_ten b e = ne_eqb b 10 e

pub so_far_next : (bytes : List ℕ) (number : ℕ) (formats new : List Format) (line : List ℕ) (start i : ℕ) → i < length bytes → get_or bytes i 0 ≡ 10
    → line ≡ without_cr (take (i - start) (drop start bytes)) → Continues number formats line new
    → SoFar bytes number formats start i → SoFar bytes (number + 1) new (i + 1) (i + 1)
so_far_next bytes number formats new line start i h e l n k r m =
    let rest = lines_from (take (i + 1 - (i + 1)) (drop (i + 1) bytes)) (drop (i + 1) bytes) in
    let L : List (List ℕ) → Type 0 = λ ls. Reads number formats ls r in
    let M : List ℕ → Type 0 = λ x. Reads number formats (x ∷ rest) r in
    k r (subst L (sym (line_ends bytes start i h (eq-eqb (get_or bytes i 0) 10 e))) (subst M l (n rest r m)))

pub so_far_last : (bytes : List ℕ) (number : ℕ) (formats new : List Format) (start i : ℕ) → length bytes ≤ i → i ≤ length bytes → length bytes ≤ 65536
    → Continues number formats (take (length bytes - start) (drop start bytes)) new → SoFar bytes number formats start i → Gives bytes (Ok new)
so_far_last bytes number formats new start i h k few n m =
    let L : List (List ℕ) → Type 0 = λ ls. Reads number formats ls (Ok new) in
    inr (few, m (Ok new) (subst L (sym (line_last bytes start i h k)) (n [] (Ok new) (end (number + 1) new))))
