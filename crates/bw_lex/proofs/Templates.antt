-- The search for the end of a template.
use Rattle.std.proofs.Common.{inl, inr, ◌≡◌, ℕ, ◌+◌, ◌-◌, ◌<◌, ◌≤◌, Bool, true, false, List, [], ◌∷◌, ◌++◌, length, get_or, take, drop, refl, sym, ap}
use Rattle.std.proofs.Common.{◌∙◌, arith, codes, nat_eq, if◌then◌else◌}
use Rattle.std.specs.List.{starts_with}
use Rattle.std.proofs.lemmas.Bool.{cases_lt}
use Rattle.std.proofs.lemmas.List.{drop_more, take_rest, length-append}
use Rattle.bw_lang.specs.declared.token.TokenKind.{TokenKind}
use Rattle.bw_lex.specs.declared.pieces.Piece.{Piece}
use Rattle.bw_lang.specs.Text.TokenForms.{HasNoEnd}
use Rattle.bw_lex.proofs.Branches.{starts, starts_there, if_branch}
use Rattle.bw_lex.proofs.Passes.{true_or_false}
use Rattle.bw_lang.specs.declared.token.TokenKind.TheVariants as kinds
use Rattle.bw_lex.specs.declared.pieces.Piece.TheVariants as pieces
use Rattle.bw_lex.specs.Pieces.{template}

-- one byte on, where the code asks for the end tag at the bytes that it cuts off
pub template-more : (bad : Bool) (bytes : List ℕ) (n : ℕ) (r : Bool) → n < length bytes
    → r ≡ starts_with nat_eq (take (length bytes - n) (drop n bytes)) (codes "</html>")
    → template bad n (drop n bytes) ≡ (if r then pieces.Token kinds.Template (n + 7) else template bad (n + 1) (drop (n + 1) bytes))
template-more bad bytes n r h e =
    let b = get_or bytes n 0 in
    let bs = drop (n + 1) bytes in
    let there : starts_with nat_eq (b ∷ bs) (codes "</html>") ≡ r =
    ap (λ s. starts_with nat_eq s (codes "</html>")) (sym (take_rest bytes n ∙ drop_more bytes n 0 h)) ∙ sym e in
    ap (template bad n) (drop_more bytes n 0 h) ∙ ap (λ t. if t then pieces.Token kinds.Template (n + 7) else template bad (n + 1) bs) there

-- the end tag at the front of the bytes ends within a front that is long enough
front_of : (p xs ys zs : List ℕ) → xs ++ ys ≡ p ++ zs → length p ≤ length xs → xs ≡ p ++ drop (length p) xs
front_of [] xs ys zs e h = refl
front_of (a ∷ p) [] ys zs e h = absurd (omega (arith, h))
front_of (a ∷ p) (x ∷ xs) ys zs e h =
    let head : x ≡ a = cc in
    let tail : xs ++ ys ≡ p ++ zs = cc in
    let others = front_of p xs ys zs tail (omega (arith, h)) in
    (λ i. head i ∷ others i)

pub no_end_behind : (b : ℕ) (bs : List ℕ) → HasNoEnd (b ∷ bs) → HasNoEnd bs
no_end_behind b bs h front back e = h (b ∷ front) back (ap (λ l. b ∷ l) e)

-- an end tag at the front of bytes that have none is longer than they are
is_cut : (b : ℕ) (bs rest : List ℕ) → HasNoEnd (b ∷ bs) → starts_with nat_eq (b ∷ (bs ++ rest)) (codes "</html>") ≡ true → length (b ∷ bs) < 7
is_cut b bs rest none e = elim (cases_lt (length (b ∷ bs)) 7) [
  | inl h ↦ h
  | inr h ↦
      absurd (none [] (drop 7 (b ∷ bs)) (front_of (codes "</html>") (b ∷ bs) rest (drop 7 (b ∷ (bs ++ rest)))
      (starts (b ∷ (bs ++ rest)) (codes "</html>") e) h))
]

-- it doesn't lap over into another
laps : (bs rest : List ℕ) (b : ℕ) → length (b ∷ bs) < 7
    → (b ∷ bs) ++ (codes "</html>" ++ rest) ≡ codes "</html>" ++ drop 7 ((b ∷ bs) ++ (codes "</html>" ++ rest)) → ⊥
laps [] rest b h e = let q : 60 ≡ 47 = ap (λ l. get_or l 1 0) e in omega (arith, q)
laps (b1 ∷ []) rest b h e = let q : 60 ≡ 104 = ap (λ l. get_or l 2 0) e in omega (arith, q)
laps (b1 ∷ b2 ∷ []) rest b h e = let q : 60 ≡ 116 = ap (λ l. get_or l 3 0) e in omega (arith, q)
laps (b1 ∷ b2 ∷ b3 ∷ []) rest b h e = let q : 60 ≡ 109 = ap (λ l. get_or l 4 0) e in omega (arith, q)
laps (b1 ∷ b2 ∷ b3 ∷ b4 ∷ []) rest b h e = let q : 60 ≡ 108 = ap (λ l. get_or l 5 0) e in omega (arith, q)
laps (b1 ∷ b2 ∷ b3 ∷ b4 ∷ b5 ∷ []) rest b h e = let q : 60 ≡ 62 = ap (λ l. get_or l 6 0) e in omega (arith, q)
laps (b1 ∷ b2 ∷ b3 ∷ b4 ∷ b5 ∷ b6 ∷ bs) rest b h e = absurd (omega (arith, h))

-- a template is read to its end
pub template-whole : (bad : Bool) (n : ℕ) (inner rest : List ℕ) → HasNoEnd inner
    → template bad n (inner ++ (codes "</html>" ++ rest)) ≡ pieces.Token kinds.Template (n + length inner + 7)
template-whole bad n [] rest none =
    ap (pieces.Token kinds.Template) (omega arith)
template-whole bad n (b ∷ bs) rest none =
    let on = bs ++ (codes "</html>" ++ rest) in
    let there : starts_with nat_eq (b ∷ on) (codes "</html>") ≡ false = elim (true_or_false (starts_with nat_eq (b ∷ on) (codes "</html>"))) [
      | inl e ↦ absurd (laps bs rest b (is_cut b bs (codes "</html>" ++ rest) none e) (starts (b ∷ on) (codes "</html>") e))
      | inr e ↦ e
    ] in
    ap (λ t. if t then pieces.Token kinds.Template (n + 7) else template bad (n + 1) on) there
    ∙ template-whole bad (n + 1) bs rest (no_end_behind b bs none)
    ∙ ap (pieces.Token kinds.Template) (omega arith)

-- a piece of no less than so many bytes, or a fault
abbrev pub Reaches : ℕ → Piece → Type 0
Reaches least (pieces.Gap n) = least ≤ n
Reaches least (pieces.Token kind n) = least ≤ n
Reaches least (pieces.Fault kind n) = Unit {0}

no_less : (bad : Bool) (n m : ℕ) (bytes : List ℕ) → m ≤ n → Reaches m (template bad n bytes)
no_less true n m [] h = tt
no_less false n m [] h = tt
no_less bad n m (b ∷ bs) h =
    let P : Piece → Type 0 = Reaches m in
    if_branch P (starts_with nat_eq (b ∷ bs) (codes "</html>")) _ _ (λ e. omega (arith, h)) (λ e. no_less bad (n + 1) m bs (omega (arith, h)))

-- and no less is taken of one whose end isn't reached
pub template-begun : (bad : Bool) (n m : ℕ) (inner rest : List ℕ) → HasNoEnd inner → m ≡ n + length inner → Reaches m (template bad n (inner ++ rest))
template-begun bad n m [] rest none e = no_less bad n m rest (omega (arith, e))
template-begun bad n m (b ∷ bs) rest none e =
    let P : Piece → Type 0 = Reaches m in
    if_branch P (starts_with nat_eq (b ∷ (bs ++ rest)) (codes "</html>")) _ _
    (λ h. omega (arith, e, is_cut b bs rest none h))
    (λ h. template-begun bad (n + 1) m bs rest (no_end_behind b bs none) (omega (arith, e)))

-- what a template that is found is
pub record Ended (n : ℕ) (bytes : List ℕ) (kind : TokenKind) (end : ℕ) : Type 0 where
  pub inner : List ℕ
  pub rest : List ℕ
  pub is : kind ≡ kinds.Template
  pub front : bytes ≡ inner ++ (codes "</html>" ++ rest)
  pub len : end ≡ n + length inner + 7
  pub none : HasNoEnd inner

pub none_in_nil : HasNoEnd []
none_in_nil front back e = absurd (omega (arith, ap length e, length-append front (codes "</html>" ++ back)))

pub no_end_in_front : (b : ℕ) (bs rest : List ℕ) → starts_with nat_eq (b ∷ (bs ++ rest)) (codes "</html>") ≡ false → HasNoEnd bs → HasNoEnd (b ∷ bs)
no_end_in_front b bs rest h none [] back e =
    let there = starts_there (b ∷ (bs ++ rest)) (codes "</html>") (back ++ rest) (ap (λ l. l ++ rest) e) in
    cc
no_end_in_front b bs rest h none (f ∷ front) back e =
    let tail : bs ≡ front ++ (codes "</html>" ++ back) = cc in
    none front back tail

pub template-found : (bad : Bool) (n : ℕ) (bytes : List ℕ) (kind : TokenKind) (end : ℕ) → template bad n bytes ≡ pieces.Token kind end → Ended n bytes kind end
template-found true n [] kind end e = absurd (cc)
template-found false n [] kind end e = absurd (cc)
template-found bad n (b ∷ bs) kind end e = elim (true_or_false (starts_with nat_eq (b ∷ bs) (codes "</html>"))) [
  | inl h ↦
      let q : pieces.Token kinds.Template (n + 7) ≡ pieces.Token kind end =
      ap (λ t. if t then pieces.Token kinds.Template (n + 7) else template bad (n + 1) bs) (sym h) ∙ e in
      let is : kind ≡ kinds.Template = cc in
      let len : end ≡ n + 7 = cc in
      record { inner = []; rest = drop 7 (b ∷ bs); is = is; front = starts (b ∷ bs) (codes "</html>") h; len = omega (arith, len); none = none_in_nil }
  | inr h ↦
      let f = template-found bad (n + 1) bs kind end (ap (λ t. if t then pieces.Token kinds.Template (n + 7) else template bad (n + 1) bs) (sym h) ∙ e) in
      record {
        inner = b ∷ f.inner;
        rest = f.rest;
        is = f.is;
        front = ap (λ l. b ∷ l) f.front;
        len = omega (arith, f.len);
        none = no_end_in_front b f.inner (codes "</html>" ++ f.rest) (ap (λ l. starts_with nat_eq (b ∷ l) (codes "</html>")) (sym f.front) ∙ h) f.none;
      }
]
