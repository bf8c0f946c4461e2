-- A fault that is found at a place stands there.
use Rattle.std.proofs.Common.{◌≡◌, ◌≢◌, ◌==◌, ℕ, ◌+◌, ◌-◌, ◌<◌, Bool, true, false, List, [], ◌∷◌, ◌++◌, length, get_or, take, drop, refl, sym, ap}
use Rattle.std.proofs.Common.{◌∙◌, subst, arith, inl, inr, codes, nat_eq, nat_le, if◌then◌else◌}
use Rattle.std.specs.List.{prefix_len, starts_with}
use Rattle.std.proofs.lemmas.Bool.{leb-false}
use Rattle.std.proofs.lemmas.Bool.Decides.{nat_tests}
use Rattle.std.proofs.lemmas.List.{append_assoc, append-nil, length-append, take-append-drop}
use Rattle.bw_lang.specs.declared.token.TokenKind.{TokenKind}
use Rattle.bw_lang.specs.declared.token.TokenKind.TheVariants as kinds
use Rattle.bw_lex.specs.declared.LexFault.TheVariants as lexical
use Rattle.bw_lex.specs.declared.pieces.FaultKind.{FaultKind}
use Rattle.bw_lex.specs.declared.pieces.FaultKind.TheVariants as faults
use Rattle.bw_lex.specs.declared.pieces.Piece.{Piece}
use Rattle.bw_lex.specs.declared.pieces.Piece.TheVariants as pieces
use Rattle.bw_lex.specs.declared.pieces.StringByte.{StringByte}
use Rattle.bw_lex.specs.declared.pieces.StringByte.TheVariants as inside
use Rattle.bw_lang.specs.Text.Bytes.{is_blank, is_digit, is_letter, is_sign, is_pair}
use Rattle.bw_lang.specs.Text.TokenForms.{HasForm, IsGap, IsNumber, StandsFor, SpellsText, HasNoEnd}
use Rattle.bw_lang.specs.Text.TokenForms.{value}
use Rattle.bw_lex.specs.Pieces.{number, string_byte, string_at, string, template, sign, piece}
use Rattle.bw_lex.specs.Refusals.{BeginsNothing, Stops, stray_byte, bad_byte_in_string, no_escape, broken_string, open_string, bad_byte_in_template}
use Rattle.bw_lex.specs.Refusals.{open_template, big_number}
use Rattle.bw_lex.specs.Tokens.{fault_at}
use Rattle.bw_lex.proofs.Branches.{Branch, blank, word, digits, quoted, comment, markup, other, branch, starts_there, if_branch}
use Rattle.bw_lex.proofs.Ends.{some}
use Rattle.bw_lex.proofs.Passes.{passing, all_head, take_first, true_or_false}
use Rattle.bw_lex.proofs.Spelled.{behind, stood, SpellsText-append}
use Rattle.bw_lex.proofs.Strings.{escapes_is}
use Rattle.bw_lex.proofs.Templates.{none_in_nil, no_end_in_front}

-- the fault of a piece at a place, where it is a fault
abbrev pub StopsAt : Bool → ℕ → List ℕ → Piece → Type 0
StopsAt bad at bytes (pieces.Gap n) = Unit {0}
StopsAt bad at bytes (pieces.Token kind n) = Unit {0}
StopsAt bad at bytes (pieces.Fault kind n) = Stops bad at bytes (fault_at kind (at + n))

same : (bad : Bool) (at n m : ℕ) (bytes more : List ℕ) (kind : FaultKind) → bytes ≡ more → n ≡ m → Stops bad at bytes (fault_at kind (at + n))
    → Stops bad at more (fault_at kind (at + m))
same bad at n m bytes more kind e f h = subst (λ l. Stops bad at l (fault_at kind (at + m))) e (subst (λ k. Stops bad at bytes (fault_at kind (at + k))) f h)

-- one byte more is spelled
SpellsText-join : (text more bytes rest : List ℕ) → SpellsText text bytes rest → SpellsText more rest [] → SpellsText (text ++ more) bytes []
SpellsText-join [] more bytes rest h g = subst (λ l. SpellsText more l []) (sym h) g
SpellsText-join (c ∷ text) more bytes rest h g = (h.0, h.1, SpellsText-join text more h.0 rest h.2 g)

spelled_more : (text inner own : List ℕ) (c : ℕ) → SpellsText text inner [] → StandsFor c own [] → SpellsText (text ++ c ∷ []) (inner ++ own) []
spelled_more text inner own c h g = SpellsText-join text (c ∷ []) (inner ++ own) own (SpellsText-append text inner [] own h) ([], g, refl)

behind-append : (escaped : Bool) (b : ℕ) (bs : List ℕ) → behind escaped (b ∷ bs) ≡ behind escaped (b ∷ []) ++ bs
behind-append true b bs = refl
behind-append false b bs = refl

no_escape_is : (escaped : Bool) (b : ℕ) → string_byte escaped b ≡ inside.NoEscape → (escaped ≡ true) × ((b ≡ 34 → ⊥) × (b ≡ 92 → ⊥) × (b ≡ 110 → ⊥))
no_escape_is true b e = (refl, ((λ q. grind (arith, nat_tests)), (λ q. grind (arith, nat_tests)), (λ q. grind (arith, nat_tests))))
no_escape_is false b e = absurd (grind (arith, nat_tests))

breaks_is : (escaped : Bool) (b : ℕ) → string_byte escaped b ≡ inside.BreaksLine → (escaped ≡ false) × (b ≡ 10)
breaks_is true b e = grind (arith, nat_tests)
breaks_is false b e = grind (arith, nat_tests)

-- how many bytes are before the next one: those of the text so far, the quote, and perhaps a backslash
abbrev before : Bool → List ℕ → ℕ
before true inner = 1 + length inner + 1
before false inner = 1 + length inner

before_own : (escaped : Bool) (b : ℕ) (inner own : List ℕ) → own ≡ behind escaped (b ∷ []) → before false (inner ++ own) ≡ before escaped inner + 1
before_own true b inner own e = omega (arith, length-append inner own, ap length e)
before_own false b inner own e = omega (arith, length-append inner own, ap length e)

string_at-stops : (s : StringByte) (bad escaped : Bool) (at b : ℕ) (text inner bs : List ℕ) → string_byte escaped b ≡ s → SpellsText text inner [] →
    ((c : ℕ) (own : List ℕ) → StandsFor c own [] → own ≡ behind escaped (b ∷ [])
    → StopsAt bad at (34 ∷ ((inner ++ own) ++ bs)) (string bad false (text ++ c ∷ []) (before escaped inner + 1) bs)) →
    (escaped ≡ false → b ≡ 92 → StopsAt bad at (34 ∷ (inner ++ 92 ∷ bs)) (string bad true text (before escaped inner + 1) bs)) →
    StopsAt bad at (34 ∷ (inner ++ behind escaped (b ∷ bs)))
    (string_at s text (before escaped inner) (λ c. string bad false (text ++ c ∷ []) (before escaped inner + 1) bs)
    (string bad true text (before escaped inner + 1) bs))
string_at-stops (inside.Stands c) bad escaped at b text inner bs e h stands escapes =
    let own = behind escaped (b ∷ []) in
    let whole : 34 ∷ ((inner ++ own) ++ bs) ≡ 34 ∷ (inner ++ behind escaped (b ∷ bs)) =
    ap (λ l. 34 ∷ l) (append_assoc inner own bs ∙ ap (λ l. inner ++ l) (sym (behind-append escaped b bs))) in
    subst (λ l. StopsAt bad at l (string bad false (text ++ c ∷ []) (before escaped inner + 1) bs)) whole (stands c own (stood escaped b c [] e) refl)
string_at-stops inside.Escapes bad escaped at b text inner bs e h stands escapes =
    let k = escapes_is escaped b e in
    let whole : 34 ∷ (inner ++ 92 ∷ bs) ≡ 34 ∷ (inner ++ behind escaped (b ∷ bs)) = (λ i. 34 ∷ (inner ++ behind (sym k.0 i) (sym k.1 i ∷ bs))) in
    subst (λ l. StopsAt bad at l (string bad true text (before escaped inner + 1) bs)) whole (escapes k.0 k.1)
string_at-stops inside.Closes bad escaped at b text inner bs e h stands escapes = tt
string_at-stops inside.BreaksLine bad escaped at b text inner bs e h stands escapes =
    let k = breaks_is escaped b e in
    let whole : 34 ∷ (inner ++ 10 ∷ bs) ≡ 34 ∷ (inner ++ behind escaped (b ∷ bs)) = (λ i. 34 ∷ (inner ++ behind (sym k.0 i) (sym k.1 i ∷ bs))) in
    subst (λ l. Stops bad at l (lexical.OpenString (at + 0))) whole
    (subst (λ m. Stops bad at (34 ∷ (inner ++ 10 ∷ bs)) (lexical.OpenString m)) (let z : at ≡ at + 0 = omega arith in z) (broken_string text inner bs h))
string_at-stops inside.NoEscape bad escaped at b text inner bs e h stands escapes =
    let k = no_escape_is escaped b e in
    let whole : 34 ∷ (inner ++ 92 ∷ b ∷ bs) ≡ 34 ∷ (inner ++ behind escaped (b ∷ bs)) = (λ i. 34 ∷ (inner ++ behind (sym k.0 i) (b ∷ bs))) in
    let len : 1 + length inner ≡ before escaped inner - 1 = omega (arith, ap (λ x. before x inner) k.0) in
    same bad at (1 + length inner) (before escaped inner - 1) _ _ faults.BadByte whole len (no_escape text inner (b ∷ bs) h (k.1.0, k.1.1, k.1.2))

string-stops : (bad escaped : Bool) (at : ℕ) (text inner bs : List ℕ) → SpellsText text inner []
    → StopsAt bad at (34 ∷ (inner ++ behind escaped bs)) (string bad escaped text (before escaped inner) bs)
string-stops bad true at text inner [] h =
    let len : 1 + length inner ≡ before true inner - 1 = omega arith in
    same bad at (1 + length inner) (before true inner - 1) _ _ faults.BadByte refl len (no_escape text inner [] h tt)
string-stops true false at text inner [] h =
    subst (λ l. Stops true at (34 ∷ l) (lexical.BadByte (at + (1 + length inner)))) (sym (append-nil inner)) (bad_byte_in_string text inner refl h)
string-stops false false at text inner [] h =
    let z : at ≡ at + 0 = omega arith in
    subst (λ m. Stops false at (34 ∷ (inner ++ [])) (lexical.OpenString m)) z
    (subst (λ l. Stops false at (34 ∷ l) (lexical.OpenString at)) (sym (append-nil inner)) (open_string text inner refl h))
string-stops bad escaped at text inner (b ∷ bs) h =
    string_at-stops (string_byte escaped b) bad escaped at b text inner bs refl h
    (λ c own g e.
    let len : before false (inner ++ own) ≡ before escaped inner + 1 = before_own escaped b inner own e in
    subst (λ n. StopsAt bad at (34 ∷ ((inner ++ own) ++ bs)) (string bad false (text ++ c ∷ []) n bs)) len
    (string-stops bad false at (text ++ c ∷ []) (inner ++ own) bs (spelled_more text inner own c h g)))
    (λ e g.
    let len : before true inner ≡ before escaped inner + 1 = omega (arith, ap (λ x. before x inner) e) in
    subst (λ n. StopsAt bad at (34 ∷ (inner ++ 92 ∷ bs)) (string bad true text n bs)) len (string-stops bad true at text inner bs h))

-- a template without its end
template-unended : (bad : Bool) (n : ℕ) (bs : List ℕ) (kind : FaultKind) (m : ℕ) → template bad n bs ≡ pieces.Fault kind m
    → HasNoEnd bs × (pieces.Fault kind m ≡ (if bad then pieces.Fault faults.BadByte (n + length bs) else pieces.Fault faults.OpenTemplate 0))
template-unended true n [] kind m e = (none_in_nil, sym e ∙ ap (pieces.Fault faults.BadByte) (omega arith))
template-unended false n [] kind m e = (none_in_nil, sym e)
template-unended bad n (b ∷ bs) kind m e = elim (true_or_false (starts_with nat_eq (b ∷ bs) (codes "</html>"))) [
  | inl h ↦
      let q : pieces.Token kinds.Template (n + 7) ≡ pieces.Fault kind m =
      ap (λ t. if t then pieces.Token kinds.Template (n + 7) else template bad (n + 1) bs) (sym h) ∙ e in
      absurd (cc)
  | inr h ↦
      let f = template-unended bad (n + 1) bs kind m (ap (λ t. if t then pieces.Token kinds.Template (n + 7) else template bad (n + 1) bs) (sym h) ∙ e) in
      let nil = append-nil bs in (
        no_end_in_front b bs [] (ap (λ l. starts_with nat_eq (b ∷ l) (codes "</html>")) nil ∙ h) f.0,
        f.1 ∙ ap (λ k. if bad then pieces.Fault faults.BadByte k else pieces.Fault faults.OpenTemplate 0) (omega arith),
      )
]

unended-stops : (bad : Bool) (at : ℕ) (bs : List ℕ) → HasNoEnd bs
    → StopsAt bad at (codes "<html>" ++ bs) (if bad then pieces.Fault faults.BadByte (6 + length bs) else pieces.Fault faults.OpenTemplate 0)
unended-stops true at bs h = bad_byte_in_template bs refl h
unended-stops false at bs h =
    subst (λ m. Stops false at (codes "<html>" ++ bs) (lexical.OpenTemplate m)) (let z : at ≡ at + 0 = omega arith in z) (open_template bs refl h)

template-stops : (bad : Bool) (at : ℕ) (bs : List ℕ) (p : Piece) → template bad 6 bs ≡ p → StopsAt bad at (codes "<html>" ++ bs) p
template-stops bad at bs (pieces.Gap n) e = tt
template-stops bad at bs (pieces.Token kind n) e = tt
template-stops bad at bs (pieces.Fault kind n) e =
    let f = template-unended bad 6 bs kind n e in
    subst (StopsAt bad at (codes "<html>" ++ bs)) (sym f.1) (unended-stops bad at bs f.0)

-- a number that is too big
number-stops : (bad : Bool) (at b : ℕ) (bs : List ℕ) → is_digit b ≡ true → StopsAt bad at (b ∷ bs) (number (b ∷ bs))
number-stops bad at b bs h =
    let n = prefix_len is_digit (b ∷ bs) in
    let own = take n (b ∷ bs) in
    if_branch (StopsAt bad at (b ∷ bs)) (nat_le (value own) 9_223_372_036_854_775_807) _ _ (λ g. tt)
    (λ g.
    let most : 9_223_372_036_854_775_807 < value own = leb-false _ _ g in
    let is : IsNumber (value own) own =
    ((λ e. let q : b ∷ take (n - 1) bs ≡ [] = sym (take_first n b bs (some is_digit b bs h).0) ∙ e in cc), passing is_digit (b ∷ bs) n refl, refl) in
    let z : at ≡ at + 0 = omega arith in
    subst (λ m. Stops bad at (b ∷ bs) (lexical.NumberTooBig m)) z
    (subst (λ l. Stops bad at l (lexical.NumberTooBig at)) (take-append-drop n (b ∷ bs))
    (big_number (value own) own (drop n (b ∷ bs)) is (omega (arith, most)))))

-- a byte that begins nothing
record BeginsNoPiece (b : ℕ) (bs : List ℕ) : Type 0 where
  pub blank : is_blank b ≡ false
  pub letter : is_letter b ≡ false
  pub digit : is_digit b ≡ false
  pub quote : (b == 34) ≡ false
  pub line : starts_with nat_eq (b ∷ bs) (codes "//") ≡ false
  pub html : starts_with nat_eq (b ∷ bs) (codes "<html>") ≡ false
  pub sign : is_sign b ≡ false
  pub pair : (c : ℕ) (cs : List ℕ) → bs ≡ c ∷ cs → is_pair b c ≡ false

no-gap : (b : ℕ) (bs own rest : List ℕ) → BeginsNoPiece b bs → b ∷ bs ≡ own ++ rest → IsGap own → ⊥
no-gap b bs own rest h e (inl g) =
    let first : b ≡ g.0 = ap (λ l. get_or l 0 0) (e ∙ ap (λ l. l ++ rest) g.1) in
    let is : is_blank b ≡ true = ap is_blank first ∙ g.2 in
    let not = h.blank in
    cc
no-gap b bs own rest h e (inr g) =
    let is = starts_there (b ∷ bs) (codes "//") (g.0 ++ rest) (e ∙ ap (λ l. l ++ rest) g.1) in
    let not = h.line in
    cc

no-html : (b : ℕ) (bs own rest more : List ℕ) → BeginsNoPiece b bs → b ∷ bs ≡ own ++ rest → own ≡ codes "<html>" ++ more → ⊥
no-html b bs own rest more h e g =
    let is = starts_there (b ∷ bs) (codes "<html>") (more ++ rest) (e ∙ ap (λ l. l ++ rest) g) in
    let not = h.html in
    cc

no-token : (kind : TokenKind) (b : ℕ) (bs own rest : List ℕ) → BeginsNoPiece b bs → b ∷ bs ≡ own ++ rest → HasForm kind own → ⊥
no-token kinds.Word b bs [] rest h e g = absurd g
no-token kinds.Word b bs (o ∷ os) rest h e g =
    let first : b ≡ o = cc in
    let is : is_letter b ≡ true = ap is_letter first ∙ g.0 in
    let not = h.letter in
    cc
no-token (kinds.Number v) b bs [] rest h e g = g.0 refl
no-token (kinds.Number v) b bs (o ∷ os) rest h e g =
    let first : b ≡ o = cc in
    let is : is_digit b ≡ true = ap is_digit first ∙ all_head is_digit o os g.1 in
    let not = h.digit in
    cc
no-token (kinds.Str text) b bs own rest h e g =
    let first : b ≡ 34 = ap (λ l. get_or l 0 0) (e ∙ ap (λ l. l ++ rest) g.1) in
    let is : (b == 34) ≡ true = ap (λ c. c == 34) first in
    let not = h.quote in
    cc
no-token kinds.Template b bs own rest h e g = no-html b bs own rest (g.0 ++ codes "</html>") h e g.1
no-token kinds.Sign b bs [] rest h e g = absurd g
no-token kinds.Sign b bs (o ∷ []) rest h e g =
    let first : b ≡ o = cc in
    let is : is_sign b ≡ true = ap is_sign first ∙ g in
    let not = h.sign in
    cc
no-token kinds.Sign b bs (o ∷ p ∷ []) rest h e g =
    let first : b ≡ o = cc in
    let second : bs ≡ p ∷ rest = cc in
    let is : is_pair b p ≡ true = ap (λ c. is_pair c p) first ∙ g in
    let not = h.pair p rest second in
    cc
no-token kinds.Sign b bs (o ∷ p ∷ q ∷ os) rest h e g = absurd g

begins-nothing : (b : ℕ) (bs : List ℕ) → BeginsNoPiece b bs → BeginsNothing (b ∷ bs)
begins-nothing b bs h own rest e (inl g) = absurd (no-gap b bs own rest h e g)
begins-nothing b bs h own rest e (inr (inl g)) = absurd (no-token g.0 b bs own rest h e g.1)
begins-nothing b bs h own rest e (inr (inr g)) = absurd (no-html b bs own rest g.0 h e g.1)

stray-stops : (bad : Bool) (at b : ℕ) (bs : List ℕ) → BeginsNoPiece b bs → Stops bad at (b ∷ bs) (lexical.BadByte (at + 0))
stray-stops bad at b bs h =
    let no_quote : b ≢ 34 = λ e. let is : (b == 34) ≡ true = ap (λ c. c == 34) e in let not = h.quote in cc in
    subst (λ m. Stops bad at (b ∷ bs) (lexical.BadByte m)) (let z : at ≡ at + 0 = omega arith in z) (stray_byte b bs no_quote (begins-nothing b bs h))

sign-stops : (bad : Bool) (at b : ℕ) (bs : List ℕ) → is_blank b ≡ false → is_letter b ≡ false → is_digit b ≡ false → (b == 34) ≡ false
    → starts_with nat_eq (b ∷ bs) (codes "//") ≡ false → starts_with nat_eq (b ∷ bs) (codes "<html>") ≡ false → StopsAt bad at (b ∷ bs) (sign (b ∷ bs))
unfolding sign
sign-stops bad at b [] h1 h2 h3 h4 h5 h6 = if_branch (StopsAt bad at (b ∷ [])) (is_sign b) _ _ (λ e. tt)
    (λ e. stray-stops bad at b [] (record { blank = h1; letter = h2; digit = h3; quote = h4; line = h5; html = h6; sign = e; pair = λ c cs q. absurd (cc) }))
sign-stops bad at b (c ∷ cs) h1 h2 h3 h4 h5 h6 =
    let P : Piece → Type 0 = StopsAt bad at (b ∷ c ∷ cs) in
    if_branch P (is_pair b c) _ _ (λ e. tt) (λ f. if_branch P (is_sign b) _ _ (λ e. tt)
    (λ e. stray-stops bad at b (c
    ∷ cs) (record {
      blank = h1;
      letter = h2;
      digit = h3;
      quote = h4;
      line = h5;
      html = h6;
      sign = e;
      pair = λ d ds q. let same : c ≡ d = cc in
          ap (is_pair b) (sym same) ∙ f;
    })))

branch-stops : (bad : Bool) (at b : ℕ) (bs : List ℕ) (p : Piece) → Branch bad b bs p → StopsAt bad at (b ∷ bs) p
branch-stops bad at b bs p (blank h) = tt
branch-stops bad at b bs p (word h) = tt
branch-stops bad at b bs p (digits h) = number-stops bad at b bs h
branch-stops bad at b bs p (quoted h) = subst (λ c. StopsAt bad at (c ∷ bs) (string bad false [] 1 bs)) (sym h) (string-stops bad false at [] [] bs refl)
branch-stops bad at b bs p (comment h) = tt
branch-stops bad at b bs p (markup h) =
    subst (λ l. StopsAt bad at l (template bad 6 (drop 6 (b ∷ bs)))) (sym h) (template-stops bad at (drop 6 (b ∷ bs)) (template bad 6 (drop 6 (b ∷ bs))) refl)
branch-stops bad at b bs p (other h1 h2 h3 h4 h5 h6) = sign-stops bad at b bs h1 h2 h3 h4 h5 h6

pub piece-stops : (bad : Bool) (at b : ℕ) (bs : List ℕ) → StopsAt bad at (b ∷ bs) (piece bad (b ∷ bs))
piece-stops bad at b bs = branch-stops bad at b bs (piece bad (b ∷ bs)) (branch bad b bs)
