-- What stands at the front of lexemes, where a step finds something there.
use Rattle.std.proofs.Common.{◌≡◌, ℕ, Bool, true, false, cond, ◌==◌, List, [], ◌∷◌, Option, Some, None, refl, sym, ap, ◌∙◌, subst, inl, inr, codes}
use Rattle.std.specs.Prelude.{if◌then◌else◌}
use Rattle.std.proofs.lemmas.Bool.{eqb-true}
use Rattle.std.specs.Cmp.Lexicographic.{bytes_decides}
use Rattle.bw_lang.specs.declared.expr.Fun.{Fun}
use Rattle.bw_lang.specs.declared.expr.Fun.TheVariants as funs
use Rattle.bw_lang.specs.declared.expr.Op.{Op}
use Rattle.bw_lang.specs.declared.expr.Op.TheVariants as ops
use Rattle.bw_lang.specs.declared.stmt.Kind.{Kind}
use Rattle.bw_lang.specs.declared.stmt.Kind.TheVariants as kinds
use Rattle.bw_lang.specs.Service.Drafts.{IsShareable}
use Rattle.bw_lang.specs.Text.Keywords.{is, is_keyword}
use Rattle.bw_lang.specs.Text.Levels.{op_level}
use Rattle.bw_lang.specs.declared.token.Lexeme.{Lexeme}
use Rattle.bw_lang.specs.declared.token.Lexeme.TheVariants as lex
use Rattle.bw_lang.proofs.Options.{some_is, bind_some, chosen}
use Rattle.bw_lang.specs.Text.Words.{op_sign, truth_word, fun_word, kind_word}
use Rattle.bw_parse.specs.declared.lexemes.Meaning.{Meaning}
use Rattle.bw_parse.specs.declared.lexemes.Meaning.TheVariants.{Truth, Function, Nothing, Other, Free}
use Rattle.bw_parse.specs.Steps.Fronts.{behind, keyword, word, named, op_of, if_level, operator, meaning, kind_of, kind, is_list, shared_kind}

abbrev pub some : {A : Type 0} → A → Option A
some x = Some x

-- ---- words and signs

pub is_same : (w v : List ℕ) → is w v ≡ true → w ≡ v
is_same w v e = (bytes_decides w v).0 e

pub is_self : (w : List ℕ) → is w w ≡ true
is_self w = (bytes_decides w w).1 refl

-- no keyword is a word that is none
pub not_keyword : (w v : List ℕ) → is_keyword w ≡ false → is_keyword v ≡ true → is w v ≡ false
not_keyword w v n y = go (is w v) (is_same w v)
  where
    go : (b : Bool) → (b ≡ true → w ≡ v) → b ≡ false
    go true h = let e = ap is_keyword (h refl) in absurd cc
    go false h = refl

pub behind_is : (s : List ℕ) (ts k : List Lexeme) → behind s ts ≡ Some k → ts ≡ lex.Sign s ∷ k
unfolding behind
behind_is s [] k e = absurd cc
behind_is s (lex.Sign t ∷ ts) k e =
    elim (chosen (is t s) (Some ts) None (Some k) e) [
      | inl h ↦ let p : t ≡ s = is_same t s h.0 in let q = h.1 in cc
      | inr h ↦ let q = h.1 in absurd cc
    ]
behind_is s (t ∷ ts) k e = absurd cc

pub behind_self : (s : List ℕ) (k : List Lexeme) → behind s (lex.Sign s ∷ k) ≡ Some k
unfolding behind
behind_self s k = rw (is_self s) refl

pub keyword_is : (v : List ℕ) (ts k : List Lexeme) → keyword v ts ≡ Some k → ts ≡ lex.Word v ∷ k
unfolding keyword
keyword_is v [] k e = absurd cc
keyword_is v (lex.Word w ∷ ts) k e =
    elim (chosen (is w v) (Some ts) None (Some k) e) [
      | inl h ↦ let p : w ≡ v = is_same w v h.0 in let q = h.1 in cc
      | inr h ↦ let q = h.1 in absurd cc
    ]
keyword_is v (t ∷ ts) k e = absurd cc

pub no_keyword : (v w : List ℕ) (ts : List Lexeme) → is_keyword w ≡ false → is_keyword v ≡ true → keyword v (lex.Word w ∷ ts) ≡ None
unfolding keyword
no_keyword v w ts n y = rw (not_keyword w v n y) refl

pub word_is : (ts : List Lexeme) (x : List ℕ × List Lexeme) → word ts ≡ Some x → ts ≡ lex.Word x.0 ∷ x.1
unfolding word
word_is [] x e = absurd cc
word_is (lex.Word w ∷ ts) x e = let p : (w, ts) ≡ x = cc in ap (λ (y : List ℕ × List Lexeme). lex.Word y.0 ∷ y.1) p
word_is (t ∷ ts) x e = absurd cc

pub named_is : (ts : List Lexeme) (x : List ℕ × List Lexeme) → named ts ≡ Some x → (ts ≡ lex.Word x.0 ∷ x.1) × (is_keyword x.0 ≡ false)
unfolding named
named_is ts x e =
    let w = bind_some (word ts) (λ w. if is_keyword w.0 then None else Some w) x e in
    elim (chosen (is_keyword w.0.0) None (Some w.0) (Some x) w.2) [
      | inl h ↦ let q = h.1 in absurd cc
      | inr h ↦
          let p = some_is w.0 x h.1 in
          (word_is ts w.0 w.1 ∙ ap (λ (y : List ℕ × List Lexeme). lex.Word y.0 ∷ y.1) p, sym (ap (λ (y : List ℕ × List Lexeme). is_keyword y.0) p) ∙ h.0)
    ]

-- ---- operators

-- one case of a chain of tests: where it gives something, the test holds and gives it, or the rest does
test : {A : Type 0} (s t : List ℕ) (x : A) (rest : Option A) (y : A) (sign : A → List ℕ) → sign x ≡ t → cond (is s t) (Some x) rest ≡ Some y
    → (rest ≡ Some y → s ≡ sign y) → s ≡ sign y
test s t x rest y sign p e more =
    elim (chosen (is s t) (Some x) rest (Some y) e) [
      | inl h ↦ is_same s t h.0 ∙ sym p ∙ ap sign (some_is x y h.1)
      | inr h ↦ more h.1
    ]

op_of_is : (s : List ℕ) (op : Op) → op_of s ≡ Some op → s ≡ op_sign op
op_of_is s op e =
    test s (codes "||") ops.Or _ op op_sign refl e λ e. test s (codes "&&") ops.And _ op op_sign refl e λ e.
    test s (codes "==") ops.Eq _ op op_sign refl e λ e. test s (codes "!=") ops.Ne _ op op_sign refl e λ e.
    test s (codes "<") ops.Lt _ op op_sign refl e λ e. test s (codes "<=") ops.Le _ op op_sign refl e λ e.
    test s (codes ">") ops.Gt _ op op_sign refl e λ e. test s (codes ">=") ops.Ge _ op op_sign refl e λ e.
    test s (codes "+") ops.Add _ op op_sign refl e λ e. test s (codes "-") ops.Sub _ op op_sign refl e λ e.
    test s (codes "*") ops.Mul _ op op_sign refl e λ e. test s (codes "/") ops.Div _ op op_sign refl e λ e.
    test s (codes "%") ops.Rem _ op op_sign refl e λ e. absurd cc

if_level_is : (n : ℕ) (ts : List Lexeme) (op : Op) (x : Op × List Lexeme) → if_level n ts op ≡ Some x → (op ≡ x.0) × (ts ≡ x.1) × (op_level op ≡ n)
if_level_is n ts op x e =
    elim (chosen (op_level op == n) (Some (op, ts)) None (Some x) e) [
      | inl h ↦
          let p : (op, ts) ≡ x = some_is (op, ts) x h.1 in
          (ap (λ (y : Op × List Lexeme). y.0) p, ap (λ (y : Op × List Lexeme). y.1) p, eqb-true (op_level op) n h.0)
      | inr h ↦ let q = h.1 in absurd cc
    ]

pub operator_is : (n : ℕ) (ts : List Lexeme) (x : Op × List Lexeme) → operator n ts ≡ Some x → (ts ≡ lex.Sign (op_sign x.0) ∷ x.1) × (op_level x.0 ≡ n)
unfolding operator
operator_is n [] x e = absurd cc
operator_is n (lex.Sign s ∷ ts) x e =
    let h = bind_some (op_of s) (if_level n ts) x e in
    let p = if_level_is n ts h.0 x h.2 in
    let a : s ≡ op_sign x.0 = op_of_is s h.0 h.1 ∙ ap op_sign p.0 in
    (λ i. lex.Sign (a i) ∷ p.1 i, sym (ap op_level p.0) ∙ p.2)
operator_is n (t ∷ ts) x e = absurd cc

-- ---- what words mean

-- what a word is, by its meaning
Says : List ℕ → Meaning → Type 0
Says w (Truth b) = w ≡ truth_word b
Says w (Function f) = w ≡ fun_word f
Says w Nothing = w ≡ codes "none"
Says w Other = Unit {0}
Says w Free = is_keyword w ≡ false

meaning_says : (w : List ℕ) → Says w (meaning w)
unfolding Says meaning
meaning_says w =
    step (is w (codes "true")) (Truth true) _ (λ h. is_same w (codes "true") h) λ h.
    step (is w (codes "false")) (Truth false) _ (λ h. is_same w (codes "false") h) λ h.
    step (is w (codes "text")) (Function funs.Text) _ (λ h. is_same w (codes "text") h) λ h.
    step (is w (codes "number")) (Function funs.Number) _ (λ h. is_same w (codes "number") h) λ h.
    step (is w (codes "isnumber")) (Function funs.IsNumber) _ (λ h. is_same w (codes "isnumber") h) λ h.
    step (is w (codes "count")) (Function funs.Count) _ (λ h. is_same w (codes "count") h) λ h.
    step (is w (codes "none")) Nothing _ (λ h. is_same w (codes "none") h) λ h.
    step (is_keyword w) Other Free (λ h. tt) (λ h. h)
  where
    step : (b : Bool) (m n : Meaning) → (b ≡ true → Says w m) → (b ≡ false → Says w n) → Says w (cond b m n)
    step true m n p q = p refl
    step false m n p q = q refl

pub truth_is : (w : List ℕ) (b : Bool) → meaning w ≡ Truth b → w ≡ truth_word b
unfolding Says
truth_is w b e = subst (Says w) e (meaning_says w)

pub function_is : (w : List ℕ) (f : Fun) → meaning w ≡ Function f → w ≡ fun_word f
unfolding Says
function_is w f e = subst (Says w) e (meaning_says w)

pub nothing_is : (w : List ℕ) → meaning w ≡ Nothing → w ≡ codes "none"
unfolding Says
nothing_is w e = subst (Says w) e (meaning_says w)

pub free_is : (w : List ℕ) → meaning w ≡ Free → is_keyword w ≡ false
unfolding Says
free_is w e = subst (Says w) e (meaning_says w)

pub free_meaning : (w : List ℕ) → is_keyword w ≡ false → meaning w ≡ Free
unfolding meaning
free_meaning w n =
    past (is w (codes "true")) _ _ (not_keyword w (codes "true") n refl) (past (is w (codes "false")) _ _ (not_keyword w (codes "false") n refl)
    (past (is w (codes "text")) _ _ (not_keyword w (codes "text") n refl) (past (is w (codes "number")) _ _ (not_keyword w (codes "number") n refl)
    (past (is w (codes "isnumber")) _ _ (not_keyword w (codes "isnumber") n refl) (past (is w (codes "count")) _ _ (not_keyword w (codes "count") n refl)
    (past (is w (codes "none")) _ _ (not_keyword w (codes "none") n refl) (past (is_keyword w) _ _ n refl)))))))
  where
    past : (b : Bool) (m n : Meaning) → b ≡ false → n ≡ Free → cond b m n ≡ Free
    past true m n f p = absurd cc
    past false m n f p = p

-- ---- kinds

kind_of_is : (w : List ℕ) (t : Kind) → kind_of w ≡ Some t → w ≡ kind_word t
kind_of_is w t e =
    test w (codes "int") kinds.Int _ t kind_word refl e λ e. test w (codes "bool") kinds.Bool _ t kind_word refl e λ e.
    test w (codes "string") kinds.Str _ t kind_word refl e λ e. test w (codes "html") kinds.Html _ t kind_word refl e λ e.
    test w (codes "strings") kinds.Strs _ t kind_word refl e λ e. absurd cc

pub kind_is : (ts : List Lexeme) (x : Kind × List Lexeme) → kind ts ≡ Some x → ts ≡ lex.Word (kind_word x.0) ∷ x.1
unfolding kind
kind_is ts x e =
    let w = bind_some (word ts) _ x e in
    let t = bind_some (kind_of w.0.0) (λ t. Some (t, w.0.1)) x w.2 in
    let p = some_is (t.0, w.0.1) x t.2 in
    word_is ts w.0 w.1 ∙ ap (λ v. lex.Word v ∷ w.0.1) (kind_of_is w.0.0 t.0 t.1) ∙ ap (λ (y : Kind × List Lexeme). lex.Word (kind_word y.0) ∷ y.1) p

pub kind_self : (t : Kind) (k : List Lexeme) → kind (lex.Word (kind_word t) ∷ k) ≡ Some (t, k)
unfolding kind word
kind_self kinds.Int k = refl
kind_self kinds.Bool k = refl
kind_self kinds.Str k = refl
kind_self kinds.Html k = refl
kind_self kinds.Strs k = refl

-- a name is no kind
pub no_kind : (w : List ℕ) (ts : List Lexeme) → is_keyword w ≡ false → kind (lex.Word w ∷ ts) ≡ None
unfolding kind word
no_kind w ts n =
    rw (
      not_keyword w (codes "int") n refl,
      not_keyword w (codes "bool") n refl,
      not_keyword w (codes "string") n refl,
      not_keyword w (codes "html") n refl,
      not_keyword w (codes "strings") n refl,
    ) refl

-- a kind that is no list
pub shareable : (t : Kind) → is_list t ≡ false → IsShareable t
shareable kinds.Strs l e = absurd cc
shareable t l e = let p : true ≡ false = sym (ap is_list e) ∙ l in absurd cc

pub shared_kind_is : (ts : List Lexeme) (x : Kind × List Lexeme) → shared_kind ts ≡ Some x → (ts ≡ lex.Word (kind_word x.0) ∷ x.1) × IsShareable x.0
unfolding shared_kind
shared_kind_is ts x e =
    let t = bind_some (kind ts) _ x e in
    elim (chosen (is_list t.0.0) None (Some t.0) (Some x) t.2) [
      | inl h ↦ let q = h.1 in absurd cc
      | inr h ↦
          subst (λ (y : Kind × List Lexeme). (ts ≡ lex.Word (kind_word y.0) ∷ y.1) × IsShareable y.0) (some_is t.0 x h.1)
          (kind_is ts t.0 t.1, shareable t.0.0 h.0)
    ]

pub shared_kind_self : (t : Kind) (k : List Lexeme) → IsShareable t → shared_kind (lex.Word (kind_word t) ∷ k) ≡ Some (t, k)
unfolding shared_kind kind word
shared_kind_self kinds.Int k s = refl
shared_kind_self kinds.Bool k s = refl
shared_kind_self kinds.Str k s = refl
shared_kind_self kinds.Html k s = refl
shared_kind_self kinds.Strs k s = absurd (s refl)
