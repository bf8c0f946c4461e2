-- More steps than can be needed change nothing.
use Rattle.std.proofs.Common.{◌≡◌, ℕ, zero, suc, ◌+◌, ◌*◌, ◌<◌, ◌≤◌, Bool, true, false, cond, ◌==◌, List, [], ◌∷◌, length, Option, Some, None, refl}
use Rattle.std.proofs.Common.{ap, ◌∙◌, arith}
use Rattle.std.specs.Prelude.{nat_lt, codes}
use Rattle.std.proofs.lemmas.Bool.{eqb-true, eqb-false, ltb-true, ltb-false}
use Rattle.bw_lang.specs.declared.token.Lexeme.{Lexeme}
use Rattle.bw_lang.specs.declared.token.Lexeme.TheVariants as lex
use Rattle.bw_lang.specs.Text.Levels.{left_level}
use Rattle.bw_lang.specs.Service.Term.{Term, paren, not, neg, binary, call, plug, Fillings, no_more, filling, append_fillings}
use Rattle.bw_parse.specs.declared.lexemes.Meaning.{Meaning}
use Rattle.bw_parse.specs.declared.lexemes.Meaning.TheVariants.{Truth, Function, Nothing, Other, Free}
use Rattle.bw_lang.specs.Table.Options.{◌>>=◌, where_some}
use Rattle.bw_parse.specs.Steps.Fronts.{behind, word, operator, meaning}
use Rattle.bw_parse.specs.Steps.Expressions.{expr, more, prefix, plugs, pairs, atom, inside, by_meaning}
use Rattle.bw_parse.proofs.Shorter.{expr_shorter, atom_shorter, pairs_shorter, behind_shorter, word_shorter, operator_shorter}

-- ---- equal parts

pub bind_same : {A B : Type 0} (o p : Option A) (q r : A → Option B) → o ≡ p → ((x : A) → p ≡ Some x → q x ≡ r x) → (o >>= q) ≡ (p >>= r)
bind_same {B = B} o p q r e h = ap (λ (y : Option _). y >>= q) e ∙ go p h
  where
    go : (p : Option _) → ((x : _) → p ≡ Some x → q x ≡ r x) → (p >>= q) ≡ (p >>= r)
    go (Some x) h = h x refl
    go None h = refl

pub where_same : {A B : Type 0} (o : Option A) (q r : A → B) (d c : B) → ((x : A) → o ≡ Some x → q x ≡ r x) → (o ≡ None → d ≡ c)
    → where_some o q d ≡ where_some o r c
where_same (Some x) q r d c h e = h x refl
where_same None q r d c h e = e refl

pub if_same : {A : Type 0} (b : Bool) (x y z w : A) → (b ≡ true → x ≡ z) → (b ≡ false → y ≡ w) → cond b x y ≡ cond b z w
if_same true x y z w p q = p refl
if_same false x y z w p q = q refl

-- ---- one step more changes nothing

mutual
  unfolding expr

  pub stable_expr : (f n : ℕ) (ts : List Lexeme) → n ≤ 8 → 20 * length ts + 20 ≤ f + 2 * n → expr (suc f) n ts ≡ expr f n ts
  stable_expr zero n ts b le = absurd (omega arith)
  stable_expr (suc f) n ts b le =
      if_same (nat_lt n 7) _ _ _ _
      (λ h. let lt = ltb-true n 7 h in
      bind_same (expr (suc f) (n + 1) ts) (expr f (n + 1) ts) _ _ (stable_expr f (n + 1) ts (omega arith) (omega arith))
      (λ x e. stable_more f n x.0 x.1 lt (let s = expr_shorter f (n + 1) ts x (omega arith) e in omega arith)))
      (λ h. let ge = ltb-false n 7 h in
      if_same (n == 7) _ _ _ _
      (λ i. let seven = eqb-true n 7 i in stable_prefix f ts (omega arith))
      (λ i. bind_same (atom (suc f) ts) (atom f ts) _ _ (stable_atom f ts (let ne = eqb-false n 7 i in omega arith))
      (λ x e. let s = atom_shorter f ts x e in stable_plugs f x.0 x.1 (omega arith))))

  pub stable_more : (f n : ℕ) (left : Term) (ts : List Lexeme) → n < 7 → 20 * length ts + 1 ≤ f → more (suc f) n left ts ≡ more f n left ts
  stable_more zero n left ts b le = absurd (omega arith)
  stable_more (suc f) n left ts b le =
      where_same (operator n ts) _ _ _ _
      (λ o p. let s = operator_shorter n ts o p in
      bind_same (expr (suc f) (n + 1) o.1) (expr f (n + 1) o.1) _ _ (stable_expr f (n + 1) o.1 (omega arith) (omega arith))
      (λ x e. let t = expr_shorter f (n + 1) o.1 x (omega arith) e in
      if_same (left_level n == n) _ _ _ _ (λ i. stable_more f n (binary o.0 left x.0) x.1 b (omega arith)) (λ i. refl)))
      (λ p. refl)

  pub stable_prefix : (f : ℕ) (ts : List Lexeme) → 20 * length ts + 5 ≤ f → prefix (suc f) ts ≡ prefix f ts
  stable_prefix zero ts le = absurd (omega arith)
  stable_prefix (suc f) ts le =
      where_same (behind (codes "!") ts) _ _ _ _
      (λ k p. let s = behind_shorter (codes "!") ts k p in ap (λ o. o >>= λ x. Some (not x.0, x.1)) (stable_expr f 7 k (omega arith) (omega arith)))
      (λ p. where_same (behind (codes "-") ts) _ _ _ _
      (λ k p. let s = behind_shorter (codes "-") ts k p in ap (λ o. o >>= λ x. Some (neg x.0, x.1)) (stable_expr f 7 k (omega arith) (omega arith)))
      (λ p. stable_expr f 8 ts (omega arith) (omega arith)))

  pub stable_plugs : (f : ℕ) (base : Term) (ts : List Lexeme) → 20 * length ts + 1 ≤ f → plugs (suc f) base ts ≡ plugs f base ts
  stable_plugs zero base ts le = absurd (omega arith)
  stable_plugs (suc f) base ts le =
      where_same (behind (codes "<[") ts) _ _ _ _
      (λ k p. let s = behind_shorter (codes "<[") ts k p in
      bind_same (pairs (suc f) no_more k) (pairs f no_more k) _ _ (stable_pairs f no_more k (omega arith))
      (λ x e. let t = pairs_shorter f no_more k x e in
      bind_same (behind (codes "]") x.1) (behind (codes "]") x.1) _ _ refl
      (λ r q. let u = behind_shorter (codes "]") x.1 r q in stable_plugs f (plug base x.0) r (omega arith))))
      (λ p. refl)

  pub stable_pairs : (f : ℕ) (front : Fillings) (ts : List Lexeme) → 20 * length ts + 1 ≤ f → pairs (suc f) front ts ≡ pairs f front ts
  stable_pairs zero front ts le = absurd (omega arith)
  stable_pairs (suc f) front ts le =
      bind_same (word ts) (word ts) _ _ refl
      (λ w p. let s = word_shorter ts w p in
      bind_same (behind (codes "=") w.1) (behind (codes "=") w.1) _ _ refl
      (λ k q. let t = behind_shorter (codes "=") w.1 k q in
      bind_same (expr (suc f) 1 k) (expr f 1 k) _ _ (stable_expr f 1 k (omega arith) (omega arith))
      (λ x e. let u = expr_shorter f 1 k x (omega arith) e in
      where_same (behind (codes ",") x.1) _ _ _ _
      (λ r v. let y = behind_shorter (codes ",") x.1 r v in stable_pairs f (append_fillings front (filling w.0 x.0 no_more)) r (omega arith))
      (λ v. refl))))

  pub stable_atom : (f : ℕ) (ts : List Lexeme) → 20 * length ts + 3 ≤ f → atom (suc f) ts ≡ atom f ts
  stable_atom zero ts le = absurd (omega arith)
  stable_atom (suc f) [] le = refl
  stable_atom (suc f) (lex.Number n ∷ ts) le = refl
  stable_atom (suc f) (lex.Str n ∷ ts) le = refl
  stable_atom (suc f) (lex.Template t ∷ ts) le = refl
  stable_atom (suc f) (lex.Word w ∷ ts) le = stable_word f w (meaning w) ts (omega arith)
  stable_atom (suc f) (lex.Sign s ∷ ts) le =
      bind_same (behind (codes "(") (lex.Sign s ∷ ts)) _ _ _ refl
      (λ k p. let t = behind_shorter (codes "(") (lex.Sign s ∷ ts) k p in ap (λ o. o >>= λ x. Some (paren x.0, x.1)) (stable_inside f k (omega arith)))

  pub stable_inside : (f : ℕ) (ts : List Lexeme) → 20 * length ts + 19 ≤ f → inside (suc f) ts ≡ inside f ts
  stable_inside zero ts le = absurd (omega arith)
  stable_inside (suc f) ts le = ap (λ o. o >>= λ x. behind (codes ")") x.1 >>= λ r. Some (x.0, r)) (stable_expr f 1 ts (omega arith) (omega arith))

  pub stable_word : (f : ℕ) (w : List ℕ) (m : Meaning) (ts : List Lexeme) → 20 * length ts + 1 ≤ f → by_meaning (suc f) w m ts ≡ by_meaning f w m ts
  stable_word zero w m ts le = absurd (omega arith)
  stable_word (suc f) w (Truth b) ts le = refl
  stable_word (suc f) w (Function g) ts le =
      bind_same (behind (codes "(") ts) _ _ _ refl
      (λ k p. let t = behind_shorter (codes "(") ts k p in ap (λ o. o >>= λ x. Some (call g x.0, x.1)) (stable_inside f k (omega arith)))
  stable_word (suc f) w Nothing ts le = refl
  stable_word (suc f) w Other ts le = refl
  stable_word (suc f) w Free ts le = refl
