-- What is parsed is spelled so.
use Rattle.std.proofs.Common.{◌≡◌, ℕ, zero, suc, ◌+◌, ◌<◌, ◌≤◌, ◌==◌, List, [], ◌∷◌, Some, None, refl, sym, ap, ◌∙◌, subst, arith, inl, inr}
use Rattle.std.specs.Prelude.{if◌then◌else◌, nat_lt, pos, codes}
use Rattle.std.proofs.lemmas.Bool.Decides.{nat_tests}
use Rattle.std.proofs.lemmas.Bool.{eqb-true, ltb-true}
use Rattle.bw_lang.specs.declared.token.Lexeme.{Lexeme}
use Rattle.bw_lang.specs.declared.token.Lexeme.TheVariants as lex
use Rattle.bw_lang.specs.Text.Levels.{left_level, level, Levelled, AreLevelled, IsSome}
use Rattle.bw_lang.specs.Text.Spelling.{spell, spell_pairs}
use Rattle.bw_lang.specs.Service.Term.{Term, int, truth, string, name, paren, not, neg, binary, call, plug, nothing, Fillings, no_more, filling}
use Rattle.bw_lang.specs.Service.Term.{append_fillings}
use Rattle.bw_lang.specs.Text.Words.{op_sign}
use Rattle.bw_lang.proofs.Terms.{append_fillings_assoc}
use Rattle.bw_parse.specs.declared.lexemes.Meaning.{Meaning}
use Rattle.bw_parse.specs.declared.lexemes.Meaning.TheVariants.{Truth, Function, Nothing, Other, Free}
use Rattle.bw_lang.specs.Table.Options.{◌>>=◌}
use Rattle.bw_parse.specs.Steps.Fronts.{behind, word, operator, meaning}
use Rattle.bw_parse.specs.Steps.Expressions.{expr, more, prefix, plugs, pairs, atom, inside, by_meaning}
use Rattle.bw_lang.proofs.Options.{bind_some, where_cases, chosen, some_is}
use Rattle.bw_parse.proofs.FrontLaws.{some, behind_is, word_is, operator_is, truth_is, function_is, nothing_is, free_is}

-- the tokens are those of the expression, of the level, and then the rest
pub record Reads (n : ℕ) (ts : List Lexeme) (e : Term) (k : List Lexeme) : Type 0 where
  pub spelled : ts ≡ spell e k
  pub levelled : Levelled e
  pub level : n ≤ level e

-- the same for pairs, behind any sign
pub record ReadsPairs (front : Fillings) (ts : List Lexeme) (all : Fillings) (k : List Lexeme) : Type 0 where
  pub rest : Fillings
  pub is : all ≡ append_fillings front rest
  pub some : IsSome rest
  pub levelled : AreLevelled rest
  pub spelled : (s : List ℕ) → lex.Sign s ∷ ts ≡ spell_pairs s rest k

pairs_is : (x y : Fillings × List Lexeme) → some x ≡ some y → x ≡ y
pairs_is x y e = cc

pub left_le : (n : ℕ) → left_level n ≤ n + 1
left_le n = grind (arith, nat_tests)

got : {n : ℕ} {ts : List Lexeme} (e : Term) (k : List Lexeme) (x : Term × List Lexeme) → Reads n ts e k → some (e, k) ≡ some x → Reads n ts x.0 x.1
got {n = n} {ts = ts} e k x r p = subst (λ (y : Term × List Lexeme). Reads n ts y.0 y.1) (some_is (e, k) x p) r

mutual
  unfolding expr

  pub sound_expr : (f n : ℕ) (ts : List Lexeme) (x : Term × List Lexeme) → n ≤ 8 → expr f n ts ≡ Some x → Reads n ts x.0 x.1
  sound_expr zero n ts x b e = absurd cc
  sound_expr (suc f) n ts x b e =
      elim (chosen (nat_lt n 7) (expr f (n + 1) ts >>= λ y. more f n y.0 y.1) (if n == 7 then prefix f ts else (atom f ts >>= λ y. plugs f y.0 y.1))
      (Some x) e) [
        | inl h ↦
            let lt = ltb-true n 7 h.0 in
            let q = bind_some (expr f (n + 1) ts) (λ y. more f n y.0 y.1) x h.1 in
            let r = sound_expr f (n + 1) ts q.0 (omega arith) q.1 in
            sound_more f n ts q.0.0 q.0.1 x (omega arith) (omega (arith, left_le n, r.level))
            (record { spelled = r.spelled; levelled = r.levelled; level = omega (arith, r.level) }) q.2
        | inr h ↦
            elim (chosen (n == 7) (prefix f ts) (atom f ts >>= λ y. plugs f y.0 y.1) (Some x) h.1) [
              | inl g ↦
                  let seven = eqb-true n 7 g.0 in let r = sound_prefix f ts x g.1 in
                  record { spelled = r.spelled; levelled = r.levelled; level = omega (arith, r.level) }
              | inr g ↦
                  let q = bind_some (atom f ts) (λ y. plugs f y.0 y.1) x g.1 in
                  let a = sound_atom f ts q.0 q.1 in
                  let r = sound_plugs f ts q.0.0 q.0.1 x (record { spelled = a.spelled; levelled = a.levelled; level = omega (arith, a.level) }) q.2 in
                  record { spelled = r.spelled; levelled = r.levelled; level = omega (arith, r.level) }
            ]
      ]

  pub sound_more : (f n : ℕ) (ts : List Lexeme) (left : Term) (k : List Lexeme) (x : Term × List Lexeme) → n < 7 → left_level n ≤ level left
      → Reads n ts left k → more f n left k ≡ Some x → Reads n ts x.0 x.1
  sound_more zero n ts left k x b l r e = absurd cc
  sound_more (suc f) n ts left k x b l r e =
      elim (where_cases (operator n k)
      (λ o. expr f (n + 1) o.1 >>= λ y. if left_level n == n then more f n (binary o.0 left y.0) y.1 else Some (binary o.0 left y.0, y.1))
      (Some (left, k)) (Some x) e) [
        | inl h ↦
            let o = operator_is n k h.0 h.1 in
            let q =
            bind_some (expr f (n + 1) h.0.1) (λ y. if left_level n == n then more f n (binary h.0.0 left y.0) y.1 else Some
            (binary h.0.0 left y.0, y.1)) x h.2 in
            let right = sound_expr f (n + 1) h.0.1 q.0 (omega arith) q.1 in
            let all : Reads n ts (binary h.0.0 left q.0.0) q.0.1 =
            record {
              spelled = r.spelled ∙ ap (spell left) (o.0 ∙ ap (λ t. lex.Sign (op_sign h.0.0) ∷ t) right.spelled);
              levelled = (rw o.1 l, omega (arith, right.level, o.1), r.levelled, right.levelled);
              level = omega (arith, o.1);
            } in
            elim (chosen (left_level n == n) (more f n (binary h.0.0 left q.0.0) q.0.1) (Some (binary h.0.0 left q.0.0, q.0.1)) (Some x) q.2) [
              | inl g ↦ sound_more f n ts (binary h.0.0 left q.0.0) q.0.1 x b (omega (arith, eqb-true (left_level n) n g.0, o.1)) all g.1
              | inr g ↦ got (binary h.0.0 left q.0.0) q.0.1 x all g.1
            ]
        | inr h ↦ got left k x r h.1
      ]

  pub sound_prefix : (f : ℕ) (ts : List Lexeme) (x : Term × List Lexeme) → prefix f ts ≡ Some x → Reads 7 ts x.0 x.1
  sound_prefix zero ts x e = absurd cc
  sound_prefix (suc f) ts x e =
      elim (where_cases (behind (codes "!") ts) (λ k. expr f 7 k >>= λ y. Some (not y.0, y.1)) _ (Some x) e) [
        | inl h ↦
            let p = behind_is (codes "!") ts h.0 h.1 in
            let q = bind_some (expr f 7 h.0) (λ y. Some (not y.0, y.1)) x h.2 in
            let r = sound_expr f 7 h.0 q.0 (omega arith) q.1 in
            got (not q.0.0) q.0.1 x (record {
              spelled = p
                  ∙ ap (λ t. lex.Sign (codes "!") ∷ t) r.spelled;
              levelled = (r.level, r.levelled);
              level = omega arith;
            }) q.2
        | inr h ↦
            elim (where_cases (behind (codes "-") ts) (λ k. expr f 7 k >>= λ y. Some (neg y.0, y.1)) (expr f 8 ts) (Some x) h.1) [
              | inl g ↦
                  let p = behind_is (codes "-") ts g.0 g.1 in
                  let q = bind_some (expr f 7 g.0) (λ y. Some (neg y.0, y.1)) x g.2 in
                  let r = sound_expr f 7 g.0 q.0 (omega arith) q.1 in
                  got (neg q.0.0) q.0.1 x (record {
                    spelled = p
                        ∙ ap (λ t. lex.Sign (codes "-") ∷ t) r.spelled;
                    levelled = (r.level, r.levelled);
                    level = omega arith;
                  }) q.2
              | inr g ↦ let r = sound_expr f 8 ts x (omega arith) g.1 in record { spelled = r.spelled; levelled = r.levelled; level = omega (arith, r.level) }
            ]
      ]

  pub sound_plugs : (f : ℕ) (ts : List Lexeme) (base : Term) (k : List Lexeme) (x : Term × List Lexeme) → Reads 8 ts base k → plugs f base k ≡ Some x
      → Reads 8 ts x.0 x.1
  sound_plugs zero ts base k x r e = absurd cc
  sound_plugs (suc f) ts base k x r e =
      elim (where_cases (behind (codes "<[") k) (λ j. pairs f no_more j >>= λ ps. behind (codes "]") ps.1 >>= λ i. plugs f (plug base ps.0) i)
      (Some (base, k)) (Some x) e) [
        | inl h ↦
            let p = behind_is (codes "<[") k h.0 h.1 in
            let q = bind_some (pairs f no_more h.0) (λ ps. behind (codes "]") ps.1 >>= λ i. plugs f (plug base ps.0) i) x h.2 in
            let c = bind_some (behind (codes "]") q.0.1) (λ i. plugs f (plug base q.0.0) i) x q.2 in
            let z = behind_is (codes "]") q.0.1 c.0 c.1 in
            let ps = sound_pairs f no_more h.0 q.0 q.1 in
            let w : Reads 8 ts (plug base ps.rest) c.0 =
            record {
              spelled = r.spelled ∙ ap (spell base) (p ∙ ps.spelled (codes "<[") ∙ ap (spell_pairs (codes "<[") ps.rest) z);
              levelled = (r.level, ps.some, r.levelled, ps.levelled);
              level = omega arith;
            } in
            sound_plugs f ts (plug base q.0.0) c.0 x (subst (λ y. Reads 8 ts (plug base y) c.0) (sym ps.is) w) c.2
        | inr h ↦ got base k x r h.1
      ]

  pub sound_pairs : (f : ℕ) (front : Fillings) (ts : List Lexeme) (x : Fillings × List Lexeme) → pairs f front ts ≡ Some x → ReadsPairs front ts x.0 x.1
  sound_pairs zero front ts x e = absurd cc
  sound_pairs (suc f) front ts x e =
      let w = bind_some (word ts) _ x e in
      let wi = word_is ts w.0 w.1 in
      let k = bind_some (behind (codes "=") w.0.1) _ x w.2 in
      let ki = behind_is (codes "=") w.0.1 k.0 k.1 in
      let q = bind_some (expr f 1 k.0) _ x k.2 in
      let r = sound_expr f 1 k.0 q.0 (omega arith) q.1 in
      let all = append_fillings front (filling w.0.0 q.0.0 no_more) in
      let head : (s : List ℕ) → lex.Sign s ∷ ts ≡ lex.Sign s ∷ lex.Word w.0.0 ∷ lex.Sign (codes "=") ∷ spell q.0.0 q.0.1 =
      λ s. ap (λ t. lex.Sign s ∷ t) (wi ∙ ap (λ t. lex.Word w.0.0 ∷ t) (ki ∙ ap (λ t. lex.Sign (codes "=") ∷ t) r.spelled)) in
      elim (where_cases (behind (codes ",") q.0.1) (λ j. pairs f all j) (Some (all, q.0.1)) (Some x) q.2) [
        | inl h ↦
            let c = behind_is (codes ",") q.0.1 h.0 h.1 in
            let o = sound_pairs f all h.0 x h.2 in
            record {
              rest = filling w.0.0 q.0.0 o.rest;
              is = o.is ∙ append_fillings_assoc front (filling w.0.0 q.0.0 no_more) o.rest;
              some = tt;
              levelled = (r.levelled, o.levelled);
              spelled = λ s. head s ∙ ap (λ t. lex.Sign s ∷ lex.Word w.0.0 ∷ lex.Sign (codes "=") ∷ spell q.0.0 t) (c ∙ o.spelled (codes ","));
            }
        | inr h ↦
            subst (λ (y : Fillings × List Lexeme). ReadsPairs front ts y.0 y.1) (pairs_is (all, q.0.1) x h.1)
            (record { rest = filling w.0.0 q.0.0 no_more; is = refl; some = tt; levelled = (r.levelled, tt); spelled = head })
      ]

  pub sound_atom : (f : ℕ) (ts : List Lexeme) (x : Term × List Lexeme) → atom f ts ≡ Some x → Reads 9 ts x.0 x.1
  sound_atom zero ts x e = absurd cc
  sound_atom (suc f) [] x e = absurd cc
  sound_atom (suc f) (lex.Number n ∷ ts) x e =
      elim (chosen (nat_lt n 9223372036854775808) (Some (int (pos n), ts)) None (Some x) e) [
        | inl h ↦ got (int (pos n)) ts x (record { spelled = refl; levelled = ltb-true n 9223372036854775808 h.0; level = omega arith }) h.1
        | inr h ↦ let q = h.1 in absurd cc
      ]
  sound_atom (suc f) (lex.Str s ∷ ts) x e = got (string s) ts x (record { spelled = refl; levelled = tt; level = omega arith }) e
  sound_atom (suc f) (lex.Template t ∷ ts) x e = absurd cc
  sound_atom (suc f) (lex.Sign s ∷ ts) x e =
      let h = bind_some (behind (codes "(") (lex.Sign s ∷ ts)) (λ k. inside f k >>= λ y. Some (paren y.0, y.1)) x e in
      let p = behind_is (codes "(") (lex.Sign s ∷ ts) h.0 h.1 in
      let q = bind_some (inside f h.0) (λ y. Some (paren y.0, y.1)) x h.2 in
      let r = sound_inside f h.0 q.0 q.1 in
      got (paren q.0.0) q.0.1 x (record { spelled = p ∙ ap (λ t. lex.Sign (codes "(") ∷ t) r.0; levelled = r.1; level = omega arith }) q.2
  sound_atom (suc f) (lex.Word w ∷ ts) x e = sound_meaning f w (meaning w) ts x refl e

  pub sound_inside : (f : ℕ) (ts : List Lexeme) (x : Term × List Lexeme) → inside f ts ≡ Some x → (ts ≡ spell x.0 (lex.Sign (codes ")") ∷ x.1)) × Levelled x.0
  sound_inside zero ts x e = absurd cc
  sound_inside (suc f) ts x e =
      let q = bind_some (expr f 1 ts) (λ y. behind (codes ")") y.1 >>= λ r. Some (y.0, r)) x e in
      let c = bind_some (behind (codes ")") q.0.1) (λ r. Some (q.0.0, r)) x q.2 in
      let z = behind_is (codes ")") q.0.1 c.0 c.1 in
      let r = sound_expr f 1 ts q.0 (omega arith) q.1 in
      subst (λ (y : Term × List Lexeme). (ts ≡ spell y.0 (lex.Sign (codes ")") ∷ y.1)) × Levelled y.0) (some_is (q.0.0, c.0) x c.2)
      (r.spelled ∙ ap (spell q.0.0) z, r.levelled)

  pub sound_meaning : (f : ℕ) (w : List ℕ) (m : Meaning) (ts : List Lexeme) (x : Term × List Lexeme) → meaning w ≡ m → by_meaning f w m ts ≡ Some x
      → Reads 9 (lex.Word w ∷ ts) x.0 x.1
  sound_meaning zero w m ts x i e = absurd cc
  sound_meaning (suc f) w (Truth b) ts x i e =
      got (truth b) ts x (record { spelled = ap (λ v. lex.Word v ∷ ts) (truth_is w b i); levelled = tt; level = omega arith }) e
  sound_meaning (suc f) w (Function g) ts x i e =
      let h = bind_some (behind (codes "(") ts) (λ k. inside f k >>= λ y. Some (call g y.0, y.1)) x e in
      let p = behind_is (codes "(") ts h.0 h.1 in
      let q = bind_some (inside f h.0) (λ y. Some (call g y.0, y.1)) x h.2 in
      let r = sound_inside f h.0 q.0 q.1 in
      let n = function_is w g i in
      let t = p ∙ ap (λ t. lex.Sign (codes "(") ∷ t) r.0 in
      got (call g q.0.0) q.0.1 x (record { spelled = λ j. lex.Word (n j) ∷ t j; levelled = r.1; level = omega arith }) q.2
  sound_meaning (suc f) w Nothing ts x i e =
      got nothing ts x (record { spelled = ap (λ v. lex.Word v ∷ ts) (nothing_is w i); levelled = tt; level = omega arith }) e
  sound_meaning (suc f) w Other ts x i e = absurd cc
  sound_meaning (suc f) w Free ts x i e = got (name w) ts x (record { spelled = refl; levelled = free_is w i; level = omega arith }) e
