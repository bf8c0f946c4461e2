-- Each way to go on behind an expression: operators of its level, plugs, and those that bind less.
use Rattle.std.proofs.Common.{◌≡◌, ℕ, zero, suc, ◌+◌, ◌<◌, ◌≤◌, Bool, true, false, cond, ◌==◌, List, ◌∷◌, refl, sym}
use Rattle.std.proofs.Common.{subst, arith, inl, inr}
use Rattle.std.proofs.lemmas.Bool.{lt-ltb, eq-eqb, cases_lt}
use Rattle.std.proofs.lemmas.Bool.Decides.{nat_tests}
use Rattle.bw_lang.specs.declared.expr.Op.{Op}
use Rattle.bw_lang.specs.declared.token.Lexeme.{Lexeme}
use Rattle.bw_lang.specs.declared.token.Lexeme.TheVariants as lex
use Rattle.bw_lang.specs.Text.Levels.{op_level, left_level, level, Levelled}
use Rattle.bw_lang.specs.Text.Spelling.{spell}
use Rattle.bw_lang.specs.Service.Term.{Term, not, neg, binary}
use Rattle.bw_lang.specs.Text.Words.{op_sign}
use Rattle.bw_parse.specs.Steps.Fronts.{Read, behind}
use Rattle.bw_parse.specs.Steps.Expressions.{expr, more, prefix, plugs, atom}
use Rattle.bw_parse.specs.Steps.Follow.{binds}
use Rattle.bw_parse.proofs.Comes.{Got, Gives, later, no_operator, no_plug, the_operator, op_binds_is, op_small, no_prefix}

-- ---- each way to go on

unfoldable pub AtLevel : ℕ → Term → Type 0
AtLevel n e = (k : List Lexeme) → binds k < n → Gives (λ f. expr f n (spell e k)) (e, k)

-- the expression as the first operand of its level
unfoldable pub First : ℕ → Term → Type 0
First n e = (k : List Lexeme) (x : Got) → binds k ≤ n → Gives (λ f. more f n e k) x → Gives (λ f. expr f n (spell e k)) x

unfoldable pub Base : Term → Type 0
Base e = (k : List Lexeme) (x : Got) → Gives (λ f. plugs f e k) x → Gives (λ f. expr f 8 (spell e k)) x

unfoldable pub Atom : Term → Type 0
Atom e = (k : List Lexeme) → Gives (λ f. atom f (spell e k)) (e, k)

more_stops : (n : ℕ) (e : Term) (k : List Lexeme) → binds k < n → Gives (λ f. more f n e k) (e, k)
unfolding expr
more_stops n e k h = later (λ f. more f n e k) (e, k) 0 (λ f le. rw (no_operator n k h) refl)

plugs_stop : (e : Term) (k : List Lexeme) → binds k < 8 → Gives (λ f. plugs f e k) (e, k)
unfolding expr
plugs_stop e k h = later (λ f. plugs f e k) (e, k) 0 (λ f le. rw (no_plug k h) refl)

loose : (n : ℕ) (ts : List Lexeme) (y x : Got) → n < 7 → Gives (λ f. expr f (n + 1) ts) y → Gives (λ f. more f n y.0 y.1) x → Gives (λ f. expr f n ts) x
unfolding expr
loose n ts y x lt a b =
    later (λ f. expr f n ts) x (a.from + b.from)
    (λ f le. rw (lt-ltb n 7 lt) (rw (a.gives f (omega arith)) (b.gives f (omega arith))))

first_from : (n : ℕ) (e : Term) → n < 7 → AtLevel (n + 1) e → First n e
unfolding AtLevel First
first_from n e lt a k x h b = loose n (spell e k) (e, k) x lt (a k (omega arith)) b

level_from : (n : ℕ) (e : Term) → First n e → AtLevel n e
unfolding AtLevel First
level_from n e a k h = a k (e, k) (omega arith) (more_stops n e k h)

climb : (m n : ℕ) (e : Term) → m ≤ 7 → n ≤ m → AtLevel m e → AtLevel n e
climb zero n e b le a = subst (λ j. AtLevel j e) (omega arith) a
climb (suc m) n e b le a =
    elim (cases_lt n (suc m)) [
      | inl lt ↦ climb m n e (omega arith) (omega arith) (level_from m e (first_from m e (omega arith) (subst (λ j. AtLevel j e) (omega arith) a)))
      | inr ge ↦ subst (λ j. AtLevel j e) (omega arith) a
    ]

at_eight : (e : Term) → Base e → AtLevel 8 e
unfolding AtLevel Base
at_eight e b k h = b k (e, k) (plugs_stop e k h)

at_seven : (e : Term) → 8 ≤ level e → Levelled e → AtLevel 8 e → AtLevel 7 e
unfolding AtLevel expr
at_seven e l v a k h =
    let g = a k (omega arith) in
    let p = no_prefix e k l v in
    let q = later (λ f. prefix f (spell e k)) (e, k) g.from (λ f le. rw p.bang (rw p.minus (g.gives f (omega arith)))) in
    later (λ f. expr f 7 (spell e k)) (e, k) q.from (λ f le. q.gives f le)

pub base_from : (e : Term) → Atom e → Base e
unfolding Base Atom expr
base_from e a k x b =
    let g = a k in
    later (λ f. expr f 8 (spell e k)) x (g.from + b.from) (λ f le. rw (g.gives f (omega arith)) (b.gives f (omega arith)))

-- all that is known of an expression
pub record Whole (e : Term) : Type 0 where
  pub at : (n : ℕ) → n ≤ level e → n ≤ 8 → AtLevel n e
  pub first : (n : ℕ) → n < 7 → left_level n ≤ level e → First n e
  pub base : 8 ≤ level e → Base e

pub whole_tight : (e : Term) → 8 ≤ level e → Levelled e → Base e → Whole e
whole_tight e l v b =
    let eight = at_eight e b in
    let seven = at_seven e l v eight in
    let at = λ (n : ℕ) (le : n ≤ 7). climb 7 n e (omega arith) le seven in
    record {
      at = λ n le m. elim (cases_lt n 8) [ inl lt ↦ at n (omega arith) | inr ge ↦ subst (λ j. AtLevel j e) (omega arith) eight ];
      first = λ n lt h. first_from n e lt (at (n + 1) (omega arith));
      base = λ h. b;
    }

-- a prefix append_fillings an operand of level 7
pub bang_seven : (e : Term) → AtLevel 7 e → AtLevel 7 (not e)
unfolding AtLevel expr behind
bang_seven e a k h =
    let g = a k h in
    let q = later (λ f. prefix f (spell (not e) k)) (not e, k) g.from (λ f le. rw (g.gives f (omega arith)) refl) in
    later (λ f. expr f 7 (spell (not e) k)) (not e, k) q.from (λ f le. q.gives f le)

pub minus_seven : (e : Term) → AtLevel 7 e → AtLevel 7 (neg e)
unfolding AtLevel expr behind
minus_seven e a k h =
    let g = a k h in
    let q = later (λ f. prefix f (spell (neg e) k)) (neg e, k) g.from (λ f le. rw (g.gives f (omega arith)) refl) in
    later (λ f. expr f 7 (spell (neg e) k)) (neg e, k) q.from (λ f le. q.gives f le)

pub whole_prefix : (e : Term) → level e ≡ 7 → AtLevel 7 e → Whole e
whole_prefix e l seven =
    let at = λ (n : ℕ) (le : n ≤ 7). climb 7 n e (omega arith) le seven in
    record {
      at = λ n le m. at n (omega arith);
      first = λ n lt h. first_from n e lt (at (n + 1) (omega arith));
      base = λ h. absurd (omega arith);
    }

-- one operator more
binary_more : (op : Op) (l r : Term) (k : List Lexeme) (x : Got) → left_level (op_level op) ≡ op_level op → AtLevel (op_level op + 1) r
    → binds k ≤ op_level op → Gives (λ f. more f (op_level op) (binary op l r) k) x → Gives (λ f. more f (op_level op) l (lex.Sign (op_sign op) ∷ spell r k)) x
unfolding AtLevel expr
binary_more op l r k x c a h b =
    let g = a k (omega arith) in
    later (λ f. more f (op_level op) l (lex.Sign (op_sign op) ∷ spell r k)) x (g.from + b.from)
    (λ f le. rw (the_operator op (spell r k)) (rw (g.gives f (omega arith)) (rw (eq-eqb (left_level (op_level op)) (op_level op) c) (b.gives f (omega arith)))))

binary_last : (op : Op) (l r : Term) (k : List Lexeme) → AtLevel (op_level op + 1) r → binds k < op_level op
    → Gives (λ f. more f (op_level op) l (lex.Sign (op_sign op) ∷ spell r k)) (binary op l r, k)
unfolding AtLevel expr
binary_last op l r k a h =
    let g = a k (omega arith) in
    let m = more_stops (op_level op) (binary op l r) k h in
    later (λ f. more f (op_level op) l (lex.Sign (op_sign op) ∷ spell r k)) (binary op l r, k) (g.from + m.from)
    (λ f le. rw (the_operator op (spell r k))
    (rw (g.gives f (omega arith)) (both (left_level (op_level op) == op_level op) _ _ _ (m.gives f (omega arith)) refl)))
  where
    both : (b : Bool) (x y z : Read Term) → x ≡ z → y ≡ z → cond b x y ≡ z
    both true x y z p q = p
    both false x y z p q = q

pub whole_binary : (op : Op) (l r : Term) → left_level (op_level op) ≤ level l → op_level op < level r → Whole l → Whole r → Whole (binary op l r)
unfolding AtLevel First
whole_binary op l r ll lr wl wr =
    let m = op_level op in
    let small = op_small op in
    let right = wr.at (m + 1) (omega arith) (omega arith) in
    let start : First m l = wl.first m small ll in
    let here : AtLevel m (binary op l r) =
    λ k h. start (lex.Sign (op_sign op) ∷ spell r k) (binary op l r, k) (omega (arith, op_binds_is op (spell r k))) (binary_last op l r k right h) in
    let at = λ (n : ℕ) (le : n ≤ m). climb m n (binary op l r) (omega arith) le here in
    record {
      at = λ n le k. at n le;
      first = λ n lt h. elim (cases_lt n m) [
        | inl less ↦ first_from n (binary op l r) lt (at (n + 1) (omega arith))
        | inr ge ↦
            let same : m ≡ n = omega (arith, le_left n, h) in
            subst (λ j. First j (binary op l r)) same
            (λ k x b g. start (lex.Sign (op_sign op) ∷ spell r k) x (omega (arith, op_binds_is op (spell r k)))
            (binary_more op l r k x (omega (arith, le_left m, subst (λ j. left_level j ≤ m) (sym same) h)) right b g))
      ];
      base = λ h. absurd (omega arith);
    }
  where
    le_left : (n : ℕ) → n ≤ left_level n
    le_left n = grind (arith, nat_tests)
