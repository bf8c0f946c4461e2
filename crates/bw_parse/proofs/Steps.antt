-- The parser meets its own equations.
use Rattle.std.proofs.Common.{◌≡◌, ℕ, zero, suc, ◌+◌, ◌*◌, ◌<◌, ◌≤◌, Bool, ◌==◌, List, [], ◌∷◌, length, Some, None, refl}
use Rattle.std.proofs.Common.{sym, ap, ◌∙◌, arith, inl, inr}
use Rattle.std.specs.Prelude.{if◌then◌else◌, codes}
use Rattle.std.proofs.lemmas.Bool.{lt-ltb, cases_lt}
use Rattle.std.proofs.Common.{◌-◌}
use Rattle.bw_lang.specs.declared.expr.Fun.{Fun}
use Rattle.bw_lang.specs.declared.token.Lexeme.{Lexeme}
use Rattle.bw_lang.specs.declared.token.Lexeme.TheVariants as lex
use Rattle.bw_lang.specs.Text.Levels.{left_level}
use Rattle.bw_lang.specs.Service.Term.{Term, truth, string, name, paren, not, neg, binary, call, plug, nothing, Fillings, no_more, filling, append_fillings}
use Rattle.bw_parse.specs.declared.lexemes.Meaning.{Meaning}
use Rattle.bw_parse.specs.declared.lexemes.Meaning.TheVariants.{Truth, Function, Nothing, Other, Free}
use Rattle.bw_lang.specs.Table.Options.{◌>>=◌, where_some}
use Rattle.bw_parse.specs.Steps.Fronts.{Read, behind, word, operator, meaning}
use Rattle.bw_parse.specs.Steps.Expressions.{number_at, expr, more, prefix, plugs, pairs, atom, inside, by_meaning}
use Rattle.bw_parse.specs.Steps.Expressions.{steps, parse, parse_more, parse_prefix, parse_plugs, parse_pairs, parse_atom, parse_inside, parse_word}
use Rattle.bw_parse.proofs.Shorter.{expr_shorter, atom_shorter, pairs_shorter, behind_shorter, word_shorter, operator_shorter}
use Rattle.bw_parse.proofs.Stable.{bind_same, where_same, if_same, stable_expr, stable_more, stable_prefix, stable_plugs, stable_pairs, stable_atom}
use Rattle.bw_parse.proofs.Stable.{stable_inside, stable_word}

-- ---- the equations of the parser

constant_from : {A : Type 0} (p : ℕ → A) (b : ℕ) → ((f : ℕ) → b ≤ f → p (suc f) ≡ p f) → (f : ℕ) → b ≤ f → p f ≡ p b
constant_from p b h zero le = ap p (omega arith)
constant_from p b h (suc f) le =
    elim (cases_lt f b) [
      | inl lt ↦ let e : suc f ≡ b = omega arith in ap p e
      | inr ge ↦ h f ge ∙ constant_from p b h f ge
    ]

-- enough steps, of two numbers of them
pub same_from : {A : Type 0} (p : ℕ → A) (b : ℕ) → ((f : ℕ) → b ≤ f → p (suc f) ≡ p f) → (f g : ℕ) → b ≤ f → b ≤ g → p f ≡ p g
same_from p b h f g lf lg = constant_from p b h f lf ∙ sym (constant_from p b h g lg)

pub expr_is : (f n : ℕ) (ts : List Lexeme) → n ≤ 8 → 20 * length ts + 20 ≤ f + 2 * n → expr f n ts ≡ parse n ts
unfolding parse
expr_is f n ts b le =
    same_from (λ f. expr f n ts) (20 * length ts + (20 - 2 * n)) (λ f h. stable_expr f n ts b (omega arith)) f (steps ts) (omega arith) (omega arith)

more_is : (f n : ℕ) (left : Term) (ts : List Lexeme) → n < 7 → 20 * length ts + 1 ≤ f → more f n left ts ≡ parse_more n left ts
unfolding parse_more
more_is f n left ts b le = same_from (λ f. more f n left ts) (20 * length ts + 1) (λ f h. stable_more f n left ts b h) f (steps ts) le (omega arith)

prefix_is : (f : ℕ) (ts : List Lexeme) → 20 * length ts + 5 ≤ f → prefix f ts ≡ parse_prefix ts
unfolding parse_prefix
prefix_is f ts le = same_from (λ f. prefix f ts) (20 * length ts + 5) (λ f h. stable_prefix f ts h) f (steps ts) le (omega arith)

plugs_is : (f : ℕ) (base : Term) (ts : List Lexeme) → 20 * length ts + 1 ≤ f → plugs f base ts ≡ parse_plugs base ts
unfolding parse_plugs
plugs_is f base ts le = same_from (λ f. plugs f base ts) (20 * length ts + 1) (λ f h. stable_plugs f base ts h) f (steps ts) le (omega arith)

pairs_are : (f : ℕ) (front : Fillings) (ts : List Lexeme) → 20 * length ts + 1 ≤ f → pairs f front ts ≡ parse_pairs front ts
unfolding parse_pairs
pairs_are f front ts le = same_from (λ f. pairs f front ts) (20 * length ts + 1) (λ f h. stable_pairs f front ts h) f (steps ts) le (omega arith)

atom_is : (f : ℕ) (ts : List Lexeme) → 20 * length ts + 3 ≤ f → atom f ts ≡ parse_atom ts
unfolding parse_atom
atom_is f ts le = same_from (λ f. atom f ts) (20 * length ts + 3) (λ f h. stable_atom f ts h) f (steps ts) le (omega arith)

inside_is : (f : ℕ) (ts : List Lexeme) → 20 * length ts + 19 ≤ f → inside f ts ≡ parse_inside ts
unfolding parse_inside
inside_is f ts le = same_from (λ f. inside f ts) (20 * length ts + 19) (λ f h. stable_inside f ts h) f (steps ts) le (omega arith)

word_is_by : (f : ℕ) (w : List ℕ) (m : Meaning) (ts : List Lexeme) → 20 * length ts + 1 ≤ f → by_meaning f w m ts ≡ parse_word w m ts
unfolding parse_word
word_is_by f w m ts le = same_from (λ f. by_meaning f w m ts) (20 * length ts + 1) (λ f h. stable_word f w m ts h) f (steps ts) le (omega arith)

pub parse_loose : (n : ℕ) (ts : List Lexeme) → n < 7 → parse n ts ≡ (parse (n + 1) ts >>= λ x. parse_more n x.0 x.1)
unfolding expr
parse_loose n ts lt =
    let f = 20 * length ts + 30 in
    sym (expr_is (suc f) n ts (omega arith) (omega arith))
    ∙ rw (lt-ltb n 7 lt)
    (bind_same (expr f (n + 1) ts) (parse (n + 1) ts) _ _ (expr_is f (n + 1) ts (omega arith) (omega arith))
    (λ x e. let s = expr_shorter (20 * length ts + 20) (n + 1) ts x (omega arith)
    (expr_is (20 * length ts + 20) (n + 1) ts (omega arith) (omega arith) ∙ e) in more_is f n x.0 x.1 lt (omega arith)))

pub parse_seven : (ts : List Lexeme) → parse 7 ts ≡ parse_prefix ts
unfolding expr
parse_seven ts =
    let f = 20 * length ts + 30 in
    sym (expr_is (suc f) 7 ts (omega arith) (omega arith)) ∙ prefix_is f ts (omega arith)

pub parse_eight : (ts : List Lexeme) → parse 8 ts ≡ (parse_atom ts >>= λ x. parse_plugs x.0 x.1)
unfolding expr
parse_eight ts =
    let f = 20 * length ts + 30 in
    sym (expr_is (suc f) 8 ts (omega arith) (omega arith))
    ∙ bind_same (atom f ts) (parse_atom ts) _ _ (atom_is f ts (omega arith))
    (λ x e. let s = atom_shorter f ts x (atom_is f ts (omega arith) ∙ e) in plugs_is f x.0 x.1 (omega arith))

pub parse_more_is : (n : ℕ) (left : Term) (ts : List Lexeme) → n < 7 → parse_more n left ts ≡
    where_some (operator n ts) (λ o. parse (n + 1) o.1 >>= λ x. if left_level n == n then parse_more n (binary o.0 left x.0) x.1 else Some
    (binary o.0 left x.0, x.1)) (Some (left, ts))
unfolding expr
parse_more_is n left ts lt =
    let f = 20 * length ts + 30 in
    sym (more_is (suc f) n left ts lt (omega arith))
    ∙ where_same (operator n ts) _ _ _ _
    (λ o p. let s = operator_shorter n ts o p in
    bind_same (expr f (n + 1) o.1) (parse (n + 1) o.1) _ _ (expr_is f (n + 1) o.1 (omega arith) (omega arith))
    (λ x e. let t = expr_shorter f (n + 1) o.1 x (omega arith) (expr_is f (n + 1) o.1 (omega arith) (omega arith) ∙ e) in
    if_same (left_level n == n) _ _ _ _ (λ i. more_is f n (binary o.0 left x.0) x.1 lt (omega arith)) (λ i. refl)))
    (λ p. refl)

pub parse_prefix_is : (ts : List Lexeme) → parse_prefix ts ≡
    where_some (behind (codes "!") ts) (λ k. parse 7 k >>= λ x. Some (not x.0, x.1))
    (where_some (behind (codes "-") ts) (λ k. parse 7 k >>= λ x. Some (neg x.0, x.1)) (parse 8 ts))
unfolding expr
parse_prefix_is ts =
    let f = 20 * length ts + 30 in
    sym (prefix_is (suc f) ts (omega arith))
    ∙ where_same (behind (codes "!") ts) _ _ _ _
    (λ k p. let s = behind_shorter (codes "!") ts k p in ap (λ o. o >>= λ x. Some (not x.0, x.1)) (expr_is f 7 k (omega arith) (omega arith)))
    (λ p. where_same (behind (codes "-") ts) _ _ _ _
    (λ k p. let s = behind_shorter (codes "-") ts k p in ap (λ o. o >>= λ x. Some (neg x.0, x.1)) (expr_is f 7 k (omega arith) (omega arith)))
    (λ p. expr_is f 8 ts (omega arith) (omega arith)))

pub parse_plugs_is : (base : Term) (ts : List Lexeme) → parse_plugs base ts ≡
    where_some (behind (codes "<[") ts)
    (λ k. parse_pairs no_more k >>= λ ps. behind (codes "]") ps.1 >>= λ r. parse_plugs (plug base ps.0) r)
    (Some (base, ts))
unfolding expr
parse_plugs_is base ts =
    let f = 20 * length ts + 30 in
    sym (plugs_is (suc f) base ts (omega arith))
    ∙ where_same (behind (codes "<[") ts) _ _ _ _
    (λ k p. let s = behind_shorter (codes "<[") ts k p in
    bind_same (pairs f no_more k) (parse_pairs no_more k) _ _ (pairs_are f no_more k (omega arith))
    (λ x e. let t = pairs_shorter f no_more k x (pairs_are f no_more k (omega arith) ∙ e) in
    bind_same (behind (codes "]") x.1) (behind (codes "]") x.1) _ _ refl
    (λ r q. let u = behind_shorter (codes "]") x.1 r q in plugs_is f (plug base x.0) r (omega arith))))
    (λ p. refl)

pub parse_pairs_is : (front : Fillings) (ts : List Lexeme) → parse_pairs front ts ≡
    (word ts >>= λ w. behind (codes "=") w.1 >>= λ k. parse 1 k >>= λ x.
    where_some (behind (codes ",") x.1) (λ r. parse_pairs (append_fillings front (filling w.0 x.0 no_more)) r)
    (Some (append_fillings front (filling w.0 x.0 no_more), x.1)))
unfolding expr
parse_pairs_is front ts =
    let f = 20 * length ts + 30 in
    sym (pairs_are (suc f) front ts (omega arith))
    ∙ bind_same (word ts) (word ts) _ _ refl
    (λ w p. let s = word_shorter ts w p in
    bind_same (behind (codes "=") w.1) (behind (codes "=") w.1) _ _ refl
    (λ k q. let t = behind_shorter (codes "=") w.1 k q in
    bind_same (expr f 1 k) (parse 1 k) _ _ (expr_is f 1 k (omega arith) (omega arith))
    (λ x e. let u = expr_shorter f 1 k x (omega arith) (expr_is f 1 k (omega arith) (omega arith) ∙ e) in
    where_same (behind (codes ",") x.1) _ _ _ _
    (λ r v. let y = behind_shorter (codes ",") x.1 r v in pairs_are f (append_fillings front (filling w.0 x.0 no_more)) r (omega arith))
    (λ v. refl))))

pub parse_inside_is : (ts : List Lexeme) → parse_inside ts ≡ (parse 1 ts >>= λ x. behind (codes ")") x.1 >>= λ r. Some (x.0, r))
unfolding expr
parse_inside_is ts =
    let f = 20 * length ts + 30 in
    sym (inside_is (suc f) ts (omega arith)) ∙ ap (λ o. o >>= λ x. behind (codes ")") x.1 >>= λ r. Some (x.0, r)) (expr_is f 1 ts (omega arith) (omega arith))

-- what an atom is, by its first token
abbrev pub atom_of : List Lexeme → Read Term
atom_of [] = None
atom_of (lex.Number n ∷ ts) = number_at n ts
atom_of (lex.Str s ∷ ts) = Some (string s, ts)
atom_of (lex.Template t ∷ ts) = None
atom_of (lex.Sign s ∷ ts) = behind (codes "(") (lex.Sign s ∷ ts) >>= λ k. parse_inside k >>= λ x. Some (paren x.0, x.1)
atom_of (lex.Word w ∷ ts) = parse_word w (meaning w) ts

pub parse_atom_is : (ts : List Lexeme) → parse_atom ts ≡ atom_of ts
unfolding expr
parse_atom_is ts = sym (atom_is (suc (20 * length ts + 30)) ts (omega arith)) ∙ go ts
  where
    go : (ts : List Lexeme) → atom (suc (20 * length ts + 30)) ts ≡ atom_of ts
    go [] = refl
    go (lex.Number n ∷ ts) = refl
    go (lex.Str n ∷ ts) = refl
    go (lex.Template t ∷ ts) = refl
    go (lex.Word w ∷ ts) = word_is_by (20 * suc (length ts) + 30) w (meaning w) ts (omega arith)
    go (lex.Sign s ∷ ts) =
        bind_same (behind (codes "(") (lex.Sign s ∷ ts)) _ _ _ refl
        (λ k p. let t = behind_shorter (codes "(") (lex.Sign s ∷ ts) k p in
        ap (λ o. o >>= λ x. Some (paren x.0, x.1)) (inside_is (20 * suc (length ts) + 30) k (omega arith)))

pub parse_truth : (w : List ℕ) (b : Bool) (ts : List Lexeme) → parse_word w (Truth b) ts ≡ Some (truth b, ts)
unfolding expr
parse_truth w b ts = sym (word_is_by (suc (20 * length ts + 30)) w (Truth b) ts (omega arith))

pub parse_nothing : (w : List ℕ) (ts : List Lexeme) → parse_word w Nothing ts ≡ Some (nothing, ts)
unfolding expr
parse_nothing w ts = sym (word_is_by (suc (20 * length ts + 30)) w Nothing ts (omega arith))

pub parse_other : (w : List ℕ) (ts : List Lexeme) → parse_word w Other ts ≡ None
unfolding expr
parse_other w ts = sym (word_is_by (suc (20 * length ts + 30)) w Other ts (omega arith))

pub parse_free : (w : List ℕ) (ts : List Lexeme) → parse_word w Free ts ≡ Some (name w, ts)
unfolding expr
parse_free w ts = sym (word_is_by (suc (20 * length ts + 30)) w Free ts (omega arith))

pub parse_function : (w : List ℕ) (g : Fun) (ts : List Lexeme)
    → parse_word w (Function g) ts ≡ (behind (codes "(") ts >>= λ k. parse_inside k >>= λ x. Some (call g x.0, x.1))
unfolding expr
parse_function w g ts =
    sym (word_is_by (suc (20 * length ts + 30)) w (Function g) ts (omega arith))
    ∙ bind_same (behind (codes "(") ts) _ _ _ refl
    (λ k p. let t = behind_shorter (codes "(") ts k p in ap (λ o. o >>= λ x. Some (call g x.0, x.1)) (inside_is (20 * length ts + 30) k (omega arith)))

pub parse_tight : (n : ℕ) (ts : List Lexeme) → 7 < n → n ≤ 8 → parse n ts ≡ (parse_atom ts >>= λ x. parse_plugs x.0 x.1)
parse_tight n ts lt le = let e : n ≡ 8 = omega arith in ap (λ (m : ℕ). parse m ts) e ∙ parse_eight ts

pub parse_number : (n : ℕ) (ts : List Lexeme) → parse_atom (lex.Number n ∷ ts) ≡ number_at n ts
parse_number n ts = parse_atom_is (lex.Number n ∷ ts)

pub parse_str : (s : List ℕ) (ts : List Lexeme) → parse_atom (lex.Str s ∷ ts) ≡ Some (string s, ts)
parse_str s ts = parse_atom_is (lex.Str s ∷ ts)

pub parse_sign : (s : List ℕ) (ts : List Lexeme)
    → parse_atom (lex.Sign s ∷ ts) ≡ (behind (codes "(") (lex.Sign s ∷ ts) >>= λ k. parse_inside k >>= λ x. Some (paren x.0, x.1))
parse_sign s ts = parse_atom_is (lex.Sign s ∷ ts)

pub parse_word_is : (w : List ℕ) (ts : List Lexeme) → parse_atom (lex.Word w ∷ ts) ≡ parse_word w (meaning w) ts
parse_word_is w ts = parse_atom_is (lex.Word w ∷ ts)

pub parse_none : parse_atom [] ≡ None
parse_none = parse_atom_is []

pub parse_template : (t : List ℕ) (ts : List Lexeme) → parse_atom (lex.Template t ∷ ts) ≡ None
parse_template t ts = parse_atom_is (lex.Template t ∷ ts)

pub ruleset equations = (
  parse_none,
  parse_template,
  parse_tight,
  parse_number,
  parse_str,
  parse_sign,
  parse_word_is,
  parse_loose,
  parse_seven,
  parse_eight,
  parse_more_is,
  parse_prefix_is,
  parse_plugs_is,
  parse_pairs_is,
  parse_inside_is,
  parse_atom_is,
  parse_truth,
  parse_nothing,
  parse_other,
  parse_free,
  parse_function,
)
