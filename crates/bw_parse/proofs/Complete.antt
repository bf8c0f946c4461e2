-- What is spelled so is parsed, where no operator of the level follows.
use Rattle.std.proofs.Common.{◌≡◌, ℕ, ◌+◌, ◌<◌, ◌≤◌, Bool, true, false, List, ◌∷◌, Some, refl, sym, ap, ◌∙◌}
use Rattle.std.proofs.Common.{arith}
use Rattle.std.specs.Prelude.{pos, negsuc, ◌^◌, codes}
use Rattle.std.proofs.lemmas.Bool.{lt-ltb}
use Rattle.bw_lang.specs.declared.expr.Op.{Op}
use Rattle.bw_lang.specs.declared.expr.Op.TheVariants.{Or, And, Eq, Ne, Lt, Le, Gt, Ge, Add, Sub, Mul, Div, Rem}
use Rattle.bw_lang.specs.declared.expr.Fun.{Fun}
use Rattle.bw_lang.specs.declared.expr.Fun.TheVariants as funs
use Rattle.bw_lang.specs.Text.Keywords.{is_keyword}
use Rattle.bw_lang.specs.declared.token.Lexeme.{Lexeme}
use Rattle.bw_lang.specs.declared.token.Lexeme.TheVariants as lex
use Rattle.bw_lang.specs.Text.Levels.{op_level, level, Levelled, AreLevelled}
use Rattle.bw_lang.specs.Text.Spelling.{spell, spell_pairs}
use Rattle.bw_lang.specs.Service.Term.{Term, int, truth, string, name, paren, not, neg, binary, call, plug, nothing, Fillings, no_more, filling}
use Rattle.bw_lang.specs.Service.Term.{append_fillings}
use Rattle.bw_lang.specs.Text.Words.{truth_word, fun_word}
use Rattle.bw_lang.proofs.Terms.{append_fillings_assoc}
use Rattle.bw_parse.specs.declared.lexemes.Meaning.{Meaning}
use Rattle.bw_parse.specs.declared.lexemes.Meaning.TheVariants.{Truth, Function, Nothing, Free}
use Rattle.bw_parse.specs.Steps.Fronts.{behind, word, meaning}
use Rattle.bw_parse.specs.Steps.Expressions.{expr, plugs, pairs, atom, inside, by_meaning}
use Rattle.bw_parse.specs.Steps.Follow.{binds}
use Rattle.bw_parse.proofs.FrontLaws.{some, free_meaning}
use Rattle.bw_parse.proofs.Comes.{Comes, Got, Gives, later}
use Rattle.bw_parse.proofs.Ways.{AtLevel, Base, Atom, base_from, Whole, whole_tight, bang_seven, minus_seven, whole_prefix, whole_binary}

-- an expression in parentheses
inside_gives : (e : Term) (k : List Lexeme) → AtLevel 1 e → Gives (λ f. inside f (spell e (lex.Sign (codes ")") ∷ k))) (e, k)
unfolding AtLevel expr behind
inside_gives e k a =
    let g = a (lex.Sign (codes ")") ∷ k) (omega arith) in
    later (λ f. inside f (spell e (lex.Sign (codes ")") ∷ k))) (e, k) g.from (λ f le. rw (g.gives f (omega arith)) refl)

paren_atom : (e : Term) → AtLevel 1 e → Atom (paren e)
unfolding Atom expr behind
paren_atom e a k =
    let g = inside_gives e k a in
    later (λ f. atom f (spell (paren e) k)) (paren e, k) g.from (λ f le. rw (g.gives f (omega arith)) refl)

fun_meaning : (f : Fun) → meaning (fun_word f) ≡ Function f
unfolding meaning
fun_meaning funs.Text = refl
fun_meaning funs.Number = refl
fun_meaning funs.IsNumber = refl
fun_meaning funs.Count = refl

bool_meaning : (b : Bool) → meaning (truth_word b) ≡ Truth b
unfolding meaning
bool_meaning true = refl
bool_meaning false = refl

word_atom : (w : List ℕ) (m : Meaning) (ts : List Lexeme) (x : Got) → meaning w ≡ m → Gives (λ f. by_meaning f w m ts) x
    → Gives (λ f. atom f (lex.Word w ∷ ts)) x
unfolding expr
word_atom w m ts x e g = later (λ f. atom f (lex.Word w ∷ ts)) x g.from (λ f le. ap (λ j. by_meaning f w j ts) e ∙ g.gives f (omega arith))

call_atom : (g : Fun) (e : Term) → AtLevel 1 e → Atom (call g e)
unfolding Atom expr behind
call_atom g e a k =
    let i = inside_gives e k a in
    word_atom (fun_word g) (Function g) _ (call g e, k) (fun_meaning g)
    (later (λ f. by_meaning f (fun_word g) (Function g) (lex.Sign (codes "(") ∷ spell e (lex.Sign (codes ")") ∷ k))) (call g e, k) i.from
    (λ f le. rw (i.gives f (omega arith)) refl))

name_atom : (w : List ℕ) → is_keyword w ≡ false → Atom (name w)
unfolding Atom expr
name_atom w v k = word_atom w Free k (name w, k) (free_meaning w v) (later (λ f. by_meaning f w Free k) (name w, k) 0 (λ f le. refl))

bool_atom : (b : Bool) → Atom (truth b)
unfolding Atom expr
bool_atom b k =
    word_atom (truth_word b) (Truth b) k (truth b, k) (bool_meaning b) (later (λ f. by_meaning f (truth_word b) (Truth b) k) (truth b, k) 0 (λ f le. refl))

nothing_atom : Atom nothing
unfolding Atom expr meaning
nothing_atom k = word_atom (codes "none") Nothing k (nothing, k) refl (later (λ f. by_meaning f (codes "none") Nothing k) (nothing, k) 0 (λ f le. refl))

int_atom : (n : ℕ) → n < 2 ^ 63 → Atom (int (pos n))
unfolding Atom expr
int_atom n v k = later (λ f. atom f (lex.Number n ∷ k)) (int (pos n), k) 0 (λ f le. rw (lt-ltb n 9223372036854775808 v) refl)

str_atom : (s : List ℕ) → Atom (string s)
unfolding Atom expr
str_atom s k = later (λ f. atom f (lex.Str s ∷ k)) (string s, k) 0 (λ f le. refl)

whole_atom : (e : Term) → level e ≡ 9 → Levelled e → Atom e → Whole e
whole_atom e l v a = whole_tight e (omega arith) v (base_from e a)

pub one_le : (e : Term) → 1 ≤ level e
one_le (int n) = omega arith
one_le (truth n) = omega arith
one_le (string n) = omega arith
one_le (name n) = omega arith
one_le (paren n) = omega arith
one_le (not n) = omega arith
one_le (neg n) = omega arith
one_le (binary op l r) = positive op
  where
    positive : (op : Op) → 1 ≤ op_level op
    positive Or = omega arith
    positive And = omega arith
    positive Eq = omega arith
    positive Ne = omega arith
    positive Lt = omega arith
    positive Le = omega arith
    positive Gt = omega arith
    positive Ge = omega arith
    positive Add = omega arith
    positive Sub = omega arith
    positive Mul = omega arith
    positive Div = omega arith
    positive Rem = omega arith
one_le (call f n) = omega arith
one_le (plug b p) = omega arith
one_le nothing = omega arith

-- ---- pairs

abbrev pub tail_of : List ℕ → Term → Fillings → List Lexeme → List Lexeme
tail_of w e ps k = lex.Word w ∷ lex.Sign (codes "=") ∷ spell e (spell_pairs (codes ",") ps (lex.Sign (codes "]") ∷ k))

unfoldable pub Pairs : Fillings → Type 0
Pairs ps =
    (front : Fillings) (w : List ℕ) (e : Term) (k : List Lexeme) → AtLevel 1 e
    → Comes (Fillings × List Lexeme) (λ f. pairs f front (tail_of w e ps k)) (append_fillings front (filling w e ps), lex.Sign (codes "]") ∷ k)

pairs_end : Pairs no_more
unfolding Pairs AtLevel expr behind word
pairs_end front w e k a =
    let g = a (lex.Sign (codes "]") ∷ k) (omega arith) in
    later (λ f. pairs f front (tail_of w e no_more k)) _ g.from (λ f le. rw (g.gives f (omega arith)) refl)

pairs_more : (v : List ℕ) (d : Term) (ps : Fillings) → AtLevel 1 d → Pairs ps → Pairs (filling v d ps)
unfolding Pairs AtLevel expr behind word
pairs_more v d ps ad rest front w e k a =
    let g = a (spell_pairs (codes ",") (filling v d ps) (lex.Sign (codes "]") ∷ k)) (omega arith) in
    let r = rest (append_fillings front (filling w e no_more)) v d k ad in
    later (λ f. pairs f front (tail_of w e (filling v d ps) k)) _ (g.from + r.from)
    (λ f le. rw (g.gives f (omega arith)) (r.gives f (omega arith)
    ∙ ap (λ y. Some (y, lex.Sign (codes "]") ∷ k)) (append_fillings_assoc front (filling w e no_more) (filling v d ps))))

plug_base : (base : Term) (w : List ℕ) (e : Term) (ps : Fillings) → Base base → AtLevel 1 e → Pairs ps → Base (plug base (filling w e ps))
unfolding Base Pairs expr behind
plug_base base w e ps b a p k x g =
    let r = p no_more w e k a in
    b (spell_pairs (codes "<[") (filling w e ps) (lex.Sign (codes "]") ∷ k)) x
    (later (λ f. plugs f base (lex.Sign (codes "<[") ∷ tail_of w e ps k)) x (r.from + g.from) (λ f le. rw (r.gives f (omega arith)) (g.gives f (omega arith))))

mutual
  pub complete : (e : Term) → Levelled e → Whole e
  complete (int (pos n)) v = whole_atom (int (pos n)) refl v (int_atom n v)
  complete (int (negsuc n)) v = absurd v
  complete (truth b) v = whole_atom (truth b) refl v (bool_atom b)
  complete (string s) v = whole_atom (string s) refl v (str_atom s)
  complete (name w) v = whole_atom (name w) refl v (name_atom w v)
  complete nothing v = whole_atom nothing refl v nothing_atom
  complete (paren e) v = let i = complete e v in whole_atom (paren e) refl v (paren_atom e (i.at 1 (one_le e) (omega arith)))
  complete (call f e) v = let i = complete e v in whole_atom (call f e) refl v (call_atom f e (i.at 1 (one_le e) (omega arith)))
  complete (not e) v = let i = complete e v.1 in whole_prefix (not e) refl (bang_seven e (i.at 7 v.0 (omega arith)))
  complete (neg e) v = let i = complete e v.1 in whole_prefix (neg e) refl (minus_seven e (i.at 7 v.0 (omega arith)))
  complete (binary op l r) v = whole_binary op l r v.0 v.1 (complete l v.2) (complete r v.3)
  complete (plug base no_more) v = absurd v.1
  complete (plug base (filling w e ps)) v =
      let b = complete base v.2 in
      let i = complete e v.3.0 in
      whole_tight (plug base (filling w e ps)) (omega arith) v (plug_base base w e ps (b.base v.0) (i.at 1 (one_le e) (omega arith)) (complete_pairs ps v.3.1))

  complete_pairs : (ps : Fillings) → AreLevelled ps → Pairs ps
  complete_pairs no_more v = pairs_end
  complete_pairs (filling w e ps) v = let i = complete e v.0 in pairs_more w e ps (i.at 1 (one_le e) (omega arith)) (complete_pairs ps v.1)

-- no two levelled expressions are written with the same tokens, where no operator follows
pub unique : (e d : Term) (j k : List Lexeme) → Levelled e → Levelled d → binds j < 1 → binds k < 1 → spell e j ≡ spell d k → (e ≡ d) × (j ≡ k)
unfolding AtLevel
unique e d j k v w b c same =
    let x = (complete e v).at 1 (one_le e) (omega arith) j b in
    let y = (complete d w).at 1 (one_le d) (omega arith) k c in
    let f = x.from + y.from in
    let p : some {A = Got} (e, j) ≡ some {A = Got} (d, k) = sym (x.gives f (omega arith)) ∙ ap (expr f 1) same ∙ y.gives f (omega arith) in
    let q = got_is (e, j) (d, k) p in
    (ap (λ (y : Got). y.0) q, ap (λ (y : Got). y.1) q)
  where
    got_is : (x y : Got) → some x ≡ some y → x ≡ y
    got_is x y p = cc
