-- A search for the first number over a limit looks at one element more.
use Rattle.std.proofs.Common.{◌≡◌, ℕ, ◌+◌, ◌<◌, List, ◌∷◌, ◌++◌, length, get_or, drop, map, Option, Some, None, refl, sym, ap, ◌∙◌, append_assoc}
use Rattle.std.proofs.Common.{append-nil, find, flat_map}
use Rattle.std.specs.List.{filter_map}
use Rattle.std.specs.Prelude.{nat_lt}
use Rattle.std.specs.Option.{option_or, option_to_list}
use Rattle.std.proofs.lemmas.List.Folds.{find-append}
use Rattle.bw_lang.specs.declared.items.Item.{Item}
use Rattle.bw_lang.specs.declared.items.Item.TheVariants as items
use Rattle.bw_lang.specs.declared.limits.Leaf.{Leaf}
use Rattle.bw_lang.specs.declared.stmt.Stmt.{Stmt}
use Rattle.bw_lang.specs.declared.stmt.Stmt.TheVariants as stmts
use Rattle.bw_lang.specs.Service.Code.{Code, done}
use Rattle.bw_lang.specs.Service.CodeView.{code}
use Rattle.bw_lang.specs.Service.CodeView as code_view
use Rattle.bw_lang.specs.Document.Forest.{Forest, none}
use Rattle.bw_lang.specs.Service.Limits.{name_length, term_lengths, pair_lengths, code_lengths, item_lengths}
use Rattle.bw_lang.specs.Service.TermView.{term, fillings}
use Rattle.bw_lang.specs.Document.View.{forest}
use Rattle.bw_lang.specs.Document.View as view
use Rattle.std.proofs.lemmas.List.{drop_more}
use Rattle.bw_limits.proofs.Sorts.{sort_numbers}

-- the numbers of a list are those of its first element and then those of the others
pub record Splits {X : Type 0} (l : List X → List ℕ) (f : X → List ℕ) : Type 0 where
  pub step : (x : X) (xs : List X) → l (x ∷ xs) ≡ f x ++ l xs

-- what was found in the element, and else in those behind it, is found in the whole
pub looked_at : {X : Type 0} {l : List X → List ℕ} {f : X → List ℕ} (most : ℕ) (s : Splits l f) (xs : List X) (i : ℕ) (x : X) (found whole : Option ℕ)
    → x ≡ get_or xs i x → i < length xs → found ≡ find (nat_lt most) (f x) → find (nat_lt most) (l (drop i xs)) ≡ whole
    → option_or found (find (nat_lt most) (l (drop (i + 1) xs))) ≡ whole
looked_at {X} {l} {f} most s xs i x found whole is lt e rest =
    let behind = drop (i + 1) xs in
    ap (λ o. option_or o (find (nat_lt most) (l behind))) (e ∙ ap (λ y. find (nat_lt most) (f y)) is)
    ∙ sym (find-append (nat_lt most) (f (get_or xs i x)) (l behind))
    ∙ ap (find (nat_lt most)) (sym (s.step (get_or xs i x) behind)) ∙ ap (λ ys. find (nat_lt most) (l ys)) (sym (drop_more xs i x lt)) ∙ rest

pub by_pairs : (k : Leaf) → Splits (λ ps. pair_lengths k (fillings ps)) (λ q. name_length k q.gap ++ term_lengths k (term q.value))
by_pairs k = record { step = λ q ps. sym (append_assoc (name_length k q.gap) (term_lengths k (term q.value)) (pair_lengths k (fillings ps))) }

pub by_elements : {X : Type 0} (f : X → List ℕ) → Splits (flat_map f) f
by_elements f = record { step = λ x xs. refl }

pub by_sort : {X Y : Type 0} (h : X → Option Y) (f : Y → ℕ) → Splits (λ xs. map f (filter_map h xs)) (λ x. map f (option_to_list (h x)))
by_sort h f = record { step = λ x xs. sort_numbers f (h x) (filter_map h xs) }

statement_lengths : (k : Leaf) (s : Stmt) (rest : Code)
    → code_lengths k (code_view.before s rest) ≡ code_lengths k (code_view.before s done) ++ code_lengths k rest
statement_lengths k (stmts.Declare t w e) rest = simp (append_assoc, append-nil)
statement_lengths k (stmts.Assign w e) rest = simp (append_assoc, append-nil)
statement_lengths k (stmts.If t y None) rest = simp (append_assoc, append-nil)
statement_lengths k (stmts.If t y (Some n)) rest = simp (append_assoc, append-nil)
statement_lengths k (stmts.While t b) rest = simp (append_assoc, append-nil)
statement_lengths k (stmts.Block b) rest = simp append-nil
statement_lengths k (stmts.Each w e b) rest = simp (append_assoc, append-nil)
statement_lengths k (stmts.Show p rs) rest = simp (append_assoc, append-nil)
statement_lengths k (stmts.Exit p) rest = simp append-nil

pub by_statements : (k : Leaf) → Splits (λ ss. code_lengths k (code ss)) (λ s. code_lengths k (code_view.before s done))
by_statements k = record { step = λ s ss. statement_lengths k s (code ss) }

one_item_lengths : (gaps : List (List ℕ)) (x : Item) (rest : Forest)
    → item_lengths gaps (view.before x rest) ≡ item_lengths gaps (view.before x none) ++ item_lengths gaps rest
one_item_lengths gaps (items.Text s) rest = refl
one_item_lengths gaps (items.Element e) rest = simp (append_assoc, append-nil)
one_item_lengths gaps (items.Gap g) rest = refl

pub by_items : (gaps : List (List ℕ)) → Splits (λ xs. item_lengths gaps (forest xs)) (λ x. item_lengths gaps (view.before x none))
by_items gaps = record { step = λ x xs. one_item_lengths gaps x (forest xs) }

pub ruleset first_steps = (find-append)
