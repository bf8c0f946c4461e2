-- Walks over a list of items, and over a list of formulas.
use Rattle.std.proofs.Math.Bool.{and_assoc}
use Rattle.std.proofs.Common.{◌≡◌, ℕ, suc, ◌+◌, ◌<◌, Bool, true, false, not, ◌||◌, ◌&&◌, List, ◌∷◌, length, Option, Some, None, take, drop, get_or, refl, ap}
use Rattle.std.proofs.Common.{sym, ◌∙◌, arith}
use Rattle.std.proofs.lemmas.Bool.{false≢true}
use Rattle.std.proofs.lemmas.List.{drop_more}
use Rattle.bw_lang.specs.declared.items.Attr.{Attr}
use Rattle.bw_lang.specs.declared.items.Item.{Item}
use Rattle.bw_lang.specs.declared.items.Item.TheVariants.{Text, Element, Gap}
use Rattle.bw_lang.specs.Document.Forest.{Forest, none, text, gap, element}
use Rattle.bw_lang.specs.Document.View.{forest, before}
use Rattle.bw_lang.specs.Document.Documents.{append, elements}
use Rattle.bw_lang.proofs.Counts.{elements-append}
use Rattle.bw_lang.proofs.Forests.{forest_steps, forest-take, forest-split}
use Rattle.bw_schema.specs.declared.needs.Formula.{Formula}
use Rattle.bw_schema.specs.declared.needs.Formula.TheVariants as formula
use Rattle.bw_schema.specs.declared.rules.Rule.{Rule}
use Rattle.bw_valid.specs.declared.breach.Breach.{Breach}
use Rattle.bw_schema.specs.Rules.{rule_of}
use Rattle.bw_schema.specs.NeedsView.{needs, before_need}
use Rattle.bw_schema.specs.Needs.{Needs}
use Rattle.bw_schema.specs.Validity.{each_child, each_text, holds, is_other, joined, ordered}
use Rattle.bw_valid.specs.Breaches.{broken_at, first_broken, holds_alone, or_then, ordered_behind, placed}

pub child-append : (p : List ℕ → Bool) (a b : Forest) → each_child p (append a b) ≡ (each_child p a && each_child p b)
child-append p none b = refl
child-append p (text s r) b = child-append p r b
child-append p (gap g r) b = child-append p r b
child-append p (element tag a i r) b = ap (λ c. p tag && c) (child-append p r b) ∙ sym (and_assoc (p tag) (each_child p r) (each_child p b))

pub texts-append : (p : List ℕ → Bool) (a b : Forest) → each_text p (append a b) ≡ (each_text p a && each_text p b)
texts-append p none b = refl
texts-append p (text s r) b = ap (λ c. p s && c) (texts-append p r b) ∙ sym (and_assoc (p s) (each_text p r) (each_text p b))
texts-append p (gap g r) b = texts-append p r b
texts-append p (element tag a i r) b = texts-append p r b

pub or_then_none : (a : Option Breach) → or_then a None ≡ a
or_then_none None = refl
or_then_none (Some b) = refl

or_then_assoc : (a b c : Option Breach) → or_then a (or_then b c) ≡ or_then (or_then a b) c
or_then_assoc None b c = refl
or_then_assoc (Some a) b c = refl

-- of one forest and then another
pub first_broken-append : (rules : List Rule) (n : ℕ) (a b : Forest)
    → first_broken rules n (append a b) ≡ or_then (first_broken rules n a) (first_broken rules (n + elements a) b)
first_broken-append rules n none b = let e : n ≡ n + 0 = omega arith in ap (λ k. first_broken rules k b) e
first_broken-append rules n (text s r) b = first_broken-append rules n r b
first_broken-append rules n (gap g r) b = first_broken-append rules n r b
first_broken-append rules n (element tag a i r) b =
    let e : n + 1 + elements i + elements r ≡ n + suc (elements i + elements r) = omega arith in
    let x = placed (n + 1) (broken_at (rule_of rules tag) a i) in
    let y = first_broken rules (n + 1) i in
    ap (λ o. or_then x (or_then y o)) (first_broken-append rules (n + 1 + elements i) r b
    ∙ ap (λ k. or_then (first_broken rules (n + 1 + elements i) r) (first_broken rules k b)) e)
    ∙ ap (or_then x) (or_then_assoc y (first_broken rules (n + 1 + elements i) r) (first_broken rules (n + suc (elements i + elements r)) b))
    ∙ or_then_assoc x (or_then y (first_broken rules (n + 1 + elements i) r)) (first_broken rules (n + suc (elements i + elements r)) b)

-- what is first broken in an item, where nothing before it is, is first broken in all
pub broken_there : (rules : List Rule) (n : ℕ) (xs : List Item) (i : ℕ) (x : Item) (b : Breach) → x ≡ get_or xs i x → i < length xs
    → first_broken rules n (forest (take i xs)) ≡ None → first_broken rules (n + elements (forest (take i xs))) (before x none) ≡ Some b
    → first_broken rules n (forest xs) ≡ Some b
broken_there rules n xs i x b e h clean it =
    let behind = forest (drop (i + 1) xs) in
    let upto : first_broken rules n (forest (take (i + 1) xs)) ≡ Some b =
    ap (first_broken rules n) (forest-take xs i x e h) ∙ first_broken-append rules n (forest (take i xs)) (before x none)
    ∙ ap (λ o. or_then o (first_broken rules (n + elements (forest (take i xs))) (before x none))) clean ∙ it in
    ap (first_broken rules n) (sym (forest-split xs (i + 1))) ∙ first_broken-append rules n (forest (take (i + 1) xs)) behind
    ∙ ap (λ o. or_then o (first_broken rules (n + elements (forest (take (i + 1) xs))) behind)) upto

-- ---- children in their order

stops : (p ox oy e o : Bool) → (p && not (ox && true)) ≡ true → ((not p || (ox && e)) && ((oy || e) && o)) ≡ false
stops true true oy e o h = absurd (false≢true h)
stops true false oy e o h = refl
stops false ox oy e o h = absurd (false≢true h)

goes_on : (p ox oy e o : Bool) → (p && not (ox && true)) ≡ false → ((not p || (ox && e)) && ((oy || e) && o)) ≡ ((not (p || not (oy && true)) || e) && o)
goes_on true true true e o h = refl
goes_on true true false true o h = refl
goes_on true true false false o h = refl
goes_on true false oy e o h = absurd (false≢true (sym h))
goes_on false ox true e o h = refl
goes_on false ox false e o h = refl

as_before : (p : Bool) → p ≡ (p || not true)
as_before true = refl
as_before false = refl

never : (p : Bool) → (p && not true) ≡ true → ⊥
never true h = false≢true h
never false h = false≢true h

-- a child x behind a child y breaks the order
pub order_stops : (p : Bool) (x y : List ℕ) (item : Item) (f : Forest) → (p && not (each_child (is_other x) (before item none))) ≡ true
    → ordered_behind p x y (before item f) ≡ false
order_stops p x y (Text s) f h = absurd (never p h)
order_stops p x y (Gap g) f h = absurd (never p h)
order_stops p x y (Element e) f h = stops p (is_other x e.tag) (is_other y e.tag) (each_child (is_other x) f) (ordered x y f) h

-- and else it is that of what follows
pub order_goes_on : (p : Bool) (x y : List ℕ) (item : Item) (f : Forest) → (p && not (each_child (is_other x) (before item none))) ≡ false
    → ordered_behind p x y (before item f) ≡ ordered_behind (p || not (each_child (is_other y) (before item none))) x y f
order_goes_on p x y (Text s) f h = ap (λ q. ordered_behind q x y f) (as_before p)
order_goes_on p x y (Gap g) f h = ap (λ q. ordered_behind q x y f) (as_before p)
order_goes_on p x y (Element e) f h = goes_on p (is_other x e.tag) (is_other y e.tag) (each_child (is_other x) f) (ordered x y f) h

-- the same along a list of items
pub order_done : (x y : List ℕ) (p : Bool) (xs : List Item) (i : ℕ) (item : Item) → item ≡ get_or xs i item → i < length xs
    → (p && not (each_child (is_other x) (before item none))) ≡ true → ordered_behind p x y (forest (drop i xs)) ≡ false
order_done x y p xs i item e h k =
    ap (λ t. ordered_behind p x y (forest t)) (drop_more xs i item h ∙ ap (λ z. z ∷ drop (i + 1) xs) (sym e))
    ∙ order_stops p x y item (forest (drop (i + 1) xs)) k

pub order_more : (x y : List ℕ) (p : Bool) (xs : List Item) (i : ℕ) (item : Item) → item ≡ get_or xs i item → i < length xs
    → (p && not (each_child (is_other x) (before item none))) ≡ false
    → ordered_behind p x y (forest (drop i xs)) ≡ ordered_behind (p || not (each_child (is_other y) (before item none))) x y (forest (drop (i + 1) xs))
order_more x y p xs i item e h k =
    ap (λ t. ordered_behind p x y (forest t)) (drop_more xs i item h ∙ ap (λ z. z ∷ drop (i + 1) xs) (sym e))
    ∙ order_goes_on p x y item (forest (drop (i + 1) xs)) k

-- ---- formulas

-- the first formula, and then the others
pub holds_before : (b : Bool) (f : Formula) (rest : Needs) (a : List Attr) (i : Forest)
    → holds b (before_need f rest) a i ≡ joined b (holds_alone f a i) (holds b rest a i)
holds_before b (formula.And parts) rest a i = refl
holds_before b (formula.Or parts) rest a i = refl
holds_before b (formula.Attr x) rest a i = refl
holds_before b (formula.OneOf x vs) rest a i = refl
holds_before b (formula.Content x) rest a i = refl
holds_before b (formula.Order x y) rest a i = refl

-- one that decides, and one that doesn't
pub joined_stops : (b one rest : Bool) → (one ≡ b → ⊥) → joined b one rest ≡ one
joined_stops true true rest h = absurd (h refl)
joined_stops true false rest h = refl
joined_stops false true rest h = refl
joined_stops false false rest h = absurd (h refl)

pub joined_goes_on : (b one rest : Bool) → one ≡ b → joined b one rest ≡ rest
joined_goes_on true true rest h = refl
joined_goes_on true false rest h = absurd (false≢true h)
joined_goes_on false true rest h = absurd (false≢true (sym h))
joined_goes_on false false rest h = refl

-- one formula more
pub holds_stops : (b : Bool) (fs : List Formula) (i : ℕ) (f : Formula) (one : Bool) (a : List Attr) (t : Forest) → f ≡ get_or fs i f → i < length fs
    → one ≡ holds_alone f a t → (one ≡ b → ⊥)
    → holds b (needs (drop i fs)) a t ≡ one
holds_stops b fs i f one a t e h k n =
    ap (λ z. holds b (needs z) a t) (drop_more fs i f h ∙ ap (λ z. z ∷ drop (i + 1) fs) (sym e)) ∙ holds_before b f (needs (drop (i + 1) fs)) a t
    ∙ ap (λ o. joined b o (holds b (needs (drop (i + 1) fs)) a t)) (sym k) ∙ joined_stops b one (holds b (needs (drop (i + 1) fs)) a t) n

pub holds_goes_on : (b : Bool) (fs : List Formula) (i : ℕ) (f : Formula) (one : Bool) (a : List Attr) (t : Forest) → f ≡ get_or fs i f → i < length fs
    → one ≡ holds_alone f a t → one ≡ b
    → holds b (needs (drop i fs)) a t ≡ holds b (needs (drop (i + 1) fs)) a t
holds_goes_on b fs i f one a t e h k n =
    ap (λ z. holds b (needs z) a t) (drop_more fs i f h ∙ ap (λ z. z ∷ drop (i + 1) fs) (sym e)) ∙ holds_before b f (needs (drop (i + 1) fs)) a t
    ∙ ap (λ o. joined b o (holds b (needs (drop (i + 1) fs)) a t)) (sym k) ∙ joined_goes_on b one (holds b (needs (drop (i + 1) fs)) a t) n

pub ruleset walk_steps = (forest_steps, elements-append, or_then_none, first_broken-append, child-append, texts-append)
