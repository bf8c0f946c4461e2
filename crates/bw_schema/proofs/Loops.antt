-- Loops over lines, marks and formulas.
use Rattle.std.proofs.Common.{◌≡◌, ℕ, ◌+◌, ◌<◌, ◌≤◌, Bool, true, false, ◌||◌, List, [], ◌∷◌, ◌++◌, length, get_or, take, drop, Option, Some, None, refl, ap}
use Rattle.std.proofs.Common.{sym, ◌∙◌, arith, append_assoc}
use Rattle.std.specs.Prelude.{flat_map, if◌then◌else◌}
use Rattle.std.specs.List.{list_any}
use Rattle.std.proofs.lemmas.List.{take_more, drop_more, append-nil}
use Rattle.bw_lang.specs.Table.Options.{◌>>=◌}
use Rattle.bw_schema.specs.Forms.{one}
use Rattle.bw_schema.specs.Steps.Judging.{marks_of}
use Rattle.bw_schema.specs.MarkView.{mark_of}
use Rattle.bw_schema.specs.Marks.{Mark, each_line, first_missing, first_repeated, mark, rule_at, same_mark, used_in}
use Rattle.bw_schema.specs.Needs.{Needs, nothing, all_of, some_of, attr, one_value, content, order, append_needs}
use Rattle.bw_schema.specs.declared.marks.Kind.TheVariants as kinds
use Rattle.bw_schema.specs.NeedsView.{before_need, needs}
use Rattle.bw_schema.specs.Steps.Reading.{line_of, lines_of}
use Rattle.bw_schema.specs.RulesOf.{has_of, is_text, may_of, must_of, needs_of, own, rules_of, values_of, with_line}
use Rattle.bw_schema.specs.declared.lines.Line.{Line}
use Rattle.bw_schema.specs.declared.lines.Line.TheVariants.{Element, May, Must, Value, Has, Text, Need}
use Rattle.bw_schema.specs.declared.marks.Mark.{Mark as Held}
use Rattle.bw_schema.specs.declared.needs.Formula.{Formula}
use Rattle.bw_schema.specs.declared.rules.Rule.{Rule}
use Rattle.bw_schema.proofs.FormulaLoops.{append-nothing, append_one}
use Rattle.bw_schema.proofs.Lists.{drop_past}
use Rattle.bw_schema.proofs.NeedsLaws.{needs_more}
use Rattle.std.proofs.Math.Bool.{or-false}

-- what is left of a list begins with what was read
pub drop_read : {A : Type 0} (xs : List A) (i : ℕ) (x : A) → x ≡ get_or xs i x → i < length xs → drop i xs ≡ x ∷ drop (i + 1) xs
drop_read xs i x e h = drop_more xs i x h ∙ ap (λ y. y ∷ drop (i + 1) xs) (sym e)

pub take_read : {A : Type 0} (xs : List A) (i : ℕ) (x : A) → x ≡ get_or xs i x → i < length xs → take (i + 1) xs ≡ take i xs ++ x ∷ []
take_read xs i x e h = take_more xs i x h ∙ ap (λ y. take i xs ++ y ∷ []) (sym e)

-- ---- lines

-- lines in front of those that are read
abbrev pub in_front : List Line → Option (List Line) → Option (List Line)
in_front done o = o >>= λ lines. Some (done ++ lines)

pub front_more : (v : ℕ) (said : List (List (List ℕ))) (i : ℕ) (ws : List (List ℕ)) (done : List Line) (line : Line) → ws ≡ get_or said i ws
    → i < length said → line_of v ws ≡ Some line
    → in_front done (lines_of v (drop i said)) ≡ in_front (done ++ line ∷ []) (lines_of v (drop (i + 1) said))
front_more v said i ws done line e h k =
    ap (λ t. in_front done (lines_of v t)) (drop_read said i ws e h)
    ∙ ap (λ o. in_front done (o >>= λ l. lines_of v (drop (i + 1) said) >>= λ ls. Some (l ∷ ls))) k ∙ behind (lines_of v (drop (i + 1) said))
  where
    behind : (o : Option (List Line)) → in_front done (o >>= λ ls. Some (line ∷ ls)) ≡ in_front (done ++ line ∷ []) o
    behind None = refl
    behind (Some ls) = ap Some (sym (append_assoc done (line ∷ []) ls))

pub front_none : (v : ℕ) (said : List (List (List ℕ))) (i : ℕ) (ws : List (List ℕ)) (done : List Line) → ws ≡ get_or said i ws → i < length said
    → line_of v ws ≡ None
    → in_front done (lines_of v (drop i said)) ≡ None
front_none v said i ws done e h k =
    ap (λ t. in_front done (lines_of v t)) (drop_read said i ws e h)
    ∙ ap (λ o. in_front done (o >>= λ l. lines_of v (drop (i + 1) said) >>= λ ls. Some (l ∷ ls))) k

-- ---- marks

pub line_more : (says : ℕ → Line → List Mark) (n : ℕ) (lines : List Line) (i : ℕ) (line : Line) (done all : List Mark) → line ≡ get_or lines i line
    → i < length lines
    → done ++ each_line says n (drop i lines) ≡ all
    → (done ++ says (rule_at n line) line) ++ each_line says (rule_at n line) (drop (i + 1) lines) ≡ all
line_more says n lines i line done all e h k =
    append_assoc done (says (rule_at n line) line) (each_line says (rule_at n line) (drop (i + 1) lines))
    ∙ sym (ap (λ t. done ++ each_line says n t) (drop_read lines i line e h)) ∙ k

pub rule_within : (n : ℕ) (line : Line) (i : ℕ) → n ≤ i → rule_at n line ≤ i + 1
rule_within n (Element tag) i h = omega (arith, h)
rule_within n (May names) i h = omega (arith, h)
rule_within n (Must names) i h = omega (arith, h)
rule_within n (Value name values) i h = omega (arith, h)
rule_within n (Has tags) i h = omega (arith, h)
rule_within n Text i h = omega (arith, h)
rule_within n (Need f) i h = omega (arith, h)

used-append : (n : ℕ) (a b : Needs) → used_in n (append_needs a b) ≡ used_in n a ++ used_in n b
used-append n nothing b = refl
used-append n (all_of p rest) b = ap (λ t. used_in n p ++ t) (used-append n rest b) ∙ sym (append_assoc (used_in n p) (used_in n rest) (used_in n b))
used-append n (some_of p rest) b = ap (λ t. used_in n p ++ t) (used-append n rest b) ∙ sym (append_assoc (used_in n p) (used_in n rest) (used_in n b))
used-append n (attr x rest) b = ap (λ t. mark n kinds.Attribute x ∷ t) (used-append n rest b)
used-append n (one_value x vs rest) b = ap (λ t. mark n kinds.Attribute x ∷ t) (used-append n rest b)
used-append n (content x rest) b = ap (λ t. mark n kinds.Child x ∷ t) (used-append n rest b)
used-append n (order x y rest) b = ap (λ t. mark n kinds.Child x ∷ mark n kinds.Child y ∷ t) (used-append n rest b)

-- what one formula more uses comes behind
pub used_more : (n : ℕ) (fs : List Formula) (i : ℕ) (f : Formula) (old : List Mark) → f ≡ get_or fs i f → i < length fs
    → old ++ used_in n (needs (take (i + 1) fs)) ≡ (old ++ used_in n (needs (take i fs))) ++ used_in n (one f)
used_more n fs i f old e h =
    ap (λ t. old ++ used_in n (needs t)) (take_read fs i f e h) ∙ ap (λ t. old ++ used_in n t) (needs_more (take i fs) f)
    ∙ ap (λ t. old ++ t) (used-append n (needs (take i fs)) (one f)) ∙ sym (append_assoc old (used_in n (needs (take i fs))) (used_in n (one f)))

pub repeated_here : (set : List Mark) (marks : List Held) (i : ℕ) (m : Held) → m ≡ get_or marks i m → i < length marks
    → list_any (same_mark (mark_of m)) set ≡ true
    → first_repeated set (marks_of (drop i marks)) ≡ Some (mark_of m).name
repeated_here set marks i m e h k =
    ap (λ t. first_repeated set (marks_of t)) (drop_read marks i m e h)
    ∙ ap (λ b. if b then Some (mark_of m).name else first_repeated (set ++ mark_of m ∷ []) (marks_of (drop (i + 1) marks))) k

pub repeated_later : (set : List Mark) (marks : List Held) (i : ℕ) (m : Held) → m ≡ get_or marks i m → i < length marks
    → list_any (same_mark (mark_of m)) set ≡ false
    → first_repeated set (marks_of (drop i marks)) ≡ first_repeated (set ++ mark_of m ∷ []) (marks_of (drop (i + 1) marks))
repeated_later set marks i m e h k =
    ap (λ t. first_repeated set (marks_of t)) (drop_read marks i m e h)
    ∙ ap (λ b. if b then Some (mark_of m).name else first_repeated (set ++ mark_of m ∷ []) (marks_of (drop (i + 1) marks))) k

pub missing_here : (there : List Mark) (marks : List Held) (i : ℕ) (m : Held) → m ≡ get_or marks i m → i < length marks
    → list_any (same_mark (mark_of m)) there ≡ false
    → first_missing there (marks_of (drop i marks)) ≡ Some (mark_of m).name
missing_here there marks i m e h k =
    ap (λ t. first_missing there (marks_of t)) (drop_read marks i m e h)
    ∙ ap (λ b. if b then first_missing there (marks_of (drop (i + 1) marks)) else Some (mark_of m).name) k

pub missing_later : (there : List Mark) (marks : List Held) (i : ℕ) (m : Held) → m ≡ get_or marks i m → i < length marks
    → list_any (same_mark (mark_of m)) there ≡ true
    → first_missing there (marks_of (drop i marks)) ≡ first_missing there (marks_of (drop (i + 1) marks))
missing_later there marks i m e h k =
    ap (λ t. first_missing there (marks_of t)) (drop_read marks i m e h)
    ∙ ap (λ b. if b then first_missing there (marks_of (drop (i + 1) marks)) else Some (mark_of m).name) k

-- ---- rules

-- the rule with what further lines say
abbrev pub filled : Rule → List Line → Rule
filled r lines = record {
  tag = r.tag;
  may = r.may ++ flat_map may_of lines;
  must = r.must ++ flat_map must_of lines;
  values = r.values ++ flat_map values_of lines;
  has = r.has ++ flat_map has_of lines;
  text = r.text || list_any is_text lines;
  needs = append_needs r.needs (needs_of lines);
}

pub filled_none : (r : Rule) → filled r [] ≡ r
filled_none r = λ i. record {
  tag = r.tag;
  may = append-nil r.may i;
  must = append-nil r.must i;
  values = append-nil r.values i;
  has = append-nil r.has i;
  text = or-false r.text i;
  needs = append-nothing r.needs i;
}

or_true : (b : Bool) → (b || true) ≡ true
or_true true = refl
or_true false = refl

-- a line that begins no rule
abbrev pub IsOther : Line → Type 0
IsOther line = (tag : List ℕ) → line ≡ Element tag → ⊥

-- one line more
pub own_more : (r : Rule) (line : Line) (lines : List Line) → IsOther line → filled r (own (line ∷ lines)) ≡ filled (with_line r line) (own lines)
own_more r (Element tag) lines h = absurd (h tag refl)
own_more r (May names) lines h = λ i. record (filled r (own lines)) { may = sym (append_assoc r.may names (flat_map may_of (own lines))) i }
own_more r (Must names) lines h = λ i. record (filled r (own lines)) { must = sym (append_assoc r.must names (flat_map must_of (own lines))) i }
own_more r (Value name values) lines h =
    λ i. record (filled r (own lines)) { values = sym (append_assoc r.values (record { name = name; words = values } ∷ []) (flat_map values_of (own lines))) i }
own_more r (Has tags) lines h = λ i. record (filled r (own lines)) { has = sym (append_assoc r.has tags (flat_map has_of (own lines))) i }
own_more r Text lines h = λ i. record (filled r (own lines)) { text = or_true r.text i }
own_more r (Need f) lines h = λ i. record (filled r (own lines)) { needs = sym (append_one r.needs f (needs_of (own lines))) i }

pub rule_more : (r : Rule) (lines : List Line) (i : ℕ) (line : Line) → line ≡ get_or lines i line → i < length lines → IsOther line
    → filled r (own (drop i lines)) ≡ filled (with_line r line) (own (drop (i + 1) lines))
rule_more r lines i line e h other = ap (λ t. filled r (own t)) (drop_read lines i line e h) ∙ own_more r line (drop (i + 1) lines) other

pub rule_ends : (r : Rule) (lines : List Line) (i : ℕ) (line : Line) (tag : List ℕ) → line ≡ get_or lines i line → i < length lines → line ≡ Element tag
    → filled r (own (drop i lines)) ≡ r
rule_ends r lines i line tag e h is = ap (λ t. filled r (own t)) (drop_read lines i line e h) ∙ ap (λ l. filled r (own (l ∷ drop (i + 1) lines))) is
    ∙ filled_none r

pub rules_skip : (line : Line) (lines : List Line) → IsOther line → rules_of (line ∷ lines) ≡ rules_of lines
rules_skip (Element tag) lines h = absurd (h tag refl)
rules_skip (May names) lines h = refl
rules_skip (Must names) lines h = refl
rules_skip (Value name values) lines h = refl
rules_skip (Has tags) lines h = refl
rules_skip Text lines h = refl
rules_skip (Need f) lines h = refl

-- ---- formulas

pub needs_read : (fs : List Formula) (i : ℕ) (f : Formula) → f ≡ get_or fs i f → i < length fs
    → needs (take (i + 1) fs) ≡ append_needs (needs (take i fs)) (before_need f nothing)
needs_read fs i f e h = ap needs (take_read fs i f e h) ∙ needs_more (take i fs) f

pub filled_end : (r : Rule) (lines : List Line) (i : ℕ) → length lines ≤ i → filled r (own (drop i lines)) ≡ r
filled_end r lines i h = ap (λ t. filled r (own t)) (drop_past lines i h) ∙ filled_none r
