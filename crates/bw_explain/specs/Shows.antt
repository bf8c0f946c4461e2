-- Which unfoldings show a fault.
use Rattle.std.specs.Prelude.{◌≡◌, ℕ, ◌+◌, ◌==◌, Bool, true, false, ◌||◌, ◌&&◌, not, List, Option, Some, None, if◌then◌else◌}
use Rattle.std.specs.List.{list_all}
use Rattle.bw_lang.specs.declared.items.Attr.{Attr}
use Rattle.bw_lang.specs.Document.Forest.{Forest, none, gap, element}
use Rattle.bw_lang.specs.Document.Documents.{append, elements, close, closed_attrs}
use Rattle.bw_schema.specs.declared.rules.Rule.{Rule}
use Rattle.bw_lang.specs.Text.Bytes.{is_blank_text}
use Rattle.bw_schema.specs.Words.{is_among}
use Rattle.bw_schema.specs.Rules.{allows, permits, rule_of}
use Rattle.bw_schema.specs.Needs.{Needs, nothing, all_of, some_of, attr, one_value, content, order}
use Rattle.bw_schema.specs.Validity.{each_fixed, has_fixed, has_value, each_child, each_text, is_other, ordered, holds}
use Rattle.bw_faults.specs.declared.fault.Fault.{Fault}
use Rattle.bw_sum.specs.Graph.{Graph}
use Rattle.bw_sum.specs.Unfolding.{FillsAttrs, Fills, Unfolds}
use Rattle.bw_explain.specs.Atoms.{is_plain}

-- a need without Or doesn't hold of an element
abbrev pub some_broken : Needs → List Attr → Forest → Bool
some_broken nothing b j = false
some_broken (all_of parts rest) b j = (is_plain parts && not (holds true parts b j)) || some_broken rest b j
some_broken (some_of parts rest) b j = some_broken rest b j
some_broken (attr x rest) b j = not (has_fixed b x) || some_broken rest b j
some_broken (one_value x vs rest) b j = not (has_value b x vs) || some_broken rest b j
some_broken (content x rest) b j = each_child (is_other x) j || some_broken rest b j
some_broken (order x y rest) b j = not (ordered x y j) || some_broken rest b j

-- an element with these attributes and items breaks the rule of that number; of the needs, one without Or
abbrev pub breaks : ℕ → Rule → List Attr → Forest → Bool
breaks number r b j =
    if number == 1 then not (each_fixed (λ x v. allows r x) b) else
    if number == 2 then not (list_all (has_fixed b) r.must) else
    if number == 3 then not (each_fixed (permits r.values) b) else
    if number == 4 then not (each_child (is_among r.has) j) else
    if number == 5 then not (r.text || each_text is_blank_text j) else
    if number == 7 then some_broken r.needs b j else false

-- the element breaks a rule, where there is one
abbrev pub breaks_some : ℕ → Option Rule → List Attr → Forest → Bool
breaks_some number None b j = false
breaks_some number (Some r) b j = breaks number r b j

-- the number is that of template n
abbrev pub is_template : Option ℕ → ℕ → Bool
is_template None n = false
is_template (Some m) n = n == m

-- element k of template n is the fault's, and closed it breaks the rule of the fault's number
abbrev pub is_shown : List Rule → Fault → ℕ → ℕ → List ℕ → List Attr → Forest → Bool
is_shown rules f n k tag b j = (is_template f.template n && (k == f.place)) && breaks_some f.number (rule_of rules tag) (closed_attrs b) (close j)

-- d is an unfolding of the part t of template n, where k elements of the template stand before it, in which an element passes the test, by its place in its
-- template, its tag and what its attributes and items became
pub data Shown (templates : ℕ → Forest) (G : Graph) (is_it : ℕ → ℕ → List ℕ → List Attr → Forest → Bool) : ℕ → ℕ → Forest → Forest → Type 0 where
  here : {n k : ℕ} {tag : List ℕ} {a b : List Attr} {i j : Forest} → FillsAttrs G n a b → Fills templates G n i j → is_it n (k + 1) tag b j ≡ true
      → Shown templates G is_it n k (element tag a i none) (element tag b j none)
  inside : {n k : ℕ} {tag : List ℕ} {a b : List Attr} {i j : Forest} → FillsAttrs G n a b → Shown templates G is_it n (k + 1) i j
      → Shown templates G is_it n k (element tag a i none) (element tag b j none)
  led : {n k g m : ℕ} {e : Forest} → G.edge n g m ≡ true → Shown templates G is_it m 0 (templates m) e → Shown templates G is_it n k (gap g none) e
  among : {n k : ℕ} {p t q c d e : Forest} → Fills templates G n p c → Shown templates G is_it n (k + elements p) t d → Fills templates G n q e
      → Shown templates G is_it n k (append p (append t q)) (append c (append d e))

-- d is an unfolding of template n that shows the fault: by choices with which the fault's element breaks the rule. Fault 6 is shown by each unfolding
pub data Shows (templates : ℕ → Forest) (G : Graph) (rules : List Rule) (f : Fault) (n : ℕ) (d : Forest) : Type 0 where
  each : (f.number == 6) ≡ true → Unfolds templates G n d → Shows templates G rules f n d
  some : (f.number == 6) ≡ false → Shown templates G (is_shown rules f) n 0 (templates n) d → Shows templates G rules f n d
