-- The first element of a page that breaks its rule.
use Rattle.std.specs.Prelude.{ℕ, ◌+◌, Bool, true, false, not, ◌&&◌, ◌||◌, List, Option, Some, None, if◌then◌else◌}
use Rattle.std.specs.List.{list_all}
use Rattle.bw_lang.specs.Document.Documents.{elements}
use Rattle.bw_lang.specs.Document.Forest.{Forest, none, text, gap, element}
use Rattle.bw_lang.specs.declared.items.Attr as items
use Rattle.bw_schema.specs.Rules.{allows, permits, rule_of}
use Rattle.bw_schema.specs.Validity.{each_child, each_fixed, each_text, has_fixed, has_value, holds, is_bare, is_other, is_rooted, ordered}
use Rattle.bw_lang.specs.Text.Bytes.{is_blank_text}
use Rattle.bw_schema.specs.Words.{is_among}
use Rattle.bw_schema.specs.declared.needs.Formula.{Formula}
use Rattle.bw_schema.specs.declared.needs.Formula.TheVariants.{And, Or, Attr, OneOf, Content, Order}
use Rattle.bw_schema.specs.declared.rules.Rule.{Rule}
use Rattle.bw_schema.specs.declared.schema.Schema.{Schema}
use Rattle.bw_valid.specs.declared.breach.Breach.{Breach}

-- the number of the first rule that an element with these attributes and children breaks
abbrev pub broken : Rule → List items.Attr → Forest → Option ℕ
broken r attrs inner =
    if not (each_fixed (λ x v. allows r x) attrs) then Some 1 else
    if not (list_all (has_fixed attrs) r.must) then Some 2 else
    if not (each_fixed (permits r.values) attrs) then Some 3 else
    if not (each_child (is_among r.has) inner) then Some 4 else
    if not (r.text || each_text is_blank_text inner) then Some 5 else
    if not (holds true r.needs attrs inner) then Some 7 else None

-- an element without a rule breaks none
abbrev pub broken_at : Option Rule → List items.Attr → Forest → Option ℕ
broken_at None attrs inner = None
broken_at (Some r) attrs inner = broken r attrs inner

-- the first, or else the second
abbrev pub or_then : Option Breach → Option Breach → Option Breach
or_then None b = b
or_then (Some a) b = Some a

-- the rule is broken at this place
abbrev pub placed : ℕ → Option ℕ → Option Breach
placed n None = None
placed n (Some k) = Some (record { place = n; rule = k })

-- the first element in pre-order that breaks its rule, where n elements stand in front
abbrev pub first_broken : List Rule → ℕ → Forest → Option Breach
first_broken rules n none = None
first_broken rules n (text s rest) = first_broken rules n rest
first_broken rules n (gap g rest) = first_broken rules n rest
first_broken rules n (element tag attrs inner rest) =
    or_then (placed (n + 1) (broken_at (rule_of rules tag) attrs inner))
    (or_then (first_broken rules (n + 1) inner) (first_broken rules (n + 1 + elements inner) rest))

-- what a page breaks first: rule 6 at place 1, where it isn't one element of the root tag, or else its first element does
abbrev pub breach : Schema → Forest → Option Breach
breach s t = if is_rooted s.root t then first_broken s.elements 0 t else Some (record { place = 1; rule = 6 })

-- ---- for the steps of the code

-- one formula alone
abbrev pub holds_alone : Formula → List items.Attr → Forest → Bool
holds_alone (And parts) attrs inner = holds true parts attrs inner
holds_alone (Or parts) attrs inner = holds false parts attrs inner
holds_alone (Attr x) attrs inner = has_fixed attrs x
holds_alone (OneOf x vs) attrs inner = has_value attrs x vs
holds_alone (Content x) attrs inner = not (each_child (is_other x) inner)
holds_alone (Order x y) attrs inner = ordered x y inner

-- the same order, where a child y stands in front or not
abbrev pub ordered_behind : Bool → List ℕ → List ℕ → Forest → Bool
ordered_behind passed x y t = (not passed || each_child (is_other x) t) && ordered x y t

-- the page is one element of the tag, where that was met already or not
abbrev pub is_rooted_from : Bool → List ℕ → Forest → Bool
is_rooted_from true root t = is_bare t
is_rooted_from false root t = is_rooted root t
