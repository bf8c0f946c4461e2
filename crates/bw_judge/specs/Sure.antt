-- Where a formula is sure at an element, by what is known of its template.
use Rattle.std.specs.Prelude.{ℕ, Bool, true, false, ◌&&◌, not, List}
use Rattle.std.specs.List.{list_any}
use Rattle.bw_lang.specs.declared.items.Attr.{Attr}
use Rattle.bw_lang.specs.Document.Forest.{Forest}
use Rattle.bw_lang.specs.Table.Names.{same, name_number}
use Rattle.bw_shape.specs.Rows.Rows.{at}
use Rattle.bw_shape.specs.Formulas.{pair_number}
use Rattle.bw_shape.specs.Tests.{misses, crosses, tag_column}
use Rattle.bw_schema.specs.Needs.{Needs, nothing, all_of, some_of, attr, one_value, content, order}
use Rattle.bw_schema.specs.Validity.{joined}
use Rattle.bw_schema.specs.declared.needs.Formula.{Formula}
use Rattle.bw_schema.specs.declared.needs.Formula.TheVariants.{And, Or, Attr as HasAttr, OneOf, Content, Order}
use Rattle.bw_judge.specs.Scene.{Scene, is_loose, is_kept}

-- the attribute is there in any case
abbrev pub is_there : Scene → List Attr → List ℕ → Bool
is_there s attrs x = list_any (λ a. same a.name x && not (is_loose s a.value)) attrs

-- it is there in any case, with a value of the list
abbrev pub is_there_with : Scene → List Attr → List ℕ → List (List ℕ) → Bool
is_there_with s attrs x vs = list_any (λ a. same a.name x && (not (is_loose s a.value) && is_kept s vs a.value)) attrs

-- the element may have no child with that tag
abbrev pub may_miss : Scene → List ℕ → Forest → Bool
may_miss s x inner = misses s.tags s.node (λ m. at s.miss m (name_number s.tags x)) (name_number s.tags x) inner

-- it may have a child y before a child x
abbrev pub may_cross : Scene → List ℕ → List ℕ → Forest → Bool
may_cross s x y inner =
    crosses s.tags s.node (at s.tops) (λ m. at s.cross m (pair_number s.pairs (tag_column s.tags y, tag_column s.tags x)))
    (tag_column s.tags y, tag_column s.tags x) inner

-- with true all of the needs are sure at an element, with false some of them
abbrev pub sure : Scene → Bool → Needs → List Attr → Forest → Bool
sure s b nothing attrs inner = b
sure s b (all_of parts rest) attrs inner = joined b (sure s true parts attrs inner) (sure s b rest attrs inner)
sure s b (some_of parts rest) attrs inner = joined b (sure s false parts attrs inner) (sure s b rest attrs inner)
sure s b (attr x rest) attrs inner = joined b (is_there s attrs x) (sure s b rest attrs inner)
sure s b (one_value x vs rest) attrs inner = joined b (is_there_with s attrs x vs) (sure s b rest attrs inner)
sure s b (content x rest) attrs inner = joined b (not (may_miss s x inner)) (sure s b rest attrs inner)
sure s b (order x y rest) attrs inner = joined b (not (may_cross s x y inner)) (sure s b rest attrs inner)

-- one formula is
abbrev pub sure_one : Scene → Formula → List Attr → Forest → Bool
sure_one s (And parts) attrs inner = sure s true parts attrs inner
sure_one s (Or parts) attrs inner = sure s false parts attrs inner
sure_one s (HasAttr x) attrs inner = is_there s attrs x
sure_one s (OneOf x vs) attrs inner = is_there_with s attrs x vs
sure_one s (Content x) attrs inner = not (may_miss s x inner)
sure_one s (Order x y) attrs inner = not (may_cross s x y inner)
