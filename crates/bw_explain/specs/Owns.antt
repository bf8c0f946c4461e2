-- What the attributes of an element may be, and what that costs.
use Rattle.std.specs.Prelude.{◌≡◌, ℕ, ◌≤◌, Bool, true, false, ◌||◌, ◌&&◌, not, List, length}
use Rattle.bw_lang.specs.Table.Names.{same}
use Rattle.std.specs.List.{list_any, list_all}
use Rattle.bw_lang.specs.declared.items.Attr.{Attr}
use Rattle.bw_lang.specs.declared.items.AttrValue.{AttrValue}
use Rattle.bw_lang.specs.declared.items.AttrValue.TheVariants.{Fixed, Hole}
use Rattle.bw_sum.specs.Graph.{Graph}
use Rattle.bw_sum.specs.Unfolding.{FillsAttrs}
use Rattle.bw_explain.specs.declared.sizes.TheConstants.{PAST}
use Rattle.bw_explain.specs.Ways.{Way, way_of, ways_at, says}
use Rattle.bw_schema.specs.declared.rules.Rule.{Rule}
use Rattle.bw_schema.specs.Rules.{allows, permits}
use Rattle.bw_schema.specs.Validity.{each_fixed, has_fixed, has_value}
use Rattle.bw_explain.specs.declared.atom.Atom.{Atom}
use Rattle.bw_explain.specs.declared.atom.Atom.TheVariants.{NotAllowed, OtherValue, Absent, Outside}
use Rattle.bw_explain.specs.Atoms.{passes, fails}
use Rattle.bw_explain.specs.Sizes.{capped, if_so, may_fill, attrs_least}

-- own is the least number of attributes that fill those of a template and are good
pub record OwnIs (G : Graph) (good : List Attr → Bool) (own : ℕ → List Attr → ℕ) : Type 0 where
  pub low : (n : ℕ) (a b : List Attr) → FillsAttrs G n a b → good b ≡ true → own n a ≤ capped (length b)
  pub high : (n : ℕ) (a : List Attr) → own n a ≤ PAST → (b : List Attr) × FillsAttrs G n a b × (good b ≡ true) × (capped (length b) ≤ own n a)

-- some string of the label fails the test at an attribute of that name
pub record FailsIs (test : List ℕ → List ℕ → Bool) (fails : List ℕ → Way → Bool) : Type 0 where
  pub low : (x : List ℕ) (w : Way) (s : List ℕ) → says w s ≡ true → test x s ≡ false → fails x w ≡ true
  pub high : (x : List ℕ) (w : Way) → fails x w ≡ true → (s : List ℕ) × (says w s ≡ true) × (test x s ≡ false)

-- the value is fixed and fails, or a string of its gap does
abbrev pub may_fail : List Way → (List ℕ → List ℕ → Bool) → (List ℕ → Way → Bool) → List ℕ → AttrValue → Bool
may_fail ways test fails x (Fixed s) = not (test x s)
may_fail ways test fails x (Hole g) = fails x (way_of ways g)

-- faults 1 and 3: all can stand, and one may have a value that fails
abbrev pub failing_own : List (List Way) → (List ℕ → List ℕ → Bool) → (List ℕ → Way → Bool) → ℕ → List Attr → ℕ
failing_own nodes test fails n a =
    if_so (list_all (λ x. may_fill (ways_at nodes n) x.value) a && list_any (λ x. may_fail (ways_at nodes n) test fails x.name x.value) a)
    (capped (length a))

-- the value passes the test; one that is left open doesn't
abbrev pub value_passes : (List ℕ → List ℕ → Bool) → List ℕ → AttrValue → Bool
value_passes test x (Fixed v) = test x v
value_passes test x (Hole g) = false

-- some attribute of the name x has a value that passes
abbrev pub has_passing : (List ℕ → List ℕ → Bool) → List ℕ → List Attr → Bool
has_passing test x b = list_any (λ c. same c.name x && value_passes test c.name c.value) b

-- the same, or its gap may be left open
abbrev pub may_leave : List Way → (List ℕ → List ℕ → Bool) → (List ℕ → Way → Bool) → List ℕ → AttrValue → Bool
may_leave ways test fails x (Fixed s) = not (test x s)
may_leave ways test fails x (Hole g) = (way_of ways g).is_open || fails x (way_of ways g)

-- fault 2, and needs of attributes: all can stand, and each of the name x may be left open or have a value that doesn't pass
abbrev pub leaving_own : List (List Way) → (List ℕ → List ℕ → Bool) → (List ℕ → Way → Bool) → List ℕ → ℕ → List Attr → ℕ
leaving_own nodes test fails x n a =
    if_so (list_all (λ c. may_fill (ways_at nodes n) c.value) a
    && list_all (λ c. not (same c.name x) || may_leave (ways_at nodes n) test fails c.name c.value) a) (capped (length a))

-- an element with these attributes is broken so, as far as they go
abbrev pub own_broken : Rule → Atom → List Attr → Bool
own_broken r NotAllowed b = not (each_fixed (λ x v. allows r x) b)
own_broken r OtherValue b = not (each_fixed (permits r.values) b)
own_broken r (Absent x) b = not (has_fixed b x)
own_broken r (Outside x vs) b = not (has_value b x vs)
own_broken r a b = true

-- the least number of such attributes
abbrev pub own_least : List (List Way) → Rule → Atom → ℕ → List Attr → ℕ
own_least nodes r NotAllowed n a = failing_own nodes (passes r NotAllowed) (fails r NotAllowed) n a
own_least nodes r OtherValue n a = failing_own nodes (passes r OtherValue) (fails r OtherValue) n a
own_least nodes r (Absent x) n a = leaving_own nodes (passes r (Absent x)) (fails r (Absent x)) x n a
own_least nodes r (Outside x vs) n a = leaving_own nodes (passes r (Outside x vs)) (fails r (Outside x vs)) x n a
own_least nodes r y n a = attrs_least (ways_at nodes n) a
