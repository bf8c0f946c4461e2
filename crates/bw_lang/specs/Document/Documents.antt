-- What plugging and closing give, how many gaps are open, and how deep they stand.
use Rattle.std.specs.Prelude.{ℕ, suc, ◌+◌, max, Bool, true, false, ◌==◌, if◌then◌else◌, List, [], ◌∷◌, map, count_by, Option, Some, None, unwrap_or}
use Rattle.std.specs.List.{list_any}
use Rattle.bw_lang.specs.declared.items.Attr.{Attr}
use Rattle.bw_lang.specs.declared.items.AttrValue.{AttrValue}
use Rattle.bw_lang.specs.declared.items.AttrValue.TheVariants.{Fixed, Hole}
use Rattle.bw_lang.specs.Document.Forest.{Forest, none, text, gap, element}

-- one forest and then another
abbrev pub append : Forest → Forest → Forest
append none e = e
append (text s rest) e = text s (append rest e)
append (gap g rest) e = gap g (append rest e)
append (element tag attrs inner rest) e = element tag attrs inner (append rest e)

-- the content gap g filled by the forest e, wherever it is open
abbrev pub plug : ℕ → Forest → Forest → Forest
plug g e none = none
plug g e (text s rest) = text s (plug g e rest)
plug g e (gap h rest) = if h == g then append e (plug g e rest) else gap h (plug g e rest)
plug g e (element tag attrs inner rest) = element tag attrs (plug g e inner) (plug g e rest)

-- a value with the gap g filled by the string s
abbrev pub filled_value : ℕ → List ℕ → AttrValue → AttrValue
filled_value g s (Fixed v) = Fixed v
filled_value g s (Hole h) = if h == g then Fixed s else Hole h

-- an attribute with the gap g filled by the string s
abbrev pub filled_attr : ℕ → List ℕ → Attr → Attr
filled_attr g s a = record { name = a.name; value = filled_value g s a.value }

-- the gap g filled by a string: a content gap becomes one text, an attribute gap the fixed value
abbrev pub plug_text : ℕ → List ℕ → Forest → Forest
plug_text g s none = none
plug_text g s (text t rest) = text t (plug_text g s rest)
plug_text g s (gap h rest) = if h == g then text s (plug_text g s rest) else gap h (plug_text g s rest)
plug_text g s (element tag attrs inner rest) = element tag (map (filled_attr g s) attrs) (plug_text g s inner) (plug_text g s rest)

-- the attribute before the others, unless its gap is open
abbrev pub keep_fixed : Attr → AttrValue → List Attr → List Attr
keep_fixed a (Fixed v) rest = a ∷ rest
keep_fixed a (Hole h) rest = rest

-- the attributes whose value is fixed
abbrev pub closed_attrs : List Attr → List Attr
closed_attrs [] = []
closed_attrs (a ∷ rest) = keep_fixed a a.value (closed_attrs rest)

-- without open gaps, and without the attributes whose value is one
abbrev pub close : Forest → Forest
close none = none
close (text s rest) = text s (close rest)
close (gap g rest) = close rest
close (element tag attrs inner rest) = element tag (closed_attrs attrs) (close inner) (close rest)

-- it is the open gap g
abbrev pub is_hole : ℕ → AttrValue → Bool
is_hole g (Fixed v) = false
is_hole g (Hole h) = h == g

-- 1 where it holds
abbrev pub one_if : Bool → ℕ
one_if b = if b then 1 else 0

-- how many open gaps g there are
abbrev pub count : ℕ → Forest → ℕ
count g none = 0
count g (text s rest) = count g rest
count g (gap h rest) = one_if (h == g) + count g rest
count g (element tag attrs inner rest) = count_by (λ a. is_hole g a.value) attrs + count g inner + count g rest

-- the greater of two depths, where either is there
abbrev pub deeper : Option ℕ → Option ℕ → Option ℕ
deeper None n = n
deeper (Some m) None = Some m
deeper (Some m) (Some n) = Some (max m n)

-- one element further in
abbrev pub under : Option ℕ → Option ℕ
under None = None
under (Some n) = Some (n + 1)

-- inside no element, where it holds
abbrev pub here : Bool → Option ℕ
here b = if b then Some 0 else None

-- the greatest number of elements around an open gap g, if one is open; the element of an attribute gap is around it
abbrev pub depth : ℕ → Forest → Option ℕ
depth g none = None
depth g (text s rest) = depth g rest
depth g (gap h rest) = deeper (here (h == g)) (depth g rest)
depth g (element tag attrs inner rest) = deeper (under (deeper (here (list_any (λ a. is_hole g a.value) attrs)) (depth g inner))) (depth g rest)

-- the same number, or 0 where no gap g is open
abbrev pub around : ℕ → Forest → ℕ
around g d = unwrap_or (depth g d) 0

-- how many elements there are at all levels
abbrev pub elements : Forest → ℕ
elements none = 0
elements (text s rest) = elements rest
elements (gap g rest) = elements rest
elements (element tag attrs inner rest) = suc (elements inner + elements rest)

-- it is an open gap of any name
abbrev pub is_open : AttrValue → Bool
is_open (Fixed v) = false
is_open (Hole h) = true

-- how many gaps are open, of any name
abbrev pub open_gaps : Forest → ℕ
open_gaps none = 0
open_gaps (text s rest) = open_gaps rest
open_gaps (gap g rest) = suc (open_gaps rest)
open_gaps (element tag attrs inner rest) = count_by (λ a. is_open a.value) attrs + open_gaps inner + open_gaps rest
