-- Which facts of a template follow from those that are known of all. A row is a template, and a column a field or a tag.
use Rattle.std.specs.Prelude.{ℕ, ◌||◌, nat_lt, List, slice_index_or}
use Rattle.bw_lang.specs.Document.Forest.{Forest}
use Rattle.bw_shape.specs.Nodes.Nodes.{Node, node_at, linked}
use Rattle.bw_shape.specs.Nodes.Templates.{template_at}
use Rattle.bw_shape.specs.Rows.Least.{Facts, Derivation}
use Rattle.bw_shape.specs.Tests.{gives, stands, lacks, places, misses, crosses}

-- what each template has itself, or by one that a link leads to
abbrev pub spread_follows : List Node → (own : Facts) → Derivation
spread_follows nodes own known n c = own n c || linked (node_at nodes n) (λ m. known m c)

-- a control of the field stands in the template
abbrev pub stands_in : List Forest → (names : List (List ℕ)) → Facts
stands_in templates names n f = stands names f (template_at templates n)

-- the fields have these names
module _ (templates : List Forest) (nodes : List Node) (names : List (List ℕ)) where
  -- two controls of the field may stand in the template, where it is known which templates may have one
  abbrev pub doubled_in : (have : Facts) → Facts
  doubled_in have n f = nat_lt 1 (places names (node_at nodes n) (λ m. have m f) f (template_at templates n))

  -- the template may have the field
  abbrev pub have_follows : Derivation
  have_follows known n f = stands names f (template_at templates n) || linked (node_at nodes n) (λ m. known m f)

  -- it may lack the field
  abbrev pub lack_follows : Derivation
  lack_follows known n f = lacks names (node_at nodes n) (λ m. known m f) f (template_at templates n)

  -- it may have the field twice, where it is known which templates may have it
  abbrev pub twice_follows : (have : Facts) → Derivation
  twice_follows have known n f =
      nat_lt 1 (places names (node_at nodes n) (λ m. have m f) f (template_at templates n)) || linked (node_at nodes n) (λ m. known m f)

-- the elements have these tags
module _ (templates : List Forest) (nodes : List Node) (tags : List (List ℕ)) where
  -- the template may have the column at its top
  abbrev pub top_follows : Derivation
  top_follows known n c = gives tags (node_at nodes n) (λ m. known m c) c (template_at templates n)

  -- it may have no such tag there
  abbrev pub miss_follows : Derivation
  miss_follows known n c = misses tags (node_at nodes n) (λ m. known m c) c (template_at templates n)

  -- it may have both of a pair of columns there, in that order, where it is known which templates may have each
  abbrev pub cross_follows : (tops : Facts) → (pairs : List (ℕ × ℕ)) → Derivation
  cross_follows tops pairs known n c =
      crosses tags (node_at nodes n) tops (λ m. known m c) (slice_index_or pairs c (0, 0)) (template_at templates n)
