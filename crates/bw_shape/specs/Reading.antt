-- The facts of a template follow from those of the templates that its links lead to.
use Rattle.std.proofs.Common.{◌≡◌, ℕ, ◌==◌, Bool, ◌||◌, ◌&&◌, not, List, [], ◌∷◌, get_or, refl, ap, ◌∙◌, arith}
use Rattle.std.specs.List.{list_any, All}
use Rattle.std.proofs.lemmas.List.Elements.{All-tail}
use Rattle.bw_lang.specs.Document.Forest.{Forest, none, text, gap, element}
use Rattle.bw_lang.specs.Table.Names.{name_number}
use Rattle.bw_shape.specs.Rows.Rounds.{ReadsLinks}
use Rattle.bw_shape.specs.Nodes.Nodes.{Node, node_at, is_free, among, led, linked}
use Rattle.bw_shape.specs.Nodes.Templates.{template_at}
use Rattle.bw_lang.specs.Text.Bytes.{is_blank_text}
use Rattle.bw_shape.specs.Tests.{is_field, tag_column, gives, lacks, misses, crosses}
use Rattle.bw_shape.specs.Follows.{spread_follows, lack_follows, top_follows, miss_follows, cross_follows}

-- the links of the template of that number
abbrev pub links_of : List Node → ℕ → List (ℕ × ℕ)
links_of nodes n = (node_at nodes n).links

any_same : (p q : ℕ × ℕ → Bool) (links : List (ℕ × ℕ)) → All (λ l. p l ≡ q l) links → list_any p links ≡ list_any q links
any_same p q [] h = refl
any_same p q (l ∷ links) h = ap (λ b. b || list_any p links) (h 0 l (omega arith))
    ∙ ap (λ b. q l || b) (any_same p q links (All-tail (λ k. p k ≡ q k) l links h))

-- where the same is known of the templates that the links lead to
module _ (node : Node) (p q : ℕ → Bool) (same : All (λ l. p l.1 ≡ q l.1) node.links) where
  linked_same : linked node p ≡ linked node q
  linked_same = any_same (λ l. p l.1) (λ l. q l.1) node.links same

  led_same : (g : ℕ) → led node p g ≡ led node q g
  led_same g = any_same (λ l. l.0 == g && p l.1) (λ l. l.0 == g && q l.1) node.links (λ k d l. ap (λ b. ((get_or node.links k d).0 == g) && b) (same k d l))

  lacks_same : (names : List (List ℕ)) (f : ℕ) (t : Forest) → lacks names node p f t ≡ lacks names node q f t
  lacks_same names f none = refl
  lacks_same names f (text s r) = lacks_same names f r
  lacks_same names f (gap g r) = ap (λ b. (is_free node g || b) && lacks names node p f r) (led_same g)
      ∙ ap (λ b. (is_free node g || led node q g) && b) (lacks_same names f r)
  lacks_same names f (element tag a i r) = ap (λ b. not (is_field names f tag a) && (b && lacks names node p f r)) (lacks_same names f i)
      ∙ ap (λ b. not (is_field names f tag a) && (lacks names node q f i && b)) (lacks_same names f r)

  gives_same : (tags : List (List ℕ)) (c : ℕ) (t : Forest) → gives tags node p c t ≡ gives tags node q c t
  gives_same tags c none = refl
  gives_same tags c (text s r) = ap (λ b. ((0 == c) && not (is_blank_text s)) || b) (gives_same tags c r)
  gives_same tags c (gap g r) = ap (λ b. (((0 == c) && among node.wordy g) || b) || gives tags node p c r) (led_same g)
      ∙ ap (λ b. (((0 == c) && among node.wordy g) || led node q g) || b) (gives_same tags c r)
  gives_same tags c (element tag a i r) = ap (λ b. (tag_column tags tag == c) || b) (gives_same tags c r)

  misses_same : (tags : List (List ℕ)) (c : ℕ) (t : Forest) → misses tags node p c t ≡ misses tags node q c t
  misses_same tags c none = refl
  misses_same tags c (text s r) = misses_same tags c r
  misses_same tags c (gap g r) = ap (λ b. (is_free node g || b) && misses tags node p c r) (led_same g)
      ∙ ap (λ b. (is_free node g || led node q g) && b) (misses_same tags c r)
  misses_same tags c (element tag a i r) = ap (λ b. not (name_number tags tag == c) && b) (misses_same tags c r)

  crosses_same : (tags : List (List ℕ)) (tops : ℕ → ℕ → Bool) (pair : ℕ × ℕ) (t : Forest) → crosses tags node tops p pair t ≡ crosses tags node tops q pair t
  crosses_same tags tops pair none = refl
  crosses_same tags tops pair (text s r) =
      ap (λ b. (gives tags node (λ m. tops m pair.0) pair.0 (text s none) && gives tags node (λ m. tops m pair.1) pair.1 r) || b)
      (crosses_same tags tops pair r)
  crosses_same tags tops pair (gap g r) =
      let here : Bool = gives tags node (λ m. tops m pair.0) pair.0 (gap g none) && gives tags node (λ m. tops m pair.1) pair.1 r in
      ap (λ b. (b || here) || crosses tags node tops p pair r) (led_same g) ∙ ap (λ b. (led node q g || here) || b) (crosses_same tags tops pair r)
  crosses_same tags tops pair (element tag a i r) =
      ap (λ b. (gives tags node (λ m. tops m pair.0) pair.0 (element tag a i none) && gives tags node (λ m. tops m pair.1) pair.1 r) || b)
      (crosses_same tags tops pair r)

pub spread_reads : (nodes : List Node) (own : ℕ → ℕ → Bool) → ReadsLinks (links_of nodes) (spread_follows nodes own)
spread_reads nodes own n c f g h = ap (λ b. own n c || b) (linked_same (node_at nodes n) (λ m. f m c) (λ m. g m c) (λ k d l. h k d l c))

module _ (templates : List Forest) (nodes : List Node) where
  pub lack_reads : (names : List (List ℕ)) → ReadsLinks (links_of nodes) (lack_follows templates nodes names)
  lack_reads names n c f g h = lacks_same (node_at nodes n) (λ m. f m c) (λ m. g m c) (λ k d l. h k d l c) names c (template_at templates n)

  pub top_reads : (tags : List (List ℕ)) → ReadsLinks (links_of nodes) (top_follows templates nodes tags)
  top_reads tags n c f g h = gives_same (node_at nodes n) (λ m. f m c) (λ m. g m c) (λ k d l. h k d l c) tags c (template_at templates n)

  pub miss_reads : (tags : List (List ℕ)) → ReadsLinks (links_of nodes) (miss_follows templates nodes tags)
  miss_reads tags n c f g h = misses_same (node_at nodes n) (λ m. f m c) (λ m. g m c) (λ k d l. h k d l c) tags c (template_at templates n)

  pub cross_reads : (tags : List (List ℕ)) (tops : ℕ → ℕ → Bool) (pairs : List (ℕ × ℕ))
      → ReadsLinks (links_of nodes) (cross_follows templates nodes tags tops pairs)
  cross_reads tags tops pairs n c f g h = crosses_same (node_at nodes n) (λ m. f m c) (λ m. g m c) (λ k d l. h k d l c) tags tops (get_or pairs c (0, 0))
      (template_at templates n)
