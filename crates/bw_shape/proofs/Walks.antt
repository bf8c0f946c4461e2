-- The tests of one forest and then another.
use Rattle.std.proofs.Common.{◌≡◌, ℕ, ◌+◌, ◌<◌, ◌≤◌, ◌==◌, ◌⊎◌, inl, inr, Bool, true, false, ◌||◌, ◌&&◌, not, List, length, get_or, refl, ap, sym, ◌∙◌, arith}
use Rattle.std.proofs.Math.Bool.{or_assoc, and_assoc, or-false}
use Rattle.std.specs.List.{All}
use Rattle.std.proofs.lemmas.List.{get_or_past}
use Rattle.bw_shape.proofs.Rows.Rows.{split}
use Rattle.bw_shape.proofs.Rows.Changes.{sets_then}
use Rattle.bw_lang.specs.Document.Forest.{Forest, none, text, gap, element}
use Rattle.bw_lang.specs.Document.Documents.{append}
use Rattle.bw_lang.specs.Table.Names.{name_number}
use Rattle.bw_lang.specs.declared.items.Item.{Item}
use Rattle.bw_lang.specs.declared.items.Item.TheVariants.{Text, Element, Gap}
use Rattle.bw_lang.specs.Document.View.{before}
use Rattle.bw_lang.proofs.Forests.{forest_steps}
use Rattle.bw_shape.specs.Rows.Rows.{flag, at}
use Rattle.bw_shape.specs.Rows.Changes.{Sets}
use Rattle.bw_shape.specs.Nodes.Nodes.{Node, among, led}
use Rattle.bw_lang.specs.Text.Bytes.{is_blank_text}
use Rattle.bw_shape.specs.Nodes.Nodes.{is_free}
use Rattle.bw_shape.specs.Tests.{gives, tag_column, stands, lacks, places, misses, crosses, opens, is_field}

pub gives-append : (tags : List (List ℕ)) (node : Node) (known : ℕ → Bool) (c : ℕ) (a b : Forest)
    → gives tags node known c (append a b) ≡ (gives tags node known c a || gives tags node known c b)
gives-append tags node known c none b = refl
gives-append tags node known c (text s r) b = ap (λ x. ((0 == c) && not (is_blank_text s)) || x) (gives-append tags node known c r b)
    ∙ sym (or_assoc _ (gives tags node known c r) (gives tags node known c b))
gives-append tags node known c (gap g r) b =
    ap (λ x. (((0 == c) && among node.wordy g) || led node known g) || x) (gives-append tags node known c r b)
    ∙ sym (or_assoc _ (gives tags node known c r) (gives tags node known c b))
gives-append tags node known c (element tag a i r) b = ap (λ x. (tag_column tags tag == c) || x) (gives-append tags node known c r b)
    ∙ sym (or_assoc _ (gives tags node known c r) (gives tags node known c b))

pub stands-append : (names : List (List ℕ)) (f : ℕ) (a b : Forest) → stands names f (append a b) ≡ (stands names f a || stands names f b)
stands-append names f none b = refl
stands-append names f (text s r) b = stands-append names f r b
stands-append names f (gap g r) b = stands-append names f r b
stands-append names f (element tag a i r) b =
    ap (λ x. is_field names f tag a || (stands names f i || x)) (stands-append names f r b)
    ∙ ap (λ x. is_field names f tag a || x) (sym (or_assoc (stands names f i) (stands names f r) (stands names f b)))
    ∙ sym (or_assoc (is_field names f tag a) (stands names f i || stands names f r) (stands names f b))

pub lacks-append : (names : List (List ℕ)) (node : Node) (known : ℕ → Bool) (f : ℕ) (a b : Forest)
    → lacks names node known f (append a b) ≡ (lacks names node known f a && lacks names node known f b)
lacks-append names node known f none b = refl
lacks-append names node known f (text s r) b = lacks-append names node known f r b
lacks-append names node known f (gap g r) b = ap (λ x. (is_free node g || led node known g) && x) (lacks-append names node known f r b)
    ∙ sym (and_assoc _ (lacks names node known f r) (lacks names node known f b))
lacks-append names node known f (element tag a i r) b =
    ap (λ x. not (is_field names f tag a) && (lacks names node known f i && x)) (lacks-append names node known f r b)
    ∙ ap (λ x. not (is_field names f tag a) && x) (sym (and_assoc (lacks names node known f i) (lacks names node known f r) (lacks names node known f b)))
    ∙ sym (and_assoc (not (is_field names f tag a)) (lacks names node known f i && lacks names node known f r) (lacks names node known f b))

pub places-append : (names : List (List ℕ)) (node : Node) (have : ℕ → Bool) (f : ℕ) (a b : Forest)
    → places names node have f (append a b) ≡ places names node have f a + places names node have f b
places-append names node have f none b = omega arith
places-append names node have f (text s r) b = places-append names node have f r b
places-append names node have f (gap g r) b = omega (arith, places-append names node have f r b)
places-append names node have f (element tag a i r) b = omega (arith, places-append names node have f r b)

pub misses-append : (tags : List (List ℕ)) (node : Node) (known : ℕ → Bool) (c : ℕ) (a b : Forest)
    → misses tags node known c (append a b) ≡ (misses tags node known c a && misses tags node known c b)
misses-append tags node known c none b = refl
misses-append tags node known c (text s r) b = misses-append tags node known c r b
misses-append tags node known c (gap g r) b = ap (λ x. (is_free node g || led node known g) && x) (misses-append tags node known c r b)
    ∙ sym (and_assoc _ (misses tags node known c r) (misses tags node known c b))
misses-append tags node known c (element tag a i r) b = ap (λ x. not (name_number tags tag == c) && x) (misses-append tags node known c r b)
    ∙ sym (and_assoc _ (misses tags node known c r) (misses tags node known c b))

-- how the parts of two forests cross
cross_parts : (k x g h c y d : Bool) → ((k || (x && (g || h))) || ((c || (y && h)) || d)) ≡ ((((k || (x && g)) || c) || ((x || y) && h)) || d)
cross_parts true x g h c y d = refl
cross_parts false true true h c y d = refl
cross_parts false true false true true y d = refl
cross_parts false true false true false y d = refl
cross_parts false true false false true y d = refl
cross_parts false true false false false true d = refl
cross_parts false true false false false false d = refl
cross_parts false false g true true y d = refl
cross_parts false false g true false y d = refl
cross_parts false false g false true y d = refl
cross_parts false false g false false true d = refl
cross_parts false false g false false false d = refl

module _ (tags : List (List ℕ)) (node : Node) (tops : ℕ → ℕ → Bool) (known : ℕ → Bool) (p : ℕ × ℕ) where
  First : Forest → Bool
  First t = gives tags node (λ m. tops m p.0) p.0 t

  Second : Forest → Bool
  Second t = gives tags node (λ m. tops m p.1) p.1 t

  Cross : Forest → Bool
  Cross t = crosses tags node tops known p t

  one_more : (k : Bool) (x : Forest → Forest) (r b : Forest) → First (x r) ≡ (First (x none) || First r)
      → Cross (append r b) ≡ ((Cross r || (First r && Second b)) || Cross b)
      → ((k || (First (x none) && Second (append r b))) || Cross (append r b))
      ≡ ((((k || (First (x none) && Second r)) || Cross r) || (First (x r) && Second b)) || Cross b)
  unfolding First Second Cross
  one_more k x r b e h =
      ap (λ s. (k || (First (x none) && s)) || Cross (append r b)) (gives-append tags node (λ m. tops m p.1) p.1 r b)
      ∙ ap (λ s. (k || (First (x none) && (Second r || Second b))) || s) h
      ∙ cross_parts k (First (x none)) (Second r) (Second b) (Cross r) (First r) (Cross b)
      ∙ ap (λ s. (((k || (First (x none) && Second r)) || Cross r) || (s && Second b)) || Cross b) (sym e)

  pub crosses-append : (a b : Forest) → crosses tags node tops known p (append a b)
      ≡ ((crosses tags node tops known p a || (gives tags node (λ m. tops m p.0) p.0 a && gives tags node (λ m. tops m p.1) p.1 b))
      || crosses tags node tops known p b)
  unfolding First Second Cross
  crosses-append none b = refl
  crosses-append (text s r) b = one_more false (text s) r b (ap (λ x. x || First r) (sym (or-false _))) (crosses-append r b)
  crosses-append (gap g r) b = one_more (led node known g) (gap g) r b (ap (λ x. x || First r) (sym (or-false _))) (crosses-append r b)
  crosses-append (element tag a i r) b = one_more false (element tag a i) r b (ap (λ x. x || First r) (sym (or-false _))) (crosses-append r b)

  one_none : (k x : Bool) → ((k || (x && false)) || false) ≡ k
  one_none true x = refl
  one_none false true = refl
  one_none false false = refl

  pub crosses-one : (x : Item) → crosses tags node tops known p (before x none) ≡ opens node known (before x none)
  crosses-one (Text s) = one_none false (gives tags node (λ m. tops m p.0) p.0 (text s none))
  crosses-one (Gap g) = one_none (led node known g) (gives tags node (λ m. tops m p.0) p.0 (gap g none))
  crosses-one (Element e) = one_none false (gives tags node (λ m. tops m p.0) p.0 (element e.tag e.attrs e.items none))

-- the items up to a place were walked
pub record Crossed (tags : List (List ℕ)) (node : Node) (tops known : List (List Bool)) (pairs : List (ℕ × ℕ))
    (seen old new : List Bool) (t : Forest) : Type 0 where
  pub len : length seen ≡ length tags + 1
  pub each : (c : ℕ) → c < length tags + 1 → flag seen c ≡ gives tags node (λ m. at tops m c) c t
  pub row : Sets old new (λ c. crosses tags node (at tops) (λ m. at known m c) (get_or pairs c (0, 0)) t)

turn : (c y h d : Bool) → ((c || (y && h)) || d) ≡ (c || (d || (y && h)))
turn true y h d = refl
turn false true true true = refl
turn false true true false = refl
turn false true false true = refl
turn false true false false = refl
turn false false h true = refl
turn false false h false = refl

within : (pairs : List (ℕ × ℕ)) (w k : ℕ) → 0 < w → All (λ p. (p.0 < w) × (p.1 < w)) pairs
    → (k < length pairs) ⊎ (length pairs ≤ k) → (get_or pairs k (0, 0)).0 < w
within pairs w k z h (inl l) = (h k (0, 0) l).0
within pairs w k z h (inr l) = rw get_or_past z

-- one item more
pub crossed_more : (tags : List (List ℕ)) (node : Node) (tops known : List (List Bool)) (pairs : List (ℕ × ℕ))
    (seen seen2 old new new2 : List Bool) (t : Forest) (x : Item)
    → All (λ p. (p.0 < length tags + 1) × (p.1 < length tags + 1)) pairs → Crossed tags node tops known pairs seen old new t
    → Sets seen seen2 (λ c. gives tags node (λ m. at tops m c) c (before x none))
    → Sets new new2 (λ c. opens node (λ m. at known m c) (before x none)
    || (flag seen (get_or pairs c (0, 0)).0 && gives tags node (λ m. at tops m (get_or pairs c (0, 0)).1) (get_or pairs c (0, 0)).1 (before x none)))
    → Crossed tags node tops known pairs seen2 old new2 (append t (before x none))
crossed_more tags node tops known pairs seen seen2 old new new2 t x all inv s r = record {
  len = s.len ∙ inv.len;
  each = λ c l. let m : c < length seen = omega (arith, l, inv.len) in
      s.each c m ∙ ap (λ b. b || gives tags node (λ m. at tops m c) c (before x none)) (inv.each c l)
      ∙ sym (gives-append tags node (λ m. at tops m c) c t (before x none));
  row = sets_then inv.row r (λ k.
      let p = get_or pairs k (0, 0) in
      let first = gives tags node (λ m. at tops m p.0) p.0 t in
      let second = gives tags node (λ m. at tops m p.1) p.1 (before x none) in
      let before_it = crosses tags node (at tops) (λ m. at known m k) p t in
      let l = within pairs (length tags + 1) k (omega arith) all (split k (length pairs)) in
      crosses-append tags node (at tops) (λ m. at known m k) p t (before x none)
      ∙ ap (λ b. (before_it || (first && second)) || b) (crosses-one tags node (at tops) (λ m. at known m k) p x)
      ∙ turn before_it first second (opens node (λ m. at known m k) (before x none))
      ∙ ap (λ b. before_it || (opens node (λ m. at known m k) (before x none) || (b && second))) (sym (inv.each p.0 l)));
}

pub ruleset walk_steps = (forest_steps, gives-append, stands-append, lacks-append, places-append, misses-append)
