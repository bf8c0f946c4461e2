-- What is looked for in documents, the documents with it, and their least sizes.
use Rattle.std.specs.Prelude.{◌≡◌, ℕ, ◌+◌, ◌-◌, ◌≤◌, ◌==◌, min, Bool, true, false, ◌||◌, ◌&&◌, not, List, [], length, if◌then◌else◌}
use Rattle.std.specs.List.{list_any}
use Rattle.bw_lang.specs.declared.items.Attr.{Attr}
use Rattle.bw_lang.specs.Document.Forest.{Forest, none, text, gap, element}
use Rattle.bw_lang.specs.Document.Documents.{append, elements}
use Rattle.bw_lang.specs.Text.Bytes.{is_blank_text}
use Rattle.bw_shape.specs.Nodes.Templates.{template_at}
use Rattle.bw_sum.specs.Graph.{Graph}
use Rattle.bw_sum.specs.Unfolding.{FillsAttrs, Fills}
use Rattle.bw_explain.specs.declared.sizes.TheConstants.{MAX_SIZE, PAST, NONE}
use Rattle.bw_explain.specs.declared.reach.Reach.{Reach}
use Rattle.bw_explain.specs.declared.reach.Moves.{Moves}
use Rattle.bw_explain.specs.Tables.{Table, size_at, doc_at}
use Rattle.bw_shape.specs.Nodes.Nodes.{among}
use Rattle.bw_explain.specs.Ways.{Way, way_of, ways_at, says}
use Rattle.bw_explain.specs.Sizes.{size, capped, plus, if_so, least_of, is_loose, attrs_least}

-- what is looked for. A walk over items begins in a state, and comes to the next one at what is looked for there. deep: one element, at any depth, of
-- that template and place, whose attributes and items there are filled well. Else at the top: wordy: a text that isn't blank; next: an element with a tag.
-- stays: an element with that tag may stand at the top beside what is looked for
pub record Aim : Type 0 where
  pub deep : Bool
  pub wordy : Bool
  pub stays : List ℕ → Bool
  pub next : ℕ → List ℕ → Bool
  pub template : ℕ
  pub place : ℕ
  pub attrs : List Attr
  pub inner : Forest
  pub good : List Attr → Forest → Bool

-- nothing
abbrev pub no_aim : Aim
no_aim = record {
  deep = true;
  wordy = false;
  stays = λ _. true;
  next = λ _ _. false;
  template = 0;
  place = 0;
  attrs = [];
  inner = none;
  good = λ _ _. false;
}

-- an item takes the state x to y: to itself where it may stand beside, to the next where it is what is looked for
abbrev pub takes : ℕ → ℕ → Bool → Bool → Bool
takes x y stays next = if x == y then stays else ((x + 1) == y) && next

-- the element that is looked for stands there
abbrev pub is_spot : Aim → ℕ → ℕ → Bool
is_spot A n k = (n == A.template) && (k == A.place)

-- the text is one that is looked for
abbrev pub is_wordy : Aim → List ℕ → Bool
is_wordy A s = A.wordy && not (is_blank_text s)

-- d is an unfolding of the part t of template n that takes the state x to y, where k elements of the template stand before the part
pub data Runs (templates : ℕ → Forest) (G : Graph) (A : Aim) : ℕ → ℕ → ℕ → Forest → ℕ → Forest → Type 0 where
  nothing : {n k x : ℕ} → Runs templates G A n k x none x none
  both : {n k x y z : ℕ} {p t d e : Forest} → Runs templates G A n k x p z d → Runs templates G A n (k + elements p) z t y e
      → Runs templates G A n k x (append p t) y (append d e)
  words : {n k x y : ℕ} {s : List ℕ} → takes x y true (is_wordy A s) ≡ true → Runs templates G A n k x (text s none) y (text s none)
  left : {n k x g : ℕ} → G.track g n ≡ true → Runs templates G A n k x (gap g none) x (gap g none)
  said : {n k x y g : ℕ} {s : List ℕ} → G.label n g s ≡ true → takes x y true (is_wordy A s) ≡ true
      → Runs templates G A n k x (gap g none) y (text s none)
  led : {n k x y g m : ℕ} {e : Forest} → G.edge n g m ≡ true → Runs templates G A m 0 x (templates m) y e → Runs templates G A n k x (gap g none) y e
  beside : {n k x y : ℕ} {tag : List ℕ} {a b : List Attr} {i j : Forest} → A.deep ≡ false → takes x y (A.stays tag) (A.next x tag) ≡ true
      → FillsAttrs G n a b → Fills templates G n i j → Runs templates G A n k x (element tag a i none) y (element tag b j none)
  inside : {n k x z : ℕ} {tag : List ℕ} {a b : List Attr} {i j : Forest} → A.deep ≡ true → FillsAttrs G n a b
      → Runs templates G A n (k + 1) 0 i z j → Runs templates G A n k x (element tag a i none) (x + z) (element tag b j none)
  here : {n k x : ℕ} {tag : List ℕ} {a b : List Attr} {i j : Forest} → A.deep ≡ true → is_spot A n (k + 1) ≡ true → FillsAttrs G A.template A.attrs b
      → Fills templates G A.template A.inner j → A.good b j ≡ true → Runs templates G A n k x (element tag a i none) (x + 1) (element tag b j none)

-- the least sizes of the documents of all templates that go from a state to itself, from 0 to 1, from 1 to 2, and from 0 to 2
pub record Known : Type 0 where
  pub stay : ℕ → ℕ
  pub first : ℕ → ℕ
  pub second : ℕ → ℕ
  pub whole : ℕ → ℕ

-- the sizes from state x to state y
abbrev pub known_at : Known → ℕ → ℕ → ℕ → ℕ
known_at K x y = if x == y then K.stay else if y == 1 then K.first else if x == 1 then K.second else K.whole

-- others for those from x to y
abbrev pub known_with : Known → ℕ → ℕ → (ℕ → ℕ) → Known
known_with K x y v =
    if x == y then record { stay = v; first = K.first; second = K.second; whole = K.whole }
    else if y == 1 then record { stay = K.stay; first = v; second = K.second; whole = K.whole }
    else if x == 1 then record { stay = K.stay; first = K.first; second = v; whole = K.whole }
    else record { stay = K.stay; first = K.first; second = K.second; whole = v }

-- what a walk goes by. plain: the least sizes of all documents of the templates; cost: the least size of the element that is looked for, filled well
pub record Walk : Type 0 where
  pub aim : Aim
  pub nodes : List (List Way)
  pub plain : ℕ → ℕ
  pub known : Known
  pub cost : ℕ

-- nothing is looked for
abbrev pub plain_walk : List (List Way) → (ℕ → ℕ) → Walk
plain_walk nodes plain = record {
  aim = no_aim;
  nodes = nodes;
  plain = plain;
  known = record { stay = plain; first = plain; second = plain; whole = plain };
  cost = NONE;
}

-- ---- sizes

-- no size over NONE
abbrev pub AreSizes : Reach → Type 0
AreSizes r = (r.start ≤ NONE) × (r.middle ≤ NONE) × (r.last ≤ NONE)

-- each is a size, or that of none
abbrev pub AreCosts : Moves → Type 0
AreCosts m = (m.start ≤ NONE) × (m.start_middle ≤ NONE) × (m.start_last ≤ NONE) × (m.middle ≤ NONE) × (m.middle_last ≤ NONE) × (m.last ≤ NONE)

-- the size in each state, from one state on
abbrev pub from : ℕ → Reach
from x = record { start = if_so (x == 0) 0; middle = if_so (x == 1) 0; last = if_so (x == 2) 0 }

-- the size in a state
abbrev pub at : Reach → ℕ → ℕ
at r x = if x == 0 then r.start else if x == 1 then r.middle else r.last

-- what an item costs from each state to each
abbrev pub moves_of : (ℕ → ℕ → ℕ) → Moves
moves_of f = record { start = f 0 0; start_middle = f 0 1; start_last = f 0 2; middle = f 1 1; middle_last = f 1 2; last = f 2 2 }

-- what an item costs from state x to state y
abbrev pub move_at : Moves → ℕ → ℕ → ℕ
move_at m x y =
    if x == y then (if x == 0 then m.start else if x == 1 then m.middle else m.last) else if y == 1 then m.start_middle else if x == 1 then m.middle_last
    else m.start_last

-- the least sizes behind an item
abbrev pub next_reach : Reach → Moves → Reach
next_reach r m = record {
  start = plus r.start m.start;
  middle = min (plus r.start m.start_middle) (plus r.middle m.middle);
  last = min (plus r.start m.start_last) (min (plus r.middle m.middle_last) (plus r.last m.last));
}

-- the sizes behind one item more, by what it costs
abbrev pub after : Reach → (ℕ → ℕ → ℕ) → Reach
after r f = next_reach r (moves_of f)

-- what a text costs
abbrev pub text_cost : Aim → List ℕ → ℕ → ℕ → ℕ
text_cost A s x y = if_so (takes x y true (is_wordy A s)) 1

-- a string of the gap is what is looked for
abbrev pub says_wordy : Aim → Way → Bool
says_wordy A w = (w.is_free || list_any (λ s. not (is_blank_text s)) w.words) && A.wordy

-- what a gap with this way costs
abbrev pub gap_cost : Walk → Way → ℕ → ℕ → ℕ
gap_cost u w x y = min (if_so (takes x y (is_loose w) (says_wordy u.aim w)) 1) (least_of (known_at u.known x y) w.led)

-- of an element, by the size of its attributes, those of its items and that of the one that is looked for
abbrev pub deep_cost : Aim → ℕ → ℕ → ℕ → Reach → ℕ → ℕ → ℕ → ℕ
deep_cost A n k own inner cost x y = min (plus own (at inner (y - x))) (if_so (((x + 1) == y) && is_spot A n k) cost)

-- what an element costs that is looked for at the top
abbrev pub top_cost : Aim → List ℕ → ℕ → ℕ → ℕ → ℕ
top_cost A tag v x y = if_so (takes x y (A.stays tag) (A.next x tag)) v

-- what an element costs
abbrev pub element_cost : Aim → ℕ → ℕ → List ℕ → ℕ → Reach → ℕ → ℕ → ℕ → ℕ → ℕ
element_cost A n k tag own inner cost plain x y = if A.deep then deep_cost A n k own inner cost x y else top_cost A tag (plus own plain) x y

-- the least sizes in each state behind a part of template n, where k elements stand before it
abbrev pub walk : Walk → ℕ → ℕ → Reach → Forest → Reach
walk u n k r none = r
walk u n k r (text s t) = walk u n k (after r (text_cost u.aim s)) t
walk u n k r (gap g t) = walk u n k (after r (gap_cost u (way_of (ways_at u.nodes n) g))) t
walk u n k r (element tag a i t) =
    walk u n (k + 1 + elements i) (after r (element_cost u.aim n (k + 1) tag (plus 1 (attrs_least (ways_at u.nodes n) a)) (walk u n (k + 1) (from 0) i) u.cost
    (walk (plain_walk u.nodes u.plain) n 0 (from 0) i).start)) t

-- the size of an element whose items are walked over by themselves
abbrev pub flat_size : Walk → ℕ → List Attr → Forest → ℕ
flat_size u n a i = plus (plus 1 (attrs_least (ways_at u.nodes n) a)) (walk (plain_walk u.nodes u.plain) n 0 (from 0) i).start

-- of one with what is looked for inside it, from one state on
abbrev pub inside_size : Walk → ℕ → ℕ → List Attr → Forest → ℕ → ℕ
inside_size u n k a i z = plus (plus 1 (attrs_least (ways_at u.nodes n) a)) (at (walk u n (k + 1) (from 0) i) z)

-- and of one that is what is looked for
abbrev pub spot_size : Walk → ℕ → ℕ → ℕ → ℕ → ℕ
spot_size u n k x y = if_so (((x + 1) == y) && is_spot u.aim n (k + 1)) u.cost

-- what the first item costs
abbrev pub item_cost : Walk → ℕ → ℕ → Forest → ℕ → ℕ → ℕ
item_cost u n k none = λ x y. NONE
item_cost u n k (text s t) = text_cost u.aim s
item_cost u n k (gap g t) = gap_cost u (way_of (ways_at u.nodes n) g)
item_cost u n k (element tag a i t) = element_cost u.aim n (k + 1) tag (plus 1 (attrs_least (ways_at u.nodes n) a)) (walk u n (k + 1) (from 0) i) u.cost
    (walk (plain_walk u.nodes u.plain) n 0 (from 0) i).start

-- ---- what is settled

-- the documents that take the state x to y, where the least sizes of these are known of some templates
abbrev pub seek : Walk → ℕ → ℕ → (ℕ → ℕ) → Walk
seek u x y v = record { aim = u.aim; nodes = u.nodes; plain = u.plain; known = known_with u.known x y v; cost = u.cost }

-- the size of template n by what is known
abbrev pub seek_value : List Forest → Walk → ℕ → ℕ → (ℕ → ℕ) → ℕ → ℕ
seek_value templates u x y v n = at (walk (seek u x y v) n 0 (from x) (template_at templates n)) y

-- cost is the least size of an element that fills one of template n and is good
pub record CostIs (templates : ℕ → Forest) (G : Graph) (good : List Attr → Forest → Bool) (n : ℕ) (a : List Attr) (i : Forest) (cost : ℕ) : Type 0 where
  pub low : (b : List Attr) (j : Forest) → FillsAttrs G n a b → Fills templates G n i j → good b j ≡ true → cost ≤ capped (1 + length b + size j)
  pub high : cost ≤ PAST → (b : List Attr)
      × ((j : Forest) × FillsAttrs G n a b × Fills templates G n i j × (good b j ≡ true) × (capped (1 + length b + size j) ≤ cost))

-- ---- documents

-- one of these forests, of at most that size
pub record Adds (Has : Forest → Type 0) (v : ℕ) (old new : Forest) : Type 0 where
  pub some : Forest
  pub behind : new ≡ append old some
  pub has : Has some
  pub most : size some ≤ v

-- it is the gap left open, or a text that may fill it, and takes the state x to y
pub data IsLoose (A : Aim) (w : Way) (x y : ℕ) : Forest → Type 0 where
  open_gap : x ≡ y → w.is_open ≡ true → IsLoose A w x y (gap w.at none)
  one_text : {s : List ℕ} → says w s ≡ true → takes x y true (is_wordy A s) ≡ true → IsLoose A w x y (text s none)

-- to these, what may stand at a gap is put of at most that size: the gap, a text, or the document of a template
pub data Picks (A : Aim) (w : Way) (t : Table) (x y v : ℕ) (old new : Forest) : Type 0 where
  loose : {d : Forest} → IsLoose A w x y d → 1 ≤ v → new ≡ append old d → Picks A w t x y v old new
  plug : (m : ℕ) → among w.led m ≡ true → size_at t m ≤ v → new ≡ append old (doc_at t m) → Picks A w t x y v old new

-- of three documents, that of a state
abbrev pub doc_of : Forest → Forest → Forest → ℕ → Forest
doc_of a b c x = if x == 0 then a else if x == 1 then b else c

-- in each state up to high, where the size is at most MAX_SIZE, the document of that state takes x there, and has that size at most
abbrev pub IsDraft : (ℕ → Forest) → Graph → Aim → ℕ → ℕ → ℕ → ℕ → Forest → Reach → (ℕ → Forest) → Type 0
IsDraft templates G A n k x high t r doc = (y : ℕ) → y ≤ high → at r y ≤ MAX_SIZE → Runs templates G A n k x t y (doc y) × (size (doc y) ≤ at r y)
