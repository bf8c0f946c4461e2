-- What is looked for where an element breaks its rule, and what a walk of the code goes by.
use Rattle.std.specs.Prelude.{ℕ, ◌≡◌, ◌+◌, ◌<◌, ◌≤◌, ◌^◌, ◌==◌, Bool, true, false, ◌&&◌, not, List, [], length, if◌then◌else◌}
use Rattle.bw_lang.specs.declared.items.Attr.{Attr}
use Rattle.bw_lang.specs.Document.Documents.{elements}
use Rattle.bw_lang.specs.Document.Forest.{Forest, none}
use Rattle.bw_lang.specs.Table.Names.{same}
use Rattle.bw_schema.specs.declared.rules.Rule.{Rule}
use Rattle.bw_schema.specs.Validity.{is_other}
use Rattle.bw_schema.specs.Words.{is_among}
use Rattle.bw_shape.specs.Nodes.Templates.{template_at}
use Rattle.bw_sum.specs.Unfolding.{FillsAttrs, Fills}
use Rattle.bw_lang.specs.declared.items.Element.{Element}
use Rattle.bw_explain.specs.declared.sizes.TheConstants.{MAX_SIZE, NONE}
use Rattle.bw_explain.specs.declared.aim.Made.{Made}
use Rattle.bw_explain.specs.declared.element.Whole.{Whole}
use Rattle.bw_explain.specs.declared.solve.Tables.{Tables}
use Rattle.bw_explain.specs.declared.solve.Search.{Search}
use Rattle.bw_explain.specs.declared.aim.Aim.{Aim}
use Rattle.bw_explain.specs.declared.aim.Aim.TheVariants.{Plain, Tops, One}
use Rattle.bw_explain.specs.declared.atom.Atom.{Atom}
use Rattle.bw_explain.specs.declared.atom.Atom.TheVariants.{BadChild, BadText, Missing, Crossing}
use Rattle.bw_explain.specs.declared.page.Page.{Page}
use Rattle.bw_explain.specs.declared.walk.Known.{Known}
use Rattle.bw_explain.specs.declared.walk.Walk.{Walk}
use Rattle.bw_explain.specs.Atoms.{is_broken}
use Rattle.bw_explain.specs.Sizes.{size}
use Rattle.bw_explain.specs.Tables.{Table, size_at, Documents, Solved}
use Rattle.bw_explain.specs.Walks as spec
use Rattle.bw_explain.specs.Walks.{Runs, CostIs}
use Rattle.bw_explain.specs.Ways.{graph}

-- at the top of an element that is broken so

-- a text is looked for
abbrev pub top_wordy : Atom → Bool
top_wordy BadText = true
top_wordy a = false

-- the element may stand without a change of the state
abbrev pub top_stays : Atom → List ℕ → Bool
top_stays (Missing x) tag = is_other x tag
top_stays a tag = true

-- the element takes state x to the next
abbrev pub top_next : Rule → Atom → ℕ → List ℕ → Bool
top_next r BadChild x tag = (x == 0) && not (is_among r.has tag)
top_next r (Crossing last first) x tag = if x == 0 then same tag first else same tag last
top_next r a x tag = false

-- in how many states
abbrev pub top_goals : Atom → ℕ
top_goals BadChild = 1
top_goals BadText = 1
top_goals (Crossing last first) = 2
top_goals a = 0

-- all of that
abbrev pub top_aim : Rule → Atom → spec.Aim
top_aim r a = record {
  deep = false;
  wordy = top_wordy a;
  stays = top_stays a;
  next = top_next r a;
  template = 0;
  place = 0;
  attrs = [];
  inner = none;
  good = λ _ _. false;
}

-- an element of a template, with these attributes and items there, that is broken so
abbrev pub one_aim : ℕ → ℕ → List Attr → Forest → Rule → Atom → spec.Aim
one_aim template place attrs inner r a = record {
  deep = true;
  wordy = false;
  stays = λ _. true;
  next = λ _ _. false;
  template = template;
  place = place;
  attrs = attrs;
  inner = inner;
  good = is_broken r a;
}

-- ---- of the code

-- what an aim of the code looks for
abbrev pub aim_of : Aim → spec.Aim
aim_of Plain = spec.no_aim
aim_of (Tops r a) = top_aim r.now a.now
aim_of (One b) = one_aim b.template b.place b.element.now.attrs b.element.now.items b.rule.now b.atom.now

-- the least size of the element that it looks for
abbrev pub cost_of : Aim → ℕ
cost_of Plain = NONE
cost_of (Tops r a) = NONE
cost_of (One b) = b.size

-- the sizes that are known to the code
abbrev pub known_of : Known → spec.Known
known_of k = record { stay = size_at k.stay.now; first = size_at k.first.now; second = size_at k.second.now; whole = size_at k.whole.now }

-- what a walk of the code goes by
abbrev pub walk_of : Walk → spec.Walk
walk_of w = record { aim = aim_of w.aim; nodes = w.page.nodes.now; plain = size_at w.plain.now; known = known_of w.known; cost = cost_of w.aim }

-- the table from state x to state y
abbrev pub table_of : Known → ℕ → ℕ → Table
table_of k x y = if x == y then k.stay.now else if y == 1 then k.first.now else if x == 1 then k.second.now else k.whole.now

-- the documents of the templates that take one state to another
abbrev pub Has : Page → Aim → ℕ → ℕ → ℕ → Forest → Type 0
Has p a x y m d = Runs (template_at p.templates.now) (graph p.nodes.now) (aim_of a) m 0 x (template_at p.templates.now m) y d

-- a document of template m
abbrev pub IsPlain : Page → ℕ → Forest → Type 0
IsPlain p m d = Fills (template_at p.templates.now) (graph p.nodes.now) m (template_at p.templates.now m) d

-- these attributes and items fit, and have at most that size
pub record IsElement (Fit : List Attr → Forest → Type 0) (v : ℕ) (m : Made) : Type 0 where
  pub fit : Fit m.attrs m.items
  pub most : 1 + length m.attrs + size m.items ≤ v

-- the element that is looked for was made, where it isn't too big
abbrev pub IsMade : Page → Aim → Type 0
IsMade p Plain = Unit {0}
IsMade p (Tops r a) = Unit {0}
IsMade p (One b) = b.size ≤ MAX_SIZE → IsElement (λ c j. FillsAttrs (graph p.nodes.now) b.template b.element.now.attrs c
    × Fills (template_at p.templates.now) (graph p.nodes.now) b.template b.element.now.items j × (is_broken b.rule.now b.atom.now c j ≡ true)) b.size b.made.now

-- these are the attributes and items of the element that is looked for
abbrev pub IsCopy : Aim → Made → Type 0
IsCopy Plain m = ⊥
IsCopy (Tops r a) m = ⊥
IsCopy (One b) m = (m.attrs ≡ b.made.now.attrs) × (m.items ≡ b.made.now.items)

-- the documents of the tables are those that are asked for, between the states of the walk
pub record IsReady (w : Walk) : Type 0 where
  pub most : w.high ≤ 2
  pub zero : (aim_of w.aim).deep ≡ true → w.low ≡ 0
  pub plain : (aim_of w.aim).deep ≡ false → Documents (IsPlain w.page) w.plain.now
  pub known : (x y : ℕ) → w.low ≤ x → x ≤ y → y ≤ w.high → Documents (Has w.page w.aim x y) (table_of w.known x y)
  pub made : IsMade w.page w.aim

-- the least size of the element that is looked for, and that element
pub record IsFairAim (p : Page) (a : Aim) : Type 0 where
  pub cost : CostIs (template_at p.templates.now) (graph p.nodes.now) (aim_of a).good (aim_of a).template (aim_of a).attrs (aim_of a).inner (cost_of a)
  pub made : IsMade p a

-- what settles the documents from the first state of a walk to its last goes by: all that come before are settled
pub record IsGiven (w : Walk) : Type 0 where
  pub states : (w.low ≤ w.high) × (w.high ≤ 2)
  pub zero : (aim_of w.aim).deep ≡ true → w.low ≡ 0
  pub plain : (aim_of w.aim).deep ≡ false → Solved (IsPlain w.page) w.plain.now
  pub known : (x y : ℕ) → w.low ≤ x → x ≤ y → y ≤ w.high → ((x ≡ w.low) → (y ≡ w.high) → ⊥) → Solved (Has w.page w.aim x y) (table_of w.known x y)
  pub fair : IsFairAim w.page w.aim

-- the table from state x to state y, of those that come before
abbrev pub part_of : Table → Table → Table → ℕ → ℕ → Table
part_of stay first second x y = if x == y then stay else if y == 1 then first else if x == 1 then second else stay

-- the same before there is a walk
pub record IsSought (p : Page) (a : Aim) (flat stay first second : Table) (low high : ℕ) : Type 0 where
  pub states : (low ≤ high) × (high ≤ 2)
  pub zero : (aim_of a).deep ≡ true → low ≡ 0
  pub plain : (aim_of a).deep ≡ false → Solved (IsPlain p) flat
  pub known : (x y : ℕ) → low ≤ x → x ≤ y → y ≤ high → ((x ≡ low) → (y ≡ high) → ⊥) → Solved (Has p a x y) (part_of stay first second x y)
  pub fair : IsFairAim p a

-- what a search goes by: what it looks for at any depth it finds in one step
pub record IsSearch (s : Search) : Type 0 where
  pub few : (m : ℕ) → elements (template_at s.page.templates.now m) < 2 ^ 32
  pub cost : cost_of s.aim ≤ NONE
  pub goal : s.goal ≤ 2
  pub deep : (aim_of s.aim).deep ≡ true → s.goal ≤ 1
  pub plain : (aim_of s.aim).deep ≡ false → Solved (IsPlain s.page) s.plain.now
  pub fair : IsFairAim s.page s.aim

-- all documents up to a state are settled
pub record AreSolved (p : Page) (a : Aim) (t : Tables) (goal : ℕ) : Type 0 where
  pub stay : Solved (Has p a 0 0) t.stay
  pub first : 1 ≤ goal → Solved (Has p a 0 1) t.first
  pub second : 2 ≤ goal → Solved (Has p a 1 2) t.second
  pub whole : 2 ≤ goal → Solved (Has p a 0 2) t.whole

-- those of what breaks the rule of an element at the top
pub record AreTops (p : Page) (r : Rule) (a : Atom) (t : Tables) : Type 0 where
  pub each : (x y : ℕ) → x ≤ y → y ≤ top_goals a → Solved (λ m d. Runs (template_at p.templates.now) (graph p.nodes.now) (top_aim r a) m 0 x
      (template_at p.templates.now m) y d) (if x == y then t.stay else if y == 1 then t.first else if x == 1 then t.second else t.whole)

-- the least size of what fills an element so that it is broken, and that
pub record IsBroken (p : Page) (r : Rule) (a : Atom) (n : ℕ) (e : Element) (w : Whole) : Type 0 where
  pub size : CostIs (template_at p.templates.now) (graph p.nodes.now) (is_broken r a) n e.attrs e.items w.size
  pub most : w.size ≤ NONE
  pub made : w.size ≤ MAX_SIZE → IsElement (λ b j. FillsAttrs (graph p.nodes.now) n e.attrs b × Fills (template_at p.templates.now)
      (graph p.nodes.now) n e.items j
      × (is_broken r a b j ≡ true)) w.size w.made
