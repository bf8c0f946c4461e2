-- What a fault is explained by.
use Rattle.bw_lang.specs.declared.tree.Tree.{Tree}
use Rattle.bw_schema.specs.declared.schema.Schema.{Schema}
use Rattle.bw_schema.specs.Validity.{Valid}
use Rattle.std.specs.Prelude.{◌≡◌, ◌⊎◌, ℕ, ◌<◌, ◌≤◌, Bool, true, false, nat_lt, if◌then◌else◌, List, length, Some}
use Rattle.std.specs.List.{Contains}
use Rattle.bw_lang.specs.declared.items.Attr.{Attr}
use Rattle.bw_lang.specs.Document.Forest.{Forest}
use Rattle.bw_lang.specs.Document.Documents.{close, elements}
use Rattle.bw_schema.specs.declared.rules.Rule.{Rule}
use Rattle.bw_schema.specs.Rules.{rule_of}
use Rattle.bw_faults.specs.declared.fault.Fault.{Fault}
use Rattle.bw_judge.specs.Faults.{At, Sure}
use Rattle.bw_schema.specs.Needs.{Needs, nothing, all_of, some_of, attr, one_value, content, order}
use Rattle.bw_shape.specs.Nodes.Templates.{template_at}
use Rattle.bw_sum.specs.Graph.{Graph}
use Rattle.bw_explain.specs.declared.sizes.TheConstants.{MAX_SIZE, PAST}
use Rattle.bw_explain.specs.declared.atom.Atom.{Atom}
use Rattle.bw_explain.specs.declared.explained.Explained.{Explained}
use Rattle.bw_explain.specs.declared.explained.Explained.TheVariants as answers
use Rattle.bw_explain.specs.Aims.{one_aim}
use Rattle.bw_explain.specs.Atoms.{is_plain}
use Rattle.bw_explain.specs.Places.{IsThere}
use Rattle.bw_explain.specs.Sizes.{size, IsLeast}
use Rattle.bw_explain.specs.Tables.{Table, size_at, doc_at}
use Rattle.bw_explain.specs.declared.finding.Found.{Found}
use Rattle.bw_explain.specs.declared.finding.Spot.{Spot}
use Rattle.bw_explain.specs.Walks.{Runs}

-- what is told of some documents: a least one, closed, or that each is too big, or that there is none
pub data IsAnswer (Shown : Forest → Type 0) : Explained → Type 0 where
  page_of : {d : Forest} → Shown d → size d ≤ MAX_SIZE → ((e : Forest) → Shown e → size d ≤ size e) → IsAnswer Shown (answers.Page (record { items = close d }))
  all_big : (d : Forest) → Shown d → ((e : Forest) → Shown e → MAX_SIZE < size e) → IsAnswer Shown answers.TooBig
  none_there : ((d : Forest) → Shown d → ⊥) → IsAnswer Shown answers.NoUnfolding

-- what explains a fault: a least page that shows it, or that each is too big, or that there is none, told apart by Split: that a need with an Or isn't sure
pub data IsExplained (Shown : Forest → Type 0) (Split : Type 0) : Explained → Type 0 where
  page : {d : Forest} → Shown d → size d ≤ MAX_SIZE → ((e : Forest) → Shown e → size d ≤ size e)
      → IsExplained Shown Split (answers.Page (record { items = close d }))
  too_big : (d : Forest) → Shown d → ((e : Forest) → Shown e → MAX_SIZE < size e) → IsExplained Shown Split answers.TooBig
  disjunction : ((d : Forest) → Shown d → ⊥) → Split → IsExplained Shown Split answers.Disjunction
  no_unfolding : ((d : Forest) → Shown d → ⊥) → (Split → ⊥) → IsExplained Shown Split answers.NoUnfolding

-- no page shows the fault
abbrev pub is_none : Explained → Bool
is_none answers.NoUnfolding = true
is_none e = false

-- a need with an Or isn't sure at an element of template n
abbrev pub SplitNeeds : (ℕ → Forest) → Graph → ℕ → List Attr → Forest → Needs → Type 0
SplitNeeds templates G n a i nothing = ⊥
SplitNeeds templates G n a i (all_of parts rest) = ((is_plain parts ≡ false) × (Sure templates G n a i true parts → ⊥)) ⊎ SplitNeeds templates G n a i rest
SplitNeeds templates G n a i (some_of parts rest) = (Sure templates G n a i false parts → ⊥) ⊎ SplitNeeds templates G n a i rest
SplitNeeds templates G n a i (attr x rest) = SplitNeeds templates G n a i rest
SplitNeeds templates G n a i (one_value x vs rest) = SplitNeeds templates G n a i rest
SplitNeeds templates G n a i (content x rest) = SplitNeeds templates G n a i rest
SplitNeeds templates G n a i (order x y rest) = SplitNeeds templates G n a i rest

-- an element of a template: its place in pre-order, from 1, its tag, attributes and items
pub record Place : Type 0 where
  pub template : ℕ
  pub place : ℕ
  pub tag : List ℕ
  pub attrs : List Attr
  pub inner : Forest

-- the fault's element, and its rule
pub record IsAt (templates : ℕ → Forest) (rules : List Rule) (f : Fault) (p : Place) (r : Rule) : Type 0 where
  pub template : f.template ≡ Some p.template
  pub place : f.place ≡ p.place
  pub at : At (templates p.template) p.place p.tag p.attrs p.inner
  pub rule : rule_of rules p.tag ≡ Some r

-- it stands in one of the templates
abbrev pub HasElement : List Forest → Fault → Type 0
HasElement templates f = (p : Place) × (f.template ≡ Some p.template) × (f.place ≡ p.place)
    × At (template_at templates p.template) p.place p.tag p.attrs p.inner

-- and it has a rule
abbrev pub IsPlaced : List Forest → List Rule → Fault → Type 0
IsPlaced templates rules f = (p : Place) × ((r : Rule) × IsAt (template_at templates) rules f p r)

-- d is an unfolding of template n in which that element is broken so
abbrev pub Finds : (ℕ → Forest) → Graph → Place → Rule → Atom → ℕ → Forest → Type 0
Finds templates G p r a n d = Runs templates G (one_aim p.template p.place p.attrs p.inner r a) n 0 0 (templates n) 1 d

-- in one of some ways
abbrev pub FindsOne : (ℕ → Forest) → Graph → Place → Rule → List Atom → ℕ → Forest → Type 0
FindsOne templates G p r atoms n d = (a : Atom) × Contains atoms a × Finds templates G p r a n d

-- the place of the code's spot
abbrev pub spot_of : Spot → Place
spot_of s = record { template = s.template; place = s.place; tag = s.element.now.tag; attrs = s.element.now.attrs; inner = s.element.now.items }

-- the fault is 7, and a need of its element with an Or isn't sure
pub record IsSplit (templates : ℕ → Forest) (G : Graph) (rules : List Rule) (f : Fault) : Type 0 where
  pub number : f.number ≡ 7
  pub place : Place
  pub rule : Rule
  pub at : IsAt templates rules f place rule
  pub needs : SplitNeeds templates G place.template place.attrs place.inner rule.needs

-- a test says whether it holds
abbrev pub Tells : Bool → Type 0 → Type 0
Tells b P = (b ≡ true → P) × (b ≡ false → P → ⊥)

-- the element of a fault, where it stands
pub record IsSpot (templates : List Forest) (f : Fault) (s : Spot) : Type 0 where
  pub template : f.template ≡ Some s.template
  pub place : f.place ≡ s.place
  pub low : s.template < length templates
  pub at : IsThere (template_at templates s.template) s.place s.element.now
  pub few : elements s.element.now.items ≤ elements (template_at templates s.template)

-- two graphs that have the same edges, labels and tracks
pub record Ties (G H : Graph) : Type 0 where
  pub edge : (n g m : ℕ) → G.edge n g m ≡ H.edge n g m
  pub label : (n g : ℕ) (s : List ℕ) → G.label n g s ≡ H.label n g s
  pub track : (g n : ℕ) → G.track g n ≡ H.track g n

-- s is the least size of such documents, and d is one of that size, if it isn't too big
pub record IsBest (Has : Forest → Type 0) (s : ℕ) (d : Forest) : Type 0 where
  pub least : IsLeast Has s
  pub doc : s ≤ MAX_SIZE → Has d × (size d ≤ s)

-- the size and the document that a table has of template n
abbrev pub IsFoundAt : Table → ℕ → ℕ → Forest → Type 0
IsFoundAt t n s d = (s ≡ size_at t n) × (d ≡ doc_at t n)

-- the lesser of two
abbrev pub better : Found → Found → Found
better a b = if nat_lt b.size a.size then b else a

-- what is told of a least size and document: no unfolding past PAST, too big past MAX_SIZE, else the page, closed
abbrev pub answer_of : ℕ → Forest → Explained
answer_of s d = if nat_lt PAST s then answers.NoUnfolding else if nat_lt MAX_SIZE s then answers.TooBig else answers.Page (record { items = close d })

-- a page that explains a fault isn't valid by the schema
abbrev pub NotValid : Schema → Explained → Type 0
NotValid s e = (t : Tree) → e ≡ answers.Page t → Valid s t.items → ⊥
