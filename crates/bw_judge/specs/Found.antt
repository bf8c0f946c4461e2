-- The faults of a template's elements, by what is known of the template.
use Rattle.std.specs.Prelude.{◌⊎◌, ℕ, ◌+◌, true, ◌&&◌, not, List, Option, Some, None}
use Rattle.bw_lang.specs.declared.items.Attr.{Attr}
use Rattle.bw_lang.specs.Document.Forest.{Forest, none, text, gap, element}
use Rattle.bw_lang.specs.Document.Documents.{elements}
use Rattle.bw_lang.specs.Table.Names.{same}
use Rattle.bw_schema.specs.declared.rules.Rule.{Rule}
use Rattle.bw_schema.specs.Rules.{allows, rule_of}
use Rattle.bw_faults.specs.declared.fault.Fault.{Fault}
use Rattle.bw_shape.specs.Tests.{gives}
use Rattle.bw_shape.specs.Rows.Rows.{at}
use Rattle.std.specs.Prelude.{length}
use Rattle.bw_judge.specs.declared.content.Spot.{Spot}
use Rattle.bw_faults.specs.Lists.{When, OfSome}
use Rattle.bw_judge.specs.Content.{fault_at, OfContent}
use Rattle.bw_judge.specs.Scene.{Scene, is_told, is_permitted, may_be_absent}
use Rattle.bw_judge.specs.Sure.{sure}

-- an attribute that isn't allowed, or whose value may be outside a list
abbrev pub OfAttr : Scene → Rule → Spot → Attr → Fault → Type 0
OfAttr s r at a f = When (is_told s a.value && not (allows r a.name)) (fault_at at 1 a.name) f ⊎ When (not (is_permitted s r.values a)) (fault_at at 3 a.name) f

-- a required attribute that may be absent
abbrev pub OfMust : Scene → Spot → List Attr → List ℕ → Fault → Type 0
OfMust s at attrs x f = When (may_be_absent s attrs x) (fault_at at 2 x) f

-- of an element with this rule
abbrev pub OfParts : Scene → Rule → Spot → List ℕ → List Attr → Forest → Fault → Type 0
OfParts s r spot tag attrs inner f =
    OfSome (OfAttr s r spot) attrs f ⊎ (OfSome (OfMust s spot attrs) r.must f
    ⊎ (OfContent spot r.has r.text s.tags (λ c. gives s.tags s.node (λ m. at s.tops m c) c inner) (length s.tags) f
    ⊎ When (not (sure s true r.needs attrs inner)) (fault_at spot 7 tag) f))

-- where its tag has a rule
abbrev pub OfRule : Scene → Option Rule → Spot → List ℕ → List Attr → Forest → Fault → Type 0
OfRule s None spot tag attrs inner f = ⊥
OfRule s (Some r) spot tag attrs inner f = OfParts s r spot tag attrs inner f

abbrev pub OfElement : Scene → List Rule → Spot → List ℕ → List Attr → Forest → Fault → Type 0
OfElement s rules spot tag attrs inner f = OfRule s (rule_of rules tag) spot tag attrs inner f

abbrev pub moved : Spot → ℕ → Spot
moved s n = record { point = s.point; template = s.template; place = n }

-- of an element at any depth, where s.place elements stand before these
abbrev pub OfForest : (Spot → List ℕ → List Attr → Forest → Fault → Type 0) → Spot → Forest → Fault → Type 0
OfForest P s none f = ⊥
OfForest P s (text t r) f = OfForest P s r f
OfForest P s (gap g r) f = OfForest P s r f
OfForest P s (element tag a i r) f = P (moved s (s.place + 1)) tag a i f
    ⊎ (OfForest P (moved s (s.place + 1)) i f ⊎ OfForest P (moved s (s.place + 1 + elements i)) r f)

-- the root element's tag isn't the schema's
abbrev pub OfRoot : ℕ → List ℕ → ℕ → Forest → Fault → Type 0
OfRoot point wanted root none f = ⊥
OfRoot point wanted root (text s r) f = ⊥
OfRoot point wanted root (gap g r) f = ⊥
OfRoot point wanted root (element tag a i r) f = When (not (same tag wanted)) (fault_at (record { point = point; template = root; place = 1 }) 6 tag) f
