-- What an analysis says of a session's points, and what it has to obey.
use Rattle.std.specs.Prelude.{◌≡◌, ℕ, ◌+◌, Bool, true, false, List, [], ◌∷◌, ◌++◌, map, if◌then◌else◌, option_map, Option, Some, None}
use Rattle.std.specs.List.{AllByRecursion}
use Rattle.bw_lang.specs.declared.service.Literal.{Literal}
use Rattle.bw_lang.specs.declared.service.Literal.TheVariants as literals
use Rattle.bw_lang.specs.declared.service.Service.{Service}
use Rattle.bw_lang.specs.declared.stmt.Receive.{Receive}
use Rattle.bw_lang.specs.Service.Code.{Code, done, declare, assign, if_then, if_else, while_loop, block, for_each, show, exit, numbered}
use Rattle.bw_lang.specs.Table.Names.{same, name_number}
use Rattle.bw_lang.specs.Service.Term.{Term}
use Rattle.bw_meaning.specs.Statements.{declared}
use Rattle.bw_sum.specs.Graph.{Graph, constant}
use Rattle.bw_types.specs.Scopes.{is_among, template_names}
use Rattle.bw_sum.specs.Templates.{template_items}
use Rattle.bw_cover.specs.Abstracts.{Abstract, Nothing, Strings, Html, any, is_gap, Below, known, EachPair, IsNotLacked, IsPlug}

-- what a point does to variables: nothing; a declaration or an assignment; a foreach brings a string; a show takes its fields
pub data What : Type 0 where
  keeps : What
  sets : List ℕ → Term → What
  brings : List ℕ → What
  takes : List Receive → What

-- What an analysis says, where K names the points: the locals in scope at each point and what is known of each, what is
-- known of each shared variable, and of the document of each show and exit; which points are exits, and where the
-- statement of a number stands.
pub record Facts (K : Type 0) : Type 0 where
  pub scope : K → List (List ℕ)
  pub local : K → List ℕ → Abstract
  pub shared : List ℕ → Abstract
  pub shown : K → Graph
  pub is_exit : K → Bool
  pub place : ℕ → K

-- ---- names

-- the name of a shared variable
abbrev pub is_shared : Service → List ℕ → Bool
is_shared service w = is_among w (map (λ v. v.name) service.shared)

-- of a template its constant; nothing of a name that stands for nothing
abbrev pub template_known : Service → List ℕ → Abstract
template_known service w =
    if is_among w (template_names service) then Html (constant (template_items service) (is_gap service) (name_number (template_names service) w)) else Nothing

-- of a shared variable's literal
abbrev pub literal_known : Service → Literal → Abstract
literal_known service (literals.Int n) = Nothing
literal_known service (literals.Bool b) = Nothing
literal_known service (literals.Str s) = Strings (same s)
literal_known service (literals.Tmpl w) = template_known service w

-- what is known of a name at a point
abbrev pub look : {K : Type 0} → Service → Facts K → K → List ℕ → Abstract
look service f p w = if is_among w (f.scope p) then f.local p w else if is_shared service w then f.shared w else template_known service w

-- ---- what a point leaves

-- what a variable is known to hold when it has received a field, by what was known of it: of a list nothing, else any string
abbrev pub received_by : Abstract → Abstract
received_by Nothing = Nothing
received_by (Strings S) = any
received_by (Html G) = any

-- the same after all receives of a show
abbrev pub receives_by : List Receive → List ℕ → Abstract → Abstract
receives_by [] w a = a
receives_by (r ∷ rs) w a = receives_by rs w (if same w r.target then received_by a else a)

-- what is known of a local in scope
abbrev pub own : {K : Type 0} → Facts K → K → List ℕ → Option Abstract
own f p w = if is_among w (f.scope p) then Some (f.local p w) else None

-- what a point leaves in a local, where it leaves something
abbrev pub left : {K : Type 0} → Service → Facts K → K → What → List ℕ → Option Abstract
left service f p keeps w = own f p w
left service f p (sets v e) w = if same w v then Some (known service (look service f p) e) else own f p w
left service f p (brings v) w = if same w v then Some any else own f p w
left service f p (takes rs) w = option_map (receives_by rs w) (own f p w)

-- what a point adds to a shared variable is known of it
abbrev pub Adds : {K : Type 0} → Service → Facts K → K → What → Type 0
Adds service f p keeps = Unit {0}
Adds service f p (sets v e) = is_among v (f.scope p) ≡ false → is_shared service v ≡ true → Below (known service (look service f p) e) (f.shared v)
Adds service f p (brings v) = Unit {0}
Adds service f p (takes rs) =
    AllByRecursion (λ (r : Receive). is_among r.target (f.scope p) ≡ false → is_shared service r.target ≡ true
    → Below (received_by (f.shared r.target)) (f.shared r.target)) rs

-- a point that does this leads to q: what it leaves in a local in scope at q is known there
pub record Leads {K : Type 0} (service : Service) (f : Facts K) (p : K) (what : What) (q : K) : Type 0 where
  pub locals : (w : List ℕ) (a : Abstract) → is_among w (f.scope q) ≡ true → left service f p what w ≡ Some a → Below a (f.local q w)
  pub adds : Adds service f p what

-- from a point, with what it does, to a point
pub record Edge (K : Type 0) : Type 0 where
  pub from : K
  pub what : What
  pub to : K

-- the edge from p to q, where p does this
abbrev pub edge : {K : Type 0} → K → What → K → Edge K
edge p what q = record { from = p; what = what; to = q }

-- each edge is obeyed
abbrev pub EachLeads : {K : Type 0} → Service → Facts K → List (Edge K) → Type 0
EachLeads {K} service f es = AllByRecursion (λ (e : Edge K). Leads service f e.from e.what e.to) es

-- ---- statements laid out over points

-- at this point these locals are in scope, and this expression is evaluated: none of its plugs may lack its gap
pub record IsPoint {K : Type 0} (service : Service) (f : Facts K) (p : K) (names : List (List ℕ)) (e : Term) : Type 0 where
  pub scope : f.scope p ≡ names
  pub gaps : EachPair IsNotLacked service (look service f p) e
  pub plugs : EachPair (IsPlug service) service (look service f p) e

-- no name in scope is among these
abbrev pub Apart : List (List ℕ) → List (List ℕ) → Type 0
Apart scope names = (w : List ℕ) → is_among w scope ≡ true → is_among w names ≡ false

-- the locals in scope behind the statements
abbrev pub after : Code → List (List ℕ) → List (List ℕ)
after done scope = scope
after (declare kind w e rest) scope = after rest (scope ++ w ∷ [])
after (assign w e rest) scope = after rest scope
after (if_then t y rest) scope = after rest scope
after (if_else t y z rest) scope = after rest scope
after (while_loop t b rest) scope = after rest scope
after (block b rest) scope = after rest scope
after (for_each w e b rest) scope = after rest scope
after (show p rs rest) scope = after rest scope
after (exit p rest) scope = after rest scope

-- The statements, the first of which has number n, with these locals in scope in front of it, begin at point p and end
-- at point q, and the facts obey where each of their points leads.
abbrev pub Laid : {K : Type 0} → Service → Facts K → Code → ℕ → List (List ℕ) → K → K → Type 0
Laid service f done n scope p q = p ≡ q
Laid {K} service f (declare kind w e rest) n scope p q =
    (r : K) × IsPoint service f p scope e × (is_among w scope ≡ false) × Leads service f p (sets w e) r × Laid service f rest (n + 1) (scope ++ w ∷ []) r q
Laid {K} service f (assign w e rest) n scope p q = (r : K) × IsPoint service f p scope e × Leads service f p (sets w e) r
    × Laid service f rest (n + 1) scope r q
Laid {K} service f (if_then t y rest) n scope p q =
    (b : K) × (j : K) × (r : K) × IsPoint service f p scope t × (f.scope j ≡ scope) × Apart scope (declared y)
    × Leads service f p keeps b × Leads service f p keeps j × Leads service f j keeps r
    × Laid service f y (n + 1) scope b j × Laid service f rest (n + 1 + numbered y) scope r q
Laid {K} service f (if_else t y z rest) n scope p q =
    (b : K) × (c : K) × (j : K) × (r : K) × IsPoint service f p scope t × (f.scope j ≡ scope) × Apart scope (declared y) × Apart scope (declared z)
    × Leads service f p keeps b × Leads service f p keeps c × Leads service f j keeps r
    × Laid service f y (n + 1) scope b j × Laid service f z (n + 1 + numbered y) scope c j × Laid service f rest (n + 1 + numbered y + numbered z) scope r q
Laid {K} service f (while_loop t b rest) n scope p q =
    (y : K) × (r : K) × IsPoint service f p scope t × Apart scope (declared b) × Leads service f p keeps y × Leads service f p keeps r
    × Laid service f b (n + 1) scope y p × Laid service f rest (n + 1 + numbered b) scope r q
Laid {K} service f (block b rest) n scope p q =
    (r : K) × Apart scope (declared b) × Laid service f b n scope p r × Laid service f rest (n + numbered b) scope r q
Laid {K} service f (for_each w e b rest) n scope p q =
    (y : K) × (r : K) × IsPoint service f p scope e × Apart scope (w ∷ declared b) × Leads service f p (brings w) y × Leads service f p keeps r
    × Laid service f b (n + 1) (scope ++ w ∷ []) y p × Laid service f rest (n + 1 + numbered b) scope r q
Laid {K} service f (show e rs rest) n scope p q =
    (r : K) × IsPoint service f p scope e × Below (known service (look service f p) e) (Html (f.shown p)) × (f.place n ≡ p) × Leads service f p (takes rs) r
    × Laid service f rest (n + 1) scope r q
Laid {K} service f (exit e rest) n scope p q =
    (r : K) × IsPoint service f p scope e × Below (known service (look service f p) e) (Html (f.shown p)) × (f.is_exit p ≡ true)
    × Laid service f rest (n + 1) scope r q
