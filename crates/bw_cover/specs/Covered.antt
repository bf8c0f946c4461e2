-- What is covered by an analysis: values, states, and what a turn gives.
use Rattle.std.specs.Prelude.{◌≡◌, ◌≤◌, ℕ, true, List, is_some, Some}
use Rattle.std.specs.List.{AllByRecursion}
use Rattle.bw_lang.specs.declared.service.Service.{Service}
use Rattle.bw_lang.specs.Document.Documents.{count}
use Rattle.bw_lang.specs.Table.Names.{beside}
use Rattle.bw_meaning.specs.States.{Input, Outcome, Went, Shown, Exited, Failed}
use Rattle.bw_meaning.specs.Values.{Document, Value, Values}
use Rattle.bw_cover.specs.Abstracts.{CoversTree, covers}
use Rattle.bw_cover.specs.Facts.{Facts, is_shared}
use Rattle.bw_types.specs.Scopes.{is_among}
use Rattle.bw_cover.specs.Plugs.{Plug}

-- these are the locals in scope at the point, each covered by what is known of it there
pub record CoversLocals {K : Type 0} (service : Service) (f : Facts K) (p : K) (locals : Values) : Type 0 where
  pub names : (w : List ℕ) → is_some (beside w locals) ≡ is_among w (f.scope p)
  pub each : (w : List ℕ) (v : Value) → beside w locals ≡ Some v → covers service (f.local p w) v

-- these are the shared variables, each covered by what is known of it
pub record CoversShared {K : Type 0} (service : Service) (f : Facts K) (shared : Values) : Type 0 where
  pub names : (w : List ℕ) → is_some (beside w shared) ≡ is_shared service w
  pub each : (w : List ℕ) (v : Value) → beside w shared ≡ Some v → covers service (f.shared w) v

-- each input comes with covered shared variables
abbrev pub CoversInputs : {K : Type 0} → Service → Facts K → List Input → Type 0
CoversInputs service f inputs = AllByRecursion (λ (i : Input). CoversShared service f i.shared) inputs

-- a show at which a session waits
pub record WaitsCovered {K : Type 0} (service : Service) (f : Facts K) (at : ℕ) (locals : Values) (shown : Document) (shared : Values) : Type 0 where
  pub locals_are : CoversLocals service f (f.place at) locals
  pub shown_is : CoversTree service (f.shown (f.place at)) shown.tree
  pub shared_are : CoversShared service f shared

-- an exit, of which the meaning tells no number: the document is covered at one of them
pub record EndsCovered {K : Type 0} (service : Service) (f : Facts K) (last : Document) (shared : Values) : Type 0 where
  pub at : K
  pub is_exit : f.is_exit at ≡ true
  pub last_is : CoversTree service (f.shown at) last.tree
  pub shared_are : CoversShared service f shared

-- what a turn gives
abbrev pub IsCovered : {K : Type 0} → Service → Facts K → Outcome → Type 0
IsCovered service f (Went st) = CoversShared service f st.shared
IsCovered service f (Shown at locals rests shown shared units) = WaitsCovered service f at locals shown shared
IsCovered service f (Exited last shared units) = EndsCovered service f last shared
IsCovered service f (Failed x units) = Unit {0}

-- each plug has an open gap of its name
abbrev pub AreOpen : List Plug → Type 0
AreOpen made = AllByRecursion (λ (p : Plug). 1 ≤ count p.gap p.base) made
