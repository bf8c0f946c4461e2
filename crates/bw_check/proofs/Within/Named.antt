-- The strings and the fields of a service have their numbers: what its points name is among its literals and its fields.
use Rattle.std.proofs.Common.{◌≡◌, ℕ, suc, ◌<◌, List, [], ◌∷◌, ◌++◌, map, length, Some, refl, subst, arith}
use Rattle.std.specs.Prelude.{flat_map, slice_get}
use Rattle.std.specs.List.{All, AllByRecursion}
use Rattle.std.proofs.lemmas.List.Elements.{All-nil, All-cons}
use Rattle.bw_lang.proofs.Small.{readable_is_woven}
use Rattle.bw_lang.proofs.TableLaws.{added_are_there}
use Rattle.bw_lang.specs.declared.declaration.Declaration.{Declaration}
use Rattle.bw_lang.specs.declared.declaration.Declaration.TheVariants as declarations
use Rattle.bw_lang.specs.declared.service.Service.{Service}
use Rattle.bw_lang.specs.declared.service.Session.{Session}
use Rattle.bw_lang.specs.declared.service.Shared.{Shared}
use Rattle.bw_lang.specs.declared.stmt.Receive.{Receive}
use Rattle.bw_lang.specs.Service.Code.{Code, done, declare, assign, if_then, if_else, while_loop, block, for_each, show, exit}
use Rattle.bw_lang.specs.Service.CodeNames.{received_fields}
use Rattle.bw_lang.specs.Service.Limits.{declared_fields}
use Rattle.bw_lang.specs.Service.Order.{declarations_of, IsWoven}
use Rattle.bw_lang.specs.Service.Sorted.{shared_of, sessions_of}
use Rattle.bw_lang.specs.Service.Term.{Term}
use Rattle.bw_lang.specs.Table.Names.{name_number, with_names}
use Rattle.bw_solve.specs.Lawful.SetLaws.{all_weaker}
use Rattle.bw_strings.specs.Literals.{literals_of, term_strings, code_strings, literal_strings, declaration_strings}
use Rattle.bw_types.specs.declared.typed.Typed.{Typed}
use Rattle.bw_types.specs.Fields.{field_names}
use Rattle.bw_flow.specs.declared.point.Local.{Local}
use Rattle.bw_flow.specs.Layout.{received, receives, flow_of}
use Rattle.bw_flow.specs.Steps.{Act, sets, tests, goes_over, shows, exits, joins, Step}
use Rattle.bw_fields.specs.Received.{names_of, IsReceived}
use Rattle.bw_check.proofs.Within.Acts.{OfEach, flow_acts}
use Rattle.bw_check.specs.Within.Laws.{ReceivedHaveNumbers}

-- ---- lists

all_parts : {X : Type 0} (P : X → Type 0) (xs ys : List X) → AllByRecursion P (xs ++ ys) → AllByRecursion P xs × AllByRecursion P ys
all_parts P [] ys h = (tt, h)
all_parts P (x ∷ xs) ys h = let r = all_parts P xs ys h.1 in ((h.0, r.0), r.1)

of_all : {X : Type 0} (P : X → Type 0) (xs : List X) → All P xs → AllByRecursion P xs
of_all P [] h = tt
of_all P (x ∷ xs) h = (h 0 x (omega arith), of_all P xs (λ i d l. h (suc i) d (omega arith)))

-- what holds of all parts of declarations holds of those of each
all_declared : {X : Type 0} (P : X → Type 0) (parts : Declaration → List X) (ds : List Declaration) → AllByRecursion P (flat_map parts ds)
    → AllByRecursion (λ d. AllByRecursion P (parts d)) ds
all_declared P parts [] h = tt
all_declared P parts (d ∷ ds) h = let r = all_parts P (parts d) (flat_map parts ds) h in (r.0, all_declared P parts ds r.1)

all_sessions : (Q : Declaration → Type 0) (ds : List Declaration) → AllByRecursion Q ds → AllByRecursion (λ s. Q (declarations.Session s)) (sessions_of ds)
all_sessions Q [] h = tt
all_sessions Q (declarations.Template t ∷ ds) h = all_sessions Q ds h.1
all_sessions Q (declarations.Shared v ∷ ds) h = all_sessions Q ds h.1
all_sessions Q (declarations.Session s ∷ ds) h = (h.0, all_sessions Q ds h.1)

all_shared : (Q : Declaration → Type 0) (ds : List Declaration) → AllByRecursion Q ds → AllByRecursion (λ v. Q (declarations.Shared v)) (shared_of ds)
all_shared Q [] h = tt
all_shared Q (declarations.Template t ∷ ds) h = all_shared Q ds h.1
all_shared Q (declarations.Shared v ∷ ds) h = (h.0, all_shared Q ds h.1)
all_shared Q (declarations.Session s ∷ ds) h = all_shared Q ds h.1

-- ---- names of a table

-- the name has a number in the table
abbrev pub IsNamed : List (List ℕ) → List ℕ → Type 0
IsNamed table w = name_number table w < length table

abbrev pub AreNamed : List (List ℕ) → List (List ℕ) → Type 0
AreNamed table ws = AllByRecursion (IsNamed table) ws

pub two_named : (table xs ys : List (List ℕ)) → AreNamed table (xs ++ ys) → AreNamed table xs × AreNamed table ys
two_named table xs ys h = all_parts (IsNamed table) xs ys h

all_named : (ws : List (List ℕ)) → AreNamed (with_names [] ws) ws
all_named ws = of_all (IsNamed (with_names [] ws)) ws (added_are_there [] ws)

-- ---- strings

-- the string literals of an expression are among those of the service
abbrev pub HasLiterals : Service → Term → Type 0
HasLiterals service e = AreNamed (literals_of service) (term_strings e)

-- those of what a point does
abbrev pub ActLiterals : Service → Act → Type 0
ActLiterals service (sets v e) = HasLiterals service e
ActLiterals service (tests e) = HasLiterals service e
ActLiterals service (goes_over v e) = HasLiterals service e
ActLiterals service (shows e rs) = HasLiterals service e
ActLiterals service (exits e) = HasLiterals service e
ActLiterals service joins = Unit {0}

module _ (service : Service) where
  abbrev literals : List (List ℕ)
  literals = literals_of service

  code_literals : (c : Code) → AreNamed literals (code_strings c) → OfEach service (ActLiterals service) c
  code_literals done h = tt
  code_literals (declare k w e rest) h = let r = two_named literals (term_strings e) (code_strings rest) h in (r.0, code_literals rest r.1)
  code_literals (assign w e rest) h = let r = two_named literals (term_strings e) (code_strings rest) h in (r.0, code_literals rest r.1)
  code_literals (if_then e y rest) h =
      let r = two_named literals (term_strings e) (code_strings y ++ code_strings rest) h in
      let s = two_named literals (code_strings y) (code_strings rest) r.1 in (r.0, (code_literals y s.0, code_literals rest s.1))
  code_literals (if_else e y o rest) h =
      let r = two_named literals (term_strings e) (code_strings y ++ (code_strings o ++ code_strings rest)) h in
      let s = two_named literals (code_strings y) (code_strings o ++ code_strings rest) r.1 in
      let t = two_named literals (code_strings o) (code_strings rest) s.1 in
      (r.0, (code_literals y s.0, (code_literals o t.0, code_literals rest t.1)))
  code_literals (while_loop e b rest) h =
      let r = two_named literals (term_strings e) (code_strings b ++ code_strings rest) h in
      let s = two_named literals (code_strings b) (code_strings rest) r.1 in (r.0, (code_literals b s.0, code_literals rest s.1))
  code_literals (for_each w e b rest) h =
      let r = two_named literals (term_strings e) (code_strings b ++ code_strings rest) h in
      let s = two_named literals (code_strings b) (code_strings rest) r.1 in (r.0, (code_literals b s.0, code_literals rest s.1))
  code_literals (block b rest) h =
      let r = two_named literals (code_strings b) (code_strings rest) h in (code_literals b r.0, code_literals rest r.1)
  code_literals (show e rs rest) h =
      let r = two_named literals (term_strings e) (code_strings rest) h in (λ scope. r.0, code_literals rest r.1)
  code_literals (exit e rest) h = let r = two_named literals (term_strings e) (code_strings rest) h in (r.0, code_literals rest r.1)

  abbrev strings : List (List ℕ)
  strings = flat_map declaration_strings (declarations_of service)

  every : AreNamed literals strings × AreNamed literals (service.name ∷ [])
  every = two_named literals strings (service.name ∷ []) (all_named (strings ++ service.name ∷ []))

  each : AllByRecursion (λ d. AreNamed literals (declaration_strings d)) (declarations_of service)
  each = all_declared (IsNamed literals) declaration_strings (declarations_of service) every.0

  -- the service's name is a literal
  pub name_named : IsNamed literals service.name
  name_named = every.1.0

  module _ (woven : IsWoven service) where
    -- so are the strings of each point
    pub point_literals : (p : ℕ) (x : Step) → slice_get (flow_of service) p ≡ Some x → ActLiterals service x.act
    point_literals =
        flow_acts service (ActLiterals service) tt
        (all_weaker (λ (s : Session). AreNamed literals (code_strings s.body)) (λ (s : Session). OfEach service (ActLiterals service) s.body) service.sessions
        (λ s h. code_literals s.body h)
        (subst (AllByRecursion (λ (s : Session). AreNamed literals (code_strings s.body))) woven.sessions
        (all_sessions (λ d. AreNamed literals (declaration_strings d)) (declarations_of service) each)))

    -- and those of the shared variables' first values
    pub shared_literals : AllByRecursion (λ (v : Shared). AreNamed literals (literal_strings v.init)) service.shared
    shared_literals =
        subst (AllByRecursion (λ (v : Shared). AreNamed literals (literal_strings v.init))) woven.shared
        (all_shared (λ d. AreNamed literals (declaration_strings d)) (declarations_of service) each)

-- ---- fields

-- what a point receives has its numbers
abbrev ActFields : Service → Act → Type 0
ActFields service (sets v e) = Unit {0}
ActFields service (tests e) = Unit {0}
ActFields service (goes_over v e) = Unit {0}
ActFields service (shows e rs) = All (IsReceived service) rs
ActFields service (exits e) = Unit {0}
ActFields service joins = Unit {0}

module _ (service : Service) where
  abbrev fields : List (List ℕ)
  fields = names_of service

  receives_named : (scope : List Local) (rs : List Receive) → AreNamed fields (map (λ r. r.field) rs) → All (IsReceived service) (receives service scope rs)
  receives_named scope [] h = All-nil (IsReceived service)
  receives_named scope (r ∷ rs) h =
      All-cons (IsReceived service) (received service scope r) (receives service scope rs) (refl, h.0) (receives_named scope rs h.1)

  code_fields : (c : Code) → AreNamed fields (received_fields c) → OfEach service (ActFields service) c
  code_fields done h = tt
  code_fields (declare k w e rest) h = (tt, code_fields rest h)
  code_fields (assign w e rest) h = (tt, code_fields rest h)
  code_fields (if_then e y rest) h =
      let r = two_named fields (received_fields y) (received_fields rest) h in (tt, (code_fields y r.0, code_fields rest r.1))
  code_fields (if_else e y o rest) h =
      let r = two_named fields (received_fields y) (received_fields o ++ received_fields rest) h in
      let s = two_named fields (received_fields o) (received_fields rest) r.1 in
      (tt, (code_fields y r.0, (code_fields o s.0, code_fields rest s.1)))
  code_fields (while_loop e b rest) h =
      let r = two_named fields (received_fields b) (received_fields rest) h in (tt, (code_fields b r.0, code_fields rest r.1))
  code_fields (for_each w e b rest) h =
      let r = two_named fields (received_fields b) (received_fields rest) h in (tt, (code_fields b r.0, code_fields rest r.1))
  code_fields (block b rest) h =
      let r = two_named fields (received_fields b) (received_fields rest) h in (code_fields b r.0, code_fields rest r.1)
  code_fields (show e rs rest) h =
      let r = two_named fields (map (λ r. r.field) rs) (received_fields rest) h in (λ scope. receives_named scope rs r.0, code_fields rest r.1)
  code_fields (exit e rest) h = (tt, code_fields rest h)

  -- the fields of each point
  point_fields : IsWoven service → (p : ℕ) (x : Step) → slice_get (flow_of service) p ≡ Some x → ActFields service x.act
  point_fields woven =
      flow_acts service (ActFields service) tt
      (all_weaker (λ (s : Session). AreNamed fields (received_fields s.body)) (λ (s : Session). OfEach service (ActFields service) s.body) service.sessions
      (λ s h. code_fields s.body h)
      (subst (AllByRecursion (λ (s : Session). AreNamed fields (received_fields s.body))) woven.sessions
      (all_sessions (λ d. AreNamed fields (declared_fields d)) (declarations_of service)
      (all_declared (IsNamed fields) declared_fields (declarations_of service) (all_named (field_names service))))))

pub received_have_numbers : (t : Typed) → ReceivedHaveNumbers t.service
received_have_numbers t p x e rs at is =
    subst (ActFields t.service) is (point_fields t.service (readable_is_woven t.service t.readable) p x at)
