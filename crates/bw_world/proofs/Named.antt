-- The fields that a show receives have numbers among the names of the service's fields.
use Rattle.std.proofs.Common.{◌≡◌, ℕ, zero, suc, ◌+◌, ◌<◌, Bool, true, false, List, [], ◌∷◌, ◌++◌, length, map, Option, Some, None}
use Rattle.std.proofs.Common.{subst}
use Rattle.std.specs.Prelude.{◌==◌, if◌then◌else◌, flat_map, slice_get, unwrap_or}
use Rattle.std.specs.List.{All}
use Rattle.std.specs.Option.{option_or}
use Rattle.std.proofs.lemmas.List.Elements.{All-nil, All-cons, All-head, All-tail, All-append}
use Rattle.bw_http.specs.Replies.{IsReply}
use Rattle.bw_lang.specs.declared.declaration.Declaration.{Declaration}
use Rattle.bw_lang.specs.declared.declaration.Declaration.TheVariants as declarations
use Rattle.bw_lang.specs.declared.service.Service.{Service}
use Rattle.bw_lang.specs.declared.service.Session.{Session}
use Rattle.bw_lang.specs.declared.stmt.Kind.{Kind}
use Rattle.bw_lang.specs.declared.stmt.Kind.TheVariants as kinds
use Rattle.bw_lang.specs.declared.stmt.Receive.{Receive}
use Rattle.bw_lang.specs.Service.Code.{Code, done, declare, assign, if_then, if_else, while_loop, for_each, block, show, exit, numbered}
use Rattle.bw_lang.specs.Service.CodeNames.{received_fields}
use Rattle.bw_lang.specs.Service.Limits.{declared_fields}
use Rattle.bw_lang.specs.Table.Names.{name_number}
use Rattle.bw_lang.specs.Service.Order.{declarations_of}
use Rattle.bw_lang.specs.Service.Sorted.{as_session}
use Rattle.bw_lang.specs.Service.Submissions.{values_of}
use Rattle.bw_lang.proofs.Small.{readable_is_woven}
use Rattle.bw_lang.proofs.TableLaws.{added_are_there}
use Rattle.bw_types.specs.declared.typed.Typed.{Typed}
use Rattle.bw_types.specs.Fields.{field_names}
use Rattle.bw_types.proofs.Differing.{all_sorted}
use Rattle.bw_flow.specs.declared.point.Local.{Local}
use Rattle.bw_flow.specs.Layout.{receives, number_of_field}
use Rattle.bw_meaning.specs.GoOn.{body_of}
use Rattle.bw_meaning.specs.States.{Form}
use Rattle.bw_model.specs.Received.{receives_at}
use Rattle.bw_run.specs.declared.fields.FieldFault.{FieldFault}
use Rattle.bw_run.specs.declared.fields.FieldFault.TheVariants as fields
use Rattle.bw_run.specs.Missing.{is_long, too_long, string_fault, field_fault, first_missing}
use Rattle.bw_world.specs.Changes.{refused}
use Rattle.bw_world.specs.Stands.{fields_of}

module _ (P : List ℕ → Type 0) where
  abbrev Are : List (List ℕ) → Type 0
  Are ws = All P ws

  front : (vs ws : List (List ℕ)) → Are (vs ++ ws) → Are vs
  front [] ws h = All-nil P
  front (v ∷ vs) ws h = All-cons P v vs (All-head P v (vs ++ ws) h) (front vs ws (All-tail P v (vs ++ ws) h))

  behind : (vs ws : List (List ℕ)) → Are (vs ++ ws) → Are ws
  behind [] ws h = h
  behind (v ∷ vs) ws h = behind vs ws (All-tail P v (vs ++ ws) h)

  abbrev AreOf : List Receive → Type 0
  AreOf rs = All (λ r. P r.field) rs

  of_fields : (rs : List Receive) → Are (map (λ r. r.field) rs) → AreOf rs
  of_fields [] h = All-nil (λ (r : Receive). P r.field)
  of_fields (r ∷ rs) h = All-cons (λ (r : Receive). P r.field) r rs (All-head P r.field (map (λ r. r.field) rs) h)
      (of_fields rs (All-tail P r.field (map (λ r. r.field) rs) h))

  if_here : (b : Bool) (rs : List Receive) → AreOf rs → AreOf (if b then rs else [])
  if_here true rs h = h
  if_here false rs h = All-nil (λ (r : Receive). P r.field)

  both : (rs ss : List Receive) → AreOf rs → AreOf ss → AreOf (rs ++ ss)
  both rs ss a b = All-append (λ (r : Receive). P r.field) rs ss a b

  -- what a show receives is received by the statements
  at_show : (c : Code) (n k : ℕ) → Are (received_fields c) → AreOf (receives_at c n k)
  at_show done n k h = All-nil (λ (r : Receive). P r.field)
  at_show (declare t w e rest) n k h = at_show rest (n + 1) k h
  at_show (assign w e rest) n k h = at_show rest (n + 1) k h
  at_show (exit e rest) n k h = at_show rest (n + 1) k h
  at_show (if_then t y rest) n k h =
      both (receives_at y (n + 1) k) (receives_at rest (n + 1 + numbered y) k) (at_show y (n + 1) k (front (received_fields y) (received_fields rest) h))
      (at_show rest (n + 1 + numbered y) k (behind (received_fields y) (received_fields rest) h))
  at_show (if_else t y z rest) n k h =
      let more = behind (received_fields y) (received_fields z ++ received_fields rest) h in
      both (receives_at y (n + 1) k) (receives_at z (n + 1 + numbered y) k ++ receives_at rest (n + 1 + numbered y + numbered z) k)
      (at_show y (n + 1) k (front (received_fields y) (received_fields z ++ received_fields rest) h))
      (both (receives_at z (n + 1 + numbered y) k) (receives_at rest (n + 1 + numbered y + numbered z) k)
      (at_show z (n + 1 + numbered y) k (front (received_fields z) (received_fields rest) more))
      (at_show rest (n + 1 + numbered y + numbered z) k (behind (received_fields z) (received_fields rest) more)))
  at_show (while_loop t y rest) n k h =
      both (receives_at y (n + 1) k) (receives_at rest (n + 1 + numbered y) k) (at_show y (n + 1) k (front (received_fields y) (received_fields rest) h))
      (at_show rest (n + 1 + numbered y) k (behind (received_fields y) (received_fields rest) h))
  at_show (for_each w t y rest) n k h =
      both (receives_at y (n + 1) k) (receives_at rest (n + 1 + numbered y) k) (at_show y (n + 1) k (front (received_fields y) (received_fields rest) h))
      (at_show rest (n + 1 + numbered y) k (behind (received_fields y) (received_fields rest) h))
  at_show (block y rest) n k h =
      both (receives_at y n k) (receives_at rest (n + numbered y) k) (at_show y n k (front (received_fields y) (received_fields rest) h))
      (at_show rest (n + numbered y) k (behind (received_fields y) (received_fields rest) h))
  at_show (show p rs rest) n k h =
      both (if n == k then rs else []) (receives_at rest (n + 1) k) (if_here (n == k) rs
      (of_fields rs (front (map (λ r. r.field) rs) (received_fields rest) h)))
      (at_show rest (n + 1) k (behind (map (λ r. r.field) rs) (received_fields rest) h))

  -- what all declarations have, each has
  each_declares : (ds : List Declaration) → Are (flat_map declared_fields ds) → All (λ d. Are (declared_fields d)) ds
  each_declares [] h = All-nil (λ d. Are (declared_fields d))
  each_declares (d ∷ ds) h =
      All-cons (λ d. Are (declared_fields d)) d ds (front (declared_fields d) (flat_map declared_fields ds) h)
      (each_declares ds (behind (declared_fields d) (flat_map declared_fields ds) h))

  of_session : (d : Declaration) (s : Session) → as_session d ≡ Some s → Are (declared_fields d) → Are (received_fields s.body)
  of_session (declarations.Template t) s e h = absurd (cc)
  of_session (declarations.Shared v) s e h = absurd (cc)
  of_session (declarations.Session u) s e h = let same : u ≡ s = cc in subst (λ (z : Session). Are (received_fields z.body)) same h

  body_at : (ss : List Session) (i : ℕ) → All (λ s. Are (received_fields s.body)) ss
      → Are (received_fields (unwrap_or (slice_get (map (λ (s : Session). s.body) ss) i) done))
  body_at [] i h = All-nil P
  body_at (s ∷ ss) zero h = All-head (λ (s : Session). Are (received_fields s.body)) s ss h
  body_at (s ∷ ss) (suc i) h = body_at ss i (All-tail (λ (s : Session). Are (received_fields s.body)) s ss h)

-- the number of the field is there
abbrev IsThere : Service → List ℕ → Type 0
IsThere service w = name_number (fields_of service) w < length (fields_of service)

bodies_there : (typed : Typed) (session : ℕ) → All (IsThere typed.service) (received_fields (body_of typed.service session))
bodies_there typed session =
    let service = typed.service in
    let woven = readable_is_woven service typed.readable in
    let all = each_declares (IsThere service) (declarations_of service) (added_are_there [] (field_names service)) in
    body_at (IsThere service) service.sessions session
    (subst (All (λ s. All (IsThere service) (received_fields s.body))) woven.sessions
    (all_sorted as_session (λ d. All (IsThere service) (declared_fields d)) (λ s. All (IsThere service) (received_fields s.body))
    (of_session (IsThere service))
    (declarations_of service) all))

module _ (names : List (List ℕ)) where
  -- the fault names a field that is there
  abbrev pub Names : Option FieldFault → Type 0
  Names None = Unit {0}
  Names (Some f) = IsReply names (refused f)

  long_names : (f : ℕ) (vs : List (List ℕ)) → f < length names → Names (too_long f vs)
  long_names f vs h = by (is_long vs)
    where
      by : (b : Bool) → Names (if b then Some (fields.TooLong f) else None)
      by true = h
      by false = tt

  string_names : (f : ℕ) (vs : List (List ℕ)) → f < length names → Names (string_fault f vs)
  string_names f [] h = h
  string_names f (v ∷ []) h = long_names f (v ∷ []) h
  string_names f (v ∷ (w ∷ vs)) h = h

  field_names_it : (f : ℕ) (k : Kind) (vs : List (List ℕ)) → f < length names → Names (field_fault f k vs)
  field_names_it f kinds.Strs vs h = long_names f vs h
  field_names_it f kinds.Int vs h = string_names f vs h
  field_names_it f kinds.Bool vs h = string_names f vs h
  field_names_it f kinds.Str vs h = string_names f vs h
  field_names_it f kinds.Html vs h = string_names f vs h

  first_names : (a b : Option FieldFault) → Names a → Names b → Names (option_or a b)
  first_names None b h k = k
  first_names (Some x) b h k = h

  pub missing_names : (service : Service) (scope : List Local) (form : Form) (rs : List Receive)
      → All (λ r. number_of_field service r.field < length names) rs →
      Names (first_missing (receives service scope rs) form)
  missing_names service scope form [] h = tt
  missing_names service scope form (r ∷ rs) h =
      first_names (field_fault (number_of_field service r.field) _ (values_of r.field form)) (first_missing (receives service scope rs) form)
      (field_names_it (number_of_field service r.field) _ (values_of r.field form)
      (All-head (λ (r : Receive). number_of_field service r.field < length names) r rs h))
      (missing_names service scope form rs (All-tail (λ (r : Receive). number_of_field service r.field < length names) r rs h))

pub shows_are_there : (typed : Typed) (session n k : ℕ) → All (λ r. IsThere typed.service r.field) (receives_at (body_of typed.service session) n k)
shows_are_there typed session n k = at_show (IsThere typed.service) (body_of typed.service session) n k (bodies_there typed session)
