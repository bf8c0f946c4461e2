-- What holds of what each statement of a service does holds of each point of its flow.
use Rattle.std.proofs.Common.{◌≡◌, ℕ, ◌+◌, List, [], ◌∷◌, ◌++◌, Some}
use Rattle.std.specs.Prelude.{slice_get}
use Rattle.std.specs.List.{All, AllByRecursion}
use Rattle.std.proofs.lemmas.List.Elements.{All-nil, All-cons}
use Rattle.bw_lang.specs.declared.service.Service.{Service}
use Rattle.bw_lang.specs.declared.service.Session.{Session}
use Rattle.bw_lang.specs.declared.stmt.Kind.TheVariants as kinds
use Rattle.bw_lang.specs.Service.Code.{Code, done, declare, assign, if_then, if_else, while_loop, block, for_each, show, exit, numbered}
use Rattle.bw_flow.specs.declared.point.Local.{Local}
use Rattle.bw_flow.specs.Layout.{count, enter, points, receives, step, steps, session_steps, flow_of}
use Rattle.bw_flow.specs.Scopes.{with_local}
use Rattle.bw_flow.specs.Steps.{Act, sets, tests, goes_over, shows, exits, joins, Step}
use Rattle.bw_analyse.specs.Lawful.ArrowLaws.{all_both}
use Rattle.bw_analyse.specs.Lawful.SystemLaws.{all_at}

-- what holds of one after the other holds of all
pub every : {X : Type 0} (P : X → Type 0) (xs : List X) → AllByRecursion P xs → All P xs
every P [] h = All-nil P
every P (x ∷ xs) h = All-cons P x xs h.0 (every P xs h.1)

module _ (service : Service) (P : Act → Type 0) where
  -- it holds of what each of these statements does, whatever locals are in scope
  abbrev pub OfEach : Code → Type 0
  OfEach done = Unit {0}
  OfEach (declare k w e rest) = P (sets w e) × OfEach rest
  OfEach (assign w e rest) = P (sets w e) × OfEach rest
  OfEach (if_then e y rest) = P (tests e) × (OfEach y × OfEach rest)
  OfEach (if_else e y o rest) = P (tests e) × (OfEach y × (OfEach o × OfEach rest))
  OfEach (while_loop e b rest) = P (tests e) × (OfEach b × OfEach rest)
  OfEach (for_each w e b rest) = P (goes_over w e) × (OfEach b × OfEach rest)
  OfEach (block b rest) = OfEach b × OfEach rest
  OfEach (show e rs rest) = ((scope : List Local) → P (shows e (receives service scope rs))) × OfEach rest
  OfEach (exit e rest) = P (exits e) × OfEach rest

  abbrev At : Step → Type 0
  At x = P x.act

  abbrev AtEach : List Step → Type 0
  AtEach xs = AllByRecursion At xs

  module _ (join : P joins) where
    code_acts : (c : Code) (n : ℕ) (scope : List Local) (d p q : ℕ) → OfEach c → AtEach (steps service c n scope d p q)
    code_acts done n scope d p q h = tt
    code_acts (declare k w e rest) n scope d p q h = (h.0, code_acts rest (n + 1) (with_local scope w k) d (p + 1) q h.1)
    code_acts (assign w e rest) n scope d p q h = (h.0, code_acts rest (n + 1) scope d (p + 1) q h.1)
    code_acts (if_then e y rest) n scope d p q h =
        let meet = p + 1 + count y in
        let more = step n scope d joins (enter rest (meet + 1) q ∷ []) ∷ steps service rest (n + 1 + numbered y) scope d (meet + 1) q in (
          h.0,
          all_both At (steps service y (n + 1) scope d (p + 1) meet) more (code_acts y (n + 1) scope d (p + 1) meet h.1.0)
              (join, code_acts rest (n + 1 + numbered y) scope d (meet + 1) q h.1.1),
        )
    code_acts (if_else e y o rest) n scope d p q h =
        let other = p + 1 + count y in
        let meet = other + count o in
        let os = steps service o (n + 1 + numbered y) scope d other meet in
        let more = step n scope d joins (enter rest (meet + 1) q ∷ []) ∷ steps service rest (n + 1 + numbered y + numbered o) scope d (meet + 1) q in (
          h.0,
          all_both At (steps service y (n + 1) scope d (p + 1) meet) (os ++ more) (code_acts y (n + 1) scope d (p + 1) meet h.1.0)
              (all_both At os more (code_acts o (n + 1 + numbered y) scope d other meet h.1.1.0)
              (join, code_acts rest (n + 1 + numbered y + numbered o) scope d (meet + 1) q h.1.1.1)),
        )
    code_acts (while_loop e b rest) n scope d p q h =
        let behind = p + 1 + count b in
        let more = steps service rest (n + 1 + numbered b) scope d behind q in (
          h.0,
          all_both At (steps service b (n + 1) scope d (p + 1) p) more (code_acts b (n + 1) scope d (p + 1) p h.1.0)
              (code_acts rest (n + 1 + numbered b) scope d behind q h.1.1),
        )
    code_acts (for_each w e b rest) n scope d p q h =
        let behind = p + 1 + count b in
        let inner = with_local scope w kinds.Str in
        let more = steps service rest (n + 1 + numbered b) scope d behind q in (
          h.0,
          all_both At (steps service b (n + 1) inner (d + 1) (p + 1) p) more (code_acts b (n + 1) inner (d + 1) (p + 1) p h.1.0)
              (code_acts rest (n + 1 + numbered b) scope d behind q h.1.1),
        )
    code_acts (block b rest) n scope d p q h =
        let behind = p + count b in
        let r = enter rest behind q in
        let more = steps service rest (n + numbered b) scope d behind q in
        all_both At (steps service b n scope d p r) more (code_acts b n scope d p r h.0) (code_acts rest (n + numbered b) scope d behind q h.1)
    code_acts (show e rs rest) n scope d p q h = (h.0 scope, code_acts rest (n + 1) scope d (p + 1) q h.1)
    code_acts (exit e rest) n scope d p q h = (h.0, code_acts rest (n + 1) scope d (p + 1) q h.1)

    sessions_acts : (ss : List Session) (n p out : ℕ) → AllByRecursion (λ (s : Session). OfEach s.body) ss → AtEach (session_steps service ss n p out)
    sessions_acts [] n p out h = tt
    sessions_acts (s ∷ ss) n p out h =
        let more = session_steps service ss (n + numbered s.body) (p + count s.body) out in
        all_both At (steps service s.body n [] 0 p out) more (code_acts s.body n [] 0 p out h.0)
        (sessions_acts ss (n + numbered s.body) (p + count s.body) out h.1)

    pub flow_acts : AllByRecursion (λ (s : Session). OfEach s.body) service.sessions → (p : ℕ) (x : Step) → slice_get (flow_of service) p ≡ Some x
        → P x.act
    flow_acts h = all_at At (flow_of service) (every At (flow_of service) (sessions_acts service.sessions 1 0 (points service.sessions) h))
