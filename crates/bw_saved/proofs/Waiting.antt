-- All that waits is read as it is spelled.
use Rattle.std.proofs.Common.{◌≡◌, ◌<◌, ◌≤◌, ℕ, ◌+◌, ◌^◌, Bool, true, false, cond, List, [], ◌∷◌, ◌++◌, length, Option, Some, None, refl, sym, ap, subst}
use Rattle.std.proofs.Common.{◌∙◌, append_assoc, arith}
use Rattle.std.specs.Prelude.{nat_lt, nat_le, ◌&&◌}
use Rattle.std.specs.List.{flat_map, AllByRecursion}
use Rattle.std.specs.Int.{w32, w64, to_be_bytes}
use Rattle.std.proofs.lemmas.Bool.{ltb-true, lt-ltb, leb-true, le-leb}
use Rattle.std.proofs.lemmas.List.{append-nil}
use Rattle.bw_saved.specs.Codec.{IsBytes, Takes, IsCodec}
use Rattle.bw_saved.specs.Fields.Reading.{◌>>=◌, number_at as number_read, repeated}
use Rattle.bw_saved.proofs.Codecs.{bind_some, guarded, some_is, binds, tests, is_codec}
use Rattle.bw_saved.proofs.FieldLaws.{u32_codec, u64_codec}
use Rattle.bw_saved.proofs.Loop.{repeated_codec}
use Rattle.bw_eval.specs.declared.value.Value.{Value}
use Rattle.bw_eval.specs.View.{values}
use Rattle.bw_flow.specs.Layout.{plan_of, flow_of}
use Rattle.bw_flow.specs.Steps.{Plan}
use Rattle.bw_lang.specs.declared.service.Service.{Service}
use Rattle.bw_lang.specs.declared.turn.TheConstants.{MAX_SHARED_WEIGHT}
use Rattle.bw_model.specs.declared.limits.TheConstants.{MAX_LIVE, MAX_NUMBER}
use Rattle.bw_meaning.specs.Values.{weights}
use Rattle.bw_saved.specs.declared.saved.Record.{Record}
use Rattle.bw_saved.specs.declared.saved.Saved.{Saved}
use Rattle.bw_saved.specs.Sessions.Weights.{are_apart}
use Rattle.bw_saved.specs.Sessions.Layout.{session, waiting}
use Rattle.bw_saved.specs.Sessions.Reading.{begins_well, if_apart, only_if, session_at, sessions_at, waiting_at}
use Rattle.bw_saved.specs.Sessions.Demands.{IsSession, IsSaved}
use Rattle.bw_saved.proofs.SessionLaws.{session_codec}
use Rattle.bw_saved.specs.Documents.Demands.{IsSmall}
use Rattle.bw_saved.specs.Values.Demands.{AreVariables}
use Rattle.bw_saved.specs.Values.Layout.{variables}
use Rattle.bw_saved.specs.Values.Reading.{variables_at}
use Rattle.bw_saved.proofs.ValueLaws.{variables_codec}
use Rattle.bw_types.specs.Scopes.{shared_kinds}

abbrev pub whole : ℕ → ℕ → List (List ℕ × Value) → List Record → Saved
whole next first shared records = record { next = next; first = first; shared = shared; records = records }

-- ---- the end

abbrev pub Ends : ℕ → ℕ → List (List ℕ × Value) → List Record → Saved → Type 0
Ends next first shared records s = (are_apart records ≡ true) × (s ≡ whole next first shared records)

ends_codec : (next first : ℕ) (shared : List (List ℕ × Value)) (records : List Record) →
    IsCodec (λ (s : Saved). []) (Ends next first shared records) (λ bytes. if_apart (whole next first shared records) bytes)
ends_codec next first shared records =
    let w = whole next first shared records in
    record {
      takes = λ bytes x fits e.
          let g = guarded (are_apart records) (Some (w, bytes)) x e in
          subst (λ (y : Saved × List ℕ). Takes bytes [] y.1 × Ends next first shared records y.0) (some_is (w, bytes) x g.1)
          (record { parts = refl; rest_fits = fits }, (g.0, refl));
      again = λ s rest h. ap (λ (b : Bool). cond b (Some (w, rest)) None) h.0 ∙ ap (λ (y : Saved). Some (y, rest)) (sym h.1);
    }

-- ---- the sessions

abbrev pub HasSessions : Service → ℕ → ℕ → List (List ℕ × Value) → ℕ → Saved → Type 0
HasSessions service next first shared count s =
    ((length s.records ≡ count) × AllByRecursion (IsSession service next) s.records) × Ends next first shared s.records s

records_codec : (service : Service) → IsSmall service → (next first : ℕ) (shared : List (List ℕ × Value)) (count : ℕ) →
    IsCodec (λ (s : Saved). flat_map (session (flow_of service)) s.records ++ []) (HasSessions service next first shared count)
    (sessions_at service (plan_of service) next first shared count)
unfolding sessions_at
records_codec service small next first shared count =
    binds (flat_map (session (flow_of service))) (λ rs. (length rs ≡ count) × AllByRecursion (IsSession service next) rs)
    (repeated (session_at service (plan_of service) next) count) (λ (s : Saved). s.records)
    (λ rs s. []) (λ rs s. Ends next first shared rs s) (λ rs bytes. if_apart (whole next first shared rs) bytes)
    (repeated_codec (session (flow_of service)) (IsSession service next) (session_at service (plan_of service) next) (session_codec service small next) count)
    (λ rs h. ends_codec next first shared rs) (λ rs s h. ap (λ (z : Saved). z.records) h.1)

abbrev pub HasCount : Service → ℕ → ℕ → List (List ℕ × Value) → Saved → Type 0
HasCount service next first shared s =
    (length s.records < 2 ^ 32) × ((begins_well next first shared (length s.records) ≡ true) × HasSessions service next first shared (length s.records) s)

abbrev pub count_bytes : Service → Saved → List ℕ
count_bytes service s = to_be_bytes w32 (length s.records) ++ (flat_map (session (flow_of service)) s.records ++ [])

abbrev pub count_then : Service → ℕ → ℕ → List (List ℕ × Value) → List ℕ → Option (Saved × List ℕ)
count_then service next first shared bytes =
    number_read w32 bytes >>= λ c. only_if (begins_well next first shared c.0) (sessions_at service (plan_of service) next first shared c.0 c.1)

count_codec : (service : Service) → IsSmall service → (next first : ℕ) (shared : List (List ℕ × Value)) →
    IsCodec (count_bytes service) (HasCount service next first shared) (count_then service next first shared)
count_codec service small next first shared =
    binds (to_be_bytes w32) (λ a. a < 2 ^ 32) (number_read w32) (λ (s : Saved). length s.records)
    (λ c s. flat_map (session (flow_of service)) s.records ++ []) (λ c s. (begins_well next first shared c ≡ true) × HasSessions service next first shared c s)
    (λ c bytes. only_if (begins_well next first shared c) (sessions_at service (plan_of service) next first shared c bytes)) u32_codec
    (λ c h. tests (λ (s : Saved). flat_map (session (flow_of service)) s.records ++ []) (HasSessions service next first shared c)
    (sessions_at service (plan_of service) next first shared c) (begins_well next first shared c) (records_codec service small next first shared c))
    (λ c s h. h.1.0.0)

-- ---- what stands in front

shared_codec : (service : Service) → IsSmall service → (next first : ℕ) →
    IsCodec (λ (s : Saved). variables s.shared ++ count_bytes service s)
    (λ s. AreVariables service (shared_kinds service) s.shared × HasCount service next first s.shared s)
    (λ bytes. variables_at service (shared_kinds service) bytes >>= λ v. count_then service next first v.0 v.1)
shared_codec service small next first =
    binds variables (AreVariables service (shared_kinds service)) (variables_at service (shared_kinds service)) (λ (s : Saved). s.shared)
    (λ v s. count_bytes service s) (λ v s. HasCount service next first v s) (λ v bytes. count_then service next first v bytes)
    (variables_codec service small (shared_kinds service)) (λ v h. count_codec service small next first v) (λ v s h. ap (λ (z : Saved). z.shared) h.1.1.1.1)

first_codec : (service : Service) → IsSmall service → (next : ℕ) →
    IsCodec (λ (s : Saved). to_be_bytes w32 s.first ++ (variables s.shared ++ count_bytes service s))
    (λ s. (s.first < 2 ^ 32) × (AreVariables service (shared_kinds service) s.shared × HasCount service next s.first s.shared s))
    (λ bytes. number_read w32 bytes >>= λ f. variables_at service (shared_kinds service) f.1 >>= λ v. count_then service next f.0 v.0 v.1)
first_codec service small next =
    binds (to_be_bytes w32) (λ a. a < 2 ^ 32) (number_read w32) (λ (s : Saved). s.first)
    (λ f s. variables s.shared ++ count_bytes service s) (λ f s. AreVariables service (shared_kinds service) s.shared × HasCount service next f s.shared s)
    (λ f bytes. variables_at service (shared_kinds service) bytes >>= λ v. count_then service next f v.0 v.1) u32_codec
    (λ f h. shared_codec service small next f) (λ f s h. ap (λ (z : Saved). z.first) h.1.1.1.1.1)

abbrev pub HasAll : Service → Saved → Type 0
HasAll service s =
    (s.next < 2 ^ 64) × ((s.first < 2 ^ 32) × (AreVariables service (shared_kinds service) s.shared × HasCount service s.next s.first s.shared s))

all_codec : (service : Service) → IsSmall service →
    IsCodec (λ (s : Saved). to_be_bytes w64 s.next ++ (to_be_bytes w32 s.first ++ (variables s.shared ++ count_bytes service s)))
    (HasAll service) (waiting_at service (plan_of service))
unfolding waiting_at
all_codec service small =
    binds (to_be_bytes w64) (λ a. a < 2 ^ 64) (number_read w64) (λ (s : Saved). s.next)
    (λ n s. to_be_bytes w32 s.first ++ (variables s.shared ++ count_bytes service s))
    (λ n s. (s.first < 2 ^ 32) × (AreVariables service (shared_kinds service) s.shared × HasCount service n s.first s.shared s))
    (λ n bytes. number_read w32 bytes >>= λ f. variables_at service (shared_kinds service) f.1 >>= λ v. count_then service n f.0 v.0 v.1) u64_codec
    (λ n h. first_codec service small n) (λ n s h. ap (λ (z : Saved). z.next) h.1.1.1.1.1.1)

-- ---- in the words of the demands

five_parts : (a b c d e : Bool) → (a && (b && (c && (d && e)))) ≡ true → (a ≡ true) × (b ≡ true) × (c ≡ true) × (d ≡ true) × (e ≡ true)
five_parts true true true true true h = (refl, refl, refl, refl, refl)
five_parts true true true true false h = absurd cc
five_parts true true true false e h = absurd cc
five_parts true true false d e h = absurd cc
five_parts true false c d e h = absurd cc
five_parts false b c d e h = absurd cc

is_saved : (service : Service) (s : Saved) → HasAll service s → IsSaved service s
is_saved service s h =
    let count = h.1.1.1 in
    let t = five_parts (nat_lt 0 s.next) (nat_le s.next (MAX_NUMBER + 1)) (nat_lt 0 s.first) (nat_le (weights (values s.shared)) MAX_SHARED_WEIGHT)
    (nat_le (length s.records) MAX_LIVE)
    count.1.0 in
    record {
      next = ltb-true _ _ t.0;
      numbers = leb-true _ _ t.1;
      first = ltb-true _ _ t.2;
      turns = h.1.0;
      shared = h.1.1.0;
      weight = leb-true _ _ t.3;
      few = leb-true _ _ t.4;
      sessions = count.1.1.0.1;
      apart = count.1.1.1.0;
    }

has_all : (service : Service) (s : Saved) → IsSaved service s → HasAll service s
has_all service s h =
    let well : begins_well s.next s.first s.shared (length s.records) ≡ true =
    rw (
      lt-ltb 0 s.next h.next,
      le-leb s.next (MAX_NUMBER + 1) h.numbers,
      lt-ltb 0 s.first h.first,
      le-leb (weights (values s.shared)) MAX_SHARED_WEIGHT h.weight,
      le-leb (length s.records) MAX_LIVE h.few,
    ) refl in
    (omega (arith, h.numbers), (h.turns, (h.shared, (omega (arith, h.few), (well, ((refl, h.sessions), (h.apart, refl)))))))

pub waiting_codec : (service : Service) → IsSmall service → IsCodec (waiting (flow_of service)) (IsSaved service) (waiting_at service (plan_of service))
waiting_codec service small =
    is_codec (λ (s : Saved). to_be_bytes w64 s.next ++ (to_be_bytes w32 s.first ++ (variables s.shared ++ count_bytes service s)))
    (waiting (flow_of service)) (HasAll service) (IsSaved service) (waiting_at service (plan_of service)) (all_codec service small)
    (λ s h. ap (λ (x : List ℕ). to_be_bytes w64 s.next ++ (to_be_bytes w32 s.first ++ (variables s.shared ++ (to_be_bytes w32 (length s.records) ++ x))))
    (sym (append-nil (flat_map (session (flow_of service)) s.records))))
    (is_saved service) (has_all service)
