-- What may be saved makes a world, and what waits in a world may be saved, as far as its type says.
use Rattle.std.proofs.Common.{◌≡◌, ◌≢◌, ◌<◌, ◌≤◌, ◌+◌, ◌^◌, ◌⊎◌, ◌&&◌, ◌||◌, ℕ, Bool, true, false, List, [], ◌∷◌, length, map, All, Option, refl}
use Rattle.std.proofs.Common.{ap, subst, not, nat_eq, inl, inr, arith}
use Rattle.std.specs.Prelude.{unwrap_or}
use Rattle.std.specs.List.{AllByRecursion, list_any}
use Rattle.std.proofs.lemmas.Bool.{cases_lt}
use Rattle.std.proofs.lemmas.Bool.Decides.{nat_tests}
use Rattle.std.proofs.lemmas.List.{length-map}
use Rattle.std.proofs.lemmas.List.Elements.{All-nil, All-cons, All-head, All-tail, All-from_recursion}
use Rattle.std.proofs.lemmas.Option.{slice_get_past}
use Rattle.bw_check.specs.declared.checked.Checked.{Checked}
use Rattle.bw_save.specs.Frozen.{record_of, suspended_of, parts_of}
use Rattle.bw_lang.proofs.Small.{readable_is_small}
use Rattle.bw_lang.specs.declared.limits.TheConstants.{MAX_SESSIONS}
use Rattle.bw_lang.specs.declared.service.Service.{Service}
use Rattle.bw_lang.specs.declared.service.Session.{Session}
use Rattle.bw_lang.specs.Service.Code.{Code, done, numbered}
use Rattle.bw_load.specs.Kept.{SessionsAreFit, SharedAreFit}
use Rattle.bw_model.specs.declared.limits.TheConstants.{MAX_LIVE}
use Rattle.bw_meaning.specs.GoOn.{body_of}
use Rattle.bw_run.specs.Follow.Laws as follow
use Rattle.bw_run.specs.Walks.{number_at}
use Rattle.bw_save.specs.Saves.{FitSessions}
use Rattle.bw_saved.specs.declared.saved.Record.{Record}
use Rattle.bw_saved.specs.declared.saved.Saved.{Saved}
use Rattle.bw_flow.specs.Layout.{flow_of}
use Rattle.bw_saved.specs.Sessions.Demands.{IsSession, IsSaved}
use Rattle.bw_saved.specs.Sessions.Weights.{are_apart}
use Rattle.bw_types.specs.declared.typed.Typed.{Typed}
use Rattle.bw_world.specs.declared.suspended.Suspended.{Suspended}
use Rattle.bw_world.specs.Kept.{IsSuspended, AreApart, IsKept}
use Rattle.bw_world.specs.Restored.{by_number, seen_of}
use Rattle.bw_world.specs.declared.restoring.Parts.{Parts}

-- ---- the sessions of live sessions fit two bytes

body_past : (service : Service) (session : ℕ) → length service.sessions ≤ session → body_of service session ≡ done
body_past service session le =
    let same = length-map service.sessions (λ (s : Session). s.body) in
    let none = slice_get_past (map (λ (s : Session). s.body) service.sessions) session (omega (arith, le, same)) in
    ap (λ (o : Option Code). unwrap_or o done) none

own_is_there : (service : Service) (session n : ℕ) → follow.IsOf service session n → session < length service.sessions
own_is_there service session n h = by (cases_lt session (length service.sessions))
  where
    by : (session < length service.sessions) ⊎ (length service.sessions ≤ session) → session < length service.sessions
    by (inl lt) = lt
    by (inr le) =
        let none = ap numbered (body_past service session le) in
        absurd (omega (arith, h.from, h.below, none))

few_sessions : (t : Typed) (service : Service) → t.service ≡ service → length service.sessions ≤ MAX_SESSIONS
few_sessions t service is = subst (λ (s : Service). length s.sessions ≤ MAX_SESSIONS) is (readable_is_small t.service t.readable).sessions

small_sessions : (service : Service) → length service.sessions ≤ MAX_SESSIONS → (live : List Suspended) →
    All (λ x. IsSuspended service x.1) (by_number live) → AllByRecursion (λ (r : Record). r.session < 2 ^ 16) (map record_of live)
small_sessions service few [] h = tt
small_sessions service few (s ∷ live) h =
    let first = All-head (λ x. IsSuspended service x.1) (s.number, s) (by_number live) h in
    let there = own_is_there service s.session (number_at (flow_of service) s.frame.point) first.own in
    (omega (arith, there, few), small_sessions service few live (All-tail (λ x. IsSuspended service x.1) (s.number, s) (by_number live) h))

pub fit_sessions : (p : Parts) → IsKept (seen_of p) → FitSessions (map record_of p.live)
fit_sessions p h =
    All-from_recursion (λ (r : Record). r.session < 2 ^ 16) (map record_of p.live)
    (small_sessions p.checked.typed.service (few_sessions h.typed p.checked.typed.service h.is) p.live h.sessions)

pub few_records : (p : Parts) → IsKept (seen_of p) → length (map record_of p.live) ≤ MAX_LIVE
few_records p h =
    let a = length-map {B = ℕ × Suspended} p.live (λ (x : Suspended). (x.number, x)) in
    let b = length-map p.live record_of in
    omega (arith, a, b, h.few)

-- ---- the sessions that may be saved

suspended : SessionsAreFit → (t : Typed) (next : ℕ) (rs : List Record) → AllByRecursion (IsSession t.service next) rs →
    All (λ x. IsSuspended t.service x.1) (by_number (map suspended_of rs))
suspended fit t next [] h = All-nil (λ x. IsSuspended t.service x.1)
suspended fit t next (r ∷ rs) h =
    let f = fit t next r h.0 in
    All-cons (λ x. IsSuspended t.service x.1) (r.number, suspended_of r) (by_number (map suspended_of rs))
    (record { frame = f.frame; page = f.page; own = f.own })
    (suspended fit t next rs h.1)

both : (a b : Bool) → (not a && b) ≡ true → (a ≡ false) × (b ≡ true)
both false true e = (refl, refl)
both false false e = absurd cc
both true b e = absurd cc

neither : (a b : Bool) → (a || b) ≡ false → (a ≡ false) × (b ≡ false)
neither false false e = (refl, refl)
neither false true e = absurd cc
neither true b e = absurd cc

differ : (m n : ℕ) → nat_eq m n ≡ false → m ≢ n
differ m n e same = absurd (grind (arith, nat_tests))

none_has : (n : ℕ) (rs : List Record) → list_any (λ (s : Record). nat_eq s.number n) rs ≡ false → All (λ y. y.0 ≢ n) (by_number (map suspended_of rs))
none_has n [] e = All-nil (λ y. y.0 ≢ n)
none_has n (r ∷ rs) e =
    let h = neither (nat_eq r.number n) (list_any (λ (s : Record). nat_eq s.number n) rs) e in
    All-cons (λ y. y.0 ≢ n) (r.number, suspended_of r) (by_number (map suspended_of rs)) (differ r.number n h.0) (none_has n rs h.1)

apart : (service : Service) (next : ℕ) (rs : List Record) → AllByRecursion (IsSession service next) rs → are_apart rs ≡ true →
    AreApart next (by_number (map suspended_of rs))
apart service next [] h e = tt
apart service next (r ∷ rs) h e =
    let b = both (list_any (λ (s : Record). nat_eq s.number r.number) rs) (are_apart rs) e in
    (refl, h.0.below, none_has r.number rs b.0, apart service next rs h.1 b.1)

pub kept : SessionsAreFit → SharedAreFit → (checked : Checked) (s : Saved) → IsSaved checked.typed.service s → IsKept (seen_of (parts_of checked s))
kept sessions shared checked s h = record {
  typed = checked.typed;
  is = refl;
  shared = shared checked.typed s h;
  sessions = suspended sessions checked.typed s.next s.records h.sessions;
  apart = apart checked.typed.service s.next s.records h.sessions h.apart;
  few = few;
}
  where
    few : length (by_number (map suspended_of s.records)) ≤ MAX_LIVE
    few =
        let a = length-map {B = ℕ × Suspended} (map suspended_of s.records) (λ (x : Suspended). (x.number, x)) in
        let b = length-map s.records suspended_of in
        omega (arith, a, b, h.few)
