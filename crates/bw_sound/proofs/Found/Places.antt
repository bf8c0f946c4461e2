-- Where the show of a number stands, and where an exit does.
use Rattle.std.specs.Prelude.{◌≡◌, ◌⊎◌, ℕ, ◌<◌, ◌≤◌, ◌&&◌, nat_eq, Bool, true, List, length, get_or, slice_get, Option, Some, None}
use Rattle.std.proofs.Common.{refl, sym, ap, ◌∙◌, inl, inr, arith}
use Rattle.std.specs.List.{position_or_len}
use Rattle.std.proofs.lemmas.Bool.{and_parts, false≢true, cases_lt}
use Rattle.std.proofs.lemmas.Bool.Decides.{nat_tests}
use Rattle.std.proofs.lemmas.List.Sums.{fails_before_first, passes_at_first}
use Rattle.std.proofs.lemmas.Option.{get_or_from_slice_get, slice_get_within, slice_get-get_or}
use Rattle.bw_flow.specs.declared.point.Received.{Received}
use Rattle.bw_flow.specs.Flows.{is_join, is_show}
use Rattle.bw_flow.specs.Steps.{Act, sets, tests, goes_over, shows, exits, joins, Step}
use Rattle.bw_flow.proofs.Numbered.{no_join, all_have_numbers}
use Rattle.bw_lang.specs.declared.service.Service.{Service}
use Rattle.bw_lang.specs.Service.Term.{Term}
use Rattle.bw_flow.specs.Layout.{flow_of}
use Rattle.bw_sound.specs.Found.Seen.{is_show_of, place_of, ends, ends_at}

-- ---- the first place

there : {X : Type 0} (q : X → Bool) (xs : List X) (i : ℕ) (x : X) → slice_get xs i ≡ Some x → q x ≡ true → position_or_len q xs < length xs
there q xs i x e h = by_cases (cases_lt (position_or_len q xs) (length xs))
  where
    by_cases : (position_or_len q xs < length xs) ⊎ (length xs ≤ position_or_len q xs) → position_or_len q xs < length xs
    by_cases (inl l) = l
    by_cases (inr l) =
        let below = slice_get_within xs i x e in
        absurd (false≢true (sym (fails_before_first q xs i x (omega arith)) ∙ ap q (get_or_from_slice_get xs i x x e) ∙ h))

-- ---- shows

-- the show of number k stands at place p
pub record ShowsAt (service : Service) (k p : ℕ) : Type 0 where
  pub step : Step
  pub term : Term
  pub received : List Received
  pub is_at : slice_get (flow_of service) p ≡ Some step
  pub acts : step.act ≡ shows term received
  pub number : step.number ≡ k

same_number : (a b : ℕ) → nat_eq a b ≡ true → a ≡ b
same_number a b e = grind (arith, nat_tests)

by_act : (service : Service) (k p : ℕ) (x : Step) (a : Act) → slice_get (flow_of service) p ≡ Some x → x.act ≡ a → is_show a ≡ true → x.number ≡ k
    → ShowsAt service k p
by_act service k p x (shows e rs) at is h n = record { step = x; term = e; received = rs; is_at = at; acts = is; number = n }
by_act service k p x (sets v e) at is h n = absurd (false≢true h)
by_act service k p x (tests e) at is h n = absurd (false≢true h)
by_act service k p x (goes_over v e) at is h n = absurd (false≢true h)
by_act service k p x (exits e) at is h n = absurd (false≢true h)
by_act service k p x joins at is h n = absurd (false≢true h)

by_step : (service : Service) (k p : ℕ) (x : Step) → slice_get (flow_of service) p ≡ Some x → is_show_of k x ≡ true → ShowsAt service k p
by_step service k p x at h =
    let parts = and_parts (nat_eq x.number k) (is_show x.act) h in by_act service k p x x.act at refl parts.1 (same_number x.number k parts.0)

-- where some point stands at the place of a number, the show of that number does
pub show_found : (service : Service) (k : ℕ) (x : Step) → slice_get (flow_of service) (place_of service k) ≡ Some x → ShowsAt service k (place_of service k)
show_found service k x at =
    let flow = flow_of service in
    let p = place_of service k in
    let l = slice_get_within flow p x at in
    by_step service k p (get_or flow p x) (slice_get-get_or flow p x l) (passes_at_first (is_show_of k) flow x l)

is_itself : (k : ℕ) → nat_eq k k ≡ true
is_itself k = grind (arith, nat_tests)

-- a show stands at the place of its number
pub show_placed : (service : Service) (p : ℕ) (x : Step) → slice_get (flow_of service) p ≡ Some x → is_show x.act ≡ true → place_of service x.number ≡ p
show_placed service p x at h =
    let flow = flow_of service in
    let own : is_show_of x.number x ≡ true = λ i. is_itself x.number i && h i in
    let l = there (is_show_of x.number) flow p x at own in
    let s = show_found service x.number (get_or flow (place_of service x.number) x) (slice_get-get_or flow (place_of service x.number) x l) in
    all_have_numbers service (place_of service x.number) p s.step x s.is_at at (ap is_join s.acts) (no_join x.act h) s.number

-- ---- exits

-- an exit stands at place p
pub record ExitsAt (service : Service) (p : ℕ) : Type 0 where
  pub step : Step
  pub term : Term
  pub is_at : slice_get (flow_of service) p ≡ Some step
  pub acts : step.act ≡ exits term

exit_by_act : (service : Service) (p : ℕ) (x : Step) (a : Act) → slice_get (flow_of service) p ≡ Some x → x.act ≡ a → ends a ≡ true → ExitsAt service p
exit_by_act service p x (exits e) at is k = record { step = x; term = e; is_at = at; acts = is }
exit_by_act service p x (sets v e) at is k = absurd (false≢true k)
exit_by_act service p x (tests e) at is k = absurd (false≢true k)
exit_by_act service p x (goes_over v e) at is k = absurd (false≢true k)
exit_by_act service p x (shows e rs) at is k = absurd (false≢true k)
exit_by_act service p x joins at is k = absurd (false≢true k)

pub exit_found : (service : Service) (p : ℕ) (o : Option Step) → slice_get (flow_of service) p ≡ o → ends_at o ≡ true → ExitsAt service p
exit_found service p None at k = absurd (false≢true k)
exit_found service p (Some x) at k = exit_by_act service p x x.act at refl k
