-- What holds of the shared variables and of each live session holds behind a step.
use Rattle.std.proofs.Common.{◌≡◌, ℕ, zero, suc, List, [], ◌∷◌, ◌++◌, subst}
use Rattle.std.specs.Prelude.{take}
use Rattle.std.specs.List.{AllByRecursion}
use Rattle.bw_http.specs.declared.request.Request.{Request}
use Rattle.bw_lang.specs.declared.service.Service.{Service}
use Rattle.bw_meaning.specs.States.{Form, Outcome, Went, Shown, Exited, Failed}
use Rattle.bw_meaning.specs.Values.{Values}
use Rattle.bw_model.specs.Answers.{with_input}
use Rattle.bw_model.specs.Sessions.{Talk, Live, World, now}
use Rattle.bw_model.specs.Steps.{Step, beginner, step}
use Rattle.bw_model.proofs.Found.{out_all}
use Rattle.bw_model.proofs.Views.{View, refused, again, begun, gone_on, viewed}

pub all_append : {A : Type 0} (P : A → Type 0) (xs ys : List A) → AllByRecursion P xs → AllByRecursion P ys → AllByRecursion P (xs ++ ys)
all_append P [] ys h k = k
all_append P (x ∷ xs) ys h k = (h.0, all_append P xs ys h.1 k)

pub all_take : {A : Type 0} (P : A → Type 0) (n : ℕ) (xs : List A) → AllByRecursion P xs → AllByRecursion P (take n xs)
all_take P zero xs h = tt
all_take P (suc n) [] h = tt
all_take P (suc n) (x ∷ xs) h = (h.0, all_take P n xs h.1)

-- of what a session leaves: of the session and the shared variables where it waits, of these where it ends
abbrev pub Leaves : (Talk → Type 0) → (Values → Type 0) → Talk → Outcome → Type 0
Leaves Of Shared talk (Went st) = Unit {0}
Leaves Of Shared talk (Shown at locals rests d shared units) = Of talk × Shared shared
Leaves Of Shared talk (Exited d shared units) = Shared shared
Leaves Of Shared talk (Failed f units) = Unit {0}

module _ (service : Service) (Of : Talk → Type 0) (Shared : Values → Type 0) (w : World) (form : Form) (shared : Shared w.shared)
    (live : AllByRecursion (λ (l : Live). Of l.talk) w.live) (begins : (session : ℕ) → Leaves Of Shared (beginner w session) (now service (beginner w session)))
    (goes_on : (talk : Talk) → Of talk → Leaves Of Shared (with_input talk form w.shared) (now service (with_input talk form w.shared))) where
  abbrev L : Live → Type 0
  L l = Of l.talk

  abbrev Kept : World → Type 0
  Kept v = Shared v.shared × AllByRecursion L v.live

  by_view : (s : Step) → View service w form s → Kept s.world
  by_view _ (refused reply e) = (shared, live)
  by_view _ (again l others number key at locals rests d sh units o e) = (shared, out_all L number key w.live l others o live)
  by_view _ (begun key session (Went st) e) = (shared, live)
  by_view _ (begun key session (Shown at locals rests d sh units) e) =
      let talk = beginner w session in
      let k = subst (Leaves Of Shared talk) e (begins session) in
      (k.1, all_take L 1000 (record { number = w.next; key = key; talk = talk } ∷ w.live) (k.0, live))
  by_view _ (begun key session (Exited d sh units) e) = (subst (Leaves Of Shared (beginner w session)) e (begins session), live)
  by_view _ (begun key session (Failed f units) e) = (shared, live)
  by_view _ (gone_on l others number key (Went st) o e) = (shared, live)
  by_view _ (gone_on l others number key (Shown at locals rests d sh units) o e) =
      let c = out_all L number key w.live l others o live in
      let k = subst (Leaves Of Shared (with_input l.talk form w.shared)) e (goes_on l.talk c.0) in
      (k.1, (k.0, c.1))
  by_view _ (gone_on l others number key (Exited d sh units) o e) =
      let c = out_all L number key w.live l others o live in
      (subst (Leaves Of Shared (with_input l.talk form w.shared)) e (goes_on l.talk c.0), c.1)
  by_view _ (gone_on l others number key (Failed f units) o e) = (shared, live)

  pub kept : (request : Request) (key : ℕ) → request.form ≡ form → Kept (step service w request key).world
  kept request key e = by_view (step service w request key) (subst (λ f. View service w f (step service w request key)) e (viewed service w request key))
