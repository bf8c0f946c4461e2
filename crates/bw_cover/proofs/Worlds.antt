-- Each world that requests reach from a covered one is covered.
use Rattle.std.proofs.Common.{◌≡◌, ℕ, List, [], ◌∷◌, ◌++◌, refl, sym, subst}
use Rattle.std.specs.List.{AllByRecursion}
use Rattle.bw_http.specs.declared.request.Request.{Request}
use Rattle.bw_lang.specs.declared.service.Service.{Service}
use Rattle.bw_meaning.specs.States.{Form, Input, Outcome, Went, Shown, Exited, Failed}
use Rattle.bw_meaning.specs.Values.{Values}
use Rattle.bw_model.specs.Answers.{with_input}
use Rattle.bw_model.specs.Reached.{Reached, none, one_more}
use Rattle.bw_model.specs.Sessions.{Origin, Started, Loaded, Talk, Live, World, now}
use Rattle.bw_model.specs.Steps.{beginner, step}
use Rattle.bw_model.proofs.Keeping.{Leaves, all_append, kept}
use Rattle.bw_cover.specs.Covered.{CoversShared, CoversInputs, IsCovered, AreOpen}
use Rattle.bw_cover.specs.Facts.{Facts}
use Rattle.bw_cover.specs.Sound.{AcceptsAll, CoversTurns}
use Rattle.bw_cover.specs.Spots.{Spot}
use Rattle.bw_cover.specs.Worlds.{CoversOrigin, WaitsAtShow, talk_plugs, CoversTalk, CoversWorld, ComesToCovered, CoversNext, CoversEmpty, CoversReached}
use Rattle.bw_cover.specs.Worlds.{EmptyIsCovered, StepsKeepCovering, NextIsCovered, WorldsAreCovered}
use Rattle.bw_cover.proofs.First.{first_covered}
use Rattle.bw_cover.proofs.Sound.{turn_is_covered, turn_plugs_are_open, going_on_is_covered, going_on_plugs_are_open}

all_of : {A : Type 0} (P Q : A → Type 0) → ((x : A) → P x → Q x) → (xs : List A) → AllByRecursion P xs → AllByRecursion Q xs
all_of P Q f [] h = tt
all_of P Q f (x ∷ xs) h = (f x h.0, all_of P Q f xs h.1)

module _ {K : Type 0} (service : Service) (f : Facts K) (a : CoversTurns service f) where
  -- ---- what sessions come to

  begun : (session : ℕ) (shared : Values) (inputs : List Input) → CoversShared service f shared → CoversInputs service f inputs →
      ComesToCovered service f (record { session = session; origin = Started shared; inputs = inputs })
  begun session shared inputs c i = let r = a.turns session shared inputs c i in record { result = r.0; plugs = r.1 }

  one_input : (session : ℕ) (origin : Origin) (inputs : List Input) (i : Input) → CoversOrigin service f origin → CoversInputs service f inputs →
      CoversShared service f i.shared → ComesToCovered service f (record { session = session; origin = origin; inputs = inputs ++ i ∷ [] })
  one_input session (Started shared) inputs i o c s =
      begun session shared (inputs ++ i ∷ []) o (all_append (λ (j : Input). CoversShared service f j.shared) inputs (i ∷ []) c (s, tt))
  one_input session (Loaded at locals rests shown turn) [] i o c s =
      let r = a.goes_on session (record { at = at; locals = locals; rests = rests; input = i; later = [] })
      (record { locals = o.0; shared = s; later = tt }) in
      record { result = r.0; plugs = r.1 }
  one_input session (Loaded at locals rests shown turn) (j ∷ inputs) i o c s =
      let more = all_append (λ (x : Input). CoversShared service f x.shared) inputs (i ∷ []) c.1 (s, tt) in
      let r = a.goes_on session (record { at = at; locals = locals; rests = rests; input = j; later = inputs ++ i ∷ [] })
      (record { locals = o.0; shared = c.0; later = more }) in
      record { result = r.0; plugs = r.1 }

  next_of : (talk : Talk) (form : Form) (shared : Values) → CoversTalk service f talk → CoversShared service f shared →
      ComesToCovered service f (with_input talk form shared)
  next_of talk form shared c s = one_input talk.session talk.origin talk.inputs (record { form = form; shared = shared }) c.origin c.inputs s

  -- what it leaves, where that is covered
  left : (talk : Talk) (o : Outcome) → now service talk ≡ o → CoversOrigin service f talk.origin → CoversInputs service f talk.inputs →
      IsCovered service f o → AreOpen (talk_plugs service talk) → Leaves (CoversTalk service f) (CoversShared service f) talk o
  left talk (Went st) e c i o p = tt
  left talk (Shown at locals rests shown shared units) e c i o p =
      (record { origin = c; inputs = i; waits = subst (WaitsAtShow service f) (sym e) (o.locals_are, o.shown_is); plugs = p }, o.shared_are)
  left talk (Exited last shared units) e c i o p = o.shared_are
  left talk (Failed x units) e c i o p = tt

  -- ---- worlds

  module _ (w : World) (h : CoversWorld service f w) where
    begins : (session : ℕ) → Leaves (CoversTalk service f) (CoversShared service f) (beginner w session) (now service (beginner w session))
    begins session =
        let r = begun session w.shared [] h.shared tt in
        left (beginner w session) (now service (beginner w session)) refl h.shared tt r.result r.plugs

    goes_on : (form : Form) (talk : Talk) → CoversTalk service f talk →
        Leaves (CoversTalk service f) (CoversShared service f) (with_input talk form w.shared) (now service (with_input talk form w.shared))
    goes_on form talk c =
        let r = next_of talk form w.shared c h.shared in
        left (with_input talk form w.shared) (now service (with_input talk form w.shared)) refl c.origin
        (all_append (λ (j : Input). CoversShared service f j.shared) talk.inputs (record { form = form; shared = w.shared } ∷ []) c.inputs (h.shared, tt))
        r.result r.plugs

    pub stepped : (request : Request) (key : ℕ) → CoversWorld service f (step service w request key).world
    stepped request key =
        let k = kept service (CoversTalk service f) (CoversShared service f) w request.form h.shared h.live begins (goes_on request.form) request key refl in
        record { shared = k.0; live = k.1 }

    pub nexts : CoversNext service f w
    nexts = record {
      begins = λ s. begun s w.shared [] h.shared tt;
      goes_on = λ form. all_of (λ (l : Live). CoversTalk service f l.talk) (λ (l : Live). ComesToCovered service f (with_input l.talk form w.shared))
          (λ l c. next_of l.talk form w.shared c h.shared) w.live h.live;
    }

  pub covers_empty : CoversEmpty service f
  covers_empty next first = record { shared = a.begins; live = tt }

  pub covers_reached : CoversReached service f
  covers_reached from to h r = let c = reached to r in (c, nexts to c)
    where
      reached : (to : World) → Reached service from to → CoversWorld service f to
      reached _ none = h
      reached _ (one_more w request key text r) = stepped w (reached w r) request key

-- ---- the laws

accepted_turns : (service : Service) (f : Facts Spot) → AcceptsAll service f → CoversTurns service f
accepted_turns service f a = record {
  begins = first_covered service f a.literals;
  turns = λ k first inputs c i.
      (turn_is_covered service f k first inputs (a.sessions k) c i, turn_plugs_are_open service f k first inputs (a.sessions k) c i);
  goes_on = λ k answer c. (going_on_is_covered service f k answer (a.sessions k) c, going_on_plugs_are_open service f k answer (a.sessions k) c);
}

pub empty_is_covered : EmptyIsCovered
empty_is_covered service f a = covers_empty service f (accepted_turns service f a)

pub steps_keep_covering : StepsKeepCovering
steps_keep_covering service f w request key a h = stepped service f (accepted_turns service f a) w h request key

pub next_is_covered : NextIsCovered
next_is_covered service f w a h = nexts service f (accepted_turns service f a) w h

pub worlds_are_covered : WorldsAreCovered
worlds_are_covered service f a = covers_reached service f (accepted_turns service f a)
