-- Each world that requests reach is made of the service's templates and of strings in UTF-8.
use Rattle.std.proofs.Common.{ℕ, List, [], ◌∷◌, refl}
use Rattle.std.specs.List.{All}
use Rattle.bw_http.specs.declared.request.Request.{Request}
use Rattle.bw_lang.specs.Service.Submissions.{IsTextForm}
use Rattle.bw_lang.specs.declared.service.Service.{Service}
use Rattle.bw_meaning.specs.States.{Form, Input, Outcome, Went, Shown, Exited, Failed}
use Rattle.bw_meaning.specs.Values.{Values}
use Rattle.bw_model.specs.Answers.{with_input}
use Rattle.bw_model.specs.Reached.{Reached, none, one_more}
use Rattle.bw_model.specs.Sessions.{Origin, Started, Loaded, Talk, World, result, now}
use Rattle.bw_model.specs.Steps.{beginner, step}
use Rattle.bw_model.proofs.Keeping.{Leaves, all_append, kept}
use Rattle.bw_typed.specs.Strings.{CodeStrings, IsUtf8Text}
use Rattle.bw_made.specs.Made.{AreTexts, AreTextInputs, IsTextOutcome}
use Rattle.bw_made.specs.Worlds.{IsTextOrigin, IsTextTalk, IsTextWorld}
use Rattle.bw_made.proofs.Turns.{turn_comes, going_on_comes}
use Rattle.bw_made.proofs.Values.{AreConstants}

module _ (Constant : _) where
  pub next_talk : (talk : Talk) (form : Form) (shared : Values) → IsTextTalk Constant talk → IsTextForm form → AreTexts Constant shared →
      IsTextTalk Constant (with_input talk form shared)
  next_talk talk form shared h f s = record {
    origin = h.origin;
    inputs = all_append (λ (i : Input). IsTextForm i.form × AreTexts Constant i.shared) talk.inputs (record { form = form; shared = shared } ∷ []) h.inputs
        ((f, s), tt);
  }

  pub first_talk : (w : World) (session : ℕ) → IsTextWorld Constant w → IsTextTalk Constant (beginner w session)
  first_talk w session h = record { origin = h.shared; inputs = tt }

  -- what it leaves is made so
  left : (talk : Talk) (o : Outcome) → IsTextTalk Constant talk → IsTextOutcome Constant o → Leaves (IsTextTalk Constant) (AreTexts Constant) talk o
  left talk (Went st) t h = tt
  left talk (Shown at locals rests shown shared units) t h = (t, h.shared_are)
  left talk (Exited last shared units) t h = h.shared_are
  left talk (Failed f units) t h = tt

module _ (service : Service) (Constant : _) (c : AreConstants Constant service) (strings : All (λ s. CodeStrings IsUtf8Text s.body) service.sessions) where
  result_comes : (session : ℕ) (origin : Origin) (inputs : List Input) → IsTextOrigin Constant origin → AreTextInputs Constant inputs →
      IsTextOutcome Constant (result service session origin inputs)
  result_comes session (Started shared) inputs o i = turn_comes service Constant c strings session shared inputs o i
  result_comes session (Loaded at locals rests shown turn) [] o i = record { locals_are = o.0; rests_are = o.1; shown_is = o.2; shared_are = tt }
  result_comes session (Loaded at locals rests shown turn) (i ∷ later) o k =
      going_on_comes service Constant c strings session (record { at = at; locals = locals; rests = rests; input = i; later = later }) o.0 o.1 k

  pub now_comes : (talk : Talk) → IsTextTalk Constant talk → IsTextOutcome Constant (now service talk)
  now_comes talk h = result_comes talk.session talk.origin talk.inputs h.origin h.inputs

  pub stepped : (w : World) (request : Request) (key : ℕ) → IsTextWorld Constant w → IsTextForm request.form →
      IsTextWorld Constant (step service w request key).world
  stepped w request key h f =
      let k = kept service (IsTextTalk Constant) (AreTexts Constant) w request.form h.shared h.live
      (λ s. left Constant (beginner w s) (now service (beginner w s)) (first_talk Constant w s h) (now_comes (beginner w s) (first_talk Constant w s h)))
      (λ talk t. let next = with_input talk request.form w.shared in let n = next_talk Constant talk request.form w.shared t f h.shared in
      left Constant next (now service next) n (now_comes next n)) request key refl in
      record { shared = k.0; live = k.1 }

  pub reached : (from to : World) → IsTextWorld Constant from → Reached service from to → IsTextWorld Constant to
  reached from _ h none = h
  reached from _ h (one_more v request key f r) = stepped v request key (reached from v h r) f
