-- A form is refused by the model world exactly where the flow refuses it.
use Rattle.std.proofs.Common.{◌≡◌, ℕ, List, Some, sym, ap, ◌∙◌, subst}
use Rattle.std.specs.Option.{option_map}
use Rattle.bw_http.specs.Replies.{IsReply}
use Rattle.bw_lang.specs.declared.service.Service.{Service}
use Rattle.bw_lang.specs.Service.Numbers.{first_number}
use Rattle.bw_types.specs.declared.typed.Typed.{Typed}
use Rattle.bw_typed.proofs.Services.{shared_are_no_lists}
use Rattle.bw_flow.specs.Layout.{receives, flow_of}
use Rattle.bw_flow.specs.Steps.{Step}
use Rattle.bw_run.specs.Follow.Laws.{IsOf}
use Rattle.bw_flow.specs.Flows.{fields_of}
use Rattle.bw_eval.specs.View.{values}
use Rattle.bw_meaning.specs.States.{Form}
use Rattle.bw_model.specs.Received.{receives_of, first_refusal}
use Rattle.bw_cover.proofs.Received.{fields_are as show_receives}
use Rattle.bw_run.specs.declared.fields.FieldFault.{FieldFault}
use Rattle.bw_run.specs.declared.turn.Frame.{Frame}
use Rattle.bw_run.specs.Fit.{IsFrame}
use Rattle.bw_run.specs.Missing.{first_missing}
use Rattle.bw_run.specs.Turns as run
use Rattle.bw_run.specs.Walks.{number_of, number_at}
use Rattle.bw_world.specs.Changes.{refused}
use Rattle.bw_world.specs.Stands.{fields_of as names}
use Rattle.bw_world.proofs.Named.{Names, missing_names, shows_are_there}
use Rattle.bw_world.proofs.Refusals.{refusals_agree}

module _ (typed : Typed) (session : ℕ) (frame : Frame) (fit : IsFrame typed.service (flow_of typed.service) frame)
    (own : IsOf typed.service session (number_at (flow_of typed.service) frame.point)) (form : Form) where
  abbrev service : Service
  service = typed.service

  abbrev flow : List Step
  flow = flow_of typed.service

  pub at_is : number_at flow frame.point ≡ fit.point.number
  at_is = ap number_of fit.is

  own_point : IsOf service session fit.point.number
  own_point = subst (IsOf service session) at_is own

  pub fields_are : fit.fields ≡ run.receives_of flow frame
  fields_are = sym (ap fields_of fit.acts) ∙ sym (ap run.received_at fit.is)

  pub received_are : fit.fields ≡ receives service fit.point.scope (receives_of service session fit.point.number)
  received_are =
      show_receives service session frame.point fit.point fit.page fit.fields fit.is fit.acts own_point.from own_point.below

  pub refused_alike : first_refusal service (receives_of service session (number_at flow frame.point)) (values frame.locals) form ≡ option_map refused
      (first_missing (run.receives_of flow frame) form)
  refused_alike =
      ap (λ k. first_refusal service (receives_of service session k) (values frame.locals) form) at_is
      ∙ refusals_agree service fit.point.scope (values frame.locals) form (shared_are_no_lists service typed.readable) fit.locals.kinds_are
      (receives_of service session fit.point.number)
      ∙ ap (λ rs. option_map refused (first_missing rs form)) (sym received_are ∙ fields_are)

  -- and the field that a refusal names is there
  pub refusal_names : (f : FieldFault) → first_missing (run.receives_of flow frame) form ≡ Some f → IsReply (names service) (refused f)
  refusal_names f e =
      subst (Names (names service)) (ap (λ rs. first_missing rs form) (sym received_are ∙ fields_are) ∙ e)
      (missing_names (names service) service fit.point.scope form (receives_of service session fit.point.number)
      (shows_are_there typed session (first_number service session) fit.point.number))

-- so for the same service by another name
pub refused_of : (typed : Typed) (service : Service) → typed.service ≡ service → (session : ℕ) (frame : Frame) (form : Form)
    → IsFrame service (flow_of service) frame → IsOf service session (number_at (flow_of service) frame.point)
    → first_refusal service (receives_of service session (number_at (flow_of service) frame.point)) (values frame.locals) form ≡ option_map refused
    (first_missing (run.receives_of (flow_of service) frame) form)
refused_of typed v is session frame form =
    subst (λ u. IsFrame u (flow_of u) frame → IsOf u session (number_at (flow_of u) frame.point)
    → first_refusal u (receives_of u session (number_at (flow_of u) frame.point)) (values frame.locals) form ≡ option_map refused
    (first_missing (run.receives_of (flow_of u) frame) form)) is
    (λ fit own. refused_alike typed session frame fit own form)

pub names_of_refused : (typed : Typed) (service : Service) → typed.service ≡ service → (session : ℕ) (frame : Frame) (form : Form)
    → IsFrame service (flow_of service) frame → IsOf service session (number_at (flow_of service) frame.point)
    → (f : FieldFault) → first_missing (run.receives_of (flow_of service) frame) form ≡ Some f → IsReply (names service) (refused f)
names_of_refused typed v is session frame form =
    subst (λ u. IsFrame u (flow_of u) frame → IsOf u session (number_at (flow_of u) frame.point)
    → (f : FieldFault) → first_missing (run.receives_of (flow_of u) frame) form ≡ Some f → IsReply (names u) (refused f)) is
    (λ fit own. refusal_names typed session frame fit own form)
