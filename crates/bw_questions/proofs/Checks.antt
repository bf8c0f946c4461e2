-- The check: what its answers exclude, and what is said where it refuses.
use Rattle.std.proofs.Common.{◌≡◌, ◌≢◌, ℕ, List, [], refl, sym, subst, arith, Option, None, Some, IfSome, Result, Ok, Err, IsErrOf, ap, ◌∙◌}
use Rattle.bw_check.specs.Accepts.{Accepts, IsCheckFault}
use Rattle.bw_check.specs.declared.fault.CheckFault.{CheckFault}
use Rattle.bw_check.specs.declared.fault.CheckFault.TheVariants as checks
use Rattle.bw_check.proofs.OneAnswer.{accepted_has_none}
use Rattle.bw_faults.specs.declared.fault.Fault.{Fault}
use Rattle.bw_format.specs.declared.format.Format.{Format}
use Rattle.bw_command.specs.declared.command.Judging.{Judging}
use Rattle.bw_lang.specs.Service.Reads.{Reads}
use Rattle.bw_lang.specs.Table.Names.{with_names}
use Rattle.bw_lang.specs.declared.service.Service.{Service}
use Rattle.bw_out.specs.Causes.{Shows}
use Rattle.bw_out.specs.Told.{Disk}
use Rattle.bw_schema.specs.declared.schema.Schema.{Schema}
use Rattle.bw_types.specs.Faults.{IsWellTyped}
use Rattle.bw_types.specs.Fields.{field_names, template_fields}
use Rattle.bw_types.specs.Gaps.{template_uses}
use Rattle.bw_types.specs.Scopes.{template_names, session_names, shared_kinds}
use Rattle.bw_types.specs.Tables.{with_kinds, with_uses}
use Rattle.bw_types.specs.declared.typed.Typed.{Typed}
use Rattle.bw_questions.specs.Asked.{Ruled, Work, accepted, accepted_file, checked, typed}
use Rattle.bw_questions.specs.FaultLines.{check_text, page_names}
use Rattle.bw_questions.specs.Behind.{Shown, AreMarked, behind_marks}
use Rattle.bw_command.specs.Codes.{status_for}
use Rattle.bw_questions.specs.Questions.{◌>>=◌, IsStop, Said}
use Rattle.bw_questions.specs.Reports.{SaysWhy}
use Rattle.bw_questions.specs.declared.seen.Sight.{Sight}
use Rattle.bw_command.specs.declared.status.Refusal.{Refusal}
use Rattle.bw_command.specs.declared.status.Status.TheVariants.{ServiceRefused}
use Rattle.bw_questions.specs.declared.stop.Stop.{Stop}
use Rattle.bw_questions.specs.declared.stop.Stop.TheVariants as stop
use Rattle.bw_questions.proofs.Stops.{no_stop}

-- ---- services that read and are well typed

-- some content reads as the service, and it is well typed
abbrev pub IsTyped : Service → Type 0
IsTyped tree = (content : List ℕ) × Reads content tree × IsWellTyped tree

-- the service with what its names stand for
abbrev pub typed_of : (tree : Service) → IsTyped tree → Typed
typed_of tree w = record {
  service = tree;
  fields = with_names [] (field_names tree);
  tables = record {
    templates = with_names [] (template_names tree);
    sessions = with_names [] (session_names tree);
    shared = with_kinds [] (shared_kinds tree);
    gaps = with_uses [] (template_uses tree.templates);
    fields = with_kinds [] (template_fields tree.templates);
  };
  well_typed = w.2;
  readable = ∣ (w.0, w.1) ∣₁;
  named = refl;
  known = record { templates = refl; sessions = refl; shared = refl; gaps = refl; fields = refl };
}

-- the service that the two questions give is one
pub typed_given : (how : Option Shown) (content : List ℕ) (tree same : Service) → Reads content tree → (typed how tree).gives same → IsTyped same
typed_given how content tree same r g = (content, subst (Reads content) (sym g.0) r, subst IsWellTyped (sym g.0) g.1)

-- ---- one answer

-- a service that is accepted is not refused
pub not_refused : (t : Typed) (by : Schema) (fault : CheckFault) → Accepts t.service by → IsCheckFault t.service by fault → fault ≢ checks.Memory → ⊥
not_refused t by (checks.Refused l) a f some = f.1 (accepted_has_none t by l a f.2)
not_refused t by (checks.TooLarge n) a f some = a.1.limits.members f.2
not_refused t by (checks.TooMany n) a f some = let few = a.1.limits.points in omega (arith, few, f.0, f.1)
not_refused t by checks.Memory a f some = some refl

-- the names are those of the service's templates, and the lines of the fault tell why it isn't accepted
pub refused_why : (how : Option Shown) (tree : Service) (by : Schema) (formats : List Format) (sight : Option Sight) (names : List (List ℕ))
    (fault : CheckFault) (s : Stop) → names ≡ page_names tree → AreMarked how sight → SaysWhy how (behind_marks sight) names fault s
    → IsCheckFault tree by fault → IsStop (checked how tree by formats) s
refused_why how tree by formats sight names fault (stop.Says refusal text) same marked h f = (
  fault,
  f,
  h.1,
  marked.0,
  marked.1,
  ap (λ (r : Refusal). let s : Said = record { status = status_for r; text = text.items } in s) h.0
      ∙ ap (λ (t : List ℕ). let s : Said = record { status = ServiceRefused; text = t } in s)
      (h.2 ∙ ap (λ n. check_text how (behind_marks sight) n fault) same
      ∙ ap (λ (b : Fault → List ℕ). check_text how b (page_names tree) fault) (λ i g. marked.2 g i)),
)
refused_why how tree by formats sight names fault stop.ReadFault same marked h f = absurd h
refused_why how tree by formats sight names fault stop.Memory same marked h f = tt

-- where no more is asked for, it is said that the service is accepted
pub accepted_said : (told : Option Disk) (name : List ℕ) (judging : Judging) (form : Option (List ℕ)) (ruled : Ruled) (work : Work) → (accepted ruled).gives work
    → IfSome told (λ d. (accepted_file d name judging form).gives ruled) → IfSome told (λ d. (accepted_file d name judging form >>= accepted).gives work)
accepted_said None name judging form ruled work e g = tt
accepted_said (Some d) name judging form ruled work e g = (ruled, g, e)

-- two parts had no read fault, and what came of them isn't one
pub quiet_shows : {A B D : Type 0} (r : Result D Stop) (a : A) (b : B) (x y z : ℕ) → Shows (IsErrOf {T = A} (Ok a) stop.ReadFault) x y
    → Shows (IsErrOf {T = B} (Ok b) stop.ReadFault) y z → (IsErrOf r stop.ReadFault → ⊥) → Shows (IsErrOf r stop.ReadFault) x z
quiet_shows r a b x y z first second quiet = record {
  only = λ f. absurd (quiet f);
  other = λ f. second.other (no_stop b stop.ReadFault) ∙ first.other (no_stop a stop.ReadFault);
}

-- three parts had no read fault
pub none_shows : {A B C D : Type 0} (v : D) (a : A) (b : B) (c : C) (x y z w : ℕ) → Shows (IsErrOf {T = A} (Ok a) stop.ReadFault) x y
    → Shows (IsErrOf {T = B} (Ok b) stop.ReadFault) y z → Shows (IsErrOf {T = C} (Ok c) stop.ReadFault) z w
    → Shows (IsErrOf {T = D} (Ok v) stop.ReadFault) x w
none_shows v a b c x y z w first second third = record {
  only = λ f. absurd (no_stop v stop.ReadFault f);
  other = λ f. third.other (no_stop c stop.ReadFault) ∙ second.other (no_stop b stop.ReadFault) ∙ first.other (no_stop a stop.ReadFault);
}
