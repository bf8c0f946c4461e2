-- Questions that follow one another are decided where each of them is.
use Rattle.std.proofs.Common.{◌≡◌, ℕ, true, false, List, [], Option, None, Some, Result, Ok, Err, refl, sym, ap, ◌∙◌, subst, inl, inr}
use Rattle.std.specs.Str.Lines.{lines}
use Rattle.std.proofs.Math.Path.{to_path_p}
use Rattle.bw_format.specs.declared.file.FormatFault.{FormatFault}
use Rattle.bw_format.specs.declared.format.Format.{Format}
use Rattle.bw_format.proofs.OneAnswer.{one_answer}
use Rattle.bw_lang.specs.Document.Forest.{Forest}
use Rattle.bw_lang.specs.declared.service.Service.{Service}
use Rattle.bw_lights.proofs.OneLights.{lights_once}
use Rattle.bw_load.specs.Loaded.{world_of}
use Rattle.bw_make.specs.Made.{made}
use Rattle.bw_out.specs.Told.{Disk}
use Rattle.bw_read.proofs.Decided.{one_page}
use Rattle.bw_schema.specs.Reads.{IsReadable}
use Rattle.bw_schema.specs.declared.schema.Schema.{Schema}
use Rattle.bw_schema.proofs.SchemaLaws.{one_schema, not_both as not_both_schema}
use Rattle.bw_syntax.proofs.OneAnswer.{reads_once, read_or_refused}
use Rattle.bw_types.specs.Faults.{faults_of, first_member}
use Rattle.bw_types.specs.declared.fault.TypeFault.{TypeFault}
use Rattle.bw_types.specs.declared.typed.Typed.{Typed}
use Rattle.bw_valid.specs.Breaches.{breach}
use Rattle.bw_valid.proofs.BreachLaws.{valid_decided}
use Rattle.bw_visit.proofs.Scripts.{scripts_are_one}
use Rattle.bw_questions.specs.Asked.{page, page_file, rules, schema, built_in, judged, ruled, formats_in, formats_file, formats, lit, lit_file}
use Rattle.bw_questions.specs.Asked.{command, file, read, typed, service_file, checked, checked_with, checked_by, accepted_file, accepted_text}
use Rattle.bw_questions.specs.Asked.{examined, examined_by, examined_file}
use Rattle.bw_questions.specs.Asked.Work.{prints}
use Rattle.bw_questions.specs.Asked.{accepted, turned}
use Rattle.bigwig.specs.Asked.{start, replayed, replayed_from, resumed, at_port, served_from, frozen, frozen_from, beside, work, asked, followed, visited}
use Rattle.bw_questions.specs.Asked.{usage_line}
use Rattle.bw_questions.specs.Asked.Task.{to_save, to_serve}
use Rattle.bw_questions.specs.Behind.{Shown, shown_file}
use Rattle.bw_command.specs.Commands.{command_of}
use Rattle.bw_questions.specs.Lines.{no_file_line}
use Rattle.bigwig.specs.Loading.{loads}
use Rattle.bw_questions.specs.Questions.{Said, Question, ◌>>=◌, found, line}
use Rattle.bigwig.specs.Scripts.{script}
use Rattle.bw_questions.specs.Asked.{Ruled, Script}
use Rattle.bw_command.specs.declared.command.Command.{Command}
use Rattle.bw_command.specs.declared.command.Command.TheVariants.{Check, Replay, Resume, Serve, Keep, Valid, Make, Light, Freeze, Preserve, Visit}
use Rattle.bw_command.specs.declared.command.Judging.{Judging}
use Rattle.bw_command.specs.declared.status.Status.{Status}
use Rattle.bw_command.specs.declared.status.Status.TheVariants.{Usage, NoFile, ServiceRefused, SchemaRefused, PageRefused, FormatsRefused, LoadRefused, ScriptRefused}
use Rattle.bw_questions.proofs.Checks.{IsTyped, typed_of, typed_given, not_refused}
use Rattle.bigwig.proofs.OneLoad.{loaded_once, not_loaded}

-- The question is answered in one way: it gives one value, or something is said, with one status.
pub record IsDecided {A : Type 0} (question : Question A) : Type 0 where
  pub once : (a b : A) → question.gives a → question.gives b → a ≡ b
  pub not_both : (a : A) (said : Said) → question.gives a → question.says said → ⊥
  pub one_status : (said other : Said) → question.says said → question.says other → said.status ≡ other.status

-- two questions, one after the other
pub then : {A B : Type 0} (q : Question A) (next : A → Question B) → IsDecided q → ((a : A) → q.gives a → IsDecided (next a)) → IsDecided (q >>= next)
then {A = A} {B = B} q next d e = record {
  once = λ b c p r. (e p.0 p.1).once b c p.2 (subst (λ a. (next a).gives c) (d.once r.0 p.0 r.1 p.1) r.2);
  not_both = λ b s p r. elim r [
    | inl x ↦ d.not_both p.0 s p.1 x
    | inr x ↦
        (e p.0 p.1).not_both b s p.2 (subst (λ a. (next a).says s) (d.once x.0 p.0 x.1 p.1) x.2)
  ];
  one_status = λ s t p r. elim p [
    | inl x ↦ elim r [ inl y ↦ d.one_status s t x y | inr y ↦ absurd (d.not_both y.0 s y.1 x) ]
    | inr x ↦ elim r [
      | inl y ↦ absurd (d.not_both x.0 t x.1 y)
      | inr y ↦
          (e x.0 x.1).one_status s t x.2 (subst (λ a. (next a).says t) (d.once y.0 x.0 y.1 x.1) y.2)
    ]
  ];
}

pub found_decided : {A : Type 0} (a : A) → IsDecided (found a)
found_decided a = record { once = λ b c p r. p ∙ sym r; not_both = λ b s p r. r; one_status = λ s t p r. absurd p }

some_same : {A : Type 0} (a b : A) → Some a ≡ Some b → a ≡ b
some_same a b e = cc

-- a value that an option has, or what is said where it has none
option_decided : {A : Type 0} (o : Option A) (said : Said) → IsDecided (record { gives = λ a. o ≡ Some a; says = λ s. (o ≡ None) × (s ≡ said) })
option_decided None said = record {
  once = λ a b p r. cc;
  not_both = λ a s p r. cc;
  one_status = λ s t p r. ap (λ (x : Said). x.status) (p.1 ∙ sym r.1);
}
option_decided (Some a) said = record {
  once = λ b c p r. some_same b c (sym p ∙ r);
  not_both = λ b s p r. cc;
  one_status = λ s t p r. cc;
}

pub command_decided : (words : List (List ℕ)) → IsDecided (command words)
command_decided words = option_decided (command_of words) (record { status = Usage; text = usage_line })

pub file_decided : (disk : Disk) (name : List ℕ) → IsDecided (file disk name)
file_decided disk name = option_decided (disk name) (record { status = NoFile; text = line (no_file_line name) })

-- what is said with one status
one_said : (status : Status) (s t : Said) (x y : List ℕ) → s ≡ record { status = status; text = x } → t ≡ record { status = status; text = y }
    → s.status ≡ t.status
one_said status s t x y e f = ap (λ (x : Said). x.status) e ∙ ap (λ (x : Said). x.status) (sym f)

pub read_decided : (how : Option Shown) (content : List ℕ) → IsDecided (read how content)
read_decided how content = record {
  once = reads_once content;
  not_both = λ t s p r. r.2 (read_or_refused content t r.0 p r.1);
  one_status = λ s t p r. one_said ServiceRefused s t _ _ p.3 r.3;
}

-- a list of faults isn't both empty and with a first one
none_and_first : (l : List TypeFault) (fault : TypeFault) → l ≡ [] → first_member l ≡ Some fault → ⊥
none_and_first l fault none first = let nothing : first_member l ≡ None = ap first_member none in cc

pub typed_decided : (how : Option Shown) (tree : Service) → IsDecided (typed how tree)
typed_decided how tree = record {
  once = λ a b p r. p.0 ∙ sym r.0;
  not_both = λ t s p r. none_and_first (faults_of tree) r.0 p.1 r.1;
  one_status = λ s t p r. one_said ServiceRefused s t _ _ p.4 r.4;
}

pub service_file_decided : (how : Option Shown) (disk : Disk) (name : List ℕ) → IsDecided (service_file how disk name)
service_file_decided how disk name =
    then (file disk name >>= read how) (typed how)
    (then (file disk name) (read how) (file_decided disk name) (λ content _. read_decided how content)) (λ tree _. typed_decided how tree)

pub page_decided : (content : List ℕ) → IsDecided (page content)
page_decided content = record {
  once = one_page content;
  not_both = λ t s p r. r.0 t p;
  one_status = λ s t p r. one_said PageRefused s t _ _ p.1 r.1;
}

-- a schema is known by its root and its rules
same_schema : (s t : Schema) → s.root ≡ t.root → s.elements ≡ t.elements → s ≡ t
same_schema s t p q = λ i. record {
  root = p i;
  elements = q i;
  readable = to_path_p (λ j. ∥ IsReadable (p j) (q j) ∥₁) (squash₁ (coe 0 1 (j. ∥ IsReadable (p j) (q j) ∥₁) s.readable) t.readable) i;
}

pub rules_decided : (content : List ℕ) → IsDecided (rules content)
rules_decided content = record {
  once = λ a b p r. let same = one_schema content a.root b.root a.elements b.elements p r in same_schema a b same.0 same.1;
  not_both = λ a s p r. not_both_schema content a.root a.elements r.0 p r.2 r.1;
  one_status = λ s t p r. one_said SchemaRefused s t _ _ p.3 r.3;
}

pub schema_decided : (disk : Disk) (named : Option (List ℕ)) → IsDecided (schema disk named)
schema_decided disk None = rules_decided _
schema_decided disk (Some name) = then (file disk name) rules (file_decided disk name) (λ content _. rules_decided content)

pub judged_decided : (tree : Forest) (by : Schema) → IsDecided (judged tree by)
judged_decided tree by = record {
  once = λ a b p r. p.1 ∙ sym r.1;
  not_both = λ w s p r. let none : breach by tree ≡ None = (valid_decided by tree).0 p.0 in let first : breach by tree ≡ Some r.0 = r.1 in cc;
  one_status = λ s t p r. one_said PageRefused s t _ _ p.2 r.2;
}

ok_same : (r : Result (List Format) FormatFault) (a b : List Format) → r ≡ Ok a → r ≡ Ok b → a ≡ b
ok_same r a b e f = cc

ok_or_err : (r : Result (List Format) FormatFault) (a : List Format) (fault : FormatFault) → r ≡ Ok a → r ≡ Err fault → ⊥
ok_or_err r a fault e f = cc

pub formats_in_decided : (content : List ℕ) → IsDecided (formats_in content)
formats_in_decided content = record {
  once = λ a b p r. ok_same (Ok a) a b refl (one_answer content (Ok a) (Ok b) p r);
  not_both = λ a s p r. ok_or_err (Ok a) a r.0 refl (one_answer content (Ok a) (Err r.0) p r.1);
  one_status = λ s t p r. one_said FormatsRefused s t _ _ p.3 r.3;
}

pub formats_file_decided : (disk : Disk) (name : List ℕ) → IsDecided (formats_file disk name)
formats_file_decided disk name = then (file disk name) formats_in (file_decided disk name) (λ content _. formats_in_decided content)

pub formats_decided : (disk : Disk) (form : Option (List ℕ)) → IsDecided (formats disk form)
formats_decided disk None = found_decided []
formats_decided disk (Some name) = formats_file_decided disk name

pub lit_decided : (given : List Format) (content : List ℕ) → IsDecided (lit given content)
lit_decided given content = record {
  once = λ a b p r. p.3 ∙ ap prints (lights_once given (lines content) p.0 r.0 p.2 r.2) ∙ sym r.3;
  not_both = λ w s p r. r.0 p.1;
  one_status = λ s t p r. one_said FormatsRefused s t _ _ p.1 r.1;
}

pub checked_decided : (how : Option Shown) (tree : Service) (by : Schema) (given : List Format) → IsTyped tree → IsDecided (checked how tree by given)
checked_decided how tree by given w = record {
  once = λ a b p r. p.0 ∙ sym r.0;
  not_both = λ both s p r. not_refused (typed_of tree w) by r.0 p.1 r.1 r.2;
  one_status = λ s t p r. one_said ServiceRefused s t _ _ p.5 r.5;
}

pub examined_decided : (how : Option Shown) (tree : Service) (by : Schema) → IsTyped tree → IsDecided (examined how tree by)
examined_decided how tree by w = record {
  once = λ a b p r. p.1 ∙ sym r.1;
  not_both = λ work s p r. not_refused (typed_of tree w) by r.0 p.0 r.1 r.2;
  one_status = λ s t p r. one_said ServiceRefused s t _ _ p.7 r.7;
}

pub examined_file_decided : (disk : Disk) (name : List ℕ) (judging : Judging) → IsDecided (examined_file disk name judging)
examined_file_decided disk name judging =
    let how = shown_file judging.source disk name in
    then (service_file how disk name) (examined_by how disk judging.schema) (service_file_decided how disk name)
    (λ tree g. then (schema disk judging.schema) (examined how tree) (schema_decided disk judging.schema)
    (λ by _. examined_decided how tree by (typed_given how g.1.0 g.0 tree g.1.2 g.2)))

pub accepted_file_decided : (disk : Disk) (name : List ℕ) (judging : Judging) (form : Option (List ℕ)) → IsDecided (accepted_file disk name judging form)
accepted_file_decided disk name judging form =
    let how = shown_file judging.source disk name in
    then (service_file how disk name) (checked_by how disk judging.schema form) (service_file_decided how disk name)
    (λ tree g. then (schema disk judging.schema) (checked_with how disk form tree) (schema_decided disk judging.schema)
    (λ by _. then (formats disk form) (checked how tree by) (formats_decided disk form)
    (λ given _. checked_decided how tree by given (typed_given how g.1.0 g.0 tree g.1.2 g.2))))

pub accepted_text_decided : (text : List ℕ) → IsDecided (accepted_text text)
accepted_text_decided text =
    then (read None text >>= typed None) (λ tree. built_in >>= (λ by. checked None tree by []))
    (then (read None text) (typed None) (read_decided None text) (λ tree _. typed_decided None tree))
    (λ tree g. then built_in (λ by. checked None tree by []) (rules_decided _)
    (λ by _. checked_decided None tree by [] (typed_given None text g.0 tree g.1 g.2)))

-- what a file that is loaded gives for a service is one
pub loads_decided : (t : Typed) (text bytes : List ℕ) → IsDecided (loads t.service text bytes)
loads_decided t text bytes = record {
  once = λ a b p r. p.2 ∙ ap (world_of t.service) (loaded_once t text bytes p.0 r.0 p.1 r.1) ∙ sym r.2;
  not_both = λ a s p r. not_loaded t text bytes p.0 r.0 p.1 r.1;
  one_status = λ s u p r. one_said LoadRefused s u _ _ p.3 r.3;
}

pub start_decided : (disk : Disk) (name : List ℕ) (load : Option (List ℕ)) (service : Service) → IsTyped service → IsDecided (start disk name load service)
start_decided disk name None service w = found_decided _
start_decided disk name (Some load) service w =
    let t = typed_of service w in
    then (file disk name) (λ text. file disk load >>= loads service text) (file_decided disk name)
    (λ text _. then (file disk load) (loads service text) (file_decided disk load)
    (λ bytes _. loads_decided t text bytes))

-- the service of a file that is accepted is well typed
pub file_typed : (disk : Disk) (name : List ℕ) (judging : Judging) (form : Option (List ℕ)) (ruled : Ruled) → (accepted_file disk name judging form).gives ruled
    → IsTyped ruled.service
file_typed disk name judging form ruled g =
    subst IsTyped (sym (ap (λ (r : Ruled). r.service) g.2.2.2.0))
    (typed_given (shown_file judging.source disk name) g.1.1.0 g.1.0 g.0 g.1.1.2 g.1.2)

-- a script is known by its name and its lines
same_script : (a b : Script) → a.name ≡ b.name → a.lines ≡ b.lines → a ≡ b
same_script a b e f = λ i. record { name = e i; lines = f i }

pub script_decided : (content : List ℕ) → IsDecided (script content)
script_decided content = record {
  once = λ a b p r. let same = scripts_are_one content a.name a.lines b.name b.lines p r in same_script a b same.0 same.1;
  not_both = λ a s p r. r.0 a.name a.lines p;
  one_status = λ s t p r. one_said ScriptRefused s t _ _ p.1 r.1;
}

pub work_decided : (disk : Disk) (c : Command) → IsDecided (work disk c)
work_decided disk (Check service judging true) = examined_file_decided disk service judging
work_decided disk (Check service judging false) =
    then (accepted_file disk service judging None) accepted (accepted_file_decided disk service judging None) (λ ruled _. found_decided _)
work_decided disk (Replay service requests judging form load most) =
    then (accepted_file disk service judging form) (replayed_from disk service load requests most) (accepted_file_decided disk service judging form)
    (λ ruled g. then (start disk service load ruled.service) (replayed disk requests most ruled)
    (start_decided disk service load ruled.service (file_typed disk service judging form ruled g))
    (λ from _. then (file disk requests) _ (file_decided disk requests) (λ stream _. found_decided _)))
work_decided disk (Serve service judging form load port most) =
    then (accepted_file disk service judging form) (served_from disk service load port most) (accepted_file_decided disk service judging form)
    (λ ruled g. then (start disk service load ruled.service) (at_port port most ruled)
    (start_decided disk service load ruled.service (file_typed disk service judging form ruled g)) (λ from _. found_decided _))
work_decided disk (Freeze service requests judging form load most) =
    then (accepted_file disk service judging form) (frozen_from disk service load requests most) (accepted_file_decided disk service judging form)
    (λ ruled g. then (start disk service load ruled.service) (frozen disk service requests most ruled)
    (start_decided disk service load ruled.service (file_typed disk service judging form ruled g))
    (λ from _. then (file disk service) _ (file_decided disk service)
    (λ text _. then (file disk requests) _ (file_decided disk requests) (λ stream _. found_decided _))))
work_decided disk (Resume service from judging form journal most) =
    then (accepted_file disk service judging form) (resumed disk service from journal most) (accepted_file_decided disk service judging form)
    (λ ruled _. then (file disk from) _ (file_decided disk from)
    (λ stream _. then (file disk service) _ (file_decided disk service) (λ text _. found_decided _)))
work_decided disk (Keep service judging form journal rotate port most) =
    then (accepted_file disk service judging form) (beside disk service journal (to_serve port most rotate))
    (accepted_file_decided disk service judging form)
    (λ ruled _. then (file disk service) _ (file_decided disk service) (λ text _. found_decided _))
work_decided disk (Valid name named) =
    then (page_file disk name) (ruled disk named) (then (file disk name) page (file_decided disk name) (λ content _. page_decided content))
    (λ tree _. then (schema disk named) (judged tree) (schema_decided disk named) (λ by _. judged_decided tree by))
work_decided disk (Make count workers) = then (accepted_text (made count)) (turned count) (accepted_text_decided (made count)) (λ ruled _. found_decided _)
work_decided disk (Light form texts) =
    then (formats_file disk form) (lit_file disk texts) (formats_file_decided disk form)
    (λ given _. then (file disk texts) (lit given) (file_decided disk texts) (λ content _. lit_decided given content))
work_decided disk (Preserve service judging form journal) =
    then (accepted_file disk service judging form) (beside disk service journal to_save) (accepted_file_decided disk service judging form)
    (λ ruled _. then (file disk service) _ (file_decided disk service) (λ text _. found_decided _))
work_decided disk (Visit service by judging form) =
    then (accepted_file disk service judging form) (visited disk by) (accepted_file_decided disk service judging form)
    (λ ruled _. then (file disk by) (followed ruled) (file_decided disk by)
    (λ content _. then (script content) _ (script_decided content) (λ s _. found_decided _)))

-- all that the program asks is decided
pub asked_decided : (words : List (List ℕ)) (disk : Disk) → IsDecided (asked words disk)
asked_decided words disk = then (command words) (work disk) (command_decided words) (λ c _. work_decided disk c)
