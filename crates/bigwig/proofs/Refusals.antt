-- What is said where a question goes wrong refuses something: it is neither done nor a fault.
use Rattle.std.proofs.Common.{◌≡◌, ◌∙◌, Bool, true, false, ℕ, List, [], Option, None, Some, refl, ap, inl, inr}
use Rattle.bw_format.specs.declared.format.Format.{Format}
use Rattle.bw_lang.specs.declared.service.Service.{Service}
use Rattle.bw_make.specs.Made.{made}
use Rattle.bw_out.specs.Told.{Disk}
use Rattle.bw_schema.specs.declared.schema.Schema.{Schema}
use Rattle.bw_questions.specs.Asked.{command, file, read, typed, service_file, checked, checked_with, checked_by, accepted_file, accepted_text, accepted}
use Rattle.bigwig.specs.Asked.{replayed, replayed_from, followed, visited}
use Rattle.bw_questions.specs.Asked.{turned, page, page_file, rules, schema, built_in, formats_in, formats_file, formats, judged, ruled}
use Rattle.bigwig.specs.Asked.{start, at_port, served_from, frozen, frozen_from, beside}
use Rattle.bw_questions.specs.Asked.{Ruled, Task, examined, examined_by, examined_file, lit, lit_file}
use Rattle.bigwig.specs.Asked.{resumed, work, asked}
use Rattle.bw_questions.specs.Asked.Task.{to_answer, to_save, to_serve}
use Rattle.bw_questions.specs.Asked.Work.{replays, keeps, freezes, visits}
use Rattle.bw_questions.specs.Behind.{content_of}
use Rattle.bw_questions.specs.Behind.{Shown, shown_file}
use Rattle.bigwig.specs.Loading.{loads}
use Rattle.bw_questions.specs.Questions.{Said, Question, ◌>>=◌, found}
use Rattle.bigwig.specs.Scripts.{script}
use Rattle.bw_command.specs.declared.command.Command.{Command}
use Rattle.bw_command.specs.declared.command.Command.TheVariants.{Check, Replay, Resume, Serve, Keep, Valid, Make, Light, Freeze, Preserve, Visit}
use Rattle.bw_command.specs.declared.command.Judging.{Judging}
use Rattle.bw_command.specs.declared.status.Status.{Status}
use Rattle.bw_command.specs.declared.status.Status.TheVariants.{Usage, NoFile, ServiceRefused, SchemaRefused, PageRefused, FormatsRefused, LoadRefused, ScriptRefused}

abbrev is_refusal : Status → Bool
is_refusal Usage = true
is_refusal NoFile = true
is_refusal ServiceRefused = true
is_refusal SchemaRefused = true
is_refusal PageRefused = true
is_refusal FormatsRefused = true
is_refusal LoadRefused = true
is_refusal ScriptRefused = true
is_refusal status = false

abbrev Refuses : {A : Type 0} → Question A → Type 0
Refuses question = (s : Said) → question.says s → is_refusal s.status ≡ true

says_so : (s t : Said) → s ≡ t → is_refusal t.status ≡ true → is_refusal s.status ≡ true
says_so s t e h = ap (λ (x : Said). is_refusal x.status) e ∙ h

then_refuses : {A B : Type 0} (q : Question A) (next : A → Question B) → Refuses q → ((a : A) → Refuses (next a)) → Refuses (q >>= next)
then_refuses q next first others s (inl x) = first s x
then_refuses q next first others s (inr x) = others x.0 s x.2

file_refuses : (disk : Disk) (name : List ℕ) → Refuses (file disk name)
file_refuses disk name s x = says_so s _ x.1 refl

read_refuses : (how : Option Shown) (content : List ℕ) → Refuses (read how content)
read_refuses how content s x = says_so s _ x.3 refl

typed_refuses : (how : Option Shown) (tree : Service) → Refuses (typed how tree)
typed_refuses how tree s x = says_so s _ x.4 refl

service_file_refuses : (how : Option Shown) (disk : Disk) (name : List ℕ) → Refuses (service_file how disk name)
service_file_refuses how disk name =
    then_refuses (file disk name >>= read how) (typed how)
    (then_refuses (file disk name) (read how) (file_refuses disk name) (read_refuses how)) (typed_refuses how)

rules_refuse : (content : List ℕ) → Refuses (rules content)
rules_refuse content s x = says_so s _ x.3 refl

schema_refuses : (disk : Disk) (named : Option (List ℕ)) → Refuses (schema disk named)
schema_refuses disk None = rules_refuse _
schema_refuses disk (Some name) = then_refuses (file disk name) rules (file_refuses disk name) rules_refuse

formats_file_refuses : (disk : Disk) (name : List ℕ) → Refuses (formats_file disk name)
formats_file_refuses disk name = then_refuses (file disk name) formats_in (file_refuses disk name) (λ content s x. says_so s _ x.3 refl)

formats_refuse : (disk : Disk) (form : Option (List ℕ)) → Refuses (formats disk form)
formats_refuse disk None s x = absurd x
formats_refuse disk (Some name) s x = formats_file_refuses disk name s x

checked_refuses : (how : Option Shown) (tree : Service) (by : Schema) (given : List Format) → Refuses (checked how tree by given)
checked_refuses how tree by given s x = says_so s _ x.5 refl

examined_refuses : (how : Option Shown) (tree : Service) (by : Schema) → Refuses (examined how tree by)
examined_refuses how tree by s x = says_so s _ x.7 refl

examined_file_refuses : (disk : Disk) (name : List ℕ) (judging : Judging) → Refuses (examined_file disk name judging)
examined_file_refuses disk name judging =
    let how = shown_file judging.source disk name in
    then_refuses (service_file how disk name) (examined_by how disk judging.schema) (service_file_refuses how disk name)
    (λ tree. then_refuses (schema disk judging.schema) (examined how tree) (schema_refuses disk judging.schema) (examined_refuses how tree))

accepted_file_refuses : (disk : Disk) (name : List ℕ) (judging : Judging) (form : Option (List ℕ)) → Refuses (accepted_file disk name judging form)
accepted_file_refuses disk name judging form =
    let how = shown_file judging.source disk name in
    then_refuses (service_file how disk name) (checked_by how disk judging.schema form) (service_file_refuses how disk name)
    (λ tree. then_refuses (schema disk judging.schema) (checked_with how disk form tree) (schema_refuses disk judging.schema)
    (λ by. then_refuses (formats disk form) (checked how tree by) (formats_refuse disk form) (checked_refuses how tree by)))

accepted_text_refuses : (text : List ℕ) → Refuses (accepted_text text)
accepted_text_refuses text =
    then_refuses (read None text >>= typed None) (λ tree. built_in >>= (λ by. checked None tree by []))
    (then_refuses (read None text) (typed None) (read_refuses None text) (typed_refuses None))
    (λ tree. then_refuses built_in (λ by. checked None tree by []) (rules_refuse _) (λ by. checked_refuses None tree by []))

beside_refuses : (disk : Disk) (name journal : List ℕ) (task : Task) (ruled : Ruled) → Refuses (beside disk name journal task ruled)
beside_refuses disk name journal task ruled =
    then_refuses (file disk name) (λ text. found (keeps ruled text (content_of (disk journal)) task)) (file_refuses disk name) (λ text s x. absurd x)

start_refuses : (disk : Disk) (name : List ℕ) (load : Option (List ℕ)) (service : Service) → Refuses (start disk name load service)
start_refuses disk name None service s x = absurd x
start_refuses disk name (Some load) service s x =
    then_refuses (file disk name) (λ text. file disk load >>= loads service text) (file_refuses disk name)
    (λ text. then_refuses (file disk load) (loads service text) (file_refuses disk load) (λ bytes s x. says_so s _ x.3 refl)) s x

work_refuses : (disk : Disk) (c : Command) → Refuses (work disk c)
work_refuses disk (Check service judging true) = examined_file_refuses disk service judging
work_refuses disk (Check service judging false) =
    then_refuses (accepted_file disk service judging None) accepted (accepted_file_refuses disk service judging None) (λ ruled s x. absurd x)
work_refuses disk (Replay service requests judging form load most) =
    then_refuses (accepted_file disk service judging form) (replayed_from disk service load requests most)
    (accepted_file_refuses disk service judging form)
    (λ ruled. then_refuses (start disk service load ruled.service) (replayed disk requests most ruled) (start_refuses disk service load ruled.service)
    (λ from. then_refuses (file disk requests) (λ stream. found (replays ruled from stream most)) (file_refuses disk requests) (λ stream s x. absurd x)))
work_refuses disk (Serve service judging form load port most) =
    then_refuses (accepted_file disk service judging form) (served_from disk service load port most) (accepted_file_refuses disk service judging form)
    (λ ruled. then_refuses (start disk service load ruled.service) (at_port port most ruled) (start_refuses disk service load ruled.service)
    (λ from s x. absurd x))
work_refuses disk (Freeze service requests judging form load most) =
    then_refuses (accepted_file disk service judging form) (frozen_from disk service load requests most)
    (accepted_file_refuses disk service judging form)
    (λ ruled. then_refuses (start disk service load ruled.service) (frozen disk service requests most ruled) (start_refuses disk service load ruled.service)
    (λ from. then_refuses (file disk service) (λ text. file disk requests >>= (λ stream. found (freezes ruled from text stream most)))
    (file_refuses disk service)
    (λ text. then_refuses (file disk requests) (λ stream. found (freezes ruled from text stream most)) (file_refuses disk requests)
    (λ stream s x. absurd x))))
work_refuses disk (Resume service from judging form journal most) =
    then_refuses (accepted_file disk service judging form) (resumed disk service from journal most) (accepted_file_refuses disk service judging form)
    (λ ruled. then_refuses (file disk from) (λ stream. beside disk service journal (to_answer stream most) ruled) (file_refuses disk from)
    (λ stream. beside_refuses disk service journal (to_answer stream most) ruled))
work_refuses disk (Keep service judging form journal rotate port most) =
    then_refuses (accepted_file disk service judging form) (beside disk service journal (to_serve port most rotate))
    (accepted_file_refuses disk service judging form) (beside_refuses disk service journal (to_serve port most rotate))
work_refuses disk (Valid name named) =
    then_refuses (page_file disk name) (ruled disk named) (then_refuses (file disk name) page (file_refuses disk name) (λ content s x. says_so s _ x.1 refl))
    (λ tree. then_refuses (schema disk named) (judged tree) (schema_refuses disk named) (λ by s x. says_so s _ x.2 refl))
work_refuses disk (Make count workers) =
    then_refuses (accepted_text (made count)) (turned count) (accepted_text_refuses (made count)) (λ ruled s x. absurd x)
work_refuses disk (Light form texts) =
    then_refuses (formats_file disk form) (lit_file disk texts) (formats_file_refuses disk form)
    (λ given. then_refuses (file disk texts) (lit given) (file_refuses disk texts) (λ content s x. says_so s _ x.1 refl))
work_refuses disk (Preserve service judging form journal) =
    then_refuses (accepted_file disk service judging form) (beside disk service journal to_save) (accepted_file_refuses disk service judging form)
    (beside_refuses disk service journal to_save)
work_refuses disk (Visit service by judging form) =
    then_refuses (accepted_file disk service judging form) (visited disk by) (accepted_file_refuses disk service judging form)
    (λ ruled. then_refuses (file disk by) (followed ruled) (file_refuses disk by)
    (λ content. then_refuses (script content) (λ s. found (visits ruled s)) (λ s x. says_so s _ x.1 refl) (λ k s x. absurd x)))

asked_refuses : (words : List (List ℕ)) (disk : Disk) → Refuses (asked words disk)
asked_refuses words disk = then_refuses (command words) (work disk) (λ s x. says_so s _ x.1 refl) (work_refuses disk)

not_both : (b : Bool) → b ≡ false → b ≡ true → ⊥
not_both b is isnt = cc

-- another status is never said
pub never_said : (words : List (List ℕ)) (disk : Disk) (s : Said) (status : Status) → is_refusal status ≡ false → (asked words disk).says s
    → status ≡ s.status → ⊥
never_said words disk s status other x e = not_both (is_refusal status) other (ap is_refusal e ∙ asked_refuses words disk s x)
