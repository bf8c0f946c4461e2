-- Each question has an answer: it gives a value, or something is said.
use Rattle.std.proofs.Common.{◌≡◌, ◌≢◌, ◌⊎◌, Bool, true, false, codes, ℕ, List, [], ◌∷◌, length, Option, None, Some, Result, Ok, Err, refl, sym, ap, ◌∙◌, inl, inr, arith, ◌++◌, subst}
use Rattle.std.specs.Str.{is_utf8}
use Rattle.std.specs.Str.Lines.{lines}
use Rattle.std.proofs.lemmas.Bool.{cases_lt}
use Rattle.std.proofs.lemmas.Str.{is_utf8-from_IsUtf8, IsUtf8-from_is_utf8}
use Rattle.bw_analyse.specs.declared.facts.Facts.{Facts}
use Rattle.bw_analyse.specs.Facts.{AreFacts}
use Rattle.bw_check.specs.Accepts.{Accepts}
use Rattle.bw_format.specs.FormatFile.{Gives}
use Rattle.bw_format.specs.declared.file.FormatFault.{FormatFault}
use Rattle.bw_format.specs.declared.file.FormatFault.TheVariants as fault
use Rattle.bw_format.specs.declared.format.Format.{Format}
use Rattle.bw_format.proofs.SomeAnswer.{some_answer}
use Rattle.bw_lang.specs.Document.Forest.{Forest}
use Rattle.bw_diagnose.specs.Known.{AreDrafts}
use Rattle.bw_diagnose.proofs.Read.{drafts_read}
use Rattle.bw_lang.specs.Service.Reads.{Reads}
use Rattle.bw_lang.specs.declared.declaration.Draft.{Draft}
use Rattle.bw_lang.specs.declared.service.Service.{Service}
use Rattle.bw_lights.proofs.SomeLights.{some_lights}
use Rattle.bw_load.specs.declared.loading.LoadFault.{LoadFault}
use Rattle.bw_load.specs.Loaded.{world_of}
use Rattle.bw_load.specs.Loads.{loaded}
use Rattle.bw_make.specs.Made.{made}
use Rattle.bw_out.specs.Told.{Disk}
use Rattle.bw_read.proofs.Decided.{page_or_none}
use Rattle.bw_saved.specs.declared.saved.Saved.{Saved}
use Rattle.bw_schema.specs.declared.schema.Schema.{Schema}
use Rattle.bw_schema.proofs.SchemaLaws.{read_or_refused as read_or_refused_schema}
use Rattle.bw_syntax.proofs.Answered.{always}
use Rattle.bw_types.specs.Faults.{faults_of, first_member}
use Rattle.bw_types.specs.declared.fault.TypeFault.{TypeFault}
use Rattle.bw_valid.specs.Breaches.{breach}
use Rattle.bw_valid.specs.declared.breach.Breach.{Breach}
use Rattle.bw_valid.proofs.BreachLaws.{valid_decided}
use Rattle.bw_visit.proofs.Decided.{script_or_none}
use Rattle.bw_questions.specs.Asked.{page, page_file, rules, schema, built_in, judged, ruled, formats_in, formats_file, formats, AreTexts, lit, lit_file}
use Rattle.bw_questions.specs.Asked.Work.{prints}
use Rattle.bw_questions.specs.Asked.{command, file, read, typed, service_file, service_text, checked, checked_with, checked_by, accepted_file, accepted_text}
use Rattle.bw_questions.specs.Asked.{accepted, examined, examined_by, examined_file, turned}
use Rattle.bigwig.specs.Asked.{start, replayed, replayed_from, resumed, at_port, served_from, frozen, frozen_from, beside, work, asked, followed, visited}
use Rattle.bw_questions.specs.Asked.{Ruled, usage_line}
use Rattle.bw_questions.specs.Asked.Task.{to_save, to_serve}
use Rattle.bw_questions.specs.Behind.{Shown, AreShown, shown_file, content_of, behind_syntax, behind_type, blamed_in, behind_fault}
use Rattle.bw_command.specs.Commands.{command_of}
use Rattle.bw_questions.specs.FaultLines.{check_text, page_names}
use Rattle.bigwig.specs.Laws.{AsksWhy, Checks, HasExplanations, HasVerdict}
use Rattle.bw_questions.specs.Lines.{syntax_line, type_line, no_file_line, no_page_line, breach_line, schema_line, format_line, no_texts_line}
use Rattle.bigwig.specs.Loading.{load_line, loads}
use Rattle.bw_questions.specs.Questions.{Said, Question, ◌>>=◌, found, line}
use Rattle.bigwig.proofs.OneLoad.{loaded_tells}
use Rattle.bw_command.specs.declared.command.Command.{Command}
use Rattle.bw_command.specs.declared.command.Command.TheVariants.{Check, Replay, Resume, Serve, Keep, Valid, Make, Light, Freeze, Preserve, Visit}
use Rattle.bw_command.specs.declared.command.Judging.{Judging}
use Rattle.bw_command.specs.declared.status.Status.TheVariants.{Usage, NoFile, ServiceRefused, SchemaRefused, PageRefused, FormatsRefused, LoadRefused, ScriptRefused}
use Rattle.bigwig.specs.Scripts.{no_script_line, script}

abbrev pub HasAnswer : {A : Type 0} → Question A → Type 0
HasAnswer {A = A} question = ((a : A) × question.gives a) ⊎ ((said : Said) × question.says said)

-- two questions, one after the other
then_some : {A B : Type 0} (q : Question A) (next : A → Question B) → HasAnswer q → ((a : A) → q.gives a → HasAnswer (next a)) → HasAnswer (q >>= next)
then_some q next d e = elim d as (λ _. HasAnswer (q >>= next)) [
  | inl x ↦ elim (e x.0 x.1) as (λ _. HasAnswer (q >>= next)) [
    | inl y ↦ inl (y.0, (x.0, x.1, y.1))
    | inr y ↦ inr (y.0, inr (x.0, x.1, y.1))
  ]
  | inr x ↦ inr (x.0, inl x.1)
]

found_some : {A : Type 0} (a : A) → HasAnswer (found a)
found_some a = inl (a, refl)

-- a value that an option has, or what is said where it has none
option_some : {A : Type 0} (o : Option A) (said : Said) → HasAnswer (record { gives = λ a. o ≡ Some a; says = λ s. (o ≡ None) × (s ≡ said) })
option_some None said = inr (said, (refl, refl))
option_some (Some a) said = inl (a, refl)

command_some : (words : List (List ℕ)) → HasAnswer (command words)
command_some words = option_some (command_of words) (record { status = Usage; text = usage_line })

file_some : (disk : Disk) (name : List ℕ) → HasAnswer (file disk name)
file_some disk name = option_some (disk name) (record { status = NoFile; text = line (no_file_line name) })

read_some : (how : Option Shown) (content : List ℕ) → HasAnswer (read how content)
read_some how content = elim (always content) as (λ _. HasAnswer (read how content)) [
  | inl x ↦ inl x
  | inr x ↦ inr (record { status = ServiceRefused; text = line (syntax_line x.0) ++ behind_syntax how x.0 }, (x.0, x.2, x.1, refl))
]

-- a list of faults is empty or has a first one
none_or_first : (l : List TypeFault) → (l ≡ []) ⊎ ((fault : TypeFault) × (first_member l ≡ Some fault))
none_or_first [] = inl refl
none_or_first (f ∷ l) = inr (f, refl)

-- what is shown is written for some declarations, since it reads as a service
abbrev HasDrafts : Option Shown → Type 0
HasDrafts how = (drafts : List Draft) × AreShown how drafts

file_drafts : (source : Bool) (disk : Disk) (name content : List ℕ) (tree : Service) → disk name ≡ Some content → Reads content tree
    → HasDrafts (shown_file source disk name)
file_drafts true disk name content tree e r =
    (r.drafts, subst (λ t. AreDrafts t r.drafts) (sym (ap content_of e)) (drafts_read content tree r))
file_drafts false disk name content tree e r = ([], tt)

typed_some : (how : Option Shown) (tree : Service) → HasDrafts how → HasAnswer (typed how tree)
typed_some how tree has = elim (none_or_first (faults_of tree)) as (λ _. HasAnswer (typed how tree)) [
  | inl x ↦ inl (tree, (refl, x))
  | inr x ↦ inr (
    record { status = ServiceRefused; text = line (type_line x.0) ++ behind_type how has.0 (blamed_in tree) x.0 },
    (x.0, x.1, has.0, has.1, refl),
  )
]

service_text_some : (text : List ℕ) → HasAnswer (service_text None text)
service_text_some text = then_some (read None text) (typed None) (read_some None text) (λ tree _. typed_some None tree ([], tt))

service_file_some : (source : Bool) (disk : Disk) (name : List ℕ) → HasAnswer (service_file (shown_file source disk name) disk name)
service_file_some source disk name =
    let how = shown_file source disk name in
    then_some (file disk name >>= read how) (typed how)
    (then_some (file disk name) (read how) (file_some disk name) (λ content _. read_some how content))
    (λ tree g. typed_some how tree (file_drafts source disk name g.0 tree g.1 g.2))

page_some : (content : List ℕ) → HasAnswer (page content)
page_some content = elim (page_or_none content) as (λ _. HasAnswer (page content)) [
  | inl x ↦ inl x
  | inr x ↦ inr (record { status = PageRefused; text = line no_page_line }, (x, refl))
]

page_file_some : (disk : Disk) (name : List ℕ) → HasAnswer (page_file disk name)
page_file_some disk name = then_some (file disk name) page (file_some disk name) (λ content _. page_some content)

rules_some : (content : List ℕ) → HasAnswer (rules content)
rules_some content = elim (read_or_refused_schema content) as (λ _. HasAnswer (rules content)) [
  | inl x ↦ inl (record { root = x.0; elements = x.1; readable = ∣ (content, x.2) ∣₁ }, x.2)
  | inr x ↦ inr (record { status = SchemaRefused; text = line (schema_line x.0) }, (x.0, x.2, x.1, refl))
]

schema_some : (disk : Disk) (named : Option (List ℕ)) → HasAnswer (schema disk named)
schema_some disk None = rules_some _
schema_some disk (Some name) = then_some (file disk name) rules (file_some disk name) (λ content _. rules_some content)

judged_some : (tree : Forest) (by : Schema) → HasAnswer (judged tree by)
judged_some tree by = by_breach (breach by tree) refl
  where
    by_breach : (b : Option Breach) → breach by tree ≡ b → HasAnswer (judged tree by)
    by_breach None e = inl (prints (line (codes "valid")), ((valid_decided by tree).1 e, refl))
    by_breach (Some first) e = inr (record { status = PageRefused; text = line (breach_line first) }, (first, e, refl))

formats_in_some : (content : List ℕ) → HasAnswer (formats_in content)
formats_in_some content = let x = some_answer content in by_result x.0 x.1 x.2
  where
    by_result : (r : Result (List Format) FormatFault) → Gives content r → r ≢ Err fault.Memory → HasAnswer (formats_in content)
    by_result (Ok given) g some = inl (given, g)
    by_result (Err e) g some =
        inr (record { status = FormatsRefused; text = line (format_line e) }, (e, g, (λ same. some (ap Err same)), refl))

formats_file_some : (disk : Disk) (name : List ℕ) → HasAnswer (formats_file disk name)
formats_file_some disk name = then_some (file disk name) formats_in (file_some disk name) (λ content _. formats_in_some content)

formats_some : (disk : Disk) (form : Option (List ℕ)) → HasAnswer (formats disk form)
formats_some disk None = found_some []
formats_some disk (Some name) = formats_file_some disk name

are_texts_or_not : (content : List ℕ) → AreTexts content ⊎ (AreTexts content → ⊥)
are_texts_or_not content = by_utf8 (is_utf8 content) refl
  where
    by_utf8 : (b : Bool) → is_utf8 content ≡ b → AreTexts content ⊎ (AreTexts content → ⊥)
    by_utf8 false e = inr (λ t. (let k : true ≡ false = sym (is_utf8-from_IsUtf8 content t.utf8) ∙ e in cc))
    by_utf8 true e = elim (cases_lt 1048576 (length content)) [
      | inl gt ↦ inr (λ t. absurd (omega (arith, gt, t.short)))
      | inr le ↦ inl (record { utf8 = IsUtf8-from_is_utf8 content e; short = le })
    ]

-- formats of a file give lights
lit_some : (bytes : List ℕ) (given : List Format) → Gives bytes (Ok given) → (content : List ℕ) → HasAnswer (lit given content)
lit_some bytes given g content = elim (are_texts_or_not content) as (λ _. HasAnswer (lit given content)) [
  | inl x ↦ (let l = some_lights bytes given g (lines content) in inl (prints l.0, (l.0, x, l.1, refl)))
  | inr x ↦ inr (record { status = FormatsRefused; text = line no_texts_line }, (x, refl))
]

-- the check's own question has the check's verdict
checked_some : (how : Option Shown) (tree : Service) (by : Schema) (given : List Format) → HasDrafts how → HasVerdict tree by
    → HasAnswer (checked how tree by given)
checked_some how tree by given has (inl x) = inl (record { service = tree; schema = by; formats = given }, (refl, x))
checked_some how tree by given has (inr x) =
    inr (record { status = ServiceRefused; text = check_text how (behind_fault how has.0) (page_names tree) x.0 }, (x.0, x.1, x.2, has.0, has.1, refl))

-- the same where its reasons are explained
examined_some : (how : Option Shown) (tree : Service) (by : Schema) → HasDrafts how → HasVerdict tree by → HasExplanations tree by
    → HasAnswer (examined how tree by)
examined_some how tree by has (inl x) why = inl (prints (line (codes "accepted")), (x, refl))
examined_some how tree by has (inr x) why =
    let told = why x.0 x.1 x.2 in
    inr (
      record { status = ServiceRefused; text = check_text how (behind_fault how has.0) (page_names tree) x.0 ++ told.0 },
      (x.0, x.1, x.2, has.0, has.1, told.0, told.1, refl),
    )

examined_file_some : (disk : Disk) (name : List ℕ) (judging : Judging)
    → ((tree : Service) (by : Schema) → (service_file None disk name).gives tree → (schema disk judging.schema).gives by → HasVerdict tree by)
    → ((tree : Service) (by : Schema) → (service_file None disk name).gives tree → (schema disk judging.schema).gives by → HasExplanations tree by)
    → HasAnswer (examined_file disk name judging)
examined_file_some disk name judging verdicts why =
    let how = shown_file judging.source disk name in
    then_some (service_file how disk name) (examined_by how disk judging.schema) (service_file_some judging.source disk name)
    (λ tree g. then_some (schema disk judging.schema) (examined how tree) (schema_some disk judging.schema)
    (λ by k. examined_some how tree by (file_drafts judging.source disk name g.1.0 g.0 g.1.1 g.1.2) (verdicts tree by g k) (why tree by g k)))

accepted_file_some : (disk : Disk) (name : List ℕ) (judging : Judging) (form : Option (List ℕ))
    → ((tree : Service) (by : Schema) → (service_file None disk name).gives tree → (schema disk judging.schema).gives by → HasVerdict tree by)
    → HasAnswer (accepted_file disk name judging form)
accepted_file_some disk name judging form verdicts =
    let how = shown_file judging.source disk name in
    then_some (service_file how disk name) (checked_by how disk judging.schema form) (service_file_some judging.source disk name)
    (λ tree g. then_some (schema disk judging.schema) (checked_with how disk form tree) (schema_some disk judging.schema)
    (λ by k. then_some (formats disk form) (checked how tree by) (formats_some disk form)
    (λ given _. checked_some how tree by given (file_drafts judging.source disk name g.1.0 g.0 g.1.1 g.1.2) (verdicts tree by g k))))

accepted_text_some : (text : List ℕ)
    → ((tree : Service) (by : Schema) → (service_text None text).gives tree → built_in.gives by → HasVerdict tree by) → HasAnswer (accepted_text text)
accepted_text_some text verdicts =
    then_some (service_text None text) (λ tree. built_in >>= (λ by. checked None tree by [])) (service_text_some text)
    (λ tree g. then_some built_in (λ by. checked None tree by []) (rules_some _) (λ by k. checked_some None tree by [] ([], tt) (verdicts tree by g k)))

-- a file of saved sessions gives a world, or it is refused
loads_some : (service : Service) (facts : Facts) → AreFacts service facts → (text bytes : List ℕ) → HasAnswer (loads service text bytes)
loads_some service facts are text bytes = by_result (loaded service facts text bytes) refl
  where
    by_result : (r : Result Saved LoadFault) → loaded service facts text bytes ≡ r → HasAnswer (loads service text bytes)
    by_result (Ok s) e = inl (world_of service s, (s, (facts, are, e), refl))
    by_result (Err f) e = inr (
      record { status = LoadRefused; text = line (load_line f) },
      (f, (facts, are, e), (λ same. loaded_tells service facts text bytes (e ∙ ap Err same)), refl),
    )

start_some : (disk : Disk) (name : List ℕ) (load : Option (List ℕ)) (service : Service) (facts : Facts) → AreFacts service facts
    → HasAnswer (start disk name load service)
start_some disk name None service facts are = found_some _
start_some disk name (Some load) service facts are =
    then_some (file disk name) (λ text. file disk load >>= loads service text) (file_some disk name)
    (λ text _. then_some (file disk load) (loads service text) (file_some disk load) (λ bytes _. loads_some service facts are text bytes))

-- a service of a file that is accepted has facts
file_facts : (disk : Disk) (name : List ℕ) (judging : Judging) (form : Option (List ℕ)) (ruled : Ruled) → (accepted_file disk name judging form).gives ruled
    → (facts : Facts) × AreFacts ruled.service facts
file_facts disk name judging form ruled g =
    let a = subst (λ (r : Ruled). Accepts r.service r.schema) (sym g.2.2.2.0) g.2.2.2.1 in (a.0, a.1.facts_are)

script_some : (content : List ℕ) → HasAnswer (script content)
script_some content = elim (script_or_none content) as (λ _. HasAnswer (script content)) [
  | inl x ↦ inl (record { name = x.0; lines = x.1 }, x.2)
  | inr x ↦ inr (record { status = ScriptRefused; text = line no_script_line }, (x, refl))
]

work_some : (disk : Disk) (c : Command) → ((tree : Service) (by : Schema) → Checks disk c tree by → HasVerdict tree by)
    → ((tree : Service) (by : Schema) → Checks disk c tree by → AsksWhy c → HasExplanations tree by) → HasAnswer (work disk c)
work_some disk (Check service judging true) verdicts why =
    examined_file_some disk service judging (λ tree by g k. verdicts tree by (g, k)) (λ tree by g k. why tree by (g, k) tt)
work_some disk (Check service judging false) verdicts why =
    then_some (accepted_file disk service judging None) accepted
    (accepted_file_some disk service judging None (λ tree by g k. verdicts tree by (g, k))) (λ ruled _. found_some _)
work_some disk (Replay service requests judging form load most) verdicts why =
    then_some (accepted_file disk service judging form) (replayed_from disk service load requests most)
    (accepted_file_some disk service judging form (λ tree by g k. verdicts tree by (g, k)))
    (λ ruled g. let f = file_facts disk service judging form ruled g in
    then_some (start disk service load ruled.service) (replayed disk requests most ruled) (start_some disk service load ruled.service f.0 f.1)
    (λ from _. then_some (file disk requests) _ (file_some disk requests) (λ stream _. found_some _)))
work_some disk (Serve service judging form load port most) verdicts why =
    then_some (accepted_file disk service judging form) (served_from disk service load port most)
    (accepted_file_some disk service judging form (λ tree by g k. verdicts tree by (g, k)))
    (λ ruled g. let f = file_facts disk service judging form ruled g in
    then_some (start disk service load ruled.service) (at_port port most ruled) (start_some disk service load ruled.service f.0 f.1)
    (λ from _. found_some _))
work_some disk (Freeze service requests judging form load most) verdicts why =
    then_some (accepted_file disk service judging form) (frozen_from disk service load requests most)
    (accepted_file_some disk service judging form (λ tree by g k. verdicts tree by (g, k)))
    (λ ruled g. let f = file_facts disk service judging form ruled g in
    then_some (start disk service load ruled.service) (frozen disk service requests most ruled) (start_some disk service load ruled.service f.0 f.1)
    (λ from _. then_some (file disk service) _ (file_some disk service)
    (λ text _. then_some (file disk requests) _ (file_some disk requests) (λ stream _. found_some _))))
work_some disk (Resume service from judging form journal most) verdicts why =
    then_some (accepted_file disk service judging form) (resumed disk service from journal most)
    (accepted_file_some disk service judging form (λ tree by g k. verdicts tree by (g, k)))
    (λ ruled _. then_some (file disk from) _ (file_some disk from)
    (λ stream _. then_some (file disk service) _ (file_some disk service) (λ text _. found_some _)))
work_some disk (Keep service judging form journal rotate port most) verdicts why =
    then_some (accepted_file disk service judging form) (beside disk service journal (to_serve port most rotate))
    (accepted_file_some disk service judging form (λ tree by g k. verdicts tree by (g, k)))
    (λ ruled _. then_some (file disk service) _ (file_some disk service) (λ text _. found_some _))
work_some disk (Valid name named) verdicts why =
    then_some (page_file disk name) (ruled disk named) (page_file_some disk name)
    (λ tree _. then_some (schema disk named) (judged tree) (schema_some disk named) (λ by _. judged_some tree by))
work_some disk (Make count workers) verdicts why =
    then_some (accepted_text (made count)) (turned count) (accepted_text_some (made count) (λ tree by g k. verdicts tree by (g, k)))
    (λ ruled _. found_some _)
work_some disk (Light form texts) verdicts why =
    then_some (formats_file disk form) (lit_file disk texts) (formats_file_some disk form)
    (λ given g. then_some (file disk texts) (lit given) (file_some disk texts) (λ content _. lit_some g.0 given g.2 content))
work_some disk (Preserve service judging form journal) verdicts why =
    then_some (accepted_file disk service judging form) (beside disk service journal to_save)
    (accepted_file_some disk service judging form (λ tree by g k. verdicts tree by (g, k)))
    (λ ruled _. then_some (file disk service) _ (file_some disk service) (λ text _. found_some _))
work_some disk (Visit service by judging form) verdicts why =
    then_some (accepted_file disk service judging form) (visited disk by)
    (accepted_file_some disk service judging form (λ tree by g k. verdicts tree by (g, k)))
    (λ ruled _. then_some (file disk by) (followed ruled) (file_some disk by)
    (λ content _. then_some (script content) _ (script_some content) (λ s _. found_some _)))

-- all that the program asks has an answer, where the check has a verdict on the service that the words lead to, and explanations
pub asked_some : (words : List (List ℕ)) (disk : Disk)
    → ((c : Command) (tree : Service) (by : Schema) → command_of words ≡ Some c → Checks disk c tree by → HasVerdict tree by)
    → ((c : Command) (tree : Service) (by : Schema) → command_of words ≡ Some c → Checks disk c tree by → AsksWhy c → HasExplanations tree by)
    → HasAnswer (asked words disk)
asked_some words disk verdicts why =
    then_some (command words) (work disk) (command_some words)
    (λ c e. work_some disk c (λ tree by leads. verdicts c tree by e leads) (λ tree by leads asks. why c tree by e leads asks))
