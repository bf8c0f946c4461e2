-- Pages and schemas that are loaded, and why others aren't.
use Rattle.std.proofs.Common.{Vec, Global, ◌≡◌, ◌≢◌, ◌<◌, ◌≤◌, ℕ, List, sym, subst, refl, None, Some, Result, Ok, Err, IfOk, IfErr, IfSome, take, length, arith}
use Rattle.std.specs.declared.option.Option.{Option}
use Rattle.bw_lang.specs.Document.Forest.{Forest}
use Rattle.bw_lang.specs.declared.text.Memory.{Memory}
use Rattle.bw_out.specs.Told.{Disk}
use Rattle.bw_read.specs.Pages.{IsPage}
use Rattle.bw_schema.specs.Reads.{Reads, IsSchemaRefused}
use Rattle.bw_schema.specs.declared.fault.SchemaFault.{SchemaFault}
use Rattle.bw_schema.specs.declared.fault.SchemaFault.TheVariants as fault
use Rattle.bw_schema.specs.declared.rules.Rule.{Rule}
use Rattle.bw_schema.specs.declared.schema.Schema.{Schema}
use Rattle.bw_schema.proofs.SchemaLaws.{one_reason}
use Rattle.bw_valid.specs.Breaches.{breach}
use Rattle.bw_valid.specs.declared.breach.Breach.{Breach}
use Rattle.bw_questions.specs.Asked.{page, rules, schema, built_in, judged}
use Rattle.bw_questions.specs.Lines.{no_page_line, breach_line, schema_line}
use Rattle.bw_questions.specs.Questions.{IsStop, IsAnswer}
use Rattle.bw_questions.specs.Reports.{SaysLine}
use Rattle.bw_command.specs.declared.status.Refusal.TheVariants as refusals
use Rattle.bw_questions.specs.declared.stop.Stop.{Stop}
use Rattle.bw_questions.specs.declared.stop.Stop.TheVariants as stop
use Rattle.bw_questions.proofs.Files.{take_all, take_short, refused_all}
use Rattle.bw_questions.proofs.Stops.{line_stops}

-- ---- pages

page_so : (n : ℕ) (content : List ℕ) (tree : Forest) → n ≡ 4195329 → IsPage (take n content) tree → IsPage content tree
page_so n content tree h p = let short : length (take n content) < n = omega (arith, p.short) in subst (λ b. IsPage b tree) (take_short n content short) p

none_so : (n : ℕ) (content : List ℕ) (tree : Forest) → n ≡ 4195329 → IsPage content tree → IsPage (take n content) tree
none_so n content tree h p = let short : length content ≤ n = omega (arith, p.short) in subst (λ b. IsPage b tree) (sym (take_all n content short)) p

pub page_all : {B : Type 0} (seen : B → Forest) (n : ℕ) (content : List ℕ) (r : Result B Stop) → n ≡ 4195329 → IsAnswer seen (page (take n content)) r
    → IsAnswer seen (page content) r
page_all seen n content (Ok x) h a = page_so n content (seen x) h a
page_all seen n content (Err (stop.Says refusal text)) h a = (λ tree p. a.0 tree (none_so n content tree h p), a.1)
page_all seen n content (Err stop.ReadFault) h a = tt
page_all seen n content (Err stop.Memory) h a = tt

pub no_page : (content : List ℕ) (line : Result (Vec ℕ Global) Memory) (s : Stop) → IfOk line (λ l. SaysLine refusals.Page l.items s)
    → IfErr line (λ e. s ≡ stop.Memory)
    → IfOk line (λ l. l.items ≡ no_page_line) → ((tree : Forest) → IsPage content tree → ⊥) → IsStop (page content) s
no_page content (Ok l) s is none tells absent = line_stops (page content) refusals.Page no_page_line (Ok l) s is none tells (absent, refl)
no_page content (Err e) s is none tells absent = line_stops (page content) refusals.Page no_page_line (Err e) s is none tt tt

-- ---- schemas

rules_so : (n : ℕ) (content root : List ℕ) (elements : List Rule) → n ≡ 1048577 → Reads (take n content) root elements → Reads content root elements
rules_so n content root elements h r = let short : length (take n content) < n = omega (arith, r.short) in
    subst (λ b. Reads b root elements) (take_short n content short) r

too_long : (n : ℕ) (bytes : List ℕ) → n ≡ 1048577 → n ≤ length bytes → IsSchemaRefused bytes fault.TooLong
too_long n bytes h le = omega arith

refused_front : (n : ℕ) (content : List ℕ) (e : SchemaFault) → n ≡ 1048577 → IsSchemaRefused (take n content) e → e ≢ fault.Memory → IsSchemaRefused content e
refused_front n content e h r some =
    refused_all IsSchemaRefused fault.TooLong e n content (λ bytes le. too_long n bytes h le)
    (λ long r. one_reason (take n content) fault.TooLong e (λ x. cc) some long r) r

pub rules_all : {B : Type 0} (seen : B → Schema) (n : ℕ) (content : List ℕ) (r : Result B Stop) → n ≡ 1048577 → IsAnswer seen (rules (take n content)) r
    → IsAnswer seen (rules content) r
rules_all seen n content (Ok x) h a = rules_so n content (seen x).root (seen x).elements h a
rules_all seen n content (Err (stop.Says refusal text)) h a = (a.0, refused_front n content a.0 h a.1 a.2, a.2, a.3)
rules_all seen n content (Err stop.ReadFault) h a = tt
rules_all seen n content (Err stop.Memory) h a = tt

pub unread : (content : List ℕ) (e : SchemaFault) (line : Result (Vec ℕ Global) Memory) (s : Stop) → IfOk line (λ l. SaysLine refusals.Schema l.items s)
    → IfErr line (λ e. s ≡ stop.Memory)
    → IfOk line (λ l. l.items ≡ schema_line e) → IfOk line (λ l. e ≢ fault.Memory) → IsSchemaRefused content e → IsStop (rules content) s
unread content e (Ok l) s is none tells some r = line_stops (rules content) refusals.Schema (schema_line e) (Ok l) s is none tells (e, r, some, refl)
unread content e (Err x) s is none tells some r = line_stops (rules content) refusals.Schema (schema_line e) (Err x) s is none tt tt

-- a schema is named
pub named_schema : {B : Type 0} (seen : B → Schema) (told : Option Disk) (named : Option (List ℕ)) (name text : List ℕ) (r : Result B Stop)
    → named ≡ Some name → text ≡ name
    → IfSome told (λ disk. IsAnswer seen (schema disk (Some text)) r) → IfSome told (λ disk. IsAnswer seen (schema disk named) r)
named_schema seen told named name text r e f h =
    subst (λ o. IfSome told (λ disk. IsAnswer seen (schema disk o) r)) (sym e) (subst (λ n. IfSome told (λ disk. IsAnswer seen (schema disk (Some n)) r)) f h)

-- ---- validity

pub not_valid : (tree : Forest) (by : Schema) (first : Breach) (line : Result (Vec ℕ Global) Memory) (s : Stop)
    → IfOk line (λ l. SaysLine refusals.Page l.items s) → IfErr line (λ e. s ≡ stop.Memory)
    → IfOk line (λ l. l.items ≡ breach_line first) → breach by tree ≡ Some first → IsStop (judged tree by) s
not_valid tree by first (Ok l) s is none tells b = line_stops (judged tree by) refusals.Page (breach_line first) (Ok l) s is none tells (first, b, refl)
not_valid tree by first (Err e) s is none tells b = line_stops (judged tree by) refusals.Page (breach_line first) (Err e) s is none tt tt

-- what holds anyhow holds where the files tell
pub if_told : {P : Type 0} (told : Option Disk) → P → IfSome told (λ disk. P)
if_told None p = tt
if_told (Some disk) p = p

-- no schema is named
pub unnamed_schema : {B : Type 0} (seen : B → Schema) (told : Option Disk) (named : Option (List ℕ)) (r : Result B Stop) → named ≡ None
    → IsAnswer seen built_in r → IfSome told (λ disk. IsAnswer seen (schema disk named) r)
unnamed_schema seen told named r e a = subst (λ o. IfSome told (λ disk. IsAnswer seen (schema disk o) r)) (sym e) (if_told told a)
