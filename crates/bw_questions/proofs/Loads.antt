-- Services that are loaded, and why others aren't.
use Rattle.std.proofs.Common.{Vec, Global, ◌≡◌, ◌≢◌, ◌∙◌, ◌<◌, ◌≤◌, ◌+◌, ◌⊎◌, ℕ, Bool, true, false, List, [], ◌++◌, Option, None, Some, IfSome, Result, Ok, Err}
use Rattle.std.proofs.Common.{IfOk, IfErr}
use Rattle.std.proofs.Common.{inl, inr, subst, refl, sym, ap, take, length, arith}
use Rattle.std.proofs.lemmas.Grind.{common_steps}
use Rattle.bw_blame.specs.declared.site.Blamed.{Blamed}
use Rattle.bw_diagnose.specs.Aims.{IsAim}
use Rattle.bw_diagnose.specs.Blocks.{syntax_block}
use Rattle.bw_diagnose.specs.Known.{AreDrafts}
use Rattle.bw_diagnose.specs.declared.aim.Aim.{Aim}
use Rattle.bw_diagnose.proofs.Aimed.{same_aim}
use Rattle.bw_lang.specs.declared.declaration.Draft.{Draft}
use Rattle.bw_lang.specs.declared.limits.TheConstants.{MAX_FILE_BYTES}
use Rattle.bw_lang.specs.declared.service.Service.{Service}
use Rattle.bw_lang.specs.declared.text.Memory.{Memory}
use Rattle.bw_lang.specs.Service.Reads.{Reads}
use Rattle.bw_syntax.specs.Refusals.{IsServiceRefused}
use Rattle.bw_syntax.specs.Told.{IsTold}
use Rattle.bw_syntax.specs.declared.told.Told.{Told}
use Rattle.bw_syntax.specs.declared.fault.SyntaxFault.{SyntaxFault}
use Rattle.bw_syntax.specs.declared.fault.SyntaxFault.TheVariants as reading
use Rattle.bw_syntax.proofs.OneAnswer.{one_reason_each}
use Rattle.bw_types.specs.Faults.{first_fault}
use Rattle.bw_types.specs.declared.fault.TypeFault.{TypeFault}
use Rattle.bw_types.specs.declared.fault.TypeFault.TheVariants as typing
use Rattle.bw_out.specs.Told.{Disk}
use Rattle.bw_questions.specs.Asked.{file, read, typed, service_text}
use Rattle.bw_questions.specs.Behind.{Shown, AreKept, AreShown, told_if, IsAimAt, IsAimed, shown_if, shown_file, content_of, behind_syntax, behind_type, behind_aim, blamed_in}
use Rattle.bw_questions.specs.declared.seen.Aimed.{Aimed}
use Rattle.bw_command.specs.Codes.{status_for}
use Rattle.bw_questions.specs.Lines.{syntax_line, type_line}
use Rattle.bw_questions.specs.Questions.{Said, Question, ◌>>=◌, IsStop, IsAnswer, line}
use Rattle.bw_questions.specs.Reports.{SaysText}
use Rattle.bw_command.specs.declared.status.Refusal.{Refusal}
use Rattle.bw_command.specs.declared.status.Refusal.TheVariants as refusals
use Rattle.bw_command.specs.declared.status.Status.TheVariants.{ServiceRefused}
use Rattle.bw_questions.specs.declared.stop.Stop.{Stop}
use Rattle.bw_questions.specs.declared.stop.Stop.TheVariants as stop
use Rattle.bw_questions.proofs.Answering.{asks_next, stops_first}
use Rattle.bw_questions.proofs.Files.{take_short, refused_all}
use Rattle.bw_questions.proofs.Stops.{text_stops}

-- ---- the tokens of a text that is shown are kept

pub are_kept : (source : Bool) (text : List ℕ) (told : Told) (kept : Option Told) → kept ≡ told_if source told → IsTold text told
    → AreKept source text kept
are_kept true text told kept e t = subst (AreKept true text) (sym e) (record { asked = refl; told_of = t })
are_kept false text told kept e t = subst (AreKept false text) (sym e) (record { asked = refl; told_of = tt })

-- ---- the front of a file tells which service it is

whole : (n : ℕ) (content : List ℕ) (tree : Service) → n ≡ 1048577 → Reads (take n content) tree → take n content ≡ content
whole n content tree h r = let short : length (take n content) < n = omega (arith, r.drafted.text.short) in take_short n content short

read_all : (n : ℕ) (content : List ℕ) (tree : Service) → n ≡ 1048577 → Reads (take n content) tree → Reads content tree
read_all n content tree h r = subst (λ b. Reads b tree) (whole n content tree h r) r

too_long : (n : ℕ) (bytes : List ℕ) → n ≡ 1048577 → n ≤ length bytes → IsServiceRefused bytes reading.TooLong
too_long n bytes h le = omega arith

refused_front : (n : ℕ) (content : List ℕ) (fault : SyntaxFault) → n ≡ 1048577 → IsServiceRefused (take n content) fault → fault ≢ reading.Memory
    → IsServiceRefused content fault
refused_front n content fault h r some =
    refused_all IsServiceRefused reading.TooLong fault n content (λ bytes le. too_long n bytes h le)
    (λ long r. one_reason_each (take n content) reading.TooLong fault long r (λ e. cc) some) r

-- the front of the front is that front
front_again : (m n : ℕ) (bytes : List ℕ) → m ≡ n → take m (take n bytes) ≡ take m bytes
front_again m n bytes e = grind (arith, common_steps)

-- what is shown of a text that isn't read is shown of its front
same_front : (source : Bool) (name : List ℕ) (n : ℕ) (content : List ℕ) (fault : SyntaxFault) → n ≡ 1048577
    → behind_syntax (shown_if source name (take n content)) fault ≡ behind_syntax (shown_if source name content) fault
same_front true name n content fault h = ap (λ t. syntax_block name t fault) (front_again (MAX_FILE_BYTES + 1) n content (sym h))
same_front false name n content fault h = refl

-- what the code holds of a front is what is said of the whole
abbrev Near : {B : Type 0} → (B → Service) → Bool → List ℕ → List ℕ → Result B Stop → Type 0
Near seen source name content r = IsAnswer seen (service_text (shown_if source name content) content) r

pub typed_all : {B : Type 0} (seen : B → Service) (source : Bool) (name : List ℕ) (n : ℕ) (content : List ℕ) (r : Result B Stop) → n ≡ 1048577
    → Near seen source name (take n content) r → Near seen source name content r
typed_all seen source name n content (Ok x) h a = (a.0, read_all n content a.0 h a.1, a.2)
typed_all seen source name n content (Err (stop.Says refusal text)) h a = elim a as (λ _. Near seen source name content (Err (stop.Says refusal text))) [
  | inl x ↦ inl (
    x.0,
    refused_front n content x.0 h x.1 x.2,
    x.2,
    x.3 ∙ ap (λ (t : List ℕ). let s : Said = record { status = ServiceRefused; text = line (syntax_line x.0) ++ t } in s)
        (same_front source name n content x.0 h),
  )
  | inr x ↦ inr (
    x.0,
    read_all n content x.0 h x.1,
    subst (λ b. (typed (shown_if source name b) x.0).says (record { status = status_for refusal; text = text.items })) (whole n content x.0 h x.1) x.2,
  )
]
typed_all seen source name n content (Err stop.ReadFault) h a = tt
typed_all seen source name n content (Err stop.Memory) h a = tt

-- the file is shown as the bytes are that it has
shown_there : (source : Bool) (disk : Disk) (name content : List ℕ) → disk name ≡ Some content → shown_if source name content ≡ shown_file source disk name
shown_there source disk name content e = ap (λ o. shown_if source name (content_of o)) (sym e)

-- so what the front of a file answers is what the file does
pub loaded : {B : Type 0} (seen : B → Service) (source : Bool) (told : Option Disk) (name bytes given : List ℕ) (how : Option Shown) (n : ℕ)
    (r : Result B Stop) → n ≡ 1048577 → IfSome told (λ disk. (content : List ℕ) × (disk name ≡ Some content) × (bytes ≡ take n content))
    → given ≡ bytes → how ≡ shown_if source name given → IsAnswer seen (service_text how given) r
    → IfSome told (λ disk. IsAnswer seen (file disk name >>= service_text (shown_file source disk name)) r)
loaded seen source None name bytes given how n r h found e f a = tt
loaded seen source (Some disk) name bytes given how n r h found e f a =
    let near : Near seen source name (take n found.0) r =
    subst (λ b. Near seen source name b r) (e ∙ found.2) (subst (λ w. IsAnswer seen (service_text w given) r) f a) in
    let far : Near seen source name found.0 r = typed_all seen source name n found.0 r h near in
    asks_next seen (file disk name) (service_text (shown_file source disk name)) found.0 r found.1
    (subst (λ w. IsAnswer seen (service_text w found.0) r) (shown_there source disk name found.0 found.1) far)

-- a text that reads as a service is the whole file
pub loaded_text : {B : Type 0} (seen : B → Service) (told : Option Disk) (name bytes given : List ℕ) (how : Option Shown) (n : ℕ) (x : B) → n ≡ 1048577
    → IfSome told (λ disk. (content : List ℕ) × (disk name ≡ Some content) × (bytes ≡ take n content)) → given ≡ bytes
    → IsAnswer seen (service_text how given) (Ok x) → IfSome told (λ disk. disk name ≡ Some bytes)
loaded_text seen None name bytes given how n x h found e a = tt
loaded_text seen (Some disk) name bytes given how n x h found e a =
    let r : Reads (take n found.0) a.0 = subst (λ b. Reads b a.0) (e ∙ found.2) a.1 in
    found.1 ∙ ap Some (sym (whole n found.0 a.0 h r) ∙ sym found.2)

-- it reads as the service
pub read_so : {B : Type 0} (seen : B → Service) (text : List ℕ) (how : Option Shown) (x : B) → IsAnswer seen (service_text how text) (Ok x)
    → Reads text (seen x)
read_so seen text how x a = subst (Reads text) (sym a.2.0) a.1

-- and it isn't too long
pub short_text : {B : Type 0} (seen : B → Service) (bytes given : List ℕ) (how : Option Shown) (x : B) → given ≡ bytes
    → IsAnswer seen (service_text how given) (Ok x) → length bytes ≤ MAX_FILE_BYTES
short_text seen bytes given how x e a = subst (λ b. length b ≤ MAX_FILE_BYTES) e a.1.drafted.text.short

-- ---- why a service isn't taken

-- a text says why the question goes wrong, or there was no memory for it
pub said_stops : {A : Type 0} (q : Question A) (refusal : Refusal) (t : Result (Vec ℕ Global) Memory) (s : Stop)
    → IfOk t (λ x. SaysText refusal x.items s) → IfErr t (λ e. s ≡ stop.Memory)
    → IfOk t (λ x. q.says (record { status = status_for refusal; text = x.items })) → IsStop q s
said_stops q refusal (Ok x) s is none says = text_stops q refusal x.items s is says
said_stops q refusal (Err e) s is none says = subst (IsStop q) (sym none) tt

pub unread : (how : Option Shown) (content : List ℕ) (fault : SyntaxFault) (text : Result (Vec ℕ Global) Memory) (s : Stop)
    → IfOk text (λ t. SaysText refusals.Service t.items s) → IfErr text (λ e. s ≡ stop.Memory)
    → IfOk text (λ t. t.items ≡ line (syntax_line fault) ++ behind_syntax how fault) → IfOk text (λ t. fault ≢ reading.Memory)
    → IsServiceRefused content fault → IsStop (service_text how content) s
unread how content fault text s is none tells some r =
    stops_first (read how content) (typed how) s (said_stops (read how content) refusals.Service text s is none (says text tells some))
  where
    says : (text : Result (Vec ℕ Global) Memory) → IfOk text (λ t. t.items ≡ line (syntax_line fault) ++ behind_syntax how fault)
        → IfOk text (λ t. fault ≢ reading.Memory)
        → IfOk text (λ t. (read how content).says (record { status = ServiceRefused; text = t.items }))
    says (Ok t) tells some = (fault, r, some, ap (λ (x : List ℕ). let s : Said = record { status = ServiceRefused; text = x } in s) tells)
    says (Err e) tells some = tt

-- where the text is shown, it is shown where its first fault is
same_behind : (how : Option Shown) (tree : Service) (aimed : Option Aimed) (fault : TypeFault) → IsAimed how tree aimed
    → (drafts : List Draft) × AreShown how drafts × (behind_aim aimed fault ≡ behind_type how drafts (blamed_in tree) fault)
same_behind how tree None fault a =
    subst (λ (h : Option Shown). (drafts : List Draft) × AreShown h drafts × ([] ≡ behind_type h drafts (blamed_in tree) fault)) a.shown ([], tt, refl)
same_behind how tree (Some x) fault a =
    subst (λ (h : Option Shown). (drafts : List Draft) × AreShown h drafts × (behind_aim (Some x) fault ≡ behind_type h drafts (blamed_in tree) fault))
    a.shown
    (a.aims.0, a.aims.1, same_aim x.seen.name.now x.seen.told.text.now a.aims.0 (blamed_in tree) x.aim fault a.aims.2)

pub ill_typed : (how : Option Shown) (tree : Service) (aimed : Option Aimed) (fault : TypeFault) (text : Result (Vec ℕ Global) Memory) (s : Stop)
    → IfOk text (λ t. SaysText refusals.Service t.items s) → IfErr text (λ e. s ≡ stop.Memory)
    → IfOk text (λ t. t.items ≡ line (type_line fault) ++ behind_aim aimed fault) → IfOk text (λ t. fault ≢ typing.Memory)
    → IsAimed how tree aimed → (fault ≡ typing.Memory) ⊎ (first_fault tree ≡ Some fault) → IsStop (typed how tree) s
ill_typed how tree aimed fault text s is none tells some aim why =
    said_stops (typed how tree) refusals.Service text s is none (says text tells some why)
  where
    says : (text : Result (Vec ℕ Global) Memory) → IfOk text (λ t. t.items ≡ line (type_line fault) ++ behind_aim aimed fault)
        → IfOk text (λ t. fault ≢ typing.Memory) → (fault ≡ typing.Memory) ⊎ (first_fault tree ≡ Some fault)
        → IfOk text (λ t. (typed how tree).says (record { status = ServiceRefused; text = t.items }))
    says (Ok t) tells some (inl e) = absurd (some e)
    says (Ok t) tells some (inr first) = let same = same_behind how tree aimed fault aim in (
      fault,
      first,
      same.0,
      same.1,
      ap (λ (x : List ℕ). let s : Said = record { status = ServiceRefused; text = x } in s)
          (tells ∙ ap (λ l. line (type_line fault) ++ l) same.2),
    )
    says (Err e) tells some why = tt

-- a text that is shown reads as the service
pub shown_reads : (source : Bool) (name text : List ℕ) (tree : Service) → Reads text tree
    → IfSome (shown_if source name text) (λ shown. Reads shown.text tree)
shown_reads true name text tree r = r
shown_reads false name text tree r = tt

-- what is known of the first test that fails, by the declarations that the text is written for
pub aim_known : (text seen : List ℕ) (tree : Service) (drafts : List Draft) (blamed : Option Blamed) (r : Result Aim Memory) → seen ≡ text
    → AreDrafts text drafts → blamed ≡ blamed_in tree → IfOk r (IsAim seen drafts blamed) → IfOk r (IsAimAt text tree)
aim_known text seen tree drafts blamed (Ok a) e d b i =
    (drafts, d, subst (λ t. IsAim t drafts (blamed_in tree) a) e (subst (λ x. IsAim seen drafts x a) b i))
aim_known text seen tree drafts blamed (Err m) e d b i = tt

-- a service that was read from a file is shown as that file
pub shown_told : {A B : Type 0} (seen : B → A) (source : Bool) (first later : Option Disk) (name text : List ℕ) (how : Option Shown)
    (q : Option Shown → Disk → Question A) (r : Result B Stop) → later ≡ first → IfSome first (λ disk. disk name ≡ Some text)
    → how ≡ shown_if source name text → IfSome later (λ disk. IsAnswer seen (q how disk) r)
    → IfSome later (λ disk. IsAnswer seen (q (shown_file source disk name) disk) r)
shown_told seen source first None name text how q r e found h a = tt
shown_told seen source first (Some disk) name text how q r e found h a =
    let there : disk name ≡ Some text = subst (λ o. IfSome o (λ d. d name ≡ Some text)) (sym e) found in
    subst (λ w. IsAnswer seen (q w disk) r) (h ∙ shown_there source disk name text there) a
