-- Formats and texts that are loaded, and why others aren't.
use Rattle.std.proofs.Common.{
  Vec,
  Global,
  ◌≡◌,
  ◌≢◌,
  ◌<◌,
  ◌⊎◌,
  ℕ,
  List,
  [],
  inl,
  inr,
  sym,
  subst,
  refl,
  None,
  Some,
  Result,
  Ok,
  Err,
  IfOk,
  IfErr,
  IfSome,
  take,
  length,
  arith,
}
use Rattle.std.specs.declared.option.Option.{Option}
use Rattle.std.proofs.lemmas.Bool.{cases_lt}
use Rattle.bw_format.specs.FormatFile.{Gives}
use Rattle.bw_format.specs.declared.file.FormatFault.{FormatFault}
use Rattle.bw_format.specs.declared.file.FormatFault.TheVariants as fault
use Rattle.bw_format.specs.declared.format.Format.{Format}
use Rattle.bw_lang.specs.declared.text.Memory.{Memory}
use Rattle.bw_out.specs.Told.{Disk}
use Rattle.bw_questions.specs.Asked.{AreTexts, formats_in, formats, lit}
use Rattle.bw_questions.specs.Asked.{Work}
use Rattle.bw_questions.specs.Lines.{format_line}
use Rattle.bw_questions.specs.Questions.{IsAnswer, IsStop}
use Rattle.bw_questions.specs.Reports.{SaysLine}
use Rattle.bw_command.specs.declared.status.Refusal.TheVariants as refusals
use Rattle.bw_questions.specs.declared.stop.Stop.{Stop}
use Rattle.bw_questions.specs.declared.stop.Stop.TheVariants as stop
use Rattle.bw_questions.proofs.Files.{take_all, take_length}
use Rattle.bw_questions.proofs.Pages.{if_told}
use Rattle.bw_questions.proofs.Stops.{line_stops}

-- ---- formats

gives_all : (n : ℕ) (content : List ℕ) (r : Result (List Format) FormatFault) → n ≡ 65537 → Gives (take n content) r → Gives content r
gives_all n content r e h = elim (cases_lt n (length content)) [
  | inr le ↦ subst (λ b. Gives b r) (take_all n content le) h
  | inl gt ↦ long (take_length n content gt) gt h
]
  where
    long : length (take n content) ≡ n → n < length content → Gives (take n content) r → Gives content r
    long full gt (inl x) = inl (omega (arith, e, gt), x.1)
    long full gt (inr x) = absurd (omega (arith, e, full, x.0))

pub formats_all : {B : Type 0} (seen : B → List Format) (n : ℕ) (content : List ℕ) (r : Result B Stop) → n ≡ 65537
    → IsAnswer seen (formats_in (take n content)) r → IsAnswer seen (formats_in content) r
formats_all seen n content (Ok x) e h = gives_all n content (Ok (seen x)) e h
formats_all seen n content (Err (stop.Says refusal text)) e h = (h.0, gives_all n content (Err h.0) e h.1, h.2, h.3)
formats_all seen n content (Err stop.ReadFault) e h = tt
formats_all seen n content (Err stop.Memory) e h = tt

pub refused_formats : (content : List ℕ) (e : FormatFault) (line : Result (Vec ℕ Global) Memory) (s : Stop)
    → IfOk line (λ l. SaysLine refusals.Formats l.items s) → IfErr line (λ x. s ≡ stop.Memory) → IfOk line (λ l. l.items ≡ format_line e)
    → IfOk line (λ l. e ≢ fault.Memory) → (e ≡ fault.Memory) ⊎ Gives content (Err e) → IsStop (formats_in content) s
refused_formats content e (Ok l) s is none tells some (inl memory) = absurd (some memory)
refused_formats content e (Ok l) s is none tells some (inr g) =
    line_stops (formats_in content) refusals.Formats (format_line e) (Ok l) s is none tells (e, g, some, refl)
refused_formats content e (Err x) s is none tells some why =
    line_stops (formats_in content) refusals.Formats (format_line e) (Err x) s is none tt tt

-- formats are named
pub named_formats : {B : Type 0} (seen : B → List Format) (told : Option Disk) (named : Option (List ℕ)) (name text : List ℕ) (r : Result B Stop)
    → named ≡ Some name → text ≡ name
    → IfSome told (λ disk. IsAnswer seen (formats disk (Some text)) r) → IfSome told (λ disk. IsAnswer seen (formats disk named) r)
named_formats seen told named name text r e f h =
    subst (λ o. IfSome told (λ disk. IsAnswer seen (formats disk o) r)) (sym e) (subst (λ n. IfSome told (λ disk. IsAnswer seen (formats disk (Some n)) r)) f h)

-- or none are
pub no_formats : (told : Option Disk) (named : Option (List ℕ)) (given : List Format) → named ≡ None → given ≡ []
    → IfSome told (λ disk. (formats disk named).gives given)
no_formats told named given e f = subst (λ o. IfSome told (λ disk. (formats disk o).gives given)) (sym e) (if_told told f)

-- ---- texts

texts_all : (n : ℕ) (content : List ℕ) → n ≡ 1048577 → AreTexts (take n content) → take n content ≡ content
texts_all n content e h = elim (cases_lt n (length content)) [
  | inr le ↦ take_all n content le
  | inl gt ↦ (let full = take_length n content gt in absurd (omega (arith, e, full, h.short)))
]

texts_front : (n : ℕ) (content : List ℕ) → n ≡ 1048577 → AreTexts content → take n content ≡ content
texts_front n content e h = take_all n content (omega (arith, e, h.short))

pub lit_all : {B : Type 0} (seen : B → Work) (formats : List Format) (n : ℕ) (content : List ℕ) (r : Result B Stop) → n ≡ 1048577
    → IsAnswer seen (lit formats (take n content)) r → IsAnswer seen (lit formats content) r
lit_all seen formats n content (Ok x) e h =
    let Gives : List ℕ → Type 0 = λ b. IsAnswer {B = _} seen (lit formats b) (Ok x) in subst Gives (texts_all n content e h.1) h
lit_all seen formats n content (Err (stop.Says refusal text)) e h =
    (λ t. h.0 (subst AreTexts (sym (texts_front n content e t)) t), h.1)
lit_all seen formats n content (Err stop.ReadFault) e h = tt
lit_all seen formats n content (Err stop.Memory) e h = tt
