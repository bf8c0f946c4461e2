-- What the code stops with, and the questions at which it does.
use Rattle.std.specs.Prelude.{IsErrAnd}
use Rattle.std.proofs.Common.{Vec, Global, ◌≡◌, ℕ, List, Option, None, Some, IfSome, IfOk, IfErr, IsErrOf, Result, Ok, Err, subst, sym, ap, ◌∙◌, inl, inr}
use Rattle.bw_lang.specs.declared.text.Memory.{Memory}
use Rattle.bw_out.specs.Causes.{Rose, Shows}
use Rattle.bw_out.specs.Told.{Disk}
use Rattle.bw_command.specs.Codes.{status_for}
use Rattle.bw_questions.specs.Questions.{Question, ◌>>=◌, IsStop, IsAnswer, line}
use Rattle.bw_questions.specs.Reports.{SaysText, SaysLine}
use Rattle.bw_command.specs.declared.status.Refusal.{Refusal}
use Rattle.bw_questions.specs.declared.stop.Stop.{Stop}
use Rattle.bw_questions.specs.declared.stop.Stop.TheVariants as stop

-- the code stopped with a text that the question says
pub text_stops : {A : Type 0} (q : Question A) (refusal : Refusal) (text : List ℕ) (s : Stop) → SaysText refusal text s
    → q.says (record { status = status_for refusal; text = text }) → IsStop q s
text_stops q refusal text (stop.Says other said) h says =
    subst (λ r. q.says (record { status = status_for r; text = said.items })) (sym h.0)
    (subst (λ t. q.says (record { status = status_for refusal; text = t })) (sym h.1) says)
text_stops q refusal text stop.ReadFault h says = tt
text_stops q refusal text stop.Memory h says = tt

-- or with a line, to which its end was added; or for want of memory for it
pub line_stops : {A : Type 0} (q : Question A) (refusal : Refusal) (text : List ℕ) (l : Result (Vec ℕ Global) Memory) (s : Stop)
    → IfOk l (λ x. SaysLine refusal x.items s) → IfErr l (λ e. s ≡ stop.Memory) → IfOk l (λ x. x.items ≡ text)
    → IfOk l (λ x. q.says (record { status = status_for refusal; text = line text })) → IsStop q s
line_stops q refusal text (Ok x) s is none tells says = text_stops q refusal (line text) s (subst (λ t. SaysLine refusal t s) tells is) says
line_stops q refusal text (Err e) s is none tells says = subst (IsStop q) (sym none) tt

-- a stop of the first part is handed on
pub stops_handed : {A B : Type 0} (seen : B → A) (q : Question A) (r : Result B Stop) (s : Stop) → IsErrAnd r (λ e. e ≡ s) → IsStop q s → IsAnswer seen q r
stops_handed seen q (Ok x) s is h = absurd is
stops_handed seen q (Err e) s is h = subst (IsStop q) (sym is) h

pub told_handed : {A B : Type 0} (seen : B → A) (told : Option Disk) (q : Disk → Question A) (r : Result B Stop) (s : Stop) → IsErrAnd r (λ e. e ≡ s)
    → IfSome told (λ d. IsStop (q d) s) → IfSome told (λ d. IsAnswer seen (q d) r)
told_handed seen None q r s is h = tt
told_handed seen (Some d) q r s is h = stops_handed seen (q d) r s is h

stop_is : {A : Type 0} (e s : Stop) → IsErrOf {T = A} (Err e) s → e ≡ s
stop_is e s h = cc

pub no_stop : {A : Type 0} (v : A) (s : Stop) → IsErrOf {T = A} (Ok v) s → ⊥
no_stop v s h = cc

-- and a read fault shows as it did there, where the part before it had none
pub shows_handed : {A B C : Type 0} (v : C) (r : Result B Stop) (s : Stop) (x y z : ℕ) → IsErrAnd r (λ e. e ≡ s)
    → Shows (IsErrOf {T = C} (Ok v) stop.ReadFault) x y → Shows (IsErrOf {T = A} (Err s) stop.ReadFault) y z → Shows (IsErrOf r stop.ReadFault) x z
shows_handed v (Ok b) s x y z is before h = absurd is
shows_handed v (Err e) s x y z is before h =
    let same = before.other (no_stop v stop.ReadFault) in
    record {
      only = λ f. subst (λ k. Rose k z) same (h.only (ap Err (sym is ∙ stop_is e stop.ReadFault f)));
      other = λ f. h.other (λ g. f (ap Err (is ∙ stop_is s stop.ReadFault g))) ∙ same;
    }

-- three questions, however they are grouped
grouped_so : {A B C D : Type 0} (seen : D → C) (q : Question A) (f : A → Question B) (g : B → Question C) (r : Result D Stop)
    → IsAnswer seen (q >>= (λ a. f a >>= g)) r → IsAnswer seen (q >>= f >>= g) r
grouped_so seen q f g (Ok d) h = (h.2.0, (h.0, h.1, h.2.1), h.2.2)
grouped_so seen q f g (Err (stop.Says refusal text)) h = elim h as (λ _. IsStop (q >>= f >>= g) (stop.Says refusal text)) [
  | inl x ↦ inl (inl x)
  | inr x ↦ elim x.2 as (λ _. IsStop (q >>= f >>= g) (stop.Says refusal text)) [
    | inl y ↦ inl (inr (x.0, x.1, y))
    | inr y ↦ inr (y.0, (x.0, x.1, y.1), y.2)
  ]
]
grouped_so seen q f g (Err stop.ReadFault) h = tt
grouped_so seen q f g (Err stop.Memory) h = tt

pub told_grouped : {A B C D : Type 0} (seen : D → C) (told : Option Disk) (q : Disk → Question A) (f : Disk → A → Question B)
    (g : Disk → B → Question C) (r : Result D Stop) → IfSome told (λ d. IsAnswer seen (q d >>= (λ a. f d a >>= g d)) r)
    → IfSome told (λ d. IsAnswer seen (q d >>= f d >>= g d) r)
told_grouped seen None q f g r h = tt
told_grouped seen (Some d) q f g r h = grouped_so seen (q d) (f d) (g d) r h
