-- Bytes that are one whole message.
use Rattle.std.proofs.Common.{◌≡◌, ℕ, List, [], ◌++◌, Option, Some, Result, Ok, Err, refl, sym, ap, ◌∙◌, subst, append_assoc, inl, inr}
use Rattle.std.proofs.lemmas.List.{append-nil}
use Rattle.bw_http.specs.Cuts.{Cut, Tells}
use Rattle.bw_http.specs.Messages.{IsRequest}
use Rattle.bw_http.specs.declared.request.ReadOutcome.{ReadOutcome}
use Rattle.bw_http.specs.declared.request.ReadOutcome.TheVariants as outcomes
use Rattle.bw_http.specs.declared.request.Request.{Request}
use Rattle.bw_http.proofs.Due.{message_exact}
use Rattle.bw_http.proofs.OnePath.{one_request}
use Rattle.bw_http.proofs.Streams.{message_unique}
use Rattle.httparse.specs.Grammar.{print_request}
use Rattle.bw_bringing.specs.Bringing.{Sends, SendsNone}

-- a stream begins with a message, which is these bytes
pub record IsCutOff (stream rest : List ℕ) (r : Request) : Type 0 where
  pub message : List ℕ
  pub parts : stream ≡ message ++ rest
  pub sends : Sends message r

pub cut_off : (stream rest : List ℕ) (r : Request) → Cut stream (Ok r) rest → IsCutOff stream rest r
cut_off stream rest r s =
    let h = s.0 in
    let body = s.1 in
    let m = s.2 in
    record {
      message = print_request h ++ body;
      parts = m.begins.reads.1 ∙ sym (append_assoc (print_request h) body rest);
      sends = (
        h,
        body,
        record {
          begins = record {
            reads = (m.begins.reads.0, ap (λ (b : List ℕ). print_request h ++ b) (sym (append-nil body)));
            limits = m.begins.limits;
          };
          size = m.size;
        },
        s.3,
      );
    }

-- a message followed by more
pub cut_more : (message more : List ℕ) (r : Request) → Sends message r → Cut (message ++ more) (Ok r) more
cut_more message more r s =
    let h = s.0 in
    let body = s.1 in
    let m = s.2 in
    let is : message ≡ print_request h ++ body = m.begins.reads.1 ∙ ap (λ (b : List ℕ). print_request h ++ b) (append-nil body) in (
      h,
      body,
      record {
        begins = record {
          reads = (m.begins.reads.0, ap (λ (b : List ℕ). b ++ more) is ∙ append_assoc (print_request h) body more);
          limits = m.begins.limits;
        };
        size = m.size;
      },
      s.3,
    )

-- a stream has one first message, and one rest behind it
pub one_cut : (stream a b : List ℕ) (q r : Request) → Cut stream (Ok q) a → Cut stream (Ok r) b → (q ≡ r) × (a ≡ b)
one_cut stream a b q r s t =
    let same = message_unique stream s.0 t.0 s.1 t.1 a b s.2 t.2 in
    let so = subst (λ h. IsRequest h t.1 r) (sym same.0) t.3 in
    (one_request s.0 s.1 q r s.3 (subst (λ body. IsRequest s.0 body r) (sym same.1) so), same.2)

-- ---- reading from a source that has these bytes alone

some_one : {A : Type 0} (a b : A) → Some a ≡ Some b → a ≡ b
some_one a b e = cc

-- where nothing is left behind a request, the bytes are one message
pub whole : (message now left : List ℕ) (told : Option (List ℕ)) (r : Request) → now ++ left ≡ [] → told ≡ Some left → Tells (Some message) told [] (Ok r) now
    → Sends message r
whole message now left told r none is tells =
    let t = tells message refl in
    let left_is : t.0 ≡ left = some_one t.0 left (sym t.1 ∙ is) in
    subst (λ (x : List ℕ). Cut message (Ok r) x) (ap (λ (x : List ℕ). now ++ x) left_is ∙ none) t.2

-- where something is left, they are none
pub not_whole : (message now left : List ℕ) (told : Option (List ℕ)) (r : Request) → (now ++ left ≡ [] → ⊥) → told ≡ Some left
    → Tells (Some message) told [] (Ok r) now → SendsNone message
not_whole message now left told r more is tells q s =
    let t = tells message refl in
    let left_is : t.0 ≡ left = some_one t.0 left (sym t.1 ∙ is) in
    let same = message_unique message t.2.0 s.0 t.2.1 s.1 (now ++ t.0) [] t.2.2 s.2 in
    more (ap (λ (x : List ℕ). now ++ x) (sym left_is) ∙ same.2)

-- bytes that are refused are none
pub refused : (message now : List ℕ) (told : Option (List ℕ)) (o : ReadOutcome) → Tells (Some message) told [] (Err o) now → (o ≡ outcomes.Memory → ⊥)
    → (o ≡ outcomes.ReadFault → ⊥) → SendsNone message
refused message now told o tells a b q s =
    let t = tells message refl in
    elim (message_exact message s.0 s.1 [] (now ++ t.0) o s.2 t.2) [ inl x ↦ a x | inr x ↦ b x ]

-- the source began with the message, and nothing was held
pub told_from : (start message held now : List ℕ) (told : Option (List ℕ)) (o : Result Request ReadOutcome) → start ≡ message → held ≡ []
    → Tells (Some start) told held o now → Tells (Some message) told [] o now
told_from start message held now told o e none t =
    subst (λ (h : List ℕ). Tells (Some message) told h o now) none (subst (λ (b : List ℕ). Tells (Some b) told held o now) e t)
