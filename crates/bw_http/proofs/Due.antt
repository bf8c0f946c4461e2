-- What is due of a stream comes.
use Rattle.std.proofs.Common.{◌≡◌, ℕ, ◌⊎◌, List, [], ◌∷◌, ◌++◌, length, refl, sym, ap, ◌∙◌, subst, arith, append-nil, inl, inr, Result, Ok, Err, rules}
use Rattle.std.proofs.lemmas.List.{length-append, nil_from_length}
use Rattle.httparse.specs.Grammar.{RequestHead, IsRequestHead, lf, is_token_byte, print_request, NeverHasRequest}
use Rattle.std.proofs.lemmas.Str.{IsUtf8-from_ascii}
use Rattle.std.proofs.lemmas.Str.Ascii.{IsAscii-nil, IsAscii-cons}
use Rattle.httparse.proofs.GrammarLemmas.{request_unique}
use Rattle.bw_http.specs.declared.request.ReadOutcome.{ReadOutcome}
use Rattle.bw_http.specs.declared.request.ReadOutcome.TheVariants.{End, BadHead, Truncated, HeadTooLong, NoHost, Coding, BadLength, LengthRequired, BodyTooLong}
use Rattle.bw_http.specs.declared.request.ReadOutcome.TheVariants.{Media, ReadFault, Memory}
use Rattle.bw_http.specs.declared.decide.Decision.TheVariants.{Body}
use Rattle.bw_http.specs.declared.request.Request.{Request}
use Rattle.bw_http.specs.Heads.{line_count, BeginsWith, IsTooLong}
use Rattle.bw_http.specs.Decisions.{decide}
use Rattle.bw_http.specs.Messages.{IsMessage, IsDenied, IsShort}
use Rattle.bw_http.specs.Cuts.{AtFront, Cut}
use Rattle.bw_http.proofs.Streams.{message_unique, no_bad, no_long, no_end, not_denied}

-- a whole message comes as its request, or as want of memory
pub message_exact : (stream : List ℕ) (h : RequestHead) (body after rest : List ℕ) (e : ReadOutcome)
    → IsMessage stream h body after → Cut stream (Err e) rest → (e ≡ Memory) ⊎ (e ≡ ReadFault)
message_exact stream h body after rest End m c = absurd (no_end h (body ++ after) (subst (λ (t : List ℕ). BeginsWith t h (body ++ after)) c.0 m.begins))
message_exact stream h body after rest BadHead m c = absurd (no_bad stream h (body ++ after) m.begins c.0)
message_exact stream h body after rest Truncated m c =
    elim c.1 [
      | inl lacks ↦ absurd (lacks.none h (body ++ after) m.begins)
      | inr lacks ↦
          let same = request_unique stream lacks.head h lacks.rest (body ++ after) lacks.begins.reads m.begins.reads in
          let sizes : Body lacks.size ≡ Body (length body) = sym lacks.wants ∙ ap decide same.0 ∙ m.size in
          let size : lacks.size ≡ length body = cc in
          absurd (omega (arith, size, lacks.lacks, ap length same.1, length-append body after))
    ]
message_exact stream h body after rest HeadTooLong m c = absurd (no_long stream h (body ++ after) m.begins c.0)
message_exact stream h body after rest NoHost m c = absurd (not_denied stream h body after NoHost m c.0)
message_exact stream h body after rest Coding m c = absurd (not_denied stream h body after Coding m c.0)
message_exact stream h body after rest BadLength m c = absurd (not_denied stream h body after BadLength m c.0)
message_exact stream h body after rest LengthRequired m c = absurd (not_denied stream h body after LengthRequired m c.0)
message_exact stream h body after rest BodyTooLong m c = absurd (not_denied stream h body after BodyTooLong m c.0)
message_exact stream h body after rest Media m c = absurd (not_denied stream h body after Media m c.0)
message_exact stream h body after rest ReadFault m c = inr refl
message_exact stream h body after rest Memory m c = inl refl

-- some head, so that the empty bytes may become one
sample : RequestHead
sample = record { blank = []; method = 48 ∷ []; target = 48 ∷ []; minor = 0; line_end = lf; fields = []; last = lf }

sample_is : IsRequestHead sample
unfolding sample is_token_byte
sample_is = record {
  method = (omega arith, search rules);
  target = (omega arith, search rules);
  target_text = IsUtf8-from_ascii (48 ∷ []) (IsAscii-cons 48 [] (omega arith) IsAscii-nil);
  minor = omega arith;
  fields = search rules;
}

no_bad_end : AtFront NeverHasRequest [] → ⊥
no_bad_end f =
    let nil : f.0 ≡ [] = nil_from_length f.0 (omega (arith, ap length f.2, length-append f.0 f.1)) in
    f.3 (print_request sample) sample [] (sample_is, ap (λ (t : List ℕ). t ++ print_request sample) nil ∙ sym (append-nil (print_request sample)))

no_long_end : AtFront IsTooLong [] → ⊥
no_long_end f =
    let nil : f.0 ≡ [] = nil_from_length f.0 (omega (arith, ap length f.2, length-append f.0 f.1)) in
    elim f.3.1 [
      | inl bytes ↦ absurd (omega (arith, bytes, ap length nil))
      | inr lines ↦ absurd (omega (arith, lines, ap line_count nil))
    ]

-- what is too long holds no message, and is not empty
long_no_denied : (stream : List ℕ) (e : ReadOutcome) → IsTooLong stream → IsDenied stream e → ⊥
long_no_denied stream e t d = t.0 d.head d.rest d.begins

long_not_short : (stream : List ℕ) → IsTooLong stream → IsShort stream → ⊥
long_not_short stream t (inl lacks) =
    elim t.1 [
      | inl bytes ↦ absurd (omega (arith, bytes, lacks.short))
      | inr lines ↦ absurd (omega (arith, lines, lacks.few))
    ]
long_not_short stream t (inr lacks) = t.0 lacks.head lacks.rest lacks.begins

-- what passes a limit of heads comes as that, or as what is no head
pub long_exact : (stream : List ℕ) (r : Result Request ReadOutcome) (rest : List ℕ) → IsTooLong stream → Cut stream r rest
    → (r ≡ Err BadHead) ⊎ ((r ≡ Err HeadTooLong) ⊎ (r ≡ Err ReadFault))
long_exact stream (Ok q) rest t c = absurd (t.0 c.0 (c.1 ++ rest) c.2.begins)
long_exact stream (Err End) rest t c = absurd (no_long_end ([], [], refl, subst (λ (s : List ℕ). IsTooLong s) c.0 t))
long_exact stream (Err BadHead) rest t c = inl refl
long_exact stream (Err Truncated) rest t c = absurd (long_not_short stream t c.1)
long_exact stream (Err HeadTooLong) rest t c = inr (inl refl)
long_exact stream (Err NoHost) rest t c = absurd (long_no_denied stream NoHost t c.0)
long_exact stream (Err Coding) rest t c = absurd (long_no_denied stream Coding t c.0)
long_exact stream (Err BadLength) rest t c = absurd (long_no_denied stream BadLength t c.0)
long_exact stream (Err LengthRequired) rest t c = absurd (long_no_denied stream LengthRequired t c.0)
long_exact stream (Err BodyTooLong) rest t c = absurd (long_no_denied stream BodyTooLong t c.0)
long_exact stream (Err Media) rest t c = absurd (long_no_denied stream Media t c.0)
long_exact stream (Err ReadFault) rest t c = inr (inr refl)
long_exact stream (Err Memory) rest t c = absurd (t.0 c.0 (c.1 ++ rest) c.2.begins)

-- an empty stream comes as its end
pub end_exact : (r : Result Request ReadOutcome) (rest : List ℕ) → Cut [] r rest → (r ≡ Err End) ⊎ (r ≡ Err ReadFault)
end_exact (Ok q) rest c = absurd (no_end c.0 (c.1 ++ rest) c.2.begins)
end_exact (Err End) rest c = inl refl
end_exact (Err BadHead) rest c = absurd (no_bad_end c.0)
end_exact (Err Truncated) rest c = absurd (c.0 refl)
end_exact (Err HeadTooLong) rest c = absurd (no_long_end c.0)
end_exact (Err NoHost) rest c = absurd (no_end c.0.head c.0.rest c.0.begins)
end_exact (Err Coding) rest c = absurd (no_end c.0.head c.0.rest c.0.begins)
end_exact (Err BadLength) rest c = absurd (no_end c.0.head c.0.rest c.0.begins)
end_exact (Err LengthRequired) rest c = absurd (no_end c.0.head c.0.rest c.0.begins)
end_exact (Err BodyTooLong) rest c = absurd (no_end c.0.head c.0.rest c.0.begins)
end_exact (Err Media) rest c = absurd (no_end c.0.head c.0.rest c.0.begins)
end_exact (Err ReadFault) rest c = inr refl
end_exact (Err Memory) rest c = absurd (no_end c.0 (c.1 ++ rest) c.2.begins)

-- want of memory takes the message that a request would take
pub memory_goes_on : (stream : List ℕ) (q : Request) (rest after : List ℕ) → Cut stream (Err Memory) rest → Cut stream (Ok q) after → rest ≡ after
memory_goes_on stream q rest after c d = (message_unique stream c.0 d.0 c.1 d.1 rest after c.2 d.2).2
