-- What the tests on a head can come to.
use Rattle.std.proofs.Common.{◌≡◌, ℕ, ◌≤◌, Bool, true, false, cond, not, List, map, refl, sym, ap, ◌∙◌, arith, nat_lt, nat_le, codes, ◌&&◌, ◌==◌}
use Rattle.std.proofs.lemmas.Bool.{false≢true}
use Rattle.std.proofs.lemmas.Bool.Decides.{nat_tests}
use Rattle.httparse.specs.Grammar.{RequestHead}
use Rattle.httparse.specs.Spans.{name_and_value}
use Rattle.bw_http.specs.declared.request.ReadOutcome.{ReadOutcome}
use Rattle.bw_http.specs.declared.request.ReadOutcome.TheVariants.{End, BadHead, Truncated, HeadTooLong, NoHost, Coding, BadLength, LengthRequired, BodyTooLong}
use Rattle.bw_http.specs.declared.request.ReadOutcome.TheVariants.{Media, ReadFault, Memory}
use Rattle.bw_http.specs.declared.decide.Decision.{Decision}
use Rattle.bw_http.specs.declared.decide.Decision.TheVariants.{Refused, Body}
use Rattle.bw_http.specs.declared.request.Method.{Method}
use Rattle.bw_http.specs.declared.decide.Length.{Length}
use Rattle.bw_http.specs.declared.decide.Length.TheVariants.{Missing, Wrong, Bytes}
use Rattle.bw_http.specs.Decisions.{decide, decide_on, decide_in_order, decide_body, is_post, is_one, is_none, is_form, length_of, method_of, values}
use Rattle.bw_http.specs.Messages.{IsDenied, IsRefusal}

-- one of the six refusals of the tests
is_test : ReadOutcome → Bool
is_test End = false
is_test BadHead = false
is_test Truncated = false
is_test HeadTooLong = false
is_test NoHost = true
is_test Coding = true
is_test BadLength = true
is_test LengthRequired = true
is_test BodyTooLong = true
is_test Media = true
is_test ReadFault = false
is_test Memory = false

-- a refusal of the tests, or a body of at most 65,536 bytes
is_sound : Decision → Bool
unfolding is_test
is_sound (Refused e) = is_test e
is_sound (Body n) = nat_le n 65536

sound_cond : (b : Bool) (x y : Decision) → is_sound x ≡ true → is_sound y ≡ true → is_sound (cond b x y) ≡ true
sound_cond true x y p q = p
sound_cond false x y p q = q

sound_size : (n : ℕ) (b : Bool) → nat_lt 65536 n ≡ b → (c : Bool) → is_sound (cond b (Refused BodyTooLong) (cond c (Refused Media) (Body n))) ≡ true
unfolding is_sound is_test
sound_size n true e c = refl
sound_size n false e true = refl
sound_size n false e false = grind (arith, nat_tests)

sound_body : (m : Method) (l : Length) (form : Bool) → is_sound (decide_body m l form) ≡ true
unfolding is_sound is_test
sound_body m Missing form = sound_cond (is_post m) (Refused LengthRequired) (Body 0) refl refl
sound_body m Wrong form = refl
sound_body m (Bytes n) form = sound_size n (nat_lt 65536 n) refl (is_post m && nat_lt 0 n && not form)

sound_order : (minor : ℕ) (host coded : Bool) (m : Method) (l : Length) (form : Bool) → is_sound (decide_in_order minor host coded m l form) ≡ true
unfolding is_sound is_test
sound_order minor host coded m l form =
    sound_cond (minor == 1 && not host) (Refused NoHost) (cond coded (Refused Coding) (decide_body m l form)) refl
    (sound_cond coded (Refused Coding) (decide_body m l form) refl (sound_body m l form))

decide_sound : (h : RequestHead) → is_sound (decide h) ≡ true
unfolding decide_on
decide_sound h =
    let pairs = map name_and_value h.fields in
    sound_order h.minor (is_one (values (codes "host") pairs)) (not (is_none (values (codes "transfer-encoding") pairs)))
    (method_of h.method) (length_of (values (codes "content-length") pairs)) (is_form (values (codes "content-type") pairs))

pub decide_size : (h : RequestHead) (n : ℕ) → decide h ≡ Body n → n ≤ 65536
unfolding is_sound
decide_size h n e = let t : nat_le n 65536 ≡ true = sym (ap is_sound e) ∙ decide_sound h in grind (arith, nat_tests)

never : (e : ReadOutcome) (h : RequestHead) → is_test e ≡ false → decide h ≡ Refused e → ⊥
unfolding is_sound
never e h fails is = false≢true (sym fails ∙ sym (ap is_sound is) ∙ decide_sound h)

-- what a test refuses is refused as that
pub denied_refusal : (have : List ℕ) (ended : Type 0) (e : ReadOutcome) → IsDenied have e → IsRefusal have ended e have
unfolding is_test
denied_refusal have ended End d = absurd (never End d.head refl d.test)
denied_refusal have ended BadHead d = absurd (never BadHead d.head refl d.test)
denied_refusal have ended Truncated d = absurd (never Truncated d.head refl d.test)
denied_refusal have ended HeadTooLong d = absurd (never HeadTooLong d.head refl d.test)
denied_refusal have ended NoHost d = (d, refl)
denied_refusal have ended Coding d = (d, refl)
denied_refusal have ended BadLength d = (d, refl)
denied_refusal have ended LengthRequired d = (d, refl)
denied_refusal have ended BodyTooLong d = (d, refl)
denied_refusal have ended Media d = (d, refl)
denied_refusal have ended ReadFault d = absurd (never ReadFault d.head refl d.test)
denied_refusal have ended Memory d = absurd (never Memory d.head refl d.test)

-- no test refuses a head as a read fault
pub denied_no_fault : (have : List ℕ) (e : ReadOutcome) → IsDenied have e → e ≡ ReadFault → ⊥
unfolding is_test
denied_no_fault have e d is = never ReadFault d.head refl (d.test ∙ ap Refused is)
