-- What a file holds, and that no other file holds it.
use Rattle.std.proofs.Common.{◌≡◌, ◌<◌, ◌≤◌, ℕ, ◌+◌, ◌-◌, ◌^◌, Bool, true, false, cond, eqb, ltb, List, [], ◌∷◌, ◌++◌, length, take, drop, Option, Some}
use Rattle.std.proofs.Common.{None, Result, Ok, Err, refl, sym, ap, subst, ◌∙◌, append_assoc, arith}
use Rattle.std.specs.Prelude.{nat_lt, ◌&&◌, codes}
use Rattle.std.specs.Int.{w32, to_be_bytes}
use Rattle.std.proofs.lemmas.Bool.{eqb-true, eq-eqb, ltb-true, ltb-false, lt-ltb, le-ltb}
use Rattle.std.proofs.lemmas.List.{append-nil, nil_from_length, take_at, drop_at, take-append-drop, length-append, length-take}
use Rattle.bw_saved.specs.Codec.{IsBytes, Takes, IsCodec}
use Rattle.bw_saved.specs.Fields.Reading.{◌>>=◌, number_at}
use Rattle.bw_saved.specs.Fields.Spelling.{text}
use Rattle.bw_saved.proofs.Codecs.{IsBytes-rest, IsBytes-drop, bind_some, guarded, unless, some_is, Takes-then}
use Rattle.bw_saved.proofs.FieldLaws.{u32_codec}
use Rattle.bw_lang.proofs.SameNames.{same_self}
use Rattle.bw_lang.proofs.SameNames.{same_is}
use Rattle.bw_flow.specs.Layout.{plan_of, flow_of}
use Rattle.bw_lang.specs.declared.service.Service.{Service}
use Rattle.bw_lang.specs.Table.Names.{same}
use Rattle.bw_saved.specs.declared.file.FileFault.{FileFault}
use Rattle.bw_saved.specs.declared.file.FileFault.TheVariants.{TooLong, Malformed, Version, OtherService}
use Rattle.bw_saved.specs.declared.limits.TheConstants.{MAX_SAVED_BYTES, VERSION}
use Rattle.bw_saved.specs.declared.saved.Saved.{Saved}
use Rattle.bw_saved.specs.Files.{behind, digit_at, version_at, so_many, bytes_at, by_rest, by_text, by_version, decided}
use Rattle.bw_saved.specs.FileLaws.{IsFile}
use Rattle.bw_saved.specs.Sessions.Layout.{waiting, file}
use Rattle.bw_saved.specs.Sessions.Reading.{waiting_at, ended}
use Rattle.bw_saved.specs.Sessions.Demands.{IsSaved}
use Rattle.bw_saved.proofs.Waiting.{waiting_codec}
use Rattle.bw_saved.specs.Documents.Demands.{IsSmall}

-- ---- the head

behind_takes : (p bytes rest : List ℕ) → behind p bytes ≡ Some rest → bytes ≡ p ++ rest
behind_takes [] bytes rest e = some_is bytes rest e
behind_takes (p ∷ ps) [] rest e = absurd cc
behind_takes (p ∷ ps) (b ∷ bytes) rest e =
    let g = guarded (eqb b p) (behind ps bytes) rest e in
    ap (λ (x : ℕ). x ∷ bytes) (eqb-true _ _ g.0) ∙ ap (λ (x : List ℕ). p ∷ x) (behind_takes ps bytes rest g.1)

digit_takes : (bytes : List ℕ) (x : ℕ × List ℕ) → digit_at bytes ≡ Some x → (bytes ≡ (48 + x.0) ∷ 10 ∷ x.1) × (1 ≤ x.0)
digit_takes [] x e = absurd cc
digit_takes (d ∷ []) x e = absurd cc
digit_takes (d ∷ lf ∷ bytes) x e =
    let g = guarded (nat_lt 48 d && (nat_lt d 58 && eqb lf 10)) (Some (d - 48, bytes)) x e in
    let t = parts (nat_lt 48 d) (nat_lt d 58) (eqb lf 10) g.0 in
    let low : 48 < d = ltb-true _ _ t.0 in
    let back : d ≡ 48 + (d - 48) = omega (arith, low) in
    subst (λ (y : ℕ × List ℕ). (d ∷ lf ∷ bytes ≡ (48 + y.0) ∷ 10 ∷ y.1) × (1 ≤ y.0)) (some_is (d - 48, bytes) x g.1)
    (ap (λ (n : ℕ). n ∷ lf ∷ bytes) back ∙ ap (λ (n : ℕ). (48 + (d - 48)) ∷ n ∷ bytes) (eqb-true _ _ t.2), omega (arith, low))
  where
    parts : (a b c : Bool) → (a && (b && c)) ≡ true → (a ≡ true) × (b ≡ true) × (c ≡ true)
    parts true true true e = (refl, refl, refl)
    parts true true false e = absurd cc
    parts true false c e = absurd cc
    parts false b c e = absurd cc

bytes_takes : (bytes : List ℕ) (x : List ℕ × List ℕ) → IsBytes bytes → bytes_at bytes ≡ Some x → Takes bytes (text x.0) x.1
bytes_takes bytes x fits e =
    let a = bind_some (number_at w32 bytes) so_many x e in
    let n = a.0 in
    let t = u32_codec.takes bytes n fits a.1 in
    let g = unless (ltb (length n.1) n.0) (Some (take n.0 n.1, drop n.0 n.1)) x a.2 in
    let long : n.0 ≤ length n.1 = ltb-false _ _ g.0 in
    let len : length (take n.0 n.1) ≡ n.0 = omega (arith, length-take n.0 n.1) in
    let second : Takes n.1 (take n.0 n.1) (drop n.0 n.1) = record { parts = sym (take-append-drop n.0 n.1); rest_fits = IsBytes-drop n.0 n.1 t.0.rest_fits } in
    let both = Takes-then bytes (to_be_bytes w32 n.0) n.1 (take n.0 n.1) (drop n.0 n.1) t.0 second in
    let whole : Takes bytes (text (take n.0 n.1)) (drop n.0 n.1) = subst (λ (k : ℕ). Takes bytes (to_be_bytes w32 k ++ take n.0 n.1) (drop n.0 n.1)) (sym len)
    both in
    subst (λ (p : List ℕ × List ℕ). Takes bytes (text p.0) p.1) (some_is (take n.0 n.1, drop n.0 n.1) x g.1) whole

bytes_again : (s rest : List ℕ) → length s < 2 ^ 32 → bytes_at (text s ++ rest) ≡ Some (s, rest)
bytes_again s rest lt =
    let long : ltb (length (s ++ rest)) (length s) ≡ false = le-ltb _ _ (omega (arith, length-append s rest)) in
    let one : number_at w32 (text s ++ rest) ≡ Some (length s, s ++ rest) =
    ap (number_at w32) (append_assoc (to_be_bytes w32 (length s)) s rest) ∙ u32_codec.again (length s) (s ++ rest) lt in
    rw (one, long, take_at s rest (length s) refl, drop_at s rest (length s) refl) refl

-- ---- files

-- what may be saved is read again
pub file_again : (service : Service) → IsSmall service → (t : List ℕ) (s : Saved) → IsSaved service s → length t < 2 ^ 32 →
    length (file (flow_of service) t s) ≤ MAX_SAVED_BYTES → decided service (plan_of service) t (file (flow_of service) t s) ≡ Ok s
file_again service small t s h lt short =
    let w = waiting (flow_of service) s in
    let all : ended (waiting_at service (plan_of service) w) ≡ Some s =
    ap (λ (x : List ℕ). ended (waiting_at service (plan_of service) x)) (sym (append-nil w)) ∙ ap ended ((waiting_codec service small).again s [] h) in
    let front : by_text service (plan_of service) t (Some (t, w)) ≡ Ok s =
    ap (λ (b : Bool). cond b (by_rest (ended (waiting_at service (plan_of service) w))) (Err OtherService)) (same_self t) ∙ ap by_rest all in
    ap (λ (b : Bool). cond b (Err TooLong) (by_version service (plan_of service) t (version_at (file (flow_of service) t s)))) (le-ltb _ _ short)
    ∙ ap (by_text service (plan_of service) t) (bytes_again t w lt) ∙ front

-- ---- and what is read may be saved

rest_found : (o : Option Saved) (s : Saved) → by_rest o ≡ Ok s → o ≡ Some s
rest_found None s e = absurd cc
rest_found (Some x) s e = cc

ended_found : (o : Option (Saved × List ℕ)) (s : Saved) → ended o ≡ Some s → o ≡ Some (s, [])
ended_found None s e = absurd cc
ended_found (Some x) s e =
    let g = guarded (eqb (length x.1) 0) (Some x.0) s e in
    let one : x.0 ≡ s = some_is x.0 s g.1 in
    let none : x.1 ≡ [] = nil_from_length x.1 (eqb-true _ _ g.0) in
    ap (λ (y : Saved). Some (y, x.1)) one ∙ ap (λ (r : List ℕ). Some (s, r)) none

text_found : (service : Service) → IsSmall service → (t : List ℕ) (bytes : List ℕ) (o : Option (List ℕ × List ℕ)) (s : Saved) → IsBytes bytes →
    bytes_at bytes ≡ o → by_text service (plan_of service) t o ≡ Ok s → (bytes ≡ text t ++ waiting (flow_of service) s) × IsSaved service s
text_found service small t bytes None s fits is e = absurd cc
text_found service small t bytes (Some x) s fits is e = by (same x.0 t) refl e
  where
    by : (b : Bool) → same x.0 t ≡ b → cond b (by_rest (ended (waiting_at service (plan_of service) x.1))) (Err OtherService) ≡ Ok s →
        (bytes ≡ text t ++ waiting (flow_of service) s) × IsSaved service s
    by false q e = absurd cc
    by true q e =
        let p = bytes_takes bytes x fits is in
        let w = ended_found (waiting_at service (plan_of service) x.1) s (rest_found (ended (waiting_at service (plan_of service) x.1)) s e) in
        let c = (waiting_codec service small).takes x.1 (s, []) p.rest_fits w in (
          p.parts ∙ ap (λ (y : List ℕ). text y ++ x.1) (same_is x.0 t q) ∙ ap (λ (r : List ℕ). text t ++ r)
              (c.0.parts ∙ append-nil (waiting (flow_of service) s)),
          c.1,
        )

rest_of : (x : List ℕ) → IsBytes (codes "BWSAVE" ++ (49 ∷ 10 ∷ x)) → IsBytes x
rest_of x h = IsBytes-drop 8 (codes "BWSAVE" ++ (49 ∷ 10 ∷ x)) h

version_found : (service : Service) → IsSmall service → (t : List ℕ) (bytes : List ℕ) (o : Option (ℕ × List ℕ)) (s : Saved) → IsBytes bytes →
    version_at bytes ≡ o → by_version service (plan_of service) t o ≡ Ok s → (bytes ≡ file (flow_of service) t s) × IsSaved service s
version_found service small t bytes None s fits is e = absurd cc
version_found service small t bytes (Some v) s fits is e = by (eqb v.0 VERSION) refl e
  where
    by : (b : Bool) → eqb v.0 VERSION ≡ b → cond b (by_text service (plan_of service) t (bytes_at v.1)) (Err (Version v.0)) ≡ Ok s →
        (bytes ≡ file (flow_of service) t s) × IsSaved service s
    by false q e = absurd cc
    by true q e =
        let a = bind_some (behind (codes "BWSAVE") bytes) digit_at v is in
        let front = behind_takes (codes "BWSAVE") bytes a.0 a.1 in
        let d = digit_takes a.0 v a.2 in
        let one : v.0 ≡ 1 = eqb-true _ _ q in
        let whole : bytes ≡ codes "BWSAVE" ++ (49 ∷ 10 ∷ v.1) =
        front ∙ ap (λ (x : List ℕ). codes "BWSAVE" ++ x) (d.0 ∙ ap (λ (n : ℕ). (48 + n) ∷ 10 ∷ v.1) one) in
        let rest_fits : IsBytes v.1 = rest_of v.1 (subst IsBytes whole fits) in
        let r = text_found service small t v.1 (bytes_at v.1) s rest_fits refl e in
        (whole ∙ ap (λ (x : List ℕ). codes "BWSAVE" ++ (49 ∷ 10 ∷ x)) r.0, r.1)

pub file_found : (service : Service) → IsSmall service → (t bytes : List ℕ) (s : Saved) → IsBytes bytes →
    decided service (plan_of service) t bytes ≡ Ok s → IsFile service t bytes s
file_found service small t bytes s fits e = by (nat_lt MAX_SAVED_BYTES (length bytes)) refl e
  where
    by : (b : Bool) → nat_lt MAX_SAVED_BYTES (length bytes) ≡ b → cond b (Err TooLong) (by_version service (plan_of service) t (version_at bytes)) ≡ Ok s →
        IsFile service t bytes s
    by true q e = absurd cc
    by false q e =
        let v = version_found service small t bytes (version_at bytes) s fits refl e in
        record { short = ltb-false _ _ q; is = v.0; saved = v.1 }
