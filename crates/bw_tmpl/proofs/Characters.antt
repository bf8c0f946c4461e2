-- Characters.
use Rattle.std.proofs.Common.{◌≡◌, ◌≢◌, ℕ, ◌<◌, Bool, true, false, List, [], ◌∷◌, ◌++◌, length, Some, None, refl, sym, ap, subst, ◌∙◌, arith, inl, inr}
use Rattle.std.specs.Prelude.{if◌then◌else◌, ◌||◌, ◌==◌, codes, nat_eq}
use Rattle.std.proofs.lemmas.Bool.Decides.{nat_tests}
use Rattle.std.proofs.lemmas.List.{length-append}
use Rattle.bw_tmpl.specs.Steps.Reading.{stripped, as_char, ref_at, char_at, each}
use Rattle.bw_lang.specs.Template.Pieces.{IsRef, IsChar}
use Rattle.bw_lang.proofs.Options.{where_cases, cond_none, some_is}
use Rattle.bw_tmpl.proofs.Many.{stripped_is, Shrinks, onto, onto_more, onto_none}

abbrev Written : ℕ → List ℕ → List ℕ → Type 0
Written c bytes rest = (w : List ℕ) × IsRef c w × (bytes ≡ w ++ rest)

as_char_is : (c : ℕ) (rest : List ℕ) (x : ℕ × List ℕ) → as_char c rest ≡ Some x → (x.0 ≡ c) × (rest ≡ x.1)
as_char_is c rest x h = let e = some_is (c, rest) x h in (sym (ap (λ (p : ℕ × List ℕ). p.0) e), ap (λ (p : ℕ × List ℕ). p.1) e)

ref_is : (bytes : List ℕ) (x : ℕ × List ℕ) → ref_at bytes ≡ Some x → Written x.0 bytes x.1
ref_is bytes x h =
    elim (where_cases (stripped (codes "&amp;") bytes) (as_char 38) _ (Some x) h) [
      | inl a ↦
          let e = as_char_is 38 a.0 x a.2 in (codes "&amp;", inl (e.0, refl), stripped_is (codes "&amp;") bytes x.1 (a.1 ∙ ap Some e.1))
      | inr n ↦
          elim (where_cases (stripped (codes "&lt;") bytes) (as_char 60) _ (Some x) n.1) [
            | inl a ↦
                let e = as_char_is 60 a.0 x a.2 in (codes "&lt;", inr (inl (e.0, refl)), stripped_is (codes "&lt;") bytes x.1 (a.1 ∙ ap Some e.1))
            | inr m ↦
                elim (where_cases (stripped (codes "&gt;") bytes) (as_char 62) _ (Some x) m.1) [
                  | inl a ↦
                      let e = as_char_is 62 a.0 x a.2 in (codes "&gt;", inr (inr (inl (e.0, refl))), stripped_is (codes "&gt;") bytes x.1 (a.1 ∙ ap Some e.1))
                  | inr k ↦
                      elim (where_cases (stripped (codes "&quot;") bytes) (as_char 34) _ (Some x) k.1) [
                        | inl a ↦
                            let e = as_char_is 34 a.0 x a.2 in
                            (codes "&quot;", inr (inr (inr (e.0, refl))), stripped_is (codes "&quot;") bytes x.1 (a.1 ∙ ap Some e.1))
                        | inr z ↦ absurd (none_is x z.1)
                      ]
                ]
          ]
    ]
  where
    none_is : (x : ℕ × List ℕ) → None ≡ Some x → ⊥
    none_is x h = cc

plain_is : (stop b : ℕ) (bs : List ℕ) (x : ℕ × List ℕ) (v : Bool) → nat_eq b 38 ≡ v
    → (if v then ref_at (b ∷ bs) else if b == 60 || b == stop then None else Some (b, bs)) ≡ Some x → IsChar stop x.0 (b ∷ bs) x.1
plain_is stop b bs x true e h = inr (ref_is (b ∷ bs) x h)
plain_is stop b bs x false e h =
    let n = cond_none (b == 60 || b == stop) (Some (b, bs)) x h in
    let q = some_is (b, bs) x n.1 in
    let p0 : b ≡ x.0 = ap (λ (p : ℕ × List ℕ). p.0) q in
    let p1 : bs ≡ x.1 = ap (λ (p : ℕ × List ℕ). p.1) q in
    let f = n.0 in
    let a : b ≢ 38 = grind (arith, nat_tests) in
    let d : b ≢ 60 = grind (arith, nat_tests) in
    let g : b ≢ stop = grind (arith, nat_tests) in
    inl (subst (λ (y : ℕ × List ℕ). (b ∷ bs ≡ y.0 ∷ y.1) × (y.0 ≢ 38) × (y.0 ≢ 60) × (y.0 ≢ stop)) q (refl, a, d, g))

pub char_is : (stop : ℕ) (bytes : List ℕ) (x : ℕ × List ℕ) → char_at stop bytes ≡ Some x → IsChar stop x.0 bytes x.1
char_is stop [] x h = absurd (cc)
char_is stop (b ∷ bs) x h = plain_is stop b bs x (nat_eq b 38) refl h

-- ---- what is written so is read

ref_written : (stop c : ℕ) (w rest : List ℕ) → IsRef c w → char_at stop (w ++ rest) ≡ Some (c, rest)
ref_written stop c w rest (inl h) = rw (h.0, h.1) refl
ref_written stop c w rest (inr (inl h)) = rw (h.0, h.1) refl
ref_written stop c w rest (inr (inr (inl h))) = rw (h.0, h.1) refl
ref_written stop c w rest (inr (inr (inr h))) = rw (h.0, h.1) refl

not_eq : (a b : ℕ) → a ≢ b → nat_eq a b ≡ false
not_eq a b h = grind (arith, nat_tests)

pub char_written : (stop c : ℕ) (bytes rest : List ℕ) → IsChar stop c bytes rest → char_at stop bytes ≡ Some (c, rest)
char_written stop c bytes rest (inl h) = ap (char_at stop) h.0 ∙ rw (not_eq c 38 h.1, not_eq c 60 h.2, not_eq c stop h.3) refl
char_written stop c bytes rest (inr h) = ap (char_at stop) h.2 ∙ ref_written stop c h.0 rest h.1

-- ---- each takes a byte at least

char_shorter : (stop c : ℕ) (bytes rest : List ℕ) → IsChar stop c bytes rest → length rest < length bytes
char_shorter stop c bytes rest (inl h) = let e = ap length h.0 in omega arith
char_shorter stop c bytes rest (inr (w, inl h, p)) =
    let e : length bytes ≡ length (w ++ rest) = ap length p in let k = length-append w rest in let m : length w ≡ 5 = ap length h.1 in omega arith
char_shorter stop c bytes rest (inr (w, inr (inl h), p)) =
    let e : length bytes ≡ length (w ++ rest) = ap length p in let k = length-append w rest in let m : length w ≡ 4 = ap length h.1 in omega arith
char_shorter stop c bytes rest (inr (w, inr (inr (inl h)), p)) =
    let e : length bytes ≡ length (w ++ rest) = ap length p in let k = length-append w rest in let m : length w ≡ 4 = ap length h.1 in omega arith
char_shorter stop c bytes rest (inr (w, inr (inr (inr h)), p)) =
    let e : length bytes ≡ length (w ++ rest) = ap length p in let k = length-append w rest in let m : length w ≡ 6 = ap length h.1 in omega arith

pub char_shrinks : (stop : ℕ) → Shrinks (char_at stop)
char_shrinks stop = record { less = λ bytes x e. char_shorter stop x.0 bytes x.1 (char_is stop bytes x e) }

-- ---- for the loop

pub chars_more : (stop : ℕ) (front : List ℕ) (bytes : List ℕ) (c : ℕ) (rest : List ℕ) (total : List ℕ × List ℕ) → char_at stop bytes ≡ Some (c, rest)
    → onto front (each (char_at stop) bytes) ≡ total → onto (front ++ c ∷ []) (each (char_at stop) rest) ≡ total
chars_more stop = onto_more (char_at stop) (char_shrinks stop)

pub chars_end : (stop : ℕ) (front : List ℕ) (bytes : List ℕ) (total : List ℕ × List ℕ) → char_at stop bytes ≡ None
    → onto front (each (char_at stop) bytes) ≡ total → total ≡ (front, bytes)
chars_end stop = onto_none (char_at stop) (char_shrinks stop)
