-- Several of a kind, and the values of attributes.
use Rattle.std.proofs.Common.{◌≡◌, ℕ, zero, suc, ◌≤◌, List, [], ◌∷◌, ◌++◌, length, Option, Some, None, refl}
use Rattle.std.proofs.Common.{sym, ap, subst, ◌∙◌, arith, ◌⊎◌, inl, inr}
use Rattle.std.specs.Prelude.{codes, IsUtf8}
use Rattle.std.specs.Str.{is_utf8}
use Rattle.std.proofs.lemmas.Str.{IsUtf8-from_is_utf8}
use Rattle.bw_lang.specs.declared.pieces.NameClass.TheVariants as class
use Rattle.bw_lang.specs.declared.pieces.RawValue.{RawValue}
use Rattle.bw_lang.specs.declared.pieces.RawValue.TheVariants as raw
use Rattle.bw_lang.specs.Table.Options.{◌>>=◌}
use Rattle.bw_tmpl.specs.Steps.Reading.{stripped, name_at, char_at, many, many_next, each, checked, quoted_at, hole_at, value_at}
use Rattle.bw_lang.specs.Template.Pieces.{IsNameOf, IsChar, Each, IsValue}
use Rattle.bw_lang.proofs.Options.{none_some, bind_some, where_cases, cond_some, some_is}
use Rattle.bw_tmpl.proofs.Many.{stripped_is, stripped_again, Shrinks, put, each_more, each_none}
use Rattle.bw_tmpl.proofs.Characters.{char_shrinks, char_is, char_written}
use Rattle.bw_tmpl.proofs.Runs.{checked_ok}
use Rattle.bw_tmpl.proofs.SpelledNames.{name_is, name_written}

-- ---- each

pub record SpeltEach {A : Type 0} (step : List ℕ → Option (A × List ℕ)) (R : A → List ℕ → List ℕ → Type 0) (bytes : List ℕ) (t : List A × List ℕ) : Type 0 where
  pub all : Each R t.0 bytes t.1
  pub no_more : step t.1 ≡ None

many_is : {A : Type 0} (step : List ℕ → Option (A × List ℕ)) (R : A → List ℕ → List ℕ → Type 0) → Shrinks step
    → ((bytes : List ℕ) (x : A × List ℕ) → step bytes ≡ Some x → R x.0 bytes x.1) → (n : ℕ) (bytes : List ℕ) → length bytes ≤ n
    → SpeltEach step R bytes (many step n bytes)
unfolding many
many_is {A} step R s r zero bytes le = record { all = refl; no_more = nothing (step bytes) refl }
  where
    nothing : (o : Option (A × List ℕ)) → step bytes ≡ o → step bytes ≡ None
    nothing None e = e
    nothing (Some x) e = absurd (omega (arith, s.less bytes x e))
many_is {A} step R s r (suc n) bytes le = one (step bytes) refl (many_is step R s r n)
  where
    one : (o : Option (A × List ℕ)) → step bytes ≡ o → ((bs : List ℕ) → length bs ≤ n → SpeltEach step R bs (many step n bs))
        → SpeltEach step R bytes (many_next o bytes (many step n))
    one None e ih = record { all = refl; no_more = e }
    one (Some x) e ih = let k = ih x.1 (omega (arith, s.less bytes x e)) in record { all = (x.1, r bytes x e, k.all); no_more = k.no_more }

pub each_is : {A : Type 0} (step : List ℕ → Option (A × List ℕ)) (R : A → List ℕ → List ℕ → Type 0) → Shrinks step
    → ((bytes : List ℕ) (x : A × List ℕ) → step bytes ≡ Some x → R x.0 bytes x.1) → (bytes : List ℕ) → SpeltEach step R bytes (each step bytes)
each_is step R s r bytes = many_is step R s r (length bytes) bytes (omega arith)

pub each_written : {A : Type 0} (step : List ℕ → Option (A × List ℕ)) (R : A → List ℕ → List ℕ → Type 0) → Shrinks step
    → ((x : A) (bytes rest : List ℕ) → R x bytes rest → step bytes ≡ Some (x, rest)) → (xs : List A) (bytes rest : List ℕ) → Each R xs bytes rest
    → step rest ≡ None → each step bytes ≡ (xs, rest)
each_written step R s r [] bytes rest h e = each_none step s bytes (ap step h ∙ e) ∙ (λ i. ([], h i))
each_written step R s r (x ∷ xs) bytes rest h e = each_more step s bytes (x, h.0) (r x bytes h.0 h.1) ∙ ap (put x) (each_written step R s r xs h.0 rest h.2 e)

pub chars_is : (stop : ℕ) (bytes : List ℕ) → SpeltEach (char_at stop) (IsChar stop) bytes (each (char_at stop) bytes)
chars_is stop bytes = each_is (char_at stop) (IsChar stop) (char_shrinks stop) (char_is stop) bytes

pub chars_written : (stop : ℕ) (t bytes rest : List ℕ) → Each (IsChar stop) t bytes rest → char_at stop rest ≡ None → each (char_at stop) bytes ≡ (t, rest)
chars_written stop t bytes rest h e = each_written (char_at stop) (IsChar stop) (char_shrinks stop) (char_written stop) t bytes rest h e

-- ---- values

pub checked_is : (t v : List ℕ) → checked t ≡ Some v → IsUtf8 t × (t ≡ v)
checked_is t v h = let c = cond_some (is_utf8 t) t v h in (IsUtf8-from_is_utf8 t c.0, c.1)

quoted_is : (q : ℕ) (bytes : List ℕ) (x : RawValue × List ℕ) → ((q ≡ 34) ⊎ (q ≡ 39)) → quoted_at q bytes ≡ Some x → IsValue x.0 (q ∷ bytes) x.1
unfolding quoted_at
quoted_is q bytes x hq h =
    let t = each (char_at q) bytes in
    let a = bind_some (checked t.0) (λ v. stripped (q ∷ []) t.1 >>= λ rest. Some (raw.Fixed v, rest)) x h in
    let b = bind_some (stripped (q ∷ []) t.1) (λ rest. Some (raw.Fixed a.0, rest)) x a.2 in
    let u = checked_is t.0 a.0 a.1 in
    let p : t.1 ≡ q ∷ b.0 = stripped_is (q ∷ []) t.1 b.0 b.1 in
    let cs : Each (IsChar q) a.0 bytes (q ∷ b.0) = subst (λ (y : List ℕ × List ℕ). Each (IsChar q) y.0 bytes y.1) (λ i. (u.1 i, p i)) (chars_is q bytes).all in
    let v : IsUtf8 a.0 = subst IsUtf8 u.1 u.0 in
    subst (λ (y : RawValue × List ℕ). IsValue y.0 (q ∷ bytes) y.1) (some_is (raw.Fixed a.0, b.0) x b.2) (q, hq, bytes, refl, cs, v)

hole_is : (bytes : List ℕ) (x : RawValue × List ℕ) → hole_at bytes ≡ Some x → IsValue x.0 (91 ∷ bytes) x.1
unfolding hole_at
hole_is bytes x h =
    let a = bind_some (name_at class.Word bytes) (λ n. stripped (codes "]") n.1 >>= λ rest. Some (raw.Hole n.0, rest)) x h in
    let b = bind_some (stripped (codes "]") a.0.1) (λ rest. Some (raw.Hole a.0.0, rest)) x a.2 in
    let n = name_is class.Word bytes a.0 a.1 in
    let p : a.0.1 ≡ 93 ∷ b.0 = stripped_is (codes "]") a.0.1 b.0 b.1 in
    subst (λ (y : RawValue × List ℕ). IsValue y.0 (91 ∷ bytes) y.1) (some_is (raw.Hole a.0.0, b.0) x b.2)
    (n.name, ap (λ (l : List ℕ). 91 ∷ l) (n.parts ∙ ap (λ (l : List ℕ). a.0.0 ++ l) p))

pub value_is : (bytes : List ℕ) (x : RawValue × List ℕ) → value_at bytes ≡ Some x → IsValue x.0 bytes x.1
unfolding value_at
value_is bytes x h =
    elim (where_cases (stripped (codes "\"") bytes) (quoted_at 34) _ (Some x) h) [
      | inl a ↦ subst (λ (l : List ℕ). IsValue x.0 l x.1) (sym (stripped_is (codes "\"") bytes a.0 a.1)) (quoted_is 34 a.0 x (inl refl) a.2)
      | inr n ↦
          elim (where_cases (stripped (codes "'") bytes) (quoted_at 39) _ (Some x) n.1) [
            | inl a ↦ subst (λ (l : List ℕ). IsValue x.0 l x.1) (sym (stripped_is (codes "'") bytes a.0 a.1)) (quoted_is 39 a.0 x (inr refl) a.2)
            | inr m ↦
                elim (where_cases (stripped (codes "[") bytes) hole_at None (Some x) m.1) [
                  | inl a ↦ subst (λ (l : List ℕ). IsValue x.0 l x.1) (sym (stripped_is (codes "[") bytes a.0 a.1)) (hole_is a.0 x a.2)
                  | inr z ↦ absurd (none_some x z.1)
                ]
          ]
    ]

quoted_written : (q : ℕ) (v u rest : List ℕ) → char_at q (q ∷ rest) ≡ None → Each (IsChar q) v u (q ∷ rest) → IsUtf8 v
    → quoted_at q u ≡ Some (raw.Fixed v, rest)
unfolding quoted_at
quoted_written q v u rest e h k =
    ap (λ (t : List ℕ × List ℕ). checked t.0 >>= λ w. stripped (q ∷ []) t.1 >>= λ r. Some (raw.Fixed w, r)) (chars_written q v u (q ∷ rest) h e)
    ∙ ap (λ (o : Option (List ℕ)). o >>= λ w. stripped (q ∷ []) (q ∷ rest) >>= λ r. Some (raw.Fixed w, r)) (checked_ok v k)
    ∙ ap (λ (o : Option (List ℕ)). o >>= λ r. Some (raw.Fixed v, r)) (stripped_again (q ∷ []) rest)

value_quoted : (q : ℕ) (u : List ℕ) → ((q ≡ 34) ⊎ (q ≡ 39)) → value_at (q ∷ u) ≡ quoted_at q u
unfolding value_at
value_quoted q u (inl h) = rw h refl
value_quoted q u (inr h) = rw h refl

quote_ends : (q : ℕ) (rest : List ℕ) → ((q ≡ 34) ⊎ (q ≡ 39)) → char_at q (q ∷ rest) ≡ None
quote_ends q rest (inl h) = rw h refl
quote_ends q rest (inr h) = rw h refl

hole_written : (n rest : List ℕ) → IsNameOf class.Word n → value_at (91 ∷ (n ++ 93 ∷ rest)) ≡ Some (raw.Hole n, rest)
unfolding value_at hole_at
hole_written n rest h =
    ap (λ (o : Option (List ℕ × List ℕ)). o >>= λ m. stripped (codes "]") m.1 >>= λ r. Some (raw.Hole m.0, r)) (name_written class.Word n (93 ∷ rest) h refl)

pub value_written : (v : RawValue) (bytes rest : List ℕ) → IsValue v bytes rest → value_at bytes ≡ Some (v, rest)
value_written (raw.Fixed v) bytes rest h = ap value_at h.3 ∙ value_quoted h.0 h.2 h.1 ∙ quoted_written h.0 v h.2 rest (quote_ends h.0 rest h.1) h.4 h.5
value_written (raw.Hole n) bytes rest h = ap value_at h.1 ∙ hole_written n rest h.0
