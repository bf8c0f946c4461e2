-- How readers are put together.
use Rattle.std.proofs.Common.{◌≡◌, ◌<◌, ◌≤◌, ℕ, suc, Bool, true, false, cond, List, [], ◌∷◌, ◌++◌, length, get_or, take, drop, Option, Some, None, refl}
use Rattle.std.proofs.Common.{sym, ap, subst, ◌∙◌, append_assoc, arith}
use Rattle.std.specs.Prelude.{◌+◌}
use Rattle.std.proofs.lemmas.List.{append-nil, get_or-drop}
use Rattle.bw_saved.specs.Codec.{IsBytes, Takes, IsCodec}
use Rattle.bw_saved.specs.Fields.Reading.{◌>>=◌}

pub IsBytes-rest : (b : ℕ) (bytes : List ℕ) → IsBytes (b ∷ bytes) → IsBytes bytes
IsBytes-rest b bytes h i = h (suc i)

pub IsBytes-drop : (n : ℕ) (bytes : List ℕ) → IsBytes bytes → IsBytes (drop n bytes)
IsBytes-drop n bytes h i = rw get_or-drop (h (n + i))

-- the value of a step that did not fail
pub bind_some : {A B : Type 0} (r : Option A) (f : A → Option B) (y : B) → (r >>= f) ≡ Some y → (x : A) × (r ≡ Some x) × (f x ≡ Some y)
bind_some None f y e = absurd cc
bind_some (Some x) f y e = (x, refl, e)

pub bind_none : {A B : Type 0} (r : Option A) (f : A → Option B) → r ≡ None → (r >>= f) ≡ None
bind_none None f e = refl
bind_none (Some x) f e = absurd cc

-- a test that did not fail
pub guarded : {A : Type 0} (b : Bool) (r : Option A) (y : A) → cond b r None ≡ Some y → (b ≡ true) × (r ≡ Some y)
guarded true r y e = (refl, e)
guarded false r y e = absurd cc

pub unless : {A : Type 0} (b : Bool) (r : Option A) (y : A) → cond b None r ≡ Some y → (b ≡ false) × (r ≡ Some y)
unless true r y e = absurd cc
unless false r y e = (refl, e)

pub some : {A : Type 0} → A → Option A
some x = Some x

abbrev pub here : {A : Type 0} → A → Option A
here x = Some x

pub some_is : {A : Type 0} (x y : A) → here x ≡ here y → x ≡ y
some_is x y e = cc

pub Takes-then : (a x b y c : List ℕ) → Takes a x b → Takes b y c → Takes a (x ++ y) c
Takes-then a x b y c p q = record { parts = p.parts ∙ ap (λ (t : List ℕ). x ++ t) q.parts ∙ sym (append_assoc x y c); rest_fits = q.rest_fits }

-- ---- one reader behind another

-- Where the second reads what tells the first's value by `proj`.
pub binds : {A C : Type 0} (sa : A → List ℕ) (Fa : A → Type 0) (ra : List ℕ → Option (A × List ℕ)) (proj : C → A)
    (sk : A → C → List ℕ) (Fk : A → C → Type 0) (rk : A → List ℕ → Option (C × List ℕ)) →
    IsCodec sa Fa ra → ((x : A) → Fa x → IsCodec (sk x) (Fk x) (rk x)) → ((x : A) (z : C) → Fk x z → proj z ≡ x) →
    IsCodec (λ z. sa (proj z) ++ sk (proj z) z) (λ z. Fa (proj z) × Fk (proj z) z) (λ bytes. ra bytes >>= λ x. rk x.0 x.1)
binds {A} {C} sa Fa ra proj sk Fk rk a k tells = record {
  takes = λ bytes z fits e.
      let b = bind_some (ra bytes) (λ x. rk x.0 x.1) z e in
      let x = b.0 in
      let p = a.takes bytes x fits b.1 in
      let q = (k x.0 p.1).takes x.1 z p.0.rest_fits b.2 in
      let same : x.0 ≡ proj z.0 = sym (tells x.0 z.0 q.1) in
      subst (λ (y : A). Takes bytes (sa y ++ sk y z.0) z.1 × (Fa y × Fk y z.0)) same
      (Takes-then bytes (sa x.0) x.1 (sk x.0 z.0) z.1 p.0 q.0, (p.1, q.1));
  again = λ z rest fits.
      let x = proj z in
      let one : ra ((sa x ++ sk x z) ++ rest) ≡ Some (x, sk x z ++ rest) =
      ap ra (append_assoc (sa x) (sk x z) rest) ∙ a.again x (sk x z ++ rest) fits.0 in
      ap (λ (r : Option (A × List ℕ)). r >>= λ x. rk x.0 x.1) one ∙ (k x fits.0).again z rest fits.1;
}

-- the value is made, without a byte more
pub ends : {C : Type 0} (c : C) → IsCodec (λ (z : C). []) (λ z. z ≡ c) (λ bytes. Some (c, bytes))
ends {C} c = record {
  takes = λ bytes z fits e.
      subst (λ (y : C × List ℕ). Takes bytes [] y.1 × (y.0 ≡ c)) (some_is (c, bytes) z e) (record { parts = refl; rest_fits = fits }, refl);
  again = λ z rest fits. ap (λ (y : C). Some (y, rest)) (sym fits);
}

-- a test in front
pub tests : {A : Type 0} (s : A → List ℕ) (F : A → Type 0) (r : List ℕ → Option (A × List ℕ)) (b : Bool) → IsCodec s F r →
    IsCodec s (λ z. (b ≡ true) × F z) (λ bytes. cond b (r bytes) None)
tests {A} s F r b c = record {
  takes = λ bytes z fits e. let g = guarded b (r bytes) z e in let t = c.takes bytes z fits g.1 in (t.0, (g.0, t.1));
  again = λ z rest fits. ap (λ (t : Bool). cond t (r (s z ++ rest)) None) fits.0 ∙ c.again z rest fits.1;
}

-- the same under another name
pub is_codec : {A : Type 0} (s s1 : A → List ℕ) (F F1 : A → Type 0) (r : List ℕ → Option (A × List ℕ)) → IsCodec s F r →
    ((z : A) → F1 z → s1 z ≡ s z) → ((z : A) → F z → F1 z) → ((z : A) → F1 z → F z) → IsCodec s1 F1 r
is_codec {A} s s1 F F1 r c same to from = record {
  takes = λ bytes z fits e.
      let t = c.takes bytes z fits e in
      (record { parts = t.0.parts ∙ ap (λ (x : List ℕ). x ++ z.1) (sym (same z.0 (to z.0 t.1))); rest_fits = t.0.rest_fits }, to z.0 t.1);
  again = λ z rest fits. ap (λ (x : List ℕ). r (x ++ rest)) (same z fits) ∙ c.again z rest (from z fits);
}

-- no two values that fit begin the same bytes
pub reads_once : {A : Type 0} (s : A → List ℕ) (F : A → Type 0) (r : List ℕ → Option (A × List ℕ)) → IsCodec s F r →
    (x y : A) (t u : List ℕ) → F x → F y → s x ++ t ≡ s y ++ u → (x ≡ y) × (t ≡ u)
reads_once {A} s F r c x y t u fx fy e =
    let one = some_is (x, t) (y, u) (sym (c.again x t fx) ∙ ap r e ∙ c.again y u fy) in
    (ap (λ (p : A × List ℕ). p.0) one, ap (λ (p : A × List ℕ). p.1) one)
