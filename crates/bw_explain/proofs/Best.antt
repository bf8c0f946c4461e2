-- The least of some documents.
use Rattle.std.proofs.Common.{◌≡◌, inl, inr, ◌⊎◌, ℕ, ◌<◌, ◌≤◌, Bool, true, false, nat_lt, if◌then◌else◌, List, [], ◌∷◌, ◌++◌, refl, sym, ◌∙◌, subst}
use Rattle.std.proofs.Common.{arith}
use Rattle.std.proofs.lemmas.Bool.{false≢true}
use Rattle.std.proofs.lemmas.Bool.Decides.{nat_tests}
use Rattle.std.proofs.lemmas.List.Elements.{Contains-push, Contains-append_left, Contains-push_cases}
use Rattle.bw_lang.specs.Document.Forest.{Forest}
use Rattle.bw_lang.specs.Document.Documents.{close}
use Rattle.bw_schema.specs.declared.rules.Rule.{Rule}
use Rattle.bw_sum.specs.Graph.{Graph}
use Rattle.bw_explain.specs.declared.sizes.TheConstants.{MAX_SIZE, PAST, NONE}
use Rattle.bw_explain.specs.declared.atom.Atom.{Atom}
use Rattle.bw_explain.specs.declared.explained.Explained.TheVariants as answers
use Rattle.bw_explain.specs.declared.finding.Found.{Found}
use Rattle.bw_explain.specs.Explained.{IsAnswer, page_of, all_big, none_there, Place, Finds, FindsOne, IsBest, IsFoundAt, better, answer_of}
use Rattle.bw_explain.specs.Sizes.{size, IsLeast}
use Rattle.bw_explain.specs.Tables.{Table, doc_at, Solved}

-- what a test of two numbers says
test_says : (s m : ℕ) → ((nat_lt s m ≡ true) × (s < m)) ⊎ ((nat_lt s m ≡ false) × (m ≤ s))
test_says s m = grind (arith, nat_tests)

is_less : (s m : ℕ) → nat_lt s m ≡ true → s < m
is_less s m h = elim (test_says s m) [ inl k ↦ k.1 | inr k ↦ absurd (false≢true (sym k.0 ∙ h)) ]

is_not_less : (s m : ℕ) → nat_lt s m ≡ false → m ≤ s
is_not_less s m h = elim (test_says s m) [ inl k ↦ absurd (false≢true (sym h ∙ k.0)) | inr k ↦ k.1 ]

pub best_at : (Has : ℕ → Forest → Type 0) (t : Table) (n s : ℕ) (d : Forest) → Solved Has t → IsFoundAt t n s d → IsBest (Has n) s d
best_at Has t n s d is f = record {
  least = subst (λ x. IsLeast (Has n) x) (sym f.0) (is.least n);
  doc = λ l. subst (λ e. Has n e × (size e ≤ s)) (sym f.1) (let k = is.doc n (subst (λ x. x ≤ MAX_SIZE) f.0 l) in
      (k.0, subst (λ x. size (doc_at t n) ≤ x) (sym f.0) k.1));
}

-- the same documents
pub best_same : (Has Also : Forest → Type 0) (s : ℕ) (d : Forest) → ((e : Forest) → Has e → Also e) → ((e : Forest) → Also e → Has e) → IsBest Has s d
    → IsBest Also s d
best_same Has Also s d f g is = record {
  least = record { low = λ e h. is.least.low e (g e h); high = λ l. let k = is.least.high l in (k.0, f k.0 k.1, k.2) };
  doc = λ l. let k = is.doc l in (f d k.0, k.1);
}

pub best_none : (Has : Forest → Type 0) (d : Forest) → ((e : Forest) → Has e → ⊥) → IsBest Has NONE d
best_none Has d f = record {
  least = record { low = λ e h. absurd (f e h); high = λ l. absurd (omega (arith, l)) };
  doc = λ l. absurd (omega (arith, l));
}

-- those of either kind
abbrev Or : (Forest → Type 0) → (Forest → Type 0) → Forest → Type 0
Or P Q d = P d ⊎ Q d

best_either : (P Q : Forest → Type 0) (s t : ℕ) (d e : Forest) (b : Bool) → nat_lt t s ≡ b → IsBest P s d → IsBest Q t e
    → IsBest (Or P Q) (if b then t else s) (if b then e else d)
best_either P Q s t d e true h p q =
    let l : t < s = is_less t s h in
    record {
      least = record {
        low = λ x k. elim k [ inl y ↦ let a = p.least.low x y in omega (arith, a, l) | inr y ↦ q.least.low x y ];
        high = λ m. let k = q.least.high m in (k.0, inr k.1, k.2);
      };
      doc = λ m. let k = q.doc m in (inr k.0, k.1);
    }
best_either P Q s t d e false h p q =
    let l : s ≤ t = is_not_less t s h in
    record {
      least = record {
        low = λ x k. elim k [ inl y ↦ p.least.low x y | inr y ↦ let a = q.least.low x y in omega (arith, a, l) ];
        high = λ m. let k = p.least.high m in (k.0, inl k.1, k.2);
      };
      doc = λ m. let k = p.doc m in (inl k.0, k.1);
    }

size_of_better : (b : Bool) (x y : Found) → (if b then y else x).size ≡ (if b then y.size else x.size)
size_of_better true x y = refl
size_of_better false x y = refl

doc_of_better : (b : Bool) (x y : Found) → (if b then y else x).doc ≡ (if b then y.doc else x.doc)
doc_of_better true x y = refl
doc_of_better false x y = refl

-- one way more
pub best_more : (templates : ℕ → Forest) (G : Graph) (p : Place) (r : Rule) (xs : List Atom) (a : Atom) (n : ℕ) (best next new : Found)
    → IsBest (FindsOne templates G p r xs n) best.size best.doc → IsBest (Finds templates G p r a n) next.size next.doc → new ≡ better best next
    → IsBest (FindsOne templates G p r (xs ++ a ∷ []) n) new.size new.doc
best_more templates G p r xs a n best next new b q e =
    best_same (Or (FindsOne templates G p r xs n) (Finds templates G p r a n)) (FindsOne templates G p r (xs ++ a ∷ []) n) new.size new.doc
    (λ d h. elim h [ inl x ↦ (x.0, Contains-append_left xs (a ∷ []) x.0 x.1, x.2) | inr x ↦ (a, Contains-push xs a, x) ])
    (λ d h. elim (Contains-push_cases xs a h.0 h.1) [ inl c ↦ inl (h.0, c, h.2) | inr c ↦ inr (subst (λ y. Finds templates G p r y n d) (sym c) h.2) ])
    (subst (λ f. IsBest (Or (FindsOne templates G p r xs n) (Finds templates G p r a n)) f.size f.doc) (sym e)
    (subst (λ s. IsBest (Or (FindsOne templates G p r xs n) (Finds templates G p r a n)) s (better best next).doc)
    (sym (size_of_better (nat_lt next.size best.size) best next))
    (subst (λ d. IsBest (Or (FindsOne templates G p r xs n) (Finds templates G p r a n)) (if nat_lt next.size best.size then next.size else best.size)
    d) (sym (doc_of_better (nat_lt next.size best.size) best next))
    (best_either (FindsOne templates G p r xs n) (Finds templates G p r a n) best.size next.size best.doc next.doc (nat_lt next.size best.size) refl b
    q))))

pub best_explained : (Has : Forest → Type 0) (s : ℕ) (d : Forest) → IsBest Has s d → IsAnswer Has (answer_of s d)
best_explained Has s d is = by (nat_lt PAST s) (nat_lt MAX_SIZE s) refl refl
  where
    by : (b c : Bool) → nat_lt PAST s ≡ b → nat_lt MAX_SIZE s ≡ c → IsAnswer Has
        (if b then answers.NoUnfolding else if c then answers.TooBig else answers.Page (record { items = close d }))
    by true c e g = none_there (λ x h. let k = is.least.low x h in let l = is_less PAST s e in absurd (omega (arith, k, l)))
    by false true e g =
        let l = is_not_less PAST s e in
        let o = is_less MAX_SIZE s g in
        let k = is.least.high l in
        all_big k.0 k.1 (λ y h. let q = is.least.low y h in omega (arith, q, o))
    by false false e g =
        let l = is_not_less MAX_SIZE s g in
        let k = is.doc l in
        page_of k.0 (let q = k.1 in omega (arith, q, l)) (λ y h. let q = k.1 in let r = is.least.low y h in omega (arith, q, r))
