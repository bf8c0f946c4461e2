-- The documents that a walk goes by.
use Rattle.std.proofs.Common.{◌≡◌, ◌⊎◌, inl, inr, ℕ, ◌+◌, ◌≤◌, ◌==◌, Bool, true, false, ◌&&◌, if◌then◌else◌, List, refl, ap, sym, ◌∙◌, subst, arith}
use Rattle.std.proofs.lemmas.Bool.{false≢true, cases_Bool, eqb-true, eq-eqb, ne_eqb, and_parts, and_from}
use Rattle.bw_lang.specs.declared.items.Attr.{Attr}
use Rattle.bw_lang.specs.Document.Forest.{Forest, none, gap, element}
use Rattle.bw_lang.specs.Document.Documents.{append}
use Rattle.bw_lang.proofs.Forests.{append-none, append_assoc}
use Rattle.bw_sum.specs.Graph.{Graph}
use Rattle.bw_sum.specs.Unfolding.{Fills}
use Rattle.bw_sum.specs.Unfolding as fills
use Rattle.bw_explain.specs.Walks.{Aim, takes, Runs, nothing, both, words, left, said, led, beside, inside, here}

pub stay_takes : (x : ℕ) (p q : Bool) → p ≡ true → takes x x p q ≡ true
stay_takes x p q h = ap (λ b. if b then p else (((x + 1) == x) && q)) (eq-eqb x x refl) ∙ h

pub next_takes : (x : ℕ) (p q : Bool) → q ≡ true → takes x (x + 1) p q ≡ true
next_takes x p q h = ap (λ b. if b then p else (((x + 1) == (x + 1)) && q)) (ne_eqb x (x + 1) (λ e. omega (arith, e)))
    ∙ and_from ((x + 1) == (x + 1)) q (eq-eqb (x + 1) (x + 1) refl) h

-- what an item that takes one state to another does
pub taken : (x y : ℕ) (p q : Bool) → takes x y p q ≡ true → ((x ≡ y) × (p ≡ true)) ⊎ (((x + 1) ≡ y) × (q ≡ true))
taken x y p q h = elim (cases_Bool (x == y)) [
  | inl e ↦ inl (eqb-true x y e, sym (ap (λ b. if b then p else (((x + 1) == y) && q)) e) ∙ h)
  | inr e ↦
      let a = and_parts ((x + 1) == y) q (sym (ap (λ b. if b then p else (((x + 1) == y) && q)) e) ∙ h) in
      inr (eqb-true (x + 1) y a.0, a.1)
]

pub takes_up : (x y : ℕ) (p q r s : Bool) → (p ≡ true → r ≡ true) → (q ≡ true → s ≡ true) → takes x y p q ≡ true → takes x y r s ≡ true
takes_up x y p q r s f g h = elim (taken x y p q h) [
  | inl a ↦ subst (λ z. takes x z r s ≡ true) a.0 (stay_takes x r s (f a.1))
  | inr a ↦ subst (λ z. takes x z r s ≡ true) a.0 (next_takes x r s (g a.1))
]

pub takes_rises : (x y : ℕ) (p q : Bool) → takes x y p q ≡ true → x ≤ y
takes_rises x y p q h = elim (taken x y p q h) [ inl a ↦ let e = a.0 in omega (arith, e) | inr a ↦ let e = a.0 in omega (arith, e) ]

takes_stays : (x y : ℕ) (p q : Bool) → takes x y p q ≡ true → y ≤ x → p ≡ true
takes_stays x y p q h l = elim (taken x y p q h) [ inl a ↦ a.1 | inr a ↦ let e = a.0 in absurd (omega (arith, e, l)) ]

pub fills-append : {templates : ℕ → Forest} {G : Graph} {n : ℕ} {a d b e : Forest} → Fills templates G n a d → Fills templates G n b e
    → Fills templates G n (append a b) (append d e)
fills-append fills.end f = f
fills-append (fills.words r) f = fills.words (fills-append r f)
fills-append (fills.inside q i r) f = fills.inside q i (fills-append r f)
fills-append (fills.left l r) f = fills.left l (fills-append r f)
fills-append (fills.said l r) f = fills.said l (fills-append r f)
fills-append {templates = templates} {G = G} {n = n} {b = b} {e = e} (fills.led {g = g} {t = t} {d = d} {e = c} l i r) f =
    subst (λ x. Fills templates G n (gap g (append t b)) x) (sym (append_assoc c d e)) (fills.led l i (fills-append r f))

pub gap_led : {templates : ℕ → Forest} {G : Graph} {n g m : ℕ} {e : Forest} → G.edge n g m ≡ true → Fills templates G m (templates m) e
    → Fills templates G n (gap g none) e
gap_led {templates = templates} {G = G} {n = n} {g = g} {e = e} l f = subst (Fills templates G n (gap g none)) (append-none e) (fills.led l f fills.end)

module _ (templates : ℕ → Forest) (G : Graph) (A : Aim) where
  pub rises : {n k x y : ℕ} {t d : Forest} → Runs templates G A n k x t y d → x ≤ y
  rises nothing = omega arith
  rises (both p q) = let a = rises p in let b = rises q in omega (arith, a, b)
  rises (words {x = x} {y = y} h) = takes_rises x y _ _ h
  rises (left l) = omega arith
  rises (said {x = x} {y = y} l h) = takes_rises x y _ _ h
  rises (led l r) = rises r
  rises (beside {x = x} {y = y} d h q f) = takes_rises x y _ _ h
  rises (inside d q r) = omega arith
  rises (here d h q f g) = omega arith

  -- what stays in a state may stay in each
  pub stays : {n k x y : ℕ} {t d : Forest} → Runs templates G A n k x t y d → y ≤ x → (w : ℕ) → Runs templates G A n k w t w d
  stays nothing l w = nothing
  stays (both p q) l w = let a = rises p in let b = rises q in both (stays p (omega (arith, b, l)) w) (stays q (omega (arith, a, l)) w)
  stays (words {x = x} {y = y} h) l w = words (stay_takes w _ _ refl)
  stays (left o) l w = left o
  stays (said {x = x} {y = y} o h) l w = said o (stay_takes w _ _ refl)
  stays (led o r) l w = led o (stays r l w)
  stays (beside {x = x} {y = y} d h q f) l w = beside d (stay_takes w _ _ (takes_stays x y _ _ h l)) q f
  stays {n = n} {k = k} (inside {z = z} {tag = tag} {a = a} {b = b} {i = i} {j = j} d q r) l w = subst
      (λ y. Runs templates G A n k w (element tag a i none) y (element tag b j none)) (let e : w + 0 ≡ w = omega arith in e)
      (inside d q (stays r (omega (arith, l)) 0))
  stays (here d h q f g) l w = absurd (omega (arith, l))

  -- where nothing is filled well, they are unfoldings
  pub runs_fill : ((b : List Attr) (j : Forest) → A.good b j ≡ false) → {n k x y : ℕ} {t d : Forest} → Runs templates G A n k x t y d → Fills templates G n t d
  runs_fill o nothing = fills.end
  runs_fill o (both p q) = fills-append (runs_fill o p) (runs_fill o q)
  runs_fill o (words h) = fills.words fills.end
  runs_fill o (left l) = fills.left l fills.end
  runs_fill o (said l h) = fills.said l fills.end
  runs_fill o (led l r) = gap_led l (runs_fill o r)
  runs_fill o (beside d h q f) = fills.inside q f fills.end
  runs_fill o (inside d q r) = fills.inside q (runs_fill o r) fills.end
  runs_fill o (here {b = b} {j = j} d h q f g) = absurd (false≢true (sym (o b j) ∙ g))

  -- at any depth all unfoldings may stay
  pub fill_runs : A.deep ≡ true → {n : ℕ} {t d : Forest} → Fills templates G n t d → (k x : ℕ) → Runs templates G A n k x t x d
  fill_runs o fills.end k x = nothing
  fill_runs o (fills.words r) k x = both (words (stay_takes x _ _ refl)) (fill_runs o r _ x)
  fill_runs o {n = n} (fills.inside {tag = tag} {a = a} {b = b} {i = i} {j = j} q f r) k x = both (subst
      (λ y. Runs templates G A n k x (element tag a i none) y (element tag b j none)) (let e : x + 0 ≡ x = omega arith in e)
      (inside o q (fill_runs o f (k + 1) 0))) (fill_runs o r _ x)
  fill_runs o (fills.left l r) k x = both (left l) (fill_runs o r _ x)
  fill_runs o (fills.said l r) k x = both (said l (stay_takes x _ _ refl)) (fill_runs o r _ x)
  fill_runs o (fills.led l f r) k x = both (led l (fill_runs o f 0 x)) (fill_runs o r _ x)
