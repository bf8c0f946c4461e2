-- Laws of tables of open gaps.
use Rattle.std.proofs.Common.{◌≡◌, ◌≢◌, ℕ, zero, suc, ◌+◌, ◌<◌, ◌≤◌, Bool, true, false, ◌==◌, List, [], ◌∷◌, ◌++◌, length, refl, ap, sym, ◌∙◌, arith}
use Rattle.std.proofs.Common.{length-append, length-take, take, get_or, eq-or-lt_of_le}
use Rattle.std.proofs.lemmas.Bool.{cases_lt}
use Rattle.std.proofs.lemmas.Bool.Decides.{eqb_tells}
use Rattle.std.proofs.Math.ListN.{set}
use borrow.Author.Count.{below_more}
use mathlib.Core.Logic.{◌⊎◌, inl, inr}
use Rattle.bw_doc.specs.declared.spots.Spot.{Spot}
use Rattle.bw_doc.specs.declared.spots.Open.{Open}
use Rattle.bw_doc.specs.Spots.{nowhere, join, times, unless, closed, at, IsTableOf, both, only, added_at, plugged_open, filled_open, plugged_at, filled_at}
use Rattle.bw_doc.proofs.SpotAlgebra.{times_nowhere, both_closed}

-- the table has below this place what the function gives, and nothing from there on
pub record IsFirst (f : ℕ → Open) (n : ℕ) (table : List Open) : Type 0 where
  pub size : length table ≡ n
  pub below : (g : ℕ) → g < n → at table g ≡ f g

pub at_beyond : (table : List Open) (g : ℕ) → length table ≤ g → at table g ≡ closed
at_beyond [] g h = refl
at_beyond (o ∷ table) zero h = absurd (omega (arith, h))
at_beyond (o ∷ table) (suc g) h = at_beyond table g (omega (arith, h))

at_old : (table : List Open) (o : Open) (g : ℕ) → g < length table → at (table ++ o ∷ []) g ≡ at table g
at_old [] o g h = absurd (omega (arith, h))
at_old (x ∷ table) o zero h = refl
at_old (x ∷ table) o (suc g) h = at_old table o g (omega (arith, h))

at_new : (table : List Open) (o : Open) → at (table ++ o ∷ []) (length table) ≡ o
at_new [] o = refl
at_new (x ∷ table) o = at_new table o

-- an entry more at the end that says nothing
pub at_padded : (table : List Open) (g : ℕ) → at (table ++ closed ∷ []) g ≡ at table g
at_padded [] zero = refl
at_padded [] (suc g) = refl
at_padded (x ∷ table) zero = refl
at_padded (x ∷ table) (suc g) = at_padded table g

pub no_table : (f : ℕ → Open) → IsFirst f 0 []
no_table f = record { size = refl; below = λ g h. absurd (omega (arith, h)) }

-- one entry more
pub table_more : (f : ℕ → Open) (n : ℕ) (table : List Open) (o : Open) → IsFirst f n table → o ≡ f n → IsFirst f (n + 1) (table ++ o ∷ [])
table_more f n table o first is = record {
  size = length-append table (o ∷ []) ∙ omega (arith, first.size);
  below =
      below_more (λ g. at (table ++ o ∷ []) g ≡ f g) n (λ g h. at_old table o g (omega (arith, h, first.size)) ∙ first.below g h)
      (ap (λ k. at (table ++ o ∷ []) k) (sym first.size) ∙ at_new table o ∙ is);
}

-- a whole table
pub table_whole : (f : ℕ → Open) (n : ℕ) (table : List Open) → IsFirst f n table → ((g : ℕ) → n ≤ g → f g ≡ closed) → IsTableOf f table
table_whole f n table first beyond g = by_place (cases_lt g n)
  where
    by_place : (g < n) ⊎ (n ≤ g) → at table g ≡ f g
    by_place (inl h) = first.below g h
    by_place (inr h) = at_beyond table g (omega (arith, h, first.size)) ∙ sym (beyond g h)

unless_nowhere : (b : Bool) → unless b nowhere ≡ nowhere
unless_nowhere true = refl
unless_nowhere false = refl

closed_plug : (b : Bool) (into : Spot) → plugged_open b closed closed into ≡ closed
closed_plug b into = λ i. record { content = none i; hole = ap (join nowhere) (times_nowhere into) i }
  where
    none : join (unless b nowhere) (times into nowhere) ≡ nowhere
    none = ap (λ x. join x (times into nowhere)) (unless_nowhere b) ∙ ap (join nowhere) (times_nowhere into)

pub plug_beyond : (g : ℕ) (table with : List Open) (n h : ℕ) → length table ≤ n → length with ≤ n → n ≤ h → plugged_at g table with h ≡ closed
plug_beyond g table with n h a b c =
    ap (λ o. plugged_open (h == g) o (at with h) (at table g).content) (at_beyond table h (omega (arith, a, c)))
    ∙ ap (λ o. plugged_open (h == g) closed o (at table g).content) (at_beyond with h (omega (arith, b, c)))
    ∙ closed_plug (h == g) (at table g).content

pub fill_beyond : (g : ℕ) (table : List Open) (h : ℕ) → length table ≤ h → filled_at g table h ≡ closed
fill_beyond g table h a =
    ap (filled_open (h == g)) (at_beyond table h a) ∙ (λ i. record { content = unless_nowhere (h == g) i; hole = unless_nowhere (h == g) i })

-- ---- a table without entries at its end that say nothing

pub record IsEnd (table : List Open) (n : ℕ) : Type 0 where
  pub within : n ≤ length table
  pub nothing : (g : ℕ) → n ≤ g → at table g ≡ closed

pub end_whole : (table : List Open) → IsEnd table (length table)
end_whole table = record { within = omega arith; nothing = at_beyond table }

-- the entry in front says nothing either
pub end_less : (table : List Open) (n m : ℕ) → IsEnd table n → n ≡ m + 1 → at table m ≡ closed → IsEnd table m
end_less table n m e is nothing = record {
  within = omega (arith, e.within, is);
  nothing = λ g h. by_place g (eq-or-lt_of_le h);
}
  where
    by_place : (g : ℕ) → (m ≡ g) ⊎ (m < g) → at table g ≡ closed
    by_place g (inl p) = ap (at table) (sym p) ∙ nothing
    by_place g (inr p) = e.nothing g (omega (arith, p, is))

at_take : (table : List Open) (n g : ℕ) → g < n → at (take n table) g ≡ at table g
at_take [] zero g h = absurd (omega (arith, h))
at_take [] (suc n) g h = refl
at_take (x ∷ table) zero g h = absurd (omega (arith, h))
at_take (x ∷ table) (suc n) zero h = refl
at_take (x ∷ table) (suc n) (suc g) h = at_take table n g (omega (arith, h))

pub trimmed : (table : List Open) (n : ℕ) → IsEnd table n → IsTableOf (at table) (take n table)
trimmed table n e g = by_place (cases_lt g n)
  where
    by_place : (g < n) ⊎ (n ≤ g) → at (take n table) g ≡ at table g
    by_place (inl h) = at_take table n g h
    by_place (inr h) = at_beyond (take n table) g (omega (arith, h, length-take n table)) ∙ sym (e.nothing g h)

pub at_is : (table : List Open) (n : ℕ) (x : Open) → x ≡ get_or table n x → n < length table → at table n ≡ x
at_is [] n x e h = absurd (omega (arith, h))
at_is (y ∷ table) zero x e h = sym e
at_is (y ∷ table) (suc n) x e h = at_is table n x e (omega (arith, h))

-- ---- more that is open of one name

at_set : (table : List Open) (g : ℕ) (o : Open) → g < length table → at (set table g o) g ≡ o
at_set [] g o k = absurd (omega (arith, k))
at_set (x ∷ table) zero o k = refl
at_set (x ∷ table) (suc g) o k = at_set table g o (omega (arith, k))

at_other : (table : List Open) (g h : ℕ) (o : Open) → g ≢ h → at (set table g o) h ≡ at table h
at_other [] g h o n = refl
at_other (x ∷ table) zero zero o n = absurd (n refl)
at_other (x ∷ table) zero (suc h) o n = refl
at_other (x ∷ table) (suc g) zero o n = refl
at_other (x ∷ table) (suc g) (suc h) o n = at_other table g h o (λ e. n (ap suc e))

pub table_added : (old reached new : List Open) (g : ℕ) (more : Open) → IsTableOf (at old) reached → g < length reached
    → new ≡ set reached g (both (at reached g) more) → IsTableOf (added_at g more old) new
table_added old reached new g more alike room is h = ap (λ t. at t h) is ∙ by_case (eqb_tells g h)
  where
    whole : Open
    whole = both (at reached g) more

    by_case : (((g == h) ≡ true) × (g ≡ h)) ⊎ (((g == h) ≡ false) × (g ≢ h)) → at (set reached g whole) h ≡ added_at g more old h
    by_case (inl (p, e)) =
        ap (λ k. at (set reached g whole) k) (sym e) ∙ at_set reached g whole room
        ∙ ap (λ k. both (at reached k) more) e ∙ ap (λ o. both o more) (alike h) ∙ ap (λ b. both (at old h) (only b more)) (sym p)
    by_case (inr (p, n)) =
        at_other reached g h whole n ∙ alike h ∙ sym (both_closed (at old h)) ∙ ap (λ b. both (at old h) (only b more)) (sym p)
