-- The needs of a list of formulas.
use Rattle.std.proofs.Common.{◌≡◌, ℕ, suc, ◌+◌, ◌<◌, Bool, true, false, List, length, get_or, drop, refl, ap, sym, ◌∙◌, arith}
use Rattle.std.proofs.Math.Seq.{drop-cons}
use Rattle.std.proofs.lemmas.Bool.{false≢true}
use Rattle.bw_lang.specs.declared.items.Attr.{Attr}
use Rattle.bw_lang.specs.Document.Forest.{Forest}
use Rattle.bw_schema.specs.declared.needs.Formula.{Formula}
use Rattle.bw_schema.specs.declared.needs.Formula.TheVariants.{And, Or, Attr as HasAttr, OneOf, Content, Order}
use Rattle.bw_schema.specs.Needs.{Needs}
use Rattle.bw_schema.specs.NeedsView.{needs, before_need}
use Rattle.bw_schema.specs.Validity.{joined}
use Rattle.bw_judge.specs.Scene.{Scene}
use Rattle.bw_shape.specs.Rows.Rows.{at}
use Rattle.bw_lang.specs.Table.Names.{name_number}
use Rattle.bw_shape.specs.Tests.{crosses}
use Rattle.bw_shape.specs.Formulas.{pair_number}
use Rattle.bw_judge.specs.Sure.{sure, sure_one, may_cross}

sure_before : (s : Scene) (all : Bool) (f : Formula) (rest : Needs) (a : List Attr) (i : Forest)
    → sure s all (before_need f rest) a i ≡ joined all (sure_one s f a i) (sure s all rest a i)
sure_before s all (And p) rest a i = refl
sure_before s all (Or p) rest a i = refl
sure_before s all (HasAttr x) rest a i = refl
sure_before s all (OneOf x vs) rest a i = refl
sure_before s all (Content x) rest a i = refl
sure_before s all (Order x y) rest a i = refl

-- the formula at a place, and those behind it
pub sure_next : (s : Scene) (all : Bool) (fs : List Formula) (i : ℕ) (f : Formula) (a : List Attr) (t : Forest) → f ≡ get_or fs i f → i < length fs
    → sure s all (needs (drop i fs)) a t ≡ joined all (sure_one s f a t) (sure s all (needs (drop (i + 1) fs)) a t)
sure_next s all fs i f a t e h =
    let k : i + 1 ≡ suc i = omega arith in
    ap (λ gs. sure s all (needs gs) a t) (drop-cons fs i f h) ∙ sure_before s all (get_or fs i f) (needs (drop (suc i) fs)) a t
    ∙ ap (λ g. joined all (sure_one s g a t) (sure s all (needs (drop (suc i) fs)) a t)) (sym e)
    ∙ ap (λ j. joined all (sure_one s f a t) (sure s all (needs (drop j fs)) a t)) (sym k)

-- one that decides
pub decided : (all b c : Bool) → (b ≡ all → ⊥) → joined all b c ≡ b
decided true true c h = absurd (h refl)
decided true false c h = refl
decided false true c h = refl
decided false false c h = absurd (h refl)

-- and one that doesn't
pub undecided : (all b c : Bool) → b ≡ all → joined all b c ≡ c
undecided true true c h = refl
undecided true false c h = absurd (false≢true h)
undecided false true c h = absurd (false≢true (sym h))
undecided false false c h = refl

-- the test by the numbers of the tags and of their pair
pub cross_as : (s : Scene) (x y : List ℕ) (inner : Forest) (first second column : ℕ) → first ≡ name_number s.tags y → second ≡ name_number s.tags x
    → column ≡ pair_number s.pairs (suc first, suc second)
    → crosses s.tags s.node (at s.tops) (λ m. at s.cross m column) (suc first, suc second) inner ≡ may_cross s x y inner
cross_as s x y inner first second column e f g =
    ap (λ k. crosses s.tags s.node (at s.tops) (λ m. at s.cross m k) (suc first, suc second) inner) g
    ∙ ap (λ k. crosses s.tags s.node (at s.tops) (λ m. at s.cross m (pair_number s.pairs (suc k, suc second))) (suc k, suc second) inner) e
    ∙ ap (λ k. crosses s.tags s.node (at s.tops) (λ m. at s.cross m (pair_number s.pairs (suc (name_number s.tags y), suc k)))
    (suc (name_number s.tags y), suc k) inner) f
