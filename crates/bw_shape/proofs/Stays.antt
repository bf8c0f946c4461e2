-- Formulas whose tags have numbers and whose pairs have columns keep them in longer tables.
use Rattle.std.proofs.Common.{◌≡◌, ℕ, suc, ◌+◌, ◌<◌, ◌≤◌, not, cond, eqb, List, ◌++◌, length, ap, ◌∙◌, arith}
use Rattle.std.proofs.lemmas.Bool.Decides.{nat_tests}
use Rattle.std.proofs.lemmas.List.{length-append}
use Rattle.std.proofs.lemmas.List.Folds.{prefix_len-append}
use Rattle.bw_lang.specs.Table.Names.{name_number, Extends}
use Rattle.bw_lang.proofs.TableLaws.{numbers_stay}
use Rattle.bw_schema.specs.Needs.{Needs, nothing, all_of, some_of, attr, one_value, content, order, append_needs}
use Rattle.bw_shape.specs.Tests.{tag_column}
use Rattle.bw_shape.specs.Formulas.{same_pair, pair_number, AreNamed}

first_stays : (p len m : ℕ) → p < len → cond (eqb p len) m p ≡ p
first_stays p len m h = grind (arith, nat_tests)

-- a pair that is in a list stays at its place in a longer one
pub pair_stays : (pairs more : List (ℕ × ℕ)) (p : ℕ × ℕ) → pair_number pairs p < length pairs → pair_number (pairs ++ more) p ≡ pair_number pairs p
pair_stays pairs more p h = prefix_len-append (λ q. not (same_pair p q)) pairs more
    ∙ first_stays (pair_number pairs p) (length pairs) (length pairs + pair_number more p) h

pub number_low : (old new : List (List ℕ)) (x : List ℕ) (f g : ℕ) → Extends old new → f ≤ length old → f ≤ g → name_number old x < f → name_number new x < g
number_low old new x f g e l m h = let k : name_number old x < length old = omega (arith, h, l) in let s = numbers_stay old new x e k in omega (arith, s, h, m)

pub named_stay : (old new : List (List ℕ)) (f g : ℕ) (pairs more : List (ℕ × ℕ)) → Extends old new → f ≤ length old → f ≤ g → (needs : Needs)
    → AreNamed old f pairs needs → AreNamed new g (pairs ++ more) needs
named_stay old new f g pairs more e l m nothing h = tt
named_stay old new f g pairs more e l m (all_of parts rest) h =
    (named_stay old new f g pairs more e l m parts h.0, named_stay old new f g pairs more e l m rest h.1)
named_stay old new f g pairs more e l m (some_of parts rest) h =
    (named_stay old new f g pairs more e l m parts h.0, named_stay old new f g pairs more e l m rest h.1)
named_stay old new f g pairs more e l m (attr x rest) h = named_stay old new f g pairs more e l m rest h
named_stay old new f g pairs more e l m (one_value x vs rest) h = named_stay old new f g pairs more e l m rest h
named_stay old new f g pairs more e l m (content x rest) h = (number_low old new x f g e l m h.0, named_stay old new f g pairs more e l m rest h.1)
named_stay old new f g pairs more e l m (order x y rest) h =
    let nx : name_number new x ≡ name_number old x = let a = h.0.0 in numbers_stay old new x e (omega (arith, a, l)) in
    let ny : name_number new y ≡ name_number old y = let a = h.0.1.0 in numbers_stay old new y e (omega (arith, a, l)) in
    let p : ◌≡◌ {A = ℕ × ℕ} (tag_column new y, tag_column new x) (tag_column old y, tag_column old x) = λ i. (suc (ny i), suc (nx i)) in
    let s = pair_stays pairs more (tag_column old y, tag_column old x) h.0.1.1 in
    let low : pair_number (pairs ++ more) (tag_column new y, tag_column new x) < length (pairs ++ more) =
    let a = ap (pair_number (pairs ++ more)) p in let b = h.0.1.1 in let c = length-append pairs more in omega (arith, a, s, b, c) in
    ((number_low old new x f g e l m h.0.0, (number_low old new y f g e l m h.0.1.0, low)), named_stay old new f g pairs more e l m rest h.1)

pub named_append : (tags : List (List ℕ)) (f : ℕ) (pairs : List (ℕ × ℕ)) (a b : Needs) → AreNamed tags f pairs a
    → AreNamed tags f pairs b → AreNamed tags f pairs (append_needs a b)
named_append tags f pairs nothing b h k = k
named_append tags f pairs (all_of parts rest) b h k = (h.0, named_append tags f pairs rest b h.1 k)
named_append tags f pairs (some_of parts rest) b h k = (h.0, named_append tags f pairs rest b h.1 k)
named_append tags f pairs (attr x rest) b h k = named_append tags f pairs rest b h k
named_append tags f pairs (one_value x vs rest) b h k = named_append tags f pairs rest b h k
named_append tags f pairs (content x rest) b h k = (h.0, named_append tags f pairs rest b h.1 k)
named_append tags f pairs (order x y rest) b h k = (h.0, named_append tags f pairs rest b h.1 k)
