-- Formulas that are spelled so are read, and loops over formulas.
use Rattle.std.proofs.Common.{◌≡◌, ℕ, zero, suc, ◌+◌, ◌≤◌, Bool, true, false, not, ◌&&◌, List, [], ◌∷◌, ◌++◌, length, take, drop, Option, Some, None, refl, ap}
use Rattle.std.proofs.Common.{◌∙◌, arith}
use Rattle.std.specs.Prelude.{codes, if◌then◌else◌, ◌==◌}
use Rattle.std.specs.List.{list_all}
use Rattle.std.proofs.Math.Dec.{eqb-suc-zero}
use Rattle.std.proofs.lemmas.Bool.{and_parts, false≢true}
use Rattle.std.proofs.lemmas.List.{take_at, drop_at, length-append}
use Rattle.bw_lang.specs.Table.Options.{◌>>=◌}
use Rattle.bw_lang.specs.declared.pieces.NameClass.TheVariants as class
use Rattle.bw_schema.proofs.Spelled.{ended_there, name_there}
use Rattle.bw_schema.specs.Forms.{are_formed, depth, is_name, is_nothing, is_paren, one, spell_needs}
use Rattle.bw_schema.specs.Needs.{Needs, nothing, all_of, some_of, attr, one_value, content, order}
use Rattle.bw_schema.specs.NeedsView.{before_need}
use Rattle.bw_schema.specs.Steps.Reading.{attr_at, closed, content_at, count_values, ended, formula_at, inside_at, name_at, needs_at, needs_next, order_at}
use Rattle.bw_schema.specs.Steps.Reading.{parts_at, simple_at, value_at}
use Rattle.bw_schema.specs.Words.{has_some}
use Rattle.bw_schema.specs.declared.needs.Formula.{Formula}
use Rattle.bw_schema.specs.declared.needs.Formula.TheVariants as formula

abbrev pub Step : Type 0
Step = List (List ℕ) → Option (Formula × List (List ℕ))

-- ---- formulas without parts

front : (a b : Bool) → (a && b) ≡ true → a ≡ true
front a b h = (and_parts a b h).0

attr_complete : (x : List ℕ) (r : List (List ℕ)) → is_name class.Attr x ≡ true → attr_at (x ∷ codes ")" ∷ r) ≡ Some (formula.Attr x, r)
unfolding attr_at
attr_complete x r h = ap (λ o. o >>= λ n. ended (formula.Attr n.0) n.1) (name_there class.Attr x (codes ")" ∷ r) h) ∙ ended_there (formula.Attr x) r

content_complete : (x : List ℕ) (r : List (List ℕ)) → is_name class.Tag x ≡ true → content_at (x ∷ codes ")" ∷ r) ≡ Some (formula.Content x, r)
unfolding content_at
content_complete x r h = ap (λ o. o >>= λ n. ended (formula.Content n.0) n.1) (name_there class.Tag x (codes ")" ∷ r) h) ∙ ended_there (formula.Content x) r

order_complete : (x y : List ℕ) (r : List (List ℕ)) → is_name class.Tag x ≡ true → is_name class.Tag y ≡ true
    → order_at (x ∷ y ∷ codes ")" ∷ r) ≡ Some (formula.Order x y, r)
unfolding order_at
order_complete x y r h k =
    ap (λ o. o >>= λ n. name_at class.Tag n.1 >>= λ m. ended (formula.Order n.0 m.0) m.1) (name_there class.Tag x (y ∷ codes ")" ∷ r) h)
    ∙ ap (λ o. o >>= λ m. ended (formula.Order x m.0) m.1) (name_there class.Tag y (codes ")" ∷ r) k) ∙ ended_there (formula.Order x y) r

count_spelled : (vs : List (List ℕ)) (r : List (List ℕ)) → list_all (λ v. not (is_paren v)) vs ≡ true → count_values (vs ++ codes ")" ∷ r) ≡ length vs
count_spelled [] r h = refl
count_spelled (v ∷ vs) r h =
    let k = and_parts (not (is_paren v)) (list_all (λ w. not (is_paren w)) vs) h in
    by_test (is_paren v) k.0 (count_spelled vs r k.1)
  where
    by_test : (b : Bool) → not b ≡ true → count_values (vs ++ codes ")" ∷ r) ≡ length vs
        → (if b then 0 else suc (count_values (vs ++ codes ")" ∷ r))) ≡ suc (length vs)
    by_test true e ih = absurd (false≢true e)
    by_test false e ih = ap suc ih

value_complete : (x : List ℕ) (vs : List (List ℕ)) (r : List (List ℕ)) → is_name class.Attr x ≡ true → has_some vs ≡ true
    → list_all (λ v. not (is_paren v)) vs ≡ true
    → value_at (x ∷ (vs ++ codes ")" ∷ r)) ≡ Some (formula.OneOf x vs, r)
unfolding value_at
value_complete x vs r h some k =
    let words = vs ++ codes ")" ∷ r in
    let at : ℕ → Option (Formula × List (List ℕ)) = λ n. if n == 0 then None else ended (formula.OneOf x (take n words)) (drop n words) in
    ap (λ o. o >>= λ n. if count_values n.1 == 0 then None else ended (formula.OneOf n.0 (take (count_values n.1) n.1)) (drop (count_values n.1) n.1))
    (name_there class.Attr x words h)
    ∙ ap at (count_spelled vs r k) ∙ counted vs some
    ∙ ap (λ (t : List (List ℕ)). ended (formula.OneOf x t) (drop (length vs) words)) (take_at vs (codes ")" ∷ r) (length vs) refl)
    ∙ ap (λ (t : List (List ℕ)). ended (formula.OneOf x vs) t) (drop_at vs (codes ")" ∷ r) (length vs) refl) ∙ ended_there (formula.OneOf x vs) r
  where
    counted : (vs : List (List ℕ)) {o : Option (Formula × List (List ℕ))} → has_some vs ≡ true → (if length vs == 0 then None else o) ≡ o
    counted [] h = absurd (false≢true h)
    counted (v ∷ vs) {o = o} h = ap (λ b. if b then None else o) (eqb-suc-zero (length vs))

-- ---- formulas with parts

pub record Complete (d : ℕ) (step : Step) : Type 0 where
  pub one_read : (f : Formula) (r : List (List ℕ)) → are_formed (one f) ≡ true → depth (one f) ≤ d → step (spell_needs (one f) r) ≡ Some (f, r)

-- how many formulas there are, without those inside
abbrev tops : Needs → ℕ
tops nothing = 0
tops (all_of p rest) = suc (tops rest)
tops (some_of p rest) = suc (tops rest)
tops (attr x rest) = suc (tops rest)
tops (one_value x vs rest) = suc (tops rest)
tops (content x rest) = suc (tops rest)
tops (order x y rest) = suc (tops rest)

-- no formula is spelled with no words
pub longer : (ns : Needs) (r : List (List ℕ)) → length r + tops ns ≤ length (spell_needs ns r)
longer nothing r = omega arith
longer (all_of p rest) r = omega (arith, longer p (codes ")" ∷ spell_needs rest r), longer rest r)
longer (some_of p rest) r = omega (arith, longer p (codes ")" ∷ spell_needs rest r), longer rest r)
longer (attr x rest) r = omega (arith, longer rest r)
longer (one_value x vs rest) r = omega (arith, length-append vs (codes ")" ∷ spell_needs rest r), longer rest r)
longer (content x rest) r = omega (arith, longer rest r)
longer (order x y rest) r = omega (arith, longer rest r)

needs_more : (step : Step) (n : ℕ) (f : Formula) (rest : Needs) (k r : List (List ℕ)) → step (spell_needs (one f) k) ≡ Some (f, k)
    → needs_at step n k ≡ (rest, r)
    → needs_at step (suc n) (spell_needs (one f) k) ≡ (before_need f rest, r)
unfolding needs_at
needs_more step n f rest k r e h =
    ap (λ o. needs_next o (spell_needs (one f) k) (needs_at step n)) e ∙ ap (λ (p : Needs × List (List ℕ)). (before_need f p.0, p.1)) h

-- a formula and those behind it
begun : (d : ℕ) (step : Step) → Complete d step → (n : ℕ) (f : Formula) (rest : Needs) (r : List (List ℕ)) → are_formed (one f) ≡ true → depth (one f) ≤ d
    → suc (tops rest) ≤ n
    → ((m : ℕ) → tops rest ≤ m → needs_at step m (spell_needs rest r) ≡ (rest, r))
    → needs_at step n (spell_needs (one f) (spell_needs rest r)) ≡ (before_need f rest, r)
begun d step c zero f rest r h e t ih = absurd (omega (arith, t))
begun d step c (suc n) f rest r h e t ih = needs_more step n f rest (spell_needs rest r) r (c.one_read f (spell_needs rest r) h e) (ih n (omega (arith, t)))

with_end : (a b : Bool) → (a && b) ≡ true → (a && true) ≡ true
with_end true b h = refl
with_end false b h = h

behind : (a b : Bool) → (a && b) ≡ true → b ≡ true
behind a b h = (and_parts a b h).1

needs_complete : (d : ℕ) (step : Step) → Complete d step → (ns : Needs) (n : ℕ) (r : List (List ℕ)) → step r ≡ None → are_formed ns ≡ true → depth ns ≤ d
    → tops ns ≤ n
    → needs_at step n (spell_needs ns r) ≡ (ns, r)
unfolding needs_at
needs_complete d step c nothing zero r stop h e t = refl
needs_complete d step c nothing (suc n) r stop h e t = ap (λ o. needs_next o r (needs_at step n)) stop
needs_complete d step c (all_of p rest) n r stop h e t =
    begun d step c n (formula.And p) rest r (with_end _ _ h) (omega (arith, e)) t
    (λ m l. needs_complete d step c rest m r stop (behind _ _ h) (omega (arith, e)) l)
needs_complete d step c (some_of p rest) n r stop h e t =
    begun d step c n (formula.Or p) rest r (with_end _ _ h) (omega (arith, e)) t
    (λ m l. needs_complete d step c rest m r stop (behind _ _ h) (omega (arith, e)) l)
needs_complete d step c (attr x rest) n r stop h e t =
    begun d step c n (formula.Attr x) rest r (with_end _ _ h) (omega (arith, e)) t
    (λ m l. needs_complete d step c rest m r stop (behind _ _ h) (omega (arith, e)) l)
needs_complete d step c (one_value x vs rest) n r stop h e t =
    begun d step c n (formula.OneOf x vs) rest r (with_end _ _ h) (omega (arith, e)) t
    (λ m l. needs_complete d step c rest m r stop (behind _ _ h) (omega (arith, e)) l)
needs_complete d step c (content x rest) n r stop h e t =
    begun d step c n (formula.Content x) rest r (with_end _ _ h) (omega (arith, e)) t
    (λ m l. needs_complete d step c rest m r stop (behind _ _ h) (omega (arith, e)) l)
needs_complete d step c (order x y rest) n r stop h e t =
    begun d step c n (formula.Order x y) rest r (with_end _ _ h) (omega (arith, e)) t
    (λ m l. needs_complete d step c rest m r stop (behind _ _ h) (omega (arith, e)) l)

-- what follows parts
abbrev pub with_rest : Needs → List (List ℕ) → Option (Needs × List (List ℕ))
with_rest ns rest = Some (ns, rest)

abbrev pub ended_parts : Needs × List (List ℕ) → Option (Needs × List (List ℕ))
ended_parts p = if is_nothing p.0 then None else (closed p.1 >>= with_rest p.0)

abbrev as_and : Needs × List (List ℕ) → Option (Formula × List (List ℕ))
as_and p = Some (formula.And p.0, p.1)

abbrev as_or : Needs × List (List ℕ) → Option (Formula × List (List ℕ))
as_or p = Some (formula.Or p.0, p.1)

parts_complete : (d : ℕ) (step : Step) → Complete d step → (ns : Needs) (r : List (List ℕ)) → step (codes ")" ∷ r) ≡ None
    → (not (is_nothing ns) && are_formed ns) ≡ true → depth ns ≤ d
    → parts_at step (spell_needs ns (codes ")" ∷ r)) ≡ Some (ns, r)
unfolding parts_at
parts_complete d step c ns r stop h e =
    let k = and_parts (not (is_nothing ns)) (are_formed ns) h in
    let words = spell_needs ns (codes ")" ∷ r) in
    ap ended_parts
    (needs_complete d step c ns (length words) (codes ")" ∷ r) stop k.1 e (omega (arith, longer ns (codes ")" ∷ r))))
    ∙ by_test (is_nothing ns) k.0
  where
    by_test : (b : Bool) → not b ≡ true → (if b then None else with_rest ns r) ≡ with_rest ns r
    by_test true h = absurd (false≢true h)
    by_test false h = refl

no_formula : (d : ℕ) (r : List (List ℕ)) → formula_at d (codes ")" ∷ r) ≡ None
unfolding formula_at
no_formula zero r = refl
no_formula (suc d) [] = refl
no_formula (suc d) (w ∷ r) = refl

open_complete : (d : ℕ) → Complete d (formula_at d) → (f : Formula) (r : List (List ℕ)) → are_formed (one f) ≡ true → depth (one f) ≤ suc d
    → formula_at (suc d) (spell_needs (one f) r) ≡ Some (f, r)
unfolding formula_at inside_at simple_at
open_complete d c (formula.And p) r h e =
    ap (λ o. o >>= as_and) (parts_complete d (formula_at d) c p r (no_formula d r) (front _ _ h) (omega (arith, e)))
open_complete d c (formula.Or p) r h e =
    ap (λ o. o >>= as_or) (parts_complete d (formula_at d) c p r (no_formula d r) (front _ _ h) (omega (arith, e)))
open_complete d c (formula.Attr x) r h e = attr_complete x r (front _ _ h)
open_complete d c (formula.OneOf x vs) r h e =
    let k = and_parts (is_name class.Attr x) (has_some vs && list_all (λ v. not (is_paren v)) vs) (front _ _ h) in
    let l = and_parts (has_some vs) (list_all (λ v. not (is_paren v)) vs) k.1 in value_complete x vs r k.0 l.0 l.1
open_complete d c (formula.Content x) r h e = content_complete x r (front _ _ h)
open_complete d c (formula.Order x y) r h e =
    let k = and_parts (is_name class.Tag x) (is_name class.Tag y) (front _ _ h) in order_complete x y r k.0 k.1

some_depth : (f : Formula) → 1 ≤ depth (one f)
some_depth (formula.And p) = omega arith
some_depth (formula.Or p) = omega arith
some_depth (formula.Attr x) = omega arith
some_depth (formula.OneOf x vs) = omega arith
some_depth (formula.Content x) = omega arith
some_depth (formula.Order x y) = omega arith

pub formula_complete : (d : ℕ) → Complete d (formula_at d)
formula_complete zero = record { one_read = λ f r h e. absurd (omega (arith, some_depth f, e)) }
formula_complete (suc d) = record { one_read = open_complete d (formula_complete d) }
