-- Formulas with parts, read as the words that they are written with.
use Rattle.std.proofs.Common.{◌≡◌, ℕ, zero, suc, ◌≤◌, Bool, true, false, not, ◌&&◌, List, [], ◌∷◌, length, Option, Some, None, refl, ap, sym, subst, ◌∙◌, arith}
use Rattle.std.specs.Prelude.{codes, if◌then◌else◌}
use Rattle.std.proofs.lemmas.Bool.{and_from, false≢true}
use Rattle.bw_lang.proofs.SameNames.{same_is}
use Rattle.bw_lang.proofs.Options.{bind_some, cond_none, if_some}
use Rattle.bw_lang.specs.Table.Names.{same}
use Rattle.bw_lang.specs.Table.Options.{◌>>=◌}
use Rattle.bw_schema.specs.Forms.{are_formed, depth, is_nothing, one, spell_needs}
use Rattle.bw_schema.specs.Needs.{Needs}
use Rattle.bw_schema.specs.NeedsView.{before_need}
use Rattle.bw_schema.specs.Steps.Reading.{closed, formula_at, inside_at, needs_at, needs_next, opened, parts_at, simple_at}
use Rattle.bw_schema.specs.declared.needs.Formula.{Formula}
use Rattle.bw_schema.specs.declared.needs.Formula.TheVariants as formula
use Rattle.bw_schema.proofs.Spelled.{closed_is, IsSpelled, simple_sound}

pub record Sound (d : ℕ) (step : List (List ℕ) → Option (Formula × List (List ℕ))) : Type 0 where
  pub one_is : (ws : List (List ℕ)) (x : Formula × List (List ℕ)) → step ws ≡ Some x → IsSpelled d ws x.0 x.1

pub record AreSpelled (d : ℕ) (ws : List (List ℕ)) (ns : Needs) (rest : List (List ℕ)) : Type 0 where
  pub spelled : ws ≡ spell_needs ns rest
  pub formed : are_formed ns ≡ true
  pub deep : depth ns ≤ d

-- the words, the form and the depth of a formula and those behind it
pub spell_before : (f : Formula) (ns : Needs) (k : List (List ℕ)) → spell_needs (before_need f ns) k ≡ spell_needs (one f) (spell_needs ns k)
spell_before (formula.And p) ns k = refl
spell_before (formula.Or p) ns k = refl
spell_before (formula.Attr x) ns k = refl
spell_before (formula.OneOf x vs) ns k = refl
spell_before (formula.Content x) ns k = refl
spell_before (formula.Order x y) ns k = refl

and_end : (a b : Bool) → (a && true) ≡ true → b ≡ true → (a && b) ≡ true
and_end true b h e = e
and_end false b h e = absurd (false≢true h)

formed_before : (f : Formula) (ns : Needs) → are_formed (one f) ≡ true → are_formed ns ≡ true → are_formed (before_need f ns) ≡ true
formed_before (formula.And p) ns h e = and_end _ _ h e
formed_before (formula.Or p) ns h e = and_end _ _ h e
formed_before (formula.Attr x) ns h e = and_end _ _ h e
formed_before (formula.OneOf x vs) ns h e = and_end _ _ h e
formed_before (formula.Content x) ns h e = and_end _ _ h e
formed_before (formula.Order x y) ns h e = and_end _ _ h e

depth_before : (d : ℕ) (f : Formula) (ns : Needs) → depth (one f) ≤ d → depth ns ≤ d → depth (before_need f ns) ≤ d
depth_before d (formula.And p) ns h e = omega (arith, h, e)
depth_before d (formula.Or p) ns h e = omega (arith, h, e)
depth_before d (formula.Attr x) ns h e = omega (arith, h, e)
depth_before d (formula.OneOf x vs) ns h e = omega (arith, h, e)
depth_before d (formula.Content x) ns h e = omega (arith, h, e)
depth_before d (formula.Order x y) ns h e = omega (arith, h, e)

needs_sound : (d : ℕ) (step : List (List ℕ) → Option (Formula × List (List ℕ))) → Sound d step → (n : ℕ) (ws : List (List ℕ))
    → AreSpelled d ws (needs_at step n ws).0 (needs_at step n ws).1
unfolding needs_at
needs_sound d step s zero ws = record { spelled = refl; formed = refl; deep = omega arith }
needs_sound d step s (suc n) ws = next (step ws) refl (needs_sound d step s n)
  where
    next : (o : Option (Formula × List (List ℕ))) → step ws ≡ o → ((vs : List (List ℕ)) → AreSpelled d vs (needs_at step n vs).0 (needs_at step n vs).1)
        → AreSpelled d ws (needs_next o ws (needs_at step n)).0 (needs_next o ws (needs_at step n)).1
    next None e ih = record { spelled = refl; formed = refl; deep = omega arith }
    next (Some x) e ih =
        let f = s.one_is ws x e in
        let r = ih x.1 in
        record {
          spelled = f.spelled ∙ ap (spell_needs (one x.0)) r.spelled ∙ sym (spell_before x.0 (needs_at step n x.1).0 (needs_at step n x.1).1);
          formed = formed_before x.0 (needs_at step n x.1).0 f.formed r.formed;
          deep = depth_before d x.0 (needs_at step n x.1).0 f.deep r.deep;
        }

not_nothing : (ns : Needs) → is_nothing ns ≡ false → not (is_nothing ns) ≡ true
not_nothing ns h = ap not h

pub record ArePartsSpelled (d : ℕ) (ws : List (List ℕ)) (ns : Needs) (rest : List (List ℕ)) : Type 0 where
  pub spelled : ws ≡ spell_needs ns (codes ")" ∷ rest)
  pub formed : (not (is_nothing ns) && are_formed ns) ≡ true
  pub deep : depth ns ≤ d

parts_sound : (d : ℕ) (step : List (List ℕ) → Option (Formula × List (List ℕ))) → Sound d step → (ws : List (List ℕ)) (p : Needs × List (List ℕ))
    → parts_at step ws ≡ Some p
    → ArePartsSpelled d ws p.0 p.1
unfolding parts_at
parts_sound d step s ws p h =
    let q = needs_at step (length ws) ws in
    let some = cond_none (is_nothing q.0) (closed q.1 >>= λ rest. Some (q.0, rest)) p h in
    let b = bind_some (closed q.1) (λ rest. Some (q.0, rest)) p some.1 in
    let e : (q.0, b.0) ≡ p = cc in
    let r = needs_sound d step s (length ws) ws in
    let made : ArePartsSpelled d ws q.0 b.0 = record {
      spelled = r.spelled ∙ ap (spell_needs q.0) (closed_is q.1 b.0 b.1);
      formed = and_from (not (is_nothing q.0)) (are_formed q.0) (ap not some.0) r.formed;
      deep = r.deep;
    } in
    subst (λ (t : Needs × List (List ℕ)). ArePartsSpelled d ws t.0 t.1) e made

inside_sound : (d : ℕ) (step : List (List ℕ) → Option (Formula × List (List ℕ))) → Sound d step
    → (head : List ℕ) (ws : List (List ℕ)) (x : Formula × List (List ℕ))
    → inside_at step head ws ≡ Some x → IsSpelled (suc d) (codes "(" ∷ head ∷ ws) x.0 x.1
unfolding inside_at
inside_sound d step s head ws x h = first (same head (codes "and")) refl h
  where
    made : (k : List ℕ) (c : Needs → Formula) → same head k ≡ true
        → ((p : Needs) (rest : List (List ℕ)) → ArePartsSpelled d ws p rest → IsSpelled (suc d) (codes "(" ∷ k ∷ ws) (c p) rest)
        → (parts_at step ws >>= λ p. Some (c p.0, p.1)) ≡ Some x → IsSpelled (suc d) (codes "(" ∷ head ∷ ws) x.0 x.1
    made k c e one_of h =
        let b = bind_some (parts_at step ws) (λ p. Some (c p.0, p.1)) x h in
        let f : (c b.0.0, b.0.1) ≡ x = cc in
        let p = one_of b.0.0 b.0.1 (parts_sound d step s ws b.0 b.1) in
        subst (λ (t : Formula × List (List ℕ)). IsSpelled (suc d) (codes "(" ∷ head ∷ ws) t.0 t.1) f
        (subst (λ w. IsSpelled (suc d) (codes "(" ∷ w ∷ ws) (c b.0.0) b.0.1) (sym (same_is head k e)) p)

    second : (b : Bool) → same head (codes "or") ≡ b → (if b then (parts_at step ws >>= λ p. Some (formula.Or p.0, p.1)) else simple_at head ws) ≡ Some x
        → IsSpelled (suc d) (codes "(" ∷ head ∷ ws) x.0 x.1
    second true e h = made (codes "or") formula.Or e (λ p rest q. record {
      spelled = ap (λ (t : List (List ℕ)). codes "(" ∷ codes "or" ∷ t) q.spelled;
      formed = and_from (not (is_nothing p) && are_formed p) true q.formed refl;
      deep = omega (arith, q.deep);
    }) h
    second false e h = simple_sound d head ws x h

    first : (b : Bool) → same head (codes "and") ≡ b
        → (if b then (parts_at step ws >>= λ p. Some (formula.And p.0, p.1)) else
        (if same head (codes "or") then (parts_at step ws >>= λ p. Some (formula.Or p.0, p.1)) else simple_at head ws)) ≡ Some x
        → IsSpelled (suc d) (codes "(" ∷ head ∷ ws) x.0 x.1
    first true e h = made (codes "and") formula.And e (λ p rest q. record {
      spelled = ap (λ (t : List (List ℕ)). codes "(" ∷ codes "and" ∷ t) q.spelled;
      formed = and_from (not (is_nothing p) && are_formed p) true q.formed refl;
      deep = omega (arith, q.deep);
    }) h
    first false e h = second (same head (codes "or")) refl h

pub formula_sound : (d : ℕ) → Sound d (formula_at d)
unfolding formula_at
formula_sound zero = record { one_is = λ ws x h. absurd cc }
formula_sound (suc d) = record { one_is = open_sound d (formula_sound d) }
  where
    open_sound : (d : ℕ) → Sound d (formula_at d) → (ws : List (List ℕ)) (x : Formula × List (List ℕ)) → opened (inside_at (formula_at d)) ws ≡ Some x
        → IsSpelled (suc d) ws x.0 x.1
    open_sound d s [] x h = absurd cc
    open_sound d s (w ∷ []) x h = absurd cc
    open_sound d s (w ∷ head ∷ ws) x h =
        let e = if_some (same w (codes "(")) (inside_at (formula_at d) head ws) x h in
        subst (λ k. IsSpelled (suc d) (k ∷ head ∷ ws) x.0 x.1) (sym (same_is w (codes "(") e.0)) (inside_sound d (formula_at d) s head ws x e.1)
