-- Formulas read as the words that they are written with, and as nothing else.
use Rattle.std.proofs.Common.{◌≡◌, ℕ, zero, suc, ◌≤◌, Bool, true, false, not, ◌&&◌, List, [], ◌∷◌, ◌++◌, length, take, drop, Option, Some, None, refl, ap, sym}
use Rattle.std.proofs.Common.{subst, ◌∙◌, arith}
use Rattle.std.specs.Prelude.{codes, if◌then◌else◌, ◌==◌}
use Rattle.std.specs.List.{list_all}
use Rattle.std.proofs.Math.Dec.{eqb-suc-zero}
use Rattle.std.proofs.lemmas.Bool.{and_from, false≢true}
use Rattle.std.proofs.lemmas.List.{take-append-drop}
use Rattle.bw_lang.proofs.SameNames.{same_is}
use Rattle.bw_lang.proofs.Options.{bind_some, cond_none, cond_some}
use Rattle.bw_lang.specs.Table.Names.{same}
use Rattle.bw_lang.specs.Table.Options.{◌>>=◌}
use Rattle.bw_lang.specs.declared.pieces.NameClass.{NameClass}
use Rattle.bw_lang.specs.declared.pieces.NameClass.TheVariants as class
use Rattle.bw_schema.specs.Forms.{are_formed, depth, is_name, is_paren, one, spell_needs}
use Rattle.bw_schema.specs.Steps.Reading.{attr_at, closed, content_at, count_values, ended, name_at, order_at, simple_at, value_at}
use Rattle.bw_schema.specs.Words.{has_some}
use Rattle.bw_schema.specs.declared.needs.Formula.{Formula}
use Rattle.bw_schema.specs.declared.needs.Formula.TheVariants as formula

-- ---- words at the front

pub closed_is : (ws rest : List (List ℕ)) → closed ws ≡ Some rest → ws ≡ codes ")" ∷ rest
closed_is [] rest h = absurd cc
closed_is (w ∷ ws) rest h = let c = cond_some (same w (codes ")")) ws rest h in ap (λ x. x ∷ ws) (same_is w (codes ")") c.0)
    ∙ ap (λ (t : List (List ℕ)). codes ")" ∷ t) c.1

name_is : (c : NameClass) (ws : List (List ℕ)) (x : List ℕ × List (List ℕ)) → name_at c ws ≡ Some x → (ws ≡ x.0 ∷ x.1) × (is_name c x.0 ≡ true)
name_is c [] x h = absurd cc
name_is c (w ∷ ws) x h =
    let e = cond_some (is_name c w) (w, ws) x h in
    (λ i. (e.1 i).0 ∷ (e.1 i).1, ap (λ (y : List ℕ × List (List ℕ)). is_name c y.0) (sym e.1) ∙ e.0)

pub name_there : (c : NameClass) (w : List ℕ) (ws : List (List ℕ)) → is_name c w ≡ true → name_at c (w ∷ ws) ≡ Some (w, ws)
name_there c w ws h = ap (λ b. if b then Some (w, ws) else None) h

ended_is : (f : Formula) (ws : List (List ℕ)) (x : Formula × List (List ℕ)) → ended f ws ≡ Some x → (x.0 ≡ f) × (ws ≡ codes ")" ∷ x.1)
unfolding ended
ended_is f ws x h =
    let b = bind_some (closed ws) (λ rest. Some (f, rest)) x h in
    let e : (f, b.0) ≡ x = cc in
    (ap (λ (y : Formula × List (List ℕ)). y.0) (sym e), closed_is ws b.0 b.1 ∙ ap (λ (y : Formula × List (List ℕ)). codes ")" ∷ y.1) e)

pub ended_there : (f : Formula) (ws : List (List ℕ)) → ended f (codes ")" ∷ ws) ≡ Some (f, ws)
unfolding ended
ended_there f ws = refl

-- ---- what is read is spelled so

pub record IsSpelled (d : ℕ) (ws : List (List ℕ)) (f : Formula) (rest : List (List ℕ)) : Type 0 where
  pub spelled : ws ≡ spell_needs (one f) rest
  pub formed : are_formed (one f) ≡ true
  pub deep : depth (one f) ≤ d

spelled_as : (d : ℕ) (ws : List (List ℕ)) (f g : Formula) (rest : List (List ℕ)) → f ≡ g → IsSpelled d ws g rest → IsSpelled d ws f rest
spelled_as d ws f g rest e s = subst (λ h. IsSpelled d ws h rest) (sym e) s

attr_sound : (d : ℕ) (ws : List (List ℕ)) (x : Formula × List (List ℕ)) → attr_at ws ≡ Some x → IsSpelled (suc d) (codes "(" ∷ codes "attr" ∷ ws) x.0 x.1
unfolding attr_at
attr_sound d ws x h =
    let b = bind_some (name_at class.Attr ws) (λ n. ended (formula.Attr n.0) n.1) x h in
    let n = name_is class.Attr ws b.0 b.1 in
    let e = ended_is (formula.Attr b.0.0) b.0.1 x b.2 in
    spelled_as (suc d) _ x.0 (formula.Attr b.0.0) x.1 e.0 (record {
      spelled = ap (λ (t : List (List ℕ)). codes "(" ∷ codes "attr" ∷ t) (n.0 ∙ ap (λ (t : List (List ℕ)). b.0.0 ∷ t) e.1);
      formed = and_from (is_name class.Attr b.0.0) true n.1 refl;
      deep = omega arith;
    })

content_sound : (d : ℕ) (ws : List (List ℕ)) (x : Formula × List (List ℕ)) → content_at ws ≡ Some x
    → IsSpelled (suc d) (codes "(" ∷ codes "content" ∷ ws) x.0 x.1
unfolding content_at
content_sound d ws x h =
    let b = bind_some (name_at class.Tag ws) (λ n. ended (formula.Content n.0) n.1) x h in
    let n = name_is class.Tag ws b.0 b.1 in
    let e = ended_is (formula.Content b.0.0) b.0.1 x b.2 in
    spelled_as (suc d) _ x.0 (formula.Content b.0.0) x.1 e.0 (record {
      spelled = ap (λ (t : List (List ℕ)). codes "(" ∷ codes "content" ∷ t) (n.0 ∙ ap (λ (t : List (List ℕ)). b.0.0 ∷ t) e.1);
      formed = and_from (is_name class.Tag b.0.0) true n.1 refl;
      deep = omega arith;
    })

order_sound : (d : ℕ) (ws : List (List ℕ)) (x : Formula × List (List ℕ)) → order_at ws ≡ Some x → IsSpelled (suc d) (codes "(" ∷ codes "order" ∷ ws) x.0 x.1
unfolding order_at
order_sound d ws x h =
    let b = bind_some (name_at class.Tag ws) (λ n. name_at class.Tag n.1 >>= λ m. ended (formula.Order n.0 m.0) m.1) x h in
    let n = name_is class.Tag ws b.0 b.1 in
    let q = bind_some (name_at class.Tag b.0.1) (λ m. ended (formula.Order b.0.0 m.0) m.1) x b.2 in
    let m = name_is class.Tag b.0.1 q.0 q.1 in
    let e = ended_is (formula.Order b.0.0 q.0.0) q.0.1 x q.2 in
    spelled_as (suc d) _ x.0 (formula.Order b.0.0 q.0.0) x.1 e.0 (record {
      spelled =
          ap (λ (t : List (List ℕ)). codes "(" ∷ codes "order" ∷ t)
          (n.0 ∙ ap (λ (t : List (List ℕ)). b.0.0 ∷ t) (m.0 ∙ ap (λ (t : List (List ℕ)). q.0.0 ∷ t) e.1));
      formed = and_from (is_name class.Tag b.0.0 && is_name class.Tag q.0.0) true (and_from (is_name class.Tag b.0.0) (is_name class.Tag q.0.0) n.1 m.1) refl;
      deep = omega arith;
    })

-- the words in front of the first parenthesis are none
no_parens : (ws : List (List ℕ)) → list_all (λ v. not (is_paren v)) (take (count_values ws) ws) ≡ true
no_parens [] = refl
no_parens (w ∷ ws) = by_test (is_paren w) refl (no_parens ws)
  where
    by_test : (b : Bool) → is_paren w ≡ b → list_all (λ v. not (is_paren v)) (take (count_values ws) ws) ≡ true
        → list_all (λ v. not (is_paren v)) (take (if b then 0 else suc (count_values ws)) (w ∷ ws)) ≡ true
    by_test true e h = refl
    by_test false e h = and_from (not (is_paren w)) _ (ap not e) h

some_values : (n : ℕ) (ws : List (List ℕ)) → (n == 0) ≡ false → n ≤ length ws → has_some (take n ws) ≡ true
some_values zero ws h l = absurd (false≢true (sym h))
some_values (suc n) [] h l = absurd (omega (arith, l))
some_values (suc n) (w ∷ ws) h l = ap not (eqb-suc-zero (length (take n ws)))

count_within : (ws : List (List ℕ)) → count_values ws ≤ length ws
count_within [] = omega arith
count_within (w ∷ ws) = by_test (is_paren w) (count_within ws)
  where
    by_test : (b : Bool) → count_values ws ≤ length ws → (if b then 0 else suc (count_values ws)) ≤ length (w ∷ ws)
    by_test true h = omega arith
    by_test false h = omega (arith, h)

value_sound : (d : ℕ) (ws : List (List ℕ)) (x : Formula × List (List ℕ)) → value_at ws ≡ Some x → IsSpelled (suc d) (codes "(" ∷ codes "value" ∷ ws) x.0 x.1
unfolding value_at
value_sound d ws x h =
    let after : List ℕ × List (List ℕ) → Option (Formula × List (List ℕ)) =
    λ n. if count_values n.1 == 0 then None else ended (formula.OneOf n.0 (take (count_values n.1) n.1)) (drop (count_values n.1) n.1) in
    let b = bind_some (name_at class.Attr ws) after x h in
    let n = name_is class.Attr ws b.0 b.1 in
    let k = count_values b.0.1 in
    let vs = take k b.0.1 in
    let some = cond_none (k == 0) (ended (formula.OneOf b.0.0 vs) (drop k b.0.1)) x b.2 in
    let e = ended_is (formula.OneOf b.0.0 vs) (drop k b.0.1) x some.1 in
    spelled_as (suc d) _ x.0 (formula.OneOf b.0.0 vs) x.1 e.0 (record {
      spelled =
          ap (λ (t : List (List ℕ)). codes "(" ∷ codes "value" ∷ t)
          (n.0 ∙ ap (λ (t : List (List ℕ)). b.0.0 ∷ t) (sym (take-append-drop k b.0.1) ∙ ap (λ (t : List (List ℕ)). vs ++ t) e.1));
      formed =
          and_from (is_name class.Attr b.0.0 && (has_some vs && list_all (λ v. not (is_paren v)) vs)) true
          (and_from (is_name class.Attr b.0.0) (has_some vs && list_all (λ v. not (is_paren v)) vs) n.1
          (and_from (has_some vs) (list_all (λ v. not (is_paren v)) vs) (some_values k b.0.1 some.0 (count_within b.0.1)) (no_parens b.0.1)))
          refl;
      deep = omega arith;
    })

pub simple_sound : (d : ℕ) (head : List ℕ) (ws : List (List ℕ)) (x : Formula × List (List ℕ)) → simple_at head ws ≡ Some x
    → IsSpelled (suc d) (codes "(" ∷ head ∷ ws) x.0 x.1
unfolding simple_at
simple_sound d head ws x h = first (same head (codes "attr")) refl h
  where
    as_head : (k : List ℕ) → same head k ≡ true → IsSpelled (suc d) (codes "(" ∷ k ∷ ws) x.0 x.1 → IsSpelled (suc d) (codes "(" ∷ head ∷ ws) x.0 x.1
    as_head k e s = subst (λ w. IsSpelled (suc d) (codes "(" ∷ w ∷ ws) x.0 x.1) (sym (same_is head k e)) s

    fourth : (b : Bool) → same head (codes "order") ≡ b → (if b then order_at ws else None) ≡ Some x → IsSpelled (suc d) (codes "(" ∷ head ∷ ws) x.0 x.1
    fourth true e h = as_head (codes "order") e (order_sound d ws x h)
    fourth false e h = absurd cc

    third : (b : Bool) → same head (codes "content") ≡ b → (if b then content_at ws else (if same head (codes "order") then order_at ws else None)) ≡ Some x
        → IsSpelled (suc d) (codes "(" ∷ head ∷ ws) x.0 x.1
    third true e h = as_head (codes "content") e (content_sound d ws x h)
    third false e h = fourth (same head (codes "order")) refl h

    second : (b : Bool) → same head (codes "value") ≡ b
        → (if b then value_at ws else (if same head (codes "content") then content_at ws else
        (if same head (codes "order") then order_at ws else None))) ≡ Some x
        → IsSpelled (suc d) (codes "(" ∷ head ∷ ws) x.0 x.1
    second true e h = as_head (codes "value") e (value_sound d ws x h)
    second false e h = third (same head (codes "content")) refl h

    first : (b : Bool) → same head (codes "attr") ≡ b
        → (if b then attr_at ws else (if same head (codes "value") then value_at ws else
        (if same head (codes "content") then content_at ws else (if same head (codes "order") then order_at ws else None)))) ≡ Some x
        → IsSpelled (suc d) (codes "(" ∷ head ∷ ws) x.0 x.1
    first true e h = as_head (codes "attr") e (attr_sound d ws x h)
    first false e h = second (same head (codes "value")) refl h
