use Rattle.std.proofs.Common.{◌≡◌, ℕ, ◌+◌, ◌-◌, ◌<◌, take, List, [], ◌∷◌, ◌++◌, length, get_or, drop, refl, sym, ap, ◌∙◌, subst, inl, inr, ◌⊎◌}
use Rattle.std.proofs.Common.{arith, append_assoc, length-drop, length-take}
use Rattle.std.specs.declared.cmp.Ordering.{Ordering}
use Rattle.std.specs.declared.cmp.Ordering.TheVariants.{Less, Equal}
use Rattle.std.specs.Ordering.{match_ordering}
use Rattle.std.specs.List.{AllByRecursion}
use Rattle.std.proofs.lemmas.List.{append-nil, take_rest}
use Rattle.bw_solve.specs.Sets.{merge, merge_into}
use Rattle.bw_solve.proofs.Runs.{set_take, left_behind, right_behind}
use Rattle.bw_solve.proofs.Walk.{left_at, set_drop}
use Rattle.bw_solve.proofs.set.merged.Goals as goal
use Rattle.bw_solve.proofs.set.merged.Goals.{then-loop-i-test+else-j-b, else-loop-i-test}

-- where one list is empty, the other follows
ends : {T : Type 0} (cmp : T → T → Ordering) (xs ys : List T) → (length xs ≡ 0) ⊎ (length ys ≡ 0) → merge cmp xs ys ≡ xs ++ ys
ends cmp [] ys h = refl
ends cmp (x ∷ xs) [] h = sym (append-nil (x ∷ xs))
ends cmp (x ∷ xs) (y ∷ ys) (inl h) = absurd (omega arith)
ends cmp (x ∷ xs) (y ∷ ys) (inr h) = absurd (omega arith)

joined : {T : Type 0} (cmp : T → T → Ordering) (a b : List T) (i j : ℕ) (all mid new : List T) → mid ≡ all ++ take (length a - i) (drop i a)
    → new ≡ mid ++ take (length b - j) (drop j b)
    → (length (drop i a) ≡ 0) ⊎ (length (drop j b) ≡ 0) → all ++ merge cmp (drop i a) (drop j b) ≡ merge cmp a b → new ≡ merge cmp a b
joined cmp a b i j all mid new e f k done =
    f ∙ ap (λ l. mid ++ l) (take_rest b j) ∙ ap (λ l. l ++ drop j b) (e ∙ ap (λ l. all ++ l) (take_rest a i)) ∙ append_assoc all (drop i a) (drop j b)
    ∙ ap (λ l. all ++ l) (sym (ends cmp (drop i a) (drop j b) k)) ∙ done

-- where the items at two places are one, it goes behind what is there once
both_step : {T : Type 0} (cmp : T → T → Ordering) (a b : List T) (i j : ℕ) (x y z : T) (all new m : List T) → i < length a → j < length b → x ≡ get_or a i x
    → y ≡ get_or b j y → z ≡ get_or a i z → cmp x y ≡ Equal → new ≡ all ++ (z ∷ []) → all ++ merge cmp (drop i a) (drop j b) ≡ m
    → new ++ merge cmp (drop (i + 1) a) (drop (j + 1) b) ≡ m
both_step cmp a b i j x y z all new m h k p q r e f done =
    let xs = drop (i + 1) a in
    let ys = drop (j + 1) b in
    let at_x = left_at a i x h p in
    let at_z = left_at a i z h r in
    let at_y = left_at b j y k q in
    let front : merge cmp (x ∷ xs) (y ∷ ys) ≡ x ∷ merge cmp xs ys =
    ap (λ o. match_ordering o (x ∷ merge cmp xs (y ∷ ys)) (x ∷ merge cmp xs ys) (y ∷ merge_into cmp x xs (merge cmp xs) ys)) e in
    let behind : (all ++ (z ∷ [])) ++ merge cmp xs ys ≡ all ++ (z ∷ merge cmp xs ys) = append_assoc all (z ∷ []) (merge cmp xs ys) in
    cc

-- what stands first in the rest of one list is below the next item of the other
first_below : {T : Type 0} (cmp : T → T → Ordering) (a b : List T) (i j : ℕ) (x y z : T) → i < length a → j < length b → x ≡ get_or a i x
    → y ≡ get_or b j y → z ≡ get_or b j z → cmp x y ≡ Less → AllByRecursion (λ v. cmp v z ≡ Less) (take 1 (take (length a - i) (drop i a)))
first_below cmp a b i j x y z h k p q r e =
    let at_y = left_at b j y k q in
    let at_z = left_at b j z k r in
    let here : cmp x z ≡ Less = cc in
    subst (λ l. AllByRecursion (λ v. cmp v z ≡ Less) (take 1 l)) (sym (take_rest a i ∙ left_at a i x h p)) (here, tt)

pub run_below-requires-clause-first : goal.run_below-requires-clause-first
run_below-requires-clause-first g c =
    first_below g.T.Ord.cmp c.args.a.now c.args.b.now c.loop-i.i c.loop-i.j c.index-a-i.result c.index-b-j.result c.index-b-j-in-Less.result
    c.loop-i-test.true c.if-j-b.true c.index-a-i.is c.index-b-j.is c.index-b-j-in-Less.is (sym c.cmp.ensures ∙ c.in-Less.is)

pub run_below-requires-clause-set : goal.run_below-requires-clause-set
run_below-requires-clause-set g c =
    set_take g.T.Ord.cmp (length c.args.a.now - c.loop-i.i) (drop c.loop-i.i c.args.a.now) (set_drop g.T.Ord.cmp c.args.a.now c.loop-i.i c.requires.a)

pub run_below-requires-in-Greater-clause-set : goal.run_below-requires-in-Greater-clause-set
run_below-requires-in-Greater-clause-set g c =
    set_take g.T.Ord.cmp (length c.args.b.now - c.loop-i.j) (drop c.loop-i.j c.args.b.now) (set_drop g.T.Ord.cmp c.args.b.now c.loop-i.j c.requires.b)

pub loop-i-preserved-in-Less : goal.loop-i-preserved-in-Less
loop-i-preserved-in-Less g c = record {
  a_in = omega (arith, c.run_below.ensures.within, length-take (length c.args.a.now - c.loop-i.i) (drop c.loop-i.i c.args.a.now), c.loop-i.invariant.a_in);
  b_in = c.loop-i.invariant.b_in;
  done = left_behind c.loop-i.all.items _ c.args.a.now (merge g.T.Ord.cmp c.args.a.now c.args.b.now) c.loop-i.i c.run_below.result
      c.in_ok-extend_from_slice-in-Less.ensures.items g.T.Ord.cmp c.args.b.now c.loop-i.j c.index-b-j-in-Less.result c.if-j-b.true c.index-b-j-in-Less.is
      c.run_below.ensures.below c.loop-i.invariant.done;
}

pub loop-i-preserved-in-Equal : goal.loop-i-preserved-in-Equal
loop-i-preserved-in-Equal g c = record {
  a_in = omega (arith, c.loop-i-test.true);
  b_in = omega (arith, c.if-j-b.true);
  done = both_step g.T.Ord.cmp c.args.a.now c.args.b.now c.loop-i.i c.loop-i.j c.index-a-i.result c.index-b-j.result c.index-a-i-in-Equal.result
      c.loop-i.all.items _ (merge g.T.Ord.cmp c.args.a.now c.args.b.now) c.loop-i-test.true c.if-j-b.true c.index-a-i.is c.index-b-j.is
      c.index-a-i-in-Equal.is (sym c.cmp.ensures ∙ c.in-Equal.is) c.in_ok-push-in-Equal.ensures.items c.loop-i.invariant.done;
}

pub loop-i-preserved : goal.loop-i-preserved
loop-i-preserved g c = record {
  a_in = c.loop-i.invariant.a_in;
  b_in = omega (
    arith,
    c.run_below-in-Greater.ensures.within,
    length-take (length c.args.b.now - c.loop-i.j) (drop c.loop-i.j c.args.b.now),
    c.loop-i.invariant.b_in,
  );
  done = right_behind c.loop-i.all.items _ c.args.b.now (merge g.T.Ord.cmp c.args.a.now c.args.b.now) c.loop-i.j
      c.run_below-in-Greater.result c.in_ok-extend_from_slice-in-Greater.ensures.items g.met.T.Ord.total c.args.a.now c.loop-i.i c.index-a-i-in-Greater.result c.loop-i-test.true
      c.index-a-i-in-Greater.is c.run_below-in-Greater.ensures.below c.loop-i.invariant.done;
}

pub returns : goal.returns
returns g c =
    joined g.T.Ord.cmp c.args.a.now c.args.b.now c.loop-i.i c.loop-i.j c.loop-i.all.items _ _ c.in_ok-extend_from_slice.ensures.items
    c.in_ok-extend_from_slice-2.ensures.items
    (elim c.loop-i-test.branch [ then-loop-i-test+else-j-b w ↦ inr (rw length-drop (omega arith)) | else-loop-i-test w ↦ inl (rw length-drop (omega arith)) ])
    c.loop-i.invariant.done
