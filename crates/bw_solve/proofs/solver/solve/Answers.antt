use Rattle.std.proofs.Common.{◌≡◌, ℕ, ◌+◌, ◌-◌, ◌<◌, ◌≤◌, true, false, length, get_or, set, min, refl, sym, subst}
use Rattle.std.proofs.Common.{ap, ◌∙◌, inl, inr, arith, get_or-set_other}
use Rattle.std.specs.List.{Contains}
use Rattle.std.proofs.lemmas.Bool.{cases_eq, false≢true}
use Rattle.std.proofs.lemmas.List.{get_or_read, get_or_default, get_or-replicate}
use Rattle.std.proofs.lemmas.Result.{err_from_is_err_and}
use Rattle.bw_solve.proofs.Least.{partial_none, least_all}
use Rattle.bw_solve.proofs.Sums.{added_same, added_at, work_falls, moved_total, moved_le, min_grows}
use Rattle.bw_solve.specs.System.{family, members, IsLeast}
use Rattle.bw_solve.proofs.Flags.{waits_few}
use Rattle.bw_solve.proofs.Faults.{cause_by_round, passed_more}
use Rattle.bw_solve.proofs.Change.{Put, put, members_reached, members_above}
use Rattle.bw_solve.proofs.solver.solve.Goals as goal
use Rattle.bw_solve.proofs.solver.solve.Goals.{In-Some, In_ok-value, After-index, After-size-in-Some, In_default}
use Rattle.bw_solve.proofs.solver.solve.Given.{Over}

two_steps : (a b c : ℕ) → a ≤ b → b ≤ c → a ≤ c
two_steps a b c h k = omega arith

not_over : (limit a b total : ℕ) → limit < a → a ≤ b → total ≡ b → total ≤ limit → ⊥
not_over limit a b total h k e l = omega arith

cell_in_range : (g : Over) (c : In-Some g) → c.in-Some.cell < g.S.System.cells c.args.system.now
cell_in_range g c = let l = c.in-Some.ensures.0 in let e = c.deref-in-loop-cell.ensures.len in let f = c.loop-cell.invariant.flags in omega arith

-- the new value is what the transfer gives
value_is : (g : Over) (c : In_ok-value g)
    → c.in_ok-value.value ≡ g.S.System.transfer c.args.system.now c.in-Some.cell (family (g.S.System.empty c.args.system.now) c.loop-cell.values.items)
value_is g c = c.in_ok-value.ensures
    ∙ ap (λ xs. g.S.System.transfer c.args.system.now c.in-Some.cell (family (g.S.System.empty c.args.system.now) xs)) c.deref-in-Some.ensures.value

-- it fits the cell
value_fits : (g : Over) (c : In_ok-value g) → c.in-Some.cell < g.S.System.cells c.args.system.now
    → g.S.System.fits c.args.system.now c.in-Some.cell c.in_ok-value.value
value_fits g c h = subst (g.S.System.fits c.args.system.now c.in-Some.cell) (sym (value_is g c))
    ((g.met.S.System.laws c.args.system.now).transfer_fits c.in-Some.cell
    (family (g.S.System.empty c.args.system.now) c.loop-cell.values.items) h c.loop-cell.invariant.partial.fitting)

-- the old value
old_is : (g : Over) (c : After-index g) → c.in-Some.cell < g.S.System.cells c.args.system.now
    → c.index.result.now ≡ family (g.S.System.empty c.args.system.now) c.loop-cell.values.items c.in-Some.cell
old_is g c h =
    let lt : c.in-Some.cell < length c.loop-cell.values.items = omega arith in
    get_or_read c.loop-cell.values.items c.in-Some.cell c.index.result.now lt c.index.ensures (g.S.System.empty c.args.system.now c.in-Some.cell)

-- ---- where a cell gets the value that its transfer gives

put_here : (g : Over) (c : In_ok-value g) → c.in-Some.cell < g.S.System.cells c.args.system.now
    → Put g.met.S.Value.Lattice.laws (g.met.S.System.laws c.args.system.now) c.loop-cell.values.items c.in-Some.cell c.in_ok-value.value
put_here g c in_range =
    put g.met.S.Value.Lattice.laws (g.met.S.System.laws c.args.system.now) c.loop-cell.values.items c.in-Some.cell c.in_ok-value.value (omega arith) in_range
    c.loop-cell.invariant.partial (value_is g c)

-- the size of the old value is counted with the others
old_within : (g : Over) (c : In_ok-value g) → c.in-Some.cell < g.S.System.cells c.args.system.now
    → let f : ℕ → g.row.S-Value.Denot = family (g.S.System.empty c.args.system.now) c.loop-cell.values.items in
    g.S.Value.Lattice.size (f c.in-Some.cell) ≤ members g.S.Value.Lattice.size f (g.S.System.cells c.args.system.now)
old_within g c in_range =
    added_at (λ d. g.S.Value.Lattice.size (family (g.S.System.empty c.args.system.now) c.loop-cell.values.items d)) (g.S.System.cells c.args.system.now)
    c.in-Some.cell in_range

-- what the size of the old value was counted as
old_counted : (g : Over) (c : After-size-in-Some g) → c.in-Some.cell < g.S.System.cells c.args.system.now
    → let old = family (g.S.System.empty c.args.system.now) c.loop-cell.values.items c.in-Some.cell in
    c.size-in-Some.result ≡ min (g.S.Value.Lattice.size old) 18446744073709551615
old_counted g c in_range =
    let in_list : c.in-Some.cell < length c.loop-cell.values.items = omega arith in
    c.size-in-Some.ensures ∙ ap (λ v. min (g.S.Value.Lattice.size v) 18446744073709551615)
    (get_or_read c.loop-cell.values.items c.in-Some.cell c.index-in-Some.result.now in_list c.index-in-Some.ensures
    (g.S.System.empty c.args.system.now c.in-Some.cell))

pub index_mut-requires : goal.index_mut-requires
index_mut-requires g c = omega (arith, cell_in_range g (goal.at.index_mut-requires g c).In-Some)

pub transfer-requires-clause-cell : goal.transfer-requires-clause-cell
transfer-requires-clause-cell g c = cell_in_range g (goal.at.transfer-requires-clause-cell g c).In-Some

pub index-requires : goal.index-requires
index-requires g c = omega (arith, cell_in_range g (goal.at.index-requires g c).In-Some)

pub index-requires-in-Some : goal.index-requires-in-Some
index-requires-in-Some g c = omega (arith, cell_in_range g (goal.at.index-requires-in-Some g c).In-Some)

pub index_mut-requires-in-Some : goal.index_mut-requires-in-Some
index_mut-requires-in-Some g c = omega (arith, cell_in_range g (goal.at.index_mut-requires-in-Some g c).In-Some)

pub readers-requires : goal.readers-requires
readers-requires g c = cell_in_range g (goal.at.readers-requires g c).In-Some

pub below-requires : goal.below-requires
below-requires g c =
    let a = goal.at.below-requires g c in
    let h = cell_in_range g a.In-Some in
    (g.met.S.System.laws c.args.system.now).fits_alike c.in-Some.cell c.in_ok-value.value c.index.result.now h
    (value_fits g a.In_ok-value h)
    (subst (g.S.System.fits c.args.system.now c.in-Some.cell) (sym (old_is g a.After-index h)) (c.loop-cell.invariant.partial.fitting c.in-Some.cell h))

pub loop-cell-preserved-then-below : goal.loop-cell-preserved-then-below
loop-cell-preserved-then-below g c =
    let a = goal.at.loop-cell-preserved-then-below g c in
    let s = a.In-Some in
    let cell = c.in-Some.cell in
    let h = cell_in_range g s in
    let inv = c.loop-cell.invariant in
    let f : ℕ → g.row.S-Value.Denot = family (g.S.System.empty c.args.system.now) c.loop-cell.values.items in
    record {
      flags = inv.flags;
      len = inv.len;
      partial = inv.partial;
      closed = λ d hd off. elim (cases_eq d cell) [
        | inl same ↦ subst (λ k. g.S.Value.Lattice.below (g.S.System.transfer c.args.system.now k f) (f k) ≡ true) (sym same)
            (ap (λ w. g.S.Value.Lattice.below w (f cell)) (sym (value_is g a.In_ok-value))
            ∙ ap (g.S.Value.Lattice.below c.in_ok-value.value) (sym (old_is g a.After-index h)) ∙ sym c.if-below.ensures)
        | inr other ↦ inv.closed d hd (sym (get_or-set_other c.loop-cell.waiting.items cell d false false other) ∙ off)
      ];
      total = inv.total;
      small = inv.small;
    }

pub overflow_sub-size : goal.overflow_sub-size
overflow_sub-size g c =
    let a = goal.at.overflow_sub-size g c in
    let h = cell_in_range g a.In-Some in
    min_grows _ _ c.size-in-Some.result c.size.result _ (old_counted g a.After-size-in-Some h) c.size.ensures (put_here g a.In_ok-value h).size_grows

pub returns-in_err-total-clause-causes : goal.returns-in_err-total-clause-causes
returns-in_err-total-clause-causes g c =
    let p = err_from_is_err_and c.from_residual-in_err-total.result c.from_residual-in_err-total.ensures.1 in
    let size = g.S.Value.Lattice.size in
    let cells = g.S.System.cells c.args.system.now in
    let empty = g.S.System.empty c.args.system.now in
    let e : members size (family empty c.in_ok-values.values.items) cells ≡ members size empty cells =
    added_same (λ d. size (family empty c.in_ok-values.values.items d)) (λ d. size (empty d)) cells (λ d h. ap size (c.in_ok-values.ensures.each d h)) in
    rw (p.1, p.2) (cause_by_round size cells empty (g.S.System.transfer c.args.system.now) c.args.limit 0 c.in_err-total.field-0.0
    (passed_more c.args.limit (members size (family empty c.deref.result.now) cells) _ _
    (let d = ap (λ xs. members size (family empty xs) cells) c.deref.ensures.value in omega arith) c.in_err-total.ensures.passed))

pub loop-cell-init : goal.loop-cell-init
loop-cell-init g c =
    let sys = g.met.S.System.laws c.args.system.now in
    let n = c.in_ok-values.ensures.len in
    let on = c.in_ok-waiting.ensures.items_if_clones_equal (λ y e. e) in
    record {
      flags = omega (arith, c.in_ok-waiting.ensures.len);
      len = n;
      partial = partial_none g.met.S.Value.Lattice.laws sys _ c.in_ok-values.ensures.each;
      closed = λ d hd off. absurd (false≢true (sym off ∙ ap (λ xs. get_or xs d false) on ∙ get_or-replicate c.len.result d true false (omega arith)));
      total = c.in_ok-total.ensures.sum.0
          ∙ ap (λ xs. members g.S.Value.Lattice.size (family (g.S.System.empty c.args.system.now) xs) (g.S.System.cells c.args.system.now))
          c.deref.ensures.value;
      small = c.in_ok-total.ensures.sum.1;
    }

pub returns-in_err-total-2-clause-causes : goal.returns-in_err-total-2-clause-causes
returns-in_err-total-2-clause-causes g c =
    let a = goal.at.returns-in_err-total-2-clause-causes g c in
    let v = a.In_ok-value in
    let p = err_from_is_err_and c.from_residual-in_err-total-2.result c.from_residual-in_err-total-2.ensures.1 in
    let h = cell_in_range g a.In-Some in
    let n = put_here g v h in
    let t = moved_le c.loop-cell.total _ _ _ _ c.size.result c.size-in-Some.result c.args.limit _ c.loop-cell.invariant.total n.members_are
    c.size.ensures (old_counted g a.After-size-in-Some h) n.size_grows (old_within g v h) c.loop-cell.invariant.small c.requires in
    let r = members_reached g.met.S.Value.Lattice.laws (g.met.S.System.laws c.args.system.now) _ n.partial n.partial.reached.0 refl in
    rw (p.1, p.2) (cause_by_round g.S.Value.Lattice.size (g.S.System.cells c.args.system.now) (g.S.System.empty c.args.system.now)
    (g.S.System.transfer c.args.system.now) c.args.limit
    n.partial.reached.0 c.in_err-total-2.field-0.0
    (passed_more c.args.limit (c.loop-cell.total + (c.size.result - c.size-in-Some.result)) _ _ (two_steps _ _ _ t r) c.in_err-total-2.ensures.passed))

pub loop-cell-smaller : goal.loop-cell-smaller
loop-cell-smaller g c =
    let a = goal.at.loop-cell-smaller g c in
    let h = cell_in_range g a.In-Some in
    let grew = ap (g.S.Value.Lattice.below c.in_ok-value.value) (sym (old_is g a.After-index h)) ∙ sym c.if-below.ensures in
    work_falls _ _ _ _ _ ((put_here g a.In_ok-value h).gaps_fall grew)
    (waits_few c.loop-cell.waiting.items c.wake.new.waiting.items (g.S.System.cells c.args.system.now)
    (let e = c.loop-cell.invariant.flags in let k = c.wake.ensures.len in omega arith))

pub loop-cell-preserved : goal.loop-cell-preserved
loop-cell-preserved g c =
    let a = goal.at.loop-cell-preserved g c in
    let v = a.In_ok-value in
    let inv = c.loop-cell.invariant in
    let h = cell_in_range g a.In-Some in
    let n = put_here g v h in
    let f : ℕ → g.row.S-Value.Denot = family (g.S.System.empty c.args.system.now) (set c.loop-cell.values.items c.in-Some.cell c.in_ok-value.value) in
    let readers = g.S.System.readers c.args.system.now c.in-Some.cell in
    let apart : (d : ℕ) → d < g.S.System.cells c.args.system.now → get_or c.wake.new.waiting.items d false ≡ false → ¬ (Contains readers d) = λ d hd off k.
    let there = subst (λ xs. Contains xs d) (sym c.readers.ensures.value) k in
    c.wake.ensures.apart d there.0 (subst (λ n. d < n) (sym inv.flags) hd) off there.1
    (get_or_default c.readers.result.now there.0 0 d there.1 ∙ there.2) in
    record {
      flags = omega (arith, c.wake.ensures.len);
      len = inv.len;
      partial = n.partial;
      closed = λ d hd off. elim (cases_eq d c.in-Some.cell) [
        | inl same ↦ subst (λ k. g.S.Value.Lattice.below (g.S.System.transfer c.args.system.now k f) (f k) ≡ true) (sym same)
            (n.closed_here (subst (λ k. ¬ (Contains readers k)) same (apart d hd off)))
        | inr other ↦ n.closed d hd (apart d hd off)
            (inv.closed d hd (sym (get_or-set_other c.loop-cell.waiting.items c.in-Some.cell d false false other) ∙ c.wake.ensures.before d off))
      ];
      total = c.in_ok-total-2.ensures.sum.0
          ∙ moved_total c.loop-cell.total _ _ _ _ c.size.result c.size-in-Some.result c.args.limit _ inv.total n.members_are c.size.ensures
          (old_counted g a.After-size-in-Some h) n.size_grows (old_within g v h) inv.small c.requires
          (subst (λ n. n ≤ c.args.limit) c.in_ok-total-2.ensures.sum.0 c.in_ok-total-2.ensures.sum.1);
      small = c.in_ok-total-2.ensures.sum.1;
    }

-- where nothing waits, the values are the least solution
at_end : (g : Over) (c : In_default g) → IsLeast g.S.Value.Lattice.below (g.S.System.cells c.args.system.now) (g.S.System.empty c.args.system.now)
    (g.S.System.transfer c.args.system.now) (family (g.S.System.empty c.args.system.now) c.loop-cell.values.items)
at_end g c =
    let sys = g.met.S.System.laws c.args.system.now in
    let inv = c.loop-cell.invariant in
    least_all g.met.S.Value.Lattice.laws sys _ inv.partial (λ d hd. inv.closed d hd
    (sym (ap (λ w. get_or w d false) c.deref-in-loop-cell.ensures.value) ∙ c.in_default.ensures d))

pub returns-clause-least : goal.returns-clause-least
returns-clause-least g c = at_end g (goal.at.returns-clause-least g c).In_default

pub returns-clause-within : goal.returns-clause-within
returns-clause-within g c over =
    let f : ℕ → g.row.S-Value.Denot = family (g.S.System.empty c.args.system.now) c.loop-cell.values.items in
    let sys = g.met.S.System.laws c.args.system.now in
    let inv = c.loop-cell.invariant in
    let m = members_above g.met.S.Value.Lattice.laws sys f inv.partial.fitting (at_end g (goal.at.returns-clause-within g c).In_default) over.0 in
    let o = over.1 in
    let t : c.loop-cell.total ≡ members g.S.Value.Lattice.size f (g.S.System.cells c.args.system.now) = inv.total in
    let s = inv.small in
    not_over _ _ _ _ o m t s
