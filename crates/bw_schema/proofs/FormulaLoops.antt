-- What a loop over formulas has read, and what is still to come.
use Rattle.std.proofs.Common.{◌≡◌, ℕ, zero, suc, ◌-◌, ◌<◌, ◌≤◌, false, List, [], ◌∷◌, length, Option, Some, None, refl, ap, sym, ◌∙◌, arith}
use Rattle.std.specs.Prelude.{if◌then◌else◌, ◌==◌}
use Rattle.std.proofs.lemmas.Bool.{false≢true}
use Rattle.bw_lang.specs.Table.Options.{◌>>=◌}
use Rattle.bw_schema.proofs.NeedsLaws.{before_append}
use Rattle.bw_schema.proofs.SpelledParts.{formula_sound}
use Rattle.bw_schema.specs.Forms.{is_nothing, one, spell_needs}
use Rattle.bw_schema.specs.Needs.{Needs, nothing, all_of, some_of, attr, one_value, content, order, append_needs}
use Rattle.bw_schema.specs.NeedsView.{before_need, needs}
use Rattle.bw_schema.specs.Steps.Reading.{closed, formula_at, inside_at, needs_at, needs_next, opened, parts_at}
use Rattle.bw_schema.specs.declared.needs.Formula.{Formula}
use Rattle.bw_schema.specs.declared.needs.Formula.TheVariants as formula
use Rattle.bw_schema.proofs.Complete.{Step, longer, with_rest, ended_parts}

one_longer : (f : Formula) (r : List (List ℕ)) → length r < length (spell_needs (one f) r)
one_longer (formula.And p) r = omega (arith, longer (all_of p nothing) r)
one_longer (formula.Or p) r = omega (arith, longer (some_of p nothing) r)
one_longer (formula.Attr x) r = omega (arith, longer (attr x nothing) r)
one_longer (formula.OneOf x vs) r = omega (arith, longer (one_value x vs nothing) r)
one_longer (formula.Content x) r = omega (arith, longer (content x nothing) r)
one_longer (formula.Order x y) r = omega (arith, longer (order x y nothing) r)

-- what is read leaves fewer words
pub formula_less : (d : ℕ) (ws : List (List ℕ)) (x : Formula × List (List ℕ)) → formula_at d ws ≡ Some x → length x.1 < length ws
formula_less d ws x h = let s = (formula_sound d).one_is ws x h in omega (arith, ap length s.spelled, one_longer x.0 x.1)

-- enough is enough
needs_fuel : (d m n : ℕ) (ws : List (List ℕ)) → length ws ≤ m → length ws ≤ n → needs_at (formula_at d) m ws ≡ needs_at (formula_at d) n ws
unfolding needs_at
needs_fuel d zero zero ws p q = refl
needs_fuel d zero (suc n) ws p q = stops (formula_at d ws) refl
  where
    stops : (o : Option (Formula × List (List ℕ))) → formula_at d ws ≡ o → (nothing, ws) ≡ needs_next o ws (needs_at (formula_at d) n)
    stops None e = refl
    stops (Some x) e = absurd (omega (arith, formula_less d ws x e, p))
needs_fuel d (suc m) zero ws p q = stops (formula_at d ws) refl
  where
    stops : (o : Option (Formula × List (List ℕ))) → formula_at d ws ≡ o → needs_next o ws (needs_at (formula_at d) m) ≡ (nothing, ws)
    stops None e = refl
    stops (Some x) e = absurd (omega (arith, formula_less d ws x e, q))
needs_fuel d (suc m) (suc n) ws p q = step (formula_at d ws) refl (needs_fuel d m n)
  where
    step : (o : Option (Formula × List (List ℕ))) → formula_at d ws ≡ o
        → ((vs : List (List ℕ)) → length vs ≤ m → length vs ≤ n → needs_at (formula_at d) m vs ≡ needs_at (formula_at d) n vs)
        → needs_next o ws (needs_at (formula_at d) m) ≡ needs_next o ws (needs_at (formula_at d) n)
    step None e ih = refl
    step (Some x) e ih =
        ap (λ (t : Needs × List (List ℕ)). (before_need x.0 t.0, t.1))
        (ih x.1 (omega (arith, formula_less d ws x e, p)) (omega (arith, formula_less d ws x e, q)))

-- all that the words have
abbrev pub all_needs : ℕ → List (List ℕ) → Needs × List (List ℕ)
all_needs d ws = needs_at (formula_at d) (length ws) ws

-- behind formulas that were read before
abbrev pub onto : Needs → Needs × List (List ℕ) → Needs × List (List ℕ)
onto done p = (append_needs done p.0, p.1)

at_once : (d n : ℕ) (ws : List (List ℕ)) (x : Formula × List (List ℕ)) → formula_at d ws ≡ Some x → length ws ≡ suc n → length x.1 ≤ n
    → all_needs d ws ≡ (before_need x.0 (all_needs d x.1).0, (all_needs d x.1).1)
unfolding needs_at
at_once d n ws x e l m =
    ap (λ k. needs_at (formula_at d) k ws) l ∙ ap (λ o. needs_next o ws (needs_at (formula_at d) n)) e
    ∙ ap (λ (t : Needs × List (List ℕ)). (before_need x.0 t.0, t.1)) (needs_fuel d n (length x.1) x.1 m (omega arith))

pub append_one : (done : Needs) (f : Formula) (b : Needs) → append_needs (append_needs done (before_need f nothing)) b ≡ append_needs done (before_need f b)
append_one nothing f b = before_append f nothing b
append_one (all_of p rest) f b = ap (all_of p) (append_one rest f b)
append_one (some_of p rest) f b = ap (some_of p) (append_one rest f b)
append_one (attr x rest) f b = ap (attr x) (append_one rest f b)
append_one (one_value x vs rest) f b = ap (one_value x vs) (append_one rest f b)
append_one (content x rest) f b = ap (content x) (append_one rest f b)
append_one (order x y rest) f b = ap (order x y) (append_one rest f b)

-- one more
pub onto_more : (d : ℕ) (done : Needs) (ws : List (List ℕ)) (x : Formula × List (List ℕ)) (all : Needs × List (List ℕ)) → formula_at d ws ≡ Some x
    → onto done (all_needs d ws) ≡ all
    → onto (append_needs done (before_need x.0 nothing)) (all_needs d x.1) ≡ all
onto_more d done ws x all e h = by_words ws refl
  where
    by_words : (vs : List (List ℕ)) → vs ≡ ws → onto (append_needs done (before_need x.0 nothing)) (all_needs d x.1) ≡ all
    by_words [] l = absurd (omega (arith, formula_less d ws x e, ap length l))
    by_words (v ∷ vs) l =
        let once = at_once d (length vs) ws x e (sym (ap length l)) (omega (arith, formula_less d ws x e, ap length l)) in
        (λ i. (append_one done x.0 (all_needs d x.1).0 i, (all_needs d x.1).1)) ∙ ap (onto done) (sym once) ∙ h

-- no more
pub append-nothing : (a : Needs) → append_needs a nothing ≡ a
append-nothing nothing = refl
append-nothing (all_of p rest) = ap (all_of p) (append-nothing rest)
append-nothing (some_of p rest) = ap (some_of p) (append-nothing rest)
append-nothing (attr x rest) = ap (attr x) (append-nothing rest)
append-nothing (one_value x vs rest) = ap (one_value x vs) (append-nothing rest)
append-nothing (content x rest) = ap (content x) (append-nothing rest)
append-nothing (order x y rest) = ap (order x y) (append-nothing rest)

stopped : (d n : ℕ) (ws : List (List ℕ)) → formula_at d ws ≡ None → needs_at (formula_at d) n ws ≡ (nothing, ws)
unfolding needs_at
stopped d zero ws e = refl
stopped d (suc n) ws e = ap (λ o. needs_next o ws (needs_at (formula_at d) n)) e

pub onto_none : (d : ℕ) (done : Needs) (ws : List (List ℕ)) (all : Needs × List (List ℕ)) → formula_at d ws ≡ None → onto done (all_needs d ws) ≡ all
    → all ≡ (done, ws)
onto_none d done ws all e h = sym h ∙ ap (onto done) (stopped d (length ws) ws e) ∙ (λ i. (append-nothing done i, ws))

-- a formula that may be deep is an opened one
pub formula_again : (d : ℕ) (ws : List (List ℕ)) → 0 < d → formula_at d ws ≡ opened (inside_at (formula_at (d - 1))) ws
unfolding formula_at
formula_again zero ws h = absurd (omega (arith, h))
formula_again (suc d) ws h = let e : d ≡ suc d - 1 = omega arith in ap (λ k. opened (inside_at (formula_at k)) ws) e

pub no_depth : (d : ℕ) (ws : List (List ℕ)) → d ≡ 0 → formula_at d ws ≡ None
unfolding formula_at
no_depth d ws h = ap (λ k. formula_at k ws) h

-- parts that were found
pub some_needs : (fs : List Formula) → (length fs == 0) ≡ false → is_nothing (needs fs) ≡ false
some_needs [] h = absurd (false≢true (sym h))
some_needs (formula.And p ∷ fs) h = refl
some_needs (formula.Or p ∷ fs) h = refl
some_needs (formula.Attr x ∷ fs) h = refl
some_needs (formula.OneOf x vs ∷ fs) h = refl
some_needs (formula.Content x ∷ fs) h = refl
some_needs (formula.Order x y ∷ fs) h = refl

pub parts_found : (step : Step) (ws : List (List ℕ)) (ns : Needs) (behind rest : List (List ℕ)) → needs_at step (length ws) ws ≡ (ns, behind)
    → is_nothing ns ≡ false
    → closed behind ≡ Some rest → parts_at step ws ≡ Some (ns, rest)
unfolding parts_at
parts_found step ws ns behind rest h n c =
    ap ended_parts h ∙ ap (λ b. if b then None else (closed behind >>= with_rest ns)) n ∙ ap (λ o. o >>= with_rest ns) c
