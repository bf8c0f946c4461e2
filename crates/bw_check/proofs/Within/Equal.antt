-- Values that are below each other are equal.
use Rattle.std.proofs.Common.{◌≡◌, ℕ, Bool, true, ◌&&◌, cond, List, [], ◌∷◌, refl, sym, ap, ◌∙◌, subst, inl, inr, ◌⊎◌}
use Rattle.std.specs.declared.cmp.Ordering.{Ordering}
use Rattle.std.specs.declared.cmp.Ordering.TheVariants.{Less, Equal, Greater}
use Rattle.std.specs.Ordering.{nat_cmp, is_eq, ordering_reverse}
use Rattle.std.specs.Cmp.{IsTotalOrder}
use Rattle.std.specs.List.{AllByRecursion}
use Rattle.std.proofs.lemmas.Bool.{false≢true, and_parts, cases_Bool}
use Rattle.std.proofs.lemmas.Cmp.{nat_cmp_total, tied_itself}
use Rattle.std.proofs.lemmas.Map.Lookups.{CmpEqualImpliesEq, exact_unsigned}
use Rattle.bw_solve.specs.Sets.{IsSet, has, is_within}
use Rattle.bw_solve.specs.Lawful.SetLaws.{has_within, all_weaker, is_Equal, less_back, three}
use Rattle.bw_solve.specs.Lawful.TableLaws.{at_fine, below_at}
use Rattle.bw_solve.specs.Tables.{IsTable, found}
use Rattle.bw_faults.proofs.Lists.{set_equal}
use Rattle.bw_strings.specs.declared.strings.StrSet.{StrSet}
use Rattle.bw_strings.specs.declared.strings.StrSet.TheVariants.{Any, Of}
use Rattle.bw_strings.specs.Strings as strings
use Rattle.bw_strings.specs.Lawful.StringLaws.{strings_lattice, none_least, none_left, none_right}
use Rattle.bw_sum.specs.declared.summary.Summary.{Summary}
use Rattle.bw_sum.specs.Edges.{edge_cmp}
use Rattle.bw_sum.specs.Lawful.LabelLaws.{pair_cmp_total}
use Rattle.bw_sum.specs.Labels.{pair_cmp, IsHeld, AreLabels, are_below}
use Rattle.bw_sum.specs.Summaries as summaries
use Rattle.bw_sum.specs.Lawful.SummaryLaws.{edge_cmp_total}
use Rattle.bw_analyse.specs.declared.abstracts.Abstract.{Abstract}
use Rattle.bw_analyse.specs.declared.abstracts.Abstract.TheVariants.{Nothing, Str, Html}
use Rattle.bw_analyse.specs.Abstracts.{AreAlike, is_below}
use Rattle.bw_analyse.specs.Rows.{EachAlike, each_below}
use Rattle.bw_lang.proofs.SameNames.{is_true}
use Rattle.bw_analyse.proofs.PlugLaws.{pair_exact, edge_exact}

-- ---- sets

within_equal : {T : Type 0} {cmp : T → T → Ordering} → IsTotalOrder cmp → CmpEqualImpliesEq cmp → (xs ys : List T) → IsSet cmp xs → IsSet cmp ys
    → is_within cmp xs ys ≡ true → is_within cmp ys xs ≡ true → xs ≡ ys
within_equal {cmp = cmp} o exact xs ys s t p q =
    set_equal o exact xs ys s t (λ z. is_true (has cmp xs z) (has cmp ys z) (has_within o xs ys z p) (has_within o ys xs z q))

-- ---- strings

strings_equal : (a b : StrSet) → strings.IsWellFormed a → strings.IsWellFormed b → strings.is_below a b ≡ true → strings.is_below b a ≡ true → a ≡ b
strings_equal Any Any f g p q = refl
strings_equal Any (Of ys) f g p q = absurd (false≢true p)
strings_equal (Of xs) Any f g p q = absurd (false≢true q)
strings_equal (Of xs) (Of ys) f g p q = ap Of (within_equal nat_cmp_total exact_unsigned xs ys f.0 g.0 p q)

-- ---- tables

module _ {K V : Type 0} {cmp : K → K → Ordering} (o : IsTotalOrder cmp) (exact : CmpEqualImpliesEq cmp) (holds : V → Type 0) (least : V)
    (not_held : holds least → ⊥) where
  abbrev Above : K → List (K × V) → Type 0
  Above k es = AllByRecursion (λ (f : K × V). cmp k f.0 ≡ Less) es

  abbrev at : List (K × V) → K → V
  at es k = found cmp least es k

  missing : (k : K) (es : List (K × V)) → Above k es → at es k ≡ least
  missing k [] h = refl
  missing k (e ∷ es) h = ap (λ r. cond (is_eq r) e.1 (at es k)) (o.antisymm e.0 k ∙ ap ordering_reverse h.0) ∙ missing k es h.1

  first : (e : K × V) (es : List (K × V)) → at (e ∷ es) e.0 ≡ e.1
  first e es = ap (λ r. cond (is_eq r) e.1 (at es e.0)) (tied_itself o e.0)

  -- a first key that isn't the other table's
  lonely : (e f : K × V) (es fs : List (K × V)) → cmp e.0 f.0 ≡ Less → IsTable cmp holds (e ∷ es) → IsTable cmp holds (f ∷ fs)
      → at (e ∷ es) e.0 ≡ at (f ∷ fs) e.0 → ⊥
  lonely e f es fs l s t h =
      let above = all_weaker (λ (g : K × V). cmp f.0 g.0 ≡ Less) (λ (g : K × V). cmp e.0 g.0 ≡ Less) fs (λ g m. o.trans e.0 f.0 g.0 l m) t.0 in
      not_held (subst holds (sym (first e es) ∙ h ∙ missing e.0 (f ∷ fs) (l, above)) s.1.0)

  tails : (e f : K × V) (es fs : List (K × V)) → e.0 ≡ f.0 → Above e.0 es → Above f.0 fs → ((k : K) → at (e ∷ es) k ≡ at (f ∷ fs) k) → (k : K)
      → at es k ≡ at fs k
  tails e f es fs same s t h k = elim (cases_Bool (is_eq (cmp e.0 k))) [
    | inl here ↦
        let at_k : e.0 ≡ k = exact e.0 k (is_Equal (cmp e.0 k) here) in
        missing k es (subst (λ z. Above z es) at_k s) ∙ sym (missing k fs (subst (λ z. Above z fs) (sym same ∙ at_k) t))
    | inr other ↦
        ap (λ b. cond b e.1 (at es k)) (sym other) ∙ h k
        ∙ ap (λ b. cond b f.1 (at fs k)) (ap (λ z. is_eq (cmp z k)) (sym same) ∙ other)
  ]

  -- tables that have the same value for each key are equal
  table_equal : (a b : List (K × V)) → IsTable cmp holds a → IsTable cmp holds b → ((k : K) → at a k ≡ at b k) → a ≡ b
  table_equal [] [] s t h = refl
  table_equal [] (f ∷ fs) s t h = absurd (not_held (subst holds (sym (first f fs) ∙ sym (h f.0)) t.1.0))
  table_equal (e ∷ es) [] s t h = absurd (not_held (subst holds (sym (first e es) ∙ h e.0) s.1.0))
  table_equal (e ∷ es) (f ∷ fs) s t h = by_order (three (cmp e.0 f.0)) (table_equal es fs s.1.1 t.1.1)
    where
      by_order : ((cmp e.0 f.0 ≡ Less) ⊎ (cmp e.0 f.0 ≡ Equal)) ⊎ (cmp e.0 f.0 ≡ Greater) → (((k : K) → at es k ≡ at fs k) → es ≡ fs) → e ∷ es ≡ f ∷ fs
      by_order (inl (inl l)) ih = absurd (lonely e f es fs l s t (h e.0))
      by_order (inl (inr k)) ih =
          let same : e.0 ≡ f.0 = exact e.0 f.0 k in
          let value : e.1 ≡ f.1 = sym (first e es) ∙ h e.0 ∙ ap (at (f ∷ fs)) same ∙ first f fs in
          let rest = ih (tails e f es fs same s.0 t.0 h) in
          λ i. (same i, value i) ∷ rest i
      by_order (inr g) ih = absurd (lonely f e fs es (less_back o e.0 f.0 g) t s (sym (h f.0)))

labels_equal : (a b : List ((ℕ × ℕ) × StrSet)) → AreLabels a → AreLabels b → are_below a b ≡ true → are_below b a ≡ true → a ≡ b
labels_equal a b s t p q =
    table_equal pair_cmp_total pair_exact IsHeld (Of []) (λ h. false≢true (sym h.1)) a b s t (λ k.
    strings_equal (found pair_cmp (Of []) a k) (found pair_cmp (Of []) b k)
    (at_fine pair_cmp_total strings_lattice (Of []) (tt, tt) (λ v h. none_least v) none_left none_right a k s)
    (at_fine pair_cmp_total strings_lattice (Of []) (tt, tt) (λ v h. none_least v) none_left none_right b k t)
    (below_at pair_cmp_total strings_lattice (Of []) (tt, tt) (λ v h. none_least v) none_left none_right a b k s t p)
    (below_at pair_cmp_total strings_lattice (Of []) (tt, tt) (λ v h. none_least v) none_left none_right b a k t s q))

-- ---- summaries

five : (a b c d e : Bool) → (a && (b && (c && (d && e)))) ≡ true → (a ≡ true) × (b ≡ true) × (c ≡ true) × (d ≡ true) × (e ≡ true)
five a b c d e h =
    let p = and_parts a (b && (c && (d && e))) h in
    let q = and_parts b (c && (d && e)) p.1 in
    let r = and_parts c (d && e) q.1 in
    let s = and_parts d e r.1 in (p.0, q.0, r.0, s.0, s.1)

summary_equal : (s r : Summary) → summaries.AreAlike s r → summaries.is_below s r ≡ true → summaries.is_below r s ≡ true → s ≡ r
summary_equal s r h p q =
    let a = five (is_within nat_cmp s.roots r.roots) (is_within edge_cmp s.edges r.edges) (are_below s.texts r.texts) (is_within pair_cmp s.tracks r.tracks)
    (is_within nat_cmp s.lacks r.lacks) p in
    let b = five (is_within nat_cmp r.roots s.roots) (is_within edge_cmp r.edges s.edges) (are_below r.texts s.texts) (is_within pair_cmp r.tracks s.tracks)
    (is_within nat_cmp r.lacks s.lacks) q in
    let roots = within_equal nat_cmp_total exact_unsigned s.roots r.roots h.0.0 h.0.1 a.0 b.0 in
    let edges = within_equal edge_cmp_total edge_exact s.edges r.edges h.1.0.0 h.1.0.1 a.1 b.1 in
    let texts = labels_equal s.texts r.texts h.1.1.0.0 h.1.1.0.1 a.2 b.2 in
    let tracks = within_equal pair_cmp_total pair_exact s.tracks r.tracks h.1.1.1.0.0 h.1.1.1.0.1 a.3 b.3 in
    let lacks = within_equal nat_cmp_total exact_unsigned s.lacks r.lacks h.1.1.1.1.0 h.1.1.1.1.1 a.4 b.4 in
    λ i. record { roots = roots i; edges = edges i; texts = texts i; tracks = tracks i; lacks = lacks i }

-- ---- what is known of values, and rows of it

abstract_equal : (a b : Abstract) → AreAlike a b → is_below a b ≡ true → is_below b a ≡ true → a ≡ b
abstract_equal Nothing Nothing h p q = refl
abstract_equal (Str s) (Str r) h p q = ap Str (strings_equal s r h.0 h.1 p q)
abstract_equal (Html s) (Html r) h p q = ap Html (summary_equal s r h p q)
abstract_equal a b h p q = absurd h

pub row_equal : (a b : List Abstract) → EachAlike AreAlike a b → each_below is_below a b ≡ true → each_below is_below b a ≡ true → a ≡ b
row_equal [] [] h p q = refl
row_equal (a ∷ xs) (b ∷ ys) h p q =
    let r = and_parts (is_below a b) (each_below is_below xs ys) p in
    let s = and_parts (is_below b a) (each_below is_below ys xs) q in
    let first = abstract_equal a b h.0 r.0 s.0 in
    let rest = row_equal xs ys h.1 r.1 s.1 in
    λ i. first i ∷ rest i
row_equal [] (b ∷ ys) h p q = absurd h
row_equal (a ∷ xs) [] h p q = absurd h
