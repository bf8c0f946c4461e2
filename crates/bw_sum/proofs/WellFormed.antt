-- Operations keep summaries well formed.
use Rattle.std.specs.Prelude.{◌≡◌, ℕ, zero, suc, ◌+◌, ◌^◌, ◌<◌, ◌≤◌, Bool, true, false, ◌||◌, ◌==◌, not, cond, if◌then◌else◌, List, [], ◌∷◌}
use Rattle.std.proofs.Common.{refl, arith}
use Rattle.std.proofs.Props.{props}
use Rattle.std.proofs.Math.Bridge.{le_prop}
use Rattle.std.specs.Coded.{×_prop, Unit-prop}
use Rattle.std.specs.declared.cmp.Ordering.TheVariants.{Less}
use Rattle.std.specs.Ordering.{nat_cmp, Ordering-set}
use Rattle.std.specs.List.{AllByRecursion, AllByRecursion-prop}
use Rattle.std.proofs.lemmas.Cmp.{nat_cmp_total}
use Rattle.bw_solve.specs.Sets.{IsSet, has, merge, sifted}
use Rattle.bw_lang.specs.Document.Forest.{Forest}
use Rattle.bw_solve.specs.Lawful.SetLaws.{merge_set, merge_all, sifted_set, IsSet-prop}
use Rattle.bw_strings.specs.declared.strings.StrSet.{StrSet}
use Rattle.bw_strings.specs.declared.strings.StrSet.TheVariants.{Any, Of}
use Rattle.bw_strings.specs.Strings as strings
use Rattle.bw_sum.specs.Constants.{constant_of, tracked, lacked}
use Rattle.bw_sum.specs.Edges.{edge_cmp, edges_from, edges_at}
use Rattle.bw_sum.specs.Opening.{opens}
use Rattle.bw_sum.specs.Labels.{pair_cmp, AreLabels}
use Rattle.bw_sum.specs.Lawful.LabelLaws.{pair_cmp_total, labels_lattice}
use Rattle.bw_sum.specs.Laws.{WellFormedAreAlike, ConstantIsWellFormed, JoinIsWellFormed, PlugIsWellFormed, PlugTextIsWellFormed}
use Rattle.bw_sum.specs.Small.{IsSmall, IsSmall1, IsSmall2, IsSmall3, IsSmallLabel, IsWellFormed}
use Rattle.bw_sum.specs.Summaries.{AreAlike, both, plugged, plugged_text}
use Rattle.bw_sum.specs.Lawful.SummaryLaws.{edge_cmp_total, summary_lattice}
use Rattle.bw_sum.specs.declared.summary.Summary.{Summary}
use Rattle.bw_sum.proofs.GraphLaws.{new_are}
use Rattle.bw_sum.proofs.SmallLaws.{joined_small, plugged_small, plugged_text_small}

edges_from_set : (edges : List (ℕ × ℕ × ℕ)) (n g : ℕ) (ms : List ℕ) → IsSet edge_cmp edges → IsSet edge_cmp (edges_from edges n g ms)
edges_from_set edges n g [] s = s
edges_from_set edges n g (m ∷ ms) s = edges_from_set (merge edge_cmp edges ((n, g, m) ∷ [])) n g ms (merge_set edge_cmp_total edges ((n, g, m) ∷ []) s (tt, tt))

edges_at_set : (edges : List (ℕ × ℕ × ℕ)) (ts : List (ℕ × ℕ)) (g : ℕ) (ms : List ℕ) → IsSet edge_cmp edges → IsSet edge_cmp (edges_at edges ts g ms)
edges_at_set edges [] g ms s = s
edges_at_set edges (t ∷ ts) g ms s = edges_at_set (if t.0 == g then edges_from edges t.1 g ms else edges) ts g ms (one (t.0 == g))
  where
    one : (b : Bool) → IsSet edge_cmp (if b then edges_from edges t.1 g ms else edges)
    one true = edges_from_set edges t.1 g ms s
    one false = s

-- the parts of a well formed summary, by their names
record Parts (s : Summary) : Type 0 where
  roots : IsSet nat_cmp s.roots
  edges : IsSet edge_cmp s.edges
  texts : AreLabels s.texts
  tracks : IsSet pair_cmp s.tracks
  lacks : IsSet nat_cmp s.lacks

parts : (s : Summary) → IsWellFormed s → Parts s
parts s (((roots, _), ((edges, _), ((texts, _), ((tracks, _), (lacks, _))))), _) =
    record { roots = roots; edges = edges; texts = texts; tracks = tracks; lacks = lacks }

alike : (s r : Summary) → Parts s → Parts r → AreAlike s r
alike s r a b = ((a.roots, b.roots), ((a.edges, b.edges), ((a.texts, b.texts), ((a.tracks, b.tracks), (a.lacks, b.lacks)))))

well_formed : (s : Summary) → Parts s → IsSmall s → IsWellFormed s
well_formed s a small = (alike s s a a, small)

pub well_formed_alike : WellFormedAreAlike
well_formed_alike s r p q = alike s r (parts s p) (parts r q)

pub none_well_formed : IsWellFormed (record { roots = []; edges = []; texts = []; tracks = []; lacks = [] })
none_well_formed = (((tt, tt), ((tt, tt), ((tt, tt), ((tt, tt), (tt, tt))))), record { roots = tt; edges = tt; texts = tt; tracks = tt; lacks = tt })

tracked_set : (n : ℕ) (items : Forest) (gaps : ℕ) → IsSet pair_cmp (tracked n items gaps)
tracked_set n items zero = tt
tracked_set n items (suc g) = one (tracked_set n items g) (opens g items)
  where
    one : IsSet pair_cmp (tracked n items g) → (b : Bool) → IsSet pair_cmp (cond b (merge pair_cmp (tracked n items g) ((g, n) ∷ [])) (tracked n items g))
    one s true = merge_set pair_cmp_total (tracked n items g) ((g, n) ∷ []) s (tt, tt)
    one s false = s

tracked_small : (n : ℕ) (items : Forest) (gaps : ℕ) → n < 2 ^ 32 → gaps ≤ 2 ^ 32 → AllByRecursion IsSmall2 (tracked n items gaps)
tracked_small n items zero h k = tt
tracked_small n items (suc g) h k = one (tracked_small n items g h (omega arith)) (opens g items)
  where
    one : AllByRecursion IsSmall2 (tracked n items g) → (b : Bool)
        → AllByRecursion IsSmall2 (cond b (merge pair_cmp (tracked n items g) ((g, n) ∷ [])) (tracked n items g))
    one s true = merge_all pair_cmp_total IsSmall2 (tracked n items g) ((g, n) ∷ []) s ((omega arith, h), tt)
    one s false = s

lacked_set : (items : Forest) (gaps : ℕ) → IsSet nat_cmp (lacked items gaps)
lacked_set items zero = tt
lacked_set items (suc g) = one (lacked_set items g) (opens g items)
  where
    one : IsSet nat_cmp (lacked items g) → (b : Bool) → IsSet nat_cmp (cond b (lacked items g) (merge nat_cmp (lacked items g) (g ∷ [])))
    one s true = s
    one s false = merge_set nat_cmp_total (lacked items g) (g ∷ []) s (tt, tt)

lacked_small : (items : Forest) (gaps : ℕ) → gaps ≤ 2 ^ 32 → AllByRecursion IsSmall1 (lacked items gaps)
lacked_small items zero k = tt
lacked_small items (suc g) k = one (lacked_small items g (omega arith)) (opens g items)
  where
    one : AllByRecursion IsSmall1 (lacked items g) → (b : Bool) → AllByRecursion IsSmall1 (cond b (lacked items g) (merge nat_cmp (lacked items g) (g ∷ [])))
    one s true = s
    one s false = merge_all nat_cmp_total IsSmall1 (lacked items g) (g ∷ []) s (omega arith, tt)

pub constant_well_formed : ConstantIsWellFormed
constant_well_formed n items gaps h k =
    well_formed (constant_of n items gaps)
    (record { roots = (tt, tt); edges = tt; texts = tt; tracks = tracked_set n items (gaps + 3); lacks = lacked_set items gaps })
    (record {
      roots = (h, tt);
      edges = tt;
      texts = tt;
      tracks = tracked_small n items (gaps + 3) h k;
      lacks = lacked_small items gaps (omega arith);
    })

pub join_well_formed : JoinIsWellFormed
join_well_formed s r p q =
    let h = summary_lattice.join_alike s r (well_formed_alike s r p q) in
    (summary_lattice.alike_trans (both s r) s (both s r) h (summary_lattice.alike_symm (both s r) s h), joined_small s r p.1 q.1)

pub plug_well_formed : PlugIsWellFormed
plug_well_formed b g a h p q =
    let base = parts b p in
    let filling = parts a q in
    well_formed (plugged b g a) (record {
      roots = base.roots;
      edges = merge_set edge_cmp_total b.edges (merge edge_cmp a.edges (edges_at [] b.tracks g a.roots)) base.edges
          (merge_set edge_cmp_total a.edges (edges_at [] b.tracks g a.roots) filling.edges (edges_at_set [] b.tracks g a.roots tt));
      texts = (labels_lattice.join_alike b.texts a.texts (base.texts, filling.texts)).0;
      tracks = merge_set pair_cmp_total (sifted pair_cmp (λ t. not (t.0 == g)) [] b.tracks) a.tracks
          (sifted_set pair_cmp_total (λ t. not (t.0 == g)) [] b.tracks tt) filling.tracks;
      lacks = sifted_set nat_cmp_total (λ k. (k == g) || has nat_cmp b.lacks k) [] a.lacks tt;
    }) (plugged_small b g a h p.1 q.1)

pub plug_text_well_formed : PlugTextIsWellFormed
plug_text_well_formed b g s h p f =
    let base = parts b p in
    well_formed (plugged_text b g s) (record {
      roots = base.roots;
      edges = base.edges;
      texts = (labels_lattice.join_alike b.texts _ (base.texts, new_are b.tracks g s (strings.is_none s) refl base.tracks f)).0;
      tracks = sifted_set pair_cmp_total (λ t. not (t.0 == g)) [] b.tracks tt;
      lacks = merge_set nat_cmp_total b.lacks (g ∷ []) base.lacks (tt, tt);
    }) (plugged_text_small b g s h p.1)

-- These facts have one proof at most.
pub strings_prop : (s : StrSet) → IsProp (strings.IsWellFormed s)
strings_prop Any = Unit-prop
strings_prop (Of xs) = ×_prop (IsSet-prop nat_cmp xs) (AllByRecursion-prop IsSmall1 (λ x. le_prop) xs)

labels_prop : (l : List ((ℕ × ℕ) × StrSet)) → IsProp (AreLabels l)
labels_prop [] = Unit-prop
labels_prop (e ∷ es) = ×_prop (AllByRecursion-prop (λ f. pair_cmp e.0 f.0 ≡ Less) (λ f. Ordering-set (pair_cmp e.0 f.0) Less) es)
    (×_prop (×_prop (strings_prop e.1) (hlevel props)) (labels_prop es))

pub alike_prop : (s r : Summary) → IsProp (AreAlike s r)
alike_prop s r =
    ×_prop (×_prop (IsSet-prop nat_cmp s.roots) (IsSet-prop nat_cmp r.roots)) (×_prop (×_prop (IsSet-prop edge_cmp s.edges) (IsSet-prop edge_cmp r.edges))
    (×_prop (×_prop (labels_prop s.texts) (labels_prop r.texts)) (×_prop (×_prop (IsSet-prop pair_cmp s.tracks) (IsSet-prop pair_cmp r.tracks))
    (×_prop (IsSet-prop nat_cmp s.lacks) (IsSet-prop nat_cmp r.lacks)))))

small_prop : (s : Summary) → IsProp (IsSmall s)
small_prop s p q = λ i. record {
  roots = AllByRecursion-prop IsSmall1 (λ x. le_prop) s.roots p.roots q.roots i;
  edges = AllByRecursion-prop IsSmall3 (λ x. hlevel props) s.edges p.edges q.edges i;
  texts = AllByRecursion-prop IsSmallLabel (λ x. ×_prop le_prop le_prop) s.texts p.texts q.texts i;
  tracks = AllByRecursion-prop IsSmall2 (λ x. ×_prop le_prop le_prop) s.tracks p.tracks q.tracks i;
  lacks = AllByRecursion-prop IsSmall1 (λ x. le_prop) s.lacks p.lacks q.lacks i;
}

pub well_formed_prop : (s : Summary) → IsProp (IsWellFormed s)
well_formed_prop s = ×_prop (alike_prop s s) (small_prop s)
