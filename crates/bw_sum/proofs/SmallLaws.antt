-- Operations keep the numbers of a summary below 2 ^ 32.
use Rattle.std.specs.Prelude.{ℕ, ◌^◌, ◌<◌, Bool, true, false, ◌||◌, ◌==◌, not, if◌then◌else◌, List, [], ◌∷◌}
use Rattle.std.specs.Ordering.{nat_cmp}
use Rattle.std.specs.List.{AllByRecursion}
use Rattle.std.proofs.lemmas.Cmp.{nat_cmp_total}
use Rattle.bw_solve.specs.Sets.{has, merge, sifted}
use Rattle.bw_solve.specs.Lawful.SetLaws.{merge_all, by_order, sifted_all}
use Rattle.bw_solve.specs.Tables.{table_join_into}
use Rattle.bw_strings.specs.declared.strings.StrSet.{StrSet}
use Rattle.bw_strings.specs.Strings.{both, is_none}
use Rattle.bw_sum.specs.Labels.{pair_cmp, both_labels, labels_at}
use Rattle.bw_sum.specs.Lawful.LabelLaws.{pair_cmp_total}
use Rattle.bw_sum.specs.Edges.{edge_cmp, edges_from, edges_at}
use Rattle.bw_sum.specs.Small.{IsSmall, IsSmall1, IsSmall2, IsSmall3, IsSmallLabel}
use Rattle.bw_sum.specs.Lawful.SummaryLaws.{edge_cmp_total}
use Rattle.bw_sum.specs.Summaries as summaries
use Rattle.bw_sum.specs.declared.summary.Summary.{Summary}

edges_from_all : (edges : List (ℕ × ℕ × ℕ)) (n g : ℕ) (ms : List ℕ) → n < 2 ^ 32 → g < 2 ^ 32 → AllByRecursion IsSmall3 edges → AllByRecursion IsSmall1 ms
    → AllByRecursion IsSmall3 (edges_from edges n g ms)
edges_from_all edges n g [] h k e m = e
edges_from_all edges n g (x ∷ xs) h k e m = edges_from_all (merge edge_cmp edges ((n, g, x) ∷ [])) n g xs h k
    (merge_all edge_cmp_total IsSmall3 edges ((n, g, x) ∷ []) e ((h, k, m.0), tt)) m.1

edges_at_all : (edges : List (ℕ × ℕ × ℕ)) (ts : List (ℕ × ℕ)) (g : ℕ) (ms : List ℕ) → g < 2 ^ 32 → AllByRecursion IsSmall3 edges
    → AllByRecursion IsSmall2 ts → AllByRecursion IsSmall1 ms → AllByRecursion IsSmall3 (edges_at edges ts g ms)
edges_at_all edges [] g ms k e t m = e
edges_at_all edges (x ∷ xs) g ms k e t m = edges_at_all (if x.0 == g then edges_from edges x.1 g ms else edges) xs g ms k (one (x.0 == g)) t.1 m
  where
    one : (b : Bool) → AllByRecursion IsSmall3 (if b then edges_from edges x.1 g ms else edges)
    one true = edges_from_all edges x.1 g ms t.0.1 k e m
    one false = e

into_keys : (x : (ℕ × ℕ) × StrSet) (xs : List ((ℕ × ℕ) × StrSet)) (rest : List ((ℕ × ℕ) × StrSet) → List ((ℕ × ℕ) × StrSet)) → IsSmallLabel x
    → AllByRecursion IsSmallLabel xs
    → ((ys : List ((ℕ × ℕ) × StrSet)) → AllByRecursion IsSmallLabel ys → AllByRecursion IsSmallLabel (rest ys)) → (ys : List ((ℕ × ℕ) × StrSet))
    → AllByRecursion IsSmallLabel ys → AllByRecursion IsSmallLabel (table_join_into pair_cmp both x xs rest ys)
into_keys x xs rest px pxs h [] q = (px, pxs)
into_keys x xs rest px pxs h (y ∷ ys) q = by_order (AllByRecursion IsSmallLabel) (pair_cmp x.0 y.0) (x ∷ rest (y ∷ ys)) ((x.0, both x.1 y.1) ∷ rest ys)
    (y ∷ table_join_into pair_cmp both x xs rest ys)
    (λ e. (px, h (y ∷ ys) q)) (λ e. (px, h ys q.1)) (λ e. (q.0, into_keys x xs rest px pxs h ys q.1))

labels_all : (xs ys : List ((ℕ × ℕ) × StrSet)) → AllByRecursion IsSmallLabel xs → AllByRecursion IsSmallLabel ys
    → AllByRecursion IsSmallLabel (both_labels xs ys)
labels_all [] ys p q = q
labels_all (x ∷ xs) ys p q = into_keys x xs (both_labels xs) p.0 p.1 (λ zs r. labels_all xs zs p.1 r) ys q

labels_at_all : (ts : List (ℕ × ℕ)) (g : ℕ) (s : StrSet) → g < 2 ^ 32 → AllByRecursion IsSmall2 ts → AllByRecursion IsSmallLabel (labels_at ts g s)
labels_at_all [] g s h t = tt
labels_at_all (x ∷ xs) g s h t = go (labels_at_all xs g s h t.1) (x.0 == g)
  where
    go : AllByRecursion IsSmallLabel (labels_at xs g s) → (b : Bool)
        → AllByRecursion IsSmallLabel (if b then ((x.1, g), s) ∷ labels_at xs g s else labels_at xs g s)
    go r true = ((t.0.1, h), r)
    go r false = r

pub joined_small : (a b : Summary) → IsSmall a → IsSmall b → IsSmall (summaries.both a b)
joined_small a b p q = record {
  roots = merge_all nat_cmp_total IsSmall1 a.roots b.roots p.roots q.roots;
  edges = merge_all edge_cmp_total IsSmall3 a.edges b.edges p.edges q.edges;
  texts = labels_all a.texts b.texts p.texts q.texts;
  tracks = merge_all pair_cmp_total IsSmall2 a.tracks b.tracks p.tracks q.tracks;
  lacks = merge_all nat_cmp_total IsSmall1 a.lacks b.lacks p.lacks q.lacks;
}

pub plugged_small : (b : Summary) (g : ℕ) (a : Summary) → g < 2 ^ 32 → IsSmall b → IsSmall a → IsSmall (summaries.plugged b g a)
plugged_small b g a h p q = record {
  roots = p.roots;
  edges = merge_all edge_cmp_total IsSmall3 b.edges (merge edge_cmp a.edges (edges_at [] b.tracks g a.roots)) p.edges
      (merge_all edge_cmp_total IsSmall3 a.edges (edges_at [] b.tracks g a.roots) q.edges (edges_at_all [] b.tracks g a.roots h tt p.tracks q.roots));
  texts = labels_all b.texts a.texts p.texts q.texts;
  tracks = merge_all pair_cmp_total IsSmall2 (sifted pair_cmp (λ t. not (t.0 == g)) [] b.tracks) a.tracks
      (sifted_all pair_cmp_total IsSmall2 (λ t. not (t.0 == g)) [] b.tracks tt p.tracks) q.tracks;
  lacks = sifted_all nat_cmp_total IsSmall1 (λ k. (k == g) || has nat_cmp b.lacks k) [] a.lacks tt q.lacks;
}

pub plugged_text_small : (b : Summary) (g : ℕ) (s : StrSet) → g < 2 ^ 32 → IsSmall b → IsSmall (summaries.plugged_text b g s)
plugged_text_small b g s h p = record {
  roots = p.roots;
  edges = p.edges;
  texts = labels_all b.texts (if is_none s then [] else labels_at b.tracks g s) p.texts (one (is_none s));
  tracks = sifted_all pair_cmp_total IsSmall2 (λ t. not (t.0 == g)) [] b.tracks tt p.tracks;
  lacks = merge_all nat_cmp_total IsSmall1 b.lacks (g ∷ []) p.lacks (h, tt);
}
  where
    one : (c : Bool) → AllByRecursion IsSmallLabel (if c then [] else labels_at b.tracks g s)
    one true = tt
    one false = labels_at_all b.tracks g s h p.tracks
