-- What operations on summaries name stays within what their parts name: templates below a bound, and strings of some sort.
use Rattle.std.proofs.Common.{ℕ, zero, suc, ◌+◌, ◌<◌, ◌≤◌, Bool, true, false, cond, List, [], ◌∷◌, arith}
use Rattle.std.specs.Prelude.{◌==◌, not, if◌then◌else◌}
use Rattle.std.specs.List.{AllByRecursion}
use Rattle.std.proofs.lemmas.Cmp.{nat_cmp_total}
use Rattle.bw_lang.specs.Document.Forest.{Forest}
use Rattle.bw_solve.specs.Sets.{merge, sifted}
use Rattle.bw_solve.specs.Lawful.SetLaws.{merge_all, all_weaker, by_order, sifted_all}
use Rattle.bw_solve.specs.Tables.{table_join_into}
use Rattle.bw_strings.specs.declared.strings.StrSet.{StrSet}
use Rattle.bw_strings.specs.Strings.{both, is_none}
use Rattle.bw_sum.specs.Constants.{tracked, constant_of}
use Rattle.bw_sum.specs.declared.summary.Summary.{Summary}
use Rattle.bw_sum.specs.Edges.{edge_cmp, edges_from, edges_at}
use Rattle.bw_sum.specs.Lawful.LabelLaws.{pair_cmp_total}
use Rattle.bw_sum.specs.Labels.{pair_cmp, both_labels, labels_at}
use Rattle.bw_sum.specs.Opening.{opens}
use Rattle.bw_sum.specs.Summaries as summaries
use Rattle.bw_sum.specs.Lawful.SummaryLaws.{edge_cmp_total}

-- ---- what is named

-- an edge from and to templates below the bound
abbrev pub IsWithinEdge : ℕ → ℕ × ℕ × ℕ → Type 0
IsWithinEdge bound e = (e.0 < bound) × (e.2 < bound)

-- a label of such a template, with such strings
abbrev pub IsWithinLabel : ℕ → (StrSet → Type 0) → (ℕ × ℕ) × StrSet → Type 0
IsWithinLabel bound sort l = (l.0.0 < bound) × sort l.1

-- a track of such a template
abbrev pub IsWithinTrack : ℕ → ℕ × ℕ → Type 0
IsWithinTrack bound t = t.1 < bound

-- all templates that the summary names are below the bound, and all its strings are of the sort
pub record IsWithin (bound : ℕ) (sort : StrSet → Type 0) (s : Summary) : Type 0 where
  pub roots : AllByRecursion (λ n. n < bound) s.roots
  pub edges : AllByRecursion (IsWithinEdge bound) s.edges
  pub texts : AllByRecursion (IsWithinLabel bound sort) s.texts
  pub tracks : AllByRecursion (IsWithinTrack bound) s.tracks

-- it is within a higher bound too
pub within_more : (low high : ℕ) (sort : StrSet → Type 0) (s : Summary) → low ≤ high → IsWithin low sort s → IsWithin high sort s
within_more low high sort s l h = record {
  roots = all_weaker (λ n. n < low) (λ n. n < high) s.roots (λ n b. omega arith) h.roots;
  edges = all_weaker (IsWithinEdge low) (IsWithinEdge high) s.edges (λ e b. (omega arith, omega arith)) h.edges;
  texts = all_weaker (IsWithinLabel low sort) (IsWithinLabel high sort) s.texts (λ e b. (omega arith, b.1)) h.texts;
  tracks = all_weaker (IsWithinTrack low) (IsWithinTrack high) s.tracks (λ t b. omega arith) h.tracks;
}

-- ---- parts

module _ (bound : ℕ) (sort : StrSet → Type 0) (joins : (a b : StrSet) → sort a → sort b → sort (both a b)) where
  abbrev Roots : List ℕ → Type 0
  Roots ns = AllByRecursion (λ n. n < bound) ns

  abbrev Edges : List (ℕ × ℕ × ℕ) → Type 0
  Edges es = AllByRecursion (IsWithinEdge bound) es

  abbrev Texts : List ((ℕ × ℕ) × StrSet) → Type 0
  Texts ls = AllByRecursion (IsWithinLabel bound sort) ls

  abbrev Tracks : List (ℕ × ℕ) → Type 0
  Tracks ts = AllByRecursion (IsWithinTrack bound) ts

  from_within : (edges : List (ℕ × ℕ × ℕ)) (n g : ℕ) (ms : List ℕ) → n < bound → Edges edges → Roots ms → Edges (edges_from edges n g ms)
  from_within edges n g [] h e m = e
  from_within edges n g (x ∷ xs) h e m =
      from_within (merge edge_cmp edges ((n, g, x) ∷ [])) n g xs h
      (merge_all edge_cmp_total (IsWithinEdge bound) edges ((n, g, x) ∷ []) e ((h, m.0), tt)) m.1

  at_within : (edges : List (ℕ × ℕ × ℕ)) (ts : List (ℕ × ℕ)) (g : ℕ) (ms : List ℕ) → Edges edges → Tracks ts → Roots ms → Edges (edges_at edges ts g ms)
  at_within edges [] g ms e t m = e
  at_within edges (x ∷ xs) g ms e t m = at_within (if x.0 == g then edges_from edges x.1 g ms else edges) xs g ms (one (x.0 == g)) t.1 m
    where
      one : (b : Bool) → Edges (if b then edges_from edges x.1 g ms else edges)
      one true = from_within edges x.1 g ms t.0 e m
      one false = e

  into_within : (x : (ℕ × ℕ) × StrSet) (xs : List ((ℕ × ℕ) × StrSet)) (rest : List ((ℕ × ℕ) × StrSet) → List ((ℕ × ℕ) × StrSet))
      → IsWithinLabel bound sort x → Texts xs → ((ys : List ((ℕ × ℕ) × StrSet)) → Texts ys → Texts (rest ys)) → (ys : List ((ℕ × ℕ) × StrSet))
      → Texts ys → Texts (table_join_into pair_cmp both x xs rest ys)
  into_within x xs rest p ps h [] q = (p, ps)
  into_within x xs rest p ps h (y ∷ ys) q =
      by_order Texts (pair_cmp x.0 y.0) (x ∷ rest (y ∷ ys)) ((x.0, both x.1 y.1) ∷ rest ys) (y ∷ table_join_into pair_cmp both x xs rest ys)
      (λ e. (p, h (y ∷ ys) q)) (λ e. ((p.0, joins x.1 y.1 p.1 q.0.1), h ys q.1)) (λ e. (q.0, into_within x xs rest p ps h ys q.1))

  labels_within : (xs ys : List ((ℕ × ℕ) × StrSet)) → Texts xs → Texts ys → Texts (both_labels xs ys)
  labels_within [] ys p q = q
  labels_within (x ∷ xs) ys p q = into_within x xs (both_labels xs) p.0 p.1 (λ zs r. labels_within xs zs p.1 r) ys q

  new_within : (ts : List (ℕ × ℕ)) (g : ℕ) (s : StrSet) → sort s → Tracks ts → Texts (labels_at ts g s)
  new_within [] g s f t = tt
  new_within (x ∷ xs) g s f t = by_test (new_within xs g s f t.1) (x.0 == g)
    where
      by_test : Texts (labels_at xs g s) → (b : Bool) → Texts (if b then ((x.1, g), s) ∷ labels_at xs g s else labels_at xs g s)
      by_test r true = ((t.0, f), r)
      by_test r false = r

  tracked_within : (n : ℕ) (items : Forest) (gaps : ℕ) → n < bound → Tracks (tracked n items gaps)
  tracked_within n items zero h = tt
  tracked_within n items (suc g) h = by_test (tracked_within n items g h) (opens g items)
    where
      by_test : Tracks (tracked n items g) → (b : Bool) → Tracks (cond b (merge pair_cmp (tracked n items g) ((g, n) ∷ [])) (tracked n items g))
      by_test s true = merge_all pair_cmp_total (IsWithinTrack bound) (tracked n items g) ((g, n) ∷ []) s (h, tt)
      by_test s false = s

  other_within : (ts : List (ℕ × ℕ)) (g : ℕ) → Tracks ts → Tracks (sifted pair_cmp (λ t. not (t.0 == g)) [] ts)
  other_within ts g t = sifted_all pair_cmp_total (IsWithinTrack bound) (λ t. not (t.0 == g)) [] ts tt t

  -- ---- summaries

  pub constant_within : (n : ℕ) (items : Forest) (gaps : ℕ) → n < bound → IsWithin bound sort (constant_of n items gaps)
  constant_within n items gaps h = record { roots = (h, tt); edges = tt; texts = tt; tracks = tracked_within n items (gaps + 3) h }

  pub join_within : (a b : Summary) → IsWithin bound sort a → IsWithin bound sort b → IsWithin bound sort (summaries.both a b)
  join_within a b p q = record {
    roots = merge_all nat_cmp_total (λ n. n < bound) a.roots b.roots p.roots q.roots;
    edges = merge_all edge_cmp_total (IsWithinEdge bound) a.edges b.edges p.edges q.edges;
    texts = labels_within a.texts b.texts p.texts q.texts;
    tracks = merge_all pair_cmp_total (IsWithinTrack bound) a.tracks b.tracks p.tracks q.tracks;
  }

  pub plug_within : (b : Summary) (g : ℕ) (a : Summary) → IsWithin bound sort b → IsWithin bound sort a → IsWithin bound sort (summaries.plugged b g a)
  plug_within b g a p q = record {
    roots = p.roots;
    edges = merge_all edge_cmp_total (IsWithinEdge bound) b.edges (merge edge_cmp a.edges (edges_at [] b.tracks g a.roots)) p.edges
        (merge_all edge_cmp_total (IsWithinEdge bound) a.edges (edges_at [] b.tracks g a.roots) q.edges (at_within [] b.tracks g a.roots tt p.tracks q.roots));
    texts = labels_within b.texts a.texts p.texts q.texts;
    tracks = merge_all pair_cmp_total (IsWithinTrack bound) (sifted pair_cmp (λ t. not (t.0 == g)) [] b.tracks) a.tracks
        (other_within b.tracks g p.tracks) q.tracks;
  }

  pub text_within : (b : Summary) (g : ℕ) (s : StrSet) → IsWithin bound sort b → sort s → IsWithin bound sort (summaries.plugged_text b g s)
  text_within b g s p f = record {
    roots = p.roots;
    edges = p.edges;
    texts = labels_within b.texts (if is_none s then [] else labels_at b.tracks g s) p.texts (one (is_none s));
    tracks = other_within b.tracks g p.tracks;
  }
    where
      one : (c : Bool) → Texts (if c then [] else labels_at b.tracks g s)
      one true = tt
      one false = new_within b.tracks g s f p.tracks
