-- A summary as a graph, by its members, and what each operation does to them.
use Rattle.std.specs.Prelude.{◌≡◌, ℕ, Bool, true, false, ◌||◌, ◌&&◌, not, if◌then◌else◌, ◌==◌, List, []}
use Rattle.std.specs.Ordering.{nat_cmp}
use Rattle.bw_lang.specs.Document.Forest.{Forest}
use Rattle.bw_solve.specs.Sets.{has}
use Rattle.bw_solve.specs.Tables.{found}
use Rattle.bw_strings.specs.declared.strings.StrSet.TheVariants.{Of}
use Rattle.bw_strings.specs.Asking.{has_string}
use Rattle.bw_sum.specs.Edges.{edge_cmp}
use Rattle.bw_sum.specs.Labels.{pair_cmp}
use Rattle.bw_sum.specs.Opening.{opens}
use Rattle.bw_sum.specs.declared.summary.Summary.{Summary}

-- root n: a document may begin as template n. edge n g m: template m may be plugged at gap g of n. label n g s: the string s may.
-- track g n: the gap g may be open, and come from n. lack g: no gap g may be open
pub record Graph : Type 0 where
  pub root : (template : ℕ) → Bool
  pub edge : (template gap filling : ℕ) → Bool
  pub label : (template gap : ℕ) → (string : List ℕ) → Bool
  pub track : (gap template : ℕ) → Bool
  pub lack : (gap : ℕ) → Bool

-- the graph of a summary, whose strings are known by their numbers among these literals
abbrev pub graph : List (List ℕ) → Summary → Graph
graph literals s = record {
  root = λ n. has nat_cmp s.roots n;
  edge = λ n g m. has edge_cmp s.edges (n, g, m);
  label = λ n g t. has_string literals (found pair_cmp (Of []) s.texts (n, g)) t;
  track = λ g n. has pair_cmp s.tracks (g, n);
  lack = λ g. has nat_cmp s.lacks g;
}

-- the two have the same members
pub record Same (G H : Graph) : Type 0 where
  pub root : (n : ℕ) → G.root n ≡ H.root n
  pub edge : (n g m : ℕ) → G.edge n g m ≡ H.edge n g m
  pub label : (n g : ℕ) (s : List ℕ) → G.label n g s ≡ H.label n g s
  pub track : (g n : ℕ) → G.track g n ≡ H.track g n
  pub lack : (g : ℕ) → G.lack g ≡ H.lack g

-- the first has no member that the second lacks
pub record IsBelow (G H : Graph) : Type 0 where
  pub roots : (n : ℕ) → G.root n ≡ true → H.root n ≡ true
  pub edges : (n g m : ℕ) → G.edge n g m ≡ true → H.edge n g m ≡ true
  pub labels : (n g : ℕ) (s : List ℕ) → G.label n g s ≡ true → H.label n g s ≡ true
  pub tracks : (g n : ℕ) → G.track g n ≡ true → H.track g n ≡ true
  pub lacks : (g : ℕ) → G.lack g ≡ true → H.lack g ≡ true

-- of template n, in a service with these gaps: the root n, a track for each gap of the template, and the other gaps lacking
abbrev pub constant : (ℕ → Forest) → (ℕ → Bool) → ℕ → Graph
constant templates gaps n = record {
  root = λ m. m == n;
  edge = λ _ _ _. false;
  label = λ _ _ _. false;
  track = λ g m. (m == n) && opens g (templates n);
  lack = λ g. gaps g && not (opens g (templates n));
}

-- A at the gap g of B: the roots of B; the edges of both, and one from each template where g is tracked to each root of A; the strings of both;
-- the tracks of g are A's, and those of other gaps both's; g lacks where A lacks it, and another gap where both do
abbrev pub plugged : Graph → ℕ → Graph → Graph
plugged B g A = record {
  root = B.root;
  edge = λ n h m. (B.edge n h m || A.edge n h m) || ((h == g) && (B.track g n && A.root m));
  label = λ n h s. B.label n h s || A.label n h s;
  track = λ h n. if h == g then A.track h n else (B.track h n || A.track h n);
  lack = λ h. if h == g then A.lack h else (B.lack h && A.lack h);
}

-- strings at the gap g of B: at each template where g is tracked the strings too; no tracks of g, which lacks
abbrev pub plugged_text : Graph → ℕ → (List ℕ → Bool) → Graph
plugged_text B g strings = record {
  root = B.root;
  edge = B.edge;
  label = λ n h s. B.label n h s || ((h == g) && (B.track g n && strings s));
  track = λ h n. if h == g then false else B.track h n;
  lack = λ h. (h == g) || B.lack h;
}

-- the union, part by part
abbrev pub joined : Graph → Graph → Graph
joined A B = record {
  root = λ n. A.root n || B.root n;
  edge = λ n g m. A.edge n g m || B.edge n g m;
  label = λ n g s. A.label n g s || B.label n g s;
  track = λ g n. A.track g n || B.track g n;
  lack = λ g. A.lack g || B.lack g;
}
