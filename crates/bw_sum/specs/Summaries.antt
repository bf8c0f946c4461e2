-- Summaries of documents: their order, and what plugs make of them.
use Rattle.std.specs.Prelude.{ℕ, ◌+◌, Bool, ◌&&◌, ◌||◌, ◌==◌, not, if◌then◌else◌, [], ◌∷◌, length}
use Rattle.std.specs.Ordering.{nat_cmp}
use Rattle.bw_solve.specs.Sets.{IsSet, has, is_within, merge, sifted}
use Rattle.bw_strings.specs.declared.strings.StrSet.{StrSet}
use Rattle.bw_strings.specs.Strings.{is_none}
use Rattle.bw_sum.specs.Labels.{pair_cmp, AreLabels, are_below, both_labels, labels_size, labels_rank, labels_at}
use Rattle.bw_sum.specs.Edges.{edge_cmp, edges_at}
use Rattle.bw_sum.specs.declared.summary.Summary.{Summary}

-- the documents with each gap g filled by a document of a
abbrev pub plugged : Summary → ℕ → Summary → Summary
plugged b g a = record {
  roots = b.roots;
  edges = merge edge_cmp b.edges (merge edge_cmp a.edges (edges_at [] b.tracks g a.roots));
  texts = both_labels b.texts a.texts;
  tracks = merge pair_cmp (sifted pair_cmp (λ t. not (t.0 == g)) [] b.tracks) a.tracks;
  lacks = sifted nat_cmp (λ h. (h == g) || has nat_cmp b.lacks h) [] a.lacks;
}

-- the documents with each gap g filled by a string of s
abbrev pub plugged_text : Summary → ℕ → StrSet → Summary
plugged_text b g s = record {
  roots = b.roots;
  edges = b.edges;
  texts = both_labels b.texts (if is_none s then [] else labels_at b.tracks g s);
  tracks = sifted pair_cmp (λ t. not (t.0 == g)) [] b.tracks;
  lacks = merge nat_cmp b.lacks (g ∷ []);
}

-- the documents of both
abbrev pub both : Summary → Summary → Summary
both a b = record {
  roots = merge nat_cmp a.roots b.roots;
  edges = merge edge_cmp a.edges b.edges;
  texts = both_labels a.texts b.texts;
  tracks = merge pair_cmp a.tracks b.tracks;
  lacks = merge nat_cmp a.lacks b.lacks;
}

abbrev pub AreAlike : Summary → Summary → Type 0
AreAlike a b = (IsSet nat_cmp a.roots × IsSet nat_cmp b.roots) × ((IsSet edge_cmp a.edges × IsSet edge_cmp b.edges)
    × ((AreLabels a.texts × AreLabels b.texts) × ((IsSet pair_cmp a.tracks × IsSet pair_cmp b.tracks) × (IsSet nat_cmp a.lacks × IsSet nat_cmp b.lacks))))

abbrev pub is_below : Summary → Summary → Bool
is_below a b = is_within nat_cmp a.roots b.roots && (is_within edge_cmp a.edges b.edges &&
    (are_below a.texts b.texts && (is_within pair_cmp a.tracks b.tracks && is_within nat_cmp a.lacks b.lacks)))

-- the members of roots, edges, strings, tracks and lacks
abbrev pub size_of : Summary → ℕ
size_of a = length a.roots + (length a.edges + (labels_size a.texts + (length a.tracks + length a.lacks)))

abbrev pub rank_of : Summary → ℕ
rank_of a = length a.roots + (length a.edges + (labels_rank a.texts + (length a.tracks + length a.lacks)))
