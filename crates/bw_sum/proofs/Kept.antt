-- What a summary covers stays covered.
use Rattle.std.proofs.Common.{◌∙◌}
use Rattle.std.specs.Prelude.{nat_lt}
use Rattle.bw_strings.specs.Asking.{has_string}
use Rattle.bw_sum.specs.Graph.{Graph, Same, IsBelow, graph}
use Rattle.bw_sum.specs.Graph as graphs
use Rattle.bw_sum.specs.Laws.{ConstantCovers, PlugCovers, PlugTextCovers, BelowCovers}
use Rattle.bw_sum.proofs.ConstantLaws.{constants}
use Rattle.bw_sum.proofs.Covering.{covers_constant, covers_plug, covers_text, covers_below}
use Rattle.bw_sum.proofs.GraphLaws.{plugs, plugs_text}
use Rattle.bw_sum.proofs.Growing.{below_by_members}

same_below : (G H : Graph) → Same G H → IsBelow H G
same_below G H s = record {
  roots = λ n h. s.root n ∙ h;
  edges = λ n g m h. s.edge n g m ∙ h;
  labels = λ n g t h. s.label n g t ∙ h;
  tracks = λ g n h. s.track g n ∙ h;
  lacks = λ g h. s.lack g ∙ h;
}

pub constant_covers : ConstantCovers
constant_covers literals templates n gaps known =
    covers_below templates (λ g. nat_lt g gaps) (graphs.constant templates (λ g. nat_lt g gaps) n) _ (templates n)
    (same_below _ _ (constants literals templates n gaps known)) (covers_constant templates (λ g. nat_lt g gaps) n)

pub plug_covers : PlugCovers
plug_covers literals templates gaps b g a d e alike content is_open covers covers_a =
    covers_below templates gaps (graphs.plugged (graph literals b) g (graph literals a)) _ _ (same_below _ _ (plugs literals b g a alike))
    (covers_plug templates gaps (graph literals b) (graph literals a) g d e content covers covers_a is_open)

pub plug_text_covers : PlugTextCovers
plug_text_covers literals templates gaps b g s d t alike well_formed has covers =
    covers_below templates gaps (graphs.plugged_text (graph literals b) g (has_string literals s)) _ _
    (same_below _ _ (plugs_text literals b g s alike well_formed))
    (covers_text templates (graph literals b) g t (has_string literals s) has gaps d covers)

pub below_covers : BelowCovers
below_covers literals templates gaps a b d alike below = covers_below templates gaps (graph literals a) (graph literals b) d
    (below_by_members literals a b alike below)
