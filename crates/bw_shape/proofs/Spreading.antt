-- What spreads along links, from what each template has itself.
use Rattle.std.proofs.Common.{◌≡◌, ℕ, Bool, true, List, get_or, inl, inr}
use Rattle.std.proofs.lemmas.Bool.{or_cases, or_left, or_right}
use Rattle.bw_shape.specs.Rows.Rows.{at}
use Rattle.bw_shape.specs.Rows.Least.{Derived, by, IsLeast}
use Rattle.bw_shape.specs.Nodes.Nodes.{Node, node_at, linked}
use Rattle.bw_shape.specs.Follows.{spread_follows}
use Rattle.bw_shape.proofs.ExactFields.{derived_all}

-- the least facts over the table of what each template has itself are those over the test that the table answers
pub spread_least : {width : ℕ} (nodes : List Node) (test : ℕ → ℕ → Bool) {order : List ℕ} {own table : List (List Bool)}
    → IsLeast width (λ known. test) order own → IsLeast width (spread_follows nodes (at own)) order table
    → IsLeast width (spread_follows nodes test) order table
spread_least {width = width} nodes test {order = order} {own = own} {table = table} o t = record {
  derived = λ n c h. derived_all (Derived width (spread_follows nodes test)) (λ known n c l k f. by known k l (elim (or_cases (at own n c) _ f) [
    | inl it ↦ or_left (test n c) _ (derived_all (λ m d. test m d ≡ true) (λ known m d v k g. g) (o.derived n c it))
    | inr it ↦ or_right (test n c) _ it
  ])) (t.derived n c h);
  closed = λ i l c v f. let n = get_or order i 0 in t.closed i l c v (elim (or_cases (test n c) (linked (node_at nodes n) (λ m. at table m c)) f) [
    | inl it ↦ or_left (at own n c) _ (o.closed i l c v it)
    | inr it ↦ or_right (at own n c) _ it
  ]);
}
