use Rattle.std.proofs.Common.{◌≡◌, ℕ, ◌<◌, Bool, List, length, get_or, replicate, ap, ◌∙◌, arith}
use Rattle.std.specs.Prelude.{nat_lt}
use Rattle.std.proofs.lemmas.List.{get_or_default, length-replicate}
use Rattle.std.proofs.lemmas.Result.{IfOk-weaker}
use Rattle.bw_shape.specs.Rows.Rows.{flag, at}
use Rattle.bw_shape.specs.Nodes.Nodes.{no_node, node_at}
use Rattle.bw_shape.specs.Tests.{places}
use Rattle.bw_shape.specs.Follows.{doubled_in}
use Rattle.bw_shape.proofs.Rows.Changes.{rises_fresh}
use Rattle.bw_shape.proofs.fields.DoubledRule.row.Goals as goal

pub returns-clause-each : goal.returns-clause-each
returns-clause-each c =
    let self = c.args.self.now in
    let node = c.index-self-n.result in
    let have = at self.have.now in
    let counts : List ℕ = c.items_count.new.tally in
    let m : c.args.n < length self.templates.now = omega (arith, c.requires.row) in
    let n : c.args.n < length self.nodes.now = omega (arith, m, self.both) in
    let e : c.in_ok-tally.tally ≡ replicate (length self.names.now) 0 = c.in_ok-tally.ensures ∙ ap (λ w. replicate w 0) c.len.ensures in
    IfOk-weaker c.twos.result (λ (r : List Bool). (k : ℕ) → k < length counts → flag r k ≡ nat_lt 1 (get_or counts k 0))
    (λ (r : List Bool). (k : ℕ) → k < length self.names.now → flag r k ≡ doubled_in self.templates.now self.nodes.now self.names.now have c.args.n k)
    (λ r h k l.
    let lt : k < length counts = let w = ap length e in
    omega (arith, l, w, length-replicate {A = ℕ} (length self.names.now) 0, c.in_ok-items_count.ensures.len) in
    h k lt ∙ rises_fresh (length self.names.now) _ _ _ e c.in_ok-items_count.ensures k l
    ∙ ap (λ x. nat_lt 1 (places self.names.now x (λ m. have m k) k c.at.result.now)) (get_or_default self.nodes.now c.args.n node no_node n)
    ∙ ap (λ x. nat_lt 1 (places self.names.now (node_at self.nodes.now c.args.n) (λ m. have m k) k x)) c.at.ensures)
    c.twos.ensures.each
