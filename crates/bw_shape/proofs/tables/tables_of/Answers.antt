use Rattle.std.proofs.Common.{ℕ, ◌<◌, List, length, sym, subst, arith}
use Rattle.std.specs.List.{All, Contains}
use Rattle.bw_shape.specs.Follows.{miss_follows}
use Rattle.bw_shape.specs.Rows.Least.{IsLeast}
use Rattle.bw_sum.proofs.ReadGaps.{longer}
use Rattle.bw_shape.specs.declared.tables.Tables.{Tables}
use Rattle.bw_shape.proofs.Outlines.{Made, hold_facts, are_tables}
use Rattle.bw_shape.proofs.tables.tables_of.Goals.{In-Ok-tags_of}
use Rattle.bw_shape.proofs.tables.tables_of.Goals as goal

pub tags_of-requires-clause-pairs : goal.tags_of-requires-clause-pairs
tags_of-requires-clause-pairs c = λ k d h.
    let q = c.requires.pairs k d h in
    let l = longer c.args.tags c.order_of.new.tags c.in-Ok.ensures.front in
    (omega (arith, q.0, l), omega (arith, q.1, l))

abbrev tables : In-Ok-tags_of → Tables
tables c = record {
  order = c.in-Ok.order;
  tags = c.order_of.new.tags;
  tops = c.in-Ok-tags_of.at_top.tops;
  have = c.in-Ok-fields_of.fields.have;
  lack = c.in-Ok-fields_of.fields.lack;
  twice = c.in-Ok-fields_of.fields.twice;
  miss = c.in-Ok-tags_of.at_top.miss;
  cross = c.in-Ok-tags_of.at_top.cross;
}

-- the calls made the tables
made : (c : In-Ok-tags_of)
    → Made c.args.templates.now c.args.nodes.now c.args.root c.args.names.now (length c.args.tags) c.args.pairs.now (tables c) c.as_slice-back.result.now
made c = record {
  reaches = c.in-Ok.ensures.reached;
  covers = λ n k.
      let listed = subst (λ (xs : List ℕ). Contains xs n) (sym c.as_slice.ensures.value) k in
      subst (λ (xs : List ℕ). Contains xs n) (sym c.as_slice-back.ensures.value) (c.in-Ok-arranged.ensures.covers n listed);
  known = c.in-Ok.ensures.known;
  few = longer c.args.tags c.order_of.new.tags c.in-Ok.ensures.front;
  tops = c.in-Ok-tags_of.ensures.tops;
  have = c.in-Ok-fields_of.ensures.have;
  lack = c.in-Ok-fields_of.ensures.lack;
  twice = c.in-Ok-fields_of.ensures.twice;
  miss = subst (λ w. IsLeast w (miss_follows c.args.templates.now c.args.nodes.now c.order_of.new.tags) c.as_slice-back.result.now c.in-Ok-tags_of.at_top.miss)
      c.len-first.ensures.len c.in-Ok-tags_of.ensures.miss;
  cross = c.in-Ok-tags_of.ensures.cross;
}

pub returns-clause-shape : goal.returns-clause-shape
returns-clause-shape c = hold_facts _ _ _ _ _ _ _ _ (made (goal.at.returns-clause-shape c).In-Ok-tags_of)

pub returns-clause-tables : goal.returns-clause-tables
returns-clause-tables c = are_tables _ _ _ _ _ _ _ _ (made (goal.at.returns-clause-tables c).In-Ok-tags_of)

pub returns-clause-small : goal.returns-clause-small
returns-clause-small c = subst (λ k. All (λ n. n < k) c.in-Ok.order.items) c.requires.both c.in-Ok.ensures.reached.small
