use denote.Param.Send.{IsSync}
use Rattle.std.specs.Prelude.{vec_len}
use Rattle.std.proofs.Common.{◌≡◌, arith, refl, sym, ap, ◌∙◌, [], ◌∷◌, ◌++◌, length, append_assoc}
use Rattle.std.proofs.lemmas.List.{length_push}
use Rattle.std.proofs.lemmas.Result.{IfOk-at_ok}
use Rattle.bw_analyse.specs.Pages.{HasPage}
use Rattle.bw_faults.specs.Lists.{Lists}
use Rattle.bw_check.specs.Faults.{IsPageFault}
use Rattle.bw_check.proofs.Chunks.{all_of_chunk, in_turn, of_chunk, of_chunks, of_no_chunk}
use Rattle.bw_check.proofs.Shared.{closure_sync}
use Rattle.bw_check.proofs.Some.{OfOne}
use Rattle.bw_check.proofs.pieces.judge_pieces.Goals as goal

pub map_chunks-requires-sync-F : goal.map_chunks-requires-sync-F
map_chunks-requires-sync-F g c κs within =
    let pulse : IsSync g.row.P = record { shared = c.type_bounds.sync-P.shared } in
    record { shared = (closure_sync _ _ g.row.P pulse).shared }

pub map_chunks-requires-clause-accepts : goal.map_chunks-requires-clause-accepts
map_chunks-requires-clause-accepts g c κs within = λ start p chunk. (
  c.requires.facts,
  (
    all_of_chunk (HasPage c.args.bench.basis.now.typed.now.service) c.args.pieces.now c.dealt-size.result start p.now chunk c.requires.pages,
    record { shared = c.type_bounds.sync-P.shared },
  ),
)

pub loop-list-init : goal.loop-list-init
loop-list-init g c = record {
  joined =
      of_no_chunk (IsPageFault c.args.bench.basis.now.typed.now.service c.args.bench.basis.now.schema.now c.args.bench.facts.now)
      c.args.pieces.now c.dealt-size.result c.new-faults.result c.new-faults.ensures;
  count = omega arith;
  parts = refl;
}

pub loop-list-preserved : goal.loop-list-preserved
loop-list-preserved g c =
    let P = IsPageFault c.args.bench.basis.now.typed.now.service c.args.bench.basis.now.schema.now c.args.bench.facts.now in
    let xs = c.loop-list.yielded in
    let parts = c.loop-list.invariant.parts ∙ ap (λ l. xs ++ l) c.in-Some.ensures.steps.0 in
    let here = in_turn xs c.in-Some.list c.next.new.self.rest.items _ (sym c.into_iter-list-iterator.ensures.into_iter_gives.0 ∙ parts) c.in-Some.list in
    let chunk = (c.in_ok-lists.ensures.each (length xs) c.in-Some.list here.0).1 in
    let listed = IfOk-at_ok (Lists (OfOne P chunk.argument.now)) (here.1 ∙ c.in_ok-list.was) chunk.call in
    record {
      joined =
          of_chunk P c.args.pieces.now c.dealt-size.result (length xs) _ chunk.argument.now c.loop-list.faults c.in_ok-list.field-0 c.join.new.self
          (length_push xs c.in-Some.list) chunk.argument_is c.in_ok-join.ensures c.loop-list.invariant.joined listed;
      count = omega (arith, c.loop-list.invariant.count, length_push xs c.in-Some.list, c.in-Some.ensures.steps.1);
      parts = parts ∙ sym (append_assoc xs (c.in-Some.list ∷ []) c.next.new.self.rest.items);
    }

pub returns : goal.returns
returns g c =
    let all : length c.loop-list.yielded ≡ vec_len c.in_ok-lists.lists =
    omega (arith, c.loop-list.invariant.count, c.in-None.ensures.steps.0, c.into_iter-list-iterator.ensures.into_iter_gives.1) in
    of_chunks (IsPageFault c.args.bench.basis.now.typed.now.service c.args.bench.basis.now.schema.now c.args.bench.facts.now)
    c.args.pieces.now c.dealt-size.result
    (length c.loop-list.yielded) c.loop-list.faults c.dealt-size.ensures.some (all ∙ c.in_ok-lists.ensures.len) c.loop-list.invariant.joined
