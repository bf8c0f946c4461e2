use Rattle.std.proofs.Common.{◌≡◌, ◌++◌, ◌+◌, length}
use Rattle.std.specs.List.{flat_map, AllByRecursion}
use Rattle.bw_doc.specs.Operations.{operations}
use Rattle.bw_saved.specs.Documents.Layout.{operation}
use Rattle.bw_saved.specs.Documents.Left.{all_left}
use Rattle.bw_save.specs.Fitting.{FitsOperation}
use Rattle.bw_save.proofs.documents.put_document.Given as goal

abbrev pub invariant-loop-bytes : goal.invariant-loop-bytes
invariant-loop-bytes l = record {
  bytes : l.bytes.items ++ flat_map operation (all_left l.left.items) ≡ flat_map operation (operations l.doc);
  counted : l.count + length (all_left l.left.items) ≡ length (operations l.doc);
  fit : AllByRecursion FitsOperation (all_left l.left.items);
  out : l.out.items ≡ l.fn.out.items;
}

abbrev pub decreases-loop-bytes : goal.decreases-loop-bytes
decreases-loop-bytes l = length (all_left l.left.items)
