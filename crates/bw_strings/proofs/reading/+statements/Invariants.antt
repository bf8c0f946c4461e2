use Rattle.std.proofs.Common.{◌≡◌, drop}
use Rattle.bw_lang.specs.Service.CodeView.{code}
use Rattle.bw_lang.specs.Table.Names.{with_names}
use Rattle.bw_strings.specs.Literals.{code_strings}
use Rattle.bw_strings.proofs.reading.+statements.Given as goal

abbrev pub invariant-note_block-loop-stmt : goal.invariant-note_block-loop-stmt
invariant-note_block-loop-stmt l = with_names l.texts (code_strings (code (drop l.stmt-index l.stmt-items))) ≡ with_names l.initial.texts (code_strings l.block)
