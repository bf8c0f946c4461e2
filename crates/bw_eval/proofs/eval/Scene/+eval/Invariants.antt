use Rattle.std.proofs.Common.{◌≡◌, ◌+◌, ◌≤◌, drop}
use Rattle.bw_lang.specs.Service.TermView.{fillings}
use Rattle.bw_meaning.specs.Expressions.{fill}
use Rattle.bw_typed.specs.ShortStrings.{HaveShort}
use Rattle.bw_eval.specs.Bases.{HaveBases, IsDocument}
use Rattle.bw_eval.specs.Sound.{IsSound}
use Rattle.bw_eval.specs.View.{value, values}
use Rattle.bw_eval.proofs.eval.Scene.+eval.Given as goal

abbrev pub decreases-eval : goal.decreases-eval
decreases-eval g l = goal.size-eval g l

abbrev pub decreases-fill : goal.decreases-fill
decreases-fill g l = goal.size-fill g l

abbrev pub invariant-fill-loop-pair : goal.invariant-fill-loop-pair
invariant-fill-loop-pair g l = record {
  same : fill l.self.typed.now.service (values l.self.locals.now) (values l.self.shared.now) (fillings l.pair-items) (value l.fn.base) l.fn.units ≡
      fill l.self.typed.now.service (values l.self.locals.now) (values l.self.shared.now) (fillings (drop l.pair-index l.pair-items))
      (value l.filled) l.units;
  steps : l.steps + l.units ≡ l.fn.steps + l.fn.units;
  left : l.units ≤ l.fn.units;
  filled_sound : IsSound l.self.typed.now.service.templates l.filled;
  filled_document : IsDocument (value l.filled);
  strings_short : HaveShort (fillings (drop l.pair-index l.pair-items));
  bases : HaveBases l.self.typed.now.service (values l.self.locals.now) (values l.self.shared.now) (fillings (drop l.pair-index l.pair-items));
}
