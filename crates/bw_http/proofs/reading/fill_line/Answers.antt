use Rattle.std.proofs.Common.{◌≡◌, ℕ, List, ◌++◌, ◌<◌, length, sym, ap, ◌∙◌, arith, subst, true}
use Rattle.std.proofs.lemmas.List.{length-append}
use Rattle.std.proofs.lemmas.Result.{err_from_is_err_and}
use Rattle.std.proofs.lemmas.Bool.{false≢true}
use Rattle.std.specs.List.{list_all}
use Rattle.httparse.specs.Pieces.{is_newline}
use Rattle.bw_out.proofs.TakeLaws.{took, took_more, then_takes, no_fault}
use Rattle.bw_http.specs.Heads.{HasNoHead, LacksHead, line_count}
use Rattle.bw_http.proofs.Messages.{filled_more, filled_none}
use Rattle.bw_http.proofs.Filling.{stays_blank, stays_few, stays_none}
use Rattle.bw_http.proofs.reading.fill_line.Goals as goal

pub more-preserved : goal.more-preserved
more-preserved g c =
    let before = c.more.invariant in
    let filled = c.in_ok-fill.ensures.taken in
    let held = c.bytes-held.result.now in
    let bytes = c.bytes-in-more-2.result.now in
    let all : bytes ≡ c.more.intake ++ filled.0 = c.bytes-in-more-2.ensures.value ∙ filled.2 in
    let worth = c.may_end_head.ensures c.if-may_end_head.false in
    record {
      filled = filled_more _ _ _ _ _ _ before.filled filled;
      took = took_more g.S.Channel g.met.S.Source.same_trans before.took (took c.in_ok-fill.ensures.takes (λ e. absurd (false≢true e)));
      none = subst (λ (t : List ℕ). HasNoHead t) c.bytes-in-more-2.ensures.value
          (stays_none c.more.begun c.is_blank.result c.more.intake filled.0 held bytes c.bytes-held.ensures.value all
          before.blank c.is_blank.ensures before.none worth);
      few = subst (λ (t : List ℕ). line_count t < 67) c.bytes-in-more-2.ensures.value
          (stays_few c.more.begun c.is_blank.result c.more.intake filled.0 held bytes c.bytes-held.ensures.value all
          before.blank c.is_blank.ensures before.few worth);
      blank = λ idle. subst (λ (t : List ℕ). list_all is_newline t ≡ true) c.bytes-in-more-2.ensures.value
          (stays_blank c.more.begun c.is_blank.result c.more.intake filled.0 held bytes c.bytes-held.ensures.value all
          before.blank c.is_blank.ensures idle);
      grows = omega (arith, before.grows, ap length filled.2, length-append c.more.intake filled.0);
    }

pub returns-then-may_end_head : goal.returns-then-may_end_head
returns-then-may_end_head g c =
    let before = c.more.invariant in
    record {
      filled = filled_more _ _ _ _ _ _ before.filled c.in_ok-fill.ensures.taken;
      grown = λ _. omega (arith, before.grows, c.in_ok-fill.ensures.count, c.if-branch-eq0.false);
      ended = λ e. absurd (false≢true (sym e));
      short = tt;
      takes = then_takes g.S.Channel g.met.S.Source.same_trans before.took c.in_ok-fill.ensures.takes;
    }

pub returns-in_err-fill : goal.returns-in_err-fill
returns-in_err-fill g c =
    let before = c.more.invariant in
    let same = c.in_err-fill.ensures.unchanged in
    let p = err_from_is_err_and c.from_residual.result c.from_residual.ensures.1 in
    rw p.1 (record {
      filled = filled_more _ _ _ _ _ _ before.filled (filled_none _ _ _ _ c.in_err-fill.ensures.kept same);
      grown = tt;
      ended = tt;
      short = subst (λ (t : List ℕ). LacksHead t) (sym same) (record {
        none = before.none;
        short = omega (arith, ap length c.bytes-in-more.ensures.value, c.more-test.true);
        few = omega (arith, before.few);
      });
      takes = then_takes g.S.Channel g.met.S.Source.same_trans before.took c.in_err-fill.ensures.takes;
    })

pub returns : goal.returns
returns g c =
    let before = c.more.invariant in
    record {
      filled = before.filled;
      grown = λ _. omega (arith, c.requires.short, ap length c.bytes-in-more.ensures.value, c.more-test.false);
      ended = λ e. absurd (false≢true (sym e));
      short = tt;
      takes = no_fault before.took false≢true;
    }
