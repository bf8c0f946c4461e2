-- The locals that a block declares are gone behind it.
use Rattle.std.proofs.Common.{◌≡◌, ℕ, ◌+◌, Bool, true, false, List, Option, None, refl, sym, ap, ◌∙◌}
use Rattle.std.specs.Prelude.{if◌then◌else◌, nat_lt}
use Rattle.std.specs.List.{list_any}
use Rattle.bw_lang.specs.declared.turn.TurnFault.TheVariants.{Spent}
use Rattle.bw_lang.specs.Service.Code.{numbered}
use Rattle.bw_lang.specs.Table.Names.{same, beside}
use Rattle.bw_meaning.specs.GoOn.{go_on_behind}
use Rattle.bw_meaning.specs.NameLaws.{BlocksLeave, AnsweredBlocksLeave}
use Rattle.bw_meaning.specs.States.{State, Outcome, Went, Shown, Exited, Failed}
use Rattle.bw_meaning.specs.Statements.{declared, leave, then_do, exec}
use Rattle.bw_meaning.specs.Values.{Value, without}
use Rattle.bw_meaning.proofs.Maps.{leaving_takes_names}

if_so : (b : Bool) (o : Option Value) → b ≡ true → (if b then None else o) ≡ None
if_so true o e = refl
if_so false o e = cc

gone : (names : List (List ℕ)) (o : Outcome) (st : State) (w : List ℕ) → then_do (leave names o) Went ≡ Went st → list_any (same w) names ≡ true →
    beside w st.locals ≡ None
gone names (Went st1) st w e h =
    let is : record st1 { locals = without names st1.locals } ≡ st = cc in
    ap (λ (s : State). beside w s.locals) (sym is) ∙ leaving_takes_names names w st1.locals ∙ if_so (list_any (same w) names) (beside w st1.locals) h
gone names (Shown at locals rests shown shared units) st w e h = cc
gone names (Exited last shared units) st w e h = cc
gone names (Failed f units) st w e h = cc

pub blocks_leave : BlocksLeave
blocks_leave service c n around st st1 w e h = gone (declared c) (exec service c n around st) st1 w e h

reached : (b : Bool) (o : Outcome) (st : State) → (if b then o else Failed Spent 0) ≡ Went st → o ≡ Went st
reached true o st e = e
reached false o st e = cc

pub answered_blocks_leave : AnsweredBlocksLeave
answered_blocks_leave service c n around a st w e h =
    let o = go_on_behind service c n around a in
    gone (declared c) o st w (reached (nat_lt a.at (n + numbered c)) (then_do (leave (declared c) o) Went) st e) h
