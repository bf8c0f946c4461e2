use Rattle.std.proofs.Common.{◌≡◌, ℕ, List, Option, None, MatchOption, subst, sym}
use Rattle.bw_http.specs.Paths.{SpellsNoTurn, SpellsTurn}
use Rattle.bw_http.proofs.Spellings.{turn_dash, turn_number, turn_slash, turn_key, turn_spelt}
use Rattle.bw_http.proofs.paths.turn_of.Goals as goal

is_none : (path : List ℕ) (r : Option (ℕ × ℕ × ℕ)) → r ≡ None → SpellsNoTurn path
    → MatchOption r (SpellsNoTurn path) (λ at. SpellsTurn path at.0 at.1 at.2)
is_none path r e none = subst (λ t. MatchOption t (SpellsNoTurn path) (λ at. SpellsTurn path at.0 at.1 at.2)) (sym e) none

pub returns-in_err-number : goal.returns-in_err-number
returns-in_err-number c =
    is_none _ _ c.from_residual-in_err-number.ensures (turn_dash _ _ c.in_ok-turn.ensures c.in_err-number.ensures)

pub returns-in_err-key : goal.returns-in_err-key
returns-in_err-key c =
    is_none _ _ c.from_residual-in_err-key.ensures (turn_slash _ _ _ _ c.in_ok-turn.ensures c.in_ok-number.ensures c.in_err-key.ensures)

pub returns-in_err-count_of : goal.returns-in_err-count_of
returns-in_err-count_of c =
    is_none _ _ c.from_residual-in_err-count_of.ensures
    (λ number key turn form is. c.in_err-count_of.ensures number form.0
    (turn_number _ _ _ _ number key turn c.in_ok-turn.ensures c.in_ok-number.ensures form is).0)

pub returns-in_err-key_of : goal.returns-in_err-key_of
returns-in_err-key_of c =
    is_none _ _ c.from_residual-in_err-key_of.ensures
    (λ number key turn form is. c.in_err-key_of.ensures key form.1
    (turn_key _ _ _ _ _ _ number key turn c.in_ok-turn.ensures c.in_ok-number.ensures c.in_ok-key.ensures form is).0)

pub returns-in_err-count_of-2 : goal.returns-in_err-count_of-2
returns-in_err-count_of-2 c =
    is_none _ _ c.from_residual-in_err-count_of-2.ensures
    (λ number key turn form is. c.in_err-count_of-2.ensures turn form.2
    (turn_key _ _ _ _ _ _ number key turn c.in_ok-turn.ensures c.in_ok-number.ensures c.in_ok-key.ensures form is).1)

pub returns : goal.returns
returns c =
    let number = c.in_ok-count_of.ensures in
    let key = c.in_ok-key_of.ensures in
    let turn = c.in_ok-count_of-2.ensures in (
      (number.0, key.0, turn.0),
      turn_spelt _ _ _ _ _ _ _ _ _ c.in_ok-turn.ensures c.in_ok-number.ensures c.in_ok-key.ensures number.1 key.1 turn.1,
    )
