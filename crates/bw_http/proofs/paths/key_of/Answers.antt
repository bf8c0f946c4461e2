use Rattle.std.proofs.Common.{length, ap, ◌∙◌, sym}
use Rattle.std.proofs.lemmas.Bool.{false≢true}
use Rattle.std.specs.List.{list_all}
use Rattle.bw_http.specs.Paths.{is_key_digit}
use Rattle.bw_http.proofs.Spellings.{key_digits, key_read, key_unread}
use Rattle.bw_http.proofs.paths.key_of.Goals as goal

pub returns-then-not-is_key : goal.returns-then-not-is_key
returns-then-not-is_key c key small e =
    let digits = key_digits key in
    false≢true (sym c.if-not-is_key.true ∙ c.is_key.ensures.none (ap length e ∙ digits.0) (ap (list_all is_key_digit) e ∙ digits.1))

pub returns-in-Ok : goal.returns-in-Ok
returns-in-Ok c =
    let key = c.is_key.ensures.yes c.if-not-is_key.false in
    key_read c.args.text.now c.in-Ok.key key.0 key.1 c.in-Ok.ensures.value

pub returns-in-Err : goal.returns-in-Err
returns-in-Err c =
    let key = c.is_key.ensures.yes c.if-not-is_key.false in
    absurd (key_unread c.args.text.now c.in-Err.field-0 key.0 key.1 c.in-Err.ensures.value)
