use Rattle.std.proofs.Common.{◌≡◌, Bool, true, false, ◌∙◌, sym, ap}
use Rattle.std.specs.Prelude.{is_some, ◌||◌}
use Rattle.bw_lang.specs.Table.Names.{beside}
use Rattle.bw_lang.proofs.Small.{readable_is_woven}
use Rattle.bw_types.specs.Scopes.{is_among}
use Rattle.bw_types.proofs.Known.{declared_by}
use Rattle.bw_types.proofs.names.Names.is_declared.Goals as goal

pub returns-then-has : goal.returns-then-has
returns-then-has c =
    let n = c.args.self.now in let s = n.service.now in let w = c.args.name.now in
    c.if-has.true
    ∙ sym (declared_by s (readable_is_woven s n.readable) n.known w
    ∙ ap (λ b. b || (is_some (beside w n.tables.now.shared) || is_among w n.tables.now.sessions)) (sym c.has.ensures ∙ c.if-has.true))

by_second : (a b c : Bool) → a ≡ false → b ≡ true → (a || (b || c)) ≡ true
by_second a b c p q = rw (p, q)

by_third : (a b c : Bool) → a ≡ false → b ≡ false → (a || (b || c)) ≡ c
by_third a b c p q = rw (p, q)

pub returns-then-is_some : goal.returns-then-is_some
returns-then-is_some c =
    let n = c.args.self.now in let s = n.service.now in let w = c.args.name.now in
    c.if-is_some.true
    ∙ sym (declared_by s (readable_is_woven s n.readable) n.known w
    ∙ by_second (is_among w n.tables.now.templates) (is_some (beside w n.tables.now.shared)) (is_among w n.tables.now.sessions)
    (sym c.has.ensures ∙ c.if-has.false)
    (ap is_some (sym c.get.ensures) ∙ sym c.is_some.ensures ∙ c.if-is_some.true))

pub returns-else-is_some : goal.returns-else-is_some
returns-else-is_some c =
    let n = c.args.self.now in let s = n.service.now in let w = c.args.name.now in
    c.has-else-is_some.ensures
    ∙ sym (declared_by s (readable_is_woven s n.readable) n.known w
    ∙ by_third (is_among w n.tables.now.templates) (is_some (beside w n.tables.now.shared)) (is_among w n.tables.now.sessions)
    (sym c.has.ensures ∙ c.if-has.false)
    (ap is_some (sym c.get.ensures) ∙ sym c.is_some.ensures ∙ c.if-is_some.false))
