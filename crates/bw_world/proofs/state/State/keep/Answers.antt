use Rattle.std.proofs.Common.{◌+◌, suc, sym, ap, ◌∙◌, subst, refl, inr}
use Rattle.std.proofs.lemmas.Option.{same_Some}
use Rattle.bw_http.specs.declared.replies.Reply.TheVariants as replies
use Rattle.bw_types.specs.declared.typed.Typed.{Typed}
use Rattle.bw_world.specs.declared.suspended.Suspended.{Suspended}
use Rattle.bw_world.specs.Changes.{shown_page, went_on, with_first, Either}
use Rattle.bw_world.specs.Seen.{Seen}
use Rattle.bw_world.proofs.Keeping.{keeps_next, is_with_next, next_page}
use Rattle.bw_world.proofs.state.State.keep.Goals as goal
use Rattle.bw_world.proofs.state.State.keep.Goals.{in-Ok+in-Some-1, in-Ok+in-None-1, in-Err-2}

pub invariant_of-self : goal.invariant_of-self
invariant_of-self c =
    let w = c.self.inside in
    let v : Seen = record { service = w.checked.typed.service; shared = w.shared; next = w.next; first = w.first; live = w.live.entries } in
    let one = c.one-one.result.now in
    let e = c.one-one.ensures.found in
    keeps_next v c.args.self.now c.self.view_is c.self.invariant.1 c.args.shared w.live c.put.new.self c.self.invariant.0 refl c.args.number c.args.key
    one e c.args.frame c.args.page c.in-Ok-put.ensures.entries c.requires.shared (c.requires.fit one e).1

pub invariant_of-self-in-Ok-put-2 : goal.invariant_of-self-in-Ok-put-2
invariant_of-self-in-Ok-put-2 c =
    let w = c.self.inside in
    let v : Seen = record { service = w.checked.typed.service; shared = w.shared; next = w.next; first = w.first; live = w.live.entries } in
    let one = c.one-one.result.now in
    let e = c.one-one.ensures.found in
    keeps_next v c.args.self.now c.self.view_is c.self.invariant.1 c.args.shared w.live c.put.new.self c.self.invariant.0 refl c.args.number c.args.key
    one e c.args.frame c.args.page c.in-Ok-put.ensures.entries c.requires.shared (c.requires.fit one e).1

pub returns-in-Ok-put : goal.returns-in-Ok-put
returns-in-Ok-put c s h =
    let w = c.self.inside in
    let v : Seen = record { service = w.checked.typed.service; shared = w.shared; next = w.next; first = w.first; live = w.live.entries } in
    let k = c.self.invariant.1 in
    let one = c.one-one.result.now in
    let e = c.one-one.ensures.found in
    let old = c.args.self.now in
    let world = is_with_next v old c.self.view_is k c.args.shared w.live c.put.new.self c.self.invariant.0 refl c.args.number c.args.key one e c.args.frame
    c.args.page c.in-Ok-put.ensures.entries in
    let sheet = c.in-Ok.ensures ∙ ap (λ (t : Typed). shown_page t.service c.args.number c.args.key (one.turn + 1) c.args.page) c.typed.ensures
    ∙ next_page v old c.self.view_is k c.args.shared w.live c.put.new.self c.self.invariant.0 refl c.args.number c.args.key one e c.args.frame
    c.args.page c.in-Ok-put.ensures.entries in
    subst (λ (z : Suspended). Either old c.match-put-2.self (replies.Page c.in-Ok.sheet)
    (replies.Page (shown_page old.service z.number z.key (suc z.turn) c.args.page)) (with_first old (went_on z c.args.frame c.args.page) c.args.shared))
    (same_Some one s (sym e ∙ h))
    (inr (
      ap (λ x. replies.Page x) sheet,
      elim c.match-put-2.branch [
        | in-Ok+in-Some-1 x ↦ x.self-is ∙ world
        | in-Ok+in-None-1 x ↦ x.self-is ∙ world
        | in-Err-2 x ↦ x.self-is ∙ world
      ],
    ))
