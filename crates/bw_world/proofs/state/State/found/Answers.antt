use Rattle.std.proofs.Common.{ap, ◌∙◌, refl, inr}
use Rattle.bw_http.specs.declared.replies.Reply.TheVariants as replies
use Rattle.bw_types.specs.declared.typed.Typed.{Typed}
use Rattle.bw_world.specs.Changes.{shown_page, begun}
use Rattle.bw_world.specs.Seen.{Seen}
use Rattle.bw_world.proofs.Keeping.{keeps_new, is_with_new}
use Rattle.bw_world.proofs.state.State.found.Goals as goal
use Rattle.bw_world.proofs.state.State.found.Goals.{in-Ok+in-Some-1, in-Ok+in-None-1, in-Err-2}

pub invariant_of-self : goal.invariant_of-self
invariant_of-self c =
    let w = c.self.inside in
    let v : Seen = record { service = w.checked.typed.service; shared = w.shared; next = w.next; first = w.first; live = w.live.entries } in
    keeps_new v c.args.self.now c.self.view_is c.self.invariant.1 c.args.shared w.live c.put.new.self c.self.invariant.0 refl c.args.key
    c.args.session c.args.frame c.args.page c.in-Ok-put.ensures.entries c.requires.shared c.requires.fit

pub invariant_of-self-in-Ok-put-2 : goal.invariant_of-self-in-Ok-put-2
invariant_of-self-in-Ok-put-2 c =
    let w = c.self.inside in
    let v : Seen = record { service = w.checked.typed.service; shared = w.shared; next = w.next; first = w.first; live = w.live.entries } in
    keeps_new v c.args.self.now c.self.view_is c.self.invariant.1 c.args.shared w.live c.put.new.self c.self.invariant.0 refl c.args.key
    c.args.session c.args.frame c.args.page c.in-Ok-put.ensures.entries c.requires.shared c.requires.fit

pub returns-in-Ok-put : goal.returns-in-Ok-put
returns-in-Ok-put c =
    let w = c.self.inside in
    let v : Seen = record { service = w.checked.typed.service; shared = w.shared; next = w.next; first = w.first; live = w.live.entries } in
    let old = c.args.self.now in
    let one = begun old c.args.key c.args.session c.args.frame c.args.page in
    let due = replies.Page (shown_page old.service old.next c.args.key old.first c.args.page) in
    let sheet = c.in-Ok.ensures ∙ ap (λ (t : Typed). shown_page t.service w.next c.args.key w.first c.args.page) c.typed.ensures
    ∙ ap (λ (z : Seen). shown_page z.service z.next c.args.key z.first c.args.page) c.self.view_is in
    let is = is_with_new v old c.self.view_is c.self.invariant.1 c.args.shared w.live c.put.new.self c.self.invariant.0 refl c.args.key c.args.session
    c.args.frame c.args.page c.in-Ok-put.ensures.entries in
    elim c.match-put-2.branch [
      | in-Ok+in-Some-1 x ↦ inr (ap (λ s. replies.Page s) sheet, x.self-is ∙ is)
      | in-Ok+in-None-1 x ↦ inr (ap (λ s. replies.Page s) sheet, x.self-is ∙ is)
      | in-Err-2 x ↦ inr (ap (λ s. replies.Page s) sheet, x.self-is ∙ is)
    ]
