use Rattle.std.proofs.Common.{ℕ, sym, ap, ◌∙◌, subst, inr}
use Rattle.std.proofs.lemmas.Option.{same_Some}
use Rattle.lru.specs.LruCache.{LruCache}
use Rattle.bw_http.specs.declared.replies.Reply.TheVariants as replies
use Rattle.bw_types.specs.declared.typed.Typed.{Typed}
use Rattle.bw_world.specs.declared.suspended.Suspended.{Suspended}
use Rattle.bw_world.specs.Changes.{shown_page, with_first, Either}
use Rattle.bw_world.specs.Seen.{Seen}
use Rattle.bw_world.proofs.Keeping.{looked_at, keeps_first, is_with_first, promoted_is}
use Rattle.bw_world.proofs.Live.{is_found}
use Rattle.bw_world.proofs.state.State.again.Goals as goal

pub invariant_of-self : goal.invariant_of-self
invariant_of-self c =
    let w = c.self.inside in
    let v : Seen = record { service = w.checked.typed.service; shared = w.shared; next = w.next; first = w.first; live = w.live.entries } in
    let k = c.self.invariant.1 in
    let one = c.one-one.result.now in
    let e = c.one-one.ensures.found in
    let f = is_found c.args.number c.args.key c.args.self.now.next c.args.self.now.live c.one-one.ensures.kept.apart one e in
    let n = c.promote.new.self in
    let l = looked_at v c.args.self.now c.self.view_is k w.shared c.args.number c.args.key one e one f.1 n in
    let entries = ap (λ (z : LruCache ℕ Suspended). z.entries) c.promote.ensures.entries ∙ promoted_is v.service c.args.number v.next v.live one l in
    keeps_first v c.args.self.now c.self.view_is k w.shared c.args.number c.args.key one e one f.1 n entries
    (ap (λ (z : LruCache ℕ Suspended). z.cap) c.promote.ensures.entries ∙ c.self.invariant.0) k.shared c.one-one.ensures.fit

pub returns : goal.returns
returns c s h =
    let w = c.self.inside in
    let v : Seen = record { service = w.checked.typed.service; shared = w.shared; next = w.next; first = w.first; live = w.live.entries } in
    let k = c.self.invariant.1 in
    let one = c.one-one.result.now in
    let e = c.one-one.ensures.found in
    let old = c.args.self.now in
    let f = is_found c.args.number c.args.key old.next old.live c.one-one.ensures.kept.apart one e in
    let n = c.promote.new.self in
    let l = looked_at v old c.self.view_is k w.shared c.args.number c.args.key one e one f.1 n in
    let entries = ap (λ (z : LruCache ℕ Suspended). z.entries) c.promote.ensures.entries ∙ promoted_is v.service c.args.number v.next v.live one l in
    let world = is_with_first v old c.self.view_is k w.shared c.args.number c.args.key one e one f.1 n entries
    ∙ ap (λ (z : Seen). with_first old one z.shared) c.self.view_is in
    let sheet = c.in-Ok.ensures ∙ ap (λ (t : Typed). shown_page t.service c.args.number c.args.key one.turn one.page) c.typed.ensures
    ∙ (λ i. shown_page (ap (λ (z : Seen). z.service) c.self.view_is i) (sym f.1 i) (sym f.2 i) one.turn one.page) in
    subst (λ (z : Suspended). Either old (record v { live = n.entries }) (replies.Page c.in-Ok.sheet)
    (replies.Page (shown_page old.service z.number z.key z.turn z.page)) (with_first old z old.shared)) (same_Some one s (sym e ∙ h))
    (inr (ap (λ x. replies.Page x) sheet, world))
