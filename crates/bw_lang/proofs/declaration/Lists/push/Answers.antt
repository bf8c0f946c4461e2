use Rattle.std.proofs.Common.{[], ◌∷◌, ◌++◌, refl, ap, ◌∙◌}
use Rattle.bw_lang.specs.Service.Sorted.{sort_of}
use Rattle.bw_lang.proofs.Declarations.{template_more, shared_more, session_more}
use Rattle.bw_lang.proofs.declaration.Lists.push.Goals as goal

pub returns-in_ok-push-in-Template : goal.returns-in_ok-push-in-Template
returns-in_ok-push-in-Template c = λ ds h.
    let o = c.in_ok-push.ensures.items ∙ ap (λ s. c.args.self.now.order.items ++ s ∷ []) (c.sort.ensures ∙ ap sort_of c.in-Template.is) in
    rw c.in-Template.is (template_more ds _ _ _ o c.in_ok-push-in-Template.ensures.items refl refl h)

pub returns-in_ok-push-in-Shared : goal.returns-in_ok-push-in-Shared
returns-in_ok-push-in-Shared c = λ ds h.
    let o = c.in_ok-push.ensures.items ∙ ap (λ s. c.args.self.now.order.items ++ s ∷ []) (c.sort.ensures ∙ ap sort_of c.in-Shared.is) in
    rw c.in-Shared.is (shared_more ds _ _ _ o refl c.in_ok-push-in-Shared.ensures.items refl h)

pub returns-in_ok-push-in-Session : goal.returns-in_ok-push-in-Session
returns-in_ok-push-in-Session c = λ ds h.
    let o = c.in_ok-push.ensures.items ∙ ap (λ s. c.args.self.now.order.items ++ s ∷ []) (c.sort.ensures ∙ ap sort_of c.in-Session.is) in
    rw c.in-Session.is (session_more ds _ _ _ o refl refl c.in_ok-push-in-Session.ensures.items h)
