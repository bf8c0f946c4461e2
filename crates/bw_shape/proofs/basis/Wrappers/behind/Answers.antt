use Rattle.std.proofs.Common.{◌++◌, ◌∷◌, [], map, refl, ap, ◌∙◌}
use Rattle.bw_lang.specs.declared.service.Service.{Service}
use Rattle.bw_shape.proofs.Nodes.Wrapped.{all_are}
use Rattle.bw_shape.proofs.basis.Wrappers.behind.Goals as goal

pub returns : goal.returns
returns c =
    let s = c.args.typed.now.service in
    let w = c.args.self.now in
    all_are s s w.show w.exit c.of.result
    (c.of.ensures ∙ ap (λ (g : Service). map (λ t. t.items) g.templates ++ w.show ∷ w.exit ∷ []) c.service.ensures) refl c.requires.0 c.requires.1
