use Rattle.std.proofs.Common.{[], map, ap, ◌∙◌}
use Rattle.std.specs.Prelude.{slice_index_or}
use Rattle.bw_lang.specs.declared.service.Service.{Service}
use Rattle.bw_lang.specs.declared.service.Shared.{Shared}
use Rattle.bw_lang.specs.Table.Names.{name_number}
use Rattle.bw_analyse.specs.Facts.{pages_of}
use Rattle.bw_flow.specs.Layout.{flow_of}
use Rattle.bw_analyse.proofs.Points.{scopes_are}
use Rattle.bw_analyse.proofs.facts.Facts.of.Goals as goal

pub returns : goal.returns
returns c =
    let g = c.args.ground.now in
    let service = g.typed.now.service in
    record {
      scopes = c.in_ok-scopes.ensures ∙ scopes_are g.points.now (flow_of service) g.points_are;
      variables = c.in_ok-variables.ensures ∙ ap (λ (s : Service). map (λ (v : Shared). v.name) s.shared) c.service.ensures;
      few = g.few;
      solution = c.requires;
      pages = c.in_ok-pages.ensures ∙ (λ j. pages_of service (λ p. slice_index_or (c.as_slice.ensures j) p []));
      title =
          c.number-title.ensures
          ∙ (λ j. name_number (g.literals_are j) ((c.as_str.ensures.text ∙ ap (λ (s : Service). s.name) c.service-2.ensures) j));
    }
