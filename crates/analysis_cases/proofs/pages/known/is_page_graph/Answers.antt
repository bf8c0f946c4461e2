use Rattle.std.proofs.Common.{rules, ◌≡◌, ◌+◌, ◌<◌, ◌∙◌, ap, subst, length}
use Rattle.std.specs.List.{All}
use Rattle.bw_strings.specs.Asking.{AreLiterals}
use Rattle.bw_strings.specs.Literals.{literals_of}
use Rattle.analysis_cases.proofs.pages.known.is_page_graph.Goals as goal

pub returns-then-are_tracks : goal.returns-then-are_tracks
returns-then-are_tracks c is =
    let service = c.args.typed.now.service in
    let count = length c.as_slice-count.result.now in
    let same : count ≡ length service.templates = ap length c.as_slice-count.ensures ∙ ap (λ s. length s.templates) c.service.ensures in
    let labels = c.as_slice-then-are_tracks in
    let known = subst (λ t. All (λ l. (l.0.0 < count + 2) × AreLiterals t l.1) labels.result.now) c.requires (c.are_labels.ensures is) in
    record {
      root = search rules;
      edges = search rules;
      tracks = search rules;
      texts = subst (λ n. All (λ l. (l.0.0 < n + 2) × AreLiterals (literals_of service) l.1) c.args.page.now.texts) same
          (subst (All (λ l. (l.0.0 < count + 2) × AreLiterals (literals_of service) l.1)) labels.ensures.value known);
    }
