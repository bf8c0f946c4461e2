-- The graph of a page's summary is that of the wrapper, with the title, any target and the document's graph.
use Rattle.std.proofs.Common.{◌≡◌, ℕ, ◌+◌, ◌<◌, ◌^◌, Bool, true, List, [], ◌∷◌, length, refl, ap, ◌∙◌, arith, sym}
use Rattle.std.proofs.lemmas.Slice.Eq.{bytes_eq-Decides}
use Rattle.std.specs.Prelude.{nat_lt}
use Rattle.bw_lang.specs.declared.service.Service.{Service}
use Rattle.bw_lang.specs.Document.Forest.{Forest}
use Rattle.bw_lang.specs.Document.Wrappers.{show_wrapper, exit_wrapper}
use Rattle.bw_shape.proofs.Nodes.Wrapped.{at_behind}
use Rattle.bw_strings.specs.Asking.{has_string}
use Rattle.bw_strings.specs.declared.strings.StrSet.TheVariants.{Any}
use Rattle.bw_strings.specs.Literals.{literals_of}
use Rattle.bw_strings.specs.Strings as strings
use Rattle.bw_sum.specs.Constants.{constant_of}
use Rattle.bw_sum.specs.Graph as graphs
use Rattle.bw_sum.specs.Graph.{graph}
use Rattle.bw_sum.specs.Small.{IsWellFormed}
use Rattle.bw_sum.specs.Summaries.{plugged_text}
use Rattle.bw_sum.specs.Templates.{template_items, HasKnownGaps}
use Rattle.bw_sum.specs.declared.summary.Summary.{Summary}
use Rattle.bw_sum.proofs.ConstantLaws.{constants}
use Rattle.bw_sum.proofs.GraphLaws.{plugs, plugs_text}
use Rattle.bw_sum.proofs.WellFormed.{constant_well_formed, plug_text_well_formed, well_formed_alike}
use Rattle.bw_shape.proofs.Shapes.{template_is}
use Rattle.bw_cover.specs.Abstracts as cover
use Rattle.bw_analyse.specs.Pages.{shown_page, exited_page, name_of}
use Rattle.bw_analyse.specs.Lawful.StepLaws.{HasFew}
use Rattle.bw_check.proofs.Within.Named.{name_named}
use Rattle.bw_sound.proofs.Found.Seen.{same_graph, one_seen}
use Rattle.bw_sound.proofs.Unfolded.{titled, show_graph, exit_graph}

-- ---- the wrappers stand behind the templates

pub show_there : (service : Service) → template_items service (length service.templates) ≡ show_wrapper (length service.gaps)
show_there service =
    let n = length service.templates in
    let g = length service.gaps in
    let e : n ≡ n + 0 = omega arith in
    (λ i. sym (template_is service) i (e i)) ∙ at_behind service.templates (show_wrapper g ∷ exit_wrapper g ∷ []) 0

pub exit_there : (service : Service) → template_items service (length service.templates + 1) ≡ exit_wrapper (length service.gaps)
exit_there service =
    let n = length service.templates in
    let g = length service.gaps in
    (λ i. sym (template_is service) i (n + 1)) ∙ at_behind service.templates (show_wrapper g ∷ exit_wrapper g ∷ []) 1

-- ---- the title

abbrev strings_in : cover.Abstract → List ℕ → Bool
strings_in cover.Nothing s = true
strings_in (cover.Strings S) s = S s
strings_in (cover.Html G) s = true

-- the service's name is the string of its title
pub has_title : (service : Service) → has_string (literals_of service) (name_of service) service.name ≡ true
has_title service =
    ap (λ a. strings_in a service.name) (one_seen service service.name (name_named service))
    ∙ (bytes_eq-Decides service.name service.name).1 refl

module _ (service : Service) (few : HasFew service) (known : (m : ℕ) → HasKnownGaps (length service.gaps) (template_items service m)) where
  abbrev L : List (List ℕ)
  L = literals_of service

  abbrev T : ℕ → Forest
  T = template_items service

  abbrev n : ℕ
  n = length service.gaps

  abbrev gaps : ℕ → Bool
  gaps g = nat_lt g n

  abbrev pub title : List ℕ → Bool
  title = has_string L (name_of service)

  abbrev pub target : List ℕ → Bool
  target = has_string L Any

  name_fine : strings.IsWellFormed (name_of service)
  name_fine = ((tt, tt), (omega (arith, name_named service, few.literals), tt))

  module _ (r : ℕ) (small : r < 2 ^ 32) where
    abbrev wrapper : Summary
    wrapper = constant_of r (T r) n

    abbrev named : Summary
    named = plugged_text wrapper n (name_of service)

    wrapper_fine : IsWellFormed wrapper
    wrapper_fine = constant_well_formed r (T r) n small few.gaps

    named_fine : IsWellFormed named
    named_fine = plug_text_well_formed wrapper n (name_of service) (omega (arith, few.gaps)) wrapper_fine name_fine

    named_is : graph L named ≡ titled T gaps r n title
    named_is =
        same_graph (graph L named) (graphs.plugged_text (graph L wrapper) n title) (plugs_text L wrapper n (name_of service) wrapper_fine.0 name_fine)
        ∙ ap (λ B. graphs.plugged_text B n title) (same_graph (graph L wrapper) (graphs.constant T gaps r) (constants L T r n (known r)))

  module _ (s : Summary) (fine : IsWellFormed s) where
    pub shown_is : length service.templates < 2 ^ 32
        → graph L (shown_page service (name_of service) s) ≡ show_graph T gaps (length service.templates) n title target (graph L s)
    shown_is small =
        let r = length service.templates in
        let one = named r small in
        let two = plugged_text one (n + 1) Any in
        let one_fine = named_fine r small in
        let two_fine = plug_text_well_formed one (n + 1) Any (omega (arith, few.gaps)) one_fine tt in
        same_graph (graph L (shown_page service (name_of service) s)) (graphs.plugged (graph L two) (n + 2) (graph L s))
        (plugs L two (n + 2) s (well_formed_alike two s two_fine fine))
        ∙ ap (λ B. graphs.plugged B (n + 2) (graph L s))
        (same_graph (graph L two) (graphs.plugged_text (graph L one) (n + 1) target) (plugs_text L one (n + 1) Any one_fine.0 tt)
        ∙ ap (λ B. graphs.plugged_text B (n + 1) target) (named_is r small))

    pub exited_is : length service.templates + 1 < 2 ^ 32
        → graph L (exited_page service (name_of service) s) ≡ exit_graph T gaps (length service.templates + 1) n title (graph L s)
    exited_is small =
        let r = length service.templates + 1 in
        same_graph (graph L (exited_page service (name_of service) s)) (graphs.plugged (graph L (named r small)) (n + 2) (graph L s))
        (plugs L (named r small) (n + 2) s (well_formed_alike (named r small) s (named_fine r small) fine))
        ∙ ap (λ B. graphs.plugged B (n + 2) (graph L s)) (named_is r small)
