-- The points of a typed flow are typed, so their plugs fill what they may fill.
use Rattle.std.proofs.Common.{◌≡◌, ℕ, Bool, true, false, List, [], ◌∷◌, Some, refl, sym, ap, ◌∙◌}
use Rattle.std.specs.Prelude.{◌||◌, if◌then◌else◌, is_some}
use Rattle.bw_lang.specs.declared.service.Service.{Service}
use Rattle.bw_lang.specs.declared.stmt.Kind.{Kind}
use Rattle.bw_lang.specs.declared.stmt.Kind.TheVariants as kinds
use Rattle.bw_lang.specs.Table.Names.{same, beside}
use Rattle.bw_lang.specs.Service.Term.{Term}
use Rattle.bw_lang.proofs.Small.{readable_is_woven}
use Rattle.bw_types.specs.Scopes.{is_among}
use Rattle.bw_types.specs.Typing.{IsTypedService}
use Rattle.bw_types.proofs.WellTyped.{typed}
use Rattle.bw_flow.specs.declared.point.Local.{Local}
use Rattle.bw_flow.specs.Steps.{Act, sets, tests, goes_over, shows, exits, joins}
use Rattle.bw_flow.specs.TypedFlow.{names_at, HasKindAt, IsTypedAct}
use Rattle.bw_flow.proofs.Given.{flows_are_typed}
use Rattle.bw_sum.specs.Graph.{IsBelow}
use Rattle.bw_cover.specs.Abstracts.{Html, known, EachPair, IsPlug, Below}
use Rattle.bw_cover.specs.Facts.{Facts, look}
use Rattle.bw_cover.specs.Flows.{names_of, Fits, ActFits}
use Rattle.bw_cover.specs.FlowKinds.{HasGaps, ActHasGaps, ActShows, SolvedPlacesAreAccepted}
use Rattle.bw_cover.specs.Kinds.{IsOf, SharedAreOf, LocalsAreOf, GapsAreThere, summary_of}
use Rattle.bw_cover.proofs.Checked.{typed_at, page_below}
use Rattle.bw_cover.proofs.Names.{beside-cons}
use Rattle.bw_cover.proofs.SolvedLaws.{gaps_are_there}

-- the names of locals are those of their kinds
scope_agrees : (scope : List Local) (w : List ℕ) → is_some (beside w (names_at scope).locals) ≡ is_among w (names_of scope)
scope_agrees [] w = refl
scope_agrees (l ∷ ls) w = ap is_some (beside-cons w l.name l.kind (names_at ls).locals) ∙ by_test (same w l.name) (scope_agrees ls w)
  where
    by_test : (b : Bool) → is_some (beside w (names_at ls).locals) ≡ is_among w (names_of ls)
        → is_some (if b then Some l.kind else beside w (names_at ls).locals) ≡ (b || is_among w (names_of ls))
    by_test true h = refl
    by_test false h = h

module _ (service : Service) (f : Facts ℕ) (t : IsTypedService service) (there : GapsAreThere service) (shared : SharedAreOf service f) where
  module _ (p : ℕ) (scope : List Local) (s : f.scope p ≡ names_of scope) (k : LocalsAreOf f p (names_at scope)) where
    at : (e : Term) (kind : Kind) → HasKindAt service scope e kind
        → IsOf kind (known service (look service f p) e) × EachPair (IsPlug service) service (look service f p) e
    at e kind h = typed_at service f t.gaps there shared p (names_at scope) (λ w. scope_agrees scope w ∙ ap (is_among w) (sym s)) k e kind h

    fits : (e : Term) (kind : Kind) → HasKindAt service scope e kind → HasGaps service f p e → Fits service f p e
    fits e kind h g = record { gaps = g; plugs = (at e kind h).1 }

    -- the page's summary has all that is known of its document
    page : (e : Term) → HasKindAt service scope e kinds.Html → IsBelow (summary_of (known service (look service f p) e)) (f.shown p)
        → Below (known service (look service f p) e) (Html (f.shown p))
    page e h b = page_below (known service (look service f p) e) (f.shown p) (at e kinds.Html h).0 b

    act_fits : (n : ℕ) (a : Act) → IsTypedAct service scope a → ActHasGaps service f p a → ActShows service f p n a → ActFits service f p n a
    act_fits n (sets w e) h g w1 = fits e h.0 h.1 g
    act_fits n (tests e) h g w = fits e kinds.Bool h g
    act_fits n (goes_over w e) h g w1 = fits e kinds.Strs h.1 g
    act_fits n (shows e rs) h g w = (fits e kinds.Html h.0 g, page e h.0 w.0, w.1)
    act_fits n (exits e) h g w = (fits e kinds.Html h g, page e h w.0, w.1)
    act_fits n joins h g w = tt

pub solved_places_are_accepted : SolvedPlacesAreAccepted
solved_places_are_accepted service f h =
    let woven = readable_is_woven service h.readable in
    let t = typed service woven h.typed in
    let flow = flows_are_typed service woven t in record {
      readable = h.readable;
      typed = h.typed;
      obeys = record {
        literals = h.literals;
        points = λ p x i. let o = h.points p x i in record {
          scope = o.scope;
          leads = o.leads;
          fits = act_fits service f t (gaps_are_there service h.readable) h.kinds p x.scope o.scope o.kinds x.number x.act (flow.acts p x i) o.gaps o.shows;
        };
      };
    }
