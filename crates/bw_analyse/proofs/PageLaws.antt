-- Which points have a page.
use Rattle.std.proofs.Common.{◌≡◌, ℕ, zero, suc, ◌+◌, List, [], ◌∷◌, map, Option, Some, None, refl, sym, ap, ◌∙◌, arith}
use Rattle.std.specs.Prelude.{slice_get}
use Rattle.bw_lang.specs.declared.service.Service.{Service}
use Rattle.bw_lang.specs.Service.Term.{Term}
use Rattle.bw_flow.specs.Steps.{Step}
use Rattle.bw_sum.specs.declared.summary.Summary.{Summary}
use Rattle.bw_analyse.specs.declared.abstracts.Abstract.{Abstract}
use Rattle.bw_analyse.specs.declared.facts.Facts.{Facts}
use Rattle.bw_analyse.specs.Facts.{AreFacts, joined_option, names_at, page_of, rows_of, shown_fact, summary_at}
use Rattle.bw_flow.specs.Layout.{flow_of}
use Rattle.bw_analyse.specs.Pages.{HasPage}
use Rattle.bw_analyse.specs.Rounds.{Placed, placed}

-- what is made of the point at a place
pub placed_get : {Y : Type 0} (f : Placed → Y) (p : ℕ) (xs : List Step) (i m : ℕ) (x : Step) → m ≡ p + i → slice_get xs i ≡ Some x
    → slice_get (map f (placed p xs)) i ≡ Some (f (record { place = m; step = x }))
placed_get f p [] i m x e s = absurd (cc)
placed_get f p (y ∷ xs) zero m x e s =
    let k : p ≡ m = omega arith in
    let l : y ≡ x = cc in
    ap (λ z. Some (f (record { place = z; step = y }))) k ∙ ap (λ z. Some (f (record { place = m; step = z }))) l
placed_get f p (y ∷ xs) (suc i) m x e s = placed_get f (p + 1) xs i m x (omega arith) s

placed_none : {Y : Type 0} (f : Placed → Y) (p : ℕ) (xs : List Step) (i : ℕ) → slice_get xs i ≡ None → slice_get (map f (placed p xs)) i ≡ None
placed_none f p [] i e = refl
placed_none f p (x ∷ xs) zero e = absurd (cc)
placed_none f p (x ∷ xs) (suc i) e = placed_none f (p + 1) xs i e

-- the summary of the page of a point
abbrev made : Service → (ℕ → List Abstract) → Placed → Option Summary
made service f x = summary_at service (names_at service f x) (page_of x.step.act)

-- a show and an exit have a summary of their page
pub has_summary : (service : Service) (facts : Facts) (p : ℕ) → AreFacts service facts → HasPage service p → shown_fact facts p ≡ None → ⊥
has_summary service facts p are (x, at, page) none = by_page (page_of x.act) refl
  where
    names : List ℕ → Abstract
    names = names_at service (rows_of facts) (record { place = p; step = x })

    shown : shown_fact facts p ≡ summary_at service names (page_of x.act)
    shown =
        ap (λ xs. joined_option (slice_get xs p)) are.pages
        ∙ ap joined_option (placed_get (made service (rows_of facts)) 0 (flow_of service) p p x (omega arith) at)

    by_page : (o : Option Term) → page_of x.act ≡ o → ⊥
    by_page None e = page e
    by_page (Some t) e = let d : summary_at service names (Some t) ≡ None = sym (ap (summary_at service names) e) ∙ sym shown ∙ none in absurd (cc)

-- a point whose page has a summary is a show or an exit
pub has_page : (service : Service) (facts : Facts) (p : ℕ) (s : Summary) → AreFacts service facts → shown_fact facts p ≡ Some s → HasPage service p
has_page service facts p s are shown = by_step (slice_get (flow_of service) p) refl
  where
    by_step : (o : Option Step) → slice_get (flow_of service) p ≡ o → HasPage service p
    by_step None e =
        let k : shown_fact facts p ≡ None =
        ap (λ xs. joined_option (slice_get xs p)) are.pages
        ∙ ap joined_option (placed_none (made service (rows_of facts)) 0 (flow_of service) p e) in
        absurd (let d : None ≡ Some s = sym k ∙ shown in cc)
    by_step (Some x) e = (
      x,
      e,
      λ none.
          let k : shown_fact facts p ≡ None =
          ap (λ xs. joined_option (slice_get xs p)) are.pages
          ∙ ap joined_option (placed_get (made service (rows_of facts)) 0 (flow_of service) p p x (omega arith) e)
          ∙ ap (summary_at service (names_at service (rows_of facts) (record { place = p; step = x }))) none in
          let d : None ≡ Some s = sym k ∙ shown in cc,
    )
