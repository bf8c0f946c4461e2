-- What the controls of a name may send, one control and one value after another.
use Rattle.std.proofs.Common.{◌≡◌, ◌<◌, ◌+◌, get_or, drop, length, ℕ, Bool, true, false, List, [], ◌∷◌, ◌++◌, map, refl, ap, sym, ◌∙◌, Option, Some, None}
use Rattle.std.specs.Prelude.{filter, flat_map, if◌then◌else◌, slice_get}
use Rattle.std.specs.Option.{option_or}
use Rattle.std.proofs.lemmas.List.{append_assoc, append-nil, map-append, drop_more}
use Rattle.bw_lang.specs.Service.Submissions.{values_of}
use Rattle.bw_lang.specs.Table.Names.{same}
use Rattle.bw_lang.proofs.SameNames.{same_self}
use Rattle.bw_agent.specs.declared.control.Control.{Control}
use Rattle.bw_agent.specs.declared.control.Offer.{Offer}
use Rattle.bw_agent.specs.Filled.{offered, chosen, offers_for, pairs_of}

pub first-append : (a b : List (List ℕ)) → slice_get (a ++ b) 0 ≡ option_or (slice_get a 0) (slice_get b 0)
first-append [] b = refl
first-append (v ∷ a) b = refl

-- ---- values that were chosen

chosen_one : (t : Bool) (o : Offer) (rest : List Offer) → offered (if t then o ∷ rest else rest) ≡ (if t then o.value ∷ offered rest else offered rest)
chosen_one true o rest = refl
chosen_one false o rest = refl

pub chosen-cons : (o : Offer) (offers : List Offer) → chosen (o ∷ offers) ≡ (if o.chosen then o.value ∷ chosen offers else chosen offers)
chosen-cons o offers = chosen_one o.chosen o (filter (λ (x : Offer). x.chosen) offers)

pub more : (t : Bool) (v : List ℕ) (xs ys zs : List (List ℕ)) → xs ≡ ys ++ zs → (if t then v ∷ xs else xs) ≡ (if t then v ∷ ys else ys) ++ zs
more true v xs ys zs e = ap (λ l. v ∷ l) e
more false v xs ys zs e = e

pub chosen-append : (a b : List Offer) → chosen (a ++ b) ≡ chosen a ++ chosen b
chosen-append [] b = refl
chosen-append (o ∷ a) b =
    chosen-cons o (a ++ b) ∙ more o.chosen o.value (chosen (a ++ b)) (chosen a) (chosen b) (chosen-append a b)
    ∙ ap (λ l. l ++ chosen b) (sym (chosen-cons o a))

pub offered-append : (a b : List Offer) → offered (a ++ b) ≡ offered a ++ offered b
offered-append a b = map-append (λ (o : Offer). o.value) a b

-- ---- the controls of a name

offers_one : (t : Bool) (c : Control) (cs : List Control)
    → flat_map (λ (x : Control). x.offers) (if t then c ∷ cs else cs)
    ≡ (if t then c.offers ++ flat_map (λ (x : Control). x.offers) cs else flat_map (λ (x : Control). x.offers) cs)
offers_one true c cs = refl
offers_one false c cs = refl

pub offers_for-cons : (name : List ℕ) (c : Control) (cs : List Control)
    → offers_for name (c ∷ cs) ≡ (if same name c.name then c.offers ++ offers_for name cs else offers_for name cs)
offers_for-cons name c cs = offers_one (same name c.name) c (filter (λ (x : Control). same name x.name) cs)

chosen_first : (t : Bool) (a b : List Offer) → chosen (if t then a ++ b else b) ≡ (if t then chosen a else []) ++ chosen b
chosen_first true a b = chosen-append a b
chosen_first false a b = refl

pub chosen_for-cons : (name : List ℕ) (c : Control) (cs : List Control)
    → chosen (offers_for name (c ∷ cs)) ≡ (if same name c.name then chosen c.offers else []) ++ chosen (offers_for name cs)
chosen_for-cons name c cs = ap chosen (offers_for-cons name c cs) ∙ chosen_first (same name c.name) c.offers (offers_for name cs)

-- the first value that was chosen at a control, or else behind it
module _ (name : List ℕ) (cs : List Control) (i : ℕ) (c : Control) (is : c ≡ get_or cs i c) (within : i < length cs) where
  abbrev later : List (List ℕ)
  later = chosen (offers_for name (drop (i + 1) cs))

  at_first : slice_get (chosen (offers_for name (drop i cs))) 0 ≡ option_or (slice_get (if same name c.name then chosen c.offers else []) 0) (slice_get later 0)
  at_first =
      let rest = drop (i + 1) cs in
      ap (λ l. slice_get (chosen (offers_for name l)) 0) (drop_more cs i c within ∙ ap (λ x. x ∷ rest) (sym is))
      ∙ ap (λ l. slice_get l 0) (chosen_for-cons name c rest) ∙ first-append (if same name c.name then chosen c.offers else []) later

  pub chosen_here : (v : List ℕ) → slice_get (if same name c.name then chosen c.offers else []) 0 ≡ Some v
      → slice_get (chosen (offers_for name (drop i cs))) 0 ≡ Some v
  chosen_here v e = at_first ∙ ap (λ o. option_or o (slice_get later 0)) e

  pub chosen_later : slice_get (if same name c.name then chosen c.offers else []) 0 ≡ None
      → slice_get later 0 ≡ slice_get (chosen (offers_for name (drop i cs))) 0
  chosen_later e = sym (at_first ∙ ap (λ o. option_or o (slice_get later 0)) e)

-- a control alone
pub own_offers : (c : Control) → offers_for c.name (c ∷ []) ≡ c.offers
own_offers c =
    offers_for-cons c.name c [] ∙ ap (λ (t : Bool). if t then c.offers ++ [] else []) (same_self c.name) ∙ append-nil c.offers

-- ---- the values of a name

values_one : (t : Bool) (p : List ℕ × List ℕ) (ps : List (List ℕ × List ℕ))
    → map (λ (x : List ℕ × List ℕ). x.1) (if t then p ∷ ps else ps)
    ≡ (if t then p.1 ∷ map (λ (x : List ℕ × List ℕ). x.1) ps else map (λ (x : List ℕ × List ℕ). x.1) ps)
values_one true p ps = refl
values_one false p ps = refl

pub values_of-cons : (name : List ℕ) (p : List ℕ × List ℕ) (ps : List (List ℕ × List ℕ))
    → values_of name (p ∷ ps) ≡ (if same name p.0 then p.1 ∷ values_of name ps else values_of name ps)
values_of-cons name p ps = values_one (same name p.0) p (filter (λ (x : List ℕ × List ℕ). same name x.0) ps)

pub ruleset offer_steps = (append-nil, append_assoc, map-append, first-append, chosen-append, chosen-cons, offered-append, offers_for-cons, values_of-cons)

pub ruleset own_steps = (own_offers)

pub ruleset pair_steps = (append-nil, append_assoc)
