-- What a user sends who fills in a form (HTML 4.01, section 17.13). An answer is a name with a value for it. A field that
-- takes one value is always sent, also where the value is empty.
use Rattle.std.specs.Prelude.{ℕ, Bool, true, false, not, if◌then◌else◌, List, [], ◌∷◌, ◌++◌, map, filter, flat_map, slice_get, unwrap_or, Option}
use Rattle.std.specs.Prelude.{Some, None}
use Rattle.std.specs.List.{list_any}
use Rattle.bw_lang.specs.declared.controls.FieldKind.{FieldKind}
use Rattle.bw_lang.specs.declared.controls.FieldKind.TheVariants.{Single, Choice, Many}
use Rattle.bw_lang.specs.Service.Submissions.{values_of}
use Rattle.bw_lang.specs.Table.Names.{same, with_name}
use Rattle.bw_meaning.specs.States.{Form}
use Rattle.form_urlencoded.specs.Form.{extend_pairs}
use Rattle.bw_agent.specs.declared.control.Control.{Control}
use Rattle.bw_agent.specs.declared.control.Offer.{Offer}

-- the values that may be sent
abbrev pub offered : List Offer → List (List ℕ)
offered offers = map (λ o. o.value) offers

-- those of them that the page chose: of checked boxes and buttons, of selected options, of text areas
abbrev pub chosen : List Offer → List (List ℕ)
chosen offers = offered (filter (λ o. o.chosen) offers)

-- one value: the first answer, else the first that the page chose, else the first that may be sent, else the empty text
abbrev pub one_of : List (List ℕ) → List Offer → List ℕ
one_of given offers = unwrap_or (slice_get (given ++ (chosen offers ++ offered offers)) 0) []

-- any number of values: all answers, or where there is none those that the page chose
abbrev pub many_of : List (List ℕ) → List Offer → List (List ℕ)
many_of [] offers = chosen offers
many_of (v ∷ given) offers = v ∷ given

-- what the controls of a name may send, together
abbrev pub offers_for : List ℕ → List Control → List Offer
offers_for name controls = flat_map (λ c. c.offers) (filter (λ c. same name c.name) controls)

-- The values that are sent at a control: one of its own; or at the first control of a name, and at no later one, one or
-- any number for all controls of that name.
abbrev pub values_at : FieldKind → (is_first : Bool) → (given : List (List ℕ)) → (own : List Offer) → (together : List Offer) → List (List ℕ)
values_at Single is_first given own together = one_of given own ∷ []
values_at Choice true given own together = one_of given together ∷ []
values_at Choice false given own together = []
values_at Many true given own together = many_of given together
values_at Many false given own together = []

-- values under one name
abbrev pub pairs_of : List ℕ → List (List ℕ) → Form
pairs_of name values = map (λ v. (name, v)) values

-- the pairs that are sent at a control of the form, by the answers
abbrev pub pairs_at : Form → List Control → (is_first : Bool) → Control → Form
pairs_at answers controls is_first c =
    pairs_of c.name (values_at c.kind is_first (values_of c.name answers) c.offers (offers_for c.name controls))

-- those that are sent at further controls of it, behind controls of these names
abbrev pub pairs_from : Form → List Control → (seen : List (List ℕ)) → List Control → Form
pairs_from answers controls seen [] = []
pairs_from answers controls seen (c ∷ rest) =
    pairs_at answers controls (not (list_any (same c.name) seen)) c ++ pairs_from answers controls (with_name seen c.name) rest

-- what is sent by a form with these controls
abbrev pub filled : List Control → Form → Form
filled controls answers = pairs_from answers controls [] controls

-- the body that sends it
abbrev pub body_of : Form → List ℕ
body_of pairs = extend_pairs [] pairs

-- the first name among the answers that is none of these
abbrev pub unknown : List (List ℕ) → Form → Option (List ℕ)
unknown names [] = None
unknown names (answer ∷ answers) = if list_any (same answer.0) names then unknown names answers else Some answer.0
