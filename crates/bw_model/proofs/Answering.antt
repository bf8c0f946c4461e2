-- The step with formats is what comes of answers with formats.
use Rattle.std.proofs.Common.{◌≡◌, ◌↔◌, inl, inr, ℕ, Bool, true, false, List, [], ◌∷◌, chars, Option, Some, None, refl, sym, ap, ◌∙◌, IsTrue}
use Rattle.std.specs.Prelude.{◌==◌, ◌&&◌, not, cond, if◌then◌else◌}
use Rattle.std.specs.List.{All, list_all}
use Rattle.std.proofs.lemmas.List.Elements.{All-nil, All-cons, All-head, All-tail}
use Rattle.bw_format.specs.declared.format.Format.{Format}
use Rattle.bw_format.specs.Formats.{Accepts}
use Rattle.bw_model.specs.Guards.{FirstOutside, stored_by, stored_on, stored, guarded_by}
use Rattle.bw_model.proofs.Deciding.{accepts_or_not}
use Rattle.bw_http.specs.declared.request.Method.{Method}
use Rattle.bw_http.specs.declared.request.Method.TheVariants.{Get, Post, Other}
use Rattle.bw_http.specs.declared.request.Path.{Path}
use Rattle.bw_http.specs.declared.request.Path.TheVariants as paths
use Rattle.bw_lang.specs.declared.service.Service.{Service}
use Rattle.bw_lang.specs.Service.Submissions.{values_of}
use Rattle.bw_meaning.specs.States.{Form}
use Rattle.bw_model.specs.Answers.{Answered, Said, answered}
use Rattle.bw_model.specs.Sessions.{Live, World, current}
use Rattle.bw_model.specs.Steps as model
use Rattle.bw_model.specs.FormatAnswers.{first_outside, stored_said, unless_outside, guarded_answer}
use Rattle.bw_model.specs.FormatLaws.{Decides, FormatsAreAnswered, SomeDecides}
use Rattle.bw_model.specs.Steps.{visits, asks_by, on_path_by, taken_out}

-- ---- what decides formats

module _ (formats : List Format) (inside : List ℕ → List ℕ → Bool) (decides : Decides formats inside) (form : Form) where
  abbrev InFormat : List ℕ → List ℕ → Type 0
  InFormat field value = Accepts formats field (chars value)

  all_is : (field : List ℕ) (values : List (List ℕ)) (b : Bool) → list_all (inside field) values ≡ b
      → (IsTrue b → All (InFormat field) values) × ((b ≡ false) → All (InFormat field) values → ⊥)
  all_is field [] b e = (λ t. All-nil (InFormat field), λ f. (let k : true ≡ false = e ∙ f in cc))
  all_is field (v ∷ values) b e = by (inside field v) refl (all_is field values (list_all (inside field) values) refl)
    where
      by : (c : Bool) → inside field v ≡ c
          → (IsTrue (list_all (inside field) values) → All (InFormat field) values) × ((list_all (inside field) values ≡ false) → All (InFormat field) values → ⊥)
          → (IsTrue b → All (InFormat field) (v ∷ values)) × ((b ≡ false) → All (InFormat field) (v ∷ values) → ⊥)
      by true i later =
          let same : list_all (inside field) values ≡ b = sym (ap (λ c. c && list_all (inside field) values) i) ∙ e in
          let here : InFormat field v = (decides field v).0 i in
          (λ t. All-cons (InFormat field) v values here (later.0 (same ∙ t)), λ f all. later.1 (same ∙ f) (All-tail (InFormat field) v values all))
      by false i later =
          let same : false ≡ b = sym (ap (λ c. c && list_all (inside field) values) i) ∙ e in (
            λ t. absurd (let k : false ≡ true = same ∙ t in cc),
            λ f all. (let k : true ≡ false = sym ((decides field v).1 (All-head (InFormat field) v values all)) ∙ i in cc),
          )

  pub outside_is : (fields : List (List ℕ)) → FirstOutside formats form fields (first_outside inside form fields)
  outside_is [] = refl
  outside_is (field ∷ fields) = by (list_all (inside field) (values_of field form)) refl (outside_is fields)
    where
      by : (b : Bool) → list_all (inside field) (values_of field form) ≡ b → FirstOutside formats form fields (first_outside inside form fields)
          → FirstOutside formats form (field ∷ fields) (cond (not b) (Some field) (first_outside inside form fields))
      by true e later = inl ((all_is field (values_of field form) true e).0 refl, later)
      by false e later = inr ((all_is field (values_of field form) false e).1 refl, refl)

-- ---- a step

module _ (inside : List ℕ → List ℕ → Bool) (service : Service) (w : World) (form : Form) where
  abbrev outside : List (List ℕ) → Option (List ℕ)
  outside fields = first_outside inside form fields

  -- the answer is turned away, and so is the step
  away_is : (l : Live) (others : List Live) (a : Answered) (o : Option (List ℕ))
      → visits service w l others (unless_outside service a o) ≡ guarded_by service w (visits service w l others a) o
  away_is l others a None = refl
  away_is l others a (Some field) = refl

  post_is : (turn : ℕ) (o : Option (Live × List Live)) → asks_by (guarded_answer inside service) service w Post form turn o
      ≡ guarded_by service w (model.asks service w Post form turn o) (outside (stored_by service w.first turn form o))
  post_is turn None = refl
  post_is turn (Some found) =
      let said : Said = record { method = Post; form = form; turn = turn; shared = w.shared } in
      away_is found.0 found.1 (answered service w.first found.0.talk said) (outside (stored_said service w.first found.0.talk said))

  none_stored : (b : Bool) → outside (if b then [] else []) ≡ None
  none_stored true = refl
  none_stored false = refl

  get_is : (turn : ℕ) (o : Option (Live × List Live)) → asks_by (guarded_answer inside service) service w Get form turn o ≡ model.asks service w Get form turn o
  get_is turn None = refl
  get_is turn (Some found) =
      let said : Said = record { method = Get; form = form; turn = turn; shared = w.shared } in
      ap (λ o. visits service w found.0 found.1 (unless_outside service (answered service w.first found.0.talk said) o))
      (none_stored (turn == current w.first found.0.talk))

  path_is : (method : Method) (key : ℕ) (path : Path) → on_path_by (guarded_answer inside service) service w method form key path
      ≡ guarded_by service w (model.on_path service w method form key path) (outside (stored_on service w method form path))
  path_is Get key paths.Other = refl
  path_is Post key paths.Other = refl
  path_is Other key paths.Other = refl
  path_is Get key paths.Index = refl
  path_is Post key paths.Index = refl
  path_is Other key paths.Index = refl
  path_is Get key (paths.Start name) = refl
  path_is Post key (paths.Start name) = refl
  path_is Other key (paths.Start name) = refl
  path_is Get key (paths.Turn number k turn) = get_is turn (taken_out number k w.live)
  path_is Post key (paths.Turn number k turn) = post_is turn (taken_out number k w.live)
  path_is Other key (paths.Turn number k turn) = refl

pub formats_are_answered : FormatsAreAnswered
formats_are_answered formats inside service w request key decides = record {
  first = first_outside inside request.form (stored service w request);
  is_first = outside_is formats inside decides request.form (stored service w request);
  is_step = path_is inside service w request.form request.method key request.path;
}

-- ---- something decides them

pub some_decides : SomeDecides
some_decides formats = (λ field value. (one field value).0, λ field value. (one field value).1)
  where
    one : (field value : List ℕ) → (b : Bool) × (IsTrue b ↔ Accepts formats field (chars value))
    one field value = elim (accepts_or_not formats [] field (chars value)) [
      | inl h ↦ (true, (λ t. h, λ a. refl))
      | inr h ↦ (false, (λ t. (let k : false ≡ true = t in cc), λ a. absurd (h a)))
    ]
