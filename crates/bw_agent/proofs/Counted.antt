-- How often a field is sent.
use Rattle.std.proofs.Common.{◌≡◌, ◌+◌, ℕ, Bool, true, false, cond, List, [], ◌∷◌, ◌++◌, map, length, refl, ap, sym, ◌∙◌, length-append, Option, Some}
use Rattle.std.proofs.Common.{None}
use Rattle.std.specs.Prelude.{if◌then◌else◌, not, ◌||◌, ◌&&◌}
use Rattle.std.specs.List.{list_any}
use Rattle.std.proofs.lemmas.List.{map-append}
use Rattle.std.proofs.lemmas.List.Sums.{sum_by-cons}
use Rattle.bw_lang.specs.declared.controls.FieldKind.{FieldKind}
use Rattle.bw_lang.specs.declared.controls.FieldKind.TheVariants.{Single, Choice, Many}
use Rattle.bw_lang.specs.Document.Forest.{Forest, none, text, gap, element}
use Rattle.bw_lang.specs.Service.Submissions.{values_of}
use Rattle.bw_lang.specs.Table.Names.{same, with_name}
use Rattle.bw_lang.specs.Template.Controls as template
use Rattle.bw_lang.proofs.SameNames.{same_is, same_sym}
use Rattle.bw_meaning.specs.States.{Form}
use Rattle.bw_agent.specs.declared.control.Control.{Control}
use Rattle.bw_agent.specs.declared.control.Offer.{Offer}
use Rattle.bw_agent.specs.Controls.{named_control, control_of, controls, offers_of}
use Rattle.bw_agent.specs.Filled.{offers_for, values_at, pairs_of, pairs_at, pairs_from, filled}
use Rattle.bw_agent.specs.Laws.{ControlsAreFields, SingleIsSent, ChoiceIsSent, field_of, is_single, is_choice, kinds_pass, count_of}
use Rattle.bw_agent.proofs.Offered.{values_of-cons, more}
use Rattle.bw_agent.proofs.Tables.{known_behind}

-- ---- the controls are those of the fields

named_field : (name : Option (List ℕ)) (kind : Option FieldKind) (offers : List Offer)
    → map field_of (named_control name kind offers) ≡ template.named_kind name kind
named_field None kind offers = refl
named_field (Some n) None offers = refl
named_field (Some n) (Some k) offers = refl

pub controls_are_fields : ControlsAreFields
controls_are_fields none = refl
controls_are_fields (text s rest) = controls_are_fields rest
controls_are_fields (gap g rest) = controls_are_fields rest
controls_are_fields (element tag attrs inner rest) =
    let own = control_of tag attrs inner in
    map-append field_of own (controls inner ++ controls rest)
    ∙ ap (λ l. map field_of own ++ l) (map-append field_of (controls inner) (controls rest))
    ∙ (λ i. named_field (template.control_name tag attrs) (template.field_kind tag attrs) (offers_of tag attrs inner) i
    ++ (controls_are_fields inner i ++ controls_are_fields rest i))

-- ---- the values of a name

values_of-append : (name : List ℕ) (a b : Form) → values_of name (a ++ b) ≡ values_of name a ++ values_of name b
values_of-append name [] b = refl
values_of-append name (p ∷ a) b =
    values_of-cons name p (a ++ b)
    ∙ more (same name p.0) p.1 (values_of name (a ++ b)) (values_of name a) (values_of name b) (values_of-append name a b)
    ∙ ap (λ l. l ++ values_of name b) (sym (values_of-cons name p a))

-- values under one name are all of that name, and none of another
values_named : (name n : List ℕ) (vs : List (List ℕ)) → values_of name (pairs_of n vs) ≡ (if same n name then vs else [])
values_named name n [] = by_test (same n name)
  where
    by_test : (t : Bool) → values_of name [] ≡ (if t then [] else [])
    by_test true = refl
    by_test false = refl
values_named name n (v ∷ vs) =
    values_of-cons name (n, v) (pairs_of n vs)
    ∙ ap (λ (t : Bool). if t then v ∷ values_of name (pairs_of n vs) else values_of name (pairs_of n vs)) (same_sym name n)
    ∙ by_test (same n name) (values_of name (pairs_of n vs)) (values_named name n vs)
  where
    by_test : (t : Bool) (xs : List (List ℕ)) → xs ≡ (if t then vs else []) → (if t then v ∷ xs else xs) ≡ (if t then v ∷ vs else [])
    by_test true xs e = ap (λ l. v ∷ l) e
    by_test false xs e = e

-- ---- how many values of a name are sent

abbrev sent : List ℕ → Form → List Control → List (List ℕ) → List Control → ℕ
sent name answers all seen cs = length (values_of name (pairs_from answers all seen cs))

abbrev values_here : Form → List Control → List (List ℕ) → Control → List (List ℕ)
values_here answers all seen c =
    values_at c.kind (not (list_any (same c.name) seen)) (values_of c.name answers) c.offers (offers_for c.name all)

sent_more : (name : List ℕ) (answers : Form) (all : List Control) (seen : List (List ℕ)) (c : Control) (cs : List Control)
    → sent name answers all seen (c ∷ cs)
    ≡ length (if same c.name name then values_here answers all seen c else []) + sent name answers all (with_name seen c.name) cs
sent_more name answers all seen c cs =
    let here = pairs_at answers all (not (list_any (same c.name) seen)) c in
    let rest = pairs_from answers all (with_name seen c.name) cs in
    ap length (values_of-append name here rest)
    ∙ length-append (values_of name here) (values_of name rest)
    ∙ ap (λ l. length l + sent name answers all (with_name seen c.name) cs) (values_named name c.name (values_here answers all seen c))

both : (a b : Bool) → (a && b) ≡ true → (a ≡ true) × (b ≡ true)
both true b h = (refl, h)
both false b h = absurd cc

-- ---- one value of each control

single_here : (t : Bool) (k : FieldKind) (first : Bool) (given : List (List ℕ)) (own together : List Offer) → (not t || is_single k) ≡ true
    → length (if t then values_at k first given own together else []) ≡ cond t 1 0
single_here true Single first given own together h = refl
single_here true Choice first given own together h = absurd cc
single_here true Many first given own together h = absurd cc
single_here false k first given own together h = refl

single_from : (name : List ℕ) (answers : Form) (all : List Control) (seen : List (List ℕ)) (cs : List Control)
    → kinds_pass is_single name (map field_of cs) ≡ true → sent name answers all seen cs ≡ count_of name (map field_of cs)
single_from name answers all seen [] h = refl
single_from name answers all seen (c ∷ cs) h =
    let passes = both (not (same c.name name) || is_single c.kind) (kinds_pass is_single name (map field_of cs)) h in
    let here = single_here (same c.name name) c.kind (not (list_any (same c.name) seen)) (values_of c.name answers) c.offers (offers_for c.name all) passes.0 in
    let later = single_from name answers all (with_name seen c.name) cs passes.1 in
    sent_more name answers all seen c cs ∙ (λ i. here i + later i)
    ∙ sym (sum_by-cons (λ (f : List ℕ × FieldKind). cond (same f.0 name) 1 0) (field_of c) (map field_of cs))

pub single_is_sent : SingleIsSent
single_is_sent d name answers h =
    let e = controls_are_fields d in
    single_from name answers (controls d) [] (controls d) (ap (kinds_pass is_single name) e ∙ h) ∙ ap (count_of name) e

-- ---- one value of all controls

choice_here : (t : Bool) (k : FieldKind) (first : Bool) (given : List (List ℕ)) (own together : List Offer) → (not t || is_choice k) ≡ true
    → length (if t then values_at k first given own together else []) ≡ cond (t && first) 1 0
choice_here true Choice true given own together h = refl
choice_here true Choice false given own together h = refl
choice_here true Single first given own together h = absurd cc
choice_here true Many first given own together h = absurd cc
choice_here false k first given own together h = refl

-- what is due of a name: nothing behind a control of it, and otherwise one where a control of it comes
abbrev due : (is_seen : Bool) → (is_there : Bool) → ℕ
due is_seen is_there = cond is_seen 0 (cond is_there 1 0)

tally : (s t r : Bool) → cond (t && not s) 1 0 + due (s || t) r ≡ due s (t || r)
tally true true r = refl
tally true false r = refl
tally false true r = refl
tally false false true = refl
tally false false false = refl

-- a control of the name is the first of it where the name wasn't seen
first_of_name : (name n : List ℕ) (seen : List (List ℕ)) (t : Bool) → same n name ≡ t
    → (t && not (list_any (same n) seen)) ≡ (t && not (list_any (same name) seen))
first_of_name name n seen true e = ap (λ x. not (list_any (same x) seen)) (same_is n name e)
first_of_name name n seen false e = refl

abbrev comes : List ℕ → List (List ℕ × FieldKind) → Bool
comes name fields = list_any (λ (f : List ℕ × FieldKind). same f.0 name) fields

choice_from : (name : List ℕ) (answers : Form) (all : List Control) (seen : List (List ℕ)) (cs : List Control)
    → kinds_pass is_choice name (map field_of cs) ≡ true
    → sent name answers all seen cs ≡ due (list_any (same name) seen) (comes name (map field_of cs))
choice_from name answers all seen [] h = none_due (list_any (same name) seen)
  where
    none_due : (s : Bool) → 0 ≡ due s false
    none_due true = refl
    none_due false = refl
choice_from name answers all seen (c ∷ cs) h =
    let t = same c.name name in
    let passes = both (not t || is_choice c.kind) (kinds_pass is_choice name (map field_of cs)) h in
    let here = choice_here t c.kind (not (list_any (same c.name) seen)) (values_of c.name answers) c.offers (offers_for c.name all) passes.0
    ∙ ap (λ b. cond b 1 0) (first_of_name name c.name seen t refl) in
    let later = choice_from name answers all (with_name seen c.name) cs passes.1
    ∙ ap (λ b. due b (comes name (map field_of cs)))
    (known_behind name c.name seen ∙ ap (λ b. list_any (same name) seen || b) (same_sym name c.name)) in
    sent_more name answers all seen c cs ∙ (λ i. here i + later i) ∙ tally (list_any (same name) seen) t (comes name (map field_of cs))

pub choice_is_sent : ChoiceIsSent
choice_is_sent d name answers h there =
    let e = controls_are_fields d in
    choice_from name answers (controls d) [] (controls d) (ap (kinds_pass is_choice name) e ∙ h)
    ∙ ap (λ b. cond b 1 0) (ap (comes name) e ∙ there)
