-- Values stay of the kinds of their variables.
use Rattle.std.proofs.Common.{◌≡◌, ◌⊎◌, ℕ, zero, suc, Bool, true, false, cond, List, [], ◌∷◌, ◌++◌, map, take, length, Option, Some, None, refl, sym}
use Rattle.std.proofs.Common.{ap, ◌∙◌, inl, inr}
use Rattle.std.specs.Prelude.{if◌then◌else◌, is_some, find}
use Rattle.std.specs.List.{All}
use Rattle.std.specs.Option.{option_map, option_or}
use Rattle.std.proofs.lemmas.List.{map-append, length-map}
use Rattle.std.proofs.lemmas.List.Elements.{All-head, All-tail}
use Rattle.std.proofs.Math.Seq.{take-append_seam}
use Rattle.bw_lang.specs.declared.service.Service.{Service}
use Rattle.bw_lang.specs.declared.stmt.Kind.{Kind}
use Rattle.bw_lang.specs.declared.stmt.Kind.TheVariants as kinds
use Rattle.bw_lang.specs.Table.Names.{same, beside}
use Rattle.bw_lang.specs.Service.Submissions.{values_of}
use Rattle.bw_types.specs.Scopes.{shared_kind}
use Rattle.bw_flow.specs.declared.point.Local.{Local}
use Rattle.bw_flow.specs.declared.point.Received.{Received}
use Rattle.bw_flow.specs.Scoped.{is_known}
use Rattle.bw_flow.specs.TypedFlow.{names_at, kind_at, IsTypedReceive}
use Rattle.bw_flow.proofs.Names.{kind_in_is}
use Rattle.bw_meaning.specs.Forms.{received_value}
use Rattle.bw_meaning.specs.States.{Form, Input, State, budget}
use Rattle.bw_meaning.specs.Statements.{store, variable, received, taken}
use Rattle.bw_meaning.specs.Values.{Value, Values, number, truth_value, text, document, list, replaced}
use Rattle.bw_run.specs.Follow.Kinds.{kind_of, kinds_of, kinds_in, AreShared, InputsHaveKinds}
use Rattle.bw_run.specs.Follow.Runs.{plain}
use Rattle.bw_run.proofs.Follow.ValueKinds.{beside_kinds, variable_has}

-- ---- lists of names and kinds

-- storing a value of the kind that the name has changes no kind
pub kinds_replaced : (w : List ℕ) (v : Value) (xs : Values) → ((k : Kind) → beside w (kinds_of xs) ≡ Some k → kind_of v ≡ k) →
    kinds_of (replaced w v xs) ≡ kinds_of xs
kinds_replaced w v [] h = refl
kinds_replaced w v (x ∷ xs) h = by_test (same w x.0) h (kinds_replaced w v xs)
  where
    by_test : (b : Bool) → ((k : Kind) →
        option_map (λ (p : List ℕ × Kind). p.1) (cond b (Some (x.0, kind_of x.1)) (find (λ p. same w p.0) (kinds_of xs))) ≡ Some k → kind_of v ≡ k)
        → (((k : Kind) → beside w (kinds_of xs) ≡ Some k → kind_of v ≡ k) → kinds_of (replaced w v xs) ≡ kinds_of xs)
        → kinds_of (if b then (x.0, v) ∷ xs else x ∷ replaced w v xs) ≡ kinds_of (x ∷ xs)
    by_test true h ih = ap (λ k. (x.0, k) ∷ kinds_of xs) (h (kind_of x.1) refl)
    by_test false h ih = ap (λ l. (x.0, kind_of x.1) ∷ l) (ih h)

kinds_take : (n : ℕ) (xs : Values) → kinds_of (take n xs) ≡ take n (kinds_of xs)
kinds_take zero xs = refl
kinds_take (suc n) [] = refl
kinds_take (suc n) (x ∷ xs) = ap (λ l. (x.0, kind_of x.1) ∷ l) (kinds_take n xs)

-- the first of these locals, by their names and kinds
pub first_kinds : (l : Values) (scope gone : List Local) → kinds_of l ≡ kinds_in (scope ++ gone) → kinds_of (take (length scope) l) ≡ kinds_in scope
first_kinds l scope gone e =
    kinds_take (length scope) l ∙ ap (take (length scope)) (e ∙ map-append (λ (x : Local). (x.name, x.kind)) scope gone)
    ∙ ap (λ n. take n (kinds_in scope ++ kinds_in gone)) (sym (length-map scope (λ (x : Local). (x.name, x.kind))))
    ∙ take-append_seam (kinds_in scope) (kinds_in gone)

same_kind : (o : Option Kind) (a b : Kind) → o ≡ Some a → o ≡ Some b → a ≡ b
same_kind o a b x y = let e : Some a ≡ Some b = sym x ∙ y in cc

pub known_kind : (service : Service) (sc : List Local) (w : List ℕ) → is_known service sc w ≡ is_some (kind_at service sc w)
known_kind service sc w = ap (λ o. is_some (option_or o (shared_kind service w))) (sym (kind_in_is sc w))

-- where no local has the name, the variable is the shared one
or_none : {A : Type 0} (a b : Option A) (x : A) → option_or a b ≡ Some x → is_some a ≡ false → b ≡ Some x
or_none None b x e n = e
or_none (Some y) b x e n = cc

or_first : {A : Type 0} (a b : Option A) (x : A) → a ≡ Some x → option_or a b ≡ Some x
or_first a b x e = ap (λ o. option_or o b) e

none_mapped : {A B : Type 0} (f : A → B) (o : Option A) → is_some o ≡ false → is_some (option_map f o) ≡ false
none_mapped f None e = refl
none_mapped f (Some x) e = cc

-- ---- storing

-- the kinds that a state has at a point
pub record Fits (service : Service) (scope : List Local) (st : State) : Type 0 where
  pub locals : kinds_of st.locals ≡ kinds_in scope
  pub shared : AreShared service st.shared
  pub inputs : InputsHaveKinds service st.inputs

pub fits_store : (service : Service) (scope : List Local) (w : List ℕ) (v : Value) (k : Kind) (st : State) → kind_at service scope w ≡ Some k →
    kind_of v ≡ k → Fits service scope st → Fits service scope (store w v st)
fits_store service scope w v k st at ev f = record {
  locals = kinds_replaced w v st.locals (λ j e. ev
      ∙ same_kind (kind_at service scope w) k j at (or_first (beside w (kinds_in scope)) (shared_kind service w) j (ap (beside w) (sym f.locals)
      ∙ e))) ∙ f.locals;
  shared = by_test (is_some (beside w st.locals)) refl;
  inputs = f.inputs;
}
  where
    by_test : (b : Bool) → is_some (beside w st.locals) ≡ b → AreShared service (if b then st.shared else replaced w v st.shared)
    by_test true e = f.shared
    by_test false e =
        let none : is_some (beside w (kinds_in scope)) ≡ false = ap (λ l. is_some (beside w l)) (sym f.locals)
        ∙ ap is_some (beside_kinds w st.locals) ∙ none_mapped kind_of (beside w st.locals) e in
        let sk = or_none (beside w (kinds_in scope)) (shared_kind service w) k at none in
        kinds_replaced w v st.shared (λ j h. ev ∙ same_kind (shared_kind service w) k j sk (ap (beside w) (sym f.shared) ∙ h)) ∙ f.shared

received_has : (old : Option Value) (k : Kind) (vs : List (List ℕ)) → option_map kind_of old ≡ Some k → (k ≡ kinds.Str) ⊎ (k ≡ kinds.Strs) →
    kind_of (received_value old vs) ≡ k
received_has None k vs e t = cc
received_has (Some (list l)) k vs e t = cc
received_has (Some (text s)) k vs e t = cc
received_has (Some (number n)) k vs e (inl t) = absurd (let f : kinds.Int ≡ kinds.Str = (let g : kinds.Int ≡ k = cc in g) ∙ t in cc)
received_has (Some (number n)) k vs e (inr t) = absurd (let f : kinds.Int ≡ kinds.Strs = (let g : kinds.Int ≡ k = cc in g) ∙ t in cc)
received_has (Some (truth_value b)) k vs e (inl t) = absurd (let f : kinds.Bool ≡ kinds.Str = (let g : kinds.Bool ≡ k = cc in g) ∙ t in cc)
received_has (Some (truth_value b)) k vs e (inr t) = absurd (let f : kinds.Bool ≡ kinds.Strs = (let g : kinds.Bool ≡ k = cc in g) ∙ t in cc)
received_has (Some (document d)) k vs e (inl t) = absurd (let f : kinds.Html ≡ kinds.Str = (let g : kinds.Html ≡ k = cc in g) ∙ t in cc)
received_has (Some (document d)) k vs e (inr t) = absurd (let f : kinds.Html ≡ kinds.Strs = (let g : kinds.Html ≡ k = cc in g) ∙ t in cc)

fits_received : (service : Service) (scope : List Local) (rs : List Received) (form : Form) (st : State) → All (IsTypedReceive service scope) rs →
    Fits service scope st → Fits service scope (received (map plain rs) form st)
fits_received service scope [] form st t f = f
fits_received service scope (r ∷ rs) form st t f =
    let h = All-head (IsTypedReceive service scope) r rs t in
    let v = received_value (variable r.target st) (values_of r.field form) in
    let has = variable_has service (names_at scope) st.locals st.shared r.target f.locals f.shared in
    fits_received service scope rs form (store r.target v st) (All-tail (IsTypedReceive service scope) r rs t)
    (fits_store service scope r.target v r.kind st h.0 (received_has (variable r.target st) r.kind (values_of r.field form) (has ∙ h.0) h.1) f)

pub fits_taken : (service : Service) (scope : List Local) (rs : List Received) (l : Values) (i : Input) (later : List Input) →
    All (IsTypedReceive service scope) rs → kinds_of l ≡ kinds_in scope → AreShared service i.shared →
    InputsHaveKinds service later → Fits service scope (taken (map plain rs) l i later)
fits_taken service scope rs l i later t el es ei = fits_received service scope rs i.form (record {
  locals = l;
  shared = i.shared;
  units = budget;
  inputs = later;
}) t (record { locals = el; shared = es; inputs = ei })
