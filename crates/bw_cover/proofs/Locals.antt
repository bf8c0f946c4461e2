-- What points leave in locals and shared variables is covered where they lead.
use Rattle.std.proofs.Common.{◌≡◌, ℕ, Bool, true, false, List, [], ◌∷◌, ◌++◌, Option, Some, None, refl, sym, ap, ◌∙◌, subst}
use Rattle.std.specs.Prelude.{if◌then◌else◌, option_map, is_some}
use Rattle.std.specs.List.{AllByRecursion}
use Rattle.std.specs.Option.{option_or}
use Rattle.std.proofs.lemmas.Bool.{false≢true}
use Rattle.bw_lang.specs.declared.service.Service.{Service}
use Rattle.bw_lang.specs.declared.stmt.Receive.{Receive}
use Rattle.bw_lang.specs.Table.Names.{same, beside}
use Rattle.bw_lang.specs.Service.Submissions.{values_of}
use Rattle.bw_meaning.specs.Forms.{received_value}
use Rattle.bw_meaning.specs.States.{Form, State}
use Rattle.bw_meaning.specs.Statements.{variable, store, received}
use Rattle.bw_meaning.specs.Values.{Value, Values, number, truth_value, text, document, list, replaced}
use Rattle.bw_cover.specs.Abstracts.{Abstract, Nothing, Strings, Html, covers, Below}
use Rattle.bw_cover.specs.Facts.{What, Facts, is_shared, received_by, receives_by, own, left, Leads}
use Rattle.bw_types.specs.Scopes.{is_among}
use Rattle.bw_cover.specs.Covered.{CoversLocals, CoversShared}
use Rattle.bw_cover.proofs.Names.{beside-replaced, beside-added, some-replaced}
use Rattle.bw_lang.proofs.SameNames.{same_is, same_sym}
use Rattle.bw_cover.proofs.Values.{covers_below}

pub none_some : {A : Type 0} (o : Option A) (v : A) → o ≡ None → o ≡ Some v → ⊥
none_some None v e h = cc
none_some (Some w) v e h = cc

some_same : {A : Type 0} (v w : A) → Some v ≡ Some w → v ≡ w
some_same v w e = cc

-- a local that is found has one of these abstract values, which covers it
abbrev pub Holds : Service → (List ℕ → Option Abstract) → Values → Type 0
Holds service cells l = (w : List ℕ) (v : Value) → beside w l ≡ Some v → (a : Abstract) × (cells w ≡ Some a) × covers service a v

module _ {K : Type 0} (service : Service) (f : Facts K) (p : K) (l : Values) (c : CoversLocals service f p l) where
  pub in_scope : (w : List ℕ) (v : Value) → beside w l ≡ Some v → is_among w (f.scope p) ≡ true
  in_scope w v e = sym (c.names w) ∙ ap is_some e

  own_there : (w : List ℕ) (b : Bool) → b ≡ true → (if b then Some (f.local p w) else None) ≡ Some (f.local p w)
  own_there w true e = refl
  own_there w false e = absurd (false≢true e)

  pub holds_own : Holds service (own f p) l
  holds_own w v e = (f.local p w, own_there w (is_among w (f.scope p)) (in_scope w v e), c.each w v e)

  -- a value of its own for w
  abbrev with_cell : List ℕ → Abstract → List ℕ → Option Abstract
  with_cell w a y = if same y w then Some a else own f p y

  cell_here : (w y : List ℕ) (a : Abstract) (v : Value) (b : Bool) → b ≡ true → covers service a v → (x : Abstract)
      × ((if b then Some a else own f p y) ≡ Some x) × covers service x v
  cell_here w y a v true e cv = (a, refl, cv)
  cell_here w y a v false e cv = absurd (false≢true e)

  cell_there : (w y : List ℕ) (a : Abstract) (v : Value) (b : Bool) → b ≡ false → ((x : Abstract) × (own f p y ≡ Some x) × covers service x v)
      → (x : Abstract) × ((if b then Some a else own f p y) ≡ Some x) × covers service x v
  cell_there w y a v true e h = absurd (false≢true (sym e))
  cell_there w y a v false e h = h

  module _ (w : List ℕ) (a : Abstract) (v : Value) (cv : covers service a v) where
    -- it is new
    pub holds_added : is_among w (f.scope p) ≡ false → Holds service (with_cell w a) (l ++ (w, v) ∷ [])
    holds_added fresh y u e = by_test (beside y l) (same y w) refl refl (sym (beside-added w v l y) ∙ e)
      where
        by_test : (o : Option Value) (b : Bool) → beside y l ≡ o → same y w ≡ b → option_or o (if b then Some v else None) ≡ Some u
            → (x : Abstract) × ((if same y w then Some a else own f p y) ≡ Some x) × covers service x u
        by_test None true i t h = cell_here w y a u (same y w) t (subst (covers service a) (some_same v u h) cv)
        by_test None false i t h = absurd (none_some None u refl h)
        by_test (Some x) true i t h = absurd (false≢true (sym fresh ∙ ap (λ z. is_among z (f.scope p)) (sym (same_is y w t)) ∙ in_scope y x i))
        by_test (Some x) false i t h = cell_there w y a u (same y w) t (holds_own y u (i ∙ h))

    -- it is stored in place of an old one
    pub holds_replaced : Holds service (with_cell w a) (replaced w v l)
    holds_replaced y u e = by_test (same w y) (beside y l) refl refl (sym (beside-replaced w v l y) ∙ e)
      where
        by_test : (b : Bool) (o : Option Value) → same w y ≡ b → beside y l ≡ o → (if b then option_map (λ (z : Value). v) o else o) ≡ Some u
            → (x : Abstract) × ((if same y w then Some a else own f p y) ≡ Some x) × covers service x u
        by_test true None t i h = absurd (none_some None u refl h)
        by_test true (Some x) t i h = cell_here w y a u (same y w) (same_sym y w ∙ t) (subst (covers service a) (some_same v u h) cv)
        by_test false o t i h = cell_there w y a u (same y w) (same_sym y w ∙ t) (holds_own y u (i ∙ h))

    -- no local has the name
    pub holds_absent : beside w l ≡ None → Holds service (with_cell w a) l
    holds_absent n y u e = by_test (same y w) refl
      where
        by_test : (b : Bool) → same y w ≡ b → (x : Abstract) × ((if same y w then Some a else own f p y) ≡ Some x) × covers service x u
        by_test true t = absurd (none_some (beside y l) u (ap (λ z. beside z l) (same_is y w t) ∙ n) e)
        by_test false t = cell_there w y a u (same y w) t (holds_own y u e)

  -- what is left is covered where the point leads
  pub leads_covered : (q : K) (what : What) (m : Values) → Leads service f p what q → Holds service (left service f p what) m
      → (w : List ℕ) (v : Value) → is_among w (f.scope q) ≡ true → beside w m ≡ Some v → covers service (f.local q w) v
  leads_covered q what m h k w v i e = let r = k w v e in covers_below service r.0 (f.local q w) v (h.locals w r.0 i r.1) r.2

-- ---- shared variables

module _ {K : Type 0} (service : Service) (f : Facts K) where
  -- a value that is stored
  pub shared_stored : (s : Values) (w : List ℕ) (v : Value) → CoversShared service f s → ((u : Value) → beside w s ≡ Some u → covers service (f.shared w) v)
      → CoversShared service f (replaced w v s)
  shared_stored s w v c h = record {
    names = λ y. some-replaced w v s y ∙ c.names y;
    each = λ y u e. by_test y u (same w y) (beside y s) refl refl (sym (beside-replaced w v s y) ∙ e);
  }
    where
      by_test : (y : List ℕ) (u : Value) (b : Bool) (o : Option Value) → same w y ≡ b → beside y s ≡ o
          → (if b then option_map (λ (z : Value). v) o else o) ≡ Some u → covers service (f.shared y) u
      by_test y u true None t i e = absurd (none_some None u refl e)
      by_test y u true (Some x) t i e =
          let j = same_is w y t in
          subst (λ z. covers service (f.shared z) u) j (subst (covers service (f.shared w)) (some_same v u e) (h x (ap (λ z. beside z s) j ∙ i)))
      by_test y u false o t i e = c.each y u (i ∙ e)

  pub is_there : (s : Values) (w : List ℕ) (u : Value) → CoversShared service f s → beside w s ≡ Some u → is_shared service w ≡ true
  is_there s w u c e = sym (c.names w) ∙ ap is_some e

-- ---- received fields

received_good : (service : Service) (a : Abstract) (old : Value) (values : List (List ℕ)) → covers service a old
    → covers service (received_by a) (received_value (Some old) values)
received_good service Nothing old values c = tt
received_good service (Strings S) (number n) values c = absurd c
received_good service (Strings S) (truth_value b) values c = absurd c
received_good service (Strings S) (text s) values c = refl
received_good service (Strings S) (document d) values c = absurd c
received_good service (Strings S) (list s) values c = absurd c
received_good service (Html G) (number n) values c = absurd c
received_good service (Html G) (truth_value b) values c = absurd c
received_good service (Html G) (text s) values c = absurd c
received_good service (Html G) (document d) values c = refl
received_good service (Html G) (list s) values c = absurd c

-- what is known when the field of one receive is stored
abbrev next_cells : Receive → (List ℕ → Option Abstract) → List ℕ → Option Abstract
next_cells r cells w = option_map (λ a. if same w r.target then received_by a else a) (cells w)

module _ {K : Type 0} (service : Service) (f : Facts K) (p : K) where
  -- while fields are stored
  pub record Receives (cells : List ℕ → Option Abstract) (rs : List Receive) (st : State) : Type 0 where
    pub names : (w : List ℕ) → is_some (beside w st.locals) ≡ is_among w (f.scope p)
    pub held : Holds service cells st.locals
    pub shared : CoversShared service f st.shared
    pub adds : AllByRecursion (λ (r : Receive). is_among r.target (f.scope p) ≡ false → is_shared service r.target ≡ true
        → Below (received_by (f.shared r.target)) (f.shared r.target)) rs

  module _ (r : Receive) (rs : List Receive) (cells : List ℕ → Option Abstract) (st : State) (values : List (List ℕ)) (h : Receives cells (r ∷ rs) st) where
    there : (w : List ℕ) (b : Bool) (u : Value) → b ≡ true → (x : Abstract) → cells w ≡ Some x → covers service (received_by x) u
        → (y : Abstract) × (option_map (λ (a : Abstract). if b then received_by a else a) (cells w) ≡ Some y) × covers service y u
    there w true u t x e c = (received_by x, ap (option_map received_by) e, c)
    there w false u t x e c = absurd (false≢true t)

    other : (w : List ℕ) (b : Bool) (u : Value) → b ≡ false → ((x : Abstract) × (cells w ≡ Some x) × covers service x u)
        → (y : Abstract) × (option_map (λ (a : Abstract). if b then received_by a else a) (cells w) ≡ Some y) × covers service y u
    other w true u t k = absurd (false≢true (sym t))
    other w false u t k = (k.0, ap (option_map (λ (a : Abstract). a)) k.1, k.2)

    -- the target is a local, or else a shared variable
    step : (o : Option Value) → beside r.target st.locals ≡ o
        → Receives (next_cells r cells) rs (store r.target (received_value (option_or o (beside r.target st.shared)) values) st)
    step (Some old) e = record {
      names = λ w. some-replaced r.target (received_value (Some old) values) st.locals w ∙ h.names w;
      held = λ w u i. by_test w u (same r.target w) (beside w st.locals) refl refl
          (sym (beside-replaced r.target (received_value (Some old) values) st.locals w) ∙ i);
      shared = subst (λ (b : Option Value). CoversShared service f
          (if is_some b then st.shared else replaced r.target (received_value (Some old) values) st.shared)) (sym e) h.shared;
      adds = h.adds.1;
    }
      where
        by_test : (w : List ℕ) (u : Value) (b : Bool) (o : Option Value) → same r.target w ≡ b → beside w st.locals ≡ o
            → (if b then option_map (λ (z : Value). received_value (Some old) values) o else o) ≡ Some u
            → (y : Abstract) × (next_cells r cells w ≡ Some y) × covers service y u
        by_test w u true None t i k = absurd (none_some None u refl k)
        by_test w u true (Some x) t i k =
            let q = h.held r.target old e in
            there w (same w r.target) u (same_sym w r.target ∙ t) q.0 (ap cells (sym (same_is r.target w t)) ∙ q.1)
            (subst (covers service (received_by q.0)) (some_same (received_value (Some old) values) u k) (received_good service q.0 old values q.2))
        by_test w u false o t i k = other w (same w r.target) u (same_sym w r.target ∙ t) (h.held w u (i ∙ k))
    step None e = record {
      names = λ w. some-replaced r.target v st.locals w ∙ h.names w;
      held = λ w u i. by_test w u (same r.target w) (beside w st.locals) refl refl (sym (beside-replaced r.target v st.locals w) ∙ i);
      shared = subst (λ (b : Option Value). CoversShared service f (if is_some b then st.shared else replaced r.target v st.shared)) (sym e)
          (shared_stored service f st.shared r.target v h.shared (λ old i.
          covers_below service (received_by (f.shared r.target)) (f.shared r.target) v
          (h.adds.0 (sym (h.names r.target) ∙ ap is_some e) (is_there service f st.shared r.target old h.shared i))
          (subst (λ z. covers service (received_by (f.shared r.target)) (received_value z values)) (sym i)
          (received_good service (f.shared r.target) old values (h.shared.each r.target old i)))));
      adds = h.adds.1;
    }
      where
        v : Value
        v = received_value (beside r.target st.shared) values

        by_test : (w : List ℕ) (u : Value) (b : Bool) (o : Option Value) → same r.target w ≡ b → beside w st.locals ≡ o
            → (if b then option_map (λ (z : Value). received_value (beside r.target st.shared) values) o else o) ≡ Some u
            → (y : Abstract) × (next_cells r cells w ≡ Some y) × covers service y u
        by_test w u true None t i k = absurd (none_some None u refl k)
        by_test w u true (Some x) t i k = absurd (none_some (beside w st.locals) x (ap (λ z. beside z st.locals) (sym (same_is r.target w t)) ∙ e) i)
        by_test w u false o t i k = other w (same w r.target) u (same_sym w r.target ∙ t) (h.held w u (i ∙ k))

  then_cells : (r : Receive) (rs : List Receive) (w : List ℕ) (o : Option Abstract)
      → option_map (receives_by rs w) (option_map (λ (a : Abstract). if same w r.target then received_by a else a) o) ≡ option_map (receives_by (r ∷ rs) w) o
  then_cells r rs w None = refl
  then_cells r rs w (Some a) = refl

  pub received_all : (rs : List Receive) (form : Form) (cells : List ℕ → Option Abstract) (st : State) → Receives cells rs st
      → Receives (λ w. option_map (receives_by rs w) (cells w)) [] (received rs form st)
  received_all [] form cells st h = record {
    names = h.names;
    held = λ w u e. let r = h.held w u e in (r.0, ap (option_map (receives_by [] w)) r.1, r.2);
    shared = h.shared;
    adds = tt;
  }
  received_all (r ∷ rs) form cells st h =
      let values = values_of r.field form in
      let q = received_all rs form (next_cells r cells) (store r.target (received_value (variable r.target st) values) st)
      (step r rs cells st values h (beside r.target st.locals) refl) in
      record {
        names = q.names;
        held = λ w u e. let k = q.held w u e in (k.0, sym (then_cells r rs w (cells w)) ∙ k.1, k.2);
        shared = q.shared;
        adds = tt;
      }
