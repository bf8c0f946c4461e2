-- What points leave and add is of the kinds of variables, and grows with what they see.
use Rattle.std.specs.Prelude.{◌≡◌, ℕ, suc, ◌^◌, ◌<◌, ◌≤◌, ◌+◌, Bool, true, false, ◌&&◌, ◌||◌, not, List, [], ◌∷◌, map, length, find}
use Rattle.std.specs.Prelude.{option_map, Option, Some, None, if◌then◌else◌, cond, unwrap_or}
use Rattle.std.proofs.Common.{refl, sym, ap, ◌∙◌, subst, inl, inr, arith, ◌⊎◌}
use Rattle.std.specs.List.{All, AllByRecursion}
use Rattle.std.specs.Option.{option_or}
use Rattle.std.proofs.lemmas.Bool.{false≢true}
use Rattle.bw_lang.specs.declared.service.Service.{Service}
use Rattle.bw_lang.specs.declared.service.Shared.{Shared}
use Rattle.bw_lang.specs.declared.stmt.Kind.{Kind}
use Rattle.bw_lang.specs.declared.stmt.Kind.TheVariants as kinds
use Rattle.bw_lang.specs.Table.Names.{same, beside}
use Rattle.bw_lang.specs.Service.Term.{Term}
use Rattle.bw_strings.specs.Literals.{literals_of}
use Rattle.bw_types.specs.Scopes.{is_among, name_kind, shared_kind, template_kind, template_names, template_of}
use Rattle.bw_lang.proofs.SameNames.{same_is, same_sym, same_turned}
use Rattle.bw_lang.proofs.Options.{some_is}
use Rattle.bw_typed.specs.Named.{NamesTemplate}
use Rattle.bw_typed.proofs.Named.{names_template}
use Rattle.bw_sum.proofs.WellFormed.{constant_well_formed}
use Rattle.bw_sum.specs.Templates.{template_items}
use Rattle.bw_flow.specs.declared.point.Local.{Local}
use Rattle.bw_flow.specs.declared.point.Received.{Received}
use Rattle.bw_flow.specs.Scopes.{kind_in}
use Rattle.bw_flow.specs.Steps.{Act, sets, tests, goes_over, shows, exits, joins, Step}
use Rattle.bw_flow.specs.TypedFlow.{names_at, HasKindAt, IsTypedReceive, IsTypedAct, IsGivenOf, Leaves}
use Rattle.bw_flow.proofs.Names.{kind_in_is}
use Rattle.bw_analyse.specs.declared.abstracts.Abstract.{Abstract}
use Rattle.bw_analyse.specs.declared.abstracts.Abstract.TheVariants.{Nothing, Str}
use Rattle.bw_analyse.specs.Lawful.KindLaws.{Up, up_itself, up_both, AllUp}
use Rattle.bw_analyse.specs.Known.{any, of_local, of_shared, constant_at, look, known}
use Rattle.bw_analyse.specs.Lawful.KnownLaws.{known_up}
use Rattle.bw_analyse.specs.Rounds.{received_by, receives, left_by, is_local, added_by, join_some, joined}

-- there are two values of the kind, or none
abbrev pub TwoUp : Kind → Option Abstract → Option Abstract → Type 0
TwoUp k None None = Unit {0}
TwoUp k (Some x) (Some y) = Up k x y
TwoUp k _ _ = ⊥

first_true : (x y : Bool) → (x && y) ≡ true → x ≡ true
first_true true y h = refl
first_true false y h = absurd (false≢true h)

none_first : {A : Type 0} (o p : Option A) → option_or o p ≡ None → o ≡ None
none_first None p e = refl
none_first (Some x) p e = absurd (cc)

-- ---- names

-- there is a kind and two such values, or none
abbrev pub OptionUp : Option Kind → Option Abstract → Option Abstract → Type 0
OptionUp None None None = Unit {0}
OptionUp (Some k) (Some a) (Some b) = Up k a b
OptionUp _ _ _ = ⊥

pub local_up : (scope : List Local) (a b : List Abstract) (w : List ℕ) → AllUp (map (λ l. l.kind) scope) a b
    → OptionUp (kind_in scope w) (of_local scope a w) (of_local scope b w)
local_up [] [] [] w h = tt
local_up (l ∷ ls) (a ∷ xs) (b ∷ ys) w h = by_test (same w l.name) (local_up ls xs ys w h.1)
  where
    by_test : (t : Bool) → OptionUp (kind_in ls w) (of_local ls xs w) (of_local ls ys w)
        → OptionUp (option_map (λ z. z.kind) (cond t (Some l) (find (λ z. same w z.name) ls))) (if t then Some a else of_local ls xs w)
        (if t then Some b else of_local ls ys w)
    by_test true r = h.0
    by_test false r = r
local_up [] (a ∷ xs) ys w h = absurd h
local_up [] [] (b ∷ ys) w h = absurd h
local_up (l ∷ ls) [] ys w h = absurd h
local_up (l ∷ ls) (a ∷ xs) [] w h = absurd h

pub shared_up : (vs : List Shared) (a b : List Abstract) (w : List ℕ) → AllUp (map (λ v. v.kind) vs) a b
    → OptionUp (beside w (map (λ v. (v.name, v.kind)) vs)) (of_shared vs a w) (of_shared vs b w)
shared_up [] [] [] w h = tt
shared_up (v ∷ vs) (a ∷ xs) (b ∷ ys) w h = by_test (same w v.name) (shared_up vs xs ys w h.1)
  where
    by_test : (t : Bool) → OptionUp (beside w (map (λ v. (v.name, v.kind)) vs)) (of_shared vs xs w) (of_shared vs ys w)
        → OptionUp (option_map (λ (z : List ℕ × Kind). z.1) (cond t (Some (v.name, v.kind)) (find (λ z. same w z.0)
        (map (λ (v : Shared). (v.name, v.kind)) vs))))
        (if t then Some a else of_shared vs xs w) (if t then Some b else of_shared vs ys w)
    by_test true r = h.0
    by_test false r = r
shared_up [] (a ∷ xs) ys w h = absurd h
shared_up [] [] (b ∷ ys) w h = absurd h
shared_up (v ∷ vs) [] ys w h = absurd h
shared_up (v ∷ vs) (a ∷ xs) [] w h = absurd h

-- the first of three that is there
pick : (k1 k2 k3 : Option Kind) (a1 b1 a2 b2 : Option Abstract) (c d : Abstract) (kind : Kind) → OptionUp k1 a1 b1 → OptionUp k2 a2 b2
    → (k3 ≡ Some kind → Up kind c d) → option_or (option_or k1 k2) k3 ≡ Some kind → Up kind (unwrap_or (option_or a1 a2) c) (unwrap_or (option_or b1 b2) d)
pick None None k3 None None None None c d kind h1 h2 t e = t e
pick None (Some k) k3 None None (Some a) (Some b) c d kind h1 h2 t e = subst (λ x. Up x a b) (some_is k kind e) h2
pick (Some k) k2 k3 (Some a) (Some b) a2 b2 c d kind h1 h2 t e = subst (λ x. Up x a b) (some_is k kind e) h1
pick None None k3 None None (Some a) b2 c d kind h1 h2 t e = absurd h2
pick None None k3 None None None (Some b) c d kind h1 h2 t e = absurd h2
pick None (Some k) k3 None None None b2 c d kind h1 h2 t e = absurd h2
pick None (Some k) k3 None None (Some a) None c d kind h1 h2 t e = absurd h2
pick None k2 k3 (Some a) b1 a2 b2 c d kind h1 h2 t e = absurd h1
pick None k2 k3 None (Some b) a2 b2 c d kind h1 h2 t e = absurd h1
pick (Some k) k2 k3 None b1 a2 b2 c d kind h1 h2 t e = absurd h1
pick (Some k) k2 k3 (Some a) None a2 b2 c d kind h1 h2 t e = absurd h1

-- ---- a service that is typed, with few names

pub record HasFew (service : Service) : Type 0 where
  pub templates : length service.templates < 2 ^ 32
  pub gaps : length service.gaps + 3 ≤ 2 ^ 32
  pub literals : length (literals_of service) < 2 ^ 32

module _ (service : Service) (few : HasFew service) where
  pub named_up : (w : List ℕ) → NamesTemplate service w
      → Up kinds.Html (constant_at service (template_of service w)) (constant_at service (template_of service w))
  named_up w (n, e, l) =
      subst (λ o. Up kinds.Html (constant_at service o) (constant_at service o)) (sym e)
      (up_itself kinds.Html (constant_at service (Some n)) (constant_well_formed n (template_items service n) (length service.gaps)
      (omega (arith, few.templates)) few.gaps))

  template_up : (w : List ℕ) (kind : Kind) → template_kind service w ≡ Some kind
      → Up kind (constant_at service (template_of service w)) (constant_at service (template_of service w))
  template_up w kind e = by_test (is_among w (template_names service)) refl e
    where
      by_test : (b : Bool) → is_among w (template_names service) ≡ b → (if b then Some kinds.Html else None) ≡ Some kind
          → Up kind (constant_at service (template_of service w)) (constant_at service (template_of service w))
      by_test true t k = subst (λ x. Up x (constant_at service (template_of service w)) (constant_at service (template_of service w)))
          (some_is kinds.Html kind k)
          (named_up w (names_template service w t))
      by_test false t k = absurd (cc)

  -- ---- at a point, over two rows of its locals and two of the shared variables

  module _ (scope : List Local) (a b c d : List Abstract) (locals : AllUp (map (λ l. l.kind) scope) a b)
      (shared : AllUp (map (λ v. v.kind) service.shared) c d) where
    look_up : (w : List ℕ) (kind : Kind) → name_kind service (names_at scope) w ≡ Some kind → Up kind (look service scope a c w) (look service scope b d w)
    look_up w kind e =
        pick (beside w (names_at scope).locals) (shared_kind service w) (template_kind service w) (of_local scope a w) (of_local scope b w)
        (of_shared service.shared c w) (of_shared service.shared d w) (constant_at service (template_of service w))
        (constant_at service (template_of service w)) kind
        (subst (λ o. OptionUp o (of_local scope a w) (of_local scope b w)) (sym (kind_in_is scope w)) (local_up scope a b w locals))
        (shared_up service.shared c d w shared) (template_up w kind) e

    pub expression_up : (e : Term) (kind : Kind) → HasKindAt service scope e kind
        → Up kind (known service (look service scope a c) e) (known service (look service scope b d) e)
    expression_up e kind h =
        known_up service (omega (arith, few.gaps)) few.literals (names_at scope) (look service scope a c) (look service scope b d) look_up e kind h

    of_kind : (k : Kind) (o : Option Kind) (x y : Option Abstract) → o ≡ Some k → OptionUp o x y → TwoUp k x y
    of_kind k (Some j) (Some x) (Some y) e h = subst (λ z. Up z x y) (some_is j k e) h
    of_kind k None x y e h = absurd (cc)
    of_kind k (Some j) None y e h = absurd h
    of_kind k (Some j) (Some x) None e h = absurd h

    of_none : (k : Kind) (o : Option Kind) (x y : Option Abstract) → o ≡ None → OptionUp o x y → TwoUp k x y
    of_none k None None None e h = tt
    of_none k (Some j) x y e h = absurd (cc)
    of_none k None (Some x) y e h = absurd h
    of_none k None None (Some y) e h = absurd h

    own_up : (w : List ℕ) (k : Kind) → kind_in scope w ≡ Some k → TwoUp k (of_local scope a w) (of_local scope b w)
    own_up w k e = of_kind k (kind_in scope w) (of_local scope a w) (of_local scope b w) e (local_up scope a b w locals)

    received_one : (k : Kind) (x y : Abstract) → (k ≡ kinds.Str) ⊎ (k ≡ kinds.Strs) → Up k x y → Up k (received_by x) (received_by y)
    received_one k x y (inl e) h = subst (λ z. Up z (received_by x) (received_by y)) (sym e) (string x y (subst (λ z. Up z x y) e h))
      where
        string : (x y : Abstract) → Up kinds.Str x y → Up kinds.Str (received_by x) (received_by y)
        string (Str s) (Str r) h = (tt, tt, refl)
        string (Str s) y h = absurd h.1
        string x y h = absurd h.0
    received_one k x y (inr e) h = subst (λ z. Up z (received_by x) (received_by y)) (sym e) (strings x y (subst (λ z. Up z x y) e h))
      where
        strings : (x y : Abstract) → Up kinds.Strs x y → Up kinds.Strs (received_by x) (received_by y)
        strings Nothing Nothing h = h
        strings Nothing y h = absurd h.1
        strings x y h = absurd h.0

    received_up : (k : Kind) (x y : Option Abstract) → (k ≡ kinds.Str) ⊎ (k ≡ kinds.Strs) → TwoUp k x y
        → TwoUp k (option_map received_by x) (option_map received_by y)
    received_up k None None t h = tt
    received_up k (Some x) (Some y) t h = received_one k x y t h
    received_up k None (Some y) t h = absurd h
    received_up k (Some x) None t h = absurd h

    -- what is received into a variable is a string or a list
    receives_of : (w : List ℕ) (k : Kind) (rs : List Received) → All (IsTypedReceive service scope) rs → All (λ r. same r.target w ≡ true → r.kind ≡ k) rs
        → receives w rs ≡ true → (k ≡ kinds.Str) ⊎ (k ≡ kinds.Strs)
    receives_of w k [] t g e = absurd (false≢true e)
    receives_of w k (r ∷ rs) t g e = by_test (same w r.target) refl e
        (receives_of w k rs (λ i x l. t (suc i) x (omega arith)) (λ i x l. g (suc i) x (omega arith)))
      where
        turned : (k ≡ r.kind) → (r.kind ≡ kinds.Str) ⊎ (r.kind ≡ kinds.Strs) → (k ≡ kinds.Str) ⊎ (k ≡ kinds.Strs)
        turned e (inl h) = inl (e ∙ h)
        turned e (inr h) = inr (e ∙ h)

        by_test : (x : Bool) → same w r.target ≡ x → (x || receives w rs) ≡ true → (receives w rs ≡ true → (k ≡ kinds.Str) ⊎ (k ≡ kinds.Strs))
            → (k ≡ kinds.Str) ⊎ (k ≡ kinds.Strs)
        by_test true s q ih = turned (sym (g 0 r (omega arith) (same_turned w r.target s))) (t 0 r (omega arith)).1
        by_test false s q ih = ih q

    if_up : (k : Kind) (x : Bool) (p q r s : Option Abstract) → (x ≡ true → TwoUp k p q) → (x ≡ false → TwoUp k r s)
        → TwoUp k (if x then p else r) (if x then q else s)
    if_up k true p q r s h g = h refl
    if_up k false p q r s h g = g refl

    -- what a typed point leaves in a local in scope where it leads
    pub left_up : (act : Act) (is_first : Bool) (w : List ℕ) (k : Kind) (x : Step) → IsTypedAct service scope act → x.scope ≡ scope
        → IsGivenOf service w k x act → (Leaves w act → kind_in scope w ≡ Some k)
        → TwoUp k (left_by service scope a c is_first w act) (left_by service scope b d is_first w act)
    left_up (sets v e) is_first w k x t i g h =
        if_up k (same w v) (Some (known service (look service scope a c) e)) (Some (known service (look service scope b d) e)) (of_local scope a w)
        (of_local scope b w)
        (λ s. expression_up e k (subst (λ z. HasKindAt service z e k) i (g (same_turned w v s))))
        (λ s. own_up w k (h (same_sym v w ∙ s)))
    left_up (goes_over v e) is_first w k x t i g h = by_both is_first (same w v) refl
      where
        by_both : (m n : Bool) → same w v ≡ n
            → TwoUp k (if m && n then Some any else of_local scope a w) (if m && n then Some any else of_local scope b w)
        by_both true true s = subst (λ z. Up z any any) (sym (g (same_turned w v s))) (tt, tt, refl)
        by_both true false s = own_up w k (h (same_sym v w ∙ s))
        by_both false false s = own_up w k (h (same_sym v w ∙ s))
        by_both false true s = of_none k (kind_in scope w) (of_local scope a w) (of_local scope b w)
            (ap (kind_in scope) (same_is w v s) ∙ none_first (kind_in scope v) (shared_kind service v)
            (ap (λ o. option_or o (shared_kind service v)) (sym (kind_in_is scope v)) ∙ t.0)) (local_up scope a b w locals)
    left_up (shows e rs) is_first w k x t i g h =
        if_up k (receives w rs) (option_map received_by (of_local scope a w)) (option_map received_by (of_local scope b w)) (of_local scope a w)
        (of_local scope b w)
        (λ s. received_up k (of_local scope a w) (of_local scope b w) (receives_of w k rs t.1 g s) (own_up w k (h tt))) (λ s. own_up w k (h tt))
    left_up (tests e) is_first w k x t i g h = own_up w k (h tt)
    left_up (exits e) is_first w k x t i g h = own_up w k (h tt)
    left_up joins is_first w k x t i g h = own_up w k (h tt)

    -- and what it adds to a shared variable
    pub added_up : (act : Act) (w : List ℕ) (k : Kind) (x : Step) → IsTypedAct service scope act → x.scope ≡ scope → shared_kind service w ≡ Some k
        → IsGivenOf service w k x act → TwoUp k (added_by service scope a c w act) (added_by service scope b d w act)
    added_up (sets v e) w k x t i s g =
        if_up k (same w v && not (is_local scope w)) (Some (known service (look service scope a c) e))
        (Some (known service (look service scope b d) e)) None None
        (λ q. expression_up e k (subst (λ z. HasKindAt service z e k) i (g (same_turned w v (first_true (same w v) (not (is_local scope w)) q))))) (λ q. tt)
    added_up (shows e rs) w k x t i s g =
        if_up k (receives w rs && not (is_local scope w)) (option_map received_by (of_shared service.shared c w))
        (option_map received_by (of_shared service.shared d w)) None None
        (λ q. received_up k (of_shared service.shared c w) (of_shared service.shared d w) (receives_of w k rs t.1 g (first_true (receives w rs)
        (not (is_local scope w)) q))
        (of_kind k (shared_kind service w) (of_shared service.shared c w) (of_shared service.shared d w) s (shared_up service.shared c d w shared))) (λ q. tt)
    added_up (goes_over v e) w k x t i s g = tt
    added_up (tests e) w k x t i s g = tt
    added_up (exits e) w k x t i s g = tt
    added_up joins w k x t i s g = tt

-- ---- joins

join_up : (k : Kind) (x y : Option Abstract) (p q : Abstract) → TwoUp k x y → Up k p q → Up k (join_some x p) (join_some y q)
join_up k None None p q h g = g
join_up k (Some x) (Some y) p q h g = up_both k x y p q h g
join_up k None (Some y) p q h g = absurd h
join_up k (Some x) None p q h g = absurd h

pub joined_up : {X : Type 0} (k : Kind) (f g : X → Option Abstract) (xs : List X) (p q : Abstract) → AllByRecursion (λ x. TwoUp k (f x) (g x)) xs → Up k p q
    → Up k (joined f xs p) (joined g xs q)
joined_up k f g [] p q h u = u
joined_up k f g (x ∷ xs) p q h u = join_up k (f x) (g x) (joined f xs p) (joined g xs q) h.0 (joined_up k f g xs p q h.1 u)
