-- Typed expressions have what is known by their kinds, and their plugs fill what they may fill.
use Rattle.std.proofs.Common.{◌≡◌, ◌⊎◌, inl, inr, ℕ, Bool, true, List, length, Some, sym}
use Rattle.std.proofs.Common.{subst}
use Rattle.std.specs.List.{AllPairs}
use Rattle.std.proofs.lemmas.Bool.{lt-ltb, ltb-true}
use Rattle.bw_lang.specs.declared.expr.Fun.{Fun}
use Rattle.bw_lang.specs.declared.expr.Op.{Op}
use Rattle.bw_lang.specs.declared.expr.Op.TheVariants.{Or, And, Eq, Ne, Lt, Le, Gt, Ge, Add, Sub, Mul, Div, Rem}
use Rattle.bw_lang.specs.declared.service.Service.{Service}
use Rattle.bw_lang.specs.declared.stmt.Kind.{Kind}
use Rattle.bw_lang.specs.Table.Names.{same, name_number}
use Rattle.bw_lang.specs.Service.Term.{Term, int, truth, string, name, paren, not as negated, neg, binary, call, plug, nothing, Fillings, no_more, filling}
use Rattle.bw_types.specs.declared.fault.GapKind.{GapKind}
use Rattle.bw_types.specs.declared.fault.GapKind.TheVariants.{Content, Attribute}
use Rattle.bw_types.specs.ExpressionFaults.{op_sort, fun_takes, fun_gives}
use Rattle.bw_types.specs.Gaps.{template_uses, kind_of_gap}
use Rattle.bw_types.specs.Scopes.{Scope, name_kind}
use Rattle.bw_types.specs.Typing.{Takes, Fits, HasKind, AreTyped}
use Rattle.bw_cover.proofs.ContentGaps.{content_has_no_hole}
use Rattle.bw_cover.specs.Abstracts.{Abstract, Nothing, Strings, Html, is_gap, plugged_by, summed_by, combined_by, called_by, known, known_filled}
use Rattle.bw_cover.specs.Abstracts.{EachPair, EachFilling, IsPlug}
use Rattle.bw_cover.specs.Kinds.{IsOf, GapsAreThere}
use Rattle.bw_lang.specs.declared.expr.Fun.TheVariants as funs
use Rattle.bw_lang.specs.declared.stmt.Kind.TheVariants as kinds

-- ---- kinds

module _ (service : Service) (one : AllPairs (λ x y. x.0 ≡ y.0 → x.1 ≡ y.1) (template_uses service.templates)) (there : GapsAreThere service) (scope : Scope)
    (at : List ℕ → Abstract)
    (names : (w : List ℕ) (kind : Kind) → name_kind service scope w ≡ Some kind → IsOf kind (at w)) where
  nothing_of : (op : Op) (side kind : Kind) → Takes (op_sort op) side kind → (a : Abstract) → IsOf side a → IsOf kind (combined_by op a)
  nothing_of Or side kind t a h = subst (λ k. IsOf k Nothing) (sym t.1) tt
  nothing_of And side kind t a h = subst (λ k. IsOf k Nothing) (sym t.1) tt
  nothing_of Eq side kind t a h = subst (λ k. IsOf k Nothing) (sym t.2) tt
  nothing_of Ne side kind t a h = subst (λ k. IsOf k Nothing) (sym t.2) tt
  nothing_of Lt side kind t a h = subst (λ k. IsOf k Nothing) (sym t.1) tt
  nothing_of Le side kind t a h = subst (λ k. IsOf k Nothing) (sym t.1) tt
  nothing_of Gt side kind t a h = subst (λ k. IsOf k Nothing) (sym t.1) tt
  nothing_of Ge side kind t a h = subst (λ k. IsOf k Nothing) (sym t.1) tt
  nothing_of Add side kind t a h = subst (λ k. IsOf k (summed_by a)) (sym t.1) (sum t.0 a h)
    where
      sum_int : (a : Abstract) → IsOf kinds.Int a → IsOf kinds.Int (summed_by a)
      sum_int Nothing h = tt
      sum_int (Strings S) h = absurd h
      sum_int (Html G) h = absurd h

      sum_str : (a : Abstract) → IsOf kinds.Str a → IsOf kinds.Str (summed_by a)
      sum_str Nothing h = absurd h
      sum_str (Strings S) h = tt
      sum_str (Html G) h = absurd h

      sum : (side ≡ kinds.Int) ⊎ (side ≡ kinds.Str) → (a : Abstract) → IsOf side a → IsOf side (summed_by a)
      sum (inl e) a h = subst (λ k. IsOf k (summed_by a)) (sym e) (sum_int a (subst (λ k. IsOf k a) e h))
      sum (inr e) a h = subst (λ k. IsOf k (summed_by a)) (sym e) (sum_str a (subst (λ k. IsOf k a) e h))
  nothing_of Sub side kind t a h = subst (λ k. IsOf k Nothing) (sym t.1) tt
  nothing_of Mul side kind t a h = subst (λ k. IsOf k Nothing) (sym t.1) tt
  nothing_of Div side kind t a h = subst (λ k. IsOf k Nothing) (sym t.1) tt
  nothing_of Rem side kind t a h = subst (λ k. IsOf k Nothing) (sym t.1) tt

  called_of : (f : Fun) → IsOf (fun_gives f) (called_by f)
  called_of funs.Text = tt
  called_of funs.Number = tt
  called_of funs.IsNumber = tt
  called_of funs.Count = tt

  -- one pair
  plug_of : (a e : Abstract) (w : List ℕ) (g : GapKind) (kind : Kind) → IsOf kinds.Html a → IsOf kind e → kind_of_gap service w ≡ Some g → Fits g kind
      → IsOf kinds.Html (plugged_by a (name_number service.gaps w) e) × IsPlug service a (name_number service.gaps w) e
  plug_of Nothing e w g kind h k q t = absurd h
  plug_of (Strings S) e w g kind h k q t = absurd h
  plug_of (Html B) e w g kind h k q t = by_kind g t q
    where
      n : ℕ
      n = name_number service.gaps w

      is_there : (g : GapKind) → kind_of_gap service w ≡ Some g → is_gap service (name_number service.gaps w) ≡ true
      is_there g q = lt-ltb (name_number service.gaps w) (length service.gaps) (there w g q)

      of_string : (e : Abstract) → IsOf kinds.Str e → is_gap service (name_number service.gaps w) ≡ true
          → IsOf kinds.Html (plugged_by (Html B) (name_number service.gaps w) e) × IsPlug service (Html B) (name_number service.gaps w) e
      of_string Nothing h i = absurd h
      of_string (Strings S) h i = (tt, i)
      of_string (Html A) h i = absurd h

      of_document : (e : Abstract) → IsOf kinds.Html e → is_gap service (name_number service.gaps w) ≡ true
          → kind_of_gap service w ≡ Some Content
          → IsOf kinds.Html (plugged_by (Html B) (name_number service.gaps w) e) × IsPlug service (Html B) (name_number service.gaps w) e
      of_document Nothing h i c = absurd h
      of_document (Strings S) h i c = absurd h
      of_document (Html A) h i c = (
        tt,
        (
          i,
          content_has_no_hole service one (name_number service.gaps w) (ltb-true (name_number service.gaps w) (length service.gaps) i) c,
        ),
      )

      by_kind : (g : GapKind) → Fits g kind → kind_of_gap service w ≡ Some g → IsOf kinds.Html (plugged_by (Html B) (name_number service.gaps w) e)
          × IsPlug service (Html B) (name_number service.gaps w) e
      by_kind Content (inl s) q = of_string e (subst (λ x. IsOf x e) s k) (is_there Content q)
      by_kind Content (inr s) q = of_document e (subst (λ x. IsOf x e) s k) (is_there Content q) q
      by_kind Attribute s q = of_string e (subst (λ x. IsOf x e) s k) (is_there Attribute q)

  mutual
    pub typed_known : (e : Term) (kind : Kind) → HasKind service scope e kind → IsOf kind (known service at e) × EachPair (IsPlug service) service at e
    typed_known (int n) kind h = (subst (λ k. IsOf k Nothing) (sym h) tt, tt)
    typed_known (truth b) kind h = (subst (λ k. IsOf k Nothing) (sym h) tt, tt)
    typed_known (string s) kind h = (subst (λ k. IsOf k (Strings (same s))) (sym h) tt, tt)
    typed_known nothing kind h = (subst (λ k. IsOf k Nothing) (sym h) tt, tt)
    typed_known (name w) kind h = (names w kind h, tt)
    typed_known (paren e) kind h = typed_known e kind h
    typed_known (negated e) kind h = (subst (λ k. IsOf k Nothing) (sym h.1) tt, (typed_known e kinds.Bool h.0).1)
    typed_known (neg e) kind h = (subst (λ k. IsOf k Nothing) (sym h.1) tt, (typed_known e kinds.Int h.0).1)
    typed_known (call f e) kind h = (subst (λ k. IsOf k (called_by f)) (sym h.1) (called_of f), (typed_known e (fun_takes f) h.0).1)
    typed_known (binary op l r) kind h =
        let a = typed_known l h.0 h.1 in
        let b = typed_known r h.0 h.2 in
        (nothing_of op h.0 kind h.3 (known service at l) a.0, (a.1, b.1))
    typed_known (plug b ps) kind h =
        let a = typed_known b kinds.Html h.0 in
        let r = typed_filled ps (known service at b) a.0 h.1 in
        (subst (λ k. IsOf k (known_filled service at ps (known service at b))) (sym h.2) r.0, (a.1, r.1))

    typed_filled : (ps : Fillings) (a : Abstract) → IsOf kinds.Html a → AreTyped service scope ps → IsOf kinds.Html (known_filled service at ps a)
        × EachFilling (IsPlug service) service at ps a
    typed_filled no_more a k h = (k, tt)
    typed_filled (filling w e ps) a k h =
        let v = typed_known e h.0.1 h.0.3 in
        let one = plug_of a (known service at e) w h.0.0 h.0.1 k v.0 h.0.2 h.0.4 in
        let r = typed_filled ps (plugged_by a (name_number service.gaps w) (known service at e)) one.0 h.1 in
        (r.0, (one.1, v.1, r.1))
