-- Lines have one list of lights.
use Rattle.std.proofs.Common.{◌≡◌, inl, inr, ℕ, suc, ◌<◌, List, [], ◌∷◌, ◌++◌, length, chars, refl, ap, sym, ◌∙◌, subst, arith}
use Rattle.bw_format.specs.declared.format.Format.{Format}
use Rattle.bw_format.specs.declared.light.Light.{Light}
use Rattle.bw_format.specs.declared.light.Light.TheVariants.{Green, Yellow, Red}
use Rattle.bw_format.specs.FormatFile.{HasNoSpace}
use Rattle.bw_format.specs.Formats.{Accepts}
use Rattle.bw_format.specs.Lights.{IsLight}
use Rattle.bw_format.proofs.OneAnswer.{one_cut}
use Rattle.bw_lights.specs.Laws.{OneLights}
use Rattle.bw_lights.specs.Lights.{IsParted, IsLightOf, line}

-- a text has one light
one_light : (P : List ℕ → Type 0) (text : List ℕ) (a b : Light) → IsLight P text a → IsLight P text b → a ≡ b
one_light P text Green Green h k = refl
one_light P text Green Yellow h k = absurd (k.0 h)
one_light P text Green Red h k = absurd (k.0 h)
one_light P text Yellow Green h k = absurd (h.0 k)
one_light P text Yellow Yellow h k = refl
one_light P text Yellow Red h k = absurd (k.1 h.1)
one_light P text Red Green h k = absurd (h.0 k)
one_light P text Red Yellow h k = absurd (h.1 k.1)
one_light P text Red Red h k = refl

-- there is a space in front of a text
has_space : (field text : List ℕ) → HasNoSpace (field ++ 32 ∷ text) → ⊥
has_space [] text h = h 0 (omega arith) refl
has_space (c ∷ field) text h = has_space field text (λ i l. h (suc i) (omega (arith, l)))

-- a line has one field and one text
one_parting : (l f t g u : List ℕ) → IsParted l f t → IsParted l g u → (f ≡ g) × (t ≡ u)
one_parting l f t g u (n, inl e) (m, inl d) = one_cut f g t u (sym e ∙ d) n m
one_parting l f t g u (n, inl e) (m, inr d) = absurd (has_space f t (subst HasNoSpace (sym d.0 ∙ e) m))
one_parting l f t g u (n, inr e) (m, inl d) = absurd (has_space g u (subst HasNoSpace (sym e.0 ∙ d) n))
one_parting l f t g u (n, inr e) (m, inr d) = (sym e.0 ∙ d.0, e.1 ∙ sym d.1)

module _ (formats : List Format) where
  one_light_of : (l : List ℕ) (a b : Light) → IsLightOf formats l a → IsLightOf formats l b → a ≡ b
  one_light_of l a b (f, t, p, h) (g, u, q, k) =
      let same = one_parting l f t g u p q in
      let so : IsLight (Accepts formats g) (chars t) a = subst (λ (x : List ℕ). IsLight (Accepts formats x) (chars t) a) same.0 h in
      one_light (Accepts formats g) (chars u) a b (subst (λ (x : List ℕ). IsLight (Accepts formats g) (chars x) a) same.1 so) k

pub lights_once : OneLights
lights_once formats [] a b h k = h ∙ sym k
lights_once formats (l ∷ ls) a b (x, later, is, more, e) (y, others, are, rest, d) =
    let here : x ≡ y = one_light_of formats l x y is are in
    let behind : later ≡ others = lights_once formats ls later others more rest in
    e ∙ ap (λ z. line z ++ later) here ∙ ap (λ z. line y ++ z) behind ∙ sym d
