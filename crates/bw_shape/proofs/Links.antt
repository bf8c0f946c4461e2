-- What the nodes of a graph say.
use Rattle.std.proofs.Common.{◌≡◌, inl, inr, ℕ, ◌<◌, ◌==◌, Bool, true, ◌&&◌, List, [], ◌∷◌, length, get_or, refl, ap, sym, ◌∙◌, subst, arith}
use Rattle.std.specs.List.{list_any}
use Rattle.std.proofs.lemmas.Bool.{false≢true, or_cases, or_left, or_right, and_parts, and_from}
use Rattle.std.proofs.lemmas.List.Sums.{passes_at_first}
use Rattle.std.proofs.lemmas.Slice.Eq.{bytes_eq-Decides}
use borrow.Author.Tests.{eqb-true, eq-eqb}
use Rattle.bw_lang.specs.Table.Names.{same, name_number}
use Rattle.bw_shape.specs.Nodes.Nodes.{Node, node_at, led, linked}
use Rattle.bw_shape.specs.Nodes.Fits.{Fits}
use Rattle.bw_sum.specs.Graph.{Graph}

-- a link that passes a test leads to a template that passes another
any_led : (p : ℕ × ℕ → Bool) (links : List (ℕ × ℕ)) → list_any p links ≡ true
    → (l : ℕ × ℕ) × (p l ≡ true) × (list_any (λ k. (k.0 == l.0) && (k.1 == l.1)) links ≡ true)
any_led p [] h = absurd (false≢true h)
any_led p (l ∷ links) h = elim (or_cases (p l) (list_any p links) h) [
  | inl it ↦ (l, it, or_left ((l.0 == l.0) && (l.1 == l.1)) _ (and_from (l.0 == l.0) (l.1 == l.1) (eq-eqb l.0 l.0 refl) (eq-eqb l.1 l.1 refl)))
  | inr it ↦ let r = any_led p links it in (r.0, r.1, or_right ((l.0 == r.0.0) && (l.1 == r.0.1)) _ r.2)
]

led_any : (p : ℕ × ℕ → Bool) (links : List (ℕ × ℕ)) (g m : ℕ)
    → list_any (λ k. (k.0 == g) && (k.1 == m)) links ≡ true → p (g, m) ≡ true → list_any p links ≡ true
led_any p [] g m h k = absurd (false≢true h)
led_any p (l ∷ links) g m h k = elim (or_cases ((l.0 == g) && (l.1 == m)) (list_any (λ k. (k.0 == g) && (k.1 == m)) links) h) [
  | inl it ↦ let e = and_parts (l.0 == g) (l.1 == m) it in
      or_left (p l) _ (subst (λ j. p (j, l.1) ≡ true) (sym (eqb-true l.0 g e.0)) (subst (λ j. p (g, j) ≡ true) (sym (eqb-true l.1 m e.1)) k))
  | inr it ↦ or_right (p l) _ (led_any p links g m it k)
]

module _ {nodes : List Node} {G : Graph} (fits : Fits nodes G) where
  pub led_sound : (n g : ℕ) (known : ℕ → Bool) → led (node_at nodes n) known g ≡ true → (m : ℕ) × (G.edge n g m ≡ true) × (known m ≡ true)
  led_sound n g known h =
      let r = any_led _ (node_at nodes n).links h in
      let k = and_parts (r.0.0 == g) (known r.0.1) r.1 in (
        r.0.1,
        sym (fits.edges n g r.0.1)
            ∙ subst (λ j. list_any (λ l. (l.0 == j) && (l.1 == r.0.1)) (node_at nodes n).links ≡ true) (eqb-true r.0.0 g k.0) r.2,
        k.1,
      )

  pub led_whole : (n g m : ℕ) (known : ℕ → Bool) → G.edge n g m ≡ true → known m ≡ true → led (node_at nodes n) known g ≡ true
  led_whole n g m known e k =
      led_any (λ l. (l.0 == g) && known l.1) (node_at nodes n).links g m (fits.edges n g m ∙ e) (and_from (g == g) (known m) (eq-eqb g g refl) k)

  pub linked_sound : (n : ℕ) (known : ℕ → Bool) → linked (node_at nodes n) known ≡ true → (g : ℕ) × (m : ℕ) × (G.edge n g m ≡ true) × (known m ≡ true)
  linked_sound n known h =
      let r = any_led _ (node_at nodes n).links h in
      (r.0.0, r.0.1, sym (fits.edges n r.0.0 r.0.1) ∙ r.2, r.1)

  pub linked_whole : (n g m : ℕ) (known : ℕ → Bool) → G.edge n g m ≡ true → known m ≡ true → linked (node_at nodes n) known ≡ true
  linked_whole n g m known e k = led_any (λ l. known l.1) (node_at nodes n).links g m (fits.edges n g m ∙ e) k

-- a name is the one at its number
pub named : (names : List (List ℕ)) (a : List ℕ) → name_number names a < length names → a ≡ get_or names (name_number names a) []
named names a h = (bytes_eq-Decides a (get_or names (name_number names a) [])).0 (passes_at_first (same a) names [] h)

-- names of the same number are equal
pub same_number : (names : List (List ℕ)) (a b : List ℕ) → name_number names b < length names → name_number names a ≡ name_number names b → a ≡ b
same_number names a b h e =
    let k : name_number names a < length names = omega (arith, h, e) in
    named names a k ∙ ap (λ j. get_or names j []) e ∙ sym (named names b h)
