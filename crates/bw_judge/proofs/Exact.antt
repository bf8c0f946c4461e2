-- The faults 4 and 5 of an element, exactly.
use Rattle.std.proofs.Common.{◌≡◌, inl, inr, ℕ, ◌+◌, ◌<◌, ◌==◌, Bool, true, ◌||◌, ◌&&◌, not, List, [], length, get_or, refl, ap, sym, ◌∙◌, subst, arith}
use Rattle.std.proofs.lemmas.Bool.{false≢true, or_cases, and_parts, and_from, not-true}
use borrow.Author.Tests.{eqb-true}
use Rattle.bw_lang.specs.Document.Forest.{Forest, none, text, gap, element}
use Rattle.bw_lang.specs.Table.Names.{name_number}
use Rattle.bw_shape.specs.Rows.Rows.{at}
use Rattle.bw_faults.specs.declared.fault.Fault.{Fault}
use Rattle.bw_shape.specs.Nodes.Nodes.{Node, node_at, among, led}
use Rattle.bw_shape.specs.Nodes.Fits.{Fits}
use Rattle.bw_sum.specs.Graph.{Graph}
use Rattle.bw_shape.specs.Shape.{Reached, Top, Gives, tagged, wordy}
use Rattle.bw_shape.specs.Columns.{AreKnown, top_column}
use Rattle.bw_shape.specs.Nodes.Templates.{template_at}
use Rattle.bw_lang.specs.Text.Bytes.{is_blank_text}
use Rattle.bw_shape.specs.Tests.{gives, tag_column}
use Rattle.bw_shape.proofs.Links.{led_sound, named}
use Rattle.bw_shape.proofs.ExactFields.{derived_all}
use Rattle.bw_shape.proofs.ExactTops.{gives_by, tops_sound, tops_test}
use Rattle.bw_judge.specs.declared.content.Spot.{Spot}
use Rattle.bw_judge.specs.Content.{fault_at, is_bad_tag, OfContent}
use Rattle.bw_schema.specs.Words.{is_among}
use Rattle.bw_judge.specs.Laws.{ContentFault, child, words, AreTops, ContentExact}

-- a column that is set is that of some top
TopOf : List (List ℕ) → ℕ → Type 0
TopOf tags c = (x : Top) × (top_column tags x ≡ c)

top_by : {nodes : List Node} {G : Graph} (fits : Fits nodes G) (tags : List (List ℕ)) (n c : ℕ) (known : ℕ → Bool)
    → ((m : ℕ) → known m ≡ true → TopOf tags c) → (t : Forest)
    → gives tags (node_at nodes n) known c t ≡ true → TopOf tags c
unfolding TopOf
top_by fits tags n c known k none h = absurd (false≢true h)
top_by fits tags n c known k (text s r) h = elim (or_cases ((0 == c) && not (is_blank_text s)) _ h) [
  | inl it ↦ (wordy, eqb-true 0 c (and_parts (0 == c) (not (is_blank_text s)) it).0)
  | inr it ↦ top_by fits tags n c known k r it
]
top_by {nodes = nodes} fits tags n c known k (gap g r) h =
    elim (or_cases (((0 == c) && among (node_at nodes n).wordy g) || led (node_at nodes n) known g) _ h) [
      | inl it ↦ elim (or_cases ((0 == c) && among (node_at nodes n).wordy g) (led (node_at nodes n) known g) it) [
        | inl here ↦ (wordy, eqb-true 0 c (and_parts (0 == c) (among (node_at nodes n).wordy g) here).0)
        | inr there ↦ let e = led_sound fits n g known there in k e.0 e.2
      ]
      | inr it ↦ top_by fits tags n c known k r it
    ]
top_by fits tags n c known k (element tag a i r) h = elim (or_cases (tag_column tags tag == c) _ h) [
  | inl it ↦ (tagged tag, eqb-true (tag_column tags tag) c it)
  | inr it ↦ top_by fits tags n c known k r it
]

tag_of : (tags : List (List ℕ)) (c : ℕ) → TopOf tags (c + 1) → (y : List ℕ) × (name_number tags y ≡ c)
unfolding TopOf
tag_of tags c (wordy, e) = absurd (omega (arith, e))
tag_of tags c (tagged y, e) = (y, omega (arith, e))

module _ (templates : List Forest) (nodes : List Node) (G : Graph) (root : ℕ) (tags : List (List ℕ)) (tops : List (List Bool))
    (t : AreTops templates nodes G root tags tops)
    (s : Spot) (has : List (List ℕ)) (txt : Bool) (n : ℕ) (inner : Forest) where
  given_top : (x : Top) → top_column tags x < length tags + 1
      → gives tags (node_at nodes n) (λ m. at tops m (top_column tags x)) (top_column tags x) inner ≡ true → Gives (template_at templates) G n inner x
  given_top x l h = gives_by templates t.fits root tags n x (λ m. at tops m (top_column tags x)) l
      (λ m r. tops_sound templates t.fits root tags tops t.derived m x r) inner h

  some_tag : (c : ℕ) → gives tags (node_at nodes n) (λ m. at tops m (c + 1)) (c + 1) inner ≡ true → (y : List ℕ) × (name_number tags y ≡ c)
  some_tag c h =
      tag_of tags c (top_by t.fits tags n (c + 1) (λ m. at tops m (c + 1))
      (λ m r. derived_all (λ n c. TopOf tags c)
      (λ known n c l k e. top_by t.fits tags n c (λ m. known m c) (λ m q. k m c q) (template_at templates n) e) (t.derived m (c + 1) r))
      inner h)

  is_fault : (f : Fault) → OfContent s has txt tags (λ c. gives tags (node_at nodes n) (λ m. at tops m c) c inner) (length tags) f
      → ContentFault (template_at templates) G s has txt n inner f
  is_fault f (inl h) =
      let p = and_parts (gives tags (node_at nodes n) (λ m. at tops m 0) 0 inner) (not txt) h.0 in
      subst (ContentFault (template_at templates) G s has txt n inner) (sym h.1) (words (given_top wordy (omega arith) p.0) (not-true _ p.1))
  is_fault f (inr h) =
      let c = h.0 in
      let p = and_parts (gives tags (node_at nodes n) (λ m. at tops m (c + 1)) (c + 1) inner) (is_bad_tag has tags c) h.2.0 in
      let y = some_tag c p.0 in
      let low : name_number tags y.0 < length tags = let a = h.1 in let b = y.1 in omega (arith, a, b) in
      let e : c + 1 ≡ tag_column tags y.0 = let b = y.1 in omega (arith, b) in
      let is : get_or tags c [] ≡ y.0 = sym (named tags y.0 low ∙ ap (λ k. get_or tags k []) y.1) in
      subst (ContentFault (template_at templates) G s has txt n inner) (sym (h.2.1 ∙ ap (fault_at s 4) is))
      (child (given_top (tagged y.0) (omega (arith, low)) (subst (λ k. gives tags (node_at nodes n) (λ m. at tops m k) k inner ≡ true) e p.0))
      (sym (ap (is_among has) is) ∙ not-true _ p.1))

  from_fault : Reached G root n → AreKnown tags inner → (f : Fault) → ContentFault (template_at templates) G s has txt n inner f
      → OfContent s has txt tags (λ c. gives tags (node_at nodes n) (λ m. at tops m c) c inner) (length tags) f
  from_fault w a f (words g e) =
      let q = tops_test templates t.fits root tags t.known tops t.closed w a g in
      inl (and_from _ _ q.1 (ap not e), refl)
  from_fault w a f (child {x = x} g e) =
      let q = tops_test templates t.fits root tags t.known tops t.closed w a g in
      let c = name_number tags x in
      let low : c < length tags = let b = q.0 in omega (arith, b) in
      let one : tag_column tags x ≡ c + 1 = omega arith in
      let is = named tags x low in
      inr (
        c,
        low,
        (
          and_from _ _ (subst (λ k. gives tags (node_at nodes n) (λ m. at tops m k) k inner ≡ true) one q.1) (ap not (ap (is_among has) (sym is) ∙ e)),
          ap (fault_at s 4) is,
        ),
      )

pub content_exact : ContentExact
content_exact templates nodes G root tags tops t s has txt n inner w a f =
    (is_fault templates nodes G root tags tops t s has txt n inner f, from_fault templates nodes G root tags tops t s has txt n inner w a f)
