-- Of a template past the last one nothing is said, and links lead where the edges do.
use Rattle.std.proofs.Common.{◌≡◌, inl, inr, ℕ, suc, ◌<◌, ◌≤◌, ◌==◌, Bool, true, false, ◌&&◌, if◌then◌else◌, List, [], ◌∷◌, ◌++◌, length, replicate, get_or}
use Rattle.std.proofs.Common.{refl, ap, sym, ◌∙◌, subst, arith}
use Rattle.std.specs.List.{list_any, All}
use Rattle.std.proofs.lemmas.List.{get_or-replicate, get_or_past, append-nil, length-replicate}
use Rattle.std.proofs.lemmas.Bool.{cases_Bool, cases_lt}
use Rattle.std.proofs.lemmas.List.Elements.{All-cons}
use borrow.Author.Tests.{eqb-true}
use Rattle.bw_strings.specs.declared.strings.StrSet.{StrSet}
use Rattle.bw_strings.specs.Asking.{has_string}
use Rattle.bw_sum.specs.Graph.{graph}
use Rattle.bw_sum.specs.Labels.{AreLabels}
use Rattle.bw_sum.specs.declared.summary.Summary.{Summary}
use Rattle.bw_shape.specs.Nodes.Nodes.{Node, no_node, node_at, among}
use Rattle.bw_shape.specs.Nodes.Fits.{Fits, AreStrings}
use Rattle.bw_shape.specs.Nodes.Parts.{links_of, opens_of, sayings_of, gaps_of, wordy_of, grown, link_part, open_part, said_part, GrowsNodes, GrowsSaid}
use Rattle.bw_shape.proofs.Nodes.Members.{links_are, opens_are, strings_are, said_to, saying_from, wordy_to, wording_from, label_is}

-- of a template past the last one nothing is said
not_equal : (a n rows : ℕ) → a < rows → rows ≤ n → (a == n) ≡ false
not_equal a n rows l h = elim (cases_Bool (a == n)) [
  | inl it ↦ let e = eqb-true a n it in absurd (omega (arith, e, l, h))
  | inr isnt ↦ isnt
]

links_past : (n rows : ℕ) (edges : List (ℕ × ℕ × ℕ)) → rows ≤ n → All (λ e. e.0 < rows) edges → links_of n edges ≡ []
links_past n rows [] h a = refl
links_past n rows (e ∷ es) h a =
    ap (λ b. if b then (e.1, e.2) ∷ links_of n es else links_of n es) (not_equal e.0 n rows (a 0 e (omega arith)) h)
    ∙ links_past n rows es h (λ k d l. a (suc k) d (omega (arith, l)))

all_if : {X : Type 0} (P : X → Type 0) (b : Bool) (x : X) (xs : List X) → P x → All P xs → All P (if b then x ∷ xs else xs)
all_if P true x xs p q = All-cons P x xs p q
all_if P false x xs p q = q

-- the links lead where the edges do
links_small : (n rows : ℕ) (edges : List (ℕ × ℕ × ℕ)) → All (λ e. e.2 < rows) edges → All (λ l. l.1 < rows) (links_of n edges)
links_small n rows [] a = λ i d h. absurd (omega (arith, h))
links_small n rows (e ∷ es) a = all_if (λ l. l.1 < rows) (e.0 == n) (e.1, e.2) (links_of n es) (a 0 e (omega arith))
    (links_small n rows es (λ k d l. a (suc k) d (omega (arith, l))))

opens_past : (n rows : ℕ) (tracks : List (ℕ × ℕ)) → rows ≤ n → All (λ t. t.1 < rows) tracks → opens_of n tracks ≡ []
opens_past n rows [] h a = refl
opens_past n rows (t ∷ ts) h a =
    ap (λ b. if b then t.0 ∷ opens_of n ts else opens_of n ts) (not_equal t.1 n rows (a 0 t (omega arith)) h)
    ∙ opens_past n rows ts h (λ k d l. a (suc k) d (omega (arith, l)))

sayings_past : (n rows : ℕ) (labels : List ((ℕ × ℕ) × StrSet)) → rows ≤ n → All (λ l. l.0.0 < rows) labels → sayings_of n labels ≡ []
sayings_past n rows [] h a = refl
sayings_past n rows (l ∷ ls) h a =
    ap (λ b. if b then (l.0.1, l.1) ∷ sayings_of n ls else sayings_of n ls) (not_equal l.0.0 n rows (a 0 l (omega arith)) h)
    ∙ sayings_past n rows ls h (λ k d m. a (suc k) d (omega (arith, m)))

module _ (rows : ℕ) (literals : List (List ℕ)) (s : Summary) (n0 n1 n2 n3 : List Node) (start : n0 ≡ replicate rows no_node)
    (edges : GrowsNodes n0 n1 (link_part s.edges)) (tracks : GrowsNodes n1 n2 (open_part s.tracks)) (labels : GrowsNodes n2 n3 (said_part literals s.texts))
    (few_edges : All (λ e. e.0 < rows) s.edges) (few_tracks : All (λ t. t.1 < rows) s.tracks) (few_labels : All (λ l. l.0.0 < rows) s.texts)
    (held : AreLabels s.texts) where
  len : length n0 ≡ rows
  len = ap length start ∙ length-replicate rows no_node

  pub rows_are : length n3 ≡ rows
  rows_are = labels.len ∙ tracks.len ∙ edges.len ∙ len

  -- what is said of a template
  whole : (n : ℕ) → n < rows → node_at n3 n ≡ grown (grown (grown no_node (link_part s.edges n)) (open_part s.tracks n)) (said_part literals s.texts n)
  whole n l =
      let l0 : n < length n0 = omega (arith, l, len) in
      let l1 : n < length n1 = omega (arith, l0, edges.len) in
      let l2 : n < length n2 = omega (arith, l1, tracks.len) in
      labels.each n l2 ∙ ap (λ x. grown x (said_part literals s.texts n))
      (tracks.each n l1 ∙ ap (λ x. grown x (open_part s.tracks n))
      (edges.each n l0 ∙ ap (λ x. grown x (link_part s.edges n)) (ap (λ xs. get_or xs n no_node) start ∙ get_or-replicate rows n no_node no_node l)))

  past : (n : ℕ) → rows ≤ n → node_at n3 n ≡ no_node
  past n l = get_or_past n3 n no_node (omega (arith, l, rows_are))

  links_eq : (n : ℕ) → (node_at n3 n).links ≡ links_of n s.edges
  links_eq n = elim (cases_lt n rows) [
    | inl l ↦ ap (λ x. x.links) (whole n l) ∙ append-nil (links_of n s.edges ++ []) ∙ append-nil (links_of n s.edges)
    | inr l ↦ ap (λ x. x.links) (past n l) ∙ sym (links_past n rows s.edges l few_edges)
  ]

  opens_eq : (n : ℕ) → (node_at n3 n).open_gaps ≡ opens_of n s.tracks
  opens_eq n = elim (cases_lt n rows) [
    | inl l ↦ ap (λ x. x.open_gaps) (whole n l) ∙ append-nil (opens_of n s.tracks)
    | inr l ↦ ap (λ x. x.open_gaps) (past n l) ∙ sym (opens_past n rows s.tracks l few_tracks)
  ]

  said_eq : (n : ℕ) → (node_at n3 n).said ≡ gaps_of (sayings_of n s.texts)
  said_eq n = elim (cases_lt n rows) [
    | inl l ↦ ap (λ x. x.said) (whole n l)
    | inr l ↦ ap (λ x. x.said) (past n l) ∙ sym (ap gaps_of (sayings_past n rows s.texts l few_labels))
  ]

  wordy_eq : (n : ℕ) → (node_at n3 n).wordy ≡ wordy_of literals (sayings_of n s.texts)
  wordy_eq n = elim (cases_lt n rows) [
    | inl l ↦ ap (λ x. x.wordy) (whole n l)
    | inr l ↦ ap (λ x. x.wordy) (past n l) ∙ sym (ap (wordy_of literals) (sayings_past n rows s.texts l few_labels))
  ]

  pub small_links : All (λ e. e.2 < rows) s.edges → (n : ℕ) → All (λ l. l.1 < rows) (node_at n3 n).links
  small_links h n = subst (λ ls. All (λ l. l.1 < rows) ls) (sym (links_eq n)) (links_small n rows s.edges h)

  pub fits : Fits n3 (graph literals s)
  fits = record {
    edges = λ n g m. ap (list_any (λ l. (l.0 == g) && (l.1 == m))) (links_eq n) ∙ links_are n g m s.edges;
    tracks = λ n g. ap (λ l. among l g) (opens_eq n) ∙ opens_are n g s.tracks;
    said = λ n g h.
        let r = said_to literals n g s.texts held (sym (ap (λ l. among l g) (said_eq n)) ∙ h) in (r.0, sym (label_is literals n g r.0 s.texts held) ∙ r.1);
    saying = λ n g w h. ap (λ l. among l g) (said_eq n) ∙ saying_from literals n g w s.texts (label_is literals n g w s.texts held ∙ h);
    wordy = λ n g h.
        let r = wordy_to literals n g s.texts (sym (ap (λ l. among l g) (wordy_eq n)) ∙ h) in (r.0, sym (label_is literals n g r.0 s.texts held) ∙ r.1, r.2);
    wording = λ n g w h k. ap (λ l. among l g) (wordy_eq n) ∙ wording_from literals n g w s.texts (label_is literals n g w s.texts held ∙ h) k;
  }

pub strings : (rows : ℕ) (literals : List (List ℕ)) (s : Summary) (a b : List (List (ℕ × StrSet))) → a ≡ replicate rows []
    → GrowsSaid a b (λ n. sayings_of n s.texts) → All (λ l. l.0.0 < rows) s.texts
    → AreLabels s.texts → AreStrings b literals (graph literals s)
strings rows literals s a b e g few held n h w =
    let len : length a ≡ rows = ap length e ∙ length-replicate rows [] in
    let is : get_or b n [] ≡ sayings_of n s.texts = elim (cases_lt n rows) [
      | inl l ↦ let m : n < length a = omega (arith, l, len) in g.each n m
          ∙ ap (λ x. x ++ sayings_of n s.texts) (ap (λ xs. get_or xs n []) e ∙ get_or-replicate rows n [] [] l)
      | inr l ↦ get_or_past b n [] (omega (arith, l, len, g.len)) ∙ sym (sayings_past n rows s.texts l few)
    ] in
    sym (label_is literals n h w s.texts held) ∙ strings_are literals n h w s.texts ∙ sym (ap (list_any (λ l. (l.0 == h) && has_string literals l.1 w)) is)
