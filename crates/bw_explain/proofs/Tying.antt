-- The ways of a template's gaps say what the page graph says.
use Rattle.std.proofs.Common.{◌≡◌, ℕ, ◌==◌, Bool, true, false, ◌||◌, ◌&&◌, List, [], ◌∷◌, ◌++◌, map, if◌then◌else◌, length, get_or, set, take, ◌+◌, ◌<◌, ◌≢◌, append-nil, append_assoc}
use Rattle.std.proofs.Common.{refl, ap, sym, ◌∙◌, subst, inl, inr}
use Rattle.std.specs.List.{list_any, All}
use Rattle.std.proofs.lemmas.Bool.{false≢true, eqb-true, eq-eqb, ne_eqb}
use Rattle.std.proofs.lemmas.List.Elements.{All-head, All-tail, All-push}
use Rattle.std.proofs.lemmas.List.{take_more, length-set}
use Rattle.std.proofs.lemmas.List.Folds.{list_any-append}
use Rattle.std.proofs.Math.Bool.{or-false, or_assoc}
use Rattle.bw_lang.specs.Table.Names.{same}
use Rattle.bw_schema.specs.Words.{is_among}
use Rattle.bw_strings.specs.declared.strings.StrSet.{StrSet}
use Rattle.bw_strings.specs.declared.strings.StrSet.TheVariants.{Any, Of}
use Rattle.bw_strings.specs.Asking.{text_of, has_string}
use Rattle.bw_shape.specs.Nodes.Nodes.{Node, node_at, among}
use Rattle.bw_shape.proofs.Nodes.Members.{then_eq}
use Rattle.bw_explain.specs.Building.{is_any, texts_of, free_at, words_at, led_at, way_for, has_way, made, AreMade, HasMore, of_track, of_edge, of_label}
use Rattle.bw_explain.specs.Explained.{Ties}
use Rattle.bw_explain.proofs.Settling.{replaced}
use Rattle.std.proofs.lemmas.Bool.{or_cases, or_left, or_right, and_parts, and_from}
use Rattle.bw_sum.specs.Graph.{graph as summary_graph}
use Rattle.bw_sum.specs.Edges.{edge_cmp}
use Rattle.bw_sum.specs.Labels.{pair_cmp}
use Rattle.bw_sum.specs.declared.summary.Summary.{Summary}
use Rattle.bw_sum.proofs.PartLaws.{is_eq_nat}
use Rattle.bw_solve.specs.Sets.{has}
use Rattle.bw_solve.specs.Tables.{found}
use Rattle.std.specs.Prelude.{cond, slice_index_or}
use Rattle.std.specs.Ordering.{nat_cmp, is_eq, ordering_then}
use Rattle.bw_shape.specs.Nodes.Fits.{Fits, AreStrings}
use Rattle.bw_explain.specs.Ways.{Way, no_way, way_of, ways_at, graph, says}

-- ---- the way that was made

led_is : (g m : ℕ) (links : List (ℕ × ℕ)) → among (led_at g links) m ≡ list_any (λ l. (l.0 == g) && (l.1 == m)) links
led_is g m [] = refl
led_is g m (l ∷ ls) = list_any-append (λ k. k == m) (if l.0 == g then l.1 ∷ [] else []) (led_at g ls) ∙ by (l.0 == g) (led_is g m ls)
  where
    by : (b : Bool) → among (led_at g ls) m ≡ list_any (λ l. (l.0 == g) && (l.1 == m)) ls
        → (list_any (λ k. k == m) (if b then l.1 ∷ [] else []) || list_any (λ k. k == m) (led_at g ls))
        ≡ ((b && (l.1 == m)) || list_any (λ l. (l.0 == g) && (l.1 == m)) ls)
    by true h = ap (λ k. k || list_any (λ k. k == m) (led_at g ls)) (or-false (l.1 == m)) ∙ ap (λ k. (l.1 == m) || k) h
    by false h = h

texts_are : (literals : List (List ℕ)) (ns : List ℕ) (s : List ℕ) → is_among (map (text_of literals) ns) s ≡ list_any (λ n. same (text_of literals n) s) ns
texts_are literals [] s = refl
texts_are literals (n ∷ ns) s = ap (λ k. same (text_of literals n) s || k) (texts_are literals ns s)

set_is : (literals : List (List ℕ)) (x : StrSet) (s : List ℕ) → (is_any x || is_among (texts_of literals x) s) ≡ has_string literals x s
set_is literals Any s = refl
set_is literals (Of ns) s = texts_are literals ns s

mixed : (a b c d : Bool) → ((a || b) || (c || d)) ≡ ((a || c) || (b || d))
mixed true b c d = refl
mixed false true true d = refl
mixed false true false d = refl
mixed false false c d = refl

says_is : (literals : List (List ℕ)) (g : ℕ) (s : List ℕ) (said : List (ℕ × StrSet)) → (free_at g said || is_among (words_at literals g said) s)
    ≡ list_any (λ l. (l.0 == g) && has_string literals l.1 s) said
says_is literals g s [] = refl
says_is literals g s (l ∷ ls) =
    ap (λ k. (((l.0 == g) && is_any l.1) || free_at g ls) || k) (list_any-append (λ w. same w s) (if l.0 == g then texts_of literals l.1 else [])
    (words_at literals g ls))
    ∙ mixed ((l.0 == g) && is_any l.1) (free_at g ls) (is_among (if l.0 == g then texts_of literals l.1 else []) s) (is_among (words_at literals g ls) s)
    ∙ ap (λ k. (((l.0 == g) && is_any l.1) || is_among (if l.0 == g then texts_of literals l.1 else []) s) || k) (says_is literals g s ls)
    ∙ ap (λ k. k || list_any (λ l. (l.0 == g) && has_string literals l.1 s) ls) (by (l.0 == g))
  where
    by : (b : Bool) → ((b && is_any l.1) || is_among (if b then texts_of literals l.1 else []) s) ≡ (b && has_string literals l.1 s)
    by true = set_is literals l.1 s
    by false = refl

pub way_says : (literals : List (List ℕ)) (node : Node) (said : List (ℕ × StrSet)) (g : ℕ) (s : List ℕ) → says (way_for literals node said g) s
    ≡ list_any (λ l. (l.0 == g) && has_string literals l.1 s) said
way_says literals node said g s = says_is literals g s said

pub way_leads : (literals : List (List ℕ)) (node : Node) (said : List (ℕ × StrSet)) (g m : ℕ) → among (way_for literals node said g).led m
    ≡ list_any (λ l. (l.0 == g) && (l.1 == m)) node.links
way_leads literals node said g m = led_is g m node.links

pub words_more : (literals : List (List ℕ)) (g : ℕ) (xs : List (ℕ × StrSet)) (x : ℕ × StrSet) → words_at literals g (xs ++ x ∷ []) ≡ words_at literals g xs
    ++ (if x.0 == g then texts_of literals x.1 else [])
words_more literals g [] x = append-nil (if x.0 == g then texts_of literals x.1 else [])
words_more literals g (y ∷ xs) x = ap (λ l. (if y.0 == g then texts_of literals y.1 else []) ++ l) (words_more literals g xs x)
    ∙ sym (append_assoc (if y.0 == g then texts_of literals y.1 else []) (words_at literals g xs) (if x.0 == g then texts_of literals x.1 else []))

pub led_more : (g : ℕ) (xs : List (ℕ × ℕ)) (x : ℕ × ℕ) → led_at g (xs ++ x ∷ []) ≡ led_at g xs ++ (if x.0 == g then x.1 ∷ [] else [])
led_more g [] x = append-nil (if x.0 == g then x.1 ∷ [] else [])
led_more g (y ∷ xs) x = ap (λ l. (if y.0 == g then y.1 ∷ [] else []) ++ l) (led_more g xs x)
    ∙ sym (append_assoc (if y.0 == g then y.1 ∷ [] else []) (led_at g xs) (if x.0 == g then x.1 ∷ [] else []))

-- ---- the list of ways

pub way_there : (f : ℕ → Way) (ways : List Way) (g : ℕ) → All (λ w. w ≡ f w.at) ways → has_way ways g ≡ true → way_of ways g ≡ f g
way_there f [] g a h = absurd (false≢true h)
way_there f (w ∷ ws) g a h = by (w.at == g) refl h (λ k. way_there f ws g (All-tail (λ w. w ≡ f w.at) w ws a) k)
  where
    by : (b : Bool) → (w.at == g) ≡ b → (b || has_way ws g) ≡ true → (has_way ws g ≡ true → way_of ws g ≡ f g) → (if b then w else way_of ws g) ≡ f g
    by true e k r = All-head (λ w. w ≡ f w.at) w ws a ∙ ap f (eqb-true w.at g e)
    by false e k r = r k

pub way_missing : (ways : List Way) (g : ℕ) → has_way ways g ≡ false → way_of ways g ≡ no_way g
way_missing [] g h = refl
way_missing (w ∷ ws) g h = by (w.at == g) h (λ k. way_missing ws g k)
  where
    by : (b : Bool) → (b || has_way ws g) ≡ false → (has_way ws g ≡ false → way_of ws g ≡ no_way g) → (if b then w else way_of ws g) ≡ no_way g
    by true k r = absurd (false≢true (sym k))
    by false k r = r k

-- ---- one way more

pub made_more : (f : ℕ → Way) (ways new : List Way) (w : Way) (g : ℕ) → All (λ w. w ≡ f w.at) ways → w ≡ f g → w.at ≡ g → new ≡ ways ++ w ∷ []
    → All (λ w. w ≡ f w.at) new
made_more f ways new w g a e at n = subst (All (λ w. w ≡ f w.at)) (sym n) (All-push (λ w. w ≡ f w.at) ways w a (e ∙ ap f (sym at)))

pub has_more : (ways new : List Way) (w : Way) (g h : ℕ) → w.at ≡ g → new ≡ ways ++ w ∷ [] → has_way new h ≡ (has_way ways h || (g == h))
has_more ways new w g h at n = ap (λ l. has_way l h) n ∙ list_any-append (λ w. w.at == h) ways (w ∷ [])
    ∙ ap (λ k. has_way ways h || k) (or-false (w.at == h) ∙ ap (λ k. k == h) at)

pub has_already : (ways : List Way) (g h : ℕ) → has_way ways g ≡ true → has_way ways h ≡ (has_way ways h || (g == h))
has_already ways g h e = by (g == h) refl
  where
    or_true : (b : Bool) → b ≡ true → b ≡ (b || true)
    or_true true k = refl
    or_true false k = k

    by : (b : Bool) → (g == h) ≡ b → has_way ways h ≡ (has_way ways h || b)
    by true k = or_true (has_way ways h) (ap (has_way ways) (sym (eqb-true g h k)) ∙ e)
    by false k = sym (or-false (has_way ways h))

pub more_none : {X : Type 0} (test : ℕ → ℕ → X → Bool) (list : List (List Way)) → HasMore list list (λ m h. list_any (test m h) [])
more_none test list = record { len = refl; each = λ m h. sym (or-false (has_way (ways_at list m) h)) }

pub more_step : {X : Type 0} (test : ℕ → ℕ → X → Bool) (old mid new : List (List Way)) (xs : List X) (i : ℕ) (x : X) → x ≡ get_or xs i x → i < length xs
    → HasMore old mid (λ m h. list_any (test m h) (take i xs)) → HasMore mid new (λ m h. test m h x)
    → HasMore old new (λ m h. list_any (test m h) (take (i + 1) xs))
more_step test old mid new xs i x e l a b = record {
  len = b.len ∙ a.len;
  each = λ m h.
      b.each m h ∙ ap (λ k. k || test m h x) (a.each m h) ∙ or_assoc (has_way (ways_at old m) h) (list_any (test m h) (take i xs)) (test m h x)
      ∙ ap (λ k. has_way (ways_at old m) h || k) (sym (ap (list_any (test m h)) (take_more xs i x l ∙ ap (λ z. take i xs ++ z ∷ []) (sym e))
      ∙ list_any-append (test m h) (take i xs) (x ∷ []) ∙ ap (λ k. list_any (test m h) (take i xs) || k) (or-false (test m h x))));
}

-- at one template
pub made_at : (literals : List (List ℕ)) (nodes : List Node) (said : List (List (ℕ × StrSet))) (old new : List (List Way)) (n : ℕ) (ways : List Way) → new
    ≡ set old n ways → n < length old
    → AreMade literals nodes said old → All (λ w. w ≡ made literals nodes said n w.at) ways → AreMade literals nodes said new
made_at literals nodes said old new n ways e l a h m = subst (λ x. All (λ w. w ≡ made literals nodes said m w.at) (ways_at x m)) (sym e)
    (elim (replaced old n m ways [] l) [
      | inl r ↦ subst (All (λ w. w ≡ made literals nodes said m w.at)) (sym r.1) (subst (λ k. All (λ w. w ≡ made literals nodes said k w.at) ways) (sym r.0) h)
      | inr r ↦ subst (All (λ w. w ≡ made literals nodes said m w.at)) (sym r.1) (a m)
    ])

pub more_at : (old new : List (List Way)) (n g : ℕ) (ways : List Way) → new ≡ set old n ways → n < length old
    → ((h : ℕ) → has_way ways h ≡ (has_way (ways_at old n) h || (g == h)))
    → HasMore old new (λ m h. (n == m) && (g == h))
more_at old new n g ways e l f = record {
  len = ap length e ∙ length-set old n ways;
  each = λ m h. ap (λ x. has_way (ways_at x m) h) e ∙ elim (replaced old n m ways [] l) [
    | inl r ↦ ap (λ x. has_way x h) r.1 ∙ f h ∙ ap (λ k. has_way (ways_at old k) h || (g == h)) (sym r.0)
        ∙ ap (λ b. has_way (ways_at old m) h || (b && (g == h))) (sym (eq-eqb n m (sym r.0)))
    | inr r ↦ ap (λ x. has_way x h) r.1 ∙ sym (or-false (has_way (ways_at old m) h))
        ∙ ap (λ b. has_way (ways_at old m) h || (b && (g == h))) (sym (ne_eqb n m (λ e. r.0 (sym e))))
  ];
}

-- ---- what the summary has, has a way

pair_parts : (p q : ℕ × ℕ) → is_eq (pair_cmp p q) ≡ true → ((p.0 == q.0) ≡ true) × ((p.1 == q.1) ≡ true)
pair_parts p q h = let c = and_parts (is_eq (nat_cmp p.0 q.0)) (is_eq (nat_cmp p.1 q.1)) (sym (then_eq (nat_cmp p.0 q.0) (nat_cmp p.1 q.1)) ∙ h) in
    (sym (is_eq_nat p.0 q.0) ∙ c.0, sym (is_eq_nat p.1 q.1) ∙ c.1)

edge_parts : (p q : ℕ × ℕ × ℕ) → is_eq (edge_cmp p q) ≡ true → ((p.0 == q.0) ≡ true) × ((p.1 == q.1) ≡ true)
edge_parts p q h =
    let c = and_parts (is_eq (ordering_then (nat_cmp p.0 q.0) (nat_cmp p.1 q.1))) (is_eq (nat_cmp p.2 q.2))
    (sym (then_eq (ordering_then (nat_cmp p.0 q.0) (nat_cmp p.1 q.1)) (nat_cmp p.2 q.2)) ∙ h) in
    pair_parts (p.0, p.1) (q.0, q.1) c.0

edge_there : (n g m : ℕ) (edges : List (ℕ × ℕ × ℕ)) → has edge_cmp edges (n, g, m) ≡ true → list_any (of_edge n g) edges ≡ true
edge_there n g m [] h = h
edge_there n g m (e ∷ es) h = elim (or_cases (is_eq (edge_cmp e (n, g, m))) (has edge_cmp es (n, g, m)) h) [
  | inl k ↦ let c = edge_parts e (n, g, m) k in or_left (of_edge n g e) (list_any (of_edge n g) es) (and_from (e.0 == n) (e.1 == g) c.0 c.1)
  | inr k ↦ or_right (of_edge n g e) (list_any (of_edge n g) es) (edge_there n g m es k)
]

track_there : (n g : ℕ) (tracks : List (ℕ × ℕ)) → has pair_cmp tracks (g, n) ≡ true → list_any (of_track n g) tracks ≡ true
track_there n g [] h = h
track_there n g (e ∷ es) h = elim (or_cases (is_eq (pair_cmp e (g, n))) (has pair_cmp es (g, n)) h) [
  | inl k ↦ let c = pair_parts e (g, n) k in or_left (of_track n g e) (list_any (of_track n g) es) (and_from (e.1 == n) (e.0 == g) c.1 c.0)
  | inr k ↦ or_right (of_track n g e) (list_any (of_track n g) es) (track_there n g es k)
]

label_there : (literals : List (List ℕ)) (n g : ℕ) (s : List ℕ) (labels : List ((ℕ × ℕ) × StrSet))
    → has_string literals (found pair_cmp (Of []) labels (n, g)) s ≡ true → list_any (of_label n g) labels ≡ true
label_there literals n g s [] h = h
label_there literals n g s (e ∷ es) h = by (is_eq (pair_cmp e.0 (n, g))) refl h (λ k. label_there literals n g s es k)
  where
    by : (b : Bool) → is_eq (pair_cmp e.0 (n, g)) ≡ b → has_string literals (cond b e.1 (found pair_cmp (Of []) es (n, g))) s ≡ true
        → (has_string literals (found pair_cmp (Of []) es (n, g)) s ≡ true → list_any (of_label n g) es ≡ true)
        → (of_label n g e || list_any (of_label n g) es) ≡ true
    by true k h r = let c = pair_parts e.0 (n, g) k in or_left (of_label n g e) (list_any (of_label n g) es) (and_from (e.0.0 == n) (e.0.1 == g) c.0 c.1)
    by false k h r = or_right (of_label n g e) (list_any (of_label n g) es) (r h)

-- what a way says is what the graph does, where it is there; and where it isn't, the graph says nothing
agrees : (way said graph : Bool) (there : Bool) → (there ≡ true → way ≡ said) → (there ≡ false → way ≡ false) → said ≡ graph → (graph ≡ true → there ≡ true)
    → way ≡ graph
agrees way said graph true f g e h = f refl ∙ e
agrees way said true false f g e h = absurd (false≢true (h refl))
agrees way said false false f g e h = g refl

pub ways_tie : (literals : List (List ℕ)) (nodes : List Node) (said : List (List (ℕ × StrSet))) (page : Summary) (list : List (List Way))
    → Fits nodes (summary_graph literals page) → AreStrings said literals (summary_graph literals page) → AreMade literals nodes said list
    → ((n g : ℕ) → list_any (of_track n g) page.tracks ≡ true → has_way (ways_at list n) g ≡ true)
    → ((n g : ℕ) → list_any (of_edge n g) page.edges ≡ true → has_way (ways_at list n) g ≡ true)
    → ((n g : ℕ) → list_any (of_label n g) page.texts ≡ true → has_way (ways_at list n) g ≡ true)
    → Ties (graph list) (summary_graph literals page)
ways_tie literals nodes said page list fits strings made_is tracks edges labels = record {
  edge = λ n g m. agrees (among (way_of (ways_at list n) g).led m) (list_any (λ l. (l.0 == g) && (l.1 == m)) (node_at nodes n).links)
      (has edge_cmp page.edges (n, g, m)) (has_way (ways_at list n) g)
      (λ h. ap (λ w. among w.led m) (way_there (made literals nodes said n) (ways_at list n) g (made_is n) h)
      ∙ way_leads literals (node_at nodes n) (slice_index_or said n []) g m)
      (λ h. ap (λ w. among w.led m) (way_missing (ways_at list n) g h)) (fits.edges n g m) (λ h. edges n g (edge_there n g m page.edges h));
  label = λ n g s. agrees (says (way_of (ways_at list n) g) s) (list_any (λ l. (l.0 == g) && has_string literals l.1 s) (slice_index_or said n []))
      (has_string literals (found pair_cmp (Of []) page.texts (n, g)) s) (has_way (ways_at list n) g)
      (λ h. ap (λ w. says w s) (way_there (made literals nodes said n) (ways_at list n) g (made_is n) h)
      ∙ way_says literals (node_at nodes n) (slice_index_or said n []) g s)
      (λ h. ap (λ w. says w s) (way_missing (ways_at list n) g h)) (sym (strings n g s)) (λ h. labels n g (label_there literals n g s page.texts h));
  track = λ g n. agrees (way_of (ways_at list n) g).is_open (among (node_at nodes n).open_gaps g) (has pair_cmp page.tracks (g, n)) (has_way (ways_at list n) g)
      (λ h. ap (λ w. w.is_open) (way_there (made literals nodes said n) (ways_at list n) g (made_is n) h))
      (λ h. ap (λ w. w.is_open) (way_missing (ways_at list n) g h)) (fits.tracks n g) (λ h. tracks n g (track_there n g page.tracks h));
}
