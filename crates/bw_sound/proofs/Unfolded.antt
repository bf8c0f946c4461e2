-- A wrapper's graph, with the title, the target and a document's graph, unfolds to the wrapper filled with these.
use Rattle.std.proofs.Common.{◌≡◌, ℕ, ◌+◌, Bool, true, false, List, refl, sym, ap, ◌∙◌, subst, arith}
use Rattle.std.specs.Prelude.{◌==◌, ◌&&◌, ◌||◌}
use Rattle.std.proofs.lemmas.Bool.{and_from, cond-false, eq-eqb, or_left, or_right}
use Rattle.std.proofs.lemmas.Bool.Decides.{nat_tests}
use Rattle.bw_lang.specs.Document.Forest.{Forest}
use Rattle.bw_lang.specs.Document.Wrappers.{show_wrapper, exit_wrapper}
use Rattle.bw_sum.specs.Graph.{Graph, constant, plugged, plugged_text}
use Rattle.bw_sum.specs.Opening.{opens}
use Rattle.bw_sum.specs.Unfolding.{Fills, end, inside, said, led, Covers, Unfolds, no_more, more, kept, said_in}
use Rattle.bw_sum.proofs.Covering.{fills_more, below_plugged_right}
use Rattle.bw_sound.proofs.Wrapped.{shown, ended}

-- ---- what is open in the wrappers

show_title : (n : ℕ) → opens n (show_wrapper n) ≡ true
show_title n = grind (arith, nat_tests)

show_target : (n : ℕ) → opens (n + 1) (show_wrapper n) ≡ true
show_target n = grind (arith, nat_tests)

show_document : (n : ℕ) → opens (n + 2) (show_wrapper n) ≡ true
show_document n = grind (arith, nat_tests)

exit_title : (n : ℕ) → opens n (exit_wrapper n) ≡ true
exit_title n = grind (arith, nat_tests)

exit_document : (n : ℕ) → opens (n + 2) (exit_wrapper n) ≡ true
exit_document n = grind (arith, nat_tests)

-- ---- members of graphs

-- a gap is tracked until something is plugged there
still_tracked : (B : Graph) (g h m : ℕ) (S : List ℕ → Bool) → (h == g) ≡ false → B.track h m ≡ true → (plugged_text B g S).track h m ≡ true
still_tracked B g h m S e k = cond-false (h == g) false (B.track h m) e ∙ k

-- a string of those that are plugged at a tracked gap is said there
is_said : (B : Graph) (g m : ℕ) (S : List ℕ → Bool) (s : List ℕ) → B.track g m ≡ true → S s ≡ true → (plugged_text B g S).label m g s ≡ true
is_said B g m S s k i =
    or_right (B.label m g s) ((g == g) && (B.track g m && S s))
    (and_from (g == g) (B.track g m && S s) (eq-eqb g g refl) (and_from (B.track g m) (S s) k i))

still_said : (B : Graph) (g h m : ℕ) (S : List ℕ → Bool) (s : List ℕ) → B.label m h s ≡ true → (plugged_text B g S).label m h s ≡ true
still_said B g h m S s k = or_left (B.label m h s) ((h == g) && (B.track g m && S s)) k

said_below : (B A : Graph) (g h m : ℕ) (s : List ℕ) → B.label m h s ≡ true → (plugged B g A).label m h s ≡ true
said_below B A g h m s k = or_left (B.label m h s) (A.label m h s) k

-- a tracked gap leads to each root of what is plugged there
is_led : (B A : Graph) (g n m : ℕ) → B.track g n ≡ true → A.root m ≡ true → (plugged B g A).edge n g m ≡ true
is_led B A g n m k i =
    or_right (B.edge n g m || A.edge n g m) ((g == g) && (B.track g n && A.root m))
    (and_from (g == g) (B.track g n && A.root m) (eq-eqb g g refl) (and_from (B.track g n) (A.root m) k i))

second : (n : ℕ) → (n + 1 == n) ≡ false
second n = grind (arith, nat_tests)

third : (n : ℕ) → (n + 2 == n) ≡ false
third n = grind (arith, nat_tests)

last_two : (n : ℕ) → (n + 2 == n + 1) ≡ false
last_two n = grind (arith, nat_tests)

-- ---- pages

module _ (templates : ℕ → Forest) (gaps : ℕ → Bool) (r n : ℕ) where
  abbrev wrapper : Graph
  wrapper = constant templates gaps r

  is_tracked : (g : ℕ) (t : Forest) → templates r ≡ t → opens g t ≡ true → wrapper.track g r ≡ true
  is_tracked g t e o = and_from (r == r) (opens g (templates r)) (eq-eqb r r refl) (ap (opens g) e ∙ o)

  -- the wrapper with its title
  abbrev pub titled : (List ℕ → Bool) → Graph
  titled S = plugged_text wrapper n S

  -- the page with any of these targets and of these documents
  abbrev pub show_graph : (List ℕ → Bool) → (List ℕ → Bool) → Graph → Graph
  show_graph S R A = plugged (plugged_text (titled S) (n + 1) R) (n + 2) A

  abbrev pub exit_graph : (List ℕ → Bool) → Graph → Graph
  exit_graph S A = plugged (titled S) (n + 2) A

  module _ (S : List ℕ → Bool) (A : Graph) (title : List ℕ) (d : Forest) (has_title : S title ≡ true) (covers : Covers templates gaps A d) where
    pub shown_unfolds : (R : List ℕ → Bool) (target : List ℕ) → R target ≡ true → templates r ≡ show_wrapper n
        → Unfolds templates (show_graph S R A) r (shown title target d)
    shown_unfolds R target has_target e =
        let B = plugged_text (titled S) (n + 1) R in
        let first = is_said wrapper n r S title (is_tracked n (show_wrapper n) e (show_title n)) has_title in
        let title_said = said_below B A (n + 2) n r title (still_said (titled S) (n + 1) n r R title first) in
        let second_tracked = still_tracked wrapper n (n + 1) r S (second n) (is_tracked (n + 1) (show_wrapper n) e (show_target n)) in
        let target_said = said_below B A (n + 2) (n + 1) r target (is_said (titled S) (n + 1) r R target second_tracked has_target) in
        let third_tracked = still_tracked wrapper n (n + 2) r S (third n) (is_tracked (n + 2) (show_wrapper n) e (show_document n)) in
        let document_led = is_led B A (n + 2) r covers.root
        (still_tracked (titled S) (n + 1) (n + 2) r R (last_two n) third_tracked) covers.is_root in
        let document = fills_more (below_plugged_right B A (n + 2)) covers.unfolds in
        let button = inside no_more (inside (more kept (more kept no_more)) end end) end in
        let form = inside (more (said_in target_said) (more kept no_more)) (led document_led document button) end in
        subst (λ t. Fills templates (show_graph S R A) r t (shown title target d)) (sym e)
        (inside no_more (inside no_more (inside no_more (said title_said end) end) (inside no_more form end)) end)

    pub ended_unfolds : templates r ≡ exit_wrapper n → Unfolds templates (exit_graph S A) r (ended title d)
    ended_unfolds e =
        let B = titled S in
        let title_said = said_below B A (n + 2) n r title
        (is_said wrapper n r S title (is_tracked n (exit_wrapper n) e (exit_title n)) has_title) in
        let third_tracked = still_tracked wrapper n (n + 2) r S (third n) (is_tracked (n + 2) (exit_wrapper n) e (exit_document n)) in
        let document_led = is_led B A (n + 2) r covers.root third_tracked covers.is_root in
        let document = fills_more (below_plugged_right B A (n + 2)) covers.unfolds in
        subst (λ t. Fills templates (exit_graph S A) r t (ended title d)) (sym e)
        (inside no_more (inside no_more (inside no_more (said title_said end) end) (inside no_more (led document_led document end) end)) end)
