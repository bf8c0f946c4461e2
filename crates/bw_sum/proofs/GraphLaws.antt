-- The operations on summaries, by their members.
use Rattle.std.specs.Prelude.{◌≡◌, ℕ, Bool, true, false, ◌||◌, ◌&&◌, not, cond, if◌then◌else◌, ◌==◌, List, [], ◌∷◌}
use Rattle.std.proofs.Common.{refl, sym, ap, ◌∙◌, arith}
use Rattle.std.specs.declared.cmp.Ordering.TheVariants.{Equal}
use Rattle.std.specs.Ordering.{nat_cmp, is_eq}
use Rattle.std.proofs.lemmas.Cmp.{nat_cmp_total}
use Rattle.std.proofs.lemmas.Bool.{false≢true}
use Rattle.std.proofs.lemmas.Bool.Decides.{nat_tests}
use Rattle.bw_solve.specs.Sets.{IsSet, has, merge, sifted}
use Rattle.bw_solve.specs.Lawful.SetLaws.{merge_has, sifted_has}
use Rattle.bw_solve.specs.Tables.{found}
use Rattle.bw_solve.specs.Lawful.TableLaws.{join_at}
use Rattle.bw_strings.specs.declared.strings.StrSet.{StrSet}
use Rattle.bw_strings.specs.declared.strings.StrSet.TheVariants.{Any, Of}
use Rattle.bw_strings.specs.Strings.{IsWellFormed, is_none}
use Rattle.bw_strings.specs.Lawful.StringLaws.{strings_lattice, none_least, none_left, none_right, below_none}
use Rattle.bw_sum.specs.Labels.{pair_cmp, AreLabels, both_labels, labels_at}
use Rattle.bw_sum.specs.Lawful.LabelLaws.{pair_cmp_total}
use Rattle.bw_sum.specs.Edges.{edge_cmp, edges_at}
use Rattle.bw_sum.proofs.PartLaws.{edges_at_has, labels_at_found, is_eq_then, is_eq_nat, eq_back}
use Rattle.bw_sum.specs.Lawful.SummaryLaws.{edge_cmp_total}
use Rattle.bw_sum.proofs.NewLabels.{labels_at_are}
use Rattle.bw_sum.specs.Laws.{JoinByMembers, PlugByMembers, PlugTextByMembers}
use Rattle.bw_strings.specs.Asking.{has_string}
use Rattle.bw_strings.proofs.Members.{joins_by_strings}
use Rattle.std.proofs.Math.Bool.{and_assoc, or_assoc}

pub labels_both : (literals : List (List ℕ)) (a b : List ((ℕ × ℕ) × StrSet)) (n g : ℕ) (t : List ℕ) → AreLabels a → AreLabels b
    → has_string literals (found pair_cmp (Of []) (both_labels a b) (n, g)) t
    ≡ (has_string literals (found pair_cmp (Of []) a (n, g)) t || has_string literals (found pair_cmp (Of []) b (n, g)) t)
labels_both literals a b n g t p q =
    ap (λ s. has_string literals s t) (join_at pair_cmp_total strings_lattice (Of []) (tt, tt) (λ v h. none_least v) none_left none_right a b (n, g) p q)
    ∙ joins_by_strings literals (found pair_cmp (Of []) a (n, g)) (found pair_cmp (Of []) b (n, g)) t

pub joins : JoinByMembers
joins literals a b h = record {
  root = λ n. merge_has nat_cmp_total a.roots b.roots n;
  edge = λ n g m. merge_has edge_cmp_total a.edges b.edges (n, g, m);
  label = λ n g t. labels_both literals a.texts b.texts n g t h.1.1.0.0 h.1.1.0.1;
  track = λ g n. merge_has pair_cmp_total a.tracks b.tracks (g, n);
  lack = λ g. merge_has nat_cmp_total a.lacks b.lacks g;
}

-- a pair of equal order begins with the same number
first_same : (g : ℕ) (t u : ℕ × ℕ) → pair_cmp t u ≡ Equal → not (t.0 == g) ≡ not (u.0 == g)
first_same g t u e =
    let both_eq : (is_eq (nat_cmp t.0 u.0) && is_eq (nat_cmp t.1 u.1)) ≡ true = sym (is_eq_then (nat_cmp t.0 u.0) (nat_cmp t.1 u.1)) ∙ ap is_eq e in
    let one : (t.0 == u.0) ≡ true = sym (is_eq_nat t.0 u.0) ∙ and_left (is_eq (nat_cmp t.0 u.0)) (is_eq (nat_cmp t.1 u.1)) both_eq in
    let same : t.0 ≡ u.0 = grind (arith, nat_tests) in
    ap (λ k. not (k == g)) same
  where
    and_left : (p q : Bool) → (p && q) ≡ true → p ≡ true
    and_left true q h = refl
    and_left false q h = h

keep_same : (others : List ℕ) (g : ℕ) (x y : ℕ) → nat_cmp x y ≡ Equal → ((x == g) || has nat_cmp others x) ≡ ((y == g) || has nat_cmp others y)
keep_same others g x y e =
    let one : (x == y) ≡ true = sym (is_eq_nat x y) ∙ ap is_eq e in
    let same : x ≡ y = grind (arith, nat_tests) in
    ap (λ k. (k == g) || has nat_cmp others k) same

pub other_tracks : (tracks : List (ℕ × ℕ)) (g h n : ℕ) → has pair_cmp (sifted pair_cmp (λ t. not (t.0 == g)) [] tracks) (h, n) ≡
    (has pair_cmp tracks (h, n) && not (h == g))
other_tracks tracks g h n = sifted_has pair_cmp_total (λ t. not (t.0 == g)) (first_same g) [] tracks (h, n)

pub lacking : (others lacks : List ℕ) (g h : ℕ) → has nat_cmp (sifted nat_cmp (λ k. (k == g) || has nat_cmp others k) [] lacks) h ≡
    (has nat_cmp lacks h && ((h == g) || has nat_cmp others h))
lacking others lacks g h = sifted_has nat_cmp_total (λ k. (k == g) || has nat_cmp others k) (keep_same others g) [] lacks h

tracks_if : (e b a : Bool) → ((b && not e) || a) ≡ (if e then a else (b || a))
tracks_if true true a = refl
tracks_if true false a = refl
tracks_if false true a = refl
tracks_if false false a = refl

lacks_if : (e b a : Bool) → (a && (e || b)) ≡ (if e then a else (b && a))
lacks_if true b true = refl
lacks_if true b false = refl
lacks_if false true true = refl
lacks_if false true false = refl
lacks_if false false true = refl
lacks_if false false false = refl

pub plugs : PlugByMembers
plugs literals b g a s = record {
  root = λ n. refl;
  edge = λ n h m. merge_has edge_cmp_total b.edges (merge edge_cmp a.edges (edges_at [] b.tracks g a.roots)) (n, h, m)
      ∙ ap (λ c. has edge_cmp b.edges (n, h, m) || c) (merge_has edge_cmp_total a.edges (edges_at [] b.tracks g a.roots) (n, h, m))
      ∙ sym (or_assoc (has edge_cmp b.edges (n, h, m)) (has edge_cmp a.edges (n, h, m)) (has edge_cmp (edges_at [] b.tracks g a.roots) (n, h, m)))
      ∙ ap (λ c. (has edge_cmp b.edges (n, h, m) || has edge_cmp a.edges (n, h, m)) || c) (edges_at_has [] b.tracks g a.roots n h m);
  label = λ n h t. labels_both literals b.texts a.texts n h t s.1.1.0.0 s.1.1.0.1;
  track = λ h n. merge_has pair_cmp_total (sifted pair_cmp (λ t. not (t.0 == g)) [] b.tracks) a.tracks (h, n)
      ∙ ap (λ c. c || has pair_cmp a.tracks (h, n)) (other_tracks b.tracks g h n)
      ∙ tracks_if (h == g) (has pair_cmp b.tracks (h, n)) (has pair_cmp a.tracks (h, n));
  lack = λ h. lacking b.lacks a.lacks g h ∙ lacks_if (h == g) (has nat_cmp b.lacks h) (has nat_cmp a.lacks h);
}

chosen_strings : (literals : List (List ℕ)) (c : Bool) (s : StrSet) (t : List ℕ) → has_string literals (cond c s (Of [])) t ≡ (c && has_string literals s t)
chosen_strings literals true s t = refl
chosen_strings literals false s t = refl

-- strings of which none is there
no_strings : (literals : List (List ℕ)) (s : StrSet) (t : List ℕ) → is_none s ≡ true → has_string literals s t ≡ false
no_strings literals Any t h = absurd (false≢true h)
no_strings literals (Of []) t h = refl
no_strings literals (Of (x ∷ xs)) t h = absurd (false≢true h)

false_and : (p q : Bool) → (p && (q && false)) ≡ false
false_and true true = refl
false_and true false = refl
false_and false q = refl

new_label : (literals : List (List ℕ)) (tracks : List (ℕ × ℕ)) (g n h : ℕ) (t : List ℕ) (s : StrSet) (b : Bool) → is_none s ≡ b
    → has_string literals (found pair_cmp (Of []) (if b then [] else labels_at tracks g s) (n, h)) t ≡
    ((h == g) && (has pair_cmp tracks (g, n) && has_string literals s t))
new_label literals tracks g n h t s true e =
    sym (ap (λ c. (h == g) && (has pair_cmp tracks (g, n) && c)) (no_strings literals s t e) ∙ false_and (h == g) (has pair_cmp tracks (g, n)))
new_label literals tracks g n h t s false e =
    ap (λ v. has_string literals v t) (labels_at_found tracks g s n h) ∙ chosen_strings literals ((h == g) && has pair_cmp tracks (g, n)) s t
    ∙ and_assoc (h == g) (has pair_cmp tracks (g, n)) (has_string literals s t)

pub new_are : (tracks : List (ℕ × ℕ)) (g : ℕ) (s : StrSet) (b : Bool) → is_none s ≡ b → IsSet pair_cmp tracks → IsWellFormed s
    → AreLabels (if b then [] else labels_at tracks g s)
new_are tracks g s true e h f = tt
new_are tracks g s false e h f = labels_at_are tracks g s h (f, below_none s ∙ e)

lacks_one : (a e : Bool) → (a || (e || false)) ≡ (e || a)
lacks_one true true = refl
lacks_one true false = refl
lacks_one false true = refl
lacks_one false false = refl

tracks_off : (e b : Bool) → (b && not e) ≡ (if e then false else b)
tracks_off true true = refl
tracks_off true false = refl
tracks_off false true = refl
tracks_off false false = refl

pub plugs_text : PlugTextByMembers
plugs_text literals b g s h f = record {
  root = λ n. refl;
  edge = λ n k m. refl;
  label = λ n k t. labels_both literals b.texts (if is_none s then [] else labels_at b.tracks g s) n k t h.1.1.0.0
      (new_are b.tracks g s (is_none s) refl h.1.1.1.0.0 f)
      ∙ ap (λ c. has_string literals (found pair_cmp (Of []) b.texts (n, k)) t || c) (new_label literals b.tracks g n k t s (is_none s) refl);
  track = λ k n. other_tracks b.tracks g k n ∙ tracks_off (k == g) (has pair_cmp b.tracks (k, n));
  lack = λ k. merge_has nat_cmp_total b.lacks (g ∷ []) k ∙ ap (λ c. has nat_cmp b.lacks k || (c || false)) (is_eq_nat g k ∙ eq_back g k)
      ∙ lacks_one (has nat_cmp b.lacks k) (k == g);
}
