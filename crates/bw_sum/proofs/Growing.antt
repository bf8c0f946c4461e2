-- What plugs make grows with their parts.
use Rattle.std.specs.Prelude.{◌≡◌, ℕ, Bool, true, false, ◌||◌, ◌&&◌, cond, if◌then◌else◌, ◌==◌, List, [], ◌∷◌}
use Rattle.std.proofs.Common.{refl, sym, ◌∙◌, subst}
use Rattle.std.specs.Ordering.{nat_cmp}
use Rattle.std.proofs.lemmas.Cmp.{nat_cmp_total}
use Rattle.std.proofs.lemmas.Bool.{false≢true, and_parts, and_from}
use Rattle.bw_solve.specs.Sets.{IsSet, has, is_within}
use Rattle.bw_solve.specs.Lawful.SetLaws.{has_within, within_by}
use Rattle.bw_solve.specs.Tables.{found}
use Rattle.bw_solve.specs.Lawful.TableLaws.{below_by, below_at}
use Rattle.bw_strings.specs.declared.strings.StrSet.{StrSet}
use Rattle.bw_strings.specs.declared.strings.StrSet.TheVariants.{Any, Of}
use Rattle.bw_strings.specs.Strings as strings
use Rattle.bw_strings.specs.Lawful.StringLaws.{strings_lattice, none_least, none_left, none_right}
use Rattle.bw_sum.specs.Labels.{pair_cmp, AreLabels, are_below, both_labels, labels_at}
use Rattle.bw_sum.specs.Lawful.LabelLaws.{pair_cmp_total, labels_lattice}
use Rattle.bw_sum.specs.Edges.{edge_cmp}
use Rattle.bw_sum.proofs.PartLaws.{labels_at_found}
use Rattle.bw_sum.specs.Lawful.SummaryLaws.{edge_cmp_total}
use Rattle.bw_sum.specs.Summaries.{is_below, plugged, plugged_text}
use Rattle.bw_sum.specs.declared.summary.Summary.{Summary}
use Rattle.bw_sum.specs.Graph.{Graph, graph}
use Rattle.bw_sum.specs.Laws.{BelowByMembers, PlugGrows, PlugTextGrows}
use Rattle.bw_strings.proofs.Members.{below_by_strings}
use Rattle.bw_sum.proofs.GraphLaws.{plugs, plugs_text, new_are}

pub or_more : (a b c d : Bool) → (a ≡ true → c ≡ true) → (b ≡ true → d ≡ true) → (a || b) ≡ true → (c || d) ≡ true
or_more true b c d h k e = subst (λ z. (z || d) ≡ true) (sym (h refl)) refl
or_more false b true d h k e = refl
or_more false b false d h k e = k e

pub and_more : (a b c d : Bool) → (a ≡ true → c ≡ true) → (b ≡ true → d ≡ true) → (a && b) ≡ true → (c && d) ≡ true
and_more true b c d h k e = subst (λ z. (z && d) ≡ true) (sym (h refl)) (k e)
and_more false b c d h k e = absurd (false≢true e)

pub if_more : (t a b c d : Bool) → (a ≡ true → c ≡ true) → (b ≡ true → d ≡ true) → (if t then a else b) ≡ true → (if t then c else d) ≡ true
if_more true a b c d h k e = h e
if_more false a b c d h k e = k e

-- the members of one are members of the other, its labels aside
pub record Grows (G H : Graph) : Type 0 where
  pub root : (n : ℕ) → G.root n ≡ true → H.root n ≡ true
  pub edge : (n g m : ℕ) → G.edge n g m ≡ true → H.edge n g m ≡ true
  pub track : (g n : ℕ) → G.track g n ≡ true → H.track g n ≡ true
  pub lack : (g : ℕ) → G.lack g ≡ true → H.lack g ≡ true

abbrev parts_below : Summary → Summary → Type 0
parts_below a b = (is_within nat_cmp a.roots b.roots ≡ true) × (is_within edge_cmp a.edges b.edges ≡ true) × (are_below a.texts b.texts ≡ true)
    × (is_within pair_cmp a.tracks b.tracks ≡ true) × (is_within nat_cmp a.lacks b.lacks ≡ true)

split : (a b : Summary) → is_below a b ≡ true → parts_below a b
split a b h =
    let p = and_parts (is_within nat_cmp a.roots b.roots) (is_within edge_cmp a.edges b.edges &&
    (are_below a.texts b.texts && (is_within pair_cmp a.tracks b.tracks && is_within nat_cmp a.lacks b.lacks))) h in
    let q = and_parts (is_within edge_cmp a.edges b.edges) (are_below a.texts b.texts &&
    (is_within pair_cmp a.tracks b.tracks && is_within nat_cmp a.lacks b.lacks)) p.1 in
    let r = and_parts (are_below a.texts b.texts) (is_within pair_cmp a.tracks b.tracks && is_within nat_cmp a.lacks b.lacks) q.1 in
    let t = and_parts (is_within pair_cmp a.tracks b.tracks) (is_within nat_cmp a.lacks b.lacks) r.1 in
    (p.0, q.0, r.0, t.0, t.1)

pub grows : (a b : Summary) → is_below a b ≡ true → Grows (graph [] a) (graph [] b)
grows a b h = let p = split a b h in record {
  root = λ n. has_within nat_cmp_total a.roots b.roots n p.0;
  edge = λ n g m. has_within edge_cmp_total a.edges b.edges (n, g, m) p.1;
  track = λ g n. has_within pair_cmp_total a.tracks b.tracks (g, n) p.3;
  lack = λ g. has_within nat_cmp_total a.lacks b.lacks g p.4;
}

whole : (a b : Summary) → Grows (graph [] a) (graph [] b) → are_below a.texts b.texts ≡ true → is_below a b ≡ true
whole a b h t =
    and_from (is_within nat_cmp a.roots b.roots) (is_within edge_cmp a.edges b.edges &&
    (are_below a.texts b.texts && (is_within pair_cmp a.tracks b.tracks && is_within nat_cmp a.lacks b.lacks)))
    (within_by nat_cmp_total a.roots b.roots (λ z. h.root z))
    (and_from (is_within edge_cmp a.edges b.edges) (are_below a.texts b.texts && (is_within pair_cmp a.tracks b.tracks && is_within nat_cmp a.lacks b.lacks))
    (within_by edge_cmp_total a.edges b.edges (λ z. h.edge z.0 z.1 z.2))
    (and_from (are_below a.texts b.texts) (is_within pair_cmp a.tracks b.tracks && is_within nat_cmp a.lacks b.lacks) t
    (and_from (is_within pair_cmp a.tracks b.tracks) (is_within nat_cmp a.lacks b.lacks)
    (within_by pair_cmp_total a.tracks b.tracks (λ z. h.track z.0 z.1))
    (within_by nat_cmp_total a.lacks b.lacks (λ z. h.lack z)))))

labels_more : (a b c d : List ((ℕ × ℕ) × StrSet)) → AreLabels a → AreLabels b → AreLabels c → AreLabels d → are_below a c ≡ true
    → are_below b d ≡ true → are_below (both_labels a b) (both_labels c d) ≡ true
labels_more a b c d la lb lc ld p q =
    let L = labels_lattice in
    let lj : AreLabels (both_labels c d) = (L.join_alike c d (lc, ld)).0 in
    L.join_least a b (both_labels c d) (la, lb) (lb, lj)
    (L.below_trans a c (both_labels c d) (la, lc) (lc, lj) p (L.join_left c d (lc, ld)))
    (L.below_trans b d (both_labels c d) (lb, ld) (ld, lj) q (L.join_right c d (lc, ld)))

pub below_by_members : BelowByMembers
below_by_members literals a b s h =
    let p = split a b h in
    let r = grows a b h in record {
      roots = r.root;
      edges = r.edge;
      labels = λ n g t. below_by_strings literals (found pair_cmp (Of []) a.texts (n, g)) (found pair_cmp (Of []) b.texts (n, g)) t
          (below_at pair_cmp_total strings_lattice (Of []) (tt, tt) (λ v w. none_least v) none_left none_right a.texts b.texts (n, g)
          s.1.1.0.0 s.1.1.0.1 p.2);
      tracks = r.track;
      lacks = r.lack;
    }

-- a plug grows with its base and with what is plugged
pub plug_grows : PlugGrows
plug_grows b c g a d s t p q =
    let l = plugs [] b g a ((s.0.0, t.0.0), ((s.1.0.0, t.1.0.0), ((s.1.1.0.0, t.1.1.0.0), ((s.1.1.1.0.0, t.1.1.1.0.0), (s.1.1.1.1.0, t.1.1.1.1.0))))) in
    let r = plugs [] c g d ((s.0.1, t.0.1), ((s.1.0.1, t.1.0.1), ((s.1.1.0.1, t.1.1.0.1), ((s.1.1.1.0.1, t.1.1.1.0.1), (s.1.1.1.1.1, t.1.1.1.1.1))))) in
    let u = grows b c p in
    let v = grows a d q in
    let B = graph [] b in
    let C = graph [] c in
    let A = graph [] a in
    let D = graph [] d in
    whole (plugged b g a) (plugged c g d) (record {
      root = λ n h. u.root n h;
      edge = λ n k m h. r.edge n k m ∙ or_more (B.edge n k m || A.edge n k m) ((k == g) && (B.track g n && A.root m)) (C.edge n k m || D.edge n k m)
          ((k == g) && (C.track g n && D.root m))
          (or_more (B.edge n k m) (A.edge n k m) (C.edge n k m) (D.edge n k m) (u.edge n k m) (v.edge n k m))
          (and_more (k == g) (B.track g n && A.root m) (k == g) (C.track g n && D.root m) (λ e. e)
          (and_more (B.track g n) (A.root m) (C.track g n) (D.root m) (u.track g n) (v.root m)))
          (sym (l.edge n k m) ∙ h);
      track = λ k n h. r.track k n ∙ if_more (k == g) (A.track k n) (B.track k n || A.track k n) (D.track k n) (C.track k n || D.track k n) (v.track k n)
          (or_more (B.track k n) (A.track k n) (C.track k n) (D.track k n) (u.track k n) (v.track k n)) (sym (l.track k n) ∙ h);
      lack = λ k h. r.lack k ∙ if_more (k == g) (A.lack k) (B.lack k && A.lack k) (D.lack k) (C.lack k && D.lack k) (v.lack k)
          (and_more (B.lack k) (A.lack k) (C.lack k) (D.lack k) (u.lack k) (v.lack k)) (sym (l.lack k) ∙ h);
    }) (labels_more b.texts a.texts c.texts d.texts s.1.1.0.0 t.1.1.0.0 s.1.1.0.1 t.1.1.0.1 (split b c p).2 (split a d q).2)

-- strings that may be, at a new label
new_below : (ts us : List (ℕ × ℕ)) (g n k : ℕ) (s r : StrSet) → (has pair_cmp ts (g, n) ≡ true → has pair_cmp us (g, n) ≡ true) → strings.is_below s r ≡ true
    → strings.is_below (cond ((k == g) && has pair_cmp ts (g, n)) s (Of [])) (cond ((k == g) && has pair_cmp us (g, n)) r (Of [])) ≡ true
new_below ts us g n k s r h p = go (k == g) (has pair_cmp ts (g, n)) (has pair_cmp us (g, n)) h
  where
    go : (e b c : Bool) → (b ≡ true → c ≡ true) → strings.is_below (cond (e && b) s (Of [])) (cond (e && c) r (Of [])) ≡ true
    go false b c i = refl
    go true false c i = none_least (cond c r (Of []))
    go true true true i = p
    go true true false i = absurd (false≢true (i refl))

at_new : (ts : List (ℕ × ℕ)) (g n k : ℕ) (s : StrSet) (b : Bool) → strings.is_none s ≡ b
    → found pair_cmp (Of []) (if b then [] else labels_at ts g s) (n, k) ≡ cond ((k == g) && has pair_cmp ts (g, n)) s (Of [])
at_new ts g n k s false e = labels_at_found ts g s n k
at_new ts g n k (Of []) true e = same ((k == g) && has pair_cmp ts (g, n))
  where
    same : (c : Bool) → Of [] ≡ cond c (Of []) (Of [])
    same true = refl
    same false = refl
at_new ts g n k (Of (x ∷ xs)) true e = absurd (false≢true e)
at_new ts g n k Any true e = absurd (false≢true e)

new_more : (ts us : List (ℕ × ℕ)) (g : ℕ) (s r : StrSet) → IsSet pair_cmp ts → IsSet pair_cmp us → strings.IsWellFormed s → strings.IsWellFormed r
    → ((n : ℕ) → has pair_cmp ts (g, n) ≡ true → has pair_cmp us (g, n) ≡ true) → strings.is_below s r ≡ true
    → are_below (if strings.is_none s then [] else labels_at ts g s) (if strings.is_none r then [] else labels_at us g r) ≡ true
new_more ts us g s r i j f e h p =
    below_by pair_cmp_total strings_lattice (Of []) (tt, tt) (λ v w. none_least v) none_left none_right
    (if strings.is_none s then [] else labels_at ts g s) (if strings.is_none r then [] else labels_at us g r)
    (new_are ts g s (strings.is_none s) refl i f) (new_are us g r (strings.is_none r) refl j e)
    (λ k. subst (λ v. strings.is_below v (found pair_cmp (Of []) (if strings.is_none r then [] else labels_at us g r) k) ≡ true)
    (sym (at_new ts g k.0 k.1 s (strings.is_none s) refl))
    (subst (λ v. strings.is_below (cond ((k.1 == g) && has pair_cmp ts (g, k.0)) s (Of [])) v ≡ true) (sym (at_new us g k.0 k.1 r (strings.is_none r) refl))
    (new_below ts us g k.0 k.1 s r (h k.0) p)))

-- a plug of strings grows with its base and with the strings
pub text_grows : PlugTextGrows
text_grows b c g s r i f p q =
    let l = plugs_text [] b g s (
      (i.0.0, i.0.0),
      ((i.1.0.0, i.1.0.0), ((i.1.1.0.0, i.1.1.0.0), ((i.1.1.1.0.0, i.1.1.1.0.0), (i.1.1.1.1.0, i.1.1.1.1.0)))),
    ) f.0 in
    let m = plugs_text [] c g r (
      (i.0.1, i.0.1),
      ((i.1.0.1, i.1.0.1), ((i.1.1.0.1, i.1.1.0.1), ((i.1.1.1.0.1, i.1.1.1.0.1), (i.1.1.1.1.1, i.1.1.1.1.1)))),
    ) f.1 in
    let u = grows b c p in
    let B = graph [] b in
    let C = graph [] c in
    whole (plugged_text b g s) (plugged_text c g r) (record {
      root = λ n h. u.root n h;
      edge = λ n k x h. u.edge n k x h;
      track = λ k n h. m.track k n ∙ if_more (k == g) false (B.track k n) false (C.track k n) (λ e. e) (u.track k n) (sym (l.track k n) ∙ h);
      lack = λ k h. m.lack k ∙ or_more (k == g) (B.lack k) (k == g) (C.lack k) (λ e. e) (u.lack k) (sym (l.lack k) ∙ h);
    }) (labels_more b.texts (if strings.is_none s then [] else labels_at b.tracks g s) c.texts (if strings.is_none r then [] else labels_at c.tracks g r)
    i.1.1.0.0 (new_are b.tracks g s (strings.is_none s) refl i.1.1.1.0.0 f.0) i.1.1.0.1 (new_are c.tracks g r (strings.is_none r) refl i.1.1.1.0.1 f.1)
    (split b c p).2 (new_more b.tracks c.tracks g s r i.1.1.1.0.0 i.1.1.1.0.1 f.0 f.1 (u.track g) q))
