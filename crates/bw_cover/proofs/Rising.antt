-- What is known grows with what is known of names, and a join is above its parts.
use Rattle.std.proofs.Common.{◌≡◌, ℕ, Bool, true, false, List, [], ◌∷◌}
use Rattle.std.specs.Prelude.{◌||◌, ◌&&◌, ◌==◌, if◌then◌else◌}
use Rattle.std.proofs.lemmas.Bool.{or_left, or_right}
use Rattle.bw_lang.specs.declared.expr.Op.{Op}
use Rattle.bw_lang.specs.declared.expr.Op.TheVariants.{Or, And, Eq, Ne, Lt, Le, Gt, Ge, Add, Sub, Mul, Div, Rem}
use Rattle.bw_lang.specs.declared.service.Service.{Service}
use Rattle.bw_lang.specs.declared.stmt.Receive.{Receive}
use Rattle.bw_lang.specs.Table.Names.{same, name_number}
use Rattle.bw_lang.specs.Service.Term.{Term, int, truth, string, name, paren, not as negated, neg, binary, call, plug, nothing, Fillings, no_more, filling}
use Rattle.bw_sum.specs.Graph.{Graph, plugged, plugged_text, IsBelow}
use Rattle.bw_cover.specs.Abstracts.{Abstract, Nothing, Strings, Html, Below, plugged_by, summed_by, combined_by, called_by, known, known_filled}
use Rattle.bw_cover.specs.Facts.{received_by, receives_by}
use Rattle.bw_cover.specs.Least.{join}
use Rattle.bw_sum.proofs.Growing.{or_more, and_more, if_more}

itself : (b : Bool) → b ≡ true → b ≡ true
itself b h = h

pub below_refl : (a : Abstract) → Below a a
below_refl Nothing = tt
below_refl (Strings S) = λ s h. h
below_refl (Html G) = record { roots = λ n h. h; edges = λ n g m h. h; labels = λ n g s h. h; tracks = λ g n h. h; lacks = λ g h. h }

pub below_trans : (a b c : Abstract) → Below a b → Below b c → Below a c
below_trans Nothing Nothing c h k = k
below_trans Nothing (Strings T) c h k = absurd h
below_trans Nothing (Html H) c h k = absurd h
below_trans (Strings S) Nothing Nothing h k = tt
below_trans (Strings S) Nothing (Strings U) h k = absurd k
below_trans (Strings S) Nothing (Html I) h k = absurd k
below_trans (Strings S) (Strings T) Nothing h k = tt
below_trans (Strings S) (Strings T) (Strings U) h k = λ s e. k s (h s e)
below_trans (Strings S) (Strings T) (Html I) h k = absurd k
below_trans (Strings S) (Html H) c h k = absurd h
below_trans (Html G) Nothing Nothing h k = tt
below_trans (Html G) Nothing (Strings U) h k = absurd k
below_trans (Html G) Nothing (Html I) h k = absurd k
below_trans (Html G) (Strings T) c h k = absurd h
below_trans (Html G) (Html H) Nothing h k = tt
below_trans (Html G) (Html H) (Strings U) h k = absurd k
below_trans (Html G) (Html H) (Html I) h k = record {
  roots = λ n e. k.roots n (h.roots n e);
  edges = λ n g m e. k.edges n g m (h.edges n g m e);
  labels = λ n g s e. k.labels n g s (h.labels n g s e);
  tracks = λ g n e. k.tracks g n (h.tracks g n e);
  lacks = λ g e. k.lacks g (h.lacks g e);
}

pub below_nothing : (a : Abstract) → Below a Nothing
below_nothing Nothing = tt
below_nothing (Strings S) = tt
below_nothing (Html G) = tt

pub join_left : (a b : Abstract) → Below a (join a b)
join_left Nothing b = tt
join_left (Strings S) Nothing = tt
join_left (Strings S) (Strings T) = λ s h. or_left (S s) (T s) h
join_left (Strings S) (Html H) = tt
join_left (Html G) Nothing = tt
join_left (Html G) (Strings T) = tt
join_left (Html G) (Html H) = record {
  roots = λ n h. or_left (G.root n) (H.root n) h;
  edges = λ n g m h. or_left (G.edge n g m) (H.edge n g m) h;
  labels = λ n g s h. or_left (G.label n g s) (H.label n g s) h;
  tracks = λ g n h. or_left (G.track g n) (H.track g n) h;
  lacks = λ g h. or_left (G.lack g) (H.lack g) h;
}

pub join_right : (a b : Abstract) → Below b (join a b)
join_right Nothing b = below_nothing b
join_right (Strings S) Nothing = tt
join_right (Strings S) (Strings T) = λ s h. or_right (S s) (T s) h
join_right (Strings S) (Html H) = tt
join_right (Html G) Nothing = tt
join_right (Html G) (Strings T) = tt
join_right (Html G) (Html H) = record {
  roots = λ n h. or_right (G.root n) (H.root n) h;
  edges = λ n g m h. or_right (G.edge n g m) (H.edge n g m) h;
  labels = λ n g s h. or_right (G.label n g s) (H.label n g s) h;
  tracks = λ g n h. or_right (G.track g n) (H.track g n) h;
  lacks = λ g h. or_right (G.lack g) (H.lack g) h;
}

-- ---- plugs

plugged_more : (B C : Graph) (g : ℕ) (A D : Graph) → IsBelow B C → IsBelow A D → IsBelow (plugged B g A) (plugged C g D)
plugged_more B C g A D b a = record {
  roots = b.roots;
  edges = λ n h m. or_more (B.edge n h m || A.edge n h m) ((h == g) && (B.track g n && A.root m)) (C.edge n h m || D.edge n h m)
      ((h == g) && (C.track g n && D.root m))
      (or_more (B.edge n h m) (A.edge n h m) (C.edge n h m) (D.edge n h m) (b.edges n h m) (a.edges n h m))
      (and_more (h == g) (B.track g n && A.root m) (h == g) (C.track g n && D.root m) (itself (h == g))
      (and_more (B.track g n) (A.root m) (C.track g n) (D.root m) (b.tracks g n) (a.roots m)));
  labels = λ n h s. or_more (B.label n h s) (A.label n h s) (C.label n h s) (D.label n h s) (b.labels n h s) (a.labels n h s);
  tracks = λ h n. if_more (h == g) (A.track h n) (B.track h n || A.track h n) (D.track h n) (C.track h n || D.track h n) (a.tracks h n)
      (or_more (B.track h n) (A.track h n) (C.track h n) (D.track h n) (b.tracks h n) (a.tracks h n));
  lacks = λ h. if_more (h == g) (A.lack h) (B.lack h && A.lack h) (D.lack h) (C.lack h && D.lack h) (a.lacks h)
      (and_more (B.lack h) (A.lack h) (C.lack h) (D.lack h) (b.lacks h) (a.lacks h));
}

texted_more : (B C : Graph) (g : ℕ) (S T : List ℕ → Bool) → IsBelow B C → ((s : List ℕ) → S s ≡ true → T s ≡ true)
    → IsBelow (plugged_text B g S) (plugged_text C g T)
texted_more B C g S T b k = record {
  roots = b.roots;
  edges = b.edges;
  labels = λ n h s. or_more (B.label n h s) ((h == g) && (B.track g n && S s)) (C.label n h s) ((h == g) && (C.track g n && T s)) (b.labels n h s)
      (and_more (h == g) (B.track g n && S s) (h == g) (C.track g n && T s) (itself (h == g))
      (and_more (B.track g n) (S s) (C.track g n) (T s) (b.tracks g n) (k s)));
  tracks = λ h n. if_more (h == g) false (B.track h n) false (C.track h n) (λ e. e) (b.tracks h n);
  lacks = λ h. or_more (h == g) (B.lack h) (h == g) (C.lack h) (itself (h == g)) (b.lacks h);
}

plugged_by_more : (a b : Abstract) (g : ℕ) (c d : Abstract) → Below a b → Below c d → Below (plugged_by a g c) (plugged_by b g d)
plugged_by_more a Nothing g c d h k = below_nothing (plugged_by a g c)
plugged_by_more a (Strings T) g c d h k = below_nothing (plugged_by a g c)
plugged_by_more Nothing (Html H) g c d h k = absurd h
plugged_by_more (Strings S) (Html H) g c d h k = absurd h
plugged_by_more (Html G) (Html H) g c Nothing h k = below_nothing (plugged_by (Html G) g c)
plugged_by_more (Html G) (Html H) g Nothing (Strings T) h k = absurd k
plugged_by_more (Html G) (Html H) g (Strings S) (Strings T) h k = texted_more G H g S T h k
plugged_by_more (Html G) (Html H) g (Html A) (Strings T) h k = absurd k
plugged_by_more (Html G) (Html H) g Nothing (Html D) h k = absurd k
plugged_by_more (Html G) (Html H) g (Strings S) (Html D) h k = absurd k
plugged_by_more (Html G) (Html H) g (Html A) (Html D) h k = plugged_more G H g A D h k

-- ---- operators, receives

summed_more : (a b : Abstract) → Below a b → Below (summed_by a) (summed_by b)
summed_more a Nothing h = below_nothing (summed_by a)
summed_more a (Html H) h = below_nothing (summed_by a)
summed_more Nothing (Strings T) h = absurd h
summed_more (Strings S) (Strings T) h = λ s e. e
summed_more (Html G) (Strings T) h = absurd h

combined_more : (op : Op) (a b : Abstract) → Below a b → Below (combined_by op a) (combined_by op b)
combined_more Or a b h = tt
combined_more And a b h = tt
combined_more Eq a b h = tt
combined_more Ne a b h = tt
combined_more Lt a b h = tt
combined_more Le a b h = tt
combined_more Gt a b h = tt
combined_more Ge a b h = tt
combined_more Add a b h = summed_more a b h
combined_more Sub a b h = tt
combined_more Mul a b h = tt
combined_more Div a b h = tt
combined_more Rem a b h = tt

pub received_more : (a b : Abstract) → Below a b → Below (received_by a) (received_by b)
received_more a Nothing h = below_nothing (received_by a)
received_more Nothing (Strings T) h = absurd h
received_more (Strings S) (Strings T) h = λ s e. e
received_more (Html G) (Strings T) h = absurd h
received_more Nothing (Html H) h = absurd h
received_more (Strings S) (Html H) h = absurd h
received_more (Html G) (Html H) h = λ s e. e

receive_more : (t : Bool) (a b : Abstract) → Below a b → Below (if t then received_by a else a) (if t then received_by b else b)
receive_more true a b h = received_more a b h
receive_more false a b h = h

pub receives_more : (rs : List Receive) (w : List ℕ) (a b : Abstract) → Below a b → Below (receives_by rs w a) (receives_by rs w b)
receives_more [] w a b h = h
receives_more (r ∷ rs) w a b h = receives_more rs w (if same w r.target then received_by a else a) (if same w r.target then received_by b else b)
    (receive_more (same w r.target) a b h)

-- ---- expressions

module _ (service : Service) (one other : List ℕ → Abstract) (h : (w : List ℕ) → Below (one w) (other w)) where
  mutual
    pub known_more : (e : Term) → Below (known service one e) (known service other e)
    known_more (int n) = tt
    known_more (truth b) = tt
    known_more (string s) = λ t k. k
    known_more nothing = tt
    known_more (name w) = h w
    known_more (paren e) = known_more e
    known_more (negated e) = tt
    known_more (neg e) = tt
    known_more (call f e) = below_refl (called_by f)
    known_more (binary op l r) = combined_more op (known service one l) (known service other l) (known_more l)
    known_more (plug b ps) = filled_more ps (known service one b) (known service other b) (known_more b)

    filled_more : (ps : Fillings) (a b : Abstract) → Below a b → Below (known_filled service one ps a) (known_filled service other ps b)
    filled_more no_more a b k = k
    filled_more (filling g e ps) a b k =
        filled_more ps (plugged_by a (name_number service.gaps g) (known service one e)) (plugged_by b (name_number service.gaps g) (known service other e))
        (plugged_by_more a b (name_number service.gaps g) (known service one e) (known service other e) k (known_more e))
