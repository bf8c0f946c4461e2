-- Lists whose values become more.
use Rattle.std.proofs.Common.{◌≡◌, ◌≢◌, inl, inr, ℕ, ◌+◌, ◌<◌, ◌==◌, Bool, true, false, if◌then◌else◌, List, [], ◌∷◌, ◌++◌, length, set, take, get_or}
use Rattle.std.proofs.Common.{append_assoc, refl, ap, sym, ◌∙◌, subst, arith}
use Rattle.std.proofs.lemmas.List.{get_or-set_same, get_or-set_other, length-set, take_more, append-nil}
use Rattle.std.proofs.lemmas.Bool.{false≢true, cases_Bool}
use borrow.Author.Tests.{eqb-true, eq-eqb}
use Rattle.bw_strings.specs.declared.strings.StrSet.{StrSet}
use Rattle.bw_strings.specs.Asking.{blank}
use Rattle.bw_shape.specs.Nodes.Nodes.{Node}
use Rattle.bw_shape.specs.Nodes.Parts.{links_of, opens_of, sayings_of, gaps_of, wordy_of, link_part, open_part, said_part, Grows, GrowsNodes, GrowsSaid}

pub grows_then : {T : Type 0} {op : T → T → T} {d : T} {a b c : List T} {f g : ℕ → T} (h : ℕ → T) → Grows op d a b f → Grows op d b c g
    → ((n : ℕ) (x : T) → op (op x (f n)) (g n) ≡ op x (h n)) → Grows op d a c h
grows_then {op = op} {d = d} {a = a} {b = b} {f = f} {g = g} h p q e = record {
  len = q.len ∙ p.len;
  each = λ n l. let m : n < length b = omega (arith, l, p.len) in q.each n m ∙ ap (λ x. op x (g n)) (p.each n l) ∙ e n (get_or a n d);
}

pub grows_none : {T : Type 0} {op : T → T → T} {d : T} (a : List T) (f : ℕ → T) → ((n : ℕ) (x : T) → op x (f n) ≡ x) → Grows op d a a f
grows_none {d = d} a f e = record { len = refl; each = λ n l. sym (e n (get_or a n d)) }

-- one value became more
pub set_grows : {T : Type 0} (op : T → T → T) (d : T) (b c : List T) (n : ℕ) (x : T) (f : ℕ → T) → n < length b → c ≡ set b n (op (get_or b n d) x) → f n ≡ x
    → ((k : ℕ) → k ≢ n → (y : T) → op y (f k) ≡ y) → Grows op d b c f
set_grows {T = T} op d b c n x f l e is others = record {
  len = ap length e ∙ length-set b n (op (get_or b n d) x);
  each = λ k m. ap (λ xs. get_or xs k d) e ∙ elim (cases_Bool (k == n)) [
    | inl it ↦
        let j = eqb-true k n it in
        ap (λ i. get_or (set b n (op (get_or b n d) x)) i d) j ∙ get_or-set_same b n (op (get_or b n d) x) d l ∙ ap (op (get_or b n d)) (sym is)
        ∙ sym (ap (λ i. op (get_or b i d) (f i)) j)
    | inr isnt ↦
        let j : k ≢ n = λ q. false≢true (sym isnt ∙ eq-eqb k n q) in
        get_or-set_other b n k (op (get_or b n d) x) d j ∙ sym (others k j (get_or b k d))
  ];
}

-- by the parts of a node
pub node_is : {a b c d : List ℕ} {p q : List (ℕ × ℕ)} {e f : List ℕ} → p ≡ q → a ≡ b → c ≡ d → e ≡ f
    → ◌≡◌ {A = Node} (record { links = p; open_gaps = a; said = c; wordy = e }) (record { links = q; open_gaps = b; said = d; wordy = f })
node_is g h j k = λ i. record { links = g i; open_gaps = h i; said = j i; wordy = k i }

-- a list with one item more, where a test says so, and then another list
pub if_cons : {X : Type 0} (b : Bool) (x : X) (all xs ys : List X) → all ≡ xs ++ ys → (if b then x ∷ all else all) ≡ (if b then x ∷ xs else xs) ++ ys
if_cons true x all xs ys e = ap (λ l. x ∷ l) e
if_cons false x all xs ys e = e

links-append : (n : ℕ) (xs ys : List (ℕ × ℕ × ℕ)) → links_of n (xs ++ ys) ≡ links_of n xs ++ links_of n ys
links-append n [] ys = refl
links-append n (e ∷ xs) ys = if_cons (e.0 == n) (e.1, e.2) (links_of n (xs ++ ys)) (links_of n xs) (links_of n ys) (links-append n xs ys)

opens-append : (n : ℕ) (xs ys : List (ℕ × ℕ)) → opens_of n (xs ++ ys) ≡ opens_of n xs ++ opens_of n ys
opens-append n [] ys = refl
opens-append n (t ∷ xs) ys = if_cons (t.1 == n) t.0 (opens_of n (xs ++ ys)) (opens_of n xs) (opens_of n ys) (opens-append n xs ys)

sayings-append : (n : ℕ) (xs ys : List ((ℕ × ℕ) × StrSet)) → sayings_of n (xs ++ ys) ≡ sayings_of n xs ++ sayings_of n ys
sayings-append n [] ys = refl
sayings-append n (l ∷ xs) ys = if_cons (l.0.0 == n) (l.0.1, l.1) (sayings_of n (xs ++ ys)) (sayings_of n xs) (sayings_of n ys) (sayings-append n xs ys)

gaps-append : (xs ys : List (ℕ × StrSet)) → gaps_of (xs ++ ys) ≡ gaps_of xs ++ gaps_of ys
gaps-append [] ys = refl
gaps-append (l ∷ xs) ys = ap (λ k. l.0 ∷ k) (gaps-append xs ys)

if_not_cons : {X : Type 0} (b : Bool) (x : X) (all xs ys : List X) → all ≡ xs ++ ys → (if b then all else x ∷ all) ≡ (if b then xs else x ∷ xs) ++ ys
if_not_cons true x all xs ys e = e
if_not_cons false x all xs ys e = ap (λ l. x ∷ l) e

wordy-append : (literals : List (List ℕ)) (xs ys : List (ℕ × StrSet)) → wordy_of literals (xs ++ ys) ≡ wordy_of literals xs ++ wordy_of literals ys
wordy-append literals [] ys = refl
wordy-append literals (l ∷ xs) ys = if_not_cons (blank literals l.1) l.0 (wordy_of literals (xs ++ ys)) (wordy_of literals xs) (wordy_of literals ys)
    (wordy-append literals xs ys)

two : {X : Type 0} (a f g h : List X) → h ≡ f ++ g → (a ++ f) ++ g ≡ a ++ h
two a f g h e = append_assoc a f g ∙ ap (λ k. a ++ k) (sym e)

nil_two : {X : Type 0} (a : List X) → (a ++ []) ++ [] ≡ a ++ []
nil_two a = append-nil (a ++ [])

-- one edge, one track, one label more
pub edge_more : (xs : List (ℕ × ℕ × ℕ)) (i : ℕ) (x d : ℕ × ℕ × ℕ) (a b c : List Node) → x ≡ get_or xs i d → i < length xs
    → GrowsNodes a b (link_part (take i xs)) → GrowsNodes b c (link_part (x ∷ []))
    → GrowsNodes a c (link_part (take (i + 1) xs))
edge_more xs i x d a b c e h p q =
    subst (λ ys. GrowsNodes a c (link_part ys)) (sym (take_more xs i d h ∙ ap (λ y. take i xs ++ y ∷ []) (sym e)))
    (grows_then (link_part (take i xs ++ x ∷ [])) p q (λ n y.
    node_is (two y.links (links_of n (take i xs)) (links_of n (x ∷ [])) _ (links-append n (take i xs) (x ∷ []))) (nil_two y.open_gaps)
    (nil_two y.said) (nil_two y.wordy)))

pub track_more : (xs : List (ℕ × ℕ)) (i : ℕ) (x d : ℕ × ℕ) (a b c : List Node) → x ≡ get_or xs i d → i < length xs
    → GrowsNodes a b (open_part (take i xs)) → GrowsNodes b c (open_part (x ∷ []))
    → GrowsNodes a c (open_part (take (i + 1) xs))
track_more xs i x d a b c e h p q =
    subst (λ ys. GrowsNodes a c (open_part ys)) (sym (take_more xs i d h ∙ ap (λ y. take i xs ++ y ∷ []) (sym e)))
    (grows_then (open_part (take i xs ++ x ∷ [])) p q (λ n y.
    node_is (nil_two y.links) (two y.open_gaps (opens_of n (take i xs)) (opens_of n (x ∷ [])) _ (opens-append n (take i xs) (x ∷ [])))
    (nil_two y.said) (nil_two y.wordy)))

pub said_more : (literals : List (List ℕ)) (xs : List ((ℕ × ℕ) × StrSet)) (i : ℕ) (x d : (ℕ × ℕ) × StrSet) (a b c : List Node) → x ≡ get_or xs i d
    → i < length xs
    → GrowsNodes a b (said_part literals (take i xs)) → GrowsNodes b c (said_part literals (x ∷ [])) → GrowsNodes a c (said_part literals (take (i + 1) xs))
said_more literals xs i x d a b c e h p q =
    subst (λ ys. GrowsNodes a c (said_part literals ys)) (sym (take_more xs i d h ∙ ap (λ y. take i xs ++ y ∷ []) (sym e)))
    (grows_then (said_part literals (take i xs ++ x ∷ [])) p q (λ n y.
    let s = sayings-append n (take i xs) (x ∷ []) in
    node_is (nil_two y.links) (nil_two y.open_gaps)
    (two y.said (gaps_of (sayings_of n (take i xs))) (gaps_of (sayings_of n (x ∷ []))) _
    (ap gaps_of s ∙ gaps-append (sayings_of n (take i xs)) (sayings_of n (x ∷ []))))
    (two y.wordy (wordy_of literals (sayings_of n (take i xs))) (wordy_of literals (sayings_of n (x ∷ []))) _
    (ap (wordy_of literals) s ∙ wordy-append literals (sayings_of n (take i xs)) (sayings_of n (x ∷ []))))))

pub saying_more : (xs : List ((ℕ × ℕ) × StrSet)) (i : ℕ) (x d : (ℕ × ℕ) × StrSet) (a b c : List (List (ℕ × StrSet))) → x ≡ get_or xs i d → i < length xs
    → GrowsSaid a b (λ n. sayings_of n (take i xs)) → GrowsSaid b c (λ n. sayings_of n (x ∷ [])) → GrowsSaid a c (λ n. sayings_of n (take (i + 1) xs))
saying_more xs i x d a b c e h p q =
    subst (λ ys. GrowsSaid a c (λ n. sayings_of n ys)) (sym (take_more xs i d h ∙ ap (λ y. take i xs ++ y ∷ []) (sym e)))
    (grows_then (λ n. sayings_of n (take i xs ++ x ∷ [])) p q
    (λ n y. two y (sayings_of n (take i xs)) (sayings_of n (x ∷ [])) _ (sayings-append n (take i xs) (x ∷ []))))
