-- The strings and the names of sessions are short.
use Rattle.std.proofs.Common.{ℕ, ◌≤◌, List, [], ◌∷◌, ◌++◌, length}
use Rattle.std.specs.List.{All}
use Rattle.std.proofs.lemmas.List.Elements.{All-cons, All-nil, All-head, All-tail}
use Rattle.bw_lang.specs.declared.limits.Leaf.TheVariants as leaves
use Rattle.bw_lang.specs.declared.stmt.Receive.{Receive}
use Rattle.bw_lang.specs.Service.Code.{Code, done, declare, assign, if_then, if_else, while_loop, block, for_each, show, exit}
use Rattle.bw_lang.specs.Service.Limits.{term_lengths, pair_lengths, receive_lengths, code_lengths}
use Rattle.bw_lang.specs.Service.Term.{Term, int, truth, string, name, paren, not, neg, binary, call, plug, nothing, Fillings, no_more, filling}
use Rattle.bw_types.proofs.Parts.{all_first, all_behind}
use Rattle.bw_typed.specs.ShortNames.{IsShortName, HasShortNames, HaveShortNames, IsShortReceive, CodeHasShortNames}
use Rattle.bw_typed.specs.ShortStrings.{HasShort, HaveShort, CodeHasShort}

module _ (most : ℕ) where
  -- no number is over the limit
  abbrev pub AreMost : List ℕ → Type 0
  AreMost ns = All (λ n. n ≤ most) ns

  pub both : (a b : List ℕ) → AreMost (a ++ b) → AreMost a × AreMost b
  both a b h = (all_first (λ n. n ≤ most) a b h, all_behind (λ n. n ≤ most) a b h)

  pub this : (n : ℕ) (ns : List ℕ) → AreMost (n ∷ ns) → n ≤ most
  this n ns h = All-head (λ n. n ≤ most) n ns h

  pub next : (n : ℕ) (ns : List ℕ) → AreMost (n ∷ ns) → AreMost ns
  next n ns h = All-tail (λ n. n ≤ most) n ns h

-- ---- strings

mutual
  term_short : (e : Term) → AreMost 16384 (term_lengths leaves.Text e) → HasShort e
  term_short (int n) h = tt
  term_short (truth b) h = tt
  term_short (string s) h = this 16384 (length s) [] h
  term_short (name w) h = tt
  term_short (paren e) h = term_short e h
  term_short (not e) h = term_short e h
  term_short (neg e) h = term_short e h
  term_short (binary op l r) h = let a = both 16384 (term_lengths leaves.Text l) _ h in (term_short l a.0, term_short r a.1)
  term_short (call f e) h = term_short e h
  term_short (plug b ps) h = let a = both 16384 (term_lengths leaves.Text b) _ h in (term_short b a.0, pairs_short ps a.1)
  term_short nothing h = tt

  pairs_short : (ps : Fillings) → AreMost 16384 (pair_lengths leaves.Text ps) → HaveShort ps
  pairs_short no_more h = tt
  pairs_short (filling w e ps) h = let a = both 16384 (term_lengths leaves.Text e) _ h in (term_short e a.0, pairs_short ps a.1)

pub code_short : (c : Code) → AreMost 16384 (code_lengths leaves.Text c) → CodeHasShort c
code_short done h = tt
code_short (declare t w e rest) h = let a = both 16384 (term_lengths leaves.Text e) _ h in (term_short e a.0, code_short rest a.1)
code_short (assign w e rest) h = let a = both 16384 (term_lengths leaves.Text e) _ h in (term_short e a.0, code_short rest a.1)
code_short (if_then t y rest) h =
    let a = both 16384 (term_lengths leaves.Text t) _ h in
    let b = both 16384 (code_lengths leaves.Text y) _ a.1 in
    (term_short t a.0, code_short y b.0, code_short rest b.1)
code_short (if_else t y n rest) h =
    let a = both 16384 (term_lengths leaves.Text t) _ h in
    let b = both 16384 (code_lengths leaves.Text y) _ a.1 in
    let c = both 16384 (code_lengths leaves.Text n) _ b.1 in
    (term_short t a.0, code_short y b.0, code_short n c.0, code_short rest c.1)
code_short (while_loop t y rest) h =
    let a = both 16384 (term_lengths leaves.Text t) _ h in
    let b = both 16384 (code_lengths leaves.Text y) _ a.1 in
    (term_short t a.0, code_short y b.0, code_short rest b.1)
code_short (block y rest) h = let a = both 16384 (code_lengths leaves.Text y) _ h in (code_short y a.0, code_short rest a.1)
code_short (for_each w t y rest) h =
    let a = both 16384 (term_lengths leaves.Text t) _ h in
    let b = both 16384 (code_lengths leaves.Text y) _ a.1 in
    (term_short t a.0, code_short y b.0, code_short rest b.1)
code_short (show p rs rest) h =
    let a = both 16384 (term_lengths leaves.Text p) _ h in let b = both 16384 (receive_lengths leaves.Text rs) _ a.1 in (term_short p a.0, code_short rest b.1)
code_short (exit p rest) h = let a = both 16384 (term_lengths leaves.Text p) _ h in (term_short p a.0, code_short rest a.1)

-- ---- names

pub named : (w : List ℕ) (ns : List ℕ) → AreMost 64 (length w ∷ ns) → IsShortName w × AreMost 64 ns
named w ns h = (this 64 (length w) ns h, next 64 (length w) ns h)

mutual
  term_names : (e : Term) → AreMost 64 (term_lengths leaves.Name e) → HasShortNames e
  term_names (int n) h = tt
  term_names (truth b) h = tt
  term_names (string s) h = tt
  term_names (name w) h = this 64 (length w) [] h
  term_names (paren e) h = term_names e h
  term_names (not e) h = term_names e h
  term_names (neg e) h = term_names e h
  term_names (binary op l r) h = let a = both 64 (term_lengths leaves.Name l) _ h in (term_names l a.0, term_names r a.1)
  term_names (call f e) h = term_names e h
  term_names (plug b ps) h = let a = both 64 (term_lengths leaves.Name b) _ h in (term_names b a.0, pairs_names ps a.1)
  term_names nothing h = tt

  pairs_names : (ps : Fillings) → AreMost 64 (pair_lengths leaves.Name ps) → HaveShortNames ps
  pairs_names no_more h = tt
  pairs_names (filling w e ps) h =
      let n = named w (term_lengths leaves.Name e ++ pair_lengths leaves.Name ps) h in let a = both 64 (term_lengths leaves.Name e) _ n.1 in
      (n.0, term_names e a.0, pairs_names ps a.1)

receives_names : (rs : List Receive) → AreMost 64 (receive_lengths leaves.Name rs) → All IsShortReceive rs
receives_names [] h = All-nil IsShortReceive
receives_names (r ∷ rs) h =
    let t = named r.target (length r.field ∷ receive_lengths leaves.Name rs) h in let f = named r.field (receive_lengths leaves.Name rs) t.1 in
    All-cons IsShortReceive r rs (t.0, f.0) (receives_names rs f.1)

pub code_names : (c : Code) → AreMost 64 (code_lengths leaves.Name c) → CodeHasShortNames c
code_names done h = tt
code_names (declare t w e rest) h =
    let n = named w (term_lengths leaves.Name e ++ code_lengths leaves.Name rest) h in let a = both 64 (term_lengths leaves.Name e) _ n.1 in
    (n.0, term_names e a.0, code_names rest a.1)
code_names (assign w e rest) h =
    let n = named w (term_lengths leaves.Name e ++ code_lengths leaves.Name rest) h in let a = both 64 (term_lengths leaves.Name e) _ n.1 in
    (n.0, term_names e a.0, code_names rest a.1)
code_names (if_then t y rest) h =
    let a = both 64 (term_lengths leaves.Name t) _ h in
    let b = both 64 (code_lengths leaves.Name y) _ a.1 in
    (term_names t a.0, code_names y b.0, code_names rest b.1)
code_names (if_else t y n rest) h =
    let a = both 64 (term_lengths leaves.Name t) _ h in
    let b = both 64 (code_lengths leaves.Name y) _ a.1 in
    let c = both 64 (code_lengths leaves.Name n) _ b.1 in
    (term_names t a.0, code_names y b.0, code_names n c.0, code_names rest c.1)
code_names (while_loop t y rest) h =
    let a = both 64 (term_lengths leaves.Name t) _ h in
    let b = both 64 (code_lengths leaves.Name y) _ a.1 in
    (term_names t a.0, code_names y b.0, code_names rest b.1)
code_names (block y rest) h = let a = both 64 (code_lengths leaves.Name y) _ h in (code_names y a.0, code_names rest a.1)
code_names (for_each w t y rest) h =
    let n = named w (term_lengths leaves.Name t ++ (code_lengths leaves.Name y ++ code_lengths leaves.Name rest)) h in
    let a = both 64 (term_lengths leaves.Name t) _ n.1 in let b = both 64 (code_lengths leaves.Name y) _ a.1 in
    (n.0, term_names t a.0, code_names y b.0, code_names rest b.1)
code_names (show p rs rest) h =
    let a = both 64 (term_lengths leaves.Name p) _ h in let b = both 64 (receive_lengths leaves.Name rs) _ a.1 in
    (term_names p a.0, receives_names rs b.0, code_names rest b.1)
code_names (exit p rest) h = let a = both 64 (term_lengths leaves.Name p) _ h in (term_names p a.0, code_names rest a.1)
