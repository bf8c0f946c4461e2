-- Each pattern is read from its spelling.
use Rattle.std.proofs.Common.{
  ◌≡◌,
  ◌≢◌,
  ℕ,
  ◌+◌,
  ◌≤◌,
  Bool,
  true,
  false,
  IsTrue,
  ◌||◌,
  not,
  cond,
  ◌==◌,
  nat_lt,
  nat_le,
  List,
  [],
  ◌∷◌,
  ◌++◌,
  length,
  Some,
  None,
  refl,
  ap,
  sym,
  ◌∙◌,
  arith,
  append_assoc,
}
use Rattle.std.specs.declared.option.Option.{Option}
use Rattle.bw_format.specs.declared.pattern.Member.{Member}
use Rattle.bw_format.specs.declared.pattern.Member.TheVariants as member
use Rattle.bw_format.specs.declared.pattern.Class.{Class}
use Rattle.bw_format.specs.declared.pattern.Class.TheVariants as class
use Rattle.bw_format.specs.declared.frame.Frame.{Frame}
use Rattle.bw_format.specs.declared.frame.Groups.{Groups}
use Rattle.bw_format.specs.declared.reader.Sign.{Sign}
use Rattle.bw_format.specs.declared.reader.Sign.TheVariants as signs
use Rattle.bw_format.specs.declared.reader.Mode.TheVariants.{Inside, Behind, Dash}
use Rattle.bw_format.specs.declared.reader.Reader.{Reader}
use Rattle.bw_format.specs.Pattern.{Pattern, nothing, one, sequence, either, star, plus, optional, group}
use Rattle.bw_format.specs.Frames as frames
use Rattle.bw_format.specs.Frames.{full_row, behind, whole, fresh, with_atom, opened, closed}
use Rattle.bw_format.specs.Signs.{sign, is_plain_sign, is_inner}
use Rattle.bw_format.specs.Reading.{at, outside, piece, bracket, inside, dash, run_on, maybe_outside, finish, read}
use Rattle.bw_format.specs.Spelling.{spell, spell_members, AreMembers, IsClass, level, Levelled, nest, Spells}
use Rattle.std.proofs.lemmas.Bool.{eqb-true, leb-true, le-ltb, false_from_ne_true}
use Rattle.std.proofs.lemmas.List.{append-nil}
use Rattle.bw_format.specs.declared.limits.TheConstants.{MAX_GROUPS}

-- the sign of a plain character
pub plain_sign : (s : Sign) → IsTrue (is_plain_sign s) → s ≡ signs.Plain
plain_sign signs.Plain h = refl
plain_sign signs.Escape h = cc
plain_sign signs.Any h = cc
plain_sign signs.OpenBracket h = cc
plain_sign signs.CloseBracket h = cc
plain_sign signs.Open h = cc
plain_sign signs.Close h = cc
plain_sign signs.Bar h = cc
plain_sign signs.Star h = cc
plain_sign signs.Plus h = cc
plain_sign signs.Optional h = cc

-- a character between brackets isn't one that can't stand there
pub inner_is_not : (c d : ℕ) → IsTrue (is_inner c) → is_inner d ≡ false → (c == d) ≡ false
inner_is_not c d h e =
    false_from_ne_true (c == d) (λ t. let same : c ≡ d = eqb-true c d t in let k : false ≡ true = sym e ∙ ap is_inner (sym same) ∙ h in cc)

second : {A : Type 0} (a b : Bool) (x y z : A) → a ≡ false → b ≡ true → cond a x (cond b y z) ≡ y
second true b x y z e h = cc
second false true x y z e h = refl
second false false x y z e h = cc

neither : {A : Type 0} (a b : Bool) (x y : A) → a ≡ true → b ≡ false → cond (not a || b) x y ≡ y
neither true false x y e h = refl
neither true true x y e h = cc
neither false b x y e h = cc

other : {A : Type 0} (a : Bool) (x y : A) → a ≡ false → cond a x y ≡ y
other false x y e = refl
other true x y e = cc

-- a plain character between brackets is the first of a member
inside_inner : (g : Groups) (ms : List Member) (c : ℕ) → IsTrue (is_inner c) → inside g ms c ≡ Some (at g (Behind ms c))
inside_inner g ms c h = second (c == 93) (is_inner c) (bracket g ms) (Some (at g (Behind ms c))) None (inner_is_not c 93 h refl) h

dash_inner : (g : Groups) (ms : List Member) (low high : ℕ) → IsTrue (is_inner high) → low ≤ high
    → dash g ms low high ≡ Some (at g (Inside (ms ++ member.Range low high ∷ [])))
dash_inner g ms low high h le = neither (is_inner high) (nat_lt high low) None (Some (at g (Inside (ms ++ member.Range low high ∷ [])))) h (le-ltb high low le)

-- what follows a character that is a member takes it as such, unless it is a dash
behind_same : (ns : List Member) (g : Groups) (ms : List Member) (c : ℕ) (rest : List ℕ) → AreMembers ns
    → run_on (spell_members ns (93 ∷ rest)) (Some (at g (Behind ms c))) ≡ run_on (spell_members ns (93 ∷ rest)) (Some (at g (Inside
    (ms ++ member.Char c ∷ []))))
behind_same [] g ms c rest h = refl
behind_same (member.Char d ∷ ns) g ms c rest h =
    ap (run_on (spell_members ns (93 ∷ rest))) (other (d == 45) (Some (at g (Dash ms c))) (inside g (ms ++ member.Char c ∷ []) d) (inner_is_not d 45 h.0 refl))
behind_same (member.Range low high ∷ ns) g ms c rest h =
    ap (run_on (45 ∷ high ∷ spell_members ns (93 ∷ rest))) (other (low == 45) (Some (at g (Dash ms c))) (inside g (ms ++ member.Char c ∷ []) low)
    (inner_is_not low 45 h.0.0 refl))

-- from the members that are read, the others and the end of the bracket
members_read : (ns : List Member) (g : Groups) (ms : List Member) (rest : List ℕ) → AreMembers ns → ms ++ ns ≢ []
    → run_on (spell_members ns (93 ∷ rest)) (Some (at g (Inside ms))) ≡ run_on rest (Some (outside (frames.with_class g (class.OneOf (ms ++ ns)))))
members_read [] g [] rest h some = absurd (some refl)
members_read [] g (m ∷ ms) rest h some = ap (λ l. run_on rest (Some (outside (frames.with_class g (class.OneOf l))))) (sym (append-nil (m ∷ ms)))
members_read (member.Char c ∷ ns) g ms rest h some =
    ap (run_on (spell_members ns (93 ∷ rest))) (inside_inner g ms c h.0)
    ∙ behind_same ns g ms c rest h.1
    ∙ members_read ns g (ms ++ member.Char c ∷ []) rest h.1 (λ e. some (sym (append_assoc ms (member.Char c ∷ []) ns) ∙ e))
    ∙ ap (λ l. run_on rest (Some (outside (frames.with_class g (class.OneOf l))))) (append_assoc ms (member.Char c ∷ []) ns)
members_read (member.Range low high ∷ ns) g ms rest h some =
    ap (run_on (45 ∷ high ∷ spell_members ns (93 ∷ rest))) (inside_inner g ms low h.0.0)
    ∙ ap (run_on (spell_members ns (93 ∷ rest))) (dash_inner g ms low high h.0.1 h.0.2)
    ∙ members_read ns g (ms ++ member.Range low high ∷ []) rest h.1 (λ e. some (sym (append_assoc ms (member.Range low high ∷ []) ns) ∙ e))
    ∙ ap (λ l. run_on rest (Some (outside (frames.with_class g (class.OneOf l))))) (append_assoc ms (member.Range low high ∷ []) ns)

-- the groups with a frame inside them
abbrev pub of : List Frame → Frame → Option Reader
of outer f = Some (outside (record { outer = outer; frame = f }))

-- reading the spelling leads from one frame to another
abbrev pub Leads : Pattern → Frame → Frame → Type 0
Leads p from to = (outer : List Frame) (rest : List ℕ) → nest p + length outer ≤ MAX_GROUPS → run_on (spell p rest) (of outer from) ≡ run_on rest (of outer to)

abbrev pub Atom : Pattern → Type 0
Atom p = (f : Frame) → Leads p f (with_atom f p)

abbrev pub Piece : Pattern → Type 0
Piece p = (f : Frame) → (to : Frame) × (to.earlier ≡ f.earlier) × (full_row to.row to.last ≡ sequence (full_row f.row f.last) p) × Leads p f to

abbrev pub Row : Pattern → Type 0
Row p = (e : Option Pattern) → (to : Frame) × (to.earlier ≡ e) × (full_row to.row to.last ≡ p) × Leads p (fresh e) to

abbrev pub Choice : Pattern → Type 0
Choice p = (to : Frame) × (whole to ≡ p) × Leads p (fresh None) to

class_atom : (k : Class) → IsClass k → Atom (one k)
class_atom (class.Char c) h f outer rest room =
    ap (λ s. run_on rest (piece (record { outer = outer; frame = f }) s c)) (plain_sign (sign c) h)
class_atom (class.Escaped c) h f outer rest room = refl
class_atom class.Any h f outer rest room = refl
class_atom (class.OneOf ms) h f outer rest room = members_read ms (record { outer = outer; frame = f }) [] rest h.1 h.0

atom_piece : (p : Pattern) → Atom p → Piece p
atom_piece p h f = (with_atom f p, refl, refl, h f)

group_atom : (p : Pattern) → Choice p → Atom (group p)
group_atom p h f outer rest room =
    let few : nat_le MAX_GROUPS (length outer) ≡ false = false_from_ne_true (nat_le MAX_GROUPS (length outer)) (λ t. omega (arith, leb-true MAX_GROUPS (length outer) t, room)) in
    ap (λ b. run_on (spell p (41 ∷ rest)) (maybe_outside (cond b None (Some (record { outer = f ∷ outer; frame = fresh None }))))) few
    ∙ h.2 (f ∷ outer) (41 ∷ rest) (omega (arith, room))
    ∙ ap (λ q. run_on rest (of outer (with_atom f (group q)))) h.1

star_piece : (p : Pattern) → Atom p → Piece (star p)
star_piece p h f = (
  record { earlier = f.earlier; row = sequence (full_row f.row f.last) (star p); last = None },
  refl,
  refl,
  λ outer rest room. h f outer
      (42 ∷ rest) room,
)

plus_piece : (p : Pattern) → Atom p → Piece (plus p)
plus_piece p h f = (
  record { earlier = f.earlier; row = sequence (full_row f.row f.last) (plus p); last = None },
  refl,
  refl,
  λ outer rest room. h f outer
      (43 ∷ rest) room,
)

optional_piece : (p : Pattern) → Atom p → Piece (optional p)
optional_piece p h f = (
  record {
    earlier = f.earlier;
    row = sequence (full_row f.row f.last)
        (optional p);
    last = None;
  },
  refl,
  refl,
  λ outer rest room. h f outer (63 ∷ rest) room,
)

nothing_row : Row nothing
nothing_row e = (fresh e, refl, refl, λ outer rest room. refl)

sequence_row : (p q : Pattern) → Row p → Piece q → Row (sequence p q)
sequence_row p q h k e =
    let a = h e in
    let b = k a.0 in (
      b.0,
      b.1 ∙ a.1,
      b.2 ∙ ap (λ r. sequence r q) a.2,
      λ outer rest room. a.3 outer (spell q rest) (omega (arith, room)) ∙ b.3 outer rest (omega (arith, room)),
    )

row_choice : (p : Pattern) → Row p → Choice p
row_choice p h = let a = h None in (a.0, ap (λ e. behind e (full_row a.0.row a.0.last)) a.1 ∙ a.2, a.3)

either_choice : (p q : Pattern) → Choice p → Row q → Choice (either p q)
either_choice p q h k =
    let b = k (Some (whole h.0)) in (
      b.0,
      ap (λ e. behind e (full_row b.0.row b.0.last)) b.1 ∙ ap (λ r. either (whole h.0) r) b.2 ∙ ap (λ r. either r q) h.1,
      λ outer rest room. h.2 outer (124 ∷ spell q rest) (omega (arith, room)) ∙ b.3 outer rest (omega (arith, room)),
    )

pub record Reads (p : Pattern) : Type 0 where
  pub atom : level p ≡ 3 → Atom p
  pub piece : 2 ≤ level p → Piece p
  pub row : level p ≡ 1 → Row p
  pub choice : level p ≤ 1 → Choice p

pub reads : (p : Pattern) → Levelled p → Reads p
reads nothing h = record {
  atom = λ e. absurd (omega (arith, e));
  piece = λ e. absurd (omega (arith, e));
  row = λ e. nothing_row;
  choice = λ e. row_choice nothing nothing_row;
}
reads (one k) h = record {
  atom = λ e. class_atom k h;
  piece = λ e. atom_piece (one k) (class_atom k h);
  row = λ e. absurd (omega (arith, e));
  choice = λ e. absurd (omega (arith, e));
}
reads (sequence p q) h =
    let row : Row (sequence p q) = sequence_row p q ((reads p h.2).row h.0) ((reads q h.3).piece h.1) in
    record {
      atom = λ e. absurd (omega (arith, e));
      piece = λ e. absurd (omega (arith, e));
      row = λ e. row;
      choice = λ e. row_choice (sequence p q) row;
    }
reads (either p q) h = record {
  atom = λ e. absurd (omega (arith, e));
  piece = λ e. absurd (omega (arith, e));
  row = λ e. absurd (omega (arith, e));
  choice = λ e. either_choice p q ((reads p h.2).choice h.0) ((reads q h.3).row h.1);
}
reads (star p) h = record {
  atom = λ e. absurd (omega (arith, e));
  piece = λ e. star_piece p ((reads p h.1).atom h.0);
  row = λ e. absurd (omega (arith, e));
  choice = λ e. absurd (omega (arith, e));
}
reads (plus p) h = record {
  atom = λ e. absurd (omega (arith, e));
  piece = λ e. plus_piece p ((reads p h.1).atom h.0);
  row = λ e. absurd (omega (arith, e));
  choice = λ e. absurd (omega (arith, e));
}
reads (optional p) h = record {
  atom = λ e. absurd (omega (arith, e));
  piece = λ e. optional_piece p ((reads p h.1).atom h.0);
  row = λ e. absurd (omega (arith, e));
  choice = λ e. absurd (omega (arith, e));
}
reads (group p) h =
    let atom : Atom (group p) = group_atom p ((reads p h.1).choice h.0) in
    record {
      atom = λ e. atom;
      piece = λ e. atom_piece (group p) atom;
      row = λ e. absurd (omega (arith, e));
      choice = λ e. absurd (omega (arith, e));
    }

-- a text that spells a pattern is read as this pattern
pub complete : (text : List ℕ) (p : Pattern) → Spells text p → read text ≡ Some p
complete text p h =
    let c = (reads p h.2).choice h.1 in
    ap read h.0 ∙ ap finish (c.2 [] [] (omega (arith, h.3))) ∙ ap Some c.1
