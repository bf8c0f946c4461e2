-- What is read spells the text.
use Rattle.std.proofs.Common.{
  ◌≡◌,
  ℕ,
  ◌+◌,
  ◌≤◌,
  Bool,
  true,
  false,
  IsTrue,
  ◌||◌,
  not,
  cond,
  ◌==◌,
  nat_lt,
  nat_le,
  List,
  [],
  ◌∷◌,
  ◌++◌,
  length,
  Some,
  None,
  refl,
  ap,
  sym,
  ◌∙◌,
  subst,
  arith,
}
use Rattle.std.specs.declared.option.Option.{Option}
use Rattle.std.proofs.lemmas.Bool.{eqb-true, leb-false, ltb-false}
use Rattle.bw_format.specs.declared.pattern.Member.{Member}
use Rattle.bw_format.specs.declared.pattern.Member.TheVariants as member
use Rattle.bw_format.specs.declared.pattern.Class.{Class}
use Rattle.bw_format.specs.declared.pattern.Class.TheVariants as class
use Rattle.bw_format.specs.declared.frame.Frame.{Frame}
use Rattle.bw_format.specs.declared.frame.Groups.{Groups}
use Rattle.bw_format.specs.declared.frame.Times.{Times}
use Rattle.bw_format.specs.declared.frame.Times.TheVariants as time
use Rattle.bw_format.specs.declared.reader.Sign.{Sign}
use Rattle.bw_format.specs.declared.reader.Sign.TheVariants as signs
use Rattle.bw_format.specs.declared.reader.Mode.{Mode}
use Rattle.bw_format.specs.declared.reader.Mode.TheVariants.{Outside, Escape, Inside, Behind, Dash}
use Rattle.bw_format.specs.declared.reader.Reader.{Reader}
use Rattle.bw_format.specs.Pattern.{Pattern, one, sequence, group}
use Rattle.bw_format.specs.Frames as frames
use Rattle.bw_format.specs.Frames.{full_row, behind, whole, fresh, with_atom, times, with_repeated}
use Rattle.bw_format.specs.Signs.{sign, is_plain_sign, is_plain, is_inner}
use Rattle.bw_format.specs.Reading as reading
use Rattle.bw_format.specs.Reading.{at, outside, maybe_outside, piece, bracket, inside, dash, step, run_on, start, finish, finished_in, read}
use Rattle.bw_format.specs.Spelling.{spell, spell_class, spell_member, spell_members, IsMember, AreMembers, IsClass, level, Levelled, nest, Spells}
use Rattle.std.proofs.lemmas.List.{append-nil}
use Rattle.bw_format.specs.declared.limits.TheConstants.{MAX_GROUPS}

-- the characters that are read
abbrev pub shown_mode : Mode → List ℕ → List ℕ
shown_mode Outside rest = rest
shown_mode Escape rest = 92 ∷ rest
shown_mode (Inside ms) rest = 91 ∷ spell_members ms rest
shown_mode (Behind ms c) rest = 91 ∷ spell_members ms (c ∷ rest)
shown_mode (Dash ms c) rest = 91 ∷ spell_members ms (c ∷ 45 ∷ rest)

abbrev pub shown_outer : List Frame → List ℕ → List ℕ
shown_outer [] rest = rest
shown_outer (f ∷ outer) rest = shown_outer outer (spell (whole f) (40 ∷ rest))

abbrev pub shown : Groups → List ℕ → List ℕ
shown g rest = shown_outer g.outer (spell (whole g.frame) rest)

-- what is read is well formed
abbrev pub GoodEarlier : Option Pattern → Type 0
GoodEarlier None = Unit {0}
GoodEarlier (Some p) = (level p ≤ 1) × Levelled p

abbrev pub GoodLast : Option Pattern → Type 0
GoodLast None = Unit {0}
GoodLast (Some p) = (level p ≡ 3) × Levelled p

pub record GoodFrame (f : Frame) : Type 0 where
  pub earlier : GoodEarlier f.earlier
  pub row_level : level f.row ≡ 1
  pub row : Levelled f.row
  pub last : GoodLast f.last

abbrev pub GoodOuter : List Frame → Type 0
GoodOuter [] = Unit {0}
GoodOuter (f ∷ outer) = GoodFrame f × (nest (whole f) + length outer ≤ MAX_GROUPS) × GoodOuter outer

abbrev pub GoodMode : Mode → Type 0
GoodMode Outside = Unit {0}
GoodMode Escape = Unit {0}
GoodMode (Inside ms) = AreMembers ms
GoodMode (Behind ms c) = AreMembers ms × IsTrue (is_inner c)
GoodMode (Dash ms c) = AreMembers ms × IsTrue (is_inner c)

pub record Good (g : Groups) : Type 0 where
  pub outer : GoodOuter g.outer
  pub frame : GoodFrame g.frame
  pub nest : nest (whole g.frame) + length g.outer ≤ MAX_GROUPS

-- the answer, if there is one, is well formed and shows these characters
abbrev pub Follows : (List ℕ → List ℕ) → Option Reader → Type 0
Follows before None = Unit {0}
Follows before (Some r) = Good r.groups × GoodMode r.mode × ((rest : List ℕ) → shown r.groups (shown_mode r.mode rest) ≡ before rest)

good_full_row : (row : Pattern) (last : Option Pattern) → level row ≡ 1 → Levelled row → GoodLast last
    → (level (full_row row last) ≡ 1) × Levelled (full_row row last)
good_full_row row None e h l = (e, h)
good_full_row row (Some p) e h l = (refl, (e, omega (arith, l.0), h, l.1))

good_behind : (e : Option Pattern) (row : Pattern) → GoodEarlier e → level row ≡ 1 → Levelled row → (level (behind e row) ≤ 1) × Levelled (behind e row)
good_behind None row h e l = (omega (arith, e), l)
good_behind (Some p) row h e l = (omega arith, (h.0, e, h.1, l))

good_whole : (f : Frame) → GoodFrame f → (level (whole f) ≤ 1) × Levelled (whole f)
good_whole f h = let r = good_full_row f.row f.last h.row_level h.row h.last in good_behind f.earlier (full_row f.row f.last) h.earlier r.0 r.1

good_fresh : (e : Option Pattern) → GoodEarlier e → GoodFrame (fresh e)
good_fresh e h = record { earlier = h; row_level = refl; row = tt; last = tt }

good_with_atom : (f : Frame) (p : Pattern) → GoodFrame f → level p ≡ 3 → Levelled p → GoodFrame (with_atom f p)
good_with_atom f p h e l =
    let r = good_full_row f.row f.last h.row_level h.row h.last in
    record { earlier = h.earlier; row_level = r.0; row = r.1; last = (e, l) }

-- a piece behind a sequence nests no deeper than either, and is written behind it
nest_piece : (e : Option Pattern) (row p : Pattern) (n : ℕ) → nest (behind e row) + n ≤ MAX_GROUPS → nest p + n ≤ MAX_GROUPS → nest (behind e (sequence row p)) + n ≤ MAX_GROUPS
nest_piece None row p n h k = omega (arith, h, k)
nest_piece (Some e) row p n h k = omega (arith, h, k)

spell_piece : (e : Option Pattern) (row p : Pattern) (rest : List ℕ) → spell (behind e (sequence row p)) rest ≡ spell (behind e row) (spell p rest)
spell_piece None row p rest = refl
spell_piece (Some e) row p rest = refl

-- one more piece that stands alone
atom_follows : (outer : List Frame) (f : Frame) (p : Pattern) (before : List ℕ → List ℕ)
    → GoodOuter outer → GoodFrame f → nest (whole f) + length outer ≤ MAX_GROUPS → level p ≡ 3 → Levelled p → nest p + length outer ≤ MAX_GROUPS
    → ((rest : List ℕ) → shown_outer outer (spell (whole f) (spell p rest)) ≡ before rest)
    → Follows before (Some (outside (record { outer = outer; frame = with_atom f p })))
atom_follows outer f p before o h n e l k b = (
  record { outer = o; frame = good_with_atom f p h e l; nest = nest_piece f.earlier (full_row f.row f.last) p (length outer) n k },
  tt,
  λ rest. ap (shown_outer outer) (spell_piece f.earlier (full_row f.row f.last) p rest) ∙ b rest,
)

class_follows : (g : Groups) (k : Class) (before : List ℕ → List ℕ) → Good g → IsClass k
    → ((rest : List ℕ) → shown g (spell_class k rest) ≡ before rest)
    → Follows before (Some (outside (frames.with_class g k)))
class_follows g k before h i b = atom_follows g.outer g.frame (one k) before h.outer h.frame h.nest refl i (omega (arith, h.nest)) b

nest_times : (t : Times) (p : Pattern) → nest (times t p) ≡ nest p
nest_times time.Star p = refl
nest_times time.Plus p = refl
nest_times time.Optional p = refl

good_times : (t : Times) (p : Pattern) → level p ≡ 3 → Levelled p → (level (times t p) ≡ 2) × Levelled (times t p)
good_times time.Star p e l = (refl, (e, l))
good_times time.Plus p e l = (refl, (e, l))
good_times time.Optional p e l = (refl, (e, l))

-- what the frame holds apart from its last piece nests no deeper
nest_without : (e : Option Pattern) (row p : Pattern) (n : ℕ) → nest (behind e (sequence row p)) + n ≤ MAX_GROUPS → (nest (behind e row) + n ≤ MAX_GROUPS) × (nest p + n ≤ MAX_GROUPS)
nest_without None row p n h = (omega (arith, h), omega (arith, h))
nest_without (Some e) row p n h = (omega (arith, h), omega (arith, h))

repeated_follows : (outer : List Frame) (e : Option Pattern) (row : Pattern) (last : Option Pattern) (t : Times) (sign : ℕ) (before : List ℕ → List ℕ)
    → GoodOuter outer → GoodFrame (record { earlier = e; row = row; last = last }) → nest (behind e (full_row row last)) + length outer ≤ MAX_GROUPS
    → ((p : Pattern) (rest : List ℕ) → spell (times t p) rest ≡ spell p (sign ∷ rest))
    → ((rest : List ℕ) → shown_outer outer (spell (behind e (full_row row last)) (sign ∷ rest)) ≡ before rest)
    → Follows before (maybe_outside (frames.in_groups outer (with_repeated t (record { earlier = e; row = row; last = last }) last)))
repeated_follows outer e row None t sign before o h n s b = tt
repeated_follows outer e row (Some p) t sign before o h n s b =
    let k = nest_without e row p (length outer) n in
    let l = good_times t p h.last.0 h.last.1 in (
      record {
        outer = o;
        frame = record { earlier = h.earlier; row_level = refl; row = (h.row_level, omega (arith, l.0), h.row, l.1); last = tt };
        nest = nest_piece e row (times t p) (length outer) k.0 (omega (arith, nest_times t p, k.1));
      },
      tt,
      λ rest. ap (shown_outer outer) (spell_piece e row (times t p) rest ∙ ap (spell (behind e row)) (s p rest) ∙ sym (spell_piece e row p (sign ∷ rest)))
          ∙ b rest,
    )

opened_follows : (g : Groups) (b : Bool) → nat_le MAX_GROUPS (length g.outer) ≡ b → Good g
    → Follows (λ rest. shown g (40 ∷ rest)) (maybe_outside (cond b None (Some (record { outer = g.frame ∷ g.outer; frame = fresh None }))))
opened_follows g true e h = tt
opened_follows g false e h = (
  record {
    outer = (h.frame, h.nest, h.outer);
    frame = good_fresh None tt;
    nest = omega (arith, leb-false MAX_GROUPS (length g.outer) e);
  },
  tt,
  λ rest. refl,
)

closed_follows : (outer : List Frame) (f : Frame) → GoodOuter outer → GoodFrame f → nest (whole f) + length outer ≤ MAX_GROUPS
    → Follows (λ rest. shown_outer outer (spell (whole f) (41 ∷ rest))) (maybe_outside (frames.closed_in outer f))
closed_follows [] f o h n = tt
closed_follows (around ∷ outer) f o h n =
    let w = good_whole f h in
    atom_follows outer around (group (whole f)) (λ rest. shown_outer (around ∷ outer) (spell (whole f) (41 ∷ rest))) o.2 o.0 o.1 refl w (omega (arith, n))
    (λ rest. refl)

barred_follows : (g : Groups) → Good g → Follows (λ rest. shown g (124 ∷ rest)) (Some (outside (frames.groups_barred g)))
barred_follows g h =
    (record { outer = h.outer; frame = good_fresh (Some (whole g.frame)) (good_whole g.frame h.frame); nest = omega (arith, h.nest) }, tt, λ rest. refl)

are_members : (ms : List Member) (m : Member) → AreMembers ms → IsMember m → AreMembers (ms ++ m ∷ [])
are_members [] m h k = (k, tt)
are_members (n ∷ ms) m h k = (h.0, are_members ms m h.1 k)

spell_more : (ms : List Member) (m : Member) (rest : List ℕ) → spell_members (ms ++ m ∷ []) rest ≡ spell_members ms (spell_member m rest)
spell_more [] m rest = refl
spell_more (n ∷ ms) m rest = ap (spell_member n) (spell_more ms m rest)

cond_follows : (before : List ℕ → List ℕ) (b : Bool) (x y : Option Reader) → (b ≡ true → Follows before x) → (b ≡ false → Follows before y)
    → Follows before (cond b x y)
cond_follows before true x y f g = f refl
cond_follows before false x y f g = g refl

bracket_follows : (g : Groups) (ms : List Member) → Good g → AreMembers ms → Follows (λ rest. shown g (91 ∷ spell_members ms (93 ∷ rest))) (bracket g ms)
bracket_follows g [] h k = tt
bracket_follows g (m ∷ ms) h k = class_follows g (class.OneOf (m ∷ ms)) _ h ((λ e. cc), k) (λ rest. refl)

inside_follows : (g : Groups) (ms : List Member) (c : ℕ) → Good g → AreMembers ms → Follows (λ rest. shown g (91 ∷ spell_members ms (c ∷ rest))) (inside g ms c)
inside_follows g ms c h k =
    cond_follows _ (c == 93) (bracket g ms) (cond (is_inner c) (Some (at g (Behind ms c))) None)
    (λ e. let same : c ≡ 93 = eqb-true c 93 e in
    let P : ℕ → Type 0 = λ d. Follows (λ rest. shown g (91 ∷ spell_members ms (d ∷ rest))) (bracket g ms) in
    subst P (sym same) (bracket_follows g ms h k))
    (λ e. cond_follows _ (is_inner c) (Some (at g (Behind ms c))) None (λ i. (h, (k, i), λ rest. refl)) (λ i. tt))

same_follows : (before after : List ℕ → List ℕ) (r : Option Reader) → ((rest : List ℕ) → before rest ≡ after rest) → Follows before r → Follows after r
same_follows before after None e h = tt
same_follows before after (Some r) e h = (h.0, h.1, λ rest. h.2 rest ∙ e rest)

behind_follows : (g : Groups) (ms : List Member) (first c : ℕ) → Good g → AreMembers ms → IsTrue (is_inner first)
    → Follows (λ rest. shown g (91 ∷ spell_members ms (first ∷ c ∷ rest))) (reading.behind g ms first c)
behind_follows g ms first c h k i =
    cond_follows _ (c == 45) (Some (at g (Dash ms first))) (inside g (ms ++ member.Char first ∷ []) c)
    (λ e. let same : c ≡ 45 = eqb-true c 45 e in (h, (k, i), λ rest. ap (λ d. shown g (91 ∷ spell_members ms (first ∷ d ∷ rest))) (sym same)))
    (λ e. same_follows _ _ (inside g (ms ++ member.Char first ∷ []) c)
    (λ rest. ap (λ l. shown g (91 ∷ l)) (spell_more ms (member.Char first) (c ∷ rest)))
    (inside_follows g (ms ++ member.Char first ∷ []) c h (are_members ms (member.Char first) k i)))

dash_follows : (g : Groups) (ms : List Member) (first c : ℕ) → Good g → AreMembers ms → IsTrue (is_inner first)
    → Follows (λ rest. shown g (91 ∷ spell_members ms (first ∷ 45 ∷ c ∷ rest))) (dash g ms first c)
dash_follows g ms first c h k i =
    cond_follows _ (not (is_inner c) || nat_lt c first) None (Some (at g (Inside (ms ++ member.Range first c ∷ []))))
    (λ e. tt)
    (λ e. let both = neither (is_inner c) (nat_lt c first) e in (
      h,
      are_members ms (member.Range first c) k (i, both.0, ltb-false c first both.1),
      λ rest. ap (λ l. shown g (91 ∷ l)) (spell_more ms
          (member.Range first c) rest),
    ))
  where
    neither : (a b : Bool) → (not a || b) ≡ false → (a ≡ true) × (b ≡ false)
    neither true b e = (refl, e)
    neither false b e = cc

-- the sign tells the character
abbrev pub IsSigned : Sign → ℕ → Type 0
IsSigned signs.Escape c = c ≡ 92
IsSigned signs.Any c = c ≡ 46
IsSigned signs.OpenBracket c = c ≡ 91
IsSigned signs.CloseBracket c = c ≡ 93
IsSigned signs.Open c = c ≡ 40
IsSigned signs.Close c = c ≡ 41
IsSigned signs.Bar c = c ≡ 124
IsSigned signs.Star c = c ≡ 42
IsSigned signs.Plus c = c ≡ 43
IsSigned signs.Optional c = c ≡ 63
IsSigned signs.Plain c = Unit {0}

pick : (b : Bool) (x y : Sign) (c : ℕ) → (b ≡ true → IsSigned x c) → IsSigned y c → IsSigned (cond b x y) c
pick true x y c f h = f refl
pick false x y c f h = h

signed : (c : ℕ) → IsSigned (sign c) c
signed c =
    pick (c == 92) signs.Escape _ c (eqb-true c 92)
    (pick (c == 46) signs.Any _ c (eqb-true c 46)
    (pick (c == 91) signs.OpenBracket _ c (eqb-true c 91)
    (pick (c == 93) signs.CloseBracket _ c (eqb-true c 93)
    (pick (c == 40) signs.Open _ c (eqb-true c 40)
    (pick (c == 41) signs.Close _ c (eqb-true c 41)
    (pick (c == 124) signs.Bar _ c (eqb-true c 124)
    (pick (c == 42) signs.Star _ c (eqb-true c 42)
    (pick (c == 43) signs.Plus _ c (eqb-true c 43)
    (pick (c == 63) signs.Optional signs.Plain c (eqb-true c 63) tt)))))))))

via : (g : Groups) (d c : ℕ) (r : Option Reader) → c ≡ d → Follows (λ rest. shown g (d ∷ rest)) r → Follows (λ rest. shown g (c ∷ rest)) r
via g d c r e h = same_follows _ _ r (λ rest. ap (λ x. shown g (x ∷ rest)) (sym e)) h

piece_follows : (g : Groups) (s : Sign) (c : ℕ) → IsSigned s c → (s ≡ signs.Plain → IsTrue (is_plain c)) → Good g
    → Follows (λ rest. shown g (c ∷ rest)) (piece g s c)
piece_follows g signs.Escape c e p h = via g 92 c (Some (at g Escape)) e (h, tt, λ rest. refl)
piece_follows g signs.Any c e p h = via g 46 c (Some (outside (frames.with_class g class.Any))) e (class_follows g class.Any _ h tt (λ rest. refl))
piece_follows g signs.OpenBracket c e p h = via g 91 c (Some (at g (Inside []))) e (h, tt, λ rest. refl)
piece_follows g signs.CloseBracket c e p h = tt
piece_follows g signs.Open c e p h = via g 40 c (maybe_outside (frames.opened g)) e (opened_follows g (nat_le MAX_GROUPS (length g.outer)) refl h)
piece_follows g signs.Close c e p h = via g 41 c (maybe_outside (frames.closed g)) e (closed_follows g.outer g.frame h.outer h.frame h.nest)
piece_follows g signs.Bar c e p h = via g 124 c (Some (outside (frames.groups_barred g))) e (barred_follows g h)
piece_follows g signs.Star c e p h =
    via g 42 c (maybe_outside (frames.groups_repeated time.Star g)) e
    (repeated_follows g.outer g.frame.earlier g.frame.row g.frame.last time.Star 42 _ h.outer h.frame h.nest (λ q rest. refl) (λ rest. refl))
piece_follows g signs.Plus c e p h =
    via g 43 c (maybe_outside (frames.groups_repeated time.Plus g)) e
    (repeated_follows g.outer g.frame.earlier g.frame.row g.frame.last time.Plus 43 _ h.outer h.frame h.nest (λ q rest. refl) (λ rest. refl))
piece_follows g signs.Optional c e p h =
    via g 63 c (maybe_outside (frames.groups_repeated time.Optional g)) e
    (repeated_follows g.outer g.frame.earlier g.frame.row g.frame.last time.Optional 63 _ h.outer h.frame h.nest (λ q rest. refl) (λ rest. refl))
piece_follows g signs.Plain c e p h = class_follows g (class.Char c) _ h (p refl) (λ rest. refl)

step_follows : (g : Groups) (mode : Mode) (c : ℕ) → Good g → GoodMode mode → Follows (λ rest. shown g (shown_mode mode (c ∷ rest))) (reading.step_in g mode c)
step_follows g Outside c h m = piece_follows g (sign c) c (signed c) (λ e. ap is_plain_sign e) h
step_follows g Escape c h m = class_follows g (class.Escaped c) _ h tt (λ rest. refl)
step_follows g (Inside ms) c h m = inside_follows g ms c h m
step_follows g (Behind ms first) c h m = behind_follows g ms first c h m.0 m.1
step_follows g (Dash ms first) c h m = dash_follows g ms first c h m.0 m.1

-- what follows what is read, is read so too
run_follows : (cs : List ℕ) (before : List ℕ → List ℕ) (r : Option Reader) → Follows before r → Follows (λ rest. before (cs ++ rest)) (run_on cs r)
run_follows [] before r h = h
run_follows (c ∷ cs) before None h = tt
run_follows (c ∷ cs) before (Some r) h =
    run_follows cs (λ rest. before (c ∷ rest)) (step r c)
    (same_follows (λ rest. shown r.groups (shown_mode r.mode (c ∷ rest))) _ (step r c) (λ rest. h.2 (c ∷ rest)) (step_follows r.groups r.mode c h.0 h.1))

-- what ends well is written so
finished_spells : (outer : List Frame) (f : Frame) (text : List ℕ) (p : Pattern) → GoodFrame f → nest (whole f) + length outer ≤ MAX_GROUPS
    → shown_outer outer (spell (whole f) []) ≡ text → frames.finished_in outer f ≡ Some p → Spells text p
finished_spells (around ∷ outer) f text p h n e s = cc
finished_spells [] f text p h n e s =
    let same : whole f ≡ p = cc in
    let P : Pattern → Type 0 = λ q. Spells text q in
    let w = good_whole f h in
    subst P same (sym e, w.0, w.1, omega (arith, n))

mode_spells : (g : Groups) (mode : Mode) (text : List ℕ) (p : Pattern) → Good g → shown g (shown_mode mode []) ≡ text → finished_in g mode ≡ Some p
    → Spells text p
mode_spells g Outside text p h e s = finished_spells g.outer g.frame text p h.frame h.nest e s
mode_spells g Escape text p h e s = cc
mode_spells g (Inside ms) text p h e s = cc
mode_spells g (Behind ms c) text p h e s = cc
mode_spells g (Dash ms c) text p h e s = cc

ends_spells : (text : List ℕ) (r : Option Reader) (p : Pattern) → Follows (λ rest. text ++ rest) r → finish r ≡ Some p → Spells text p
ends_spells text None p h e = cc
ends_spells text (Some r) p h e = mode_spells r.groups r.mode text p h.0 (h.2 [] ∙ append-nil text) e

-- a pattern that is read is spelled by the text
pub sound : (text : List ℕ) (p : Pattern) → read text ≡ Some p → Spells text p
sound text p e =
    let begun : Follows (λ rest. rest) (Some start) =
    (record { outer = tt; frame = good_fresh None tt; nest = omega arith }, tt, λ rest. refl) in
    ends_spells text (run_on text (Some start)) p (run_follows text (λ rest. rest) (Some start) begun) e
