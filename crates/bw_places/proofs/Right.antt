-- What comes of seeking a statement.
use Rattle.std.proofs.Common.{◌≡◌, ◌<◌, ◌≤◌, ℕ, zero, suc, ◌+◌, List, [], ◌∷◌, ◌++◌, length, drop, length-append, refl, ap, sym, ◌∙◌, subst, arith, Some}
use Rattle.std.specs.List.{slice_get}
use Rattle.bw_lang.specs.declared.token.Lexeme.{Lexeme}
use Rattle.bw_places.specs.Heads.{Head, spell_head}
use Rattle.bw_places.specs.Seeking.{Sought, Found, Behind, run, past, here}
use Rattle.bw_places.specs.Standing.{Stands}
use Rattle.bw_places.proofs.Dropping.{some_less}

-- the statement n of these, which end in front of this token, was found where it stands; or it isn't among them
abbrev pub Right : List Lexeme → List Head → ℕ → ℕ → Sought → Type 0
Right ls hs n end (Found span) = (h : Head) × (slice_get hs n ≡ Some h) × Stands ls (spell_head h) span
Right ls hs n end (Behind m p) = (n ≡ length hs + m) × (p ≡ end)

-- a member of the first list is one of both, and so is one of the second
pub member_of_first : (hs is : List Head) (n : ℕ) (h : Head) → slice_get hs n ≡ Some h → slice_get (hs ++ is) n ≡ Some h
member_of_first [] is n h e = cc
member_of_first (x ∷ hs) is zero h e = e
member_of_first (x ∷ hs) is (suc n) h e = member_of_first hs is n h e

pub member_of_second : (hs is : List Head) (m : ℕ) → slice_get (hs ++ is) (length hs + m) ≡ slice_get is m
member_of_second [] is m = ap (slice_get is) (omega arith)
member_of_second (x ∷ hs) is m = ap (slice_get (x ∷ (hs ++ is))) (suc_first hs m) ∙ member_of_second hs is m
  where
    suc_first : (hs : List Head) (m : ℕ) → length (x ∷ hs) + m ≡ suc (length hs + m)
    suc_first hs m = omega arith

pub later : (ls : List Lexeme) (hs is : List Head) (n m end : ℕ) (s : Sought) → n ≡ length hs + m → Right ls is m end s → Right ls (hs ++ is) n end s
later ls hs is n m end (Found span) e (h, f, st) = (h, ap (slice_get (hs ++ is)) e ∙ member_of_second hs is m ∙ f, st)
later ls hs is n m end (Behind j p) e (f, g) = (omega (arith, length-append hs is), g)

pub past_right : (ls : List Lexeme) (hs is : List Head) (n mid end : ℕ) (s : Sought) (next : ℕ → ℕ → Sought) → Right ls hs n mid s
    → ((m : ℕ) → Right ls is m end (next m mid)) → Right ls (hs ++ is) n end (past s next)
past_right ls hs is n mid end (Found span) next (h, e, st) r = (h, member_of_first hs is n h e, st)
past_right ls hs is n mid end (Behind m p) next (e, f) r =
    later ls hs is n m end (next m p) e (subst (λ q. Right ls is m end (next m q)) (sym f) (r m))

pub here_right : (ls : List Lexeme) (h : Head) (n at count : ℕ) (k : List Lexeme) → 0 < count → at + count ≤ length ls → drop at ls ≡ spell_head h k
    → drop count (spell_head h k) ≡ k → Right ls (h ∷ []) n (at + count) (here n at count)
here_right ls h zero at count k some inside e d = (
  h,
  refl,
  record {
    some = omega arith;
    inside = inside;
    written = e ∙ ap (spell_head h) (sym (some_less (at + count) at count ls (spell_head h k) k refl e d));
  },
)
here_right ls h (suc n) at count k some inside e d = (omega arith, refl)

-- a statement, and then what follows it
pub first_right : (ls : List Lexeme) (h : Head) (is : List Head) (n at count end : ℕ) (k : List Lexeme) (next : ℕ → ℕ → Sought) → 0 < count
    → at + count ≤ length ls → drop at ls ≡ spell_head h k → drop count (spell_head h k) ≡ k
    → ((m : ℕ) → Right ls is m end (next m (at + count))) → Right ls (h ∷ is) n end (past (here n at count) next)
first_right ls h is n at count end k next some inside e d r =
    past_right ls (h ∷ []) is n (at + count) end (here n at count) next (here_right ls h n at count k some inside e d) r
