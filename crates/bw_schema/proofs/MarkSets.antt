-- A set of marks, as a list that has them in whatever order.
use Rattle.std.proofs.Common.{◌≡◌, ℕ, Bool, false, not, ◌||◌, List, [], ◌∷◌, map, Option, Some, None, Result, Ok, Err, refl, sym, ap, ◌∙◌, subst}
use Rattle.std.specs.Prelude.{MatchResult, if◌then◌else◌}
use Rattle.std.specs.Bool.{MatchBool}
use Rattle.std.specs.List.{list_any}
use Rattle.std.specs.List.Sorted.{IsPermutation}
use Rattle.std.proofs.lemmas.List.Sorted.{list_any-IsPermutation}
use Rattle.bw_schema.specs.MarkView.{mark_of}
use Rattle.bw_schema.specs.Marks.{AreSame, Mark, declarations, first_missing, first_repeated, repeated, same_mark, uses}
use Rattle.bw_schema.specs.Steps.Judging.{IsFaulty, IsSound, SaysUnknown}
use Rattle.bw_schema.specs.declared.fault.SchemaFault.{SchemaFault}
use Rattle.bw_schema.specs.declared.fault.SchemaFault.TheVariants as fault
use Rattle.bw_schema.specs.declared.lines.Line.{Line}
use Rattle.bw_schema.specs.declared.marks.Mark.{Mark as Held}

-- the mark is that of the code
abbrev pub is_mark : Mark → Held → Bool
is_mark m k = same_mark m (mark_of k)

pub any_marks : (m : Mark) (ks : List Held) → list_any (is_mark m) ks ≡ list_any (same_mark m) (map mark_of ks)
any_marks m [] = refl
any_marks m (k ∷ ks) = ap (λ b. is_mark m k || b) (any_marks m ks)

-- ---- the set

-- keys in another order are the same marks
shuffled : (ks ns : List Held) → IsPermutation ks ns → AreSame (map mark_of ns) (map mark_of ks)
shuffled ks ns p m = sym (any_marks m ns) ∙ sym (list_any-IsPermutation (is_mark m) ks ns p) ∙ any_marks m ks

-- a key that isn't there was put in
pub put : (k : Held) (ks ns : List Held) (added : Bool) → added ≡ not (list_any (is_mark (mark_of k)) ks)
    → list_any (same_mark (mark_of k)) (map mark_of ks) ≡ false → MatchBool added (IsPermutation (k ∷ ks) ns) (ns ≡ ks)
    → AreSame (map mark_of ns) (mark_of k ∷ map mark_of ks)
put k ks ns added is fresh h =
    shuffled (k ∷ ks) ns
    (subst (λ b. MatchBool b (IsPermutation (k ∷ ks) ns) (ns ≡ ks)) (is ∙ ap not (any_marks (mark_of k) ks ∙ fresh)) h)

-- ---- what isn't among them

missing_same : (these those marks : List Mark) → AreSame these those → first_missing these marks ≡ first_missing those marks
missing_same these those [] same = refl
missing_same these those (m ∷ marks) same =
    ap (λ b. if b then first_missing these marks else Some m.name) (same m)
    ∙ ap (λ (o : Option (List ℕ)). if list_any (same_mark m) those then o else Some m.name) (missing_same these those marks same)

-- all that is used is declared
sound : (root : List ℕ) (lines : List Line) (set : List Mark) → repeated lines ≡ None → AreSame set (declarations lines)
    → first_missing set (uses root lines) ≡ None → IsSound root lines
sound root lines set once same none = (once, sym (missing_same set (declarations lines) (uses root lines) same) ∙ none)

-- or it isn't
faulty : (root : List ℕ) (lines : List Line) (set : List Mark) (f : SchemaFault) → repeated lines ≡ None → AreSame set (declarations lines)
    → SaysUnknown (first_missing set (uses root lines)) f → IsFaulty root lines f
faulty root lines set fault.Memory once same says = tt
faulty root lines set (fault.Unknown name) once same says =
    (once, sym (missing_same set (declarations lines) (uses root lines) same) ∙ says)
faulty root lines set fault.Malformed once same says = absurd says
faulty root lines set (fault.Version n) once same says = absurd says
faulty root lines set (fault.Repeated name) once same says = absurd says
faulty root lines set fault.TooLong once same says = absurd says

-- by the set it is found whether it is
pub judged : {A : Type 0} (root : List ℕ) (lines : List Line) (set declared used : List Mark) (r : Result A SchemaFault) → declared ≡ declarations lines
    → used ≡ uses root lines → first_repeated [] declared ≡ None → AreSame set declared
    → MatchResult r (λ x. first_missing set used ≡ None) (SaysUnknown (first_missing set used))
    → MatchResult r (λ x. IsSound root lines) (IsFaulty root lines)
judged root lines set declared used (Ok x) d u once same h =
    sound root lines set (ap (first_repeated []) (sym d) ∙ once) (subst (AreSame set) d same) (ap (first_missing set) (sym u) ∙ h)
judged root lines set declared used (Err f) d u once same h =
    faulty root lines set f (ap (first_repeated []) (sym d) ∙ once) (subst (AreSame set) d same) (subst (λ t. SaysUnknown (first_missing set t) f) u h)
