-- Where no field is missing, the values of each are short.
use Rattle.std.proofs.Common.{◌≡◌, ℕ, ◌≤◌, Bool, true, false, List, [], ◌∷◌, length, Option, Some, None}
use Rattle.std.proofs.Common.{refl, arith}
use Rattle.std.specs.Prelude.{nat_lt, ◌||◌, if◌then◌else◌}
use Rattle.std.specs.List.{All}
use Rattle.std.specs.Option.{option_or}
use Rattle.std.proofs.lemmas.Bool.Decides.{nat_tests}
use Rattle.std.proofs.lemmas.List.Elements.{All-nil, All-cons}
use Rattle.bw_lang.specs.declared.stmt.Kind.{Kind}
use Rattle.bw_lang.specs.declared.stmt.Kind.TheVariants as kinds
use Rattle.bw_lang.specs.Service.Submissions.{values_of}
use Rattle.bw_flow.specs.declared.point.Received.{Received}
use Rattle.bw_typed.specs.ShortStrings.{IsShort}
use Rattle.bw_run.specs.declared.fields.FieldFault.{FieldFault}
use Rattle.bw_run.specs.declared.fields.FieldFault.TheVariants.{TooLong}
use Rattle.bw_run.specs.Code.{AreShort}
use Rattle.bw_run.specs.Missing.{is_long, too_long, string_fault, field_fault, first_missing}

neither : (a b : Bool) → (a || b) ≡ false → (a ≡ false) × (b ≡ false)
neither true b e = cc
neither false b e = (refl, e)

not_long : (n : ℕ) → nat_lt 16384 n ≡ false → n ≤ 16384
not_long n e = grind (arith, nat_tests)

long_short : (vs : List (List ℕ)) → is_long vs ≡ false → AreShort vs
long_short [] e = All-nil IsShort
long_short (v ∷ vs) e =
    let h = neither (nat_lt 16384 (length v)) (is_long vs) e in
    All-cons IsShort v vs (not_long (length v) h.0) (long_short vs h.1)

too_none : (f : ℕ) (vs : List (List ℕ)) → too_long f vs ≡ None → AreShort vs
too_none f vs e = long_short vs (by_test (is_long vs) e)
  where
    by_test : (b : Bool) → (if b then Some (TooLong f) else None) ≡ None → b ≡ false
    by_test true h = cc
    by_test false h = refl

string_none : (f : ℕ) (vs : List (List ℕ)) → string_fault f vs ≡ None → AreShort vs
string_none f [] e = cc
string_none f (v ∷ []) e = too_none f (v ∷ []) e
string_none f (v ∷ (w ∷ vs)) e = cc

field_none : (f : ℕ) (k : Kind) (vs : List (List ℕ)) → field_fault f k vs ≡ None → AreShort vs
field_none f kinds.Strs vs e = too_none f vs e
field_none f kinds.Int vs e = string_none f vs e
field_none f kinds.Bool vs e = string_none f vs e
field_none f kinds.Str vs e = string_none f vs e
field_none f kinds.Html vs e = string_none f vs e

both_none : (a b : Option FieldFault) → option_or a b ≡ None → (a ≡ None) × (b ≡ None)
both_none None b e = (refl, e)
both_none (Some x) b e = cc

pub none_short : (rs : List Received) (form : List (List ℕ × List ℕ)) → first_missing rs form ≡ None → All (λ r. AreShort (values_of r.field form)) rs
none_short [] form e = All-nil (λ r. AreShort (values_of r.field form))
none_short (r ∷ rs) form e =
    let h = both_none (field_fault r.id r.kind (values_of r.field form)) (first_missing rs form) e in
    All-cons (λ r. AreShort (values_of r.field form)) r rs (field_none r.id r.kind (values_of r.field form) h.0) (none_short rs form h.1)
