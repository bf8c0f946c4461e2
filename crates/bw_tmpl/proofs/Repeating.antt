-- Names that stand twice in a list, found with a table of those that were seen.
use Rattle.std.proofs.Common.{◌≡◌, ◌<◌, ◌≤◌, ◌+◌, ℕ, suc, drop, get_or, add-one, drop-cons, Bool, true, false, List, [], ◌∷◌, ◌++◌, length, refl, sym, ap, ◌∙◌}
use Rattle.std.specs.Prelude.{◌||◌, if◌then◌else◌}
use Rattle.std.specs.List.{list_any}
use Rattle.std.proofs.lemmas.Cmp.{nat_list_eq_equiv}
use Rattle.std.proofs.lemmas.List.Folds.{list_any-append}
use Rattle.bw_lang.specs.Table.Names.{same, name_number, with_name}
use Rattle.bw_lang.proofs.TableLaws.{there, not_there}
use Rattle.bw_lang.specs.declared.pieces.RawAttr.{RawAttr}
use Rattle.bw_lang.specs.Template.RepeatedAttributes.{repeated, attr_names}

-- a name was seen, or stands in the list twice
abbrev pub repeated_after : List (List ℕ) → List (List ℕ) → Bool
repeated_after seen [] = false
repeated_after seen (n ∷ names) = list_any (same n) seen || repeated_after (with_name seen n) names

-- a name was seen
abbrev any_seen : List (List ℕ) → List (List ℕ) → Bool
any_seen seen names = list_any (λ n. list_any (same n) seen) names

exchanged : (x y a b : Bool) → ((x || (y || false)) || (a || b)) ≡ ((x || a) || (y || b))
exchanged true y a b = refl
exchanged false true true b = refl
exchanged false true false b = refl
exchanged false false a b = refl

regrouped : (a b c : Bool) → ((a || b) || c) ≡ (a || (b || c))
regrouped true b c = refl
regrouped false b c = refl

seen_more : (seen : List (List ℕ)) (n : List ℕ) (names : List (List ℕ)) → any_seen (seen ++ n ∷ []) names ≡ (any_seen seen names || list_any (same n) names)
seen_more seen n [] = refl
seen_more seen n (m ∷ names) =
    (λ i. list_any-append (same m) seen (n ∷ []) i || seen_more seen n names i)
    ∙ exchanged (list_any (same m) seen) (same m n) (any_seen seen names) (list_any (same n) names)
    ∙ ap (λ (b : Bool). (list_any (same m) seen || any_seen seen names) || (b || list_any (same n) names)) (nat_list_eq_equiv.symm m n)

after_is : (names seen : List (List ℕ)) → repeated_after seen names ≡ (any_seen seen names || repeated names)
after_is [] seen = refl
after_is (n ∷ names) seen = by_seen (list_any (same n) seen) (after_is names)
  where
    by_seen : (v : Bool) → ((table : List (List ℕ)) → repeated_after table names ≡ (any_seen table names || repeated names))
        → (v || repeated_after (if v then seen else seen ++ n ∷ []) names) ≡ ((v || any_seen seen names) || (list_any (same n) names || repeated names))
    by_seen true ih = refl
    by_seen false ih =
        ih (seen ++ n ∷ []) ∙ ap (λ (b : Bool). b || repeated names) (seen_more seen n names)
        ∙ regrouped (any_seen seen names) (list_any (same n) names) (repeated names)

none_seen : (names : List (List ℕ)) → any_seen [] names ≡ false
none_seen [] = refl
none_seen (n ∷ names) = none_seen names

pub repeated_is : (names : List (List ℕ)) → repeated_after [] names ≡ repeated names
repeated_is names = after_is names [] ∙ ap (λ (b : Bool). b || repeated names) (none_seen names)

-- ---- for the loop

seen_before : (seen : List (List ℕ)) (n : List ℕ) (names : List (List ℕ)) → name_number seen n < length seen → repeated_after seen (n ∷ names) ≡ true
seen_before seen n names h = ap (λ (b : Bool). b || repeated_after (with_name seen n) names) (there seen n h)

seen_first : (seen : List (List ℕ)) (n : List ℕ) (names : List (List ℕ)) → length seen ≤ name_number seen n
    → repeated_after (with_name seen n) names ≡ repeated_after seen (n ∷ names)
seen_first seen n names h = sym (ap (λ (b : Bool). b || repeated_after (with_name seen n) names) (not_there seen n h))

-- the names from an attribute on
names_from : (attrs : List RawAttr) (i : ℕ) (a : RawAttr) → i < length attrs → a ≡ get_or attrs i a
    → attr_names (drop i attrs) ≡ a.name ∷ attr_names (drop (i + 1) attrs)
names_from attrs i a lt e = rw (add-one, drop-cons attrs i a lt) (ap (λ (b : RawAttr). b.name ∷ attr_names (drop (suc i) attrs)) (sym e))

pub repeated_here : (seen : List (List ℕ)) (attrs : List RawAttr) (i : ℕ) (a : RawAttr) → i < length attrs → a ≡ get_or attrs i a
    → name_number seen a.name < length seen → repeated_after seen (attr_names (drop i attrs)) ≡ true
repeated_here seen attrs i a lt e h = ap (repeated_after seen) (names_from attrs i a lt e) ∙ seen_before seen a.name (attr_names (drop (i + 1) attrs)) h

pub first_here : (seen : List (List ℕ)) (attrs : List RawAttr) (i : ℕ) (a : RawAttr) → i < length attrs → a ≡ get_or attrs i a
    → length seen ≤ name_number seen a.name
    → repeated_after (with_name seen a.name) (attr_names (drop (i + 1) attrs)) ≡ repeated_after seen (attr_names (drop i attrs))
first_here seen attrs i a lt e h = seen_first seen a.name (attr_names (drop (i + 1) attrs)) h ∙ sym (ap (repeated_after seen) (names_from attrs i a lt e))
