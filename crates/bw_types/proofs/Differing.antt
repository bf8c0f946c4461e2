-- Names that differ.
use Rattle.std.proofs.Common.{◌≡◌, ◌≢◌, ℕ, ◌<◌, Bool, true, false, List, [], ◌∷◌, ◌++◌, length, get_or, zero, suc, map, Option, Some, None, refl, ap, sym}
use Rattle.std.proofs.Common.{subst, ◌∙◌, append_assoc, append-nil, arith}
use Rattle.std.specs.Prelude.{◌||◌, if◌then◌else◌}
use Rattle.std.specs.List.{All, AllPairs, Contains, filter_map, cons_option}
use Rattle.std.proofs.lemmas.Cmp.{nat_list_eq_equiv}
use Rattle.std.proofs.lemmas.List.{get_or_append_left, length-append}
use Rattle.std.proofs.lemmas.List.Elements.{All-cons, All-nil, All-head, All-tail, All-map}
use Rattle.std.proofs.lemmas.List.Folds.{list_any_at}
use Rattle.std.proofs.lemmas.List.Kept.{AllPairs-cons}
use Rattle.std.proofs.lemmas.List.Quantifiers.{all_pairs_push}
use Rattle.std.proofs.Math.Seq.{get_or-append_seam}
use Rattle.bw_lang.specs.declared.declaration.Declaration.{Declaration}
use Rattle.bw_lang.specs.Table.Names.{same, with_names}
use Rattle.bw_lang.proofs.Small.{of_each}
use Rattle.bw_types.specs.declared.fault.TypeFault.TheVariants as faults
use Rattle.bw_types.specs.Scopes.{is_among, name_of}
use Rattle.bw_types.specs.TemplateFaults.{fault_if}
use Rattle.bw_types.proofs.Elements.{passes, passing}
use Rattle.bw_lang.proofs.SameNames.{same_is}

abbrev pub Differ : List (List ℕ) → Type 0
Differ names = AllPairs (λ v w. v ≢ w) names

pub none_differ : Differ []
none_differ i j d l m = absurd (omega arith)

-- ---- being among others

pub not_among : (w : List ℕ) (names : List (List ℕ)) → is_among w names ≡ false → ¬ (Contains names w)
not_among w names h c =
    let there : is_among w names ≡ true = list_any_at (same w) names c.0 w c.1 (ap (same w) c.2 ∙ nat_list_eq_equiv.refl w) in cc

is_contained : (w : List ℕ) (names : List (List ℕ)) → is_among w names ≡ true → Contains names w
is_contained w [] h = absurd (cc)
is_contained w (m ∷ names) h = by_test (same w m) refl h (is_contained w names)
  where
    by_test : (b : Bool) → same w m ≡ b → (b || is_among w names) ≡ true → (is_among w names ≡ true → Contains names w) → Contains (m ∷ names) w
    by_test true e h ih = (0, omega arith, sym (same_is w m e))
    by_test false e h ih = let c = ih h in (suc c.0, omega (arith, c.1), c.2)

pub among_none : (w : List ℕ) (names : List (List ℕ)) → (¬ (Contains names w)) → is_among w names ≡ false
among_none w names h = by_test (is_among w names) refl
  where
    by_test : (b : Bool) → is_among w names ≡ b → b ≡ false
    by_test true e = absurd (h (is_contained w names e))
    by_test false e = refl

-- ---- one name more

-- which is none of these
pub one_more : (E : List (List ℕ)) (w : List ℕ) → Differ E → is_among w E ≡ false → Differ (E ++ w ∷ [])
one_more E w d h = all_pairs_push (λ v w. v ≢ w) E w d (λ k o l e. not_among w E h (k, l, get_or_default_is E k o w l e))
  where
    get_or_default_is : (E : List (List ℕ)) (k : ℕ) (o w : List ℕ) → k < length E → get_or E k o ≡ w → get_or E k w ≡ w
    get_or_default_is [] k o w l e = refl
    get_or_default_is (x ∷ E) zero o w l e = e
    get_or_default_is (x ∷ E) (suc k) o w l e = get_or_default_is E k o w (omega arith) e

pub taken : (w : List ℕ) (E : List (List ℕ)) → fault_if (is_among w E) (faults.Repeated w) ≡ [] → Differ E → Differ (E ++ w ∷ [])
taken w E h d = one_more E w d (passes _ _ h)

-- a name that differs from those in front isn't among them
pub free : (E : List (List ℕ)) (w : List ℕ) (rest : List (List ℕ)) → Differ (E ++ w ∷ rest) → is_among w E ≡ false
free E w rest h = among_none w E (λ c. differs c (h c.0 (length E) w c.1 (omega (arith, length-append E (w ∷ rest)))))
  where
    differs : (c : Contains E w) → get_or (E ++ w ∷ rest) c.0 w ≢ get_or (E ++ w ∷ rest) (length E) w → ⊥
    differs c n = n (get_or_append_left E (w ∷ rest) w c.0 c.1 ∙ c.2 ∙ sym (get_or-append_seam E w rest w))

pub not_repeated : (E : List (List ℕ)) (w : List ℕ) (rest : List (List ℕ)) → Differ (E ++ w ∷ rest) → fault_if (is_among w E) (faults.Repeated w) ≡ []
not_repeated E w rest h = passing _ (faults.Repeated w) (free E w rest h)

pub next_name : (E : List (List ℕ)) (w : List ℕ) (rest : List (List ℕ)) → Differ (E ++ w ∷ rest) → Differ ((E ++ w ∷ []) ++ rest)
next_name E w rest h = subst Differ (sym (append_assoc E (w ∷ []) rest)) h

-- names that differ are taken in as they stand
distinct_behind : (E names : List (List ℕ)) → Differ (E ++ names) → with_names E names ≡ E ++ names
distinct_behind E [] h = sym (append-nil E)
distinct_behind E (n ∷ names) h =
    ap (λ (b : Bool). with_names (if b then E else E ++ n ∷ []) names) (free E n names h) ∙ distinct_behind (E ++ n ∷ []) names (next_name E n names h)
    ∙ append_assoc E (n ∷ []) names

pub distinct : (names : List (List ℕ)) → Differ names → with_names [] names ≡ names
distinct names h = distinct_behind [] names h

-- ---- the declarations of a sort

module _ {X : Type 0} (sort : Declaration → Option X) where
  pub all_sorted : (P : Declaration → Type 0) (Q : X → Type 0) → ((d : Declaration) (x : X) → sort d ≡ Some x → P d → Q x) → (ds : List Declaration)
      → All P ds → All Q (filter_map sort ds)
  all_sorted P Q f [] a = All-nil Q
  all_sorted P Q f (d ∷ ds) a = by_sort (sort d) refl (All-head P d ds a) (all_sorted P Q f ds (All-tail P d ds a))
    where
      by_sort : (o : Option X) → sort d ≡ o → P d → All Q (filter_map sort ds) → All Q (cons_option o (filter_map sort ds))
      by_sort None e p ih = ih
      by_sort (Some x) e p ih = All-cons Q x (filter_map sort ds) (f d x e p) ih

  module _ (name : X → List ℕ) (named : (d : Declaration) (x : X) → sort d ≡ Some x → name_of d ≡ name x) where
    -- those of a sort have names that differ, where all have
    pub sort_differs : (ds : List Declaration) → Differ (map name_of ds) → Differ (map name (filter_map sort ds))
    sort_differs [] h = none_differ
    sort_differs (d ∷ ds) h = by_sort (sort d) refl (sort_differs ds (λ i j e l m. h (suc i) (suc j) e (omega (arith, l)) (omega (arith, m))))
      where
        from_first : (n : List ℕ) → name_of d ≡ n → All (λ w. n ≢ w) (map name (filter_map sort ds))
        from_first n e =
            All-map (λ w. n ≢ w) name (filter_map sort ds)
            (all_sorted (λ y. name_of d ≢ name_of y) (λ x. n ≢ name x) (λ y x s p q. p (e ∙ q ∙ sym (named y x s))) ds
            (of_each (λ w. name_of d ≢ w) name_of ds (λ j e l. h 0 (suc j) e (omega arith) (omega (arith, l)))))

        by_sort : (o : Option X) → sort d ≡ o → Differ (map name (filter_map sort ds)) → Differ (map name (cons_option o (filter_map sort ds)))
        by_sort None e ih = ih
        by_sort (Some x) e ih = AllPairs-cons (λ v w. v ≢ w) (name x) (map name (filter_map sort ds)) (from_first (name x) (named d x e)) ih
