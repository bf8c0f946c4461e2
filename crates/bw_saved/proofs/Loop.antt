-- Reading values one after the other, as a loop does.
use Rattle.std.proofs.Common.{◌≡◌, ℕ, zero, suc, ◌-◌, ◌+◌, ◌≤◌, ◌<◌, List, [], ◌∷◌, ◌++◌, length, get_or, map, drop, slice_get, Option, Some, None, refl}
use Rattle.std.proofs.Common.{sym, ap, subst, ◌∙◌, append_assoc, arith}
use Rattle.std.specs.List.{flat_map, AllByRecursion}
use Rattle.std.proofs.lemmas.List.{append-nil, drop_more, drop_all}
use Rattle.std.proofs.lemmas.List.Concat.{flat_map-cons}
use Rattle.bw_saved.specs.Codec.{IsBytes, Takes, IsCodec, EachFits}
use Rattle.bw_saved.specs.declared.fault.ReadError.{ReadError}
use Rattle.bw_saved.specs.declared.fault.ReadError.TheVariants as errors
use Rattle.bw_saved.specs.Fields.Reading.{◌>>=◌, Fails, first_of, repeated, each_at}
use Rattle.bw_saved.proofs.Codecs.{bind_some, some_is, Takes-then}

-- what was read before, and what is still read
abbrev pub with_front : {A : Type 0} → List A → Option (List A × List ℕ) → Option (List A × List ℕ)
with_front front read = read >>= λ x. Some (front ++ x.0, x.1)

regroup : {A : Type 0} (front : List A) (n : A) (read : Option (List A × List ℕ)) → with_front front (first_of n read) ≡ with_front (front ++ n ∷ []) read
regroup {A} front n (Some x) = ap (λ (ns : List A). Some (ns, x.1)) (simp append_assoc)
regroup front n None = refl

pub front_nil : {A : Type 0} (read : Option (List A × List ℕ)) → with_front [] read ≡ read
front_nil None = refl
front_nil (Some x) = refl

-- ---- so many

pub goes_on : {A : Type 0} (r : List ℕ → Option (A × List ℕ)) (front : List A) (count i : ℕ) (bytes : List ℕ) (n : A) (after : List ℕ)
    (total : Option (List A × List ℕ)) → i < count → r bytes ≡ Some (n, after)
    → with_front front (repeated r (count - i) bytes) ≡ total → with_front (front ++ n ∷ []) (repeated r (count - (i + 1)) after) ≡ total
unfolding repeated
goes_on r front count i bytes n after total lt h so_far =
    let k : count - i ≡ suc (count - (i + 1)) = omega arith in
    let one : with_front front (repeated r (count - i) bytes) ≡ with_front (front ++ n ∷ []) (repeated r (count - (i + 1)) after) =
    rw (k, h) (regroup front n (repeated r (count - (i + 1)) after)) in
    sym one ∙ so_far

pub ends : {A : Type 0} (r : List ℕ → Option (A × List ℕ)) (e : ReadError) (front : List A) (count i : ℕ) (bytes : List ℕ)
    (total : Option (List A × List ℕ)) → i < count → Fails e (r bytes)
    → with_front front (repeated r (count - i) bytes) ≡ total → Fails e total
unfolding repeated
ends r errors.Memory front count i bytes total lt h so_far = tt
ends r errors.Malformed front count i bytes total lt h so_far =
    let k : count - i ≡ suc (count - (i + 1)) = omega arith in
    let one : with_front front (repeated r (count - i) bytes) ≡ None = rw (k, h) refl in
    sym so_far ∙ one

pub is_done : {A : Type 0} (r : List ℕ → Option (A × List ℕ)) (front : List A) (count i : ℕ) (bytes : List ℕ) (total : Option (List A × List ℕ)) →
    count ≤ i → with_front front (repeated r (count - i) bytes) ≡ total → total ≡ Some (front, bytes)
unfolding repeated
is_done {A} r front count i bytes total le so_far =
    let k : count - i ≡ 0 = omega arith in
    let one : with_front front (repeated r (count - i) bytes) ≡ Some (front, bytes) = rw k (ap (λ (ns : List A). Some (ns, bytes)) (append-nil front)) in
    sym so_far ∙ one

-- ---- one for each

pub each_goes_on : {K A : Type 0} (r : K → List ℕ → Option (A × List ℕ)) (front : List A) (k : K) (ks : List K) (bytes : List ℕ) (n : A) (after : List ℕ)
    (total : Option (List A × List ℕ)) → r k bytes ≡ Some (n, after)
    → with_front front (each_at r (k ∷ ks) bytes) ≡ total → with_front (front ++ n ∷ []) (each_at r ks after) ≡ total
unfolding each_at
each_goes_on r front k ks bytes n after total h so_far =
    let one : with_front front (each_at r (k ∷ ks) bytes) ≡ with_front (front ++ n ∷ []) (each_at r ks after) =
    rw h (regroup front n (each_at r ks after)) in
    sym one ∙ so_far

pub each_ends : {K A : Type 0} (r : K → List ℕ → Option (A × List ℕ)) (e : ReadError) (front : List A) (k : K) (ks : List K) (bytes : List ℕ)
    (total : Option (List A × List ℕ)) → Fails e (r k bytes) → with_front front (each_at r (k ∷ ks) bytes) ≡ total → Fails e total
unfolding each_at
each_ends r errors.Memory front k ks bytes total h so_far = tt
each_ends r errors.Malformed front k ks bytes total h so_far =
    let one : with_front front (each_at r (k ∷ ks) bytes) ≡ None = rw h refl in
    sym so_far ∙ one

pub each_is_done : {K A : Type 0} (r : K → List ℕ → Option (A × List ℕ)) (front : List A) (bytes : List ℕ) (total : Option (List A × List ℕ)) →
    with_front front (each_at r [] bytes) ≡ total → total ≡ Some (front, bytes)
unfolding each_at
each_is_done {K} {A} r front bytes total so_far =
    sym so_far ∙ ap (λ (ns : List A). Some (ns, bytes)) (append-nil front)

-- ---- one for the key of each item

pub items_go_on : {X K A : Type 0} (key : X → K) (r : K → List ℕ → Option (A × List ℕ)) (front : List A) (xs : List X) (i : ℕ) (d x : X) (bytes : List ℕ)
    (n : A) (after : List ℕ) (total : Option (List A × List ℕ)) → i < length xs → x ≡ get_or xs i d → r (key x) bytes ≡ Some (n, after)
    → with_front front (each_at r (map key (drop i xs)) bytes) ≡ total → with_front (front ++ n ∷ []) (each_at r (map key (drop (i + 1) xs)) after) ≡ total
items_go_on {X} {K} {A} key r front xs i d x bytes n after total lt is h so_far =
    let split : drop i xs ≡ x ∷ drop (i + 1) xs = drop_more xs i d lt ∙ ap (λ (y : X). y ∷ drop (i + 1) xs) (sym is) in
    each_goes_on r front (key x) (map key (drop (i + 1) xs)) bytes n after total h
    (subst (λ (ys : List X). with_front front (each_at r (map key ys) bytes) ≡ total) split so_far)

pub items_end : {X K A : Type 0} (key : X → K) (r : K → List ℕ → Option (A × List ℕ)) (e : ReadError) (front : List A) (xs : List X) (i : ℕ) (d x : X)
    (bytes : List ℕ) (total : Option (List A × List ℕ)) → i < length xs → x ≡ get_or xs i d → Fails e (r (key x) bytes)
    → with_front front (each_at r (map key (drop i xs)) bytes) ≡ total → Fails e total
items_end {X} {K} {A} key r e front xs i d x bytes total lt is h so_far =
    let split : drop i xs ≡ x ∷ drop (i + 1) xs = drop_more xs i d lt ∙ ap (λ (y : X). y ∷ drop (i + 1) xs) (sym is) in
    each_ends r e front (key x) (map key (drop (i + 1) xs)) bytes total h
    (subst (λ (ys : List X). with_front front (each_at r (map key ys) bytes) ≡ total) split so_far)

pub items_are_done : {X K A : Type 0} (key : X → K) (r : K → List ℕ → Option (A × List ℕ)) (front : List A) (xs : List X) (i : ℕ) (bytes : List ℕ)
    (total : Option (List A × List ℕ)) → length xs ≤ i → with_front front (each_at r (map key (drop i xs)) bytes) ≡ total → total ≡ Some (front, bytes)
items_are_done {X} {K} {A} key r front xs i bytes total le so_far =
    each_is_done r front bytes total (subst (λ (ys : List X). with_front front (each_at r (map key ys) bytes) ≡ total) (drop_all i xs le) so_far)

-- ---- codecs

repeated_takes : {A : Type 0} (s : A → List ℕ) (F : A → Type 0) (r : List ℕ → Option (A × List ℕ)) → IsCodec s F r → (n : ℕ) (bytes : List ℕ)
    (x : List A × List ℕ) → IsBytes bytes → repeated r n bytes ≡ Some x → Takes bytes (flat_map s x.0) x.1 × ((length x.0 ≡ n) × AllByRecursion F x.0)
unfolding repeated
repeated_takes {A} s F r c zero bytes x fits e =
    subst (λ (y : List A × List ℕ). Takes bytes (flat_map s y.0) y.1 × ((length y.0 ≡ 0) × AllByRecursion F y.0)) (some_is ([], bytes) x e)
    (record { parts = refl; rest_fits = fits }, (refl, tt))
repeated_takes {A} s F r c (suc n) bytes x fits e =
    let a = bind_some (r bytes) (λ y. first_of y.0 (repeated r n y.1)) x e in
    let b = bind_some (repeated r n a.0.1) (λ ys. Some (a.0.0 ∷ ys.0, ys.1)) x a.2 in
    let p = c.takes bytes a.0 fits a.1 in
    let q = repeated_takes s F r c n a.0.1 b.0 p.0.rest_fits b.1 in
    let both = Takes-then bytes (s a.0.0) a.0.1 (flat_map s b.0.0) b.0.1 p.0 q.0 in
    subst (λ (y : List A × List ℕ). Takes bytes (flat_map s y.0) y.1 × ((length y.0 ≡ suc n) × AllByRecursion F y.0)) (some_is (a.0.0 ∷ b.0.0, b.0.1) x b.2) (
      record { parts = both.parts ∙ ap (λ (t : List ℕ). t ++ b.0.1) (sym (flat_map-cons s a.0.0 b.0.0)); rest_fits = both.rest_fits },
      (ap suc q.1.0, (p.1, q.1.1)),
    )

repeated_again : {A : Type 0} (s : A → List ℕ) (F : A → Type 0) (r : List ℕ → Option (A × List ℕ)) → IsCodec s F r → (xs : List A) (rest : List ℕ) →
    AllByRecursion F xs → repeated r (length xs) (flat_map s xs ++ rest) ≡ Some (xs, rest)
unfolding repeated
repeated_again s F r c [] rest fits = refl
repeated_again s F r c (x ∷ xs) rest fits =
    let regrouped : flat_map s (x ∷ xs) ++ rest ≡ s x ++ (flat_map s xs ++ rest) =
    ap (λ (t : List ℕ). t ++ rest) (flat_map-cons s x xs) ∙ append_assoc (s x) (flat_map s xs) rest in
    ap (repeated r (suc (length xs))) regrouped ∙ rw (c.again x (flat_map s xs ++ rest) fits.0, repeated_again s F r c xs rest fits.1) refl

pub repeated_codec : {A : Type 0} (s : A → List ℕ) (F : A → Type 0) (r : List ℕ → Option (A × List ℕ)) → IsCodec s F r → (n : ℕ) →
    IsCodec (flat_map s) (λ xs. (length xs ≡ n) × AllByRecursion F xs) (repeated r n)
repeated_codec s F r c n = record {
  takes = λ bytes x fits e. repeated_takes s F r c n bytes x fits e;
  again = λ xs rest fits. rw (← fits.0) (repeated_again s F r c xs rest fits.1);
}

-- ---- a value for each key

each_takes : {K A : Type 0} (s : A → List ℕ) (F : K → A → Type 0) (r : K → List ℕ → Option (A × List ℕ)) → ((k : K) → IsCodec s (F k) (r k)) →
    (ks : List K) (bytes : List ℕ) (x : List A × List ℕ) → IsBytes bytes → each_at r ks bytes ≡ Some x →
    Takes bytes (flat_map s x.0) x.1 × EachFits F ks x.0
unfolding each_at
each_takes {K} {A} s F r c [] bytes x fits e =
    subst (λ (y : List A × List ℕ). Takes bytes (flat_map s y.0) y.1 × EachFits F [] y.0) (some_is ([], bytes) x e)
    (record { parts = refl; rest_fits = fits }, tt)
each_takes {K} {A} s F r c (k ∷ ks) bytes x fits e =
    let a = bind_some (r k bytes) (λ y. first_of y.0 (each_at r ks y.1)) x e in
    let b = bind_some (each_at r ks a.0.1) (λ ys. Some (a.0.0 ∷ ys.0, ys.1)) x a.2 in
    let p = (c k).takes bytes a.0 fits a.1 in
    let q = each_takes s F r c ks a.0.1 b.0 p.0.rest_fits b.1 in
    let both = Takes-then bytes (s a.0.0) a.0.1 (flat_map s b.0.0) b.0.1 p.0 q.0 in
    subst (λ (y : List A × List ℕ). Takes bytes (flat_map s y.0) y.1 × EachFits F (k ∷ ks) y.0) (some_is (a.0.0 ∷ b.0.0, b.0.1) x b.2)
    (record { parts = both.parts ∙ ap (λ (t : List ℕ). t ++ b.0.1) (sym (flat_map-cons s a.0.0 b.0.0)); rest_fits = both.rest_fits }, (p.1, q.1))

each_again : {K A : Type 0} (s : A → List ℕ) (F : K → A → Type 0) (r : K → List ℕ → Option (A × List ℕ)) → ((k : K) → IsCodec s (F k) (r k)) →
    (ks : List K) (xs : List A) (rest : List ℕ) → EachFits F ks xs → each_at r ks (flat_map s xs ++ rest) ≡ Some (xs, rest)
unfolding each_at
each_again s F r c [] [] rest fits = refl
each_again s F r c [] (x ∷ xs) rest fits = absurd fits
each_again s F r c (k ∷ ks) [] rest fits = absurd fits
each_again s F r c (k ∷ ks) (x ∷ xs) rest fits =
    let regrouped : flat_map s (x ∷ xs) ++ rest ≡ s x ++ (flat_map s xs ++ rest) =
    ap (λ (t : List ℕ). t ++ rest) (flat_map-cons s x xs) ∙ append_assoc (s x) (flat_map s xs) rest in
    ap (each_at r (k ∷ ks)) regrouped ∙ rw ((c k).again x (flat_map s xs ++ rest) fits.0, each_again s F r c ks xs rest fits.1) refl

pub each_codec : {K A : Type 0} (s : A → List ℕ) (F : K → A → Type 0) (r : K → List ℕ → Option (A × List ℕ)) → ((k : K) → IsCodec s (F k) (r k)) →
    (ks : List K) → IsCodec (flat_map s) (EachFits F ks) (each_at r ks)
each_codec s F r c ks = record {
  takes = λ bytes x fits e. each_takes s F r c ks bytes x fits e;
  again = λ xs rest fits. each_again s F r c ks xs rest fits;
}
