-- Live sessions, found by number and key.
use Rattle.std.proofs.Common.{◌≡◌, ◌≢◌, ◌⊎◌, ℕ, Bool, true, false, cond, List, [], ◌∷◌, Option, Some, None, refl, sym, ap, ◌∙◌}
use Rattle.std.proofs.Common.{subst, inl, inr}
use Rattle.std.specs.Prelude.{◌==◌, ◌&&◌, nat_eq, if◌then◌else◌}
use Rattle.std.specs.List.{All}
use Rattle.std.specs.Map.{lookup, remove_entry}
use Rattle.std.specs.Option.{option_map}
use Rattle.std.proofs.lemmas.Bool.{eqb-true, eq-eqb, ne_eqb}
use Rattle.std.proofs.lemmas.List.Elements.{All-head, All-tail}
use Rattle.bw_lang.specs.declared.service.Service.{Service}
use Rattle.bw_model.specs.Sessions.{Live}
use Rattle.bw_model.specs.Steps.{is_of, taken_out}
use Rattle.bw_world.specs.declared.suspended.Suspended.{Suspended}
use Rattle.bw_world.specs.Kept.{AreApart}
use Rattle.bw_world.specs.Seen.{found}
use Rattle.bw_world.specs.Stands.{LiveStands, AllStand}

abbrev Sessions : Type 0
Sessions = List (ℕ × Suspended)

-- no session has the number
abbrev None_is : ℕ → Sessions → Type 0
None_is number live = All (λ y. y.0 ≢ number) live

-- one test, either way
abbrev pub Test : (a b : ℕ) → Type 0
Test a b = ((a ≡ b) × (nat_eq b a ≡ true) × ((a == b) ≡ true)) ⊎ ((a ≢ b) × (nat_eq b a ≡ false) × ((a == b) ≡ false))

pub test : (a b : ℕ) → Test a b
test a b = by (a == b) refl
  where
    by : (c : Bool) → (a == b) ≡ c → Test a b
    by true e = let f = eqb-true a b e in inl (f, eq-eqb b a (sym f), e)
    by false e = let f : a ≢ b = λ g. (let k = eq-eqb a b g in cc) in inr (f, ne_eqb b a (λ g. f (sym g)), e)

module _ (number key : ℕ) where
  -- what is found by the number, if the key is right
  abbrev pub by_key : Option Suspended → Option Suspended
  by_key None = None
  by_key (Some s) = if s.key == key then Some s else None

  abbrev choose : Bool → Suspended → Option Suspended → Option Suspended
  choose b s o = if b then Some s else o

  none_found : (next : ℕ) (live : Sessions) → AreApart next live → None_is number live → found number key live ≡ None
  none_found next [] a n = refl
  none_found next (x ∷ live) a n =
      let e : x.1.number ≢ number = λ f. All-head (λ y. y.0 ≢ number) x live n (a.0 ∙ f) in
      ap (λ b. choose (b && x.1.key == key) x.1 (found number key live)) (ne_eqb x.1.number number e)
      ∙ none_found next live a.3 (All-tail (λ y. y.0 ≢ number) x live n)

  pub found_is : (next : ℕ) (live : Sessions) → AreApart next live → by_key (lookup (nat_eq number) live) ≡ found number key live
  found_is next [] a = refl
  found_is next (x ∷ live) a = by (test x.1.number number) (found_is next live a.3)
    where
      by : Test x.1.number number → by_key (lookup (nat_eq number) live) ≡ found number key live
          → by_key (cond (nat_eq number x.0) (Some x.1) (lookup (nat_eq number) live)) ≡ choose (x.1.number == number && x.1.key == key) x.1
          (found number key live)
      by (inl h) later =
          let n : nat_eq number x.0 ≡ true = ap (nat_eq number) a.0 ∙ h.1 in
          let none = none_found next live a.3 (subst (λ z. All (λ y. y.0 ≢ z) live) (a.0 ∙ h.0) a.2) in
          ap (λ b. by_key (cond b (Some x.1) (lookup (nat_eq number) live))) n
          ∙ ap (λ o. choose (x.1.key == key) x.1 o) (sym none)
          ∙ ap (λ b. choose (b && x.1.key == key) x.1 (found number key live)) (sym h.2)
      by (inr h) later =
          let n : nat_eq number x.0 ≡ false = ap (nat_eq number) a.0 ∙ h.1 in
          ap (λ b. by_key (cond b (Some x.1) (lookup (nat_eq number) live))) n
          ∙ later
          ∙ ap (λ b. choose (b && x.1.key == key) x.1 (found number key live)) (sym h.2)

  -- what a look-up by the number gives: the session, one of another key, or none
  module _ (next : ℕ) (live : Sessions) (a : AreApart next live) where
    abbrev looked_is : (o : Option Suspended) → o ≡ lookup (nat_eq number) live → by_key o ≡ found number key live
    looked_is o e = ap by_key e ∙ found_is next live a

    pub found_it : (s : Suspended) → Some s ≡ lookup (nat_eq number) live → s.key ≡ key → Some s ≡ found number key live
    found_it s e k = ap (λ b. if b then Some s else None) (sym (eq-eqb s.key key k)) ∙ looked_is (Some s) e

    pub found_other : (s : Suspended) → Some s ≡ lookup (nat_eq number) live → s.key ≢ key → None ≡ found number key live
    found_other s e k = ap (λ b. if b then Some s else None) (sym (ne_eqb s.key key k)) ∙ looked_is (Some s) e

    pub found_none : None ≡ lookup (nat_eq number) live → None ≡ found number key live
    found_none e = looked_is None e

  -- it is the one of this number, and has the key
  abbrev Is : Sessions → Suspended → Type 0
  Is live s = (lookup (nat_eq number) live ≡ Some s) × (s.number ≡ number) × (s.key ≡ key)

  both : (a b : Bool) → (a && b) ≡ true → (a ≡ true) × (b ≡ true)
  both true b e = (refl, e)
  both false b e = cc

  pub is_found : (next : ℕ) (live : Sessions) → AreApart next live → (s : Suspended) → found number key live ≡ Some s → Is live s
  is_found next [] a s e = cc
  is_found next (x ∷ live) a s e = by (x.1.number == number && x.1.key == key) refl (is_found next live a.3 s) e
    where
      by : (b : Bool) → (x.1.number == number && x.1.key == key) ≡ b → (found number key live ≡ Some s → Is live s)
          → choose b x.1 (found number key live) ≡ Some s → Is (x ∷ live) s
      by true t later f =
          let h = both (x.1.number == number) (x.1.key == key) t in
          let n = eqb-true x.1.number number h.0 in
          let k = eqb-true x.1.key key h.1 in
          let is : x.1 ≡ s = cc in (
            ap (λ b. cond b (Some x.1) (lookup (nat_eq number) live)) (eq-eqb number x.0 (sym (a.0 ∙ n))) ∙ f,
            ap (λ (z : Suspended). z.number) (sym is)
                ∙ n,
            ap (λ (z : Suspended). z.key) (sym is) ∙ k,
          )
      by false t later f =
          let h = later f in
          let n : x.0 ≢ number = λ g. (let z = none_found next live a.3 (subst (λ z. All (λ y. y.0 ≢ z) live) g a.2) in cc) in
          (ap (λ b. cond b (Some x.1) (lookup (nat_eq number) live)) (ne_eqb number x.0 (λ g. n (sym g))) ∙ h.0, h.1, h.2)

  module _ (service : Service) (first : ℕ) where
    same_test : (s : Suspended) (l : Live) → LiveStands service first s l → (s.number == number && s.key == key) ≡ is_of number key l
    same_test s l h = λ i. h.number i == number && h.key i == key

    abbrev take_front : Live → Live × List Live → Live × List Live
    take_front l f = (f.0, l ∷ f.1)

    pub not_taken : (live : Sessions) (ls : List Live) → AllStand service first live ls → found number key live ≡ None → taken_out number key ls ≡ None
    not_taken [] [] h e = refl
    not_taken [] (l ∷ ls) h e = absurd h
    not_taken (x ∷ live) [] h e = absurd h
    not_taken (x ∷ live) (l ∷ ls) h e =
        ap (λ b. if b then Some (l, ls) else option_map (take_front l) (taken_out number key ls)) (sym (same_test x.1 l h.0))
        ∙ by (x.1.number == number && x.1.key == key) (not_taken live ls h.1) e
      where
        by : (b : Bool) → (found number key live ≡ None → taken_out number key ls ≡ None) → choose b x.1 (found number key live) ≡ None
            → (if b then Some (l, ls) else option_map (take_front l) (taken_out number key ls)) ≡ None
        by true later f = cc
        by false later f = ap (option_map (take_front l)) (later f)

    -- it is taken out there as well: it stands for what is taken, and the others for the others
    pub record Taken (live : Sessions) (ls : List Live) (s : Suspended) : Type 0 where
      pub one : Live
      pub others : List Live
      pub is : taken_out number key ls ≡ Some (one, others)
      pub stands : LiveStands service first s one
      pub rest : AllStand service first (remove_entry (nat_eq number) live) others

    pub taken : (next : ℕ) (live : Sessions) (ls : List Live) → AreApart next live → AllStand service first live ls → (s : Suspended)
        → found number key live ≡ Some s → Taken live ls s
    taken next [] ls a h s e = cc
    taken next (x ∷ live) [] a h s e = absurd h
    taken next (x ∷ live) (l ∷ ls) a h s e = by (x.1.number == number && x.1.key == key) refl (taken next live ls a.3 h.1 s) e
      where
        by : (b : Bool) → (x.1.number == number && x.1.key == key) ≡ b → (found number key live ≡ Some s → Taken live ls s)
            → choose b x.1 (found number key live) ≡ Some s → Taken (x ∷ live) (l ∷ ls) s
        by true t later f =
            let n = eqb-true x.1.number number (both (x.1.number == number) (x.1.key == key) t).0 in
            let is : x.1 ≡ s = cc in
            record {
              one = l;
              others = ls;
              is = ap (λ b. if b then Some (l, ls) else option_map (take_front l) (taken_out number key ls)) (sym (same_test x.1 l h.0) ∙ t);
              stands = subst (λ z. LiveStands service first z l) is h.0;
              rest = subst (λ z. AllStand service first z ls) (sym (ap (λ b. cond b live (x ∷ remove_entry (nat_eq number) live))
                  (eq-eqb number x.0 (sym (a.0 ∙ n))))) h.1;
            }
        by false t later f =
            let k = later f in
            let n : x.0 ≢ number = λ g. (let z = none_found next live a.3 (subst (λ z. All (λ y. y.0 ≢ z) live) g a.2) in cc) in
            record {
              one = k.one;
              others = l ∷ k.others;
              is = ap (λ b. if b then Some (l, ls) else option_map (take_front l) (taken_out number key ls)) (sym (same_test x.1 l h.0) ∙ t)
                  ∙ ap (option_map (take_front l)) k.is;
              stands = k.stands;
              rest = subst (λ z. AllStand service first z (l ∷ k.others))
                  (sym (ap (λ b. cond b live (x ∷ remove_entry (nat_eq number) live)) (ne_eqb number x.0 (λ g. n (sym g))))) (h.0, k.rest);
            }
