-- What is found at the show of a number, by the statements, is made of what the flow's show has.
use Rattle.std.proofs.Common.{◌≡◌, ◌⊎◌, ℕ, ◌+◌, ◌<◌, ◌≤◌, true, false, List, [], ◌++◌, slice_get, refl, ap, sym, ◌∙◌}
use Rattle.std.proofs.Common.{inl, inr, arith}
use Rattle.std.specs.Prelude.{◌==◌, if◌then◌else◌}
use Rattle.std.proofs.lemmas.Bool.{cases_lt, eq-eqb, ne_eqb}
use Rattle.std.proofs.lemmas.List.{append-nil}
use Rattle.std.proofs.lemmas.Option.{same_Some}
use Rattle.bw_lang.specs.declared.service.Service.{Service}
use Rattle.bw_lang.specs.declared.stmt.Kind.TheVariants as kinds
use Rattle.bw_lang.specs.declared.stmt.Receive.{Receive}
use Rattle.bw_lang.specs.Service.Code.{Code, done, declare, assign, if_then, if_else, while_loop, for_each, block, show, exit, numbered}
use Rattle.bw_lang.specs.Service.Term.{Term}
use Rattle.bw_flow.specs.declared.point.Local.{Local}
use Rattle.bw_flow.specs.declared.point.Received.{Received}
use Rattle.bw_flow.specs.Flows.{is_join, is_show, fields_of}
use Rattle.bw_flow.specs.Layout.{receives}
use Rattle.bw_flow.specs.Numbers.{HasNumbers}
use Rattle.bw_flow.specs.Scopes.{with_local}
use Rattle.bw_flow.specs.Stands.{IsAt, Lowered}
use Rattle.bw_flow.specs.Steps.{Step}
use Rattle.bw_flow.specs.Steps as acts

-- what isn't the number of one of the statements
abbrev pub IsOutside : ℕ → ℕ → ℕ → Type 0
IsOutside k n count = (k < n) ⊎ (n + count ≤ k)

-- so it is not of some of them
less : (k n c m d : ℕ) → n ≤ m → m + d ≤ n + c → IsOutside k n c → IsOutside k m d
less k n c m d a b (inl h) = inl (omega (arith, h, a))
less k n c m d a b (inr h) = inr (omega (arith, h, b))

-- ---- what is found at the show of a number

module _ {A : Type 0} (f : List Local → List Receive → List A) where
  two_none : (rs ss : List A) → rs ≡ [] → ss ≡ [] → rs ++ ss ≡ []
  two_none rs ss a b = (λ i. a i ++ ss) ∙ b

  first_alone : (rs ss : List A) → ss ≡ [] → rs ++ ss ≡ rs
  first_alone rs ss e = (λ i. rs ++ e i) ∙ append-nil rs

  -- what is made of the scope and the receives of the show of number k
  abbrev pub at_show : Code → ℕ → List Local → ℕ → List A
  at_show done n scope k = []
  at_show (declare kind w e rest) n scope k = at_show rest (n + 1) (with_local scope w kind) k
  at_show (assign w e rest) n scope k = at_show rest (n + 1) scope k
  at_show (if_then t y rest) n scope k = at_show y (n + 1) scope k ++ at_show rest (n + 1 + numbered y) scope k
  at_show (if_else t y z rest) n scope k =
      at_show y (n + 1) scope k ++ (at_show z (n + 1 + numbered y) scope k ++ at_show rest (n + 1 + numbered y + numbered z) scope k)
  at_show (while_loop t b rest) n scope k = at_show b (n + 1) scope k ++ at_show rest (n + 1 + numbered b) scope k
  at_show (block b rest) n scope k = at_show b n scope k ++ at_show rest (n + numbered b) scope k
  at_show (for_each w e b rest) n scope k = at_show b (n + 1) (with_local scope w kinds.Str) k ++ at_show rest (n + 1 + numbered b) scope k
  at_show (show p rs rest) n scope k = (if n == k then f scope rs else []) ++ at_show rest (n + 1) scope k
  at_show (exit p rest) n scope k = at_show rest (n + 1) scope k

  pub outside : (c : Code) (n : ℕ) (sc : List Local) (k : ℕ) → IsOutside k n (numbered c) → at_show c n sc k ≡ []
  outside done n sc k h = refl
  outside (declare kind w e rest) n sc k h =
      outside rest (n + 1) (with_local sc w kind) k (less k n (1 + numbered rest) (n + 1) (numbered rest) (omega arith) (omega arith) h)
  outside (assign w e rest) n sc k h = outside rest (n + 1) sc k (less k n (1 + numbered rest) (n + 1) (numbered rest) (omega arith) (omega arith) h)
  outside (if_then t y rest) n sc k h =
      let all = numbered (if_then t y rest) in let m = n + 1 + numbered y in
      two_none _ _ (outside y (n + 1) sc k (less k n all (n + 1) (numbered y) (omega arith) (omega arith) h))
      (outside rest m sc k (less k n all m (numbered rest) (omega arith) (omega arith) h))
  outside (if_else t y z rest) n sc k h =
      let all = numbered (if_else t y z rest) in let l = n + 1 + numbered y in let m = l + numbered z in
      two_none _ _ (outside y (n + 1) sc k (less k n all (n + 1) (numbered y) (omega arith) (omega arith) h))
      (two_none _ _ (outside z l sc k (less k n all l (numbered z) (omega arith) (omega arith) h))
      (outside rest m sc k (less k n all m (numbered rest) (omega arith) (omega arith) h)))
  outside (while_loop t b rest) n sc k h =
      let all = numbered (while_loop t b rest) in let m = n + 1 + numbered b in
      two_none _ _ (outside b (n + 1) sc k (less k n all (n + 1) (numbered b) (omega arith) (omega arith) h))
      (outside rest m sc k (less k n all m (numbered rest) (omega arith) (omega arith) h))
  outside (block b rest) n sc k h =
      let all = numbered (block b rest) in let m = n + numbered b in
      two_none _ _ (outside b n sc k (less k n all n (numbered b) (omega arith) (omega arith) h))
      (outside rest m sc k (less k n all m (numbered rest) (omega arith) (omega arith) h))
  outside (for_each w e b rest) n sc k h =
      let all = numbered (for_each w e b rest) in let m = n + 1 + numbered b in
      two_none _ _ (outside b (n + 1) (with_local sc w kinds.Str) k (less k n all (n + 1) (numbered b) (omega arith) (omega arith) h))
      (outside rest m sc k (less k n all m (numbered rest) (omega arith) (omega arith) h))
  outside (show p rs rest) n sc k h =
      (λ i. (if ne_eqb n k (differs h) i then f sc rs else []) ++ at_show rest (n + 1) sc k)
      ∙ outside rest (n + 1) sc k (less k n (1 + numbered rest) (n + 1) (numbered rest) (omega arith) (omega arith) h)
    where
      differs : IsOutside k n (1 + numbered rest) → n ≡ k → ⊥
      differs (inl l) e = absurd (omega (arith, l, e))
      differs (inr l) e = absurd (omega (arith, l, e))
  outside (exit p rest) n sc k h = outside rest (n + 1) sc k (less k n (1 + numbered rest) (n + 1) (numbered rest) (omega arith) (omega arith) h)

  -- ---- at a show of the flow

  module _ (service : Service) (flow : List Step) (once : HasNumbers flow) (p : ℕ) (x : Step) (page : Term) (fields : List Received) (at : IsAt flow p x)
      (is : x.act ≡ acts.shows page fields) where
    -- the point of a statement of this number is x
    same_point : (y : Step) (q : ℕ) → IsAt flow q y → is_join y.act ≡ false → y.number ≡ x.number → x ≡ y
    same_point y q h j e = let s = once p q x y at h (ap is_join is) j (sym e) in same_Some x y (sym at ∙ ap (slice_get flow) s ∙ h)

    -- so a statement that is no show has another number
    another : (y : Step) (q : ℕ) → IsAt flow q y → is_join y.act ≡ false → is_show y.act ≡ false → y.number ≡ x.number → ⊥
    another y q h j s e = let g : true ≡ false = sym (ap is_show is) ∙ ap (λ (z : Step). is_show z.act) (same_point y q h j e) ∙ s in cc

    -- and the number of x is behind it
    past : (n k : ℕ) → n ≤ k → (n ≡ k → ⊥) → n + 1 ≤ k
    past n k a g = by (cases_lt n k)
      where
        by : (n < k) ⊎ (k ≤ n) → n + 1 ≤ k
        by (inl h) = omega (arith, h)
        by (inr h) = absurd (g (omega (arith, a, h)))

    -- the fields are what a statement receives in the scope of x, and what is found at its number is made of these
    pub record Agree (found : List A) : Type 0 where
      pub receives_of : List Receive
      pub fields_are : fields ≡ receives service x.scope receives_of
      pub found_is : found ≡ f x.scope receives_of

    agree_to : (rs ss : List A) → ss ≡ rs → Agree rs → Agree ss
    agree_to rs ss e h = record { receives_of = h.receives_of; fields_are = h.fields_are; found_is = e ∙ h.found_is }

    pub agree : (c : Code) (n : ℕ) (sc : List Local) (d q r : ℕ) → Lowered service flow c n sc d q r → n ≤ x.number → x.number < n + numbered c
        → Agree (at_show c n sc x.number)
    agree done n sc d q r low a b = absurd (omega (arith, a, b))
    agree (declare k w e rest) n sc d q r low a b =
        agree rest (n + 1) (with_local sc w k) d low.0 r low.2 (past n x.number a (another _ q low.1 refl refl)) (omega (arith, b))
    agree (assign w e rest) n sc d q r low a b = agree rest (n + 1) sc d low.0 r low.2 (past n x.number a (another _ q low.1 refl refl)) (omega (arith, b))
    agree (exit e rest) n sc d q r low a b = agree rest (n + 1) sc d low.0 r low.2 (past n x.number a (another _ q low.1 refl refl)) (omega (arith, b))
    agree (show e rs rest) n sc d q r low a b = by (cases_lt n x.number) (agree rest (n + 1) sc d low.0 r low.2)
      where
        by : (n < x.number) ⊎ (x.number ≤ n) → (n + 1 ≤ x.number → x.number < n + 1 + numbered rest → Agree (at_show rest (n + 1) sc x.number))
            → Agree (at_show (show e rs rest) n sc x.number)
        by (inl h) later =
            agree_to (at_show rest (n + 1) sc x.number) (at_show (show e rs rest) n sc x.number)
            (λ i. (if ne_eqb n x.number (λ g. omega (arith, h, g)) i then f sc rs else []) ++ at_show rest (n + 1) sc x.number)
            (later (omega (arith, h)) (omega (arith, b)))
        by (inr h) later =
            let g : n ≡ x.number = omega (arith, a, h) in
            let one = same_point _ q low.1 refl g in
            record {
              receives_of = rs;
              fields_are = ap fields_of (sym is) ∙ ap (λ (z : Step). fields_of z.act) one ∙ ap (λ (z : Step). receives service z.scope rs) (sym one);
              found_is = (λ i. (if eq-eqb n x.number g i then f sc rs else []) ++ at_show rest (n + 1) sc x.number)
                  ∙ first_alone (f sc rs) _ (outside rest (n + 1) sc x.number (inl (omega (arith, g)))) ∙ ap (λ (z : Step). f z.scope rs) (sym one);
            }
    agree (if_then t y rest) n sc d q r low a b =
        by (cases_lt x.number (n + 1 + numbered y)) (agree y (n + 1) sc d low.0 low.1 low.5 (past n x.number a (another _ q low.3 refl refl)))
        (agree rest (n + 1 + numbered y) sc d low.2 r low.6)
      where
        by : (x.number < n + 1 + numbered y) ⊎ (n + 1 + numbered y ≤ x.number) → (x.number < n + 1 + numbered y → Agree (at_show y (n + 1) sc x.number))
            → (n + 1 + numbered y ≤ x.number → x.number < n + 1 + numbered y + numbered rest → Agree (at_show rest (n + 1 + numbered y) sc x.number))
            → Agree (at_show (if_then t y rest) n sc x.number)
        by (inl h) inner later =
            agree_to _ _ (first_alone (at_show y (n + 1) sc x.number) _ (outside rest (n + 1 + numbered y) sc x.number (inl h))) (inner h)
        by (inr h) inner later =
            agree_to _ _ (λ i. outside y (n + 1) sc x.number (inr (omega (arith, h))) i ++ at_show rest (n + 1 + numbered y) sc x.number)
            (later h (omega (arith, b)))
    agree (if_else t y z rest) n sc d q r low a b =
        by (cases_lt x.number (n + 1 + numbered y)) (cases_lt x.number (n + 1 + numbered y + numbered z))
        (agree y (n + 1) sc d low.0 low.2 low.6 (past n x.number a (another _ q low.4 refl refl)))
        (agree z (n + 1 + numbered y) sc d low.1 low.2 low.7) (agree rest (n + 1 + numbered y + numbered z) sc d low.3 r low.8)
      where
        by : (x.number < n + 1 + numbered y) ⊎ (n + 1 + numbered y ≤ x.number)
            → (x.number < n + 1 + numbered y + numbered z) ⊎ (n + 1 + numbered y + numbered z ≤ x.number)
            → (x.number < n + 1 + numbered y → Agree (at_show y (n + 1) sc x.number))
            → (n + 1 + numbered y ≤ x.number → x.number < n + 1 + numbered y + numbered z → Agree (at_show z (n + 1 + numbered y) sc x.number))
            → (n + 1 + numbered y + numbered z ≤ x.number → x.number < n + 1 + numbered y + numbered z + numbered rest
            → Agree (at_show rest (n + 1 + numbered y + numbered z) sc x.number))
            → Agree (at_show (if_else t y z rest) n sc x.number)
        by (inl h) g inner other later =
            agree_to _ _ (first_alone (at_show y (n + 1) sc x.number) _ (two_none _ _ (outside z (n + 1 + numbered y) sc x.number (inl h))
            (outside rest (n + 1 + numbered y + numbered z) sc x.number (inl (omega (arith, h)))))) (inner h)
        by (inr h) (inl g) inner other later =
            agree_to _ _ ((λ i. outside y (n + 1) sc x.number (inr (omega (arith, h))) i
            ++ (at_show z (n + 1 + numbered y) sc x.number ++ at_show rest (n + 1 + numbered y + numbered z) sc x.number))
            ∙ first_alone (at_show z (n + 1 + numbered y) sc x.number) _ (outside rest (n + 1 + numbered y + numbered z) sc x.number (inl g))) (other h g)
        by (inr h) (inr g) inner other later =
            agree_to _ _ (λ i. outside y (n + 1) sc x.number (inr (omega (arith, h))) i
            ++ (outside z (n + 1 + numbered y) sc x.number (inr g) i ++ at_show rest (n + 1 + numbered y + numbered z) sc x.number))
            (later g (omega (arith, b)))
    agree (while_loop t y rest) n sc d q r low a b =
        by (cases_lt x.number (n + 1 + numbered y)) (agree y (n + 1) sc d low.0 q low.3 (past n x.number a (another _ q low.2 refl refl)))
        (agree rest (n + 1 + numbered y) sc d low.1 r low.4)
      where
        by : (x.number < n + 1 + numbered y) ⊎ (n + 1 + numbered y ≤ x.number) → (x.number < n + 1 + numbered y → Agree (at_show y (n + 1) sc x.number))
            → (n + 1 + numbered y ≤ x.number → x.number < n + 1 + numbered y + numbered rest → Agree (at_show rest (n + 1 + numbered y) sc x.number))
            → Agree (at_show (while_loop t y rest) n sc x.number)
        by (inl h) inner later =
            agree_to _ _ (first_alone (at_show y (n + 1) sc x.number) _ (outside rest (n + 1 + numbered y) sc x.number (inl h))) (inner h)
        by (inr h) inner later =
            agree_to _ _ (λ i. outside y (n + 1) sc x.number (inr (omega (arith, h))) i ++ at_show rest (n + 1 + numbered y) sc x.number)
            (later h (omega (arith, b)))
    agree (for_each w e y rest) n sc d q r low a b =
        by (cases_lt x.number (n + 1 + numbered y))
        (agree y (n + 1) (with_local sc w kinds.Str) (d + 1) low.0 q low.3 (past n x.number a (another _ q low.2 refl refl)))
        (agree rest (n + 1 + numbered y) sc d low.1 r low.4)
      where
        by : (x.number < n + 1 + numbered y) ⊎ (n + 1 + numbered y ≤ x.number)
            → (x.number < n + 1 + numbered y → Agree (at_show y (n + 1) (with_local sc w kinds.Str) x.number))
            → (n + 1 + numbered y ≤ x.number → x.number < n + 1 + numbered y + numbered rest → Agree (at_show rest (n + 1 + numbered y) sc x.number))
            → Agree (at_show (for_each w e y rest) n sc x.number)
        by (inl h) inner later =
            agree_to _ _ (first_alone (at_show y (n + 1) (with_local sc w kinds.Str) x.number) _ (outside rest (n + 1 + numbered y) sc x.number (inl h)))
            (inner h)
        by (inr h) inner later =
            agree_to _ _ (λ i. outside y (n + 1) (with_local sc w kinds.Str) x.number (inr (omega (arith, h))) i
            ++ at_show rest (n + 1 + numbered y) sc x.number) (later h (omega (arith, b)))
    agree (block y rest) n sc d q r low a b =
        by (cases_lt x.number (n + numbered y)) (agree y n sc d q low.0 low.1 a) (agree rest (n + numbered y) sc d low.0 r low.2)
      where
        by : (x.number < n + numbered y) ⊎ (n + numbered y ≤ x.number) → (x.number < n + numbered y → Agree (at_show y n sc x.number))
            → (n + numbered y ≤ x.number → x.number < n + numbered y + numbered rest → Agree (at_show rest (n + numbered y) sc x.number))
            → Agree (at_show (block y rest) n sc x.number)
        by (inl h) inner later = agree_to _ _ (first_alone (at_show y n sc x.number) _ (outside rest (n + numbered y) sc x.number (inl h))) (inner h)
        by (inr h) inner later =
            agree_to _ _ (λ i. outside y n sc x.number (inr h) i ++ at_show rest (n + numbered y) sc x.number) (later h (omega (arith, b)))
