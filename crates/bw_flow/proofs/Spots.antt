-- Points that are the same statement's, or the same join, stand at one place.
use Rattle.std.proofs.Common.{◌≡◌, ◌⊎◌, ℕ, zero, suc, ◌+◌, ◌<◌, ◌≤◌, Bool, true, false, List, [], ◌∷◌, ◌++◌, refl, ap, sym, ◌∙◌, subst, inl, inr, arith}
use Rattle.std.proofs.Common.{append_assoc, Some, None}
use Rattle.std.specs.Prelude.{slice_get, if◌then◌else◌}
use Rattle.bw_lang.specs.declared.service.Session.{Session}
use Rattle.bw_lang.specs.declared.stmt.Kind.TheVariants as kinds
use Rattle.bw_lang.specs.Service.Code.{Code, done, declare, assign, if_then, if_else, while_loop, for_each, block, show, exit, numbered}
use Rattle.bw_lang.specs.declared.service.Service.{Service}
use Rattle.bw_flow.specs.declared.point.Local.{Local}
use Rattle.bw_flow.specs.Flows.{is_join}
use Rattle.bw_flow.specs.Layout.{count, enter, step, steps, points, session_steps}
use Rattle.bw_flow.specs.Leads.{statement, meeting, spot_of, SpotsDiffer}
use Rattle.bw_flow.specs.Scopes.{with_local}
use Rattle.bw_flow.specs.Steps.{joins, Step}
use Rattle.bw_flow.proofs.Parts.{either}
use Rattle.bw_flow.proofs.Joins.{never}
use Rattle.bw_flow.proofs.Parts.{sizes}
use Rattle.bw_flow.proofs.Numbered.{all_have_numbers}

-- ---- the numbers of points

-- the numbers of these points are from lo on and below hi
abbrev pub Within : ℕ → ℕ → List Step → Type 0
Within lo hi [] = Unit {0}
Within lo hi (x ∷ xs) = (lo ≤ x.number) × (x.number < hi) × Within lo hi xs

pub within_wider : (lo hi a b : ℕ) (xs : List Step) → a ≤ lo → hi ≤ b → Within lo hi xs → Within a b xs
within_wider lo hi a b [] l h w = tt
within_wider lo hi a b (x ∷ xs) l h w = let p = w.0 in let q = w.1 in (omega arith, omega arith, within_wider lo hi a b xs l h w.2)

pub within_parts : (lo hi : ℕ) (xs ys : List Step) → Within lo hi xs → Within lo hi ys → Within lo hi (xs ++ ys)
within_parts lo hi [] ys a b = b
within_parts lo hi (x ∷ xs) ys a b = (a.0, a.1, within_parts lo hi xs ys a.2 b)

within : (service : Service) (c : Code) (n : ℕ) (sc : List Local) (d p q : ℕ) → Within n (n + numbered c) (steps service c n sc d p q)
within service done n sc d p q = tt
within service (declare k w e rest) n sc d p q = (
  omega arith,
  omega arith,
  within_wider (n + 1) (n + 1 + numbered rest) _ _ _ (omega arith) (omega arith)
      (within service rest (n + 1) (with_local sc w k) d (p + 1) q),
)
within service (assign w e rest) n sc d p q =
    (omega arith, omega arith, within_wider (n + 1) (n + 1 + numbered rest) _ _ _ (omega arith) (omega arith) (within service rest (n + 1) sc d (p + 1) q))
within service (if_then e y rest) n sc d p q =
    let join = p + 1 + count y in let m = n + 1 + numbered y in (
      omega arith,
      omega arith,
      within_parts n (n + (1 + numbered y + numbered rest)) (steps service y (n + 1) sc d (p + 1) join) _
          (within_wider (n + 1) (n + 1 + numbered y) _ _ _ (omega arith) (omega arith) (within service y (n + 1) sc d (p + 1) join))
          (omega arith, omega arith, within_wider m (m + numbered rest) _ _ _ (omega arith) (omega arith) (within service rest m sc d (join + 1) q)),
    )
within service (if_else e y o rest) n sc d p q =
    let other = p + 1 + count y in let join = other + count o in let k = n + 1 + numbered y in let m = k + numbered o in (
      omega arith,
      omega arith,
      within_parts n (n + (1 + numbered y + numbered o + numbered rest)) (steps service y (n + 1) sc d (p + 1) join) _
          (within_wider (n + 1) (n + 1 + numbered y) _ _ _ (omega arith) (omega arith) (within service y (n + 1) sc d (p + 1) join))
          (within_parts n (n + (1 + numbered y + numbered o + numbered rest)) (steps service o k sc d other join) _
          (within_wider k (k + numbered o) _ _ _ (omega arith) (omega arith) (within service o k sc d other join))
          (omega arith, omega arith, within_wider m (m + numbered rest) _ _ _ (omega arith) (omega arith) (within service rest m sc d (join + 1) q))),
    )
within service (while_loop e y rest) n sc d p q =
    let behind = p + 1 + count y in let m = n + 1 + numbered y in (
      omega arith,
      omega arith,
      within_parts n (n + (1 + numbered y + numbered rest)) (steps service y (n + 1) sc d (p + 1) p) _
          (within_wider (n + 1) (n + 1 + numbered y) _ _ _ (omega arith) (omega arith) (within service y (n + 1) sc d (p + 1) p))
          (within_wider m (m + numbered rest) _ _ _ (omega arith) (omega arith) (within service rest m sc d behind q)),
    )
within service (for_each w e y rest) n sc d p q =
    let behind = p + 1 + count y in let m = n + 1 + numbered y in let inner = with_local sc w kinds.Str in (
      omega arith,
      omega arith,
      within_parts n (n + (1 + numbered y + numbered rest)) (steps service y (n + 1) inner (d + 1) (p + 1) p) _
          (within_wider (n + 1) (n + 1 + numbered y) _ _ _ (omega arith) (omega arith) (within service y (n + 1) inner (d + 1) (p + 1) p))
          (within_wider m (m + numbered rest) _ _ _ (omega arith) (omega arith) (within service rest m sc d behind q)),
    )
within service (block y rest) n sc d p q =
    let behind = p + count y in let m = n + numbered y in let r = enter rest behind q in
    within_parts n (n + (numbered y + numbered rest)) (steps service y n sc d p r) _
    (within_wider n (n + numbered y) _ _ _ (omega arith) (omega arith) (within service y n sc d p r))
    (within_wider m (m + numbered rest) _ _ _ (omega arith) (omega arith) (within service rest m sc d behind q))
within service (show e rs rest) n sc d p q =
    (omega arith, omega arith, within_wider (n + 1) (n + 1 + numbered rest) _ _ _ (omega arith) (omega arith) (within service rest (n + 1) sc d (p + 1) q))
within service (exit e rest) n sc d p q =
    (omega arith, omega arith, within_wider (n + 1) (n + 1 + numbered rest) _ _ _ (omega arith) (omega arith) (within service rest (n + 1) sc d (p + 1) q))

-- ---- joins have numbers of their own

-- no join here has this number
abbrev Lacks : ℕ → List Step → Type 0
Lacks m [] = Unit {0}
Lacks m (x ∷ xs) = (is_join x.act ≡ true → x.number ≡ m → ⊥) × Lacks m xs

abbrev Differ : List Step → Type 0
Differ [] = Unit {0}
Differ (x ∷ xs) = (is_join x.act ≡ true → Lacks x.number xs) × Differ xs

lacks_below : (m lo hi : ℕ) (xs : List Step) → m < lo → Within lo hi xs → Lacks m xs
lacks_below m lo hi [] l w = tt
lacks_below m lo hi (x ∷ xs) l w = let p = w.0 in (λ j e. let f : x.number ≡ m = e in omega arith, lacks_below m lo hi xs l w.2)

lacks_parts : (m : ℕ) (xs ys : List Step) → Lacks m xs → Lacks m ys → Lacks m (xs ++ ys)
lacks_parts m [] ys a b = b
lacks_parts m (x ∷ xs) ys a b = (a.0, lacks_parts m xs ys a.1 b)

-- in front with smaller numbers, behind with greater ones
differ_parts : (a b c : ℕ) (xs ys : List Step) → Within a b xs → Within b c ys → Differ xs → Differ ys → Differ (xs ++ ys)
differ_parts a b c [] ys v w h k = k
differ_parts a b c (x ∷ xs) ys v w h k = (λ j. lacks_parts x.number xs ys (h.0 j) (lacks_below x.number b c ys v.1 w), differ_parts a b c xs ys v.2 w h.1 k)

-- the branches of an `if`, its join, and what follows
differ_joined : (a b c m : ℕ) (xs : List Step) (x : Step) (ys : List Step) → x.number < a → Within a b xs → Within b c ys → Differ xs → Differ ys → a ≤ b →
    Differ (xs ++ (x ∷ ys))
differ_joined a b c m [] x ys l v w h k le = (λ j. lacks_below x.number b c ys (omega arith) w, k)
differ_joined a b c m (z ∷ xs) x ys l v w h k le =
    let p = v.0 in (
      λ j. lacks_parts z.number xs (x ∷ ys) (h.0 j) (λ i e. let f : x.number ≡ z.number = e in omega arith, lacks_below z.number b c ys v.1 w),
      differ_joined a b c m xs x ys l v.2 w h.1 k le,
    )

differ : (service : Service) (c : Code) (n : ℕ) (sc : List Local) (d p q : ℕ) → Differ (steps service c n sc d p q)
differ service done n sc d p q = tt
differ service (declare k w e rest) n sc d p q = (λ j. never j, differ service rest (n + 1) (with_local sc w k) d (p + 1) q)
differ service (assign w e rest) n sc d p q = (λ j. never j, differ service rest (n + 1) sc d (p + 1) q)
differ service (if_then e y rest) n sc d p q =
    let join = p + 1 + count y in let m = n + 1 + numbered y in (
      λ j. never j,
      differ_joined (n + 1) m (m + numbered rest) 0 (steps service y (n + 1) sc d (p + 1) join) (step n sc d joins (enter rest (join + 1) q ∷ []))
          (steps service rest m sc d (join + 1) q) (omega arith)
          (within service y (n + 1) sc d (p + 1) join) (within service rest m sc d (join + 1) q) (differ service y (n + 1) sc d (p + 1) join)
          (differ service rest m sc d (join + 1) q) (omega arith),
    )
differ service (if_else e y o rest) n sc d p q =
    let other = p + 1 + count y in let join = other + count o in let k = n + 1 + numbered y in let m = k + numbered o in
    let ys = steps service y (n + 1) sc d (p + 1) join in
    let os = steps service o k sc d other join in
    let wy = within service y (n + 1) sc d (p + 1) join in
    let wo = within service o k sc d other join in
    let front = within_parts (n + 1) m ys os (within_wider (n + 1) k _ _ ys (omega arith) (omega arith) wy)
    (within_wider k m _ _ os (omega arith) (omega arith) wo) in
    let both = differ_parts (n + 1) k m ys os wy wo (differ service y (n + 1) sc d (p + 1) join) (differ service o k sc d other join) in
    let last = step n sc d joins (enter rest (join + 1) q ∷ []) in
    let more = steps service rest m sc d (join + 1) q in (
      λ j. never j,
      subst Differ (append_assoc ys os (last ∷ more))
          (differ_joined (n + 1) m (m + numbered rest) 0 (ys ++ os) last more (omega arith) front (within service rest m sc d (join + 1) q) both
          (differ service rest m sc d (join + 1) q) (omega arith)),
    )
differ service (while_loop e y rest) n sc d p q =
    let behind = p + 1 + count y in let m = n + 1 + numbered y in (
      λ j. never j,
      differ_parts (n + 1) m (m + numbered rest) (steps service y (n + 1) sc d (p + 1) p) (steps service rest m sc d behind q)
          (within service y (n + 1) sc d (p + 1) p) (within service rest m sc d behind q) (differ service y (n + 1) sc d (p + 1) p)
          (differ service rest m sc d behind q),
    )
differ service (for_each w e y rest) n sc d p q =
    let behind = p + 1 + count y in let m = n + 1 + numbered y in let inner = with_local sc w kinds.Str in (
      λ j. never j,
      differ_parts (n + 1) m (m + numbered rest) (steps service y (n + 1) inner (d + 1) (p + 1) p) (steps service rest m sc d behind q)
          (within service y (n + 1) inner (d + 1) (p + 1) p) (within service rest m sc d behind q) (differ service y (n + 1) inner (d + 1) (p + 1) p)
          (differ service rest m sc d behind q),
    )
differ service (block y rest) n sc d p q =
    let behind = p + count y in let m = n + numbered y in let r = enter rest behind q in
    differ_parts n m (m + numbered rest) (steps service y n sc d p r) (steps service rest m sc d behind q) (within service y n sc d p r)
    (within service rest m sc d behind q) (differ service y n sc d p r) (differ service rest m sc d behind q)
differ service (show e rs rest) n sc d p q = (λ j. never j, differ service rest (n + 1) sc d (p + 1) q)
differ service (exit e rest) n sc d p q = (λ j. never j, differ service rest (n + 1) sc d (p + 1) q)

pub sessions_within : (service : Service) (ss : List Session) (n p out : ℕ) → Within n (n + sizes ss) (session_steps service ss n p out)
sessions_within service [] n p out = tt
sessions_within service (s ∷ ss) n p out =
    let m = n + numbered s.body in
    within_parts n (n + (numbered s.body + sizes ss)) (steps service s.body n [] 0 p out) _
    (within_wider n m _ _ _ (omega arith) (omega arith) (within service s.body n [] 0 p out))
    (within_wider m (m + sizes ss) _ _ _ (omega arith) (omega arith) (sessions_within service ss m (p + count s.body) out))

sessions_differ : (service : Service) (ss : List Session) (n p out : ℕ) → Differ (session_steps service ss n p out)
sessions_differ service [] n p out = tt
sessions_differ service (s ∷ ss) n p out =
    let m = n + numbered s.body in let r = p + count s.body in
    differ_parts n m (m + sizes ss) (steps service s.body n [] 0 p out) (session_steps service ss m r out) (within service s.body n [] 0 p out)
    (sessions_within service ss m r out) (differ service s.body n [] 0 p out) (sessions_differ service ss m r out)

lacks_at : (m : ℕ) (xs : List Step) (i : ℕ) (x : Step) → Lacks m xs → slice_get xs i ≡ Some x → is_join x.act ≡ true → x.number ≡ m → ⊥
lacks_at m [] i x h at j e = let f : None ≡ Some x = at in absurd (cc)
lacks_at m (y ∷ xs) zero x h at j e = let f : y ≡ x = cc in h.0 (ap (λ (z : Step). is_join z.act) f ∙ j) (ap (λ (z : Step). z.number) f ∙ e)
lacks_at m (y ∷ xs) (suc i) x h at j e = lacks_at m xs i x h.1 at j e

joins_at : (xs : List Step) (p q : ℕ) (x y : Step) → Differ xs → slice_get xs p ≡ Some x → slice_get xs q ≡ Some y → is_join x.act ≡ true →
    is_join y.act ≡ true → x.number ≡ y.number → p ≡ q
joins_at [] p q x y h a b i j e = let f : None ≡ Some x = a in absurd (cc)
joins_at (z ∷ xs) zero zero x y h a b i j e = refl
joins_at (z ∷ xs) zero (suc q) x y h a b i j e =
    let f : z ≡ x = cc in
    absurd (lacks_at z.number xs q y (h.0 (ap (λ (w : Step). is_join w.act) f ∙ i)) b j (sym e ∙ ap (λ (w : Step). w.number) (sym f)))
joins_at (z ∷ xs) (suc p) zero x y h a b i j e =
    let f : z ≡ y = cc in
    absurd (lacks_at z.number xs p x (h.0 (ap (λ (w : Step). is_join w.act) f ∙ j)) a i (e ∙ ap (λ (w : Step). w.number) (sym f)))
joins_at (z ∷ xs) (suc p) (suc q) x y h a b i j e = ap suc (joins_at xs p q x y h.1 a b i j e)

-- ---- spots

spot_join : (x : Step) → is_join x.act ≡ true → spot_of x ≡ meeting x.number
spot_join x e = ap (λ (b : Bool). if b then meeting x.number else statement x.number) e

spot_statement : (x : Step) → is_join x.act ≡ false → spot_of x ≡ statement x.number
spot_statement x e = ap (λ (b : Bool). if b then meeting x.number else statement x.number) e

meeting_number : (m n : ℕ) → meeting m ≡ meeting n → m ≡ n
meeting_number m n e = cc

statement_number : (m n : ℕ) → statement m ≡ statement n → m ≡ n
statement_number m n e = cc

apart : (m n : ℕ) → statement m ≡ meeting n → ⊥
apart m n e = absurd (cc)

pub spots_differ : SpotsDiffer
spots_differ service p q x y a b e = by (either (is_join x.act)) (either (is_join y.act))
  where
    by : (is_join x.act ≡ true) ⊎ (is_join x.act ≡ false) → (is_join y.act ≡ true) ⊎ (is_join y.act ≡ false) → p ≡ q
    by (inl i) (inl j) = joins_at (session_steps service service.sessions 1 0 (points service.sessions)) p q x y
        (sessions_differ service service.sessions 1 0 (points service.sessions)) a b i j
        (meeting_number x.number y.number (sym (spot_join x i) ∙ e ∙ spot_join y j))
    by (inr i) (inr j) = all_have_numbers service p q x y a b i j (statement_number x.number y.number (sym (spot_statement x i) ∙ e ∙ spot_statement y j))
    by (inl i) (inr j) = absurd (apart y.number x.number (sym (spot_statement y j) ∙ sym e ∙ spot_join x i))
    by (inr i) (inl j) = absurd (apart x.number y.number (sym (spot_statement x i) ∙ e ∙ spot_join y j))
