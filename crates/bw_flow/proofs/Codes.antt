-- The statements of a block, one after the other.
use Rattle.std.proofs.Common.{◌≡◌, ℕ, zero, suc, ◌+◌, ◌<◌, ◌≤◌, List, [], ◌∷◌, ◌++◌, length, get_or, take, refl, ap, sym, ◌∙◌, arith, Some, None}
use Rattle.std.proofs.lemmas.List.{take_more}
use denote.Param.Weighed.{at_most}
use Rattle.bw_lang.specs.declared.stmt.Block.TheDeep.{deep-Stmt}
use Rattle.bw_lang.specs.declared.stmt.Stmt.{Stmt}
use Rattle.bw_lang.specs.declared.stmt.Stmt.TheVariants.{Declare, Assign, If, While, Each, Block, Show, Exit}
use Rattle.bw_lang.specs.Service.Code.{Code, done, code_size}
use Rattle.bw_lang.specs.Encoding.CodeFalls.{most_le-code_size}
use Rattle.bw_lang.specs.Service.CodeView.{before, code}
use Rattle.bw_lang.specs.declared.service.Session.{Session}
use Rattle.bw_flow.specs.Layout.{count, points}

-- a statement that was read is smaller than the block
pub stmt_size_at_read : (xs : List Stmt) (i : ℕ) (d : Stmt) → i < length xs →
    (get_or xs i d ≡ get_or xs i d) × (deep-Stmt (get_or xs i d) ≤ code_size (code xs))
stmt_size_at_read xs i d h = (refl, omega (arith, at_most (λ y. deep-Stmt y) xs i d h, most_le-code_size xs))

-- the points of a statement, and of those behind it
pub count_before : (s : Stmt) (c : Code) → count (before s c) ≡ count (before s done) + count c
count_before (Declare k w e) c = omega arith
count_before (Assign w e) c = omega arith
count_before (If service y None) c = omega arith
count_before (If service y (Some n)) c = omega arith
count_before (While service b) c = omega arith
count_before (Each w e b) c = omega arith
count_before (Block b) c = omega arith
count_before (Show p rs) c = omega arith
count_before (Exit p) c = omega arith

pub count_more : (xs : List Stmt) (i : ℕ) (x : Stmt) → x ≡ get_or xs i x → i < length xs →
    count (code (take (i + 1) xs)) ≡ count (code (take i xs)) + count (before x done)
count_more xs i x e h = ap (λ l. count (code l)) (take_more xs i x h) ∙ joined (take i xs) (get_or xs i x)
    ∙ ap (λ y. count (code (take i xs)) + count (before y done)) (sym e)
  where
    joined : (l : List Stmt) (y : Stmt) → count (code (l ++ y ∷ [])) ≡ count (code l) + count (before y done)
    joined [] y = omega arith
    joined (z ∷ l) y = count_before z (code (l ++ y ∷ [])) ∙ omega (arith, joined l y, count_before z (code l))

pub points_more : (xs : List Session) (i : ℕ) (x : Session) → x ≡ get_or xs i x → i < length xs → points (take (i + 1) xs) ≡ points (take i xs) + count x.body
points_more xs i x e h = ap points (take_more xs i x h) ∙ joined (take i xs) (get_or xs i x) ∙ ap (λ (y : Session). points (take i xs) + count y.body) (sym e)
  where
    joined : (l : List Session) (y : Session) → points (l ++ y ∷ []) ≡ points l + count y.body
    joined [] y = omega arith
    joined (z ∷ l) y = omega (arith, joined l y)

-- what was counted so far and the next are within the whole
count_take : (xs : List Stmt) (i : ℕ) → count (code (take i xs)) ≤ count (code xs)
count_take [] zero = omega arith
count_take [] (suc i) = omega arith
count_take (x ∷ xs) zero = omega arith
count_take (x ∷ xs) (suc i) = omega (arith, count_before x (code (take i xs)), count_before x (code xs), count_take xs i)

pub count_upto : (xs : List Stmt) (i : ℕ) (x : Stmt) → x ≡ get_or xs i x → i < length xs → count (code (take i xs)) + count (before x done) ≤ count (code xs)
count_upto xs i x e h = omega (arith, count_more xs i x e h, count_take xs (i + 1))

points_take : (xs : List Session) (i : ℕ) → points (take i xs) ≤ points xs
points_take [] zero = omega arith
points_take [] (suc i) = omega arith
points_take (x ∷ xs) zero = omega arith
points_take (x ∷ xs) (suc i) = omega (arith, points_take xs i)

pub points_upto : (xs : List Session) (i : ℕ) (x : Session) → x ≡ get_or xs i x → i < length xs → points (take i xs) + count x.body ≤ points xs
points_upto xs i x e h = omega (arith, points_more xs i x e h, points_take xs (i + 1))
