-- The algebra of spots.
use Rattle.std.proofs.Common.{◌≡◌, ℕ, ◌+◌, true, refl, ap, sym, ◌∙◌, arith, max, Option, Some, None}
use Rattle.bw_lang.specs.Document.Documents.{deeper, under}
use Rattle.bw_lang.proofs.Counts.{deeper_assoc}
use Rattle.bw_doc.specs.declared.spots.Open.{Open}
use Rattle.bw_doc.specs.declared.spots.Spot.{Spot}
use Rattle.bw_doc.specs.Spots.{nowhere, join, inside, once, below, times, closed, both}

pub spot : (a b : Spot) → a.count ≡ b.count → a.depth ≡ b.depth → a ≡ b
spot a b p q = λ i. record { count = p i; depth = q i }

pub opened_as : (a b : Open) → a.content ≡ b.content → a.hole ≡ b.hole → a ≡ b
opened_as a b p q = λ i. record { content = p i; hole = q i }

deeper_comm : (a b : Option ℕ) → deeper a b ≡ deeper b a
deeper_comm None None = refl
deeper_comm None (Some b) = refl
deeper_comm (Some a) None = refl
deeper_comm (Some a) (Some b) = let e : max a b ≡ max b a = omega arith in ap Some e

deeper_none : (a : Option ℕ) → deeper a None ≡ a
deeper_none None = refl
deeper_none (Some a) = refl

under_deeper : (a b : Option ℕ) → under (deeper a b) ≡ deeper (under a) (under b)
under_deeper None b = refl
under_deeper (Some a) None = refl
under_deeper (Some a) (Some b) = let e : max a b + 1 ≡ max (a + 1) (b + 1) = omega arith in ap Some e

below_deeper : (a b c : Option ℕ) → below (deeper a b) c ≡ deeper (below a c) (below b c)
below_deeper None b c = refl
below_deeper (Some a) None None = refl
below_deeper (Some a) None (Some c) = refl
below_deeper (Some a) (Some b) None = refl
below_deeper (Some a) (Some b) (Some c) = let e : max a b + c ≡ max (a + c) (b + c) = omega arith in ap Some e

deeper_below : (a b c : Option ℕ) → below a (deeper b c) ≡ deeper (below a b) (below a c)
deeper_below None b c = refl
deeper_below (Some a) None c = refl
deeper_below (Some a) (Some b) None = refl
deeper_below (Some a) (Some b) (Some c) = let e : a + max b c ≡ max (a + b) (a + c) = omega arith in ap Some e

below_under : (a b : Option ℕ) → under (below a b) ≡ below (under a) b
below_under None b = refl
below_under (Some a) None = refl
below_under (Some a) (Some b) = let e : a + b + 1 ≡ a + 1 + b = omega arith in ap Some e

under_below : (a b : Option ℕ) → below a (under b) ≡ below (under a) b
under_below None b = refl
under_below (Some a) None = refl
under_below (Some a) (Some b) = let e : a + (b + 1) ≡ a + 1 + b = omega arith in ap Some e

below_zero : (a : Option ℕ) → below (Some 0) a ≡ a
below_zero None = refl
below_zero (Some a) = let e : 0 + a ≡ a = omega arith in ap Some e

pub join_assoc : (a b c : Spot) → join (join a b) c ≡ join a (join b c)
join_assoc a b c = spot (join (join a b) c) (join a (join b c)) (omega arith) (deeper_assoc a.depth b.depth c.depth)

pub join_comm : (a b : Spot) → join a b ≡ join b a
join_comm a b = spot (join a b) (join b a) (omega arith) (deeper_comm a.depth b.depth)

pub join_nowhere : (a : Spot) → join a nowhere ≡ a
join_nowhere a = spot (join a nowhere) a (omega arith) (deeper_none a.depth)

pub nowhere_join : (a : Spot) → join nowhere a ≡ a
nowhere_join a = spot (join nowhere a) a (omega arith) refl

pub inside_join : (a b : Spot) → inside (join a b) ≡ join (inside a) (inside b)
inside_join a b = spot (inside (join a b)) (join (inside a) (inside b)) refl (under_deeper a.depth b.depth)

pub times_join : (a b c : Spot) → times (join a b) c ≡ join (times a c) (times b c)
times_join a b c = spot (times (join a b) c) (join (times a c) (times b c)) (omega arith) (below_deeper a.depth b.depth c.depth)

pub join_times : (a b c : Spot) → times a (join b c) ≡ join (times a b) (times a c)
join_times a b c = spot (times a (join b c)) (join (times a b) (times a c)) (omega arith) (deeper_below a.depth b.depth c.depth)

pub inside_times : (a b : Spot) → inside (times a b) ≡ times (inside a) b
inside_times a b = spot (inside (times a b)) (times (inside a) b) refl (below_under a.depth b.depth)

pub times_inside : (a b : Spot) → times a (inside b) ≡ times (inside a) b
times_inside a b = spot (times a (inside b)) (times (inside a) b) refl (under_below a.depth b.depth)

pub times_once : (a : Spot) → times (once true) a ≡ a
times_once a = spot (times (once true) a) a (omega arith) (below_zero a.depth)

pub nowhere_times : (a : Spot) → times nowhere a ≡ nowhere
nowhere_times a = spot (times nowhere a) nowhere (omega arith) refl

below_none : (a : Option ℕ) → below a None ≡ None
below_none None = refl
below_none (Some a) = refl

pub times_nowhere : (a : Spot) → times a nowhere ≡ nowhere
times_nowhere a = spot (times a nowhere) nowhere (omega arith) (below_none a.depth)

pub both_assoc : (a b c : Open) → both (both a b) c ≡ both a (both b c)
both_assoc a b c = opened_as (both (both a b) c) (both a (both b c)) (join_assoc a.content b.content c.content) (join_assoc a.hole b.hole c.hole)

pub closed_both : (a : Open) → both closed a ≡ a
closed_both a = opened_as (both closed a) a (nowhere_join a.content) (nowhere_join a.hole)

pub both_closed : (a : Open) → both a closed ≡ a
both_closed a = opened_as (both a closed) a (join_nowhere a.content) (join_nowhere a.hole)

-- the middle two of four change places
pub swap : (a b c d : Spot) → join (join a b) (join c d) ≡ join (join a c) (join b d)
swap a b c d =
    join_assoc a b (join c d)
    ∙ ap (join a) (sym (join_assoc b c d) ∙ ap (λ x. join x d) (join_comm b c) ∙ join_assoc c b d)
    ∙ sym (join_assoc a c (join b d))
