-- Worlds of kept sessions: how the cache is filled and emptied, and what such a world stands for.
use Rattle.std.proofs.Common.{◌≡◌, ◌≢◌, ◌≤◌, ◌+◌, ◌-◌, ℕ, List, [], ◌∷◌, ◌++◌, length, map, take, Some, None, refl, sym, ap, ◌∙◌}
use Rattle.std.proofs.Common.{subst, append_assoc, arith}
use Rattle.std.specs.Prelude.{nat_eq, reverse}
use Rattle.std.specs.List.{All}
use Rattle.std.specs.Map.{remove_entry}
use Rattle.std.specs.Option.{option_map_or}
use Rattle.std.proofs.lemmas.List.{length-append, length-map, map-append, reverse-append, take_all}
use Rattle.std.proofs.lemmas.List.Elements.{All-nil, All-cons, All-pop}
use Rattle.lru.proofs.Pairs.{cut_end, last_of_push}
use Rattle.lru.specs.LruCache.{LruCache, lru_cache, put_entries, last_entry}
use Rattle.bw_lang.specs.declared.service.Service.{Service}
use Rattle.bw_meaning.specs.States.{budget}
use Rattle.bw_model.specs.declared.limits.TheConstants.{MAX_LIVE}
use Rattle.bw_world.specs.declared.restoring.Parts.{Parts}
use Rattle.bw_world.specs.declared.suspended.Suspended.{Suspended}
use Rattle.bw_world.specs.Kept.{AreApart}
use Rattle.bw_world.specs.Restored.{by_number, seen_of, live_of, loaded_world, AreNumbered}
use Rattle.bw_world.specs.Stands.{AllStand, StandsFor}
use Rattle.bw_world.proofs.Keeping.{no_entry}

abbrev Sessions : Type 0
Sessions = List (ℕ × Suspended)

abbrev numbered : Suspended → ℕ × Suspended
numbered s = (s.number, s)

-- ---- the cache is filled: the session that was used last comes in last

apart_behind : (next : ℕ) (xs : List Suspended) (x : Suspended) (ys : Sessions) → AreApart next (by_number xs ++ (x.number, x) ∷ ys) →
    All (λ y. y.0 ≢ x.number) ys
apart_behind next [] x ys h = h.2
apart_behind next (z ∷ xs) x ys h = apart_behind next xs x ys h.3

put_fresh : (cache : LruCache ℕ Suspended) (number : ℕ) (s : Suspended) → All (λ y. y.0 ≢ number) cache.entries → length cache.entries + 1 ≤ cache.cap →
    put_entries nat_eq cache number s ≡ (number, s) ∷ cache.entries
put_fresh cache number s h lt =
    ap (λ o. option_map_or (λ e. (e.0, s) ∷ remove_entry (nat_eq number) cache.entries) o ((number, s) ∷ take (cache.cap - 1) cache.entries))
    (no_entry number cache.entries h)
    ∙ ap (λ (xs : Sessions). (number, s) ∷ xs) (take_all (cache.cap - 1) cache.entries (omega (arith, lt)))

-- one session more is in the cache, and one fewer is left, of which that comes next which wasn't used for the longest time
last_in_front : (all left : List Suspended) (one : Suspended) (entries : Sessions) → by_number (reverse (one ∷ left)) ++ entries ≡ by_number all →
    by_number (reverse left) ++ (one.number, one) ∷ entries ≡ by_number all
last_in_front all left one entries so_far =
    let turned : reverse (one ∷ left) ≡ reverse left ++ one ∷ [] = reverse-append (one ∷ []) left in
    let split : by_number (reverse (one ∷ left)) ≡ by_number (reverse left) ++ (one.number, one) ∷ [] =
    ap by_number turned ∙ map-append numbered (reverse left) (one ∷ []) in
    sym (append_assoc (by_number (reverse left)) ((one.number, one) ∷ []) entries) ∙ ap (λ (xs : Sessions). xs ++ entries) (sym split) ∙ so_far

-- the sessions that are left, and those that are in the cache
pub record Filled (left : List Suspended) (cache : LruCache ℕ Suspended) (whole : List Suspended) : Type 0 where
  pub all : by_number (reverse left) ++ cache.entries ≡ by_number whole
  pub capacity : cache.cap ≡ MAX_LIVE

pub filled_more : (next : ℕ) (whole old left : List Suspended) (one : Suspended) (cache after : LruCache ℕ Suspended) → AreApart next (by_number whole) →
    length whole ≤ MAX_LIVE → Filled old cache whole → old ≡ one ∷ left → after ≡ lru_cache (put_entries nat_eq cache one.number one) cache.cap →
    Filled left after whole
filled_more next whole old left one cache after apart few so_far e put =
    let now = last_in_front whole left one cache.entries (ap (λ (xs : List Suspended). by_number (reverse xs) ++ cache.entries) (sym e) ∙ so_far.all) in
    let fresh = apart_behind next (reverse left) one cache.entries (subst (AreApart next) (sym now) apart) in
    let count = ap (λ (xs : Sessions). length xs) now in
    let parts = length-append (by_number (reverse left)) ((one.number, one) ∷ cache.entries) in
    let all_count = length-map whole numbered in
    let room : length cache.entries + 1 ≤ cache.cap = omega (arith, count, parts, all_count, few, so_far.capacity) in
    record {
      all =
          ap (λ (c : LruCache ℕ Suspended). by_number (reverse left) ++ c.entries) put
          ∙ ap (λ (xs : Sessions). by_number (reverse left) ++ xs) (put_fresh cache one.number one fresh room)
          ∙ now;
      capacity = ap (λ (c : LruCache ℕ Suspended). c.cap) put ∙ so_far.capacity;
    }

-- ---- and emptied: the session that wasn't used for the longest time comes out first

ends_in : (y : ℕ × Suspended) (ys : Sessions) →
    (x : ℕ × Suspended) × (last_entry (y ∷ ys) ≡ Some x) × (y ∷ ys ≡ take (length (y ∷ ys) - 1) (y ∷ ys) ++ x ∷ [])
ends_in y ys =
    let cut = cut_end (y ∷ ys) (omega arith) in
    let last = last_of_push cut.0 cut.1 in
    let front : take (length (y ∷ ys) - 1) (y ∷ ys) ≡ cut.0 = ap (λ (es : Sessions). take (length es - 1) es) cut.2 ∙ last.1 in
    (cut.1, ap last_entry cut.2 ∙ last.0, cut.2 ∙ ap (λ (es : Sessions). es ++ cut.1 ∷ []) (sym front))

none_last : (es : Sessions) → last_entry es ≡ None → es ≡ []
none_last [] e = refl
none_last (y ∷ ys) e = let last = (ends_in y ys).1 in absurd (cc)

last_split : (es : Sessions) (x : ℕ × Suspended) → last_entry es ≡ Some x → es ≡ take (length es - 1) es ++ x ∷ []
last_split [] x e = absurd (cc)
last_split (y ∷ ys) x e =
    let last = ends_in y ys in
    let is : last.0 ≡ x = some_is last.0 x (sym last.1 ∙ e) in
    last.2 ∙ ap (λ (z : ℕ × Suspended). take (length (y ∷ ys) - 1) (y ∷ ys) ++ z ∷ []) is
  where
    some_is : (a b : ℕ × Suspended) → Some a ≡ Some b → a ≡ b
    some_is a b same = cc

-- the sessions that are left in the cache, and those that were taken out
pub record Emptied (entries : Sessions) (list : List Suspended) (whole : Sessions) : Type 0 where
  pub all : entries ++ by_number list ≡ whole
  pub numbers : AreNumbered entries

pub emptied_more : (es : Sessions) (list : List Suspended) (all : Sessions) (x : ℕ × Suspended) → Emptied es list all → last_entry es ≡ Some x →
    Emptied (take (length es - 1) es) (x.1 ∷ list) all
emptied_more es list all x h e =
    let split = last_split es x e in
    let left = take (length es - 1) es in
    let pops = All-pop (λ x. x.0 ≡ x.1.number) es left (Some x) split h.numbers in
    let own : (x.1.number, x.1) ≡ x = λ i. (sym pops.1 i, x.1) in
    record {
      all =
          ap (λ (z : ℕ × Suspended). left ++ z ∷ by_number list) own
          ∙ sym (append_assoc left (x ∷ []) (by_number list))
          ∙ ap (λ (zs : Sessions). zs ++ by_number list) (sym split)
          ∙ h.all;
      numbers = pops.0;
    }

pub emptied_all : (es : Sessions) (list : List Suspended) (all : Sessions) → Emptied es list all → last_entry es ≡ None → by_number list ≡ all
emptied_all es list all h e = ap (λ (zs : Sessions). zs ++ by_number list) (sym (none_last es e)) ∙ h.all

-- ---- turned round

pub turned_more : (left old list all : List Suspended) (one : Suspended) → reverse old ++ list ≡ all → old ≡ one ∷ left →
    reverse left ++ one ∷ list ≡ all
turned_more left old list all one so_far e =
    let turned : reverse old ≡ reverse left ++ one ∷ [] = ap (λ (ys : List Suspended). reverse ys) e ∙ reverse-append (one ∷ []) left in
    sym (append_assoc (reverse left) (one ∷ []) list) ∙ ap (λ (ys : List Suspended). ys ++ list) (sym turned) ∙ so_far

-- ---- what holds of each world

pub apart_numbered : (next : ℕ) (es : Sessions) → AreApart next es → AreNumbered es
apart_numbered next [] h = All-nil (λ x. x.0 ≡ x.1.number)
apart_numbered next (x ∷ es) h = All-cons (λ x. x.0 ≡ x.1.number) x es h.0 (apart_numbered next es h.3)

all_stand : (service : Service) (first : ℕ) (live : List Suspended) → AllStand service first (by_number live) (map (live_of service) live)
all_stand service first [] = tt
all_stand service first (s ∷ live) =
    (record { number = refl; key = refl; session = refl; turn = omega arith; waits = ([], budget, refl) }, all_stand service first live)

pub parts_stand : (p : Parts) → StandsFor (seen_of p) (loaded_world p)
parts_stand p = record { shared = refl; next = refl; first = refl; live = all_stand p.checked.typed.service p.first p.live }
