-- What is done to the live sessions keeps what holds of each world.
use Rattle.std.proofs.Common.{◌≡◌, ◌≢◌, ◌<◌, ◌≤◌, ◌+◌, ◌-◌, ℕ, zero, suc, Bool, true, false, cond, List, [], ◌∷◌, length, take}
use Rattle.std.proofs.Common.{Some, None, refl, sym, ap, ◌∙◌, subst, inl, inr, arith}
use Rattle.std.specs.Prelude.{nat_eq}
use Rattle.std.specs.List.{All}
use Rattle.std.specs.Map.{lookup, lookup_entry, remove_entry}
use Rattle.std.specs.Option.{option_map_or}
use Rattle.std.proofs.lemmas.Bool.{ne_eqb}
use Rattle.std.proofs.lemmas.List.Elements.{All-nil, All-cons, All-head, All-tail}
use Rattle.lru.specs.LruCache.{LruCache, lru_cache, promoted, put_entries}
use Rattle.bw_eval.specs.declared.value.Value.{Value}
use Rattle.bw_doc.specs.Made.{Made}
use Rattle.bw_lang.specs.declared.service.Service.{Service}
use Rattle.bw_types.specs.declared.typed.Typed.{Typed}
use Rattle.bw_run.specs.declared.turn.Frame.{Frame}
use Rattle.bw_run.specs.Fit.{AreShared}
use Rattle.bw_world.specs.declared.suspended.Suspended.{Suspended}
use Rattle.bw_world.specs.Changes.{shown_page, begun, went_on, with_new, with_first, without}
use Rattle.bw_world.specs.Kept.{AreApart, IsSuspended, IsKept}
use Rattle.bw_world.specs.Seen.{Seen, found}
use Rattle.bw_world.proofs.Live.{Test, test, is_found}

abbrev Sessions : Type 0
Sessions = List (ℕ × Suspended)

module _ (P : ℕ × Suspended → Type 0) where
  all_taken : (n : ℕ) (xs : Sessions) → All P xs → All P (take n xs)
  all_taken zero xs h = All-nil P
  all_taken (suc n) [] h = All-nil P
  all_taken (suc n) (x ∷ xs) h = All-cons P x (take n xs) (All-head P x xs h) (all_taken n xs (All-tail P x xs h))

  all_left : (is : ℕ → Bool) (xs : Sessions) → All P xs → All P (remove_entry is xs)
  all_left is [] h = h
  all_left is (x ∷ xs) h = by (is x.0) (all_left is xs (All-tail P x xs h))
    where
      by : (b : Bool) → All P (remove_entry is xs) → All P (cond b xs (x ∷ remove_entry is xs))
      by true later = All-tail P x xs h
      by false later = All-cons P x (remove_entry is xs) (All-head P x xs h) later

apart_taken : (next n : ℕ) (xs : Sessions) → AreApart next xs → AreApart next (take n xs)
apart_taken next zero xs h = tt
apart_taken next (suc n) [] h = tt
apart_taken next (suc n) (x ∷ xs) h = (h.0, h.1, all_taken (λ y. y.0 ≢ x.0) n xs h.2, apart_taken next n xs h.3)

apart_left : (next : ℕ) (is : ℕ → Bool) (xs : Sessions) → AreApart next xs → AreApart next (remove_entry is xs)
apart_left next is [] h = h
apart_left next is (x ∷ xs) h = by (is x.0) (apart_left next is xs h.3)
  where
    by : (b : Bool) → AreApart next (remove_entry is xs) → AreApart next (cond b xs (x ∷ remove_entry is xs))
    by true later = h.3
    by false later = (h.0, h.1, all_left (λ y. y.0 ≢ x.0) is xs h.2, later)

apart_later : (next : ℕ) (xs : Sessions) → AreApart next xs → AreApart (suc next) xs
apart_later next [] h = h
apart_later next (x ∷ xs) h = (h.0, omega (arith, h.1), h.2, apart_later next xs h.3)

-- the next number is no session's
none_next : (next : ℕ) (xs : Sessions) → AreApart next xs → All (λ y. y.0 ≢ next) xs
none_next next [] h = All-nil (λ y. y.0 ≢ next)
none_next next (x ∷ xs) h = All-cons (λ y. y.0 ≢ next) x xs (λ e. omega (arith, h.1, e)) (none_next next xs h.3)

-- once the session of a number is taken out, none has it
none_left : (number next : ℕ) (xs : Sessions) → AreApart next xs → All (λ y. y.0 ≢ number) (remove_entry (nat_eq number) xs)
none_left number next [] h = All-nil (λ y. y.0 ≢ number)
none_left number next (x ∷ xs) h = by (test x.0 number) (none_left number next xs h.3)
  where
    by : Test x.0 number → All (λ y. y.0 ≢ number) (remove_entry (nat_eq number) xs)
        → All (λ y. y.0 ≢ number) (cond (nat_eq number x.0) xs (x ∷ remove_entry (nat_eq number) xs))
    by (inl e) later = subst (λ b. All (λ y. y.0 ≢ number) (cond b xs (x ∷ remove_entry (nat_eq number) xs))) (sym e.1)
        (subst (λ n. All (λ y. y.0 ≢ n) xs) e.0 h.2)
    by (inr e) later = subst (λ b. All (λ y. y.0 ≢ number) (cond b xs (x ∷ remove_entry (nat_eq number) xs))) (sym e.1)
        (All-cons (λ y. y.0 ≢ number) x _ e.0 later)

few_taken : (n : ℕ) (xs : Sessions) → length (take n xs) ≤ n
few_taken zero xs = omega arith
few_taken (suc n) [] = omega arith
few_taken (suc n) (x ∷ xs) = omega (arith, few_taken n xs)

fewer_left : (is : ℕ → Bool) (xs : Sessions) → length (remove_entry is xs) ≤ length xs
fewer_left is [] = omega arith
fewer_left is (x ∷ xs) = by (is x.0) (fewer_left is xs)
  where
    by : (b : Bool) → length (remove_entry is xs) ≤ length xs → length (cond b xs (x ∷ remove_entry is xs)) ≤ length (x ∷ xs)
    by true later = omega arith
    by false later = omega (arith, later)

-- what is looked up by its number
pub record Looked (service : Service) (number next : ℕ) (live : Sessions) (s : Suspended) : Type 0 where
  pub below : number < next
  pub number_is : s.number ≡ number
  pub suspended : IsSuspended service s
  pub entry : lookup_entry (nat_eq number) live ≡ Some (number, s)
  pub fewer : length (remove_entry (nat_eq number) live) + 1 ≡ length live

pub looked : (service : Service) (number next : ℕ) (live : Sessions) → AreApart next live → All (λ x. IsSuspended service x.1) live → (s : Suspended)
    → lookup (nat_eq number) live ≡ Some s → Looked service number next live s
looked service number next [] a f s e = cc
looked service number next (x ∷ xs) a f s e = by (test x.0 number) (looked service number next xs a.3 (All-tail (λ x. IsSuspended service x.1) x xs f) s)
  where
    by : Test x.0 number → (lookup (nat_eq number) xs ≡ Some s → Looked service number next xs s) → Looked service number next (x ∷ xs) s
    by (inl h) later =
        let k : Some x.1 ≡ Some s = sym (ap (λ b. cond b (Some x.1) (lookup (nat_eq number) xs)) h.1) ∙ e in
        let is : x.1 ≡ s = cc in
        record {
          below = omega (arith, h.0, a.1);
          number_is = sym (ap (λ (z : Suspended). z.number) is) ∙ sym a.0 ∙ h.0;
          suspended = subst (IsSuspended service) is (All-head (λ x. IsSuspended service x.1) x xs f);
          entry = ap (λ b. cond b (Some x) (lookup_entry (nat_eq number) xs)) h.1 ∙ (λ i. Some (h.0 i, is i));
          fewer = ap (λ b. length (cond b xs (x ∷ remove_entry (nat_eq number) xs)) + 1) h.1 ∙ omega arith;
        }
    by (inr h) later =
        let k = later (sym (ap (λ b. cond b (Some x.1) (lookup (nat_eq number) xs)) h.1) ∙ e) in
        record {
          below = k.below;
          number_is = k.number_is;
          suspended = k.suspended;
          entry = ap (λ b. cond b (Some x) (lookup_entry (nat_eq number) xs)) h.1 ∙ k.entry;
          fewer = ap (λ b. length (cond b xs (x ∷ remove_entry (nat_eq number) xs)) + 1) h.1 ∙ omega (arith, k.fewer);
        }

pub no_entry : (number : ℕ) (live : Sessions) → All (λ y. y.0 ≢ number) live → lookup_entry (nat_eq number) live ≡ None
no_entry number [] h = refl
no_entry number (x ∷ xs) h =
    ap (λ b. cond b (Some x) (lookup_entry (nat_eq number) xs)) (ne_eqb number x.0 (λ e. All-head (λ y. y.0 ≢ number) x xs h (sym e)))
    ∙ no_entry number xs (All-tail (λ y. y.0 ≢ number) x xs h)

-- ---- the cache

pub put_new : (next : ℕ) (live : Sessions) (s : Suspended) → AreApart next live
    → put_entries nat_eq (lru_cache live 1000) next s ≡ take 1000 ((next, s) ∷ live)
put_new next live s a = ap (λ o. option_map_or (λ e. (e.0, s) ∷ remove_entry (nat_eq next) live) o ((next, s) ∷ take 999 live))
    (no_entry next live (none_next next live a))

put_old : (service : Service) (number next cap : ℕ) (live : Sessions) (s s1 : Suspended) → Looked service number next live s
    → put_entries nat_eq (lru_cache live cap) number s1 ≡ (number, s1) ∷ remove_entry (nat_eq number) live
put_old service number next cap live s s1 k = ap (λ o. option_map_or (λ e. (e.0, s1) ∷ remove_entry (nat_eq number) live) o
    ((number, s1) ∷ take (cap - 1) live)) k.entry

pub promoted_is : (service : Service) (number next : ℕ) (live : Sessions) (s : Suspended) → Looked service number next live s
    → promoted (nat_eq number) live ≡ (number, s) ∷ remove_entry (nat_eq number) live
promoted_is service number next live s k = ap (λ o. option_map_or (λ e. e ∷ remove_entry (nat_eq number) live) o live) k.entry

-- so in a cache for 1,000
pub put_in : (next : ℕ) (c : LruCache ℕ Suspended) (s : Suspended) → c.cap ≡ 1000 → AreApart next c.entries
    → put_entries nat_eq c next s ≡ take 1000 ((next, s) ∷ c.entries)
put_in next c s e a = ap (λ n. put_entries nat_eq (lru_cache c.entries n) next s) e ∙ put_new next c.entries s a

-- ---- worlds

-- two worlds whose parts are alike
pub seen_is : (v w : Seen) → v.service ≡ w.service → v.shared ≡ w.shared → v.next ≡ w.next → v.first ≡ w.first → v.live ≡ w.live → v ≡ w
seen_is v w a b c d e = λ i. record { service = a i; shared = b i; next = c i; first = d i; live = e i }

module _ (w : Seen) (k : IsKept w) (shared : List (List ℕ × Value)) (fit : AreShared w.service shared) where
  pub kept_shared : IsKept (record w { shared = shared })
  kept_shared = record { typed = k.typed; is = k.is; shared = fit; sessions = k.sessions; apart = k.apart; few = k.few }

  pub kept_new : (s : Suspended) → s.number ≡ w.next → IsSuspended w.service s → IsKept (with_new w s shared)
  kept_new s e h = record {
    typed = k.typed;
    is = k.is;
    shared = fit;
    sessions = all_taken (λ x. IsSuspended w.service x.1) 1000 ((w.next, s) ∷ w.live)
        (All-cons (λ x. IsSuspended w.service x.1) (w.next, s) w.live h k.sessions);
    apart = apart_taken (suc w.next) 1000 ((w.next, s) ∷ w.live) (sym e, omega arith, none_next w.next w.live k.apart, apart_later w.next w.live k.apart);
    few = few_taken 1000 ((w.next, s) ∷ w.live);
  }

  pub kept_first : (s s1 : Suspended) → Looked w.service s1.number w.next w.live s → IsSuspended w.service s1 → IsKept (with_first w s1 shared)
  kept_first s s1 l h = record {
    typed = k.typed;
    is = k.is;
    shared = fit;
    sessions = All-cons (λ x. IsSuspended w.service x.1) (s1.number, s1) _ h (all_left (λ x. IsSuspended w.service x.1) (nat_eq s1.number) w.live k.sessions);
    apart = (refl, l.below, none_left s1.number w.next w.live k.apart, apart_left w.next (nat_eq s1.number) w.live k.apart);
    few = omega (arith, l.fewer, k.few);
  }

  pub kept_without : (number : ℕ) → IsKept (without w number shared)
  kept_without number = record {
    typed = k.typed;
    is = k.is;
    shared = fit;
    sessions = all_left (λ x. IsSuspended w.service x.1) (nat_eq number) w.live k.sessions;
    apart = apart_left w.next (nat_eq number) w.live k.apart;
    few = omega (arith, fewer_left (nat_eq number) w.live, k.few);
  }

-- ---- worlds whose parts were changed one by one

module _ (v w : Seen) (is : v ≡ w) (k : IsKept v) (shared : List (List ℕ × Value)) where
  module _ (fit : AreShared w.service shared) where
    abbrev own_fit : AreShared v.service shared
    own_fit = subst (λ (z : Seen). AreShared z.service shared) (sym is) fit

    pub keeps_others : (c n : LruCache ℕ Suspended) → c.cap ≡ 1000 → (number : ℕ) → n ≡ lru_cache (remove_entry (nat_eq number) c.entries) c.cap
        → c.entries ≡ v.live → (n.cap ≡ 1000) × IsKept (record v { shared = shared; live = n.entries })
    keeps_others c n cap number e same =
        let l : n.entries ≡ remove_entry (nat_eq number) v.live = ap (λ (z : LruCache ℕ Suspended). z.entries) e ∙ ap (remove_entry (nat_eq number)) same in (
          ap (λ (z : LruCache ℕ Suspended). z.cap) e ∙ cap,
          subst (λ ls. IsKept (record v { shared = shared; live = ls })) (sym l)
              (kept_without v k shared own_fit number),
        )

  module _ (c n : LruCache ℕ Suspended) (cap : c.cap ≡ 1000) (same : c.entries ≡ v.live) where
    module _ (key session : ℕ) (frame : Frame) (page : Made) (e : n ≡ lru_cache (put_entries nat_eq c v.next (begun v key session frame page)) c.cap) where
      abbrev one : Suspended
      one = begun v key session frame page

      new_live : n.entries ≡ take 1000 ((v.next, one) ∷ v.live)
      new_live =
          ap (λ (z : LruCache ℕ Suspended). z.entries) e ∙ put_in v.next c one cap (subst (AreApart v.next) (sym same) k.apart)
          ∙ ap (λ ls. take 1000 ((v.next, one) ∷ ls)) same

      new_is : record v { shared = shared; next = v.next + 1; live = n.entries } ≡ with_new v one shared
      new_is = seen_is _ (with_new v one shared) refl refl (omega arith) refl new_live

      pub keeps_new : AreShared w.service shared → IsSuspended w.service (begun w key session frame page)
          → (n.cap ≡ 1000) × IsKept (record v { shared = shared; next = v.next + 1; live = n.entries })
      keeps_new fit suspended = (
        ap (λ (z : LruCache ℕ Suspended). z.cap) e ∙ cap,
        subst IsKept (sym new_is) (kept_new v k shared (own_fit fit) one refl
            (subst (λ (z : Seen). IsSuspended z.service (begun z key session frame page)) (sym is) suspended)),
      )

      pub is_with_new : record v { shared = shared; next = v.next + 1; live = n.entries } ≡ with_new w (begun w key session frame page) shared
      is_with_new = new_is ∙ ap (λ (z : Seen). with_new z (begun z key session frame page) shared) is

-- a live session with its next turn, as it is put together
abbrev pub next_of : ℕ → ℕ → Suspended → Frame → Made → Suspended
next_of number key one frame page = record { number = number; key = key; session = one.session; turn = one.turn + 1; frame = frame; page = page }

-- a session that is live stands in front, with what has become of it
module _ (v w : Seen) (is : v ≡ w) (k : IsKept v) (shared : List (List ℕ × Value)) (number key : ℕ) (one : Suspended)
    (e : found number key w.live ≡ Some one) (s1 : Suspended) (same : s1.number ≡ number) (n : LruCache ℕ Suspended) where
  pub looked_at : Looked v.service number v.next v.live one
  looked_at =
      let here = ap (λ (z : Seen). found number key z.live) is ∙ e in
      looked v.service number v.next v.live k.apart k.sessions one (is_found number key v.next v.live k.apart one here).0

  module _ (entries : n.entries ≡ (number, s1) ∷ remove_entry (nat_eq number) v.live) where
    first_is : record v { shared = shared; live = n.entries } ≡ with_first v s1 shared
    first_is =
        seen_is _ (with_first v s1 shared) refl refl refl refl (entries ∙ ap (λ m. (m, s1) ∷ remove_entry (nat_eq m) v.live) (sym same))

    pub keeps_first : n.cap ≡ 1000 → AreShared v.service shared → IsSuspended w.service s1 → (n.cap ≡ 1000)
        × IsKept (record v { shared = shared; live = n.entries })
    keeps_first cap fit suspended = (
      cap,
      subst IsKept (sym first_is) (kept_first v k shared fit one s1 (subst (λ m. Looked v.service m v.next v.live one) (sym same) looked_at)
          (subst (λ (z : Seen). IsSuspended z.service s1) (sym is) suspended)),
    )

    pub is_with_first : record v { shared = shared; live = n.entries } ≡ with_first w s1 shared
    is_with_first = first_is ∙ ap (λ (z : Seen). with_first z s1 shared) is

-- so does one with its next turn
module _ (v w : Seen) (is : v ≡ w) (k : IsKept v) (shared : List (List ℕ × Value)) (c n : LruCache ℕ Suspended) (cap : c.cap ≡ 1000)
    (same : c.entries ≡ v.live) (number key : ℕ) (one : Suspended) (e : found number key w.live ≡ Some one) (frame : Frame) (page : Made)
    (put : n ≡ lru_cache (put_entries nat_eq c number (next_of number key one frame page)) c.cap) where
  abbrev next : Suspended
  next = next_of number key one frame page

  went : next ≡ went_on one frame page
  went =
      let own = is_found number key v.next v.live k.apart one (ap (λ (z : Seen). found number key z.live) is ∙ e) in
      let turn : one.turn + 1 ≡ suc one.turn = omega arith in
      λ i. record { number = sym own.1 i; key = sym own.2 i; session = one.session; turn = turn i; frame = frame; page = page }

  in_front : n.entries ≡ (number, next) ∷ remove_entry (nat_eq number) v.live
  in_front =
      ap (λ (z : LruCache ℕ Suspended). z.entries) put ∙ ap (λ ls. put_entries nat_eq (lru_cache ls c.cap) number next) same
      ∙ put_old v.service number v.next c.cap v.live one next (looked_at v w is k shared number key one e next refl n)

  pub keeps_next : AreShared w.service shared → IsSuspended w.service (went_on one frame page)
      → (n.cap ≡ 1000) × IsKept (record v { shared = shared; live = n.entries })
  keeps_next fit suspended =
      keeps_first v w is k shared number key one e next refl n in_front (ap (λ (z : LruCache ℕ Suspended). z.cap) put ∙ cap)
      (subst (λ (z : Seen). AreShared z.service shared) (sym is) fit) (subst (IsSuspended w.service) (sym went) suspended)

  pub is_with_next : record v { shared = shared; live = n.entries } ≡ with_first w (went_on one frame page) shared
  is_with_next =
      is_with_first v w is k shared number key one e next refl n in_front ∙ ap (λ (z : Suspended). with_first w z shared) went

  pub next_page : shown_page v.service number key (one.turn + 1) page ≡ shown_page w.service one.number one.key (suc one.turn) page
  next_page =
      ap (λ (z : Suspended). shown_page v.service z.number z.key z.turn page) went
      ∙ ap (λ (z : Seen). shown_page z.service one.number one.key (suc one.turn) page) is

pub kept_empty : (typed : Typed) (shared : List (List ℕ × Value)) → AreShared typed.service shared → (next first : ℕ) (c : LruCache ℕ Suspended) (n : ℕ)
    → c ≡ lru_cache [] n → n ≡ 1000
    → (c.cap ≡ 1000) × IsKept (record { service = typed.service; shared = shared; next = next; first = first; live = c.entries })
kept_empty typed shared fit next first c n e m = (
  ap (λ (z : LruCache ℕ Suspended). z.cap) e ∙ m,
  subst (λ (ls : Sessions). IsKept (record { service = typed.service; shared = shared; next = next; first = first; live = ls }))
      (sym (ap (λ (z : LruCache ℕ Suspended). z.entries) e)) (record {
        typed = typed;
        is = refl;
        shared = fit;
        sessions = All-nil (λ x. IsSuspended typed.service x.1);
        apart = tt;
        few = omega arith;
      }),
)
