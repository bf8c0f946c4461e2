-- What each step keeps of live sessions.
use Rattle.std.proofs.Common.{◌≡◌, ℕ, zero, suc, ◌≤◌, Bool, true, false, List, [], ◌∷◌, Option, Some, None, refl, sym, ap, arith}
use Rattle.std.specs.Prelude.{nat_lt, if◌then◌else◌, ◌≢◌, length, take}
use Rattle.std.specs.List.{AllByRecursion}
use Rattle.bw_http.specs.declared.replies.Reply.{Reply}
use Rattle.bw_http.specs.declared.replies.Reply.TheVariants as replies
use Rattle.bw_http.specs.declared.request.Method.{Method}
use Rattle.bw_http.specs.declared.request.Method.TheVariants.{Get, Post, Other}
use Rattle.bw_http.specs.declared.request.Path.{Path}
use Rattle.bw_http.specs.declared.request.Path.TheVariants as paths
use Rattle.bw_lang.specs.declared.service.Service.{Service}
use Rattle.bw_meaning.specs.States.{Form}
use Rattle.bw_model.specs.Answers.{Fate, Stays, IsUsed, GoesOn, Leaves, turned}
use Rattle.bw_model.specs.Laws.{AreApart, IsWorld, EmptyIsWorld}
use Rattle.bw_model.specs.Sessions.{Live, World, now}
use Rattle.bw_http.specs.declared.request.Request.{Request}
use Rattle.bw_model.specs.Steps.{Step, refuses, starts, asks_by, begins, fated, founded, beginner, Answerer, taken_out, on_path_by, step_by}
use Rattle.bw_model.proofs.Found.{Out, here, later, IsOut, no_session, session, out, out_all}

module _ (ans : Answerer) where
  -- ---- by the path of a request

  -- what holds of refusals, of starts and of visits holds of each step
  pub by_path : (P : Step → Type 0) (service : Service) (w : World) (method : Method) (form : Form) (key : ℕ) (path : Path) →
      ((reply : Reply) → P (refuses w reply)) →
      ((o : Option ℕ) → P (starts service w key o)) →
      ((m : Method) (turn number k : ℕ) → P (asks_by ans service w m form turn (taken_out number k w.live))) → P (on_path_by ans service w method form key path)
  by_path P service w method form key paths.Other r s a = r _
  by_path P service w Get form key paths.Index r s a = r _
  by_path P service w Post form key paths.Index r s a = r _
  by_path P service w Other form key paths.Index r s a = r _
  by_path P service w Get form key (paths.Start name) r s a = s _
  by_path P service w Post form key (paths.Start name) r s a = r _
  by_path P service w Other form key (paths.Start name) r s a = r _
  by_path P service w Get form key (paths.Turn number k turn) r s a = a Get turn number k
  by_path P service w Post form key (paths.Turn number k turn) r s a = a Post turn number k
  by_path P service w Other form key (paths.Turn number k turn) r s a = r _

  -- what holds of refusals and of each session that begins holds of starts
  pub by_start : (P : Step → Type 0) (service : Service) (w : World) (key : ℕ) (o : Option ℕ) → ((reply : Reply) → P (refuses w reply)) →
      ((s : ℕ) → P (begins service w key (turned w.first (beginner w s) (now service (beginner w s))))) → P (starts service w key o)
  by_start P service w key None r s = r _
  by_start P service w key (Some place) r s = either (nat_lt 4294967295 w.next)
    where
      either : (b : Bool) →
          P (if b then refuses w replies.NoNumbers else begins service w key (turned w.first (beginner w place) (now service (beginner w place))))
      either true = r replies.NoNumbers
      either false = s place

  -- ---- the number of a first turn stays

  first_founded : (w : World) (key : ℕ) (fate : Fate) → (founded w key fate).first ≡ w.first
  first_founded w key Stays = refl
  first_founded w key IsUsed = refl
  first_founded w key (GoesOn talk shared) = refl
  first_founded w key (Leaves shared) = refl

  first_fated : (w : World) (l : Live) (others : List Live) (fate : Fate) → (fated w l others fate).first ≡ w.first
  first_fated w l others Stays = refl
  first_fated w l others IsUsed = refl
  first_fated w l others (GoesOn talk shared) = refl
  first_fated w l others (Leaves shared) = refl

  first_asked : (service : Service) (w : World) (method : Method) (form : Form) (turn : ℕ) (o : Option (Live × List Live)) →
      (asks_by ans service w method form turn o).world.first ≡ w.first
  first_asked service w method form turn None = refl
  first_asked service w method form turn (Some x) =
      first_fated w x.0 x.1 (ans w.first x.0.talk (record { method = method; form = form; turn = turn; shared = w.shared })).fate

  pub first_stays : (service : Service) (w : World) (method : Method) (form : Form) (key : ℕ) (path : Path) →
      (on_path_by ans service w method form key path).world.first ≡ w.first
  first_stays service w method form key path =
      by_path (λ s. s.world.first ≡ w.first) service w method form key path (λ reply. refl)
      (λ o. by_start (λ s. s.world.first ≡ w.first) service w key o (λ reply. refl)
      (λ s. first_founded w key (turned w.first (beginner w s) (now service (beginner w s))).fate))
      (λ m turn number k. first_asked service w m form turn (taken_out number k w.live))

  -- ---- numbers are apart, and few are live

  -- no live session has this number
  abbrev pub IsNew : ℕ → List Live → Type 0
  IsNew n ls = AllByRecursion (λ (m : Live). m.number ≢ n) ls

  out_apart : (next number key : ℕ) (ls : List Live) (m : Live) (others : List Live) → Out number key ls m others → AreApart next ls → AreApart next (m ∷ others)
  out_apart next number key _ _ _ (here l ls e) a = a
  out_apart next number key _ _ _ (later l m ls others e h) (below, new, apart) =
      let (below1, new1, apart1) : AreApart next (m ∷ others) = out_apart next number key ls m others h apart in
      let (d, new2) = out_all (λ x. x.number ≢ l.number) number key ls m others h new in
      (below1, ((λ same. d (sym same)), new1), (below, new2, apart1))

  pub out_new : (next number key : ℕ) (ls : List Live) (m : Live) (others : List Live) → Out number key ls m others → AreApart next ls → IsNew m.number others
  out_new next number key ls m others h a = new (out_apart next number key ls m others h a)
    where
      new : AreApart next (m ∷ others) → IsNew m.number others
      new (b, n, c) = n

  others_apart : (next : ℕ) (m : Live) (others : List Live) → AreApart next (m ∷ others) → AreApart next others
  others_apart next m others (b, n, c) = c

  out_length : (number key : ℕ) (ls : List Live) (m : Live) (others : List Live) → Out number key ls m others → suc (length others) ≡ length ls
  out_length number key _ _ _ (here l ls e) = refl
  out_length number key _ _ _ (later l m ls others e h) = ap (λ n. suc n) (out_length number key ls m others h)

  apart_up : (next : ℕ) (ls : List Live) → AreApart next ls → AreApart (suc next) ls
  apart_up next [] a = tt
  apart_up next (l ∷ ls) (b, n, c) = (omega (arith, b), n, apart_up next ls c)

  pub next_is_new : (next : ℕ) (ls : List Live) → AreApart next ls → IsNew next ls
  next_is_new next [] a = tt
  next_is_new next (l ∷ ls) (b, n, c) = ((λ same. absurd (omega (arith, same, b))), next_is_new next ls c)

  new_taken : (n count : ℕ) (ls : List Live) → IsNew n ls → IsNew n (take count ls)
  new_taken n zero ls a = tt
  new_taken n (suc count) [] a = tt
  new_taken n (suc count) (l ∷ ls) a = (a.0, new_taken n count ls a.1)

  apart_taken : (next count : ℕ) (ls : List Live) → AreApart next ls → AreApart next (take count ls)
  apart_taken next zero ls a = tt
  apart_taken next (suc count) [] a = tt
  apart_taken next (suc count) (l ∷ ls) (b, n, c) = (b, new_taken l.number count ls n, apart_taken next count ls c)

  short_taken : (count : ℕ) (ls : List Live) → length (take count ls) ≤ count
  short_taken zero ls = omega arith
  short_taken (suc count) [] = omega arith
  short_taken (suc count) (l ∷ ls) = let h = short_taken count ls in omega arith

  founded_world : (w : World) (key : ℕ) (fate : Fate) → IsWorld w → IsWorld (founded w key fate)
  founded_world w key Stays h = h
  founded_world w key IsUsed h = h
  founded_world w key (Leaves shared) h = record { apart = h.apart; few = h.few }
  founded_world w key (GoesOn talk shared) h =
      let l : Live = record { number = w.next; key = key; talk = talk } in
      record {
        apart = apart_taken (suc w.next) 1000 (l ∷ w.live) (omega arith, next_is_new w.next w.live h.apart, apart_up w.next w.live h.apart);
        few = short_taken 1000 (l ∷ w.live);
      }

  fated_world : (w : World) (number k : ℕ) (m : Live) (others : List Live) (fate : Fate) → Out number k w.live m others → IsWorld w →
      IsWorld (fated w m others fate)
  fated_world w number k m others Stays o h = h
  fated_world w number k m others IsUsed o h =
      record { apart = out_apart w.next number k w.live m others o h.apart; few = omega (arith, out_length number k w.live m others o, h.few) }
  fated_world w number k m others (GoesOn talk shared) o h =
      record { apart = out_apart w.next number k w.live m others o h.apart; few = omega (arith, out_length number k w.live m others o, h.few) }
  fated_world w number k m others (Leaves shared) o h =
      record {
        apart = others_apart w.next m others (out_apart w.next number k w.live m others o h.apart);
        few = omega (arith, out_length number k w.live m others o, h.few);
      }

  asked_world : (service : Service) (w : World) (method : Method) (form : Form) (turn number k : ℕ) (o : Option (Live × List Live)) → IsOut number k w.live o →
      IsWorld w → IsWorld (asks_by ans service w method form turn o).world
  asked_world service w method form turn number k _ (no_session e) h = h
  asked_world service w method form turn number k _ (session m others x) h =
      fated_world w number k m others (ans w.first m.talk (record { method = method; form = form; turn = turn; shared = w.shared })).fate x h

  pub steps_keep_worlds : (service : Service) (w : World) (request : Request) (key : ℕ) → IsWorld w → IsWorld (step_by ans service w request key).world
  steps_keep_worlds service w request key h =
      by_path (λ s. IsWorld s.world) service w request.method request.form key request.path (λ reply. h)
      (λ o. by_start (λ s. IsWorld s.world) service w key o (λ reply. h)
      (λ s. founded_world w key (turned w.first (beginner w s) (now service (beginner w s))).fate h))
      (λ m turn number k. asked_world service w m request.form turn number k (taken_out number k w.live) (out number k w.live) h)

pub empty_is_world : EmptyIsWorld
empty_is_world service = record { apart = tt; few = omega arith }
