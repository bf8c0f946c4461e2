-- Sessions don't meet.
use Rattle.std.proofs.Common.{◌≡◌, ℕ, zero, suc, Bool, true, false, cond, List, [], ◌∷◌, ◌++◌, Option, Some, None, refl, sym, ap, ◌∙◌, subst, inl, inr}
use Rattle.std.specs.Prelude.{◌==◌, ◌&&◌, if◌then◌else◌, ◌≢◌, ◌⊎◌, find, map, take}
use Rattle.std.specs.Option.{option_map}
use Rattle.std.proofs.lemmas.Bool.{eqb-true}
use Rattle.bw_http.specs.declared.request.Method.{Method}
use Rattle.bw_http.specs.declared.request.Method.TheVariants.{Get, Post, Other}
use Rattle.bw_http.specs.declared.request.Path.{Path}
use Rattle.bw_http.specs.declared.request.Path.TheVariants as paths
use Rattle.bw_lang.specs.declared.service.Service.{Service}
use Rattle.bw_meaning.specs.States.{Form}
use Rattle.bw_model.specs.Answers.{Answer, Fate, Stays, IsUsed, GoesOn, Leaves, Said, turned}
use Rattle.bw_model.specs.Laws.{IsWorld, SessionsAreAlone, RunsAgree}
use Rattle.bw_model.specs.Sessions.{Talk, Live, World, now}
use Rattle.bw_model.specs.Steps.{is_of, asks_by, fated, founded, beginner, Answerer, taken_out, on_path_by, step_by}
use Rattle.bw_model.specs.Talks.{Asked, said_at, said_to, heard, conversation, next_talk, own_answers}
use Rattle.bw_model.proofs.Found.{Out, IsOut, no_session, session, out, found, out_is, has_number, others_found, another}
use Rattle.bw_model.proofs.Kept.{by_start, IsNew, out_new, next_is_new, first_stays, steps_keep_worlds}

module _ (ans : Answerer) where
  -- ---- one step

  -- the session as its fate has it
  abbrev live_after : Live → Fate → Option Live
  live_after l Stays = Some l
  live_after l IsUsed = Some l
  live_after l (GoesOn talk shared) = Some (record l { talk = talk })
  live_after l (Leaves shared) = None

  -- a session that isn't spoken to stays as it is, or gives way; one that is goes as it is answered
  abbrev StaysOrGoes : ℕ → ℕ → Live → World → Type 0
  StaysOrGoes number key l to = (find (is_of number key) to.live ≡ Some l) ⊎ (find (is_of number key) to.live ≡ None)

  abbrev Moves : Service → ℕ → ℕ → World → Live → World → Option Said → Type 0
  Moves service number key w l to None = StaysOrGoes number key l to
  Moves service number key w l to (Some s) = find (is_of number key) to.live ≡ live_after l (ans w.first l.talk s).fate

  -- the session of another number stands in front
  passed : (number key : ℕ) (m : Live) (ls : List Live) → is_of number key m ≡ false → find (is_of number key) (m ∷ ls) ≡ find (is_of number key) ls
  passed number key m ls e = ap (λ b. cond b (Some m) (find (is_of number key) ls)) e

  at_front : (number key : ℕ) (m : Live) (ls : List Live) → is_of number key m ≡ true → find (is_of number key) (m ∷ ls) ≡ Some m
  at_front number key m ls e = ap (λ b. cond b (Some m) (find (is_of number key) ls)) e

  other_number : (number key : ℕ) (m : Live) → m.number ≢ number → is_of number key m ≡ false
  other_number number key m d = apart (m.number == number) (m.key == key) (λ e. d (eqb-true m.number number e))
    where
      apart : (a b : Bool) → (a ≡ true → ⊥) → (a && b) ≡ false
      apart true b f = absurd (f refl)
      apart false b f = refl

  none_new : (number key : ℕ) (ls : List Live) → IsNew ans number ls → find (is_of number key) ls ≡ None
  none_new number key [] h = refl
  none_new number key (l ∷ ls) h = passed number key l ls (other_number number key l h.0) ∙ none_new number key ls h.1

  -- those in front are found, or it isn't among them
  in_front : (number key count : ℕ) (ls : List Live) (l : Live) → find (is_of number key) ls ≡ Some l →
      (find (is_of number key) (take count ls) ≡ Some l) ⊎ (find (is_of number key) (take count ls) ≡ None)
  in_front number key zero ls l e = inr refl
  in_front number key (suc count) [] l e = inr refl
  in_front number key (suc count) (m ∷ ls) l e = first (is_of number key m) (in_front number key count ls l) e
    where
      first : (b : Bool) →
          (find (is_of number key) ls ≡ Some l → (find (is_of number key) (take count ls) ≡ Some l) ⊎ (find (is_of number key) (take count ls) ≡ None)) →
          cond b (Some m) (find (is_of number key) ls) ≡ Some l →
          (cond b (Some m) (find (is_of number key) (take count ls)) ≡ Some l) ⊎ (cond b (Some m) (find (is_of number key) (take count ls)) ≡ None)
      first true rest e = inl e
      first false rest e = rest e

  -- the next number isn't that of a session that is found
  not_next : (number key : ℕ) (w : World) (l : Live) → IsWorld w → find (is_of number key) w.live ≡ Some l → w.next ≢ number
  not_next number key w l h e same =
      let none = none_new number key w.live (subst (λ n. IsNew ans n w.live) same (next_is_new ans w.next w.live h.apart)) in cc

  -- a session begins
  by_founded : (number key drawn : ℕ) (w : World) (l : Live) (fate : Fate) → IsWorld w → find (is_of number key) w.live ≡ Some l →
      StaysOrGoes number key l (founded w drawn fate)
  by_founded number key drawn w l Stays h e = inl e
  by_founded number key drawn w l IsUsed h e = inl e
  by_founded number key drawn w l (Leaves shared) h e = inl e
  by_founded number key drawn w l (GoesOn talk shared) h e =
      let m : Live = record { number = w.next; key = drawn; talk = talk } in
      in_front number key 1000 (m ∷ w.live) l (passed number key m w.live (other_number number key m (not_next number key w l h e)) ∙ e)

  -- another session is visited
  by_fated : (number key n k : ℕ) (w : World) (l m : Live) (others : List Live) (fate : Fate) → (number == n && key == k) ≡ false → Out n k w.live m others →
      find (is_of number key) w.live ≡ Some l → find (is_of number key) (fated w m others fate).live ≡ Some l
  by_fated number key n k w l m others Stays d o e = e
  by_fated number key n k w l m others IsUsed d o e =
      passed number key m others (another number key n k m d (out_is n k w.live m others o)) ∙ others_found number key n k d w.live m others o ∙ e
  by_fated number key n k w l m others (GoesOn talk shared) d o e =
      passed number key (record m { talk = talk }) others (another number key n k m d (out_is n k w.live m others o))
      ∙ others_found number key n k d w.live m others o ∙ e
  by_fated number key n k w l m others (Leaves shared) d o e = others_found number key n k d w.live m others o ∙ e

  by_other : (service : Service) (number key n k : ℕ) (w : World) (l : Live) (method : Method) (form : Form) (turn : ℕ) (o : Option (Live × List Live)) →
      (number == n && key == k) ≡ false → IsOut n k w.live o → find (is_of number key) w.live ≡ Some l →
      find (is_of number key) (asks_by ans service w method form turn o).world.live ≡ Some l
  by_other service number key n k w l method form turn _ d (no_session none) e = e
  by_other service number key n k w l method form turn _ d (session m others o) e =
      by_fated number key n k w l m others
      (ans w.first m.talk (record { method = method; form = form; turn = turn; shared = w.shared })).fate d o e

  -- the session itself is visited
  by_own : (number key : ℕ) (w : World) (m : Live) (others : List Live) (fate : Fate) → IsWorld w → Out number key w.live m others →
      find (is_of number key) (fated w m others fate).live ≡ live_after m fate
  by_own number key w m others Stays h o = found number key w.live m others o
  by_own number key w m others IsUsed h o = at_front number key m others (out_is number key w.live m others o)
  by_own number key w m others (GoesOn talk shared) h o =
      at_front number key (record m { talk = talk }) others (out_is number key w.live m others o)
  by_own number key w m others (Leaves shared) h o =
      none_new number key others (subst (λ n. IsNew ans n others) (has_number number key m (out_is number key w.live m others o))
      (out_new ans w.next number key w.live m others o h.apart))

  abbrev unwrapped : Live → Option Live → Live
  unwrapped d None = d
  unwrapped d (Some x) = x

  by_visit : (service : Service) (number key : ℕ) (w : World) (l : Live) (s : Said) (o : Option (Live × List Live)) → IsWorld w → s.shared ≡ w.shared →
      IsOut number key w.live o → find (is_of number key) w.live ≡ Some l →
      find (is_of number key) (asks_by ans service w s.method s.form s.turn o).world.live ≡ live_after l (ans w.first l.talk s).fate
  by_visit service number key w l s _ h same (no_session none) e = cc
  by_visit service number key w l s _ h same (session m others o) e =
      let is : Some m ≡ Some l = sym (found number key w.live m others o) ∙ e in
      let said : Said = record { method = s.method; form = s.form; turn = s.turn; shared = w.shared } in
      by_own number key w m others (ans w.first m.talk said).fate h o
      ∙ ap (λ x. live_after m (ans w.first m.talk x).fate) (sym (ap (λ v. record s { shared = v }) same))
      ∙ ap (λ x. live_after (unwrapped m x) (ans w.first (unwrapped m x).talk s).fate) is

  -- a path that names a session names this one, or another
  by_turn : (service : Service) (number key n k : ℕ) (w : World) (l : Live) (method : Method) (form : Form) (turn : ℕ) (s : Said) (b : Bool) → IsWorld w →
      s ≡ record { method = method; form = form; turn = turn; shared = w.shared } → (number == n && key == k) ≡ b → find (is_of number key) w.live ≡ Some l →
      Moves service number key w l (asks_by ans service w method form turn (taken_out n k w.live)).world (if b then Some s else None)
  by_turn service number key n k w l method form turn s true h is same e =
      let a : number ≡ n = eqb-true number n (both (number == n) (key == k) same).0 in
      let c : key ≡ k = eqb-true key k (both (number == n) (key == k) same).1 in
      subst (λ x. Moves service number key w l (asks_by ans service w method form turn (taken_out x k w.live)).world (Some s)) a
      (subst (λ y. Moves service number key w l (asks_by ans service w method form turn (taken_out number y w.live)).world (Some s)) c
      (subst (λ x. find (is_of number key) (asks_by ans service w method form turn (taken_out number key w.live)).world.live
      ≡ live_after l (ans w.first l.talk x).fate) (sym is)
      (by_visit service number key w l (record { method = method; form = form; turn = turn; shared = w.shared }) (taken_out number key w.live) h refl
      (out number key w.live) e)))
    where
      both : (a b : Bool) → (a && b) ≡ true → (a ≡ true) × (b ≡ true)
      both true b e = (refl, e)
      both false b e = cc
  by_turn service number key n k w l method form turn s false h is same e =
      inl (by_other service number key n k w l method form turn (taken_out n k w.live) same (out n k w.live) e)

  no_said : (b : Bool) (s : Option Said) → s ≡ None → (if b then s else None) ≡ None
  no_said true s e = e
  no_said false s e = refl

  moved : (service : Service) (number key : ℕ) (w : World) (l : Live) (method : Method) (form : Form) (drawn : ℕ) (path : Path) → IsWorld w →
      find (is_of number key) w.live ≡ Some l →
      Moves service number key w l (on_path_by ans service w method form drawn path).world (said_at number key method form w.shared path)
  moved service number key w l method form drawn paths.Other h e = inl e
  moved service number key w l Get form drawn paths.Index h e = inl e
  moved service number key w l Post form drawn paths.Index h e = inl e
  moved service number key w l Other form drawn paths.Index h e = inl e
  moved service number key w l Get form drawn (paths.Start name) h e =
      by_start ans (λ s. StaysOrGoes number key l s.world) service w drawn _ (λ reply. inl e)
      (λ s. by_founded number key drawn w l (turned w.first (beginner w s) (now service (beginner w s))).fate h e)
  moved service number key w l Post form drawn (paths.Start name) h e = inl e
  moved service number key w l Other form drawn (paths.Start name) h e = inl e
  moved service number key w l Get form drawn (paths.Turn n k turn) h e =
      by_turn service number key n k w l Get form turn (record { method = Get; form = form; turn = turn; shared = w.shared })
      (number == n && key == k) h refl refl e
  moved service number key w l Post form drawn (paths.Turn n k turn) h e =
      by_turn service number key n k w l Post form turn (record { method = Post; form = form; turn = turn; shared = w.shared })
      (number == n && key == k) h refl refl e
  moved service number key w l Other form drawn (paths.Turn n k turn) h e =
      subst (Moves service number key w l w) (sym (no_said (number == n && key == k) None refl)) (inl e)

  -- ---- a run

  talk_after : (l : Live) (fate : Fate) → option_map (λ (x : Live). x.talk) (live_after l fate) ≡ next_talk l.talk fate
  talk_after l Stays = refl
  talk_after l IsUsed = refl
  talk_after l (GoesOn talk shared) = refl
  talk_after l (Leaves shared) = refl

  silent : (service : Service) (number key : ℕ) (w : World) (asked : List Asked) → find (is_of number key) w.live ≡ None →
      conversation ans service number key w asked ≡ []
  silent service number key w [] e = refl
  silent service number key w (a ∷ asked) e =
      ap (λ o. heard ans w.first o (said_to number key w a) (conversation ans service number key (step_by ans service w a.request a.key).world asked)) e

  none_own : (first : ℕ) (o : Option Talk) → own_answers ans first o [] ≡ []
  none_own first None = refl
  none_own first (Some talk) = refl

  -- the answers of a conversation are the session's own
  abbrev IsOwn : ℕ → Option Live → List (Said × Answer) → Type 0
  IsOwn first o talk = map (λ x. x.1) talk ≡ own_answers ans first (option_map (λ (x : Live). x.talk) o) (map (λ x. x.0) talk)

  alone : (service : Service) (number key : ℕ) (asked : List Asked) (w : World) (o : Option Live) → IsWorld w → find (is_of number key) w.live ≡ o →
      IsOwn w.first o (conversation ans service number key w asked)
  alone service number key asked w None h e = subst (IsOwn w.first None) (sym (silent service number key w asked e)) refl
  alone service number key [] w (Some l) h e = refl
  alone service number key (a ∷ asked) w (Some l) h e =
      let to = (step_by ans service w a.request a.key).world in
      let later = conversation ans service number key to asked in
      subst (λ o. IsOwn w.first (Some l) (heard ans w.first o (said_to number key w a) later)) (sym e)
      (next (said_to number key w a) (moved service number key w l a.request.method a.request.form a.key a.request.path h e)
      (λ o f. subst (λ n. IsOwn n o later) (first_stays ans service w a.request.method a.request.form a.key a.request.path)
      (alone service number key asked to o (steps_keep_worlds ans service w a.request a.key h) f)))
    where
      next : (said : Option Said) → Moves service number key w l (step_by ans service w a.request a.key).world said →
          ((o : Option Live) → find (is_of number key) (step_by ans service w a.request a.key).world.live ≡ o →
          IsOwn w.first o (conversation ans service number key (step_by ans service w a.request a.key).world asked)) →
          IsOwn w.first (Some l)
          (heard ans w.first (Some l) said (conversation ans service number key (step_by ans service w a.request a.key).world asked))
      next None (inl f) rest = rest (Some l) f
      next None (inr f) rest =
          subst (IsOwn w.first (Some l)) (sym (silent service number key (step_by ans service w a.request a.key).world asked f)) refl
      next (Some s) f rest =
          let fate = (ans w.first l.talk s).fate in
          let saids = map (λ x. x.0) (conversation ans service number key (step_by ans service w a.request a.key).world asked) in
          ap (λ xs. (ans w.first l.talk s).answer ∷ xs)
          (rest (live_after l fate) f ∙ ap (λ t. own_answers ans w.first t saids) (talk_after l fate))

  pub alone_so : (service : Service) (w : World) (number key : ℕ) (l : Live) (asked : List Asked) → IsWorld w → find (is_of number key) w.live ≡ Some l →
      let talk = conversation ans service number key w asked in map (λ x. x.1) talk ≡ own_answers ans w.first (Some l.talk) (map (λ x. x.0) talk)
  alone_so service w number key l asked h e = alone service number key asked w (Some l) h e

  -- ---- two runs

  own_longer : (first : ℕ) (o : Option Talk) (xs ys : List Said) →
      (later : List Answer) × (own_answers ans first o (xs ++ ys) ≡ own_answers ans first o xs ++ later)
  own_longer first None xs ys = ([], refl)
  own_longer first (Some talk) [] ys = (own_answers ans first (Some talk) ys, refl)
  own_longer first (Some talk) (s ∷ xs) ys =
      let a = ans first talk s in
      let h = own_longer first (next_talk talk a.fate) xs ys in
      (h.0, ap (λ l. a.answer ∷ l) h.1)

pub sessions_are_alone : SessionsAreAlone
sessions_are_alone ans service w number key l asked h e = alone_so ans service w number key l asked h e

pub runs_agree : RunsAgree
runs_agree ans service w w1 number number1 key key1 l l1 asked asked1 h h1 same e e1 talks more longer =
    let saids = map (λ x. x.0) (conversation ans service number key w asked) in
    let p = own_longer ans w.first (Some l.talk) saids more in (
      p.0,
      alone_so ans service w1 number1 key1 l1 asked1 h1 e1
          ∙ ap (own_answers ans w1.first (Some l1.talk)) longer
          ∙ ap (λ n. own_answers ans n (Some l1.talk) (saids ++ more)) (sym same)
          ∙ ap (λ t. own_answers ans w.first (Some t) (saids ++ more)) (sym talks)
          ∙ p.1
          ∙ ap (λ xs. xs ++ p.0) (sym (alone_so ans service w number key l asked h e)),
    )
