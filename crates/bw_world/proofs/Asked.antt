-- What requests are answered by, by their paths and methods.
use Rattle.std.proofs.Common.{◌≡◌, ◌≢◌, ◌⊎◌, ◌==◌, ℕ, true, false, List, Option, Some, None, refl, sym, ap, ◌∙◌, subst, inl, inr, arith}
use Rattle.std.specs.Prelude.{nat_lt, not, ◌||◌, if◌then◌else◌}
use Rattle.std.proofs.lemmas.Bool.{eq-eqb, ne_eqb}
use Rattle.bw_flow.specs.Steps.{Step as Point}
use Rattle.bw_http.specs.declared.replies.Allow.TheVariants as allowed
use Rattle.bw_http.specs.declared.replies.Reply.{Reply}
use Rattle.bw_http.specs.declared.replies.Reply.TheVariants as replies
use Rattle.bw_http.specs.declared.request.Method.{Method}
use Rattle.bw_http.specs.declared.request.Method.TheVariants.{Get, Post, Other}
use Rattle.bw_http.specs.declared.request.Path.TheVariants as paths
use Rattle.bw_lang.specs.declared.service.Service.{Service}
use Rattle.bw_meaning.specs.States.{Form}
use Rattle.bw_model.specs.Answers.{turned}
use Rattle.bw_model.specs.Sessions.{Live, World, now}
use Rattle.bw_model.specs.Steps.{Step, begins, beginner, starts, asks, refuses, on_path, index_of, taken_out}
use Rattle.bw_run.specs.declared.fields.FieldFault.{FieldFault}
use Rattle.bw_run.specs.declared.fields.FieldFault.TheVariants as fields
use Rattle.bw_run.specs.Missing.{first_missing}
use Rattle.bw_run.specs.Turns.{receives_of}
use Rattle.bw_world.specs.declared.suspended.Suspended.{Suspended}
use Rattle.bw_world.specs.Changes.{refused}
use Rattle.bw_world.specs.Plain.{is_plain_start, is_plain_visit, takes_no_turn}
use Rattle.bw_world.specs.Seen.{Seen, found}
use Rattle.bw_world.specs.Stands.{AllStand, Ends, model}
use Rattle.bw_world.proofs.Live.{not_taken}
use Rattle.bw_world.proofs.Standing.{wanted, unchanged}

-- ---- methods

pub is_post : (method : Method) → method ≢ Get → method ≢ Other → method ≡ Post
is_post Get g o = absurd (g refl)
is_post Post g o = refl
is_post Other g o = absurd (o refl)

module _ (service : Service) (m : World) (form : Form) (key : ℕ) where
  pub index_refused : (method : Method) → method ≢ Get → on_path service m method form key paths.Index ≡ refuses m (replies.Method allowed.Get)
  index_refused Get g = absurd (g refl)
  index_refused Post g = refl
  index_refused Other g = refl

  pub start_refused : (method : Method) (name : List ℕ) → method ≢ Get
      → on_path service m method form key (paths.Start name) ≡ refuses m (replies.Method allowed.Get)
  start_refused Get name g = absurd (g refl)
  start_refused Post name g = refl
  start_refused Other name g = refl

  pub turn_asked : (method : Method) (number k turn : ℕ) → method ≢ Other
      → on_path service m method form key (paths.Turn number k turn) ≡ asks service m method form turn (taken_out number k m.live)
  turn_asked Get number k turn o = refl
  turn_asked Post number k turn o = refl
  turn_asked Other number k turn o = absurd (o refl)

module _ (w : Seen) (ls : List Live) (h : AllStand w.service w.first w.live ls) (a : ℕ) where
  -- ---- starts

  module _ (key : ℕ) (o : Option ℕ) where
    abbrev start : Option ℕ → Step
    start = starts w.service (model w ls) key

    abbrev begin : ℕ → Step
    begin session =
        begins w.service (model w ls) key (turned w.first (beginner (model w ls) session) (now w.service (beginner (model w ls) session)))

    pub none_starts : o ≡ None → Ends w w replies.NoSuch a a (start o)
    none_starts e = subst (λ p. Ends w w replies.NoSuch a a (start p)) (sym e) (unchanged w ls h w replies.NoSuch a a replies.NoSuch refl refl refl)

    pub spent_starts : (session : ℕ) → o ≡ Some session → nat_lt 4294967295 w.next ≡ true → Ends w w replies.NoNumbers a a (start o)
    spent_starts session e t =
        subst (λ p. Ends w w replies.NoNumbers a a (start p)) (sym e)
        (subst (λ b. Ends w w replies.NoNumbers a a (if b then refuses (model w ls) replies.NoNumbers else begin session)) (sym t)
        (unchanged w ls h w replies.NoNumbers a a replies.NoNumbers refl refl refl))

    pub begins_so : (new : Seen) (reply : Reply) (b session : ℕ) → o ≡ Some session → nat_lt 4294967295 w.next ≡ false
        → Ends w new reply a b (begin session) → Ends w new reply a b (start o)
    begins_so new reply b session e t s =
        subst (λ p. Ends w new reply a b (start p)) (sym e)
        (subst (λ c. Ends w new reply a b (if c then refuses (model w ls) replies.NoNumbers else begin session)) (sym t) s)

  -- ---- other requests

  pub none_asked : (method : Method) (form : Form) (number key turn : ℕ) → found number key w.live ≡ None
      → Ends w w replies.NoSuch a a (asks w.service (model w ls) method form turn (taken_out number key ls))
  none_asked method form number key turn e =
      subst (λ o. Ends w w replies.NoSuch a a (asks w.service (model w ls) method form turn o)) (sym (not_taken number key w.service w.first w.live ls h e))
      (unchanged w ls h w replies.NoSuch a a replies.NoSuch refl refl refl)

  pub indexed : (reply : Reply) → (reply ≡ replies.Memory) ⊎ (reply ≡ replies.Index (index_of w.service))
      → Ends w w reply a a (refuses (model w ls) (replies.Index (index_of w.service)))
  indexed reply (inl e) = wanted w ls h w reply a a (refuses (model w ls) (replies.Index (index_of w.service))) e refl (omega arith)
  indexed reply (inr e) = unchanged w ls h w reply a a (replies.Index (index_of w.service)) e refl refl

-- ---- without memory

pub start_takes : (next session : ℕ) (o : Option ℕ) → o ≡ Some session → nat_lt 4294967295 next ≡ false → is_plain_start next o ≢ true
start_takes next session o e t p = let k : false ≡ true = sym t ∙ ap (is_plain_start next) (sym e) ∙ p in cc

pub refused_differs : (f : FieldFault) → refused f ≢ replies.Memory
refused_differs (fields.Lacking f) e = cc
refused_differs (fields.Repeated f) e = cc
refused_differs (fields.TooLong f) e = cc

pub turn_taken : (flow : List Point) (form : Form) (one s : Suspended) → first_missing (receives_of flow one.frame) form ≡ None → one.turn ≢ 4294967295
    → one ≡ s → takes_no_turn (first_missing (receives_of flow s.frame) form) s.turn ≢ true
turn_taken flow form one s none more is p =
    let q = subst (λ (z : Suspended). takes_no_turn (first_missing (receives_of flow z.frame) form) z.turn ≡ true) (sym is) p in
    let k : false ≡ true = sym (ne_eqb one.turn 4294967295 more) ∙ ap (λ o. takes_no_turn o one.turn) (sym none) ∙ q in
    cc

module _ (flow : List Point) (form : Form) (turn : ℕ) (s : Suspended) (is : turn ≡ s.turn) where
  same_turn : (turn == s.turn) ≡ true
  same_turn = eq-eqb turn s.turn is

  pub get_takes : (o : Option Suspended) → o ≡ Some s → is_plain_visit flow Get form turn o ≢ true
  get_takes o e p =
      let k : false ≡ true = sym (ap (λ b. not b) same_turn) ∙ ap (is_plain_visit flow Get form turn) (sym e) ∙ p in cc

  pub post_takes : (o : Option Suspended) → o ≡ Some s → is_plain_visit flow Post form turn o ≡ true
      → takes_no_turn (first_missing (receives_of flow s.frame) form) s.turn ≡ true
  post_takes o e p =
      sym (ap (λ b. not b || takes_no_turn (first_missing (receives_of flow s.frame) form) s.turn) same_turn)
      ∙ ap (is_plain_visit flow Post form turn) (sym e) ∙ p
