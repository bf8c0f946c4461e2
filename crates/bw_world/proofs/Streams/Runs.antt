-- Runs go on, and a stream has one, want of memory aside.
use Rattle.std.proofs.Common.{
  ◌≡◌,
  ◌⊎◌,
  ◌<◌,
  ◌+◌,
  ℕ,
  zero,
  suc,
  List,
  [],
  ◌∷◌,
  ◌++◌,
  length,
  Ok,
  Err,
  Some,
  refl,
  sym,
  ap,
  ◌∙◌,
  subst,
  inl,
  inr,
  arith,
  append_assoc,
  length-append,
}
use Rattle.bw_format.specs.declared.format.Format.{Format}
use Rattle.bw_model.specs.Guards.{IsGuarded}
use Rattle.bw_model.proofs.Cases.{one_step}
use Rattle.bw_http.specs.Cuts.{Cut}
use Rattle.bw_http.specs.Messages.{IsRequest}
use Rattle.bw_http.specs.declared.replies.Reply.{Reply}
use Rattle.bw_http.specs.declared.replies.Reply.TheVariants as replies
use Rattle.bw_http.specs.declared.request.ReadOutcome.{ReadOutcome}
use Rattle.bw_http.specs.declared.request.ReadOutcome.TheVariants as outcomes
use Rattle.bw_http.specs.declared.request.Request.{Request}
use Rattle.bw_http.proofs.OnePath.{one_request}
use Rattle.bw_http.proofs.Due.{message_exact, end_exact}
use Rattle.bw_http.proofs.Streams.{message_unique}
use Rattle.bw_lang.specs.declared.service.Service.{Service}
use Rattle.bw_model.specs.Runs.{At, Turn, Turns, Stops, refusal, want, wants}
use Rattle.bw_model.specs.Runs.Turn.{request, no_memory}
use Rattle.bw_model.specs.Runs.Stops.{ended, refused}
use Rattle.bw_model.specs.Sessions.{World}
use Rattle.bw_model.specs.Steps.{Step}
use Rattle.bw_out.specs.Told.{Coming}
use Rattle.bw_world.specs.Streams.Laws.{RunsGoOn, AnswersOnce}
use Rattle.bw_world.proofs.Streams.Streams.{turns_then, wants_then}

pub runs_go_on : RunsGoOn
runs_go_on formats service most more at mid to replies others c d t len r =
    let count = length-append replies r.first in
    record {
      first = replies ++ r.first;
      last = r.last;
      mid = r.mid;
      turns = turns_then formats service replies r.first c d at mid r.mid t r.turns;
      all = ap (λ l. replies ++ l) r.all ∙ sym (append_assoc replies r.first r.last);
      ends = elim r.ends as (λ _. ((length (replies ++ r.first) ≡ most + more) × (r.last ≡ []) × (to ≡ r.mid))
          ⊎ ((length (replies ++ r.first) < most + more) × Stops r.mid r.last to)) [
            | inl x ↦ inl (omega (arith, count, len, x.0), x.1, x.2)
            | inr x ↦ inr (omega (arith, count, len, x.0), x.1)
          ];
    }

-- ---- one message

-- a stream begins with one request, and one rest follows it
one_cut : (bytes : List ℕ) (q r : Request) (rest more : List ℕ) → Cut bytes (Ok q) rest → Cut bytes (Ok r) more → (q ≡ r) × (rest ≡ more)
one_cut bytes q r rest more a b =
    let same = message_unique bytes a.0 b.0 a.1 b.1 rest more a.2 b.2 in
    let so = subst (λ h. IsRequest h b.1 r) (sym same.0) b.3 in
    let is = subst (λ body. IsRequest a.0 body r) (sym same.1) so in
    (one_request a.0 a.1 q r a.3 is, same.2)

-- two turns of one place agree, where no memory was wanted
pub record SameTurn (reply other : Reply) (cost costs : ℕ) (to then : At) : Type 0 where
  pub reply_is : reply ≡ other
  pub cost_is : cost ≡ costs
  pub to_is : to ≡ then

at_is : (a b : At) → a.world ≡ b.world → a.bytes ≡ b.bytes → a.keys ≡ b.keys → a ≡ b
at_is a b e f g =
    ap (λ (w : World). let x : At = record a { world = w } in x) e ∙ ap (λ (l : List ℕ). let x : At = record a { world = b.world; bytes = l } in x) f
    ∙ ap (λ (k : Coming). let x : At = record b { keys = k } in x) g

step_parts : (s : Step) (r t : Reply) (w v : World) (c d : ℕ) → s ≡ record { reply = r; world = w; cost = c }
    → s ≡ record { reply = t; world = v; cost = d } → (r ≡ t) × (w ≡ v) × (c ≡ d)
step_parts s r t w v c d e f =
    let both = sym e ∙ f in
    (ap (λ (x : Step). x.reply) both, ap (λ (x : Step). x.world) both, ap (λ (x : Step). x.cost) both)

no_want : (reply : Reply) → reply ≡ replies.Memory → want reply ≡ 0 → ⊥
no_want reply e none = let one : want reply ≡ 1 = ap want e in omega (arith, one, none)

one_turn : (formats : List Format) (service : Service) (at to then : At) (reply other : Reply) (c d : ℕ) → Turn formats service at reply c to → Turn formats service at other d then
    → want reply ≡ 0 → want other ≡ 0 → SameTurn reply other c d to then
one_turn formats service at to then reply other c d (no_memory cut e w k few) u none nor = absurd (no_want reply e none)
one_turn formats service at to then reply other c d (request q cut e k) (no_memory cut2 f w k2 few) none nor = absurd (no_want other f nor)
one_turn formats service at to then reply other c d (request q cut e k) (request r cut2 f k2) none nor =
    let cuts = one_cut at.bytes q r to.bytes then.bytes cut cut2 in
    let s : Step = record { reply = reply; world = to.world; cost = c } in
    let t : Step = record { reply = other; world = then.world; cost = d } in
    let parts = step_parts s reply other to.world then.world c d refl
    (one_step formats service at.world r (at.keys 0) s t (subst (λ x. IsGuarded formats service at.world x (at.keys 0) s) cuts.0 e) f) in
    record { reply_is = parts.0; cost_is = parts.2; to_is = at_is to then parts.1 cuts.1 (k ∙ sym k2) }

-- a whole message is no end, and isn't refused
no_end : (r : Request) (bytes rest : List ℕ) → bytes ≡ [] → Cut bytes (Ok r) rest → ⊥
no_end r bytes rest e cut = elim (end_exact (Ok r) rest (subst (λ b. Cut b (Ok r) rest) e cut)) [ inl x ↦ cc | inr x ↦ cc ]

not_refused : (bytes rest more : List ℕ) (r : Request) (o : ReadOutcome) (reply : Reply) → Cut bytes (Ok r) rest → Cut bytes (Err o) more
    → refusal o ≡ Some reply → ⊥
not_refused bytes rest more r o reply cut wrong e =
    elim (message_exact bytes cut.0 cut.1 rest more o cut.2 wrong) [ inl x ↦ let none = ap refusal x in cc | inr x ↦ let none = ap refusal x in cc ]

turn_or_stop : (formats : List Format) (service : Service) (at to then : At) (reply : Reply) (last : List Reply) (c : ℕ) → Turn formats service at reply c to → want reply ≡ 0
    → Stops at last then → ⊥
turn_or_stop formats service at to then reply last c (no_memory cut e w k few) none s = no_want reply e none
turn_or_stop formats service at to then reply last c (request q cut e k) none (ended rest end) = no_end q at.bytes to.bytes end.0 cut
turn_or_stop formats service at to then reply last c (request q cut e k) none (refused o answer rest wrong why) =
    not_refused at.bytes to.bytes rest q o answer cut wrong why

-- ---- message after message

-- what is refused leaves the bytes
refusal_keeps : (bytes rest : List ℕ) (o : ReadOutcome) (reply : Reply) → Cut bytes (Err o) rest → refusal o ≡ Some reply → rest ≡ bytes
refusal_keeps bytes rest outcomes.End reply c e = c.1
refusal_keeps bytes rest outcomes.BadHead reply c e = c.1
refusal_keeps bytes rest outcomes.Truncated reply c e = c.2
refusal_keeps bytes rest outcomes.HeadTooLong reply c e = c.1
refusal_keeps bytes rest outcomes.NoHost reply c e = c.1
refusal_keeps bytes rest outcomes.Coding reply c e = c.1
refusal_keeps bytes rest outcomes.BadLength reply c e = c.1
refusal_keeps bytes rest outcomes.LengthRequired reply c e = c.1
refusal_keeps bytes rest outcomes.BodyTooLong reply c e = c.1
refusal_keeps bytes rest outcomes.Media reply c e = c.1
refusal_keeps bytes rest outcomes.ReadFault reply c e = c.1
refusal_keeps bytes rest outcomes.Memory reply c e = absurd (let none : refusal outcomes.Memory ≡ Some reply = e in cc)

-- what stops leaves all as it was
stops_keep : (at to : At) (last : List Reply) → Stops at last to → to ≡ at
stops_keep at to last (ended rest end) = ap (λ (b : List ℕ). let x : At = record at { bytes = b } in x) end.1
stops_keep at to last (refused o answer rest wrong why) =
    ap (λ (b : List ℕ). let x : At = record at { bytes = b } in x) (refusal_keeps at.bytes rest o answer wrong why)

-- how a list of messages ends a run
abbrev EndsAt : ℕ → List Reply → List Reply → At → At → Type 0
EndsAt most first last mid to = ((length first ≡ most) × (last ≡ []) × (to ≡ mid)) ⊎ ((length first < most) × Stops mid last to)

ends_keep : (most : ℕ) (first last : List Reply) (mid to : At) → EndsAt most first last mid to → to ≡ mid
ends_keep most first last mid to (inl x) = x.2
ends_keep most first last mid to (inr x) = stops_keep mid to last x.1

-- one message less
ends_less : (k : ℕ) (r : Reply) (rs last : List Reply) (mid to : At) → EndsAt (suc k) (r ∷ rs) last mid to → EndsAt k rs last mid to
ends_less k r rs last mid to (inl x) = inl (omega (arith, x.0), x.1, x.2)
ends_less k r rs last mid to (inr x) = inr (omega (arith, x.0), x.1)

not_none : (r : Reply) (rs last : List Reply) (mid to : At) → EndsAt 0 (r ∷ rs) last mid to → ⊥
not_none r rs last mid to (inl x) = omega (arith, x.0)
not_none r rs last mid to (inr x) = omega (arith, x.0)

-- where a run ends at once, another doesn't handle a message
stops_here : (formats : List Format) (service : Service) (k : ℕ) (last more rs : List Reply) (at mid to then later next : At) (r : Reply) (c : ℕ) → EndsAt k [] last mid to
    → mid ≡ at → Turn formats service at r c next → want r ≡ 0
    → EndsAt k (r ∷ rs) more later then → ⊥
stops_here formats service k last more rs at mid to then later next r c (inl x) here turn none (inl y) = omega (arith, x.0, y.0)
stops_here formats service k last more rs at mid to then later next r c (inl x) here turn none (inr y) = omega (arith, x.0, y.0)
stops_here formats service k last more rs at mid to then later next r c (inr x) here turn none ends =
    turn_or_stop formats service at next to r last c turn none (subst (λ a. Stops a last to) here x.1)

ends_at_once : (formats : List Format) (service : Service) (k : ℕ) (last more ss : List Reply) (at mid later to then : At) (s : Reply) (c d : ℕ) → Turns formats service at [] c mid
    → Turns formats service at (s ∷ ss) d later
    → EndsAt k [] last mid to → EndsAt k (s ∷ ss) more later then → want s ≡ 0 → ⊥
ends_at_once formats service k last more ss at mid later to then s c d t u e f few = stops_here formats service k last more ss at mid to then later u.2 s u.0 e t.1 u.3 few f

pub record SameTurns (first others : List Reply) (c d : ℕ) (mid then : At) : Type 0 where
  pub replies_are : first ≡ others
  pub cost_is : c ≡ d
  pub mid_is : mid ≡ then

one_more : (r s : Reply) (rs ss : List Reply) → r ≡ s → rs ≡ ss → r ∷ rs ≡ s ∷ ss
one_more r s rs ss e f = cc

same_turns : (formats : List Format) (service : Service) (k : ℕ) (first others last more : List Reply) (at mid later to then : At) (c d : ℕ) → Turns formats service at first c mid
    → Turns formats service at others d later
    → EndsAt k first last mid to → EndsAt k others more later then → wants first ≡ 0 → wants others ≡ 0 → SameTurns first others c d mid later
same_turns formats service k [] [] last more at mid later to then c d t u e f none nor = record { replies_are = refl; cost_is = t.0 ∙ sym u.0; mid_is = t.1 ∙ sym u.1 }
same_turns formats service k [] (s ∷ ss) last more at mid later to then c d t u e f none nor =
    let few : want s ≡ 0 = omega (arith, nor) in
    absurd (ends_at_once formats service k last more ss at mid later to then s c d t u e f few)
same_turns formats service k (r ∷ rs) [] last more at mid later to then c d t u e f none nor =
    let few : want r ≡ 0 = omega (arith, none) in
    absurd (ends_at_once formats service k more last rs at later mid then to r d c u t f e few)
same_turns formats service zero (r ∷ rs) (s ∷ ss) last more at mid later to then c d t u e f none nor = absurd (not_none r rs last mid to e)
same_turns formats service (suc k) (r ∷ rs) (s ∷ ss) last more at mid later to then c d t u e f none nor =
    let none_r : want r ≡ 0 = omega (arith, none) in
    let none_s : want s ≡ 0 = omega (arith, nor) in
    let none_rs : wants rs ≡ 0 = omega (arith, none) in
    let none_ss : wants ss ≡ 0 = omega (arith, nor) in
    let one = one_turn formats service at t.2 u.2 r s t.0 u.0 t.3 u.3 none_r none_s in
    let rest = same_turns formats service k rs ss last more t.2 mid later to then t.1 u.1 t.4 (subst (λ a. Turns formats service a ss u.1 later) (sym one.to_is) u.4)
    (ends_less k r rs last mid to e) (ends_less k s ss more later then f) none_rs none_ss in
    record {
      replies_are = one_more r s rs ss one.reply_is rest.replies_are;
      cost_is = omega (arith, t.5, u.5, one.cost_is, rest.cost_is);
      mid_is = rest.mid_is;
    }

pub answers_once : AnswersOnce
answers_once formats service most at to then replies others c d one other none nor =
    let all : wants replies ≡ wants one.first + wants one.last = ap wants one.all ∙ wants_then one.first one.last in
    let each : wants others ≡ wants other.first + wants other.last = ap wants other.all ∙ wants_then other.first other.last in
    let few : wants one.first ≡ 0 = omega (arith, all, none) in
    let less : wants other.first ≡ 0 = omega (arith, each, nor) in
    let same = same_turns formats service most one.first other.first one.last other.last at one.mid other.mid to then c d one.turns other.turns one.ends other.ends
    few less in
    let kept = ends_keep most one.first one.last one.mid to one.ends in
    let left = ends_keep most other.first other.last other.mid then other.ends in
    record {
      handled = same.replies_are;
      spent = same.cost_is;
      left = kept ∙ same.mid_is ∙ sym left;
    }
