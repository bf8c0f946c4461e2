use Rattle.std.proofs.Common.{◌≡◌, ℕ, List, [], ◌∷◌, ◌++◌, map, refl, sym, ap, ◌∙◌, append_assoc}
use Rattle.bw_out.proofs.SendLaws.{sent, sent_more, then_sends, sends_stops}
use Rattle.bw_http.specs.Replies.{shown}
use Rattle.bw_http.proofs.replies.write_shown.Goals as goal

-- a line, the space behind it, and what follows
line_cut : (rest line more : List ℕ) → map shown rest ≡ line ++ 32 ∷ map shown more → (line ++ 32 ∷ []) ++ map shown more ≡ map shown rest
line_cut rest line more cut = append_assoc line (32 ∷ []) (map shown more) ∙ sym cut

pub returns-in_err-write_parts : goal.returns-in_err-write_parts
returns-in_err-write_parts g c =
    let before = c.loop-line.invariant in
    let line = c.in-Some.line.now in
    let more = c.in-Some.more.now in
    then_sends g.W.Channel g.met.W.Sink.same_trans before.0 (map shown c.loop-line.rest.now) before.1
    (sends_stops (line ++ 32 ∷ []) (map shown more) c.in_err-write_parts.ensures c.from_residual.ensures.0
    (line_cut c.loop-line.rest.now line more c.in-Some.ensures.0))
    before.2

pub loop-line-preserved : goal.loop-line-preserved
loop-line-preserved g c =
    let before = c.loop-line.invariant in
    let line = c.in-Some.line.now in
    let more = c.in-Some.more.now in (
      before.0 ++ (line ++ 32 ∷ []),
      sent_more g.W.Channel g.met.W.Sink.same_trans before.0 (line ++ 32 ∷ []) before.1 (sent c.in_ok-write_parts.ensures) refl,
      append_assoc before.0 (line ++ 32 ∷ []) (map shown more)
          ∙ ap (λ (t : List ℕ). before.0 ++ t) (line_cut c.loop-line.rest.now line more c.in-Some.ensures.0) ∙ before.2,
    )

pub returns : goal.returns
returns g c =
    let before = c.loop-line.invariant in
    then_sends g.W.Channel g.met.W.Sink.same_trans before.0 c.loop-line.rest.now before.1 c.write_all.ensures
    (ap (λ (t : List ℕ). before.0 ++ t) (sym c.in_default.ensures) ∙ before.2)
