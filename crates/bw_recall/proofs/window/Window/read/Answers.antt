use Rattle.std.proofs.Common.{ℕ, ◌++◌, List, take, ap, ◌∙◌, arith}
use Rattle.bw_http.proofs.Buffers.{fill_view}
use Rattle.bw_recall.proofs.window.Window.read.Goals as goal

pub returns-clause-filled : goal.returns-clause-filled
returns-clause-filled g c =
    let s = c.self.inside in
    let held = c.settle-self-inside in
    let count = c.in_ok-count.count in
    let room = c.deref_mut.ensures.len in (
      take count c.read.new.buf,
      c.in_ok-count.ensures.bytes.0,
      fill_view c.deref_mut.result.now c.read.new.buf _ _ held.result count held.new.buffer.len
          (omega (arith, s.buffer.ok.0, c.self.invariant, held.ensures.size, held.ensures.room, held.new.buffer.ok.0, room))
          c.in_ok-count.ensures.bound.0
          (omega (
            arith,
            s.buffer.ok.0,
            c.self.invariant,
            held.ensures.size,
            held.ensures.room,
            held.new.buffer.ok.0,
            c.in_ok-count.ensures.bound.0,
            c.read.auto.buf,
            room,
          ))
          ∙ ap (λ (t : List ℕ). take held.result t ++ take count c.read.new.buf) c.deref_mut.ensures.value
          ∙ ap (λ (t : List ℕ). t ++ take count c.read.new.buf) (held.ensures.bytes ∙ ap (λ v. v.bytes) c.self.view_is),
    )
