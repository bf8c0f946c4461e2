use Rattle.std.proofs.Common.{◌++◌, ◌∙◌, ap, ℕ}
use Rattle.std.specs.Int.{w16, w32, w64, to_be_bytes}
use Rattle.bw_run.specs.Walks.{number_at}
use Rattle.bw_save.proofs.Chains.{five}
use Rattle.bw_save.proofs.sessions.put_front.Goals as goal

pub returns : goal.returns
returns c =
    let r = c.args.one.now in
    five c.args.out.now.items _ _ _ _ _ (to_be_bytes w32 r.number) (to_be_bytes w64 r.key) (to_be_bytes w16 r.session) (to_be_bytes w32 r.turn)
    (to_be_bytes w32 (number_at c.args.flow.now.steps r.frame.point))
    c.in_ok-put_u32.ensures c.in_ok-put_u64.ensures
    (c.in_ok-put_u16.ensures ∙ ap (λ (n : ℕ). c.put_u64.new.out.items ++ to_be_bytes w16 n) c.number.ensures) c.in_ok-put_u32-2.ensures
    (c.in_ok-put_u32-3.ensures ∙ ap (λ (n : ℕ). c.put_u32-2.new.out.items ++ to_be_bytes w32 n) c.number_of.ensures)
