use Rattle.std.proofs.Common.{◌+◌, ℕ, ap, arith, refl}
use Rattle.bw_journal.proofs.HeadParts.{length-front_of, length-head}
use Rattle.bw_recall.specs.declared.window.TheConstants.{MAX_TEXT_BYTES}
use Rattle.bw_recall.proofs.Headed.{if_some}
use Rattle.bw_recall.proofs.Begun.{starts_empty, starts_foreign, starts_headless, starts_new, starts_saved, starts_versioned}
use Rattle.bw_recall.proofs.starting.read_start.Goals as goal

pub overflow_add-from : goal.overflow_add-from
overflow_add-from g c = omega (arith, c.head_bytes-from.ensures, length-head c.args.text.now, c.requires.text)

pub read_saved-requires-clause-start : goal.read_saved-requires-clause-start
read_saved-requires-clause-start g c = omega (arith, c.head_bytes-from.ensures, length-head c.args.text.now, c.requires.text)

pub returns-in-Whole-clause-mark : goal.returns-in-Whole-clause-mark
returns-in-Whole-clause-mark g c = omega (arith, c.head_bytes-from.ensures, length-head c.args.text.now, c.requires.text)

pub returns-in-Begun-clause-started : goal.returns-in-Begun-clause-started
returns-in-Begun-clause-started g c = if_some (g.S.Channel.left c.args.source.now) _ (λ bytes is.
    starts_new c.args.text.now bytes c.bytes.result.now c.args.reader.now.window c.hold.new.self (g.S.Channel.left c.args.source.now)
    (g.S.Channel.left c.hold.new.source) _ c.requires.window (ap (λ (k : ℕ). k + MAX_TEXT_BYTES) c.head_bytes-from.ensures) c.bytes.ensures.value
    c.in-Ok.ensures.holds c.in-Ok.ensures.filled c.in-Ok.ensures.ended is c.hold.new.self (g.S.Channel.left c.hold.new.source) c.in-Begun.ensures)

pub returns-in-Version-clause-started : goal.returns-in-Version-clause-started
returns-in-Version-clause-started g c = if_some (g.S.Channel.left c.args.source.now) _ (λ bytes is.
    starts_versioned c.args.text.now bytes c.bytes.result.now c.args.reader.now.window c.hold.new.self (g.S.Channel.left c.args.source.now)
    (g.S.Channel.left c.hold.new.source) _ c.requires.window (ap (λ (k : ℕ). k + MAX_TEXT_BYTES) c.head_bytes-from.ensures) c.bytes.ensures.value
    c.in-Ok.ensures.holds c.in-Ok.ensures.filled c.in-Ok.ensures.ended is c.in-Version.version c.in-Version.ensures)

pub returns-in-Other-clause-started : goal.returns-in-Other-clause-started
returns-in-Other-clause-started g c = if_some (g.S.Channel.left c.args.source.now) _ (λ bytes is.
    starts_foreign c.args.text.now bytes c.bytes.result.now c.args.reader.now.window c.hold.new.self (g.S.Channel.left c.args.source.now)
    (g.S.Channel.left c.hold.new.source) _ c.requires.window (ap (λ (k : ℕ). k + MAX_TEXT_BYTES) c.head_bytes-from.ensures) c.bytes.ensures.value
    c.in-Ok.ensures.holds c.in-Ok.ensures.filled c.in-Ok.ensures.ended is c.in-Other.ensures)

pub returns-in-Damaged-clause-started : goal.returns-in-Damaged-clause-started
returns-in-Damaged-clause-started g c = if_some (g.S.Channel.left c.args.source.now) _ (λ bytes is.
    starts_headless c.args.text.now bytes c.bytes.result.now c.args.reader.now.window c.hold.new.self (g.S.Channel.left c.args.source.now)
    (g.S.Channel.left c.hold.new.source) _ c.requires.window (ap (λ (k : ℕ). k + MAX_TEXT_BYTES) c.head_bytes-from.ensures) c.bytes.ensures.value
    c.in-Ok.ensures.holds c.in-Ok.ensures.filled c.in-Ok.ensures.ended is c.hold.new.self (g.S.Channel.left c.hold.new.source) c.in-Damaged.ensures)

pub returns-in-Whole-clause-started : goal.returns-in-Whole-clause-started
returns-in-Whole-clause-started g c = if_some (g.S.Channel.left c.args.source.now) _ (λ bytes is.
    starts_empty c.args.text.now bytes c.bytes.result.now c.args.reader.now.window c.hold.new.self (g.S.Channel.left c.args.source.now)
    (g.S.Channel.left c.hold.new.source) _ c.requires.window (ap (λ (k : ℕ). k + MAX_TEXT_BYTES) c.head_bytes-from.ensures) c.bytes.ensures.value
    c.in-Ok.ensures.holds c.in-Ok.ensures.filled c.in-Ok.ensures.ended is c.consume.new.self _ c.head_bytes-from.result _ c.requires.text
    c.in-Whole.ensures c.head_bytes-from.ensures c.consume.ensures.bytes c.consume.ensures.ended refl c.start_sum.ensures)

pub returns-in-Saved-clause-started : goal.returns-in-Saved-clause-started
returns-in-Saved-clause-started g c = if_some (g.S.Channel.left c.args.source.now) _ (λ bytes is.
    starts_saved c.args.text.now bytes c.bytes.result.now c.args.reader.now.window c.hold.new.self (g.S.Channel.left c.args.source.now)
    (g.S.Channel.left c.hold.new.source) _ c.requires.window (ap (λ (k : ℕ). k + MAX_TEXT_BYTES) c.head_bytes-from.ensures) c.bytes.ensures.value
    c.in-Ok.ensures.holds c.in-Ok.ensures.filled c.in-Ok.ensures.ended is c.consume-in-Saved.new.self c.read_saved.new.window
    (g.S.Channel.left c.read_saved.new.source) _ c.head_bytes-from.result _ c.read_saved.result c.requires.text c.in-Saved.ensures
    (omega (arith, c.head_bytes-from.ensures, length-head c.args.text.now, length-front_of 1 c.args.text.now)) c.consume-in-Saved.ensures.bytes
    c.consume-in-Saved.ensures.ended refl c.front_check.ensures c.read_saved.ensures.starts)
