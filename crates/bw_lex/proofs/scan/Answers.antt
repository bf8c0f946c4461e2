use Rattle.std.proofs.Common.{◌∙◌, ap, sym, arith, inr, drop, length, [], ◌∷◌, ◌+◌, ◌-◌, ◌≤◌, Ok, Err, refl}
use Rattle.std.proofs.lemmas.List.{drop_all}
use Rattle.bw_lang.specs.declared.token.Token.{Token}
use Rattle.bw_lex.specs.declared.pieces.Piece.TheVariants as pieces
use Rattle.bw_lex.specs.Tokens.{scan, onto}
use Rattle.bw_lex.proofs.Passing.{ends_there, goes_on, stops, onto-onto, end_bad, end_good}
use Rattle.bw_lex.proofs.Utf8.{behind_quote}
use Rattle.bw_lex.proofs.scan.Goals as goal

pub read_piece-requires : goal.read_piece-requires
read_piece-requires c = behind_quote c.args.bytes.now c.loop-at.at c.requires c.loop-at-test.true

pub overflow_add-at : goal.overflow_add-at
overflow_add-at c =
    let ends = ends_there c.args.bad c.loop-at.at c.args.bytes.now c.in_ok-len.field-0 (pieces.Gap c.in-Gap.len) c.in_ok-len.ensures c.in-Gap.is in
    omega (arith, ends.1)

pub loop-at-smaller-in-Gap : goal.loop-at-smaller-in-Gap
loop-at-smaller-in-Gap c =
    let ends = ends_there c.args.bad c.loop-at.at c.args.bytes.now c.in_ok-len.field-0 (pieces.Gap c.in-Gap.len) c.in_ok-len.ensures c.in-Gap.is in
    omega (arith, ends.0, ends.1)

pub loop-at-preserved-in-Gap : goal.loop-at-preserved-in-Gap
loop-at-preserved-in-Gap c =
    let q = pieces.Gap c.in-Gap.len in
    let ends = ends_there c.args.bad c.loop-at.at c.args.bytes.now c.in_ok-len.field-0 q c.in_ok-len.ensures c.in-Gap.is in
    record {
      within = omega (arith, ends.1);
      value =
          c.loop-at.invariant.value
          ∙ ap (onto c.loop-at.tokens.items) (goes_on c.args.bad c.loop-at.at c.in-Gap.len c.args.bytes.now c.in_ok-len.field-0 q c.in_ok-len.ensures
          c.in-Gap.is refl ends.0 ends.1);
    }

pub overflow_add-at-in-Token : goal.overflow_add-at-in-Token
overflow_add-at-in-Token c =
    let ends =
    ends_there c.args.bad c.loop-at.at c.args.bytes.now c.in_ok-len.field-0 (pieces.Token c.in-Token.what c.in-Token.len) c.in_ok-len.ensures c.in-Token.is in
    omega (arith, ends.1)

pub overflow_add-at-in-Token-2 : goal.overflow_add-at-in-Token-2
overflow_add-at-in-Token-2 c =
    let ends =
    ends_there c.args.bad c.loop-at.at c.args.bytes.now c.in_ok-len.field-0 (pieces.Token c.in-Token.what c.in-Token.len) c.in_ok-len.ensures c.in-Token.is in
    omega (arith, ends.1)

pub loop-at-smaller : goal.loop-at-smaller
loop-at-smaller c =
    let ends =
    ends_there c.args.bad c.loop-at.at c.args.bytes.now c.in_ok-len.field-0 (pieces.Token c.in-Token.what c.in-Token.len) c.in_ok-len.ensures c.in-Token.is in
    omega (arith, ends.0, ends.1)

pub loop-at-preserved : goal.loop-at-preserved
loop-at-preserved c =
    let q = pieces.Token c.in-Token.what c.in-Token.len in
    let at = c.loop-at.at in
    let n = c.in-Token.len in
    let token : Token = record { what = c.in-Token.what; start = at; end = at + n } in
    let ends = ends_there c.args.bad at c.args.bytes.now c.in_ok-len.field-0 q c.in_ok-len.ensures c.in-Token.is in
    let rest = scan c.args.bad 0 (at + n) (drop (at + n) c.args.bytes.now) in
    record {
      within = omega (arith, ends.1);
      value = c.loop-at.invariant.value
          ∙ ap (onto c.loop-at.tokens.items) (goes_on c.args.bad at n c.args.bytes.now c.in_ok-len.field-0 q c.in_ok-len.ensures c.in-Token.is refl
          ends.0 ends.1)
          ∙ onto-onto c.loop-at.tokens.items (token ∷ []) rest
          ∙ ap (λ ts. onto ts rest) (sym c.in_ok-push-in-Token.ensures.items);
    }

pub overflow_add-at-in-Fault : goal.overflow_add-at-in-Fault
overflow_add-at-in-Fault c =
    let ends : c.in-Fault.len ≤ length c.args.bytes.now - c.loop-at.at =
    ends_there c.args.bad c.loop-at.at c.args.bytes.now c.in_ok-len.field-0 (pieces.Fault c.in-Fault.kind c.in-Fault.len) c.in_ok-len.ensures c.in-Fault.is in
    omega (arith, ends)

pub returns-in-Fault-clause-fault : goal.returns-in-Fault-clause-fault
returns-in-Fault-clause-fault c =
    inr (c.loop-at.invariant.value
    ∙ ap (onto c.loop-at.tokens.items) (stops c.args.bad c.loop-at.at c.in-Fault.len c.args.bytes.now c.in_ok-len.field-0 c.in-Fault.kind
    c.loop-at-test.true c.in_ok-len.ensures c.in-Fault.is)
    ∙ ap (λ e. Err e) (sym c.fault_at.ensures))

pub returns-then-bad-clause-fault : goal.returns-then-bad-clause-fault
returns-then-bad-clause-fault c =
    inr (c.loop-at.invariant.value
    ∙ (λ i. onto c.loop-at.tokens.items (scan (c.if-bad.true i) 0 c.loop-at.at (drop_all c.loop-at.at c.args.bytes.now c.loop-at-test.false i)))
    ∙ end_bad c.loop-at.at c.loop-at.tokens.items)

pub returns-else-bad-clause-ok : goal.returns-else-bad-clause-ok
returns-else-bad-clause-ok c =
    c.loop-at.invariant.value
    ∙ (λ i. onto c.loop-at.tokens.items (scan (c.if-bad.false i) 0 c.loop-at.at (drop_all c.loop-at.at c.args.bytes.now c.loop-at-test.false i)))
    ∙ end_good c.loop-at.at c.loop-at.tokens.items
    ∙ ap (λ ts. Ok ts) (sym c.from_vec.ensures)
