use Rattle.std.proofs.Common.{◌≡◌, ◌⊎◌, ◌∙◌, ◌<◌, arith, length, sym, subst, IfOk, IfErr, Ok, Err}
use Rattle.bw_lex.specs.declared.LexFault.TheVariants.{Memory as OutOfMemory}
use Rattle.std.specs.Str.Lossy.{utf8_valid_len}
use Rattle.bw_lex.proofs.Cutting.{if_tokens, if_within, if_only}
use Rattle.bw_lex.proofs.Passing.{whole, cut_off}
use Rattle.bw_lex.proofs.Refusing.{if_refused, only_refused}
use Rattle.bw_lex.proofs.lex.Goals as goal

pub returns-in-Ok : goal.returns-in-Ok
returns-in-Ok c =
    let bytes = c.args.bytes.now in
    let scanned = sym (whole bytes c.in-Ok.ensures.cases.1) in
    let read = subst (λ t. IfOk c.scan.result (λ tokens. t ≡ Ok tokens)) scanned c.scan.ensures.ok in
    let fault = subst (λ t. IfErr c.scan.result (λ fault. (fault ≡ OutOfMemory) ⊎ (t ≡ Err fault))) scanned c.scan.ensures.fault in
    record {
      tokens = if_tokens c.scan.result bytes read;
      only_tokens = if_only c.scan.result bytes read fault;
      refused = if_refused c.scan.result bytes fault;
      only_refused = only_refused c.scan.result bytes read fault;
      ok = read;
      fault = fault;
      spans = if_within c.scan.result bytes read;
    }

pub returns-in-Err : goal.returns-in-Err
returns-in-Err c =
    let bytes = c.args.bytes.now in
    let n = c.valid_up_to.result in
    let place : n ≡ utf8_valid_len bytes = c.valid_up_to.ensures ∙ c.in-Err.ensures.valid_len in
    let short : n < length bytes = omega (arith, c.in-Err.ensures.cases.1.short, c.valid_up_to.ensures) in
    let scanned = cut_off bytes n place short in
    let read = subst (λ t. IfOk c.scan-in-Err.result (λ tokens. t ≡ Ok tokens)) scanned c.scan-in-Err.ensures.ok in
    let fault = subst (λ t. IfErr c.scan-in-Err.result (λ fault. (fault ≡ OutOfMemory) ⊎ (t ≡ Err fault))) scanned c.scan-in-Err.ensures.fault in
    record {
      tokens = if_tokens c.scan-in-Err.result bytes read;
      only_tokens = if_only c.scan-in-Err.result bytes read fault;
      refused = if_refused c.scan-in-Err.result bytes fault;
      only_refused = only_refused c.scan-in-Err.result bytes read fault;
      ok = read;
      fault = fault;
      spans = if_within c.scan-in-Err.result bytes read;
    }
