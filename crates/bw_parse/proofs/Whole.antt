-- Of all the tokens: what is parsed is spelled so, and what is spelled so is parsed.
use Rattle.std.proofs.Common.{◌≡◌, ◌+◌, ◌*◌, ◌<◌, List, length, Some, sym, ◌∙◌, arith}
use Rattle.bw_lang.specs.Text.Levels.{Levelled}
use Rattle.bw_lang.specs.declared.token.Lexeme.{Lexeme}
use Rattle.bw_lang.specs.Text.Spelling.{spell}
use Rattle.bw_lang.specs.Service.Term.{Term}
use Rattle.bw_parse.specs.Steps.Expressions.{parse, steps}
use Rattle.bw_parse.specs.Steps.Follow.{binds}
use Rattle.bw_parse.proofs.Sound.{Reads, sound_expr}
use Rattle.bw_parse.proofs.Ways.{AtLevel}
use Rattle.bw_parse.proofs.Complete.{complete, one_le}
use Rattle.bw_parse.proofs.Steps.{expr_is}

pub parse_sound : (ts : List Lexeme) (x : Term × List Lexeme) → parse 1 ts ≡ Some x → Reads 1 ts x.0 x.1
unfolding parse
parse_sound ts x e = sound_expr (steps ts) 1 ts x (omega arith) e

pub parse_complete : (e : Term) (k : List Lexeme) → Levelled e → binds k < 1 → parse 1 (spell e k) ≡ Some (e, k)
unfolding AtLevel
parse_complete e k v b =
    let c = (complete e v).at 1 (one_le e) (omega arith) k b in
    let f = c.from + (20 * length (spell e k) + 20) in
    sym (expr_is f 1 (spell e k) (omega arith) (omega arith)) ∙ c.gives f (omega arith)
