-- What the parser gives for statements. The number at the front bounds its steps.
-- It only follows the steps of the code: nothing is promised by it.
use Rattle.std.specs.Prelude.{ℕ, zero, suc, ◌+◌, ◌*◌, length, List, [], ◌∷◌, ◌++◌, Some, None, codes}
use Rattle.bw_lang.specs.declared.stmt.Kind.{Kind}
use Rattle.bw_lang.specs.declared.stmt.Receive.{Receive}
use Rattle.bw_lang.specs.Service.Code.{Code, done, declare, assign, if_then, if_else, while_loop, block, for_each, show, exit, append}
use Rattle.bw_lang.specs.declared.token.Lexeme.{Lexeme}
use Rattle.bw_lang.specs.Service.Term.{Term}
use Rattle.bw_parse.specs.Steps.Expressions.{parse, parse_inside}
use Rattle.bw_lang.specs.Table.Options.{◌>>=◌, where_some}
use Rattle.bw_parse.specs.Steps.Fronts.{Read, behind, keyword, word, named, kind}

-- TARGET = FIELD
unfoldable pub receive : List Lexeme → Read Receive
receive ts = named ts >>= λ t. behind (codes "=") t.1 >>= λ k. word k >>= λ f. Some (record { target = t.0; field = f.0 }, f.1)

-- receives with commas between them, behind those of front
unfoldable pub receives_from : ℕ → List Receive → List Lexeme → Read (List Receive)
receives_from zero front ts = None
receives_from (suc f) front ts =
    receive ts >>= λ r. where_some (behind (codes ",") r.1) (λ k. receives_from f (front ++ r.0 ∷ []) k) (Some (front ++ r.0 ∷ [], r.1))

-- the same with as many steps as can be needed
unfoldable pub parse_list : List Receive → List Lexeme → Read (List Receive)
parse_list front ts = receives_from (length ts + 1) front ts

-- receive [ .. ], or nothing
unfoldable pub parse_receives : List Lexeme → Read (List Receive)
parse_receives ts =
    where_some (keyword (codes "receive") ts)
    (λ k. behind (codes "[") k >>= λ j. parse_list [] j >>= λ r. behind (codes "]") r.1 >>= λ z. Some (r.0, z))
    (Some ([], ts))

-- ( e )
unfoldable pub condition : List Lexeme → Read Term
condition ts = behind (codes "(") ts >>= λ k. parse_inside k

-- ( NAME in e )
unfoldable pub each_head : List Lexeme → Read (List ℕ × Term)
each_head ts = behind (codes "(") ts >>= λ j. named j >>= λ w. keyword (codes "in") w.1 >>= λ k. parse_inside k >>= λ x. Some ((w.0, x.0), x.1)

-- NAME = e ;
unfoldable pub valued : List Lexeme → Read (List ℕ × Term)
valued ts = named ts >>= λ w. behind (codes "=") w.1 >>= λ k. parse 1 k >>= λ x. behind (codes ";") x.1 >>= λ z. Some ((w.0, x.0), z)

-- ---- statements without statements in them, behind their first word where they have one

unfoldable pub parse_show : List Lexeme → Read Code
parse_show k = parse 1 k >>= λ p. parse_receives p.1 >>= λ r. behind (codes ";") r.1 >>= λ z. Some (show p.0 r.0 done, z)

unfoldable pub parse_exit : List Lexeme → Read Code
parse_exit k = parse 1 k >>= λ p. behind (codes ";") p.1 >>= λ z. Some (exit p.0 done, z)

unfoldable pub parse_declare : Kind → List Lexeme → Read Code
parse_declare t k = valued k >>= λ v. Some (declare t v.0.0 v.0.1 done, v.1)

unfoldable pub parse_assign : List Lexeme → Read Code
parse_assign ts = valued ts >>= λ v. Some (assign v.0.0 v.0.1 done, v.1)

-- one of these
unfoldable pub simple : List Lexeme → Read Code
simple ts =
    where_some (keyword (codes "show") ts) parse_show
    (where_some (keyword (codes "exit") ts) parse_exit
    (where_some (kind ts) (λ t. parse_declare t.0 t.1) (parse_assign ts)))

-- ---- all statements

unfoldable mutual
  -- the statements up to a closing brace
  pub code_of : ℕ → List Lexeme → Read Code
  code_of zero ts = None
  code_of (suc f) ts =
      where_some (behind (codes "}") ts) (λ k. Some (done, k)) (one f ts >>= λ s. code_of f s.1 >>= λ c. Some (append s.0 c.0, c.1))

  -- one statement
  pub one : ℕ → List Lexeme → Read Code
  one zero ts = None
  one (suc f) ts =
      where_some (keyword (codes "if") ts)
      (λ k. condition k >>= λ t. braces f t.1 >>= λ y.
      where_some (keyword (codes "else") y.1) (λ e. braces f e >>= λ n. Some (if_else t.0 y.0 n.0 done, n.1)) (Some (if_then t.0 y.0 done, y.1)))
      (where_some (keyword (codes "while") ts) (λ k. condition k >>= λ t. braces f t.1 >>= λ b. Some (while_loop t.0 b.0 done, b.1))
      (where_some (keyword (codes "foreach") ts) (λ k. each_head k >>= λ h. braces f h.1 >>= λ b. Some (for_each h.0.0 h.0.1 b.0 done, b.1))
      (where_some (behind (codes "{") ts) (λ k. code_of f k >>= λ b. Some (block b.0 done, b.1)) (simple ts))))

  -- the statements between two braces
  pub braces : ℕ → List Lexeme → Read Code
  braces zero ts = None
  braces (suc f) ts = behind (codes "{") ts >>= λ k. code_of f k

-- ---- the same with as many steps as can be needed

unfoldable pub parse_code : List Lexeme → Read Code
parse_code ts = code_of (4 * length ts + 4) ts

unfoldable pub parse_one : List Lexeme → Read Code
parse_one ts = one (4 * length ts + 4) ts

unfoldable pub parse_braces : List Lexeme → Read Code
parse_braces ts = braces (4 * length ts + 4) ts

-- behind the statements of front
abbrev pub with_code : Code → Read Code → Read Code
with_code front None = None
with_code front (Some x) = Some (append front x.0, x.1)

-- ---- statements with statements in them, behind their first word

unfoldable pub parse_if : List Lexeme → Read Code
parse_if k =
    condition k >>= λ t. parse_braces t.1 >>= λ y.
    where_some (keyword (codes "else") y.1) (λ e. parse_braces e >>= λ n. Some (if_else t.0 y.0 n.0 done, n.1)) (Some (if_then t.0 y.0 done, y.1))

unfoldable pub parse_while : List Lexeme → Read Code
parse_while k = condition k >>= λ t. parse_braces t.1 >>= λ b. Some (while_loop t.0 b.0 done, b.1)

unfoldable pub parse_each : List Lexeme → Read Code
parse_each k = each_head k >>= λ h. parse_braces h.1 >>= λ b. Some (for_each h.0.0 h.0.1 b.0 done, b.1)
