use Rattle.std.proofs.Common.{◌≡◌, ◌+◌, ◌∙◌, ap, sym, subst, drop, [], ◌∷◌, ◌++◌}
use Rattle.std.specs.Str.{IsUtf8}
use Rattle.bw_lex.specs.Pieces.{string}
use Rattle.bw_lex.proofs.Strings.{string-stands, string-escapes}
use Rattle.bw_lex.proofs.Utf8.{stands, escapes, closes, so_far}
use Rattle.bw_lex.proofs.pieces.string.Goals as goal
use Rattle.bw_lex.proofs.pieces.string.Goals.{in-Stands+in_ok-push-in-Stands, in-Escapes}

pub unwrap-text-requires : goal.unwrap-text-requires
unwrap-text-requires c =
    c.from_utf8.ensures.succeeds (closes c.loop-n.escaped c.loop-n.text.items c.args.bytes.now c.loop-n.n c.loop-n-test.true (sym c.in-Closes.ensures)
    c.loop-n.invariant.utf8)

pub loop-n-preserved : goal.loop-n-preserved
loop-n-preserved c =
    let bytes = c.args.bytes.now in
    let n = c.loop-n.n in
    elim c.match-string_byte.branch [
      | in-Stands+in_ok-push-in-Stands w ↦
          let byte = sym w.in-Stands.ensures in
          let text : c.match-string_byte.text.items ≡ c.loop-n.text.items ++ w.in-Stands.c ∷ [] =
          ap (λ v. v.items) w.text-is ∙ w.in_ok-push-in-Stands.ensures.items in
          record {
            value =
                c.loop-n.invariant.value ∙ string-stands c.args.bad c.loop-n.escaped c.loop-n.text.items bytes n (n + 1) w.in-Stands.c c.loop-n-test.true byte
                ∙ (λ i. string c.args.bad (sym w.escaped-is i) (sym text i) (n + 1 + 1) (drop (n + 1) bytes));
            utf8 = subst (λ t. IsUtf8 (so_far c.match-string_byte.escaped t (n + 1) bytes)) (sym text)
                (subst (λ e. IsUtf8 (so_far e (c.loop-n.text.items ++ w.in-Stands.c ∷ []) (n + 1) bytes)) (sym w.escaped-is)
                (stands c.loop-n.escaped c.loop-n.text.items bytes n w.in-Stands.c c.loop-n-test.true byte c.loop-n.invariant.utf8));
          }
      | in-Escapes w ↦
          let byte = sym w.in-Escapes.ensures in
          let text : c.match-string_byte.text.items ≡ c.loop-n.text.items = ap (λ v. v.items) w.text-is in
          record {
            value = c.loop-n.invariant.value ∙ string-escapes c.args.bad c.loop-n.escaped c.loop-n.text.items bytes n (n + 1) c.loop-n-test.true byte
                ∙ (λ i. string c.args.bad (sym w.escaped-is i) (sym text i) (n + 1 + 1) (drop (n + 1) bytes));
            utf8 = subst (λ t. IsUtf8 (so_far c.match-string_byte.escaped t (n + 1) bytes)) (sym text)
                (subst (λ e. IsUtf8 (so_far e c.loop-n.text.items (n + 1) bytes)) (sym w.escaped-is)
                (escapes c.loop-n.escaped c.loop-n.text.items bytes n c.loop-n-test.true byte c.loop-n.invariant.utf8));
          }
    ]
