-- Laws of fields, and of taking in their names.
use Rattle.std.proofs.Common.{◌≡◌, ℕ, ◌+◌, ◌<◌, List, [], ◌∷◌, ◌++◌, length, get_or, take, refl, ap, ◌∙◌, append_assoc}
use Rattle.bw_lang.specs.declared.items.Item.{Item}
use Rattle.bw_lang.specs.declared.stmt.Stmt.{Stmt}
use Rattle.bw_lang.specs.Service.Code.{Code, done, declare, assign, if_then, if_else, while_loop, block, for_each, show, exit}
use Rattle.bw_lang.specs.Service.Code as codes
use Rattle.bw_lang.specs.Service.CodeNames.{received_fields}
use Rattle.bw_lang.specs.Service.CodeView.{code}
use Rattle.bw_lang.specs.Service.CodeView as code_view
use Rattle.bw_lang.specs.Template.Controls.{control_names, fields}
use Rattle.bw_lang.specs.Document.Documents as doc
use Rattle.bw_lang.specs.Document.Forest.{Forest, none, text, gap, element}
use Rattle.bw_lang.specs.Table.Names.{with_name, with_names}
use Rattle.bw_lang.specs.Document.View.{forest}
use Rattle.bw_lang.specs.Document.View as view
use Rattle.bw_lang.proofs.Forests.{forest_at_read}
use Rattle.bw_lang.proofs.Codes.{statements_take}

pub with_names-append : (old a b : List (List ℕ)) → with_names old (a ++ b) ≡ with_names (with_names old a) b
with_names-append old [] b = refl
with_names-append old (n ∷ a) b = with_names-append (with_name old n) a b

control_names-append : (a b : Forest) → control_names (doc.append a b) ≡ control_names a ++ control_names b
control_names-append none b = refl
control_names-append (text s r) b = control_names-append r b
control_names-append (gap g r) b = control_names-append r b
control_names-append (element t a i r) b = rw (control_names-append r b) (simp append_assoc)

pub fields-append : (a b : Forest) → fields (doc.append a b) ≡ fields a ++ fields b
fields-append none b = refl
fields-append (text s r) b = fields-append r b
fields-append (gap g r) b = fields-append r b
fields-append (element t a i r) b = rw (fields-append r b) (simp append_assoc)

received_fields-append : (a b : Code) → received_fields (codes.append a b) ≡ received_fields a ++ received_fields b
received_fields-append done b = refl
received_fields-append (declare t w e r) b = received_fields-append r b
received_fields-append (assign w e r) b = received_fields-append r b
received_fields-append (if_then t y r) b = rw (received_fields-append r b) (simp append_assoc)
received_fields-append (if_else t y n r) b = rw (received_fields-append r b) (simp append_assoc)
received_fields-append (while_loop t i r) b = rw (received_fields-append r b) (simp append_assoc)
received_fields-append (block i r) b = rw (received_fields-append r b) (simp append_assoc)
received_fields-append (for_each w e i r) b = rw (received_fields-append r b) (simp append_assoc)
received_fields-append (show p rs r) b = rw (received_fields-append r b) (simp append_assoc)
received_fields-append (exit p r) b = received_fields-append r b

-- one item, one statement or one receive more
pub controls_at_read : (old : List (List ℕ)) (xs : List Item) (i : ℕ) (d : Item) → i < length xs
    → (get_or xs i d ≡ get_or xs i d) × (with_names old (control_names (forest (take (i + 1) xs)))
    ≡ with_names (with_names old (control_names (forest (take i xs)))) (control_names (view.before (get_or xs i d) none)))
controls_at_read old xs i d h =
    let first = forest (take i xs) in let last = view.before (get_or xs i d) none in (
      refl,
      ap (λ f. with_names old (control_names f)) (forest_at_read xs i d h).1 ∙ ap (with_names old) (control_names-append first last)
          ∙ with_names-append old (control_names first) (control_names last),
    )

pub received_at_read : (old : List (List ℕ)) (xs : List Stmt) (i : ℕ) (d : Stmt) → i < length xs
    → (get_or xs i d ≡ get_or xs i d) × (with_names old (received_fields (code (take (i + 1) xs)))
    ≡ with_names (with_names old (received_fields (code (take i xs)))) (received_fields (code_view.before (get_or xs i d) done)))
received_at_read old xs i d h =
    let first = code (take i xs) in let last = code_view.before (get_or xs i d) done in (
      refl,
      ap (λ c. with_names old (received_fields c)) (statements_take xs i d h) ∙ ap (with_names old) (received_fields-append first last)
          ∙ with_names-append old (received_fields first) (received_fields last),
    )

pub ruleset field_steps = (with_names-append, controls_at_read, received_at_read)
