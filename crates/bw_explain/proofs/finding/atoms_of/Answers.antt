use Rattle.std.proofs.Common.{◌≡◌, ◌==◌, Bool, true, false, if◌then◌else◌, List, [], map, ne_eqb, refl, ap, sym, ◌∙◌}
use Rattle.std.proofs.lemmas.Bool.{false≢true}
use Rattle.std.proofs.lemmas.Result.{IfOk-weaker}
use Rattle.bw_explain.specs.declared.atom.Atom.{Atom}
use Rattle.bw_explain.specs.declared.atom.Atom.TheVariants.{Absent}
use Rattle.bw_explain.specs.Atoms.{atoms_of}
use Rattle.bw_explain.proofs.finding.atoms_of.Goals as goal

none_of : (b c d e f g : Bool) (A B C D E F : List Atom) → b ≡ false → c ≡ false → d ≡ false → e ≡ false → f ≡ false → g ≡ false
    → (if b then A else if c then B else if d then C else if e then D else if f then E else if g then F else []) ≡ []
none_of true c d e f g A B C D E F h i j k l m = absurd (false≢true (sym h))
none_of false true d e f g A B C D E F h i j k l m = absurd (false≢true (sym i))
none_of false false true e f g A B C D E F h i j k l m = absurd (false≢true (sym j))
none_of false false false true f g A B C D E F h i j k l m = absurd (false≢true (sym k))
none_of false false false false true g A B C D E F h i j k l m = absurd (false≢true (sym l))
none_of false false false false false true A B C D E F h i j k l m = absurd (false≢true (sym m))
none_of false false false false false false A B C D E F h i j k l m = refl

pub returns-then-number-eq1 : goal.returns-then-number-eq1
returns-then-number-eq1 c =
    IfOk-weaker c.one_atom.result _ _ (λ v h. h ∙ ap (λ n. atoms_of n c.args.rule.now) (sym c.if-number-eq1.true)) c.one_atom.ensures

pub returns-then-number-eq2 : goal.returns-then-number-eq2
returns-then-number-eq2 c =
    IfOk-weaker c.absent_of.result _ _ (λ v h. h ∙ ap (map Absent) c.as_slice.ensures ∙ ap (λ n. atoms_of n c.args.rule.now) (sym c.if-number-eq2.true))
    c.absent_of.ensures

pub returns-then-number-eq3 : goal.returns-then-number-eq3
returns-then-number-eq3 c =
    IfOk-weaker c.one_atom-then-number-eq3.result _ _ (λ v h. h ∙ ap (λ n. atoms_of n c.args.rule.now) (sym c.if-number-eq3.true))
    c.one_atom-then-number-eq3.ensures

pub returns-then-number-eq4 : goal.returns-then-number-eq4
returns-then-number-eq4 c =
    IfOk-weaker c.one_atom-then-number-eq4.result _ _ (λ v h. h ∙ ap (λ n. atoms_of n c.args.rule.now) (sym c.if-number-eq4.true))
    c.one_atom-then-number-eq4.ensures

pub returns-then-number-eq5 : goal.returns-then-number-eq5
returns-then-number-eq5 c =
    IfOk-weaker c.text_atoms.result _ _ (λ v h. h ∙ ap (λ n. atoms_of n c.args.rule.now) (sym c.if-number-eq5.true)) c.text_atoms.ensures

pub returns-then-number-eq7 : goal.returns-then-number-eq7
returns-then-number-eq7 c =
    IfOk-weaker c.need_atoms.result _ _ (λ v h. h ∙ ap (λ n. atoms_of n c.args.rule.now) (sym c.if-number-eq7.true)) c.need_atoms.ensures

pub returns : goal.returns
returns c =
    let n = c.args.number in
    c.new.ensures.items ∙ sym (none_of (n == 1) (n == 2) (n == 3) (n == 4) (n == 5) (n == 7) _ _ _ _ _ _ (ne_eqb n 1 c.if-number-eq1.false)
    (ne_eqb n 2 c.if-number-eq2.false) (ne_eqb n 3 c.if-number-eq3.false) (ne_eqb n 4 c.if-number-eq4.false) (ne_eqb n 5 c.if-number-eq5.false)
    (ne_eqb n 7 c.if-number-eq7.false))
