use Rattle.std.proofs.Common.{List, [], ◌∷◌, ℕ, subst, ap, ◌++◌, ◌∙◌}
use Rattle.bw_journal.specs.Heads.{name_bytes, version_bytes}
use Rattle.bw_journal.specs.Reading.{IsPassed}
use Rattle.bw_journal.proofs.HeadParts.{front_parts}
use Rattle.bw_journal.proofs.heads.pass_front.Goals as goal

pub returns : goal.returns
returns c =
    let bytes = c.args.bytes.now in
    let one = c.pass_next-behind_version.ensures name_bytes bytes c.pass-behind_name.ensures in
    let two = c.pass_next-behind_length.ensures (name_bytes ++ version_bytes) bytes one in
    let len = c.four_of.result in
    let three = c.pass_next-behind_text.ensures ((name_bytes ++ version_bytes) ++ len) bytes two in
    let all = c.pass_next.ensures (((name_bytes ++ version_bytes) ++ len) ++ c.args.text.now) bytes three in
    subst (λ (h : List ℕ). IsPassed h bytes c.pass_next.result)
    (ap (λ (l : List ℕ). (((name_bytes ++ version_bytes) ++ l) ++ c.args.text.now) ++ (c.args.origin ∷ [])) c.four_of.ensures
    ∙ front_parts c.args.origin c.args.text.now) all
