use Rattle.std.proofs.Common.{◌≡◌, ◌∙◌, ap, sym, map, inl, inr}
use Rattle.clap.specs.Words.{App, app_of, is_simple, matches_of, fault_of, is_simple_and_free}
use Rattle.bw_command.specs.Words.{bigwig, written_in}
use Rattle.bw_command.proofs.CommandLine.{simple, free, none_among}
use Rattle.bw_command.proofs.words.read_line.Goals as goal

pub returns-in-Ok-try_get_matches_from-clause-ok : goal.returns-in-Ok-try_get_matches_from-clause-ok
returns-in-Ok-try_get_matches_from-clause-ok c =
    let words = map (λ s. s.now) c.args.words.now in
    let same : app_of c.in-Ok.command ≡ bigwig = c.in-Ok.ensures in
    let parse = c.in-Ok-try_get_matches_from.ensures in (
      ap (λ (a : App). fault_of a words) (sym same) ∙ parse.kinds (ap is_simple_and_free same ∙ free),
      c.line_of.ensures ∙ ap written_in ((parse.matches (ap is_simple same ∙ simple)).0 ∙ ap (λ (a : App). matches_of a words) same),
    )

pub returns : goal.returns
returns c =
    let words = map (λ s. s.now) c.args.words.now in
    let same : app_of c.in-Ok.command ≡ bigwig = c.in-Ok.ensures in
    record {
      ok = tt;
      refused = λ _ taken. elim (c.in-Err.ensures.kinds (ap is_simple_and_free same ∙ free)) [
        | inl memory ↦ absurd (c.in_default-kind.not-OutOfMemory (c.kind.ensures ∙ memory))
        | inr among ↦ none_among _ _ among (ap (λ (a : App). fault_of a words) same ∙ taken)
      ];
    }
