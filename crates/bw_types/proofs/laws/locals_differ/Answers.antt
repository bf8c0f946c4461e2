use Rattle.std.specs.List.{All, AllPairs, Contains}
use Rattle.std.specs.Prelude.{◌≢◌}
use Rattle.std.proofs.lemmas.List.Elements.{All-nil}
use Rattle.bw_lang.specs.declared.service.Session.{Session}
use Rattle.bw_lang.specs.Service.CodeNames.{local_names}
use Rattle.bw_lang.proofs.Small.{readable_is_woven}
use Rattle.bw_types.specs.Scopes.{declared_names, no_locals}
use Rattle.bw_types.proofs.OwnLocals.{locals_own}
use Rattle.bw_types.proofs.Differing.{none_differ}
use Rattle.bw_types.proofs.Parts.{all_so}
use Rattle.bw_types.proofs.Services.{Walked}
use Rattle.bw_types.proofs.Sorted.{sessions_none}
use Rattle.bw_types.proofs.laws.locals_differ.Goals as goal

pub returns : goal.returns
returns c = λ s r h.
    all_so (Walked s) (λ (x : Session). AllPairs (λ v w. v ≢ w) (local_names x.body) × All (λ w. ¬ (Contains (declared_names s) w)) (local_names x.body))
    (λ x f. let o = locals_own s no_locals x.body f.body (record { differ = none_differ; apart = All-nil (λ w. ¬ (Contains (declared_names s) w)) }) in
    (o.differ, o.apart)) s.sessions (sessions_none s (readable_is_woven s r) h)
