-- What is read for a service is what its flow reads.
use Rattle.std.proofs.Common.{◌≡◌, ℕ, List, Ok, sym, ap, subst, ◌∙◌}
use Rattle.bw_saved.specs.Codec.{IsBytes}
use Rattle.bw_flow.specs.Layout.{plan_of}
use Rattle.bw_flow.specs.Steps.{Plan}
use Rattle.bw_lang.specs.declared.service.Service.{Service}
use Rattle.bw_saved.specs.declared.saved.Saved.{Saved}
use Rattle.bw_saved.specs.Files.{decided}
use Rattle.bw_saved.specs.FileLaws.{IsFile, ReadsFiles}
use Rattle.bw_saved.specs.Documents.Demands.{IsSmall}
use Rattle.bw_types.specs.declared.typed.Typed.{Typed}

pub found : ReadsFiles → (t u : Typed) (flow plan : Plan) (text bytes : List ℕ) (s : Saved) → t ≡ u → flow ≡ plan → plan ≡ plan_of u.service →
    IsSmall u.service → IsBytes bytes → decided t.service flow text bytes ≡ Ok s → IsFile u.service text bytes s
found reads t u flow plan text bytes s typed same lowered small fits e =
    reads u.service small text bytes s fits
    (subst (λ (p : Plan). decided u.service p text bytes ≡ Ok s) (same ∙ lowered) (subst (λ (v : Typed). decided v.service flow text bytes ≡ Ok s) typed e))
