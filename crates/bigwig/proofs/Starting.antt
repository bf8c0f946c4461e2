-- Where a service starts, in the words of the headline; and what was saved.
use Rattle.std.proofs.Common.{◌≡◌, ℕ, zero, suc, List, Option, None, Some, Result, Ok, Err, sym, ap, ◌∙◌, subst, inl, inr, refl, arith}
use Rattle.std.specs.Io.KnownBytes.{Appends}
use Rattle.bw_analyse.specs.declared.facts.Facts.{Facts}
use Rattle.bw_flow.specs.Layout.{plan_of}
use Rattle.bw_format.specs.declared.format.Format.{Format}
use Rattle.bw_lang.specs.Service.Reads.{Reads}
use Rattle.bw_lang.specs.declared.service.Service.{Service}
use Rattle.bw_lang.proofs.Small.{readable_is_small}
use Rattle.bw_load.specs.Loads.{by_cells, by_file, loaded, uncovered}
use Rattle.bw_load.specs.declared.loading.LoadFault.{LoadFault}
use Rattle.bw_model.specs.Sessions.{World, empty}
use Rattle.bw_model.specs.Within.{AreWithin}
use Rattle.bw_model.proofs.Storing.{empty_is_within}
use Rattle.bw_out.specs.Told.{Disk}
use Rattle.bw_saved.proofs.Files.{file_found}
use Rattle.bw_saved.specs.Codec.{IsBytes}
use Rattle.bw_saved.specs.Documents.Demands.{IsSmall}
use Rattle.bw_saved.specs.FileLaws.{IsFile}
use Rattle.bw_saved.specs.Files.{decided}
use Rattle.bw_saved.specs.declared.file.FileFault.{FileFault}
use Rattle.bw_saved.specs.declared.file.FileFault.TheVariants as files
use Rattle.bw_saved.specs.declared.saved.Saved.{Saved}
use Rattle.bw_world.specs.Seen.{Seen}
use Rattle.bw_world.specs.declared.ends.StreamEnd.{StreamEnd}
use Rattle.bw_world.specs.declared.ends.StreamEnd.TheVariants as ends
use Rattle.bigwig.specs.Asked.{start}
use Rattle.bigwig.specs.Freezing.{FreezesAt, IsFrozen, file_of}
use Rattle.bigwig.specs.Freezing.IsFrozen.{saved as was_saved, too_long, no_memory}
use Rattle.bigwig.specs.Headline.{StartsAt}
use Rattle.bigwig.specs.Loading.{Loads}
use Rattle.bw_command.specs.declared.status.Status.{Status}
use Rattle.bw_command.specs.declared.status.Status.TheVariants as status
use Rattle.bigwig.proofs.Begun.{loaded_within}

-- no session has stored anything there
pub start_within : (disk : Disk) (name : List ℕ) (load : Option (List ℕ)) (formats : List Format) (service : Service) (from : World)
    → (start disk name load service).gives from → AreWithin formats service from
start_within disk name None formats service from g = subst (AreWithin formats service) (sym g) (empty_is_within formats service)
start_within disk name (Some load) formats service from g =
    subst (AreWithin formats service) (sym g.2.2.2) (loaded_within formats service service g.2.2.0.records)

same_bytes : (a b : List ℕ) → Some a ≡ Some b → a ≡ b
same_bytes a b e = cc

small : (content : List ℕ) (service : Service) → Reads content service → IsSmall service
small content service r =
    let s = readable_is_small service ∣ (content, r) ∣₁ in
    record { templates = omega (arith, s.templates); gaps = omega (arith, s.gaps) }

-- what was loaded was read
cells_read : (s v : Saved) (o : Option ℕ) → by_cells s o ≡ Ok v → s ≡ v
cells_read s v None e = cc
cells_read s v (Some k) e = absurd cc

was_read : (service : Service) (facts : Facts) (r : Result Saved FileFault) (s : Saved) → by_file service facts r ≡ Ok s → r ≡ Ok s
was_read service facts (Ok v) s e = ap Ok (cells_read v s (uncovered service facts v) e)
was_read service facts (Err files.TooLong) s e = absurd cc
was_read service facts (Err files.Malformed) s e = absurd cc
was_read service facts (Err (files.Version n)) s e = absurd cc
was_read service facts (Err files.OtherService) s e = absurd cc
was_read service facts (Err files.Memory) s e = absurd cc

is_file : (service : Service) → IsSmall service → (facts : Facts) (text bytes : List ℕ) (s : Saved) → loaded service facts text bytes ≡ Ok s → IsBytes bytes
    → IsFile service text bytes s
is_file service few facts text bytes s e fits =
    file_found service few text bytes s fits (was_read service facts (decided service (plan_of service) text bytes) s e)

pub starts_at : (disk : Disk) (name : List ℕ) (load : Option (List ℕ)) (content : List ℕ) (service : Service) (from : World) → disk name ≡ Some content
    → Reads content service → (start disk name load service).gives from → StartsAt disk load content service from
starts_at disk name None content service from found reads g = g
starts_at disk name (Some load) content service from found reads g =
    let same : g.0 ≡ content = same_bytes g.0 content (sym g.1 ∙ found) in
    let loads : Loads service content g.2.0 (Ok g.2.2.0) = subst (λ t. Loads service t g.2.0 (Ok g.2.2.0)) same g.2.2.1 in
    record {
      bytes = g.2.0;
      found = g.2.1;
      saved = g.2.2.0;
      loads = loads;
      is = is_file service (small content service reads) loads.0 content g.2.0 g.2.2.0 loads.2;
      world = g.2.2.2;
    }

-- ---- what was saved

frozen_so : (text : List ℕ) (seen : Seen) (held now : Option (List ℕ)) (s : Status) → IsFrozen text seen held now s → s ≡ status.Done
    → Appends held now (file_of text seen)
frozen_so text seen held now s (was_saved fits (inl p)) is = p.1
frozen_so text seen held now s (was_saved fits (inr p)) is = absurd (let e : status.WriteFault ≡ status.Done = sym p.0 ∙ is in cc)
frozen_so text seen held now s (too_long filled more (inl p)) is = absurd (let e : status.SaveRefused ≡ status.Done = sym p.0 ∙ is in cc)
frozen_so text seen held now s (too_long filled more (inr p)) is = absurd (let e : status.WriteFault ≡ status.Done = sym p.0 ∙ is in cc)
frozen_so text seen held now s (no_memory f k) is = absurd (let e : status.Memory ≡ status.Done = sym f ∙ is in cc)

pub frozen_done : (text : List ℕ) (seen : Seen) (end : StreamEnd) (held now : Option (List ℕ)) (s : Status) → FreezesAt text seen end held now s
    → s ≡ status.Done → (end ≡ ends.Ended 0) × Appends held now (file_of text seen)
frozen_done text seen (ends.Ended zero) held now s f is = (refl, frozen_so text seen held now s f is)
frozen_done text seen (ends.Ended (suc n)) held now s f is = absurd (let e : status.Memory ≡ status.Done = sym f.0 ∙ is in cc)
frozen_done text seen ends.ReadFault held now s f is = absurd (let e : status.ReadFault ≡ status.Done = sym f.0 ∙ is in cc)
frozen_done text seen ends.WriteFault held now s f is = absurd f
