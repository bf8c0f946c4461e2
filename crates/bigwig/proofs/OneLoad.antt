-- A file of saved sessions gives one thing for a service, and it gives something.
use Rattle.std.proofs.Common.{◌≡◌, ◌≢◌, ℕ, Bool, true, false, List, Option, None, Some, Result, Ok, Err, refl, sym, ◌∙◌, ap, inl, inr, if◌then◌else◌}
use Rattle.bw_analyse.specs.declared.facts.Facts.{Facts}
use Rattle.bw_analyse.specs.Facts.{AreFacts}
use Rattle.bw_flow.specs.Layout.{plan_of}
use Rattle.bw_flow.specs.Steps.{Plan}
use Rattle.bw_save.proofs.OneFacts.{loaded_alike}
use Rattle.bw_lang.specs.declared.service.Service.{Service}
use Rattle.bw_lang.specs.Table.Names.{same as is_same}
use Rattle.bw_load.specs.declared.loading.LoadFault.{LoadFault}
use Rattle.bw_load.specs.declared.loading.LoadFault.TheVariants as loads
use Rattle.bw_load.specs.Loads.{by_cells, by_file, loaded, uncovered}
use Rattle.bw_saved.specs.declared.file.FileFault.{FileFault}
use Rattle.bw_saved.specs.declared.file.FileFault.TheVariants as files
use Rattle.bw_saved.specs.declared.limits.TheConstants.{VERSION, MAX_SAVED_BYTES}
use Rattle.bw_saved.specs.declared.saved.Saved.{Saved}
use Rattle.bw_saved.specs.Files.{by_rest, by_text, by_version, bytes_at, decided, version_at}
use Rattle.bw_saved.specs.Sessions.Reading.{ended, waiting_at}
use Rattle.bw_types.specs.declared.typed.Typed.{Typed}
use Rattle.std.specs.Prelude.{nat_lt, ◌==◌, length}
use Rattle.bigwig.specs.Loading.{Loads}

-- ---- one answer

ok_same : (r : Result Saved LoadFault) (a b : Saved) → r ≡ Ok a → r ≡ Ok b → a ≡ b
ok_same r a b is too = cc

ok_or_err : (a : Saved) (f : LoadFault) → Ok a ≡ Err f → ⊥
ok_or_err a f e = cc

pub loaded_once : (t : Typed) (text bytes : List ℕ) (s v : Saved) → Loads t.service text bytes (Ok s) → Loads t.service text bytes (Ok v) → s ≡ v
loaded_once t text bytes s v a b = ok_same (loaded t.service a.0 text bytes) s v a.2 (loaded_alike t a.0 b.0 a.1 b.1 text bytes ∙ b.2)

pub not_loaded : (t : Typed) (text bytes : List ℕ) (s : Saved) (f : LoadFault) → Loads t.service text bytes (Ok s) → Loads t.service text bytes (Err f) → ⊥
not_loaded t text bytes s f a b = ok_or_err s f (sym a.2 ∙ loaded_alike t a.0 b.0 a.1 b.1 text bytes ∙ b.2)

-- ---- some answer: want of memory is none

abbrev Tells : Result Saved FileFault → Type 0
Tells r = r ≡ Err files.Memory → ⊥

if_tells : (b : Bool) (x y : Result Saved FileFault) → Tells x → Tells y → Tells (if b then x else y)
if_tells true x y p q = p
if_tells false x y p q = q

rest_tells : (o : Option Saved) → Tells (by_rest o)
rest_tells None e = cc
rest_tells (Some s) e = cc

text_tells : (service : Service) (flow : Plan) (text : List ℕ) (o : Option (List ℕ × List ℕ)) → Tells (by_text service flow text o)
text_tells service flow text None = λ e. cc
text_tells service flow text (Some t) =
    if_tells (is_same t.0 text) (by_rest (ended (waiting_at service flow t.1))) (Err files.OtherService) (rest_tells (ended (waiting_at service flow t.1)))
    (λ e. cc)

version_tells : (service : Service) (flow : Plan) (text : List ℕ) (o : Option (ℕ × List ℕ)) → Tells (by_version service flow text o)
version_tells service flow text None = λ e. cc
version_tells service flow text (Some v) =
    if_tells (v.0 == VERSION) (by_text service flow text (bytes_at v.1)) (Err (files.Version v.0)) (text_tells service flow text (bytes_at v.1)) (λ e. cc)

decided_tells : (service : Service) (flow : Plan) (text bytes : List ℕ) → Tells (decided service flow text bytes)
decided_tells service flow text bytes =
    if_tells (nat_lt MAX_SAVED_BYTES (length bytes)) (Err files.TooLong) (by_version service flow text (version_at bytes)) (λ e. cc)
    (version_tells service flow text (version_at bytes))

cells_tell : (s : Saved) (o : Option ℕ) → by_cells s o ≡ Err loads.Memory → ⊥
cells_tell s None e = cc
cells_tell s (Some k) e = cc

file_tells : (service : Service) (facts : Facts) (r : Result Saved FileFault) → Tells r → by_file service facts r ≡ Err loads.Memory → ⊥
file_tells service facts (Ok s) t e = cells_tell s (uncovered service facts s) e
file_tells service facts (Err files.TooLong) t e = cc
file_tells service facts (Err files.Malformed) t e = cc
file_tells service facts (Err (files.Version n)) t e = cc
file_tells service facts (Err files.OtherService) t e = cc
file_tells service facts (Err files.Memory) t e = t refl

pub loaded_tells : (service : Service) (facts : Facts) (text bytes : List ℕ) → loaded service facts text bytes ≡ Err loads.Memory → ⊥
loaded_tells service facts text bytes =
    file_tells service facts (decided service (plan_of service) text bytes) (decided_tells service (plan_of service) text bytes)
