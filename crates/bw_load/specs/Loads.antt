-- What a file gives, and why it is refused.
use Rattle.std.specs.Prelude.{◌≡◌, ℕ, Bool, true, false, List, [], ◌∷◌, Option, Some, None, Result, Ok, Err, slice_get, if◌then◌else◌}
use Rattle.std.specs.List.{list_all}
use Rattle.bw_analyse.specs.declared.facts.Facts.{Facts}
use Rattle.bw_analyse.specs.Facts.{local_fact, shared_fact, shown_fact}
use Rattle.bw_doc.specs.Made.{Made}
use Rattle.bw_flow.specs.declared.point.Local.{Local}
use Rattle.bw_flow.specs.Layout.{plan_of}
use Rattle.bw_flow.specs.Steps.{Step}
use Rattle.bw_lang.specs.declared.service.Service.{Service}
use Rattle.bw_lang.specs.declared.service.Shared.{Shared}
use Rattle.bw_lang.specs.Table.Names.{beside}
use Rattle.bw_load.specs.declared.loading.LoadFault.{LoadFault}
use Rattle.bw_load.specs.declared.loading.LoadFault.TheVariants as faults
use Rattle.bw_load.specs.Cells.{is_cell_below}
use Rattle.bw_load.specs.Sums.{sum_of}
use Rattle.bw_saved.specs.declared.file.FileFault.{FileFault}
use Rattle.bw_saved.specs.declared.file.FileFault.TheVariants as files
use Rattle.bw_saved.specs.declared.saved.Record.{Record}
use Rattle.bw_saved.specs.declared.saved.Saved.{Saved}
use Rattle.bw_saved.specs.Files.{decided}
use Rattle.bw_sum.specs.declared.summary.Summary.{Summary}
use Rattle.bw_sum.specs.Summaries.{is_below}

-- each shared variable is below its cell
abbrev pub is_shared_below : Service → Facts → Saved → Bool
is_shared_below service facts s = list_all (λ (v : Shared). is_cell_below service (beside v.name s.shared) (shared_fact facts v.name)) service.shared

-- so is each local of a session, which waits at this point
abbrev pub are_locals_below : Service → Facts → Record → Option Step → Bool
are_locals_below service facts r None = false
are_locals_below service facts r (Some x) =
    list_all (λ (l : Local). is_cell_below service (beside l.name r.frame.locals) (local_fact facts r.frame.point l.name)) x.scope

-- and its document is below the one of its show
abbrev pub is_page_below : Service → Made → Option Summary → Bool
is_page_below service d None = false
is_page_below service d (Some cell) = is_below (sum_of service d) cell

-- both
abbrev pub is_session_below : Service → Facts → Record → Bool
is_session_below service facts r =
    if are_locals_below service facts r (slice_get (plan_of service).steps r.frame.point)
    then is_page_below service r.page (shown_fact facts r.frame.point) else false

-- the number of the first session that isn't covered
abbrev pub first_uncovered : Service → Facts → List Record → Option ℕ
first_uncovered service facts [] = None
first_uncovered service facts (r ∷ rs) = if is_session_below service facts r then first_uncovered service facts rs else Some r.number

-- and 0 where a shared variable isn't
abbrev pub uncovered : Service → Facts → Saved → Option ℕ
uncovered service facts s = if is_shared_below service facts s then first_uncovered service facts s.records else Some 0

-- ---- the order of the refusals: those of the file, and then those of cells

-- what was read, unless something of it isn't covered
abbrev pub by_cells : Saved → Option ℕ → Result Saved LoadFault
by_cells s None = Ok s
by_cells s (Some k) = Err (faults.NotCovered k)

-- by what the file holds
abbrev pub by_file : Service → Facts → Result Saved FileFault → Result Saved LoadFault
by_file service facts (Ok s) = by_cells s (uncovered service facts s)
by_file service facts (Err files.TooLong) = Err faults.TooLong
by_file service facts (Err files.Malformed) = Err faults.Malformed
by_file service facts (Err (files.Version n)) = Err (faults.Version n)
by_file service facts (Err files.OtherService) = Err faults.OtherService
by_file service facts (Err files.Memory) = Err faults.Memory

-- what a file gives for a service of this text, or its first refusal
abbrev pub loaded : Service → Facts → List ℕ → List ℕ → Result Saved LoadFault
loaded service facts text bytes = by_file service facts (decided service (plan_of service) text bytes)

-- the answer is what is due, or there was no memory
abbrev pub IsLoaded : Result Saved LoadFault → Result Saved LoadFault → Type 0
IsLoaded (Err faults.Memory) due = Unit {0}
IsLoaded (Err faults.TooLong) due = due ≡ Err faults.TooLong
IsLoaded (Err faults.Malformed) due = due ≡ Err faults.Malformed
IsLoaded (Err (faults.Version n)) due = due ≡ Err (faults.Version n)
IsLoaded (Err faults.OtherService) due = due ≡ Err faults.OtherService
IsLoaded (Err (faults.NotCovered k)) due = due ≡ Err (faults.NotCovered k)
IsLoaded (Ok s) due = due ≡ Ok s
