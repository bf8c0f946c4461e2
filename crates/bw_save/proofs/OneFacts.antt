-- The facts of a service are one, so what a file gives for it is one.
use Rattle.std.proofs.Common.{◌≡◌, ℕ, false, List, [], ◌∷◌, length, Option, None, Some, Result, Ok, Err, refl, sym, ap, ◌∙◌, if◌then◌else◌, subst}
use Rattle.std.proofs.Math.Logic.{∥∥₁_elim}
use Rattle.std.proofs.Props.{props}
use Rattle.std.specs.List.{list_all, slice_get, slice_index_or}
use Rattle.bw_analyse.specs.declared.abstracts.Abstract.{Abstract}
use Rattle.bw_analyse.specs.declared.facts.Facts.{Facts}
use Rattle.bw_analyse.specs.Facts.{AreFacts, local_in, local_fact, shared_fact, shown_fact, joined_option}
use Rattle.bw_analyse.specs.Known.{of_name}
use Rattle.bw_check.specs.Accepts.{IsAccepted}
use Rattle.bw_check.proofs.Within.OneSolution.{facts_are_one}
use Rattle.bw_flow.specs.declared.point.Local.{Local}
use Rattle.bw_flow.specs.Layout.{plan_of}
use Rattle.bw_flow.specs.Steps.{Step}
use Rattle.bw_save.specs.Frozen.{saved_of, loaded_of}
use Rattle.bw_save.specs.Thawed.{Gives, IsSoundLoaded}
use Rattle.bw_lang.specs.declared.service.Service.{Service}
use Rattle.bw_lang.specs.declared.service.Shared.{Shared}
use Rattle.bw_lang.specs.Table.Names.{beside}
use Rattle.bw_load.specs.Cells.{is_cell_below}
use Rattle.bw_load.specs.Loaded.{LoadedIsSound, world_of}
use Rattle.bw_load.specs.declared.loading.LoadFault.{LoadFault}
use Rattle.bw_load.specs.Loads.{are_locals_below, is_page_below, is_session_below, is_shared_below, first_uncovered, uncovered, by_cells, by_file, loaded, IsLoaded}
use Rattle.bw_saved.specs.declared.file.FileFault.{FileFault}
use Rattle.bw_saved.specs.declared.file.FileFault.TheVariants as files
use Rattle.bw_saved.specs.declared.saved.Record.{Record}
use Rattle.bw_saved.specs.declared.saved.Saved.{Saved}
use Rattle.bw_saved.specs.Files.{decided}
use Rattle.bw_saved.specs.Sessions.Demands.{IsSaved}
use Rattle.bw_schema.specs.declared.schema.Schema.{Schema}
use Rattle.bw_sound.specs.Worlds.{IsSoundWorld}
use Rattle.bw_types.specs.declared.typed.Typed.{Typed}
use Rattle.bw_world.specs.Seen.{Seen}

-- ---- two facts of a service tell the same

module _ (t : Typed) (f g : Facts) (a : AreFacts t.service f) (b : AreFacts t.service g) where
  local_alike : (p : ℕ) (w : List ℕ) → local_fact f p w ≡ local_fact g p w
  local_alike p w =
      let one = facts_are_one t f g a b in
      λ i. local_in (slice_index_or (one.0 i) p []) w (slice_get ((a.scopes ∙ sym b.scopes) i) p)

  shared_alike : (w : List ℕ) → shared_fact f w ≡ shared_fact g w
  shared_alike w =
      let one = facts_are_one t f g a b in
      λ i. of_name ((a.variables ∙ sym b.variables) i) (slice_index_or (one.0 i) (length ((a.scopes ∙ sym b.scopes) i)) []) w

  shown_alike : (p : ℕ) → shown_fact f p ≡ shown_fact g p
  shown_alike p = let one = facts_are_one t f g a b in λ i. joined_option (slice_get (one.1 i) p)

  -- so they refuse the same

  all_shared_alike : (s : Saved) → is_shared_below t.service f s ≡ is_shared_below t.service g s
  all_shared_alike s =
      λ i. list_all (λ (v : Shared). is_cell_below t.service (beside v.name s.shared) (shared_alike v.name i)) t.service.shared

  locals_alike : (r : Record) (o : Option Step) → are_locals_below t.service f r o ≡ are_locals_below t.service g r o
  locals_alike r None = refl
  locals_alike r (Some x) =
      λ i. list_all (λ (l : Local). is_cell_below t.service (beside l.name r.frame.locals) (local_alike r.frame.point l.name i)) x.scope

  session_alike : (r : Record) → is_session_below t.service f r ≡ is_session_below t.service g r
  session_alike r =
      λ i. if locals_alike r (slice_get (plan_of t.service).steps r.frame.point) i
      then is_page_below t.service r.page (shown_alike r.frame.point i) else false

  first_alike : (rs : List Record) → first_uncovered t.service f rs ≡ first_uncovered t.service g rs
  first_alike [] = refl
  first_alike (r ∷ rs) = λ i. if session_alike r i then first_alike rs i else Some r.number

  pub uncovered_alike : (s : Saved) → uncovered t.service f s ≡ uncovered t.service g s
  uncovered_alike s = λ i. if all_shared_alike s i then first_alike s.records i else Some 0

-- and a file gives the same

by_file_alike : (service : Service) (f g : Facts) → ((s : Saved) → uncovered service f s ≡ uncovered service g s) → (r : Result Saved FileFault) →
    by_file service f r ≡ by_file service g r
by_file_alike service f g same (Ok s) = ap (by_cells s) (same s)
by_file_alike service f g same (Err files.TooLong) = refl
by_file_alike service f g same (Err files.Malformed) = refl
by_file_alike service f g same (Err (files.Version n)) = refl
by_file_alike service f g same (Err files.OtherService) = refl
by_file_alike service f g same (Err files.Memory) = refl

pub loaded_alike : (t : Typed) (f g : Facts) → AreFacts t.service f → AreFacts t.service g → (text bytes : List ℕ) →
    loaded t.service f text bytes ≡ loaded t.service g text bytes
loaded_alike t f g a b text bytes =
    by_file_alike t.service f g (uncovered_alike t f g a b) (decided t.service (plan_of t.service) text bytes)

-- ---- also where it is only known that there is a reason why some of them are facts of the service

uncovered_is_one : (t : Typed) (schema : Schema) (f g : Facts) → ∥ IsAccepted t.service schema f ∥₁ → AreFacts t.service g → (s : Saved) →
    uncovered t.service f s ≡ uncovered t.service g s
uncovered_is_one t schema f g a b s = ∥∥₁_elim a (hlevel props) (λ x. uncovered_alike t f g x.facts_are b s)

-- what these facts give, the service's give
pub gives : (t : Typed) (schema : Schema) (f : Facts) (text bytes : List ℕ) (answer : Result Saved LoadFault) → ∥ IsAccepted t.service schema f ∥₁ →
    IsLoaded answer (loaded t.service f text bytes) → Gives t.service text bytes answer
gives t schema f text bytes answer a is g b =
    subst (IsLoaded answer)
    (by_file_alike t.service f g (uncovered_is_one t schema f g a b) (decided t.service (plan_of t.service) text bytes)) is

-- ---- what was loaded is sound

none_uncovered : (s v : Saved) (o : Option ℕ) → by_cells s o ≡ Ok v → (s ≡ v) × (o ≡ None)
none_uncovered s v None e = (let same : s ≡ v = cc in same, refl)
none_uncovered s v (Some k) e = absurd cc

covered : (service : Service) (facts : Facts) (r : Result Saved FileFault) (s : Saved) → by_file service facts r ≡ Ok s → uncovered service facts s ≡ None
covered service facts (Ok v) s e =
    let x = none_uncovered v s (uncovered service facts v) e in
    ap (uncovered service facts) (sym x.0) ∙ x.1
covered service facts (Err files.TooLong) s e = absurd cc
covered service facts (Err files.Malformed) s e = absurd cc
covered service facts (Err (files.Version n)) s e = absurd cc
covered service facts (Err files.OtherService) s e = absurd cc
covered service facts (Err files.Memory) s e = absurd cc

pub sound_loaded : LoadedIsSound → (t : Typed) (text bytes : List ℕ) (w : Seen) → w.service ≡ t.service → IsSaved t.service (saved_of w) →
    Gives t.service text bytes (Ok (saved_of w)) → IsSoundLoaded w
sound_loaded law t text bytes w is saved given =
    let by : (facts : Facts) → AreFacts t.service facts → IsSoundWorld t.service (world_of t.service (saved_of w)) =
    λ facts are.
    law t facts (saved_of w) are saved (covered t.service facts (decided t.service (plan_of t.service) text bytes) (saved_of w) (given facts are)) in
    subst (λ (service : Service). (facts : Facts) → AreFacts service facts → IsSoundWorld service (world_of service (saved_of w))) (sym is) by
