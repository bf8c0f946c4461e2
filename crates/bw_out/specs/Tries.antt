-- How the tries of one call of the system went.
use Rattle.std.specs.Prelude.{◌≡◌, ◌≢◌, ◌⊎◌, ◌≤◌, ◌+◌, OnOk, OnErr, Option, Some, None, Result, Ok, Err, if◌then◌else◌, is_some, nat_lt}
use Rattle.std.specs.declared.io.ErrorKind.{ErrorKind}
use Rattle.std.specs.declared.io.ErrorKind.TheVariants as kinds
use Rattle.bw_out.specs.declared.tries.Tries.{Tries}

abbrev pub no_tries : Tries
no_tries = record { interrupted = 0; end = None }

-- with a try that failed by an error of this kind
abbrev pub noted : Tries → ErrorKind → Tries
noted tries kinds.Interrupted = record tries { interrupted = tries.interrupted + 1 }
noted tries kind = record tries { end = Some kind }

-- with what came of a try
abbrev pub tried : {T : Type 0} → Tries → Result T ErrorKind → Tries
tried tries (Ok value) = tries
tried tries (Err kind) = noted tries kind

-- why the call failed: its last try failed so, or 101 in a row were interrupted; none where it didn't fail
abbrev pub trouble_of : Tries → Option ErrorKind
trouble_of tries = if is_some tries.end then tries.end else (if nat_lt 100 tries.interrupted then Some kinds.Interrupted else None)

-- A call was tried again exactly where it was interrupted, up to 100 times: where it succeeds, no try failed otherwise,
-- and where it fails, the last try failed otherwise or 101 were interrupted.
pub record Retried {T E : Type 0} (tries : Tries) (result : Result T E) : Type 0 where
  pub ok : OnOk result ((tries.end ≡ None) × (tries.interrupted ≤ 100))
  pub err : OnErr result (((tries.end ≢ None) × (tries.interrupted ≤ 100)) ⊎ ((tries.end ≡ None) × (tries.interrupted ≡ 101)))

-- A file was looked for so: it is missing exactly where the last try said that there is none, it is there exactly where
-- the last try opened it, and it can't be said where the last try failed otherwise or 101 were interrupted.
abbrev pub Looked : {T E : Type 0} → Tries → Result (Option T) E → Type 0
Looked tries (Ok None) = (tries.end ≡ Some kinds.NotFound) × (tries.interrupted ≤ 100)
Looked tries (Ok (Some file)) = (tries.end ≡ None) × (tries.interrupted ≤ 100)
Looked tries (Err e) =
    ((tries.end ≢ None) × (tries.end ≢ Some kinds.NotFound) × (tries.interrupted ≤ 100)) ⊎ ((tries.end ≡ None) × (tries.interrupted ≡ 101))
