-- What a function returned, seen by view, is what the parser gives, unless there was no memory.
use Rattle.std.specs.Prelude.{◌≡◌, Option, Some, None, Result, Ok, Err}
use Rattle.bw_parse.specs.declared.fault.ParseFault.{ParseFault}
use Rattle.bw_parse.specs.declared.fault.ParseFault.TheVariants as faults

abbrev pub Finds : {X Y : Type 0} → (X → Y) → Option X → Option Y → Type 0
Finds view (Some x) read = read ≡ Some (view x)
Finds view None read = read ≡ None

abbrev pub Fails : {Y : Type 0} → ParseFault → Option Y → Type 0
Fails faults.Memory read = Unit {0}
Fails (faults.Syntax left) read = read ≡ None

abbrev pub Gives : {X Y : Type 0} → (X → Y) → Result X ParseFault → Option Y → Type 0
Gives view (Ok x) read = read ≡ Some (view x)
Gives view (Err e) read = Fails e read
