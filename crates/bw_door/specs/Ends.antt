-- What is known of a link that is handed out, and how it ends.
use Rattle.std.specs.Prelude.{◌≡◌, ℕ, ◌+◌, nat_lt, List, [], false, if◌then◌else◌, None, Some}
use Rattle.std.specs.declared.option.Option.{Option}
use Rattle.std.specs.declared.io.ErrorKind.{ErrorKind}
use Rattle.bw_door.specs.declared.link.PortLink.{PortLink}
use Rattle.bw_door.specs.declared.door.End.{End}
use Rattle.bw_door.specs.declared.door.End.TheVariants.{Closed, Replied}

-- Nothing of what was read of its client was handed on, and nothing was written. What was read is enough, or its client
-- has ended.
pub record IsHandedOut {S : Type 0} (settled : List ℕ → Type 0) (link : PortLink S) : Type 0 where
  pub at : link.at ≡ 0
  pub nothing : link.outbox.items ≡ []
  pub enough : link.ended ≡ false → ∥ settled link.inbox.items ∥₁
  pub reads : link.read_faults ≡ 0
  pub writes : link.write_faults ≡ 0

-- no call of the link has failed
abbrev pub HadNoFault : {S : Type 0} → PortLink S → Type 0
HadNoFault link = nat_lt 0 (link.read_faults + link.write_faults) ≡ false

-- a link of which a call failed is closed at once, and of each other one the reply is sent
abbrev pub end_of : {S : Type 0} → PortLink S → End
end_of link = if nat_lt 0 (link.read_faults + link.write_faults) then Closed else Replied

-- Why no link could be had: the system refused 101 times in a row, the last time for this reason, or no port is listened on.
abbrev pub HasReason : {P : Type 0} → Option P → ℕ → Option ErrorKind → Type 0
HasReason port refusals (Some kind) = refusals ≡ 101
HasReason port refusals None = port ≡ None
