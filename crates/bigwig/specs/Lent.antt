-- What the program is lent: what is seen of it, and what its faults show there.
use Rattle.std.specs.Prelude.{◌≡◌, ℕ}
use Rattle.bw_out.specs.Causes.{Rose, Shows}
use Rattle.bw_out.specs.declared.outside.Channel as channel
use Rattle.bw_out.specs.declared.outside.Door as door
use Rattle.bw_out.specs.declared.outside.Files as files
use Rattle.bw_out.specs.declared.outside.Keys as keys
use Rattle.bw_stable.specs.declared.outside.Journals as journals
use Rattle.bigwig.specs.Works.{Outside}
use Rattle.bigwig.specs.declared.lent.Lent.{Lent}
use Rattle.bw_command.specs.declared.status.Status.{Status}
use Rattle.bw_command.specs.declared.status.Status.TheVariants.{ReadFault, WriteFault, DoorFault, JournalFault}

-- the same things are lent
abbrev pub AreSame : {F J D K W S : Type 0} → Lent F J D K W S → Lent F J D K W S → Type 0
AreSame before now =
    (now.files.ghost_name ≡ before.files.ghost_name) × (now.journals.ghost_name ≡ before.journals.ghost_name) × (now.door.ghost_name ≡ before.door.ghost_name)
    × (now.keys.ghost_name ≡ before.keys.ghost_name) × (now.out.ghost_name ≡ before.out.ghost_name) × (now.steps.ghost_name ≡ before.steps.ghost_name)

-- what is seen of the outside where these are lent
abbrev pub seen_of : {F I J O D N K W : Type 0} → files.Ghosts F I → journals.Ghosts J O → door.Ghosts D N → keys.Ghosts K → channel.Ghosts W
    → Lent F J D K W ℕ → Outside
seen_of folder shelf gate draws sink lent = record {
  printed = sink.held lent.out.now;
  keys = draws.coming lent.keys.now;
  asked = gate.asked lent.door.now;
  coming = gate.coming lent.door.now;
  returned = gate.returned lent.door.now;
  unread = folder.unread lent.files.now;
  steps = lent.steps.now;
  deeds = shelf.deeds lent.journals.now;
}

-- how many calls failed: of the files, of the output, of the door and of the journals
pub record Faults : Type 0 where
  pub reads : ℕ
  pub writes : ℕ
  pub links : ℕ
  pub kept : ℕ

abbrev pub faults_of : {F I J O D N K W S : Type 0} → files.Ghosts F I → journals.Ghosts J O → door.Ghosts D N → channel.Ghosts W → Lent F J D K W S
    → Faults
faults_of folder shelf gate sink lent = record {
  reads = folder.faults lent.files.now;
  writes = sink.write_faults lent.out.now;
  links = gate.faults lent.door.now;
  kept = shelf.faults lent.journals.now;
}

-- The journal's fault comes only where its count rose; elsewhere the count stands, unless the line that tells of the fault
-- couldn't be written.
pub record ShowsJournal (status : Status) (before now : ℕ) : Type 0 where
  pub only : status ≡ JournalFault → Rose before now
  pub other : (status ≡ JournalFault → ⊥) → (status ≡ WriteFault → ⊥) → now ≡ before

-- each fault comes exactly where its count rose
pub record HasCauses (status : Status) (before now : Faults) : Type 0 where
  pub read : Shows (status ≡ ReadFault) before.reads now.reads
  pub write : Shows (status ≡ WriteFault) before.writes now.writes
  pub door : Shows (status ≡ DoorFault) before.links now.links
  pub journal : ShowsJournal status before.kept now.kept
