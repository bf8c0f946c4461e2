-- What is done to a journal, and what a crash may leave of it.
use Rattle.std.specs.Prelude.{ℕ, ◌≡◌, ◌≤◌, ◌⊎◌, List, [], ◌∷◌, ◌++◌, Bool, true, false, None, Some, take}
use Rattle.std.specs.declared.option.Option.{Option}
use Rattle.bw_out.specs.Doors.{Returned}

-- A step on the way to a new file in a journal's place. A file beside it was made anew, with these bytes; all of that file is on the
-- disk; it has the journal's name now, and the file that had it has none; the names are on the disk.
pub data Move : Type 0 where
  wrote : (bytes : List ℕ) → Move
  settled : Move
  renamed : Move
  named : Move

-- the file was cut behind so many bytes; or bytes were put behind it and kept, when the door had given back these links
-- and these bytes were written on a channel, where told; or there was a step on the way to a new file in its place
pub data Deed : Type 0 where
  cut : (len : ℕ) → Deed
  kept : (bytes : List ℕ) (returned : Option (List Returned)) (held : Option (List ℕ)) → Deed
  moved : (move : Move) → Deed

-- this was done after what was done before, where told; what isn't told stays so
abbrev pub Does : Option (List Deed) → Option (List Deed) → Deed → Type 0
Does None new deed = new ≡ None
Does (Some deeds) new deed = new ≡ Some (deeds ++ deed ∷ [])

-- the same of some deeds, one after another
abbrev pub DoesAll : Option (List Deed) → Option (List Deed) → List Deed → Type 0
DoesAll None new more = new ≡ None
DoesAll (Some deeds) new more = new ≡ Some (deeds ++ more)

-- these were begun: the first of them were done, none or all among them
abbrev pub DoesFirst : Option (List Deed) → Option (List Deed) → List Deed → Type 0
DoesFirst None new more = new ≡ None
DoesFirst (Some deeds) new more = (first : List Deed) × (rest : List Deed) × (first ++ rest ≡ more) × (new ≡ Some (deeds ++ first))

-- ---- files

-- the bytes of a file, and whether all of them are on the disk
pub record Content : Type 0 where
  pub bytes : List ℕ
  pub sure : Bool

-- What a folder has of a journal: the file of its name; the file that had this name before, where the disk may have it so still; and
-- the file beside it, if there is one.
pub record Folder : Type 0 where
  pub file : Content
  pub older : Option Content
  pub beside : Option Content

-- a file that is on the disk, and nothing else
abbrev pub alone : List ℕ → Folder
alone bytes = record { file = record { bytes = bytes; sure = true }; older = None; beside = None }

-- all of the file beside is on the disk
abbrev pub with_beside_sure : Option Content → Option Content
with_beside_sure None = None
with_beside_sure (Some c) = Some (record c { sure = true })

-- the file beside takes the name, if there is one
abbrev pub with_name_taken : Option Content → Folder → Folder
with_name_taken None folder = folder
with_name_taken (Some c) folder = record { file = c; older = Some folder.file; beside = None }

-- what a step makes of a folder
abbrev pub after_move : Move → Folder → Folder
after_move (wrote bytes) folder = record folder { beside = Some (record { bytes = bytes; sure = false }) }
after_move settled folder = record folder { beside = with_beside_sure folder.beside }
after_move renamed folder = with_name_taken folder.beside folder
after_move named folder = record folder { older = None }

-- what a deed makes of it
abbrev pub after_deed : Deed → Folder → Folder
after_deed (cut len) folder = record folder { file = record { bytes = take len folder.file.bytes; sure = true } }
after_deed (kept bytes returned held) folder = record folder { file = record { bytes = folder.file.bytes ++ bytes; sure = true } }
after_deed (moved move) folder = after_move move folder

-- what deeds make of it, one after another
abbrev pub after_deeds : List Deed → Folder → Folder
after_deeds [] folder = folder
after_deeds (deed ∷ deeds) folder = after_deeds deeds (after_deed deed folder)

-- ---- crashes

-- a crash leaves this of a file: all of it where all is on the disk, and elsewhere some first part
abbrev pub MayKeep : List ℕ → Bool → List ℕ → Type 0
MayKeep bytes true left = left ≡ bytes
MayKeep bytes false left = (front : List ℕ) × (rest : List ℕ) × (front ++ rest ≡ bytes) × (left ≡ front)

-- and this of a file, or of the one that had its name before
abbrev pub MayFind : Content → Option Content → List ℕ → Type 0
MayFind file None left = MayKeep file.bytes file.sure left
MayFind file (Some older) left = MayKeep older.bytes older.sure left ⊎ MayKeep file.bytes file.sure left

-- and of a folder
abbrev pub MayRest : Folder → List ℕ → Type 0
MayRest folder left = MayFind folder.file folder.older left

-- a crash leaves this of a folder while these deeds are to be done: nothing, all or a part of the first of them is there
abbrev pub MayStop : List Deed → Folder → List ℕ → Type 0
MayStop [] folder left = MayRest folder left
MayStop (cut len ∷ deeds) folder left =
    (n : ℕ) × (len ≤ n) × MayFind (record { bytes = take n folder.file.bytes; sure = folder.file.sure }) folder.older left
MayStop (kept bytes returned held ∷ deeds) folder left =
    (front : List ℕ) × (rest : List ℕ) × (front ++ rest ≡ bytes)
    × MayFind (record { bytes = folder.file.bytes ++ front; sure = folder.file.sure }) folder.older left
MayStop (moved move ∷ deeds) folder left = MayRest folder left ⊎ MayRest (after_move move folder) left

-- a crash in the course of deeds leaves this of a file: the first deeds were done, and the others were to be
pub record MayLeave (deeds : List Deed) (start left : List ℕ) : Type 0 where
  pub done : List Deed
  pub undone : List Deed
  pub all : done ++ undone ≡ deeds
  pub stops : MayStop undone (after_deeds done (alone start)) left
