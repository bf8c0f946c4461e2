-- The head of a journal.
use Rattle.std.specs.Prelude.{ℕ, ◌≡◌, ◌≢◌, ◌<◌, ◌≤◌, ◌+◌, ◌^◌, List, [], ◌∷◌, ◌++◌, length, codes}
use Rattle.bw_journal.specs.Layout.{four, sum_of}
use Rattle.bw_journal.specs.Reading.{IsCut}
use Rattle.bw_journal.specs.declared.heads.Head.{Head}
use Rattle.bw_journal.specs.declared.heads.Head.TheVariants.{Begun, Whole, Saved, Version, Other, Damaged}

-- what each journal begins with
abbrev pub name_bytes : List ℕ
name_bytes = codes "BWJOURNAL"

-- the version 1 and the end of its line
abbrev pub version_bytes : List ℕ
version_bytes = 49 ∷ (10 ∷ [])

-- a service's file behind its length, and a byte that says where the journal begins
abbrev pub text_bytes : ℕ → List ℕ → List ℕ
text_bytes origin text = four (length text) ++ (text ++ (origin ∷ []))

-- what stands in front of where a journal begins: the service whose file this is, and that byte
abbrev pub front_of : ℕ → List ℕ → List ℕ
front_of origin text = name_bytes ++ (version_bytes ++ text_bytes origin text)

-- the head of a journal of the service that begins at the world in which nothing was requested yet
abbrev pub head_of : List ℕ → List ℕ
head_of text = front_of 0 text

-- what stands in front of the saved world that a journal of the service begins at
abbrev pub saved_front : List ℕ → List ℕ
saved_front text = front_of 1 text

-- the check behind the head
abbrev pub start_sum : List ℕ → ℕ
start_sum text = sum_of 0 (head_of text)

-- a service's file whose length has four bytes
abbrev pub IsNamed : List ℕ → Type 0
IsNamed text = length text < 2 ^ 32

-- the bytes begin with the head of some service, or with what stands there in front of a saved world
pub record BeginsHead (bytes : List ℕ) : Type 0 where
  pub text : List ℕ
  pub origin : ℕ
  pub rest : List ℕ
  pub named : IsNamed text
  pub known : origin ≤ 1
  pub parts : bytes ≡ front_of origin text ++ rest

-- they begin with the head of no service, and are no first part of this one's
pub record HasNone (text bytes : List ℕ) : Type 0 where
  pub none : BeginsHead bytes → ⊥
  pub not_cut : IsCut (head_of text) bytes → ⊥

-- they begin with the head of another service
pub record HasOther (text bytes : List ℕ) : Type 0 where
  pub begins : BeginsHead bytes
  pub differs : begins.text ≢ text

-- they begin as a journal of another version, from 2 to 9
pub record HasVersion (bytes : List ℕ) (version : ℕ) : Type 0 where
  pub rest : List ℕ
  pub parts : bytes ≡ name_bytes ++ ((48 + version) ∷ rest)
  pub low : 2 ≤ version
  pub high : version ≤ 9

-- what the bytes begin with, as a journal of the service whose file this is
abbrev pub IsHead : List ℕ → List ℕ → Head → Type 0
IsHead text bytes Begun = IsCut (head_of text) bytes
IsHead text bytes (Whole rest) = bytes ≡ head_of text ++ rest.now
IsHead text bytes (Saved rest) = bytes ≡ saved_front text ++ rest.now
IsHead text bytes (Version n) = HasVersion bytes n
IsHead text bytes Other = HasOther text bytes
IsHead text bytes Damaged = HasNone text bytes

-- what they begin with, whatever the service
abbrev pub IsForeign : List ℕ → Head → Type 0
IsForeign bytes Begun = ⊥
IsForeign bytes (Whole rest) = ⊥
IsForeign bytes (Saved rest) = ⊥
IsForeign bytes (Version n) = HasVersion bytes n
IsForeign bytes Other = BeginsHead bytes
IsForeign bytes Damaged = BeginsHead bytes → ⊥

-- ---- the same behind the name

-- the bytes begin with those of some service's file and with a byte that says where its journal begins
pub record BeginsText (bytes : List ℕ) : Type 0 where
  pub text : List ℕ
  pub origin : ℕ
  pub rest : List ℕ
  pub named : IsNamed text
  pub known : origin ≤ 1
  pub parts : bytes ≡ text_bytes origin text ++ rest

-- they begin with the digit of a version from 2 to 9
pub record BeginsVersion (bytes : List ℕ) (version : ℕ) : Type 0 where
  pub rest : List ℕ
  pub parts : bytes ≡ (48 + version) ∷ rest
  pub low : 2 ≤ version
  pub high : version ≤ 9

-- the bytes begin with this version and with those of some service's file
pub record BeginsVersioned (bytes : List ℕ) : Type 0 where
  pub rest : List ℕ
  pub parts : bytes ≡ version_bytes ++ rest
  pub text : BeginsText rest

-- what they begin with, whatever the service
abbrev pub IsVersioned : List ℕ → Head → Type 0
IsVersioned bytes Begun = ⊥
IsVersioned bytes (Whole rest) = ⊥
IsVersioned bytes (Saved rest) = ⊥
IsVersioned bytes (Version n) = BeginsVersion bytes n
IsVersioned bytes Other = BeginsVersioned bytes
IsVersioned bytes Damaged = BeginsVersioned bytes → ⊥
