-- Laws of files of saved sessions.
use Rattle.std.specs.Prelude.{◌≡◌, ◌<◌, ◌≤◌, ◌^◌, ℕ, List, length, Ok}
use Rattle.bw_flow.specs.Layout.{plan_of, flow_of}
use Rattle.bw_lang.specs.declared.limits.TheConstants.{MAX_FILE_BYTES}
use Rattle.bw_lang.specs.declared.service.Service.{Service}
use Rattle.bw_saved.specs.declared.limits.TheConstants.{MAX_SAVED_BYTES, MAX_SAVED_WEIGHT}
use Rattle.bw_saved.specs.declared.saved.Saved.{Saved}
use Rattle.bw_saved.specs.Codec.{IsBytes}
use Rattle.bw_saved.specs.Documents.Demands.{IsSmall}
use Rattle.bw_saved.specs.Files.{decided}
use Rattle.bw_saved.specs.Sessions.Demands.{IsSaved}
use Rattle.bw_saved.specs.Sessions.Layout.{file}
use Rattle.bw_saved.specs.Sessions.Weights.{total_weight}

-- the bytes are the file of s, which may be saved
pub record IsFile (service : Service) (text bytes : List ℕ) (s : Saved) : Type 0 where
  pub short : length bytes ≤ MAX_SAVED_BYTES
  pub is : bytes ≡ file (flow_of service) text s
  pub saved : IsSaved service s

-- what is read of bytes, they are the file of
abbrev pub ReadsFiles : Type 0
ReadsFiles =
    (service : Service) → IsSmall service → (text bytes : List ℕ) (s : Saved) → IsBytes bytes → decided service (plan_of service) text bytes ≡ Ok s →
    IsFile service text bytes s

-- and the file of what may be saved is read as that, unless it is too long
abbrev pub FilesAreRead : Type 0
FilesAreRead =
    (service : Service) → IsSmall service → (text : List ℕ) (s : Saved) → IsSaved service s → length text < 2 ^ 32 →
    length (file (flow_of service) text s) ≤ MAX_SAVED_BYTES → decided service (plan_of service) text (file (flow_of service) text s) ≡ Ok s

-- which it isn't where the values weigh no more than may be saved
abbrev pub FilesAreShort : Type 0
FilesAreShort =
    (service : Service) (text : List ℕ) (s : Saved) → IsSaved service s → length text ≤ MAX_FILE_BYTES → total_weight s ≤ MAX_SAVED_WEIGHT →
    length (file (flow_of service) text s) ≤ MAX_SAVED_BYTES
