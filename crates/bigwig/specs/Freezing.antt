-- What comes of saving what waits behind a stream of requests.
use Rattle.std.specs.Prelude.{◌≡◌, ◌<◌, ℕ, zero, suc, List, ◌++◌, Option, None, Some, true, codes, decimal}
use Rattle.bw_save.specs.Filled.{is_all_filled}
use Rattle.bw_save.specs.Freezes.{MayBeFrozen}
use Rattle.bw_save.specs.Frozen.{saved_of}
use Rattle.bw_lang.specs.declared.service.Service.{Service}
use Rattle.bw_model.specs.Sessions.{World}
use Rattle.bw_out.specs.Told.{Coming}
use Rattle.bw_save.specs.Saves.{told}
use Rattle.bw_saved.specs.declared.limits.TheConstants.{MAX_SAVED_WEIGHT}
use Rattle.bw_flow.specs.Layout.{flow_of}
use Rattle.bw_saved.specs.Sessions.Layout.{file}
use Rattle.bw_saved.specs.Sessions.Weights.{total_weight}
use Rattle.bw_world.specs.Seen.{Seen}
use Rattle.bw_world.specs.Stands.{StandsFor}
use Rattle.bw_world.specs.declared.ends.StreamEnd.{StreamEnd}
use Rattle.bw_world.specs.declared.ends.StreamEnd.TheVariants as ends
use Rattle.bw_questions.specs.Asked.{Ruled}
use Rattle.bw_questions.specs.Questions.{line}
use Rattle.bw_world.specs.Streams.Courses.{Between}
use Rattle.bigwig.specs.Works.{IsStreamed, Outside}
use Rattle.bw_questions.specs.Reports.{Prints}
use Rattle.bw_command.specs.declared.status.Status.{Status}
use Rattle.bw_command.specs.declared.status.Status.TheVariants.{Done, SaveRefused, ReadFault, Memory}

-- what is printed where all values weigh so much, which is too much
abbrev pub save_line : ℕ → List ℕ
save_line weight = codes "save too long " ++ decimal weight

-- the file of what waits in a world, for its service with this text
abbrev pub file_of : List ℕ → Seen → List ℕ
file_of text seen = file (flow_of seen.service) text (saved_of seen)

-- What is printed of a world is its file; or that it is too much, exactly where each plug of its documents filled a gap and all
-- values weigh more than may be saved; or nothing, where there was no memory. It ends so as well where a plug filled nothing: the
-- meaning of a turn of an accepted service has no such plug, but a world's type doesn't say so of the documents that it holds.
pub data IsFrozen (text : List ℕ) (seen : Seen) (held now : Option (List ℕ)) (status : Status) : Type 0 where
  saved : MayBeFrozen seen.service (saved_of seen) → Prints (record { status = Done; text = file_of text seen }) held now status
      → IsFrozen text seen held now status
  too_long : is_all_filled seen.service (saved_of seen) ≡ true → MAX_SAVED_WEIGHT < total_weight (saved_of seen)
      → Prints (record { status = SaveRefused; text = line (save_line (told (total_weight (saved_of seen)))) }) held now status
      → IsFrozen text seen held now status
  no_memory : status ≡ Memory → now ≡ held → IsFrozen text seen held now status

-- By the end of the stream before it: nothing is saved where a request wanted memory, or a read failed.
abbrev pub FreezesAt : List ℕ → Seen → StreamEnd → Option (List ℕ) → Option (List ℕ) → Status → Type 0
FreezesAt text seen (ends.Ended zero) held now status = IsFrozen text seen held now status
FreezesAt text seen (ends.Ended (suc count)) held now status = (status ≡ Memory) × (now ≡ held)
FreezesAt text seen ends.ReadFault held now status = (status ≡ ReadFault) × (now ≡ held)
FreezesAt text seen ends.WriteFault held now status = ⊥

-- The requests of a file were answered from this world on, and their replies let go. What is saved is a world of the code that
-- stands for the one that these requests leave: it has the same shared variables and numbers, and each of its live sessions, in
-- order, waits where that session has come to.
pub record IsFreezing (ruled : Ruled) (from : World) (text stream : List ℕ) (most : ℕ) (before after : Outside) (status : Status) : Type 0 where
  pub seen : Seen
  pub service : seen.service ≡ ruled.service
  pub end : StreamEnd
  pub freezes : FreezesAt text seen end before.printed after.printed status
  pub streamed : (keys : Coming) → before.keys ≡ Some keys → (to : Between) × (after.keys ≡ Some to.keys) × (after.steps ≡ to.steps)
      × StandsFor seen to.world
      × IsStreamed most ruled (record { world = from; keys = keys; steps = before.steps }) stream to None None after.unread end
  pub kept : (after.asked ≡ before.asked) × (after.coming ≡ before.coming) × (after.returned ≡ before.returned)
