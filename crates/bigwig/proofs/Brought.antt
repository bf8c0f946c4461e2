-- What is found in a journal, and the world that its entries bring about.
use Rattle.std.proofs.Common.{◌≡◌, ◌+◌, ℕ, List, [], ◌++◌, length, Option, None, Some, IfSome, Result, Ok, Err, IfOk, IfErr}
use Rattle.std.proofs.Common.{refl, sym, ap, ◌∙◌, subst, inr, arith}
use Rattle.bw_format.specs.declared.format.Format.{Format}
use Rattle.bw_journal.specs.Heads.{head_of}
use Rattle.bw_journal.specs.Layout.{Entry}
use Rattle.bw_journal.specs.Reading.{IsCut}
use Rattle.bw_journal.specs.Starts.{FitsOrigin, Origin, head_from, sum_from}
use Rattle.bw_bringing.specs.Bringing.{Brings}
use Rattle.bw_recall.specs.Recalling.{Recalls, Stands}
use Rattle.bw_recall.specs.Starting.{IsRecalledFrom}
use Rattle.bw_recall.specs.Windows.{Hand}
use Rattle.bw_recall.specs.declared.recalling.Recalled.{Recalled}
use Rattle.bw_recall.specs.declared.recalling.Recalled.TheVariants as recalled
use Rattle.bw_recall.specs.declared.starting.Mark.{Mark}
use Rattle.bw_recall.proofs.Begun.{recalled_from}
use Rattle.bw_bringing.proofs.Bringing.{brings_keep_sound, brings_keep_within}
use Rattle.bw_lang.specs.declared.service.Service.{Service}
use Rattle.bw_lang.specs.declared.text.Memory.{Memory}
use Rattle.bw_model.specs.Sessions.{World, empty}
use Rattle.bw_out.specs.Told.{Disk, Finds}
use Rattle.bw_save.specs.Frozen.{loaded_of}
use Rattle.bw_save.proofs.Stood.{saved_stands}
use Rattle.bw_sound.specs.Worlds.{BeginsSound}
use Rattle.bw_world.specs.Seen.{Seen}
use Rattle.bw_world.specs.Stands.{StandsFor}
use Rattle.bw_questions.specs.Asked.{Ruled}
use Rattle.bw_questions.specs.Behind.{content_of}
use Rattle.bw_questions.specs.Checks.{IsRuled}
use Rattle.bw_questions.specs.declared.stop.Stop.{Stop}
use Rattle.bw_questions.specs.declared.stop.Stop.TheVariants as stop
use Rattle.bigwig.specs.Finding.{IsBegunIn, IsFoundIn, IsRefusal, IsRefusedBy, IsToldBy, recalled_of}
use Rattle.bigwig.specs.Fits.{IsFitStart, IsFitWorld}
use Rattle.bigwig.specs.Keeping.{BeginsAt, Brought, Refuses}
use Rattle.bigwig.specs.declared.bringing.Brought.{Brought as CodeBrought}
use Rattle.bigwig.specs.declared.bringing.Found.{Found}
use Rattle.bigwig.specs.declared.bringing.Found.TheVariants.{Nothing, Entries}
use Rattle.bigwig.proofs.Begun.{fit_empty}
use Rattle.bigwig.proofs.Opened.{bytes_told, empty_so}

-- ---- the entries

-- the entries were handled, and the world stands for the one that they bring about
brought_so : (ruled : Ruled) (formats : List Format) (text bytes tail : List ℕ) (before now : Seen) (origin : Origin) (entries : List Entry) (rest : List ℕ)
    (size sum len : ℕ) → IsRuled before.service formats ruled → FitsOrigin origin → BeginsAt ruled text origin (loaded_of before)
    → IsFitWorld ruled (loaded_of before) → bytes ≡ head_from text origin ++ tail
    → Stands formats before now (sum_from text origin) tail entries rest size sum → len ≡ length (head_from text origin) + size
    → (world : World) × Brought ruled text bytes entries rest len sum world × StandsFor now world × IsFitWorld ruled world
brought_so ruled formats text bytes tail before now origin entries rest size sum len is fits begins fit whole s long =
    let first = loaded_of before in
    let b = s.brought first (saved_stands before) in
    let brings : Brings ruled.formats ruled.service first entries b.0 =
    subst (λ f. Brings f ruled.service first entries b.0) (sym is.2) (subst (λ t. Brings formats t first entries b.0) (sym is.0) b.1) in (
      b.0,
      record {
        origin = origin;
        fits = fits;
        first = first;
        begins = begins;
        behind = tail;
        size = size;
        head = whole;
        splits = s.splits;
        ends = s.ends;
        len_is = long;
        brings = brings;
      },
      b.2,
      (
        brings_keep_sound ruled.formats ruled.service ruled.schema first b.0 entries is.1 brings fit.0,
        brings_keep_within ruled.formats ruled.service first b.0 entries brings fit.1,
      ),
    )

module _ (ruled : Ruled) (formats : List Format) (text bytes : List ℕ) (before now : Seen) (origin : Origin) (is : IsRuled before.service formats ruled)
    (fits : FitsOrigin origin) (begins : BeginsAt ruled text origin (loaded_of before)) (fit : IsFitWorld ruled (loaded_of before)) where
  abbrev From : Recalled → Type 0
  From why = IsRecalledFrom formats before now (record { text = text; origin = origin }) bytes why

  found_from : (found : Found) → From (recalled_of found) → IsFoundIn ruled text bytes now found
  found_from Nothing r = absurd r.recalled
  found_from (Entries len sum) r =
      let x = r.recalled in
      let b = brought_so ruled formats text bytes r.behind before now origin x.0 x.1 x.2 sum len is fits begins fit r.head x.3 x.5 in
      (b.0, (x.0, x.1, b.1, x.4), b.2, b.3)

  refused_from : (why : Recalled) → IsRefusal why → From why → Refuses ruled text bytes why
  refused_from (recalled.Damaged len) w r =
      let x = r.recalled in
      let b = brought_so ruled formats text bytes r.behind before now origin x.0 x.1 x.2 x.3 len is fits begins fit r.head x.4 x.6 in
      inr (inr (inr (x.0, x.1, x.3, b.0, b.1, x.5)))
  refused_from (recalled.Version n) w r = absurd r.recalled
  refused_from recalled.Other w r = absurd r.recalled
  refused_from recalled.New w r = absurd w
  refused_from (recalled.Done len sum) w r = absurd w
  refused_from recalled.ReadFault w r = absurd w
  refused_from recalled.Memory w r = absurd w

  stopped_from : (why : Recalled) (s : Stop) → IsToldBy why s → From why → IsRefusedBy ruled text bytes s
  stopped_from why (stop.Says refusal said) t r = (why, refused_from why t.0 r, t.1)
  stopped_from why stop.ReadFault t r = tt
  stopped_from why stop.Memory t r = tt

-- the entries behind the mark were handled
module _ (formats : List Format) (before now : Seen) (mark : Mark) (hand : Hand) (left : Option (List ℕ)) (why : Recalled)
    (r : Recalls formats before now mark.len mark.sum hand left why) (fit : IsFitStart formats before) where
  abbrev Begun : Ruled → (text bytes : List ℕ) → Type 0
  Begun ruled text bytes = IsBegunIn ruled text bytes before (Some mark) hand left

  recalled_so : (ruled : Ruled) (text bytes : List ℕ) (b : Begun ruled text bytes)
      → IsRecalledFrom formats before now (record { text = text; origin = b.0 }) bytes why
  recalled_so ruled text bytes b = recalled_from formats before now (record { text = text; origin = b.0 }) bytes hand left mark why b.3 r

  pub entries_found : (found : Found) → why ≡ recalled_of found → (ruled : Ruled) (text bytes : List ℕ) → IsRuled before.service formats ruled
      → Begun ruled text bytes → IsFoundIn ruled text bytes now found
  entries_found found same ruled text bytes is b =
      found_from ruled formats text bytes before now b.0 is b.1 b.2 (fit ruled is) found
      (subst (λ w. IsRecalledFrom formats before now (record { text = text; origin = b.0 }) bytes w) same (recalled_so ruled text bytes b))

  pub entries_refused : (s : Stop) → IsToldBy why s → (ruled : Ruled) (text bytes : List ℕ) → IsRuled before.service formats ruled
      → Begun ruled text bytes → IsRefusedBy ruled text bytes s
  entries_refused s told ruled text bytes is b =
      stopped_from ruled formats text bytes before now b.0 is b.1 b.2 (fit ruled is) why s told (recalled_so ruled text bytes b)

-- ---- the file

-- there is no file of the name
pub nothing_found : {File : Type 0} (left : File → Option (List ℕ)) (told : Option Disk) (name text : List ℕ) (next : Option File) (formats : List Format)
    (service : Service) (seen : Seen) (found : Found) → next ≡ None → Finds left told name next → StandsFor seen (empty seen.service)
    → seen.service ≡ service → IsFitStart formats seen → found ≡ Nothing
    → IfSome told (λ disk. (ruled : Ruled) → IsRuled service formats ruled → IsFoundIn ruled text (content_of (disk name)) seen found)
nothing_found left None name text next formats service seen found none f stands same fit is_nothing = tt
nothing_found left (Some disk) name text next formats service seen found none f stands same fit is_nothing = λ ruled is.
    let absent : disk name ≡ None = subst (λ x. Finds left (Some disk) name x) none f in
    let first = empty_so ruled service formats seen is same stands in
    subst (λ (x : Found). IsFoundIn ruled text (content_of (disk name)) seen x) (sym is_nothing)
    (subst (λ c. IsFoundIn ruled text c seen Nothing) (ap content_of (sym absent))
    (loaded_of seen, (no_bytes text, first), saved_stands seen, fit ruled (is.0 ∙ sym same, is.1, is.2)))
  where
    no_bytes : (text : List ℕ) → IsCut (head_of text) []
    no_bytes text = record { more = head_of text; some = omega arith; whole = refl }

-- there is one, and it was read
pub file_told : {File : Type 0} (left : File → Option (List ℕ)) (told : Option Disk) (name : List ℕ) (next : Option File) (file : File)
    (service : Service) (formats : List Format) (P : Ruled → List ℕ → Type 0) → next ≡ Some file → Finds left told name next
    → IfSome (left file) (λ bytes. (ruled : Ruled) → IsRuled service formats ruled → P ruled bytes)
    → IfSome told (λ disk. (ruled : Ruled) → IsRuled service formats ruled → P ruled (content_of (disk name)))
file_told left None name next file service formats P some f h = tt
file_told left (Some disk) name next file service formats P some f h = λ ruled is.
    let there = subst (λ x. Finds left (Some disk) name x) some f in
    let all = subst (λ o. IfSome o (λ bytes. (ruled : Ruled) → IsRuled service formats ruled → P ruled bytes)) there.2 h in
    subst (P ruled) (ap content_of (sym there.1)) (all ruled is)

-- the same of what the code made of it
pub nothing_brought : {File : Type 0} (left : File → Option (List ℕ)) (told : Option Disk) (name text : List ℕ) (next : Option File) (formats : List Format)
    (service : Service) (r : Result CodeBrought Stop) → next ≡ None → Finds left told name next
    → IfOk r (λ b. StandsFor b.server.world (empty b.server.world.service)) → IfOk r (λ b. BeginsSound b.server.world.service)
    → IfOk r (λ b. b.found ≡ Nothing) → IfOk r (λ b. b.server.world.service ≡ service)
    → IfOk r (λ b. IfSome told (λ disk. (ruled : Ruled) → IsRuled service formats ruled → IsFoundIn ruled text (content_of (disk name)) b.server.world b.found))
nothing_brought left told name text next formats service (Err s) none f stands sound found same = tt
nothing_brought left told name text next formats service (Ok b) none f stands sound found same =
    nothing_found left told name text next formats service b.server.world b.found none f stands same (fit_empty b.server.world formats stands sound) found

-- want of memory is no refusal
pub memory_refuses : (told : Option Disk) (name text : List ℕ) (formats : List Format) (service : Service) (r : Result CodeBrought Stop)
    → IfErr r (λ s. s ≡ stop.Memory)
    → IfErr r (λ s. IfSome told (λ disk. (ruled : Ruled) → IsRuled service formats ruled → IsRefusedBy ruled text (content_of (disk name)) s))
memory_refuses told name text formats service (Ok b) h = tt
memory_refuses None name text formats service (Err s) h = tt
memory_refuses (Some d) name text formats service (Err s) h = λ ruled is. subst (IsRefusedBy ruled text (content_of (d name))) (sym h) tt

-- the file was read
pub file_brought : {File : Type 0} (left : File → Option (List ℕ)) (told : Option Disk) (name text : List ℕ) (next : Option File) (file : File)
    (formats : List Format) (service : Service) (r : Result CodeBrought Stop) → next ≡ Some file → Finds left told name next
    → IfOk r (λ b. IfSome (left file) (λ bytes. (ruled : Ruled) → IsRuled service formats ruled → IsFoundIn ruled text bytes b.server.world b.found))
    → IfOk r (λ b. IfSome told (λ disk. (ruled : Ruled) → IsRuled service formats ruled → IsFoundIn ruled text (content_of (disk name)) b.server.world b.found))
file_brought left told name text next file formats service (Err s) some f h = tt
file_brought left told name text next file formats service (Ok b) some f h =
    file_told left told name next file service formats (λ ruled bytes. IsFoundIn ruled text bytes b.server.world b.found) some f h

pub file_refuses : {File : Type 0} (left : File → Option (List ℕ)) (told : Option Disk) (name text : List ℕ) (next : Option File) (file : File)
    (formats : List Format) (service : Service) (r : Result CodeBrought Stop) → next ≡ Some file → Finds left told name next
    → IfErr r (λ s. IfSome (left file) (λ bytes. (ruled : Ruled) → IsRuled service formats ruled → IsRefusedBy ruled text bytes s))
    → IfErr r (λ s. IfSome told (λ disk. (ruled : Ruled) → IsRuled service formats ruled → IsRefusedBy ruled text (content_of (disk name)) s))
file_refuses left told name text next file formats service (Ok b) some f h = tt
file_refuses left told name text next file formats service (Err s) some f h =
    file_told left told name next file service formats (λ ruled bytes. IsRefusedBy ruled text bytes s) some f h

-- there was no memory for the first bytes
pub memory_stops : (left : Option (List ℕ)) (service : Service) (formats : List Format) (text : List ℕ)
    → IfSome left (λ bytes. (ruled : Ruled) → IsRuled service formats ruled → IsRefusedBy ruled text bytes stop.Memory)
memory_stops None service formats text = tt
memory_stops (Some bytes) service formats text = λ ruled is. tt

-- where a journal begins was read, and this follows behind it
module _ (left : Option (List ℕ)) (service : Service) (formats kept : List Format) (text : List ℕ) (seen : Seen) (mark : Option Mark) (hand : Hand)
    (later : Option (List ℕ)) (same : seen.service ≡ service) (form : kept ≡ formats)
    (begins : IfSome left (λ bytes. (ruled : Ruled) → IsRuled service formats ruled → IsBegunIn ruled text bytes seen mark hand later)) where
  behind_begun : (o : Option Mark) (P : Ruled → List ℕ → Type 0) → mark ≡ o
      → ((ruled : Ruled) (bytes : List ℕ) → IsRuled seen.service kept ruled → IsBegunIn ruled text bytes seen o hand later → P ruled bytes)
      → IfSome left (λ bytes. (ruled : Ruled) → IsRuled service formats ruled → P ruled bytes)
  behind_begun o P at h =
      bytes_told left P (λ bytes. (ruled : Ruled) → IsRuled service formats ruled → IsBegunIn ruled text bytes seen mark hand later) service formats begins
      (λ ruled bytes is b.
      h ruled bytes (is.0 ∙ sym same, is.1, is.2 ∙ sym form)
      (subst (λ (m : Option Mark). IsBegunIn ruled text bytes seen m hand later) at (b ruled is)))

  -- nothing was kept yet
  pub none_brought : mark ≡ None → IsFitStart kept seen
      → IfSome left (λ bytes. (ruled : Ruled) → IsRuled service formats ruled → IsFoundIn ruled text bytes seen Nothing)
  none_brought none fit =
      behind_begun None (λ ruled bytes. IsFoundIn ruled text bytes seen Nothing) none
      (λ ruled bytes is b. (loaded_of seen, b, saved_stands seen, fit ruled is))

  -- the entries were handled, or not
  pub entries_brought : (m : Mark) (r : Result CodeBrought Stop) → mark ≡ Some m
      → IfOk r (λ b. (ruled : Ruled) (words bytes : List ℕ) → IsRuled seen.service kept ruled → IsBegunIn ruled words bytes seen (Some m) hand later
      → IsFoundIn ruled words bytes b.server.world b.found)
      → IfOk r (λ b. IfSome left (λ bytes. (ruled : Ruled) → IsRuled service formats ruled → IsFoundIn ruled text bytes b.server.world b.found))
  entries_brought m (Ok b) at h =
      behind_begun (Some m) (λ ruled bytes. IsFoundIn ruled text bytes b.server.world b.found) at (λ ruled bytes is begun. h ruled text bytes is begun)
  entries_brought m (Err s) at h = tt

  pub entries_stop : (m : Mark) (r : Result CodeBrought Stop) → mark ≡ Some m
      → IfErr r (λ s. (ruled : Ruled) (words bytes : List ℕ) → IsRuled seen.service kept ruled → IsBegunIn ruled words bytes seen (Some m) hand later
      → IsRefusedBy ruled words bytes s)
      → IfErr r (λ s. IfSome left (λ bytes. (ruled : Ruled) → IsRuled service formats ruled → IsRefusedBy ruled text bytes s))
  entries_stop m (Ok b) at h = tt
  entries_stop m (Err s) at h =
      behind_begun (Some m) (λ ruled bytes. IsRefusedBy ruled text bytes s) at (λ ruled bytes is begun. h ruled text bytes is begun)
