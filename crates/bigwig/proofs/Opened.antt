-- Where a journal begins, and the world there.
use Rattle.std.proofs.Common.{Vec, Global, ◌≡◌, ◌≢◌, ◌<◌, ◌^◌, ℕ, List, ◌++◌, length, Option, None, Some, IfSome, Result, Ok, Err, IfOk, IfErr, IsErrOf}
use Rattle.std.proofs.Common.{refl, sym, ap, ◌∙◌, subst, inl, inr, arith}
use Rattle.bw_format.specs.declared.format.Format.{Format}
use Rattle.bw_journal.specs.Heads.{saved_front}
use Rattle.bw_journal.specs.Starts.{nothing, saved}
use Rattle.bw_recall.specs.Starting.{IsStarted}
use Rattle.bw_recall.specs.Windows.{Hand}
use Rattle.bw_recall.specs.declared.recalling.Recalled.{Recalled}
use Rattle.bw_recall.specs.declared.recalling.Recalled.TheVariants as recalled
use Rattle.bw_recall.specs.declared.starting.Mark.{Mark}
use Rattle.bw_recall.specs.declared.starting.Started.{Started}
use Rattle.bw_recall.specs.declared.starting.Started.TheVariants as started
use Rattle.bw_lang.specs.declared.service.Service.{Service}
use Rattle.bw_model.specs.Sessions.{empty}
use Rattle.bw_out.specs.Causes.{Rose}
use Rattle.bw_out.specs.Sends.{Takes}
use Rattle.bw_out.specs.declared.outside.Channel.{Ghosts}
use Rattle.bw_save.specs.Frozen.{loaded_of}
use Rattle.bw_sound.specs.Worlds.{BeginsSound}
use Rattle.bw_world.specs.Seen.{Seen}
use Rattle.bw_world.specs.Stands.{StandsFor}
use Rattle.bw_questions.specs.Asked.{Ruled}
use Rattle.bw_questions.specs.Checks.{IsRuled}
use Rattle.bw_questions.specs.Questions.{IsStop}
use Rattle.bw_questions.specs.declared.stop.Stop.{Stop}
use Rattle.bw_questions.specs.declared.stop.Stop.TheVariants as stop
use Rattle.bigwig.specs.Finding.{IsBegunIn, IsRefusal, IsRefusedBy, IsToldBy}
use Rattle.bigwig.specs.Fits.{IsFitStart}
use Rattle.bigwig.specs.Loading.{loads}
use Rattle.bigwig.specs.declared.origins.BegunServer.{BegunServer}
use Rattle.bigwig.proofs.Begun.{empty_start, fit_empty}

-- the world in which nothing was requested yet
pub empty_so : (ruled : Ruled) (service : Service) (formats : List Format) (seen : Seen) → IsRuled service formats ruled → seen.service ≡ service
    → StandsFor seen (empty seen.service) → loaded_of seen ≡ empty ruled.service
empty_so ruled service formats seen is same stands = empty_start seen stands ∙ ap empty (same ∙ sym is.0)

-- what the code makes of where a journal begins, by what was read
abbrev pub BeginsSo : Service → List Format → List ℕ → Started → BegunServer → Type 0
BeginsSo service formats text how b =
    (ruled : Ruled) (bytes : List ℕ) (hand : Hand) (later : Option (List ℕ)) → IsRuled service formats ruled → IsStarted text bytes hand later how
    → IsBegunIn ruled text bytes b.server.world b.mark hand later

-- and why it stops
abbrev pub StopsSo : Service → List Format → List ℕ → Started → Stop → Type 0
StopsSo service formats text how s =
    (ruled : Ruled) (bytes : List ℕ) (hand : Hand) (later : Option (List ℕ)) → IsRuled service formats ruled → IsStarted text bytes hand later how
    → IsRefusedBy ruled text bytes s

-- ---- at the world in which nothing was requested yet

-- nothing was kept yet, or the entries stand behind the mark
module _ (service : Service) (formats : List Format) (text : List ℕ) (how : Started) where
  new_so : (b : BegunServer) → how ≡ started.New → b.server.world.service ≡ service → StandsFor b.server.world (empty b.server.world.service)
      → b.mark ≡ None → BeginsSo service formats text how b
  new_so b new same stands none ruled bytes hand later is st =
      subst (λ (m : Option Mark). IsBegunIn ruled text bytes b.server.world m hand later) (sym none)
      (subst (IsStarted text bytes hand later) new st, empty_so ruled service formats b.server.world is same stands)

  marked_so : (mark : Mark) (b : BegunServer) → how ≡ started.Empty mark → b.server.world.service ≡ service
      → StandsFor b.server.world (empty b.server.world.service) → b.mark ≡ Some mark → BeginsSo service formats text how b
  marked_so mark b old same stands at ruled bytes hand later is st =
      subst (λ (m : Option Mark). IsBegunIn ruled text bytes b.server.world m hand later) (sym at)
      (nothing, tt, empty_so ruled service formats b.server.world is same stands, subst (IsStarted text bytes hand later) old st)

  pub begins_new : (r : Result BegunServer Stop) → how ≡ started.New → IfOk r (λ b. b.server.world.service ≡ service)
      → IfOk r (λ b. StandsFor b.server.world (empty b.server.world.service)) → IfOk r (λ b. b.mark ≡ None)
      → IfOk r (BeginsSo service formats text how)
  begins_new (Ok b) new same stands none = new_so b new same stands none
  begins_new (Err s) new same stands none = tt

  pub begins_empty : (mark : Mark) (r : Result BegunServer Stop) → how ≡ started.Empty mark → IfOk r (λ b. b.server.world.service ≡ service)
      → IfOk r (λ b. StandsFor b.server.world (empty b.server.world.service)) → IfOk r (λ b. b.mark ≡ Some mark)
      → IfOk r (BeginsSo service formats text how)
  begins_empty mark (Ok b) old same stands at = marked_so mark b old same stands at
  begins_empty mark (Err s) old same stands at = tt

  -- there was no memory for it
  pub empty_stops : (r : Result BegunServer Stop) → IfErr r (λ s. s ≡ stop.Memory) → IfErr r (StopsSo service formats text how)
  empty_stops (Ok b) memory = tt
  empty_stops (Err s) memory = λ ruled bytes hand later is st. subst (IsRefusedBy ruled text bytes) (sym memory) tt

pub fit_begun : (r : Result BegunServer Stop) → IfOk r (λ b. StandsFor b.server.world (empty b.server.world.service))
    → IfOk r (λ b. BeginsSound b.server.world.service) → IfOk r (λ b. IsFitStart b.server.formats b.server.world)
fit_begun (Ok b) stands sound = fit_empty b.server.world b.server.formats stands sound
fit_begun (Err s) stands sound = tt

-- the mark is no further behind than a head may be
nearer : (mark : Option Mark) → IfSome mark (λ m. m.len < 2 ^ 33) → IfSome mark (λ m. m.len < 2 ^ 34)
nearer None near = tt
nearer (Some m) near = omega (arith, near)

pub near_begun : (mark : Option Mark) (r : Result BegunServer Stop) → IfSome mark (λ m. m.len < 2 ^ 33) → IfOk r (λ b. b.mark ≡ mark)
    → IfOk r (λ b. IfSome b.mark (λ m. m.len < 2 ^ 34))
near_begun mark (Ok b) near same = subst (λ (m : Option Mark). IfSome m (λ x. x.len < 2 ^ 34)) (sym same) (nearer mark near)
near_begun mark (Err s) near same = tt

-- there was no memory
pub empty_reads : {A : Type 0} (r : Result BegunServer Stop) → IfErr r (λ s. s ≡ stop.Memory) → IsErrOf r stop.ReadFault → A
empty_reads (Ok b) memory e = absurd cc
empty_reads (Err s) memory e = absurd (let f : s ≡ stop.ReadFault = cc in let g : stop.Memory ≡ stop.ReadFault = sym memory ∙ f in cc)

-- ---- at saved bytes

-- they give a world
pub saved_begun : (service : Service) (formats : List Format) (text : List ℕ) (how : Started) (world : Vec ℕ Global) (given : List ℕ) (mark : Mark)
    (seen : Seen) → how ≡ started.Saved world mark → given ≡ world.items
    → ((ruled : Ruled) → IsRuled service formats ruled → (loads ruled.service text given).gives (loaded_of seen))
    → (ruled : Ruled) (bytes : List ℕ) (hand : Hand) (later : Option (List ℕ)) → IsRuled service formats ruled
    → IsStarted text bytes hand later how → IsBegunIn ruled text bytes seen (Some mark) hand later
saved_begun service formats text how world given mark seen old same gives ruled bytes hand later is st =
    let at : IsStarted text bytes hand later (started.Saved world mark) = subst (IsStarted text bytes hand later) old st in (
      saved world.items,
      at.fits.origin,
      subst (λ (b : List ℕ). (loads ruled.service text b).gives (loaded_of seen)) same (gives ruled is),
      at,
    )

-- these aren't loaded
refused_saved : (ruled : Ruled) (text bytes : List ℕ) (hand : Hand) (later : Option (List ℕ)) (world : Vec ℕ Global) (mark : Mark) (why said : Stop)
    → IsStop (loads ruled.service text world.items) why → why ≢ stop.ReadFault → (why ≡ stop.Memory → said ≡ stop.Memory)
    → IsToldBy (recalled.Damaged (length (saved_front text))) said → IsStarted text bytes hand later (started.Saved world mark)
    → IsRefusedBy ruled text bytes said
refused_saved ruled text bytes hand later world mark (stop.Says refusal t) (stop.Says other line) says some memory told st = (
  recalled.Damaged (length (saved_front text)),
  inr (inr (inl (record {
    world = world.items;
    fits = st.fits.origin;
    behind = hand.bytes ++ st.rest;
    head = st.parts;
    len_is = refl;
    said = _;
    refused = says;
  }))),
  told.1,
)
refused_saved ruled text bytes hand later world mark (stop.Says refusal t) stop.ReadFault says some memory told st = tt
refused_saved ruled text bytes hand later world mark (stop.Says refusal t) stop.Memory says some memory told st = tt
refused_saved ruled text bytes hand later world mark stop.ReadFault said says some memory told st = absurd (some refl)
refused_saved ruled text bytes hand later world mark stop.Memory said says some memory told st =
    subst (IsRefusedBy ruled text bytes) (sym (memory refl)) tt

pub saved_stops : (service : Service) (formats : List Format) (text : List ℕ) (how : Started) (world : Vec ℕ Global) (given : List ℕ) (mark : Mark)
    (why said : Stop) → how ≡ started.Saved world mark → given ≡ world.items
    → ((ruled : Ruled) → IsRuled service formats ruled → IsStop (loads ruled.service text given) why) → why ≢ stop.ReadFault
    → (why ≡ stop.Memory → said ≡ stop.Memory) → IsToldBy (recalled.Damaged (length (saved_front text))) said
    → StopsSo service formats text how said
saved_stops service formats text how world given mark why said old same stops some memory told ruled bytes hand later is st =
    refused_saved ruled text bytes hand later world mark why said
    (subst (λ (b : List ℕ). IsStop (loads ruled.service text b) why) same (stops ruled is)) some memory told
    (subst (IsStarted text bytes hand later) old st)

-- ---- at nothing

-- it is no journal of the service
damaged_so : (ruled : Ruled) (text bytes : List ℕ) (hand : Hand) (later : Option (List ℕ)) (n : ℕ) (s : Stop) → IsToldBy (recalled.Damaged n) s
    → IsStarted text bytes hand later (started.Damaged n) → IsRefusedBy ruled text bytes s
damaged_so ruled text bytes hand later n (stop.Says refusal said) told (inl st) = (recalled.Damaged n, inl st, told.1)
damaged_so ruled text bytes hand later n (stop.Says refusal said) told (inr st) = (recalled.Damaged n, inr (inl st), told.1)
damaged_so ruled text bytes hand later n stop.ReadFault told st = tt
damaged_so ruled text bytes hand later n stop.Memory told st = tt

version_so : (ruled : Ruled) (text bytes : List ℕ) (hand : Hand) (later : Option (List ℕ)) (n : ℕ) (s : Stop) → IsToldBy (recalled.Version n) s
    → IsStarted text bytes hand later (started.Version n) → IsRefusedBy ruled text bytes s
version_so ruled text bytes hand later n (stop.Says refusal said) told st = (recalled.Version n, st, told.1)
version_so ruled text bytes hand later n stop.ReadFault told st = tt
version_so ruled text bytes hand later n stop.Memory told st = tt

other_so : (ruled : Ruled) (text bytes : List ℕ) (hand : Hand) (later : Option (List ℕ)) (s : Stop) → IsToldBy recalled.Other s
    → IsStarted text bytes hand later started.Other → IsRefusedBy ruled text bytes s
other_so ruled text bytes hand later (stop.Says refusal said) told st = (recalled.Other, st, told.1)
other_so ruled text bytes hand later stop.ReadFault told st = tt
other_so ruled text bytes hand later stop.Memory told st = tt

-- it couldn't be read, or there was no memory
free_so : (ruled : Ruled) (text bytes : List ℕ) (why : Recalled) (s : Stop) → (IsRefusal why → ⊥) → IsToldBy why s → IsRefusedBy ruled text bytes s
free_so ruled text bytes why (stop.Says refusal said) free told = absurd (free told.0)
free_so ruled text bytes why stop.ReadFault free told = tt
free_so ruled text bytes why stop.Memory free told = tt

module _ (service : Service) (formats : List Format) (text : List ℕ) (how : Started) (s : Stop) where
  pub damaged_stops : (n : ℕ) → how ≡ started.Damaged n → IsToldBy (recalled.Damaged n) s → StopsSo service formats text how s
  damaged_stops n at told ruled bytes hand later is st =
      damaged_so ruled text bytes hand later n s told (subst (IsStarted text bytes hand later) at st)

  pub version_stops : (n : ℕ) → how ≡ started.Version n → IsToldBy (recalled.Version n) s → StopsSo service formats text how s
  version_stops n at told ruled bytes hand later is st =
      version_so ruled text bytes hand later n s told (subst (IsStarted text bytes hand later) at st)

  pub other_stops : how ≡ started.Other → IsToldBy recalled.Other s → StopsSo service formats text how s
  other_stops at told ruled bytes hand later is st = other_so ruled text bytes hand later s told (subst (IsStarted text bytes hand later) at st)

  pub free_stops : (why : Recalled) → (IsRefusal why → ⊥) → IsToldBy why s → StopsSo service formats text how s
  free_stops why free told ruled bytes hand later is st = free_so ruled text bytes why s free told

-- only a read fault is told as one
pub told_reads : {A : Type 0} (r : Result BegunServer Stop) (why : Recalled) (s : Stop) → r ≡ Err s → IsToldBy why s → (why ≡ recalled.ReadFault → A)
    → IsErrOf r stop.ReadFault → A
told_reads r why s is told to e =
    let f : s ≡ stop.ReadFault = cc in
    to (subst (IsToldBy why) f told)

-- ---- the source

-- the same call only read, and had a fault exactly where this holds
pub takes_as : {C F G : Type 0} (channel : Ghosts C) (before now : C) → (F → G) → (G → F) → Takes channel before now F → Takes channel before now G
takes_as channel before now to from t = record {
  cause = record { only = λ g. t.cause.only (from g); other = λ none. t.cause.other (λ f. none (to f)) };
  held = t.held;
  write_faults = t.write_faults;
  same = t.same;
}

-- one call only read, and so did the next
pub takes_both : {C F G : Type 0} (channel : Ghosts C) (before mid now : C)
    → ((a b c : C) → channel.same a b → channel.same b c → channel.same a c) → (F → ⊥) → Takes channel before mid F → Takes channel mid now G
    → Takes channel before now G
takes_both channel before mid now trans none first later_call = record {
  cause = record {
    only = λ g. subst (λ (n : ℕ). Rose n (channel.read_faults now)) (first.cause.other none) (later_call.cause.only g);
    other = λ quiet. later_call.cause.other quiet ∙ first.cause.other none;
  };
  held = later_call.held ∙ first.held;
  write_faults = later_call.write_faults ∙ first.write_faults;
  same = trans before mid now first.same later_call.same;
}

-- what came of the first bytes came of the source's
pub bytes_told : (left : Option (List ℕ)) (P : Ruled → List ℕ → Type 0) (Q : List ℕ → Type 0) (service : Service) (formats : List Format)
    → IfSome left Q → ((ruled : Ruled) (bytes : List ℕ) → IsRuled service formats ruled → Q bytes → P ruled bytes)
    → IfSome left (λ bytes. (ruled : Ruled) → IsRuled service formats ruled → P ruled bytes)
bytes_told None P Q service formats q h = tt
bytes_told (Some bytes) P Q service formats q h = λ ruled is. h ruled bytes is q

pub reading_begins : (left : Option (List ℕ)) (hand : Hand) (later : Option (List ℕ)) (how : Started) (service : Service) (formats : List Format)
    (text : List ℕ) (r : Result BegunServer Stop) → IfSome left (λ bytes. IsStarted text bytes hand later how)
    → IfOk r (BeginsSo service formats text how)
    → IfOk r (λ b. IfSome left (λ bytes. (ruled : Ruled) → IsRuled service formats ruled
    → IsBegunIn ruled text bytes b.server.world b.mark hand later))
reading_begins left hand later how service formats text (Ok b) st begins =
    bytes_told left (λ ruled bytes. IsBegunIn ruled text bytes b.server.world b.mark hand later) (λ bytes. IsStarted text bytes hand later how)
    service formats st (λ ruled bytes is at. begins ruled bytes hand later is at)
reading_begins left hand later how service formats text (Err s) st begins = tt

pub reading_stops : (left : Option (List ℕ)) (hand : Hand) (later : Option (List ℕ)) (how : Started) (service : Service) (formats : List Format)
    (text : List ℕ) (r : Result BegunServer Stop) → IfSome left (λ bytes. IsStarted text bytes hand later how)
    → IfErr r (StopsSo service formats text how)
    → IfErr r (λ s. IfSome left (λ bytes. (ruled : Ruled) → IsRuled service formats ruled → IsRefusedBy ruled text bytes s))
reading_stops left hand later how service formats text (Ok b) st stops = tt
reading_stops left hand later how service formats text (Err s) st stops =
    bytes_told left (λ ruled bytes. IsRefusedBy ruled text bytes s) (λ bytes. IsStarted text bytes hand later how) service formats st
    (λ ruled bytes is at. stops ruled bytes hand later is at)
