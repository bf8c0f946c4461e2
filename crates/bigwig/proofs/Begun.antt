-- The world from which a service goes on: of saved sessions, or the one in which nothing was requested yet.
use Rattle.std.proofs.Common.{Vec, Global, ◌≡◌, ◌≢◌, ◌<◌, ℕ, true, List, [], ◌∷◌, ◌++◌, map, length, take, nat_lt, Option, None, Some, IfSome, Result, Ok, Err}
use Rattle.std.proofs.Common.{IfOk, IfErr, refl, sym, ap, ◌∙◌, subst, inl, inr, arith, if◌then◌else◌}
use Rattle.std.specs.List.{AllByRecursion}
use Rattle.std.proofs.lemmas.Bool.{cases_lt}
use Rattle.std.proofs.lemmas.Bool.Decides.{nat_tests}
use Rattle.bw_analyse.specs.declared.facts.Facts.{Facts}
use Rattle.bw_analyse.specs.Facts.{AreFacts}
use Rattle.bw_format.specs.declared.format.Format.{Format}
use Rattle.bw_flow.specs.Layout.{plan_of}
use Rattle.bw_save.specs.Frozen.{record_of, saved_of, loaded_of}
use Rattle.bw_save.specs.Thawed.{Gives, IsSoundLoaded}
use Rattle.bw_lang.specs.declared.service.Service.{Service}
use Rattle.bw_lang.specs.declared.text.Memory.{Memory}
use Rattle.bw_load.specs.declared.loading.LoadFault.{LoadFault}
use Rattle.bw_load.specs.declared.loading.LoadFault.TheVariants as fault
use Rattle.bw_load.specs.Loaded.{live_of, world_of}
use Rattle.bw_load.specs.Loads.{IsLoaded, by_file, loaded}
use Rattle.bw_meaning.specs.States.{Input}
use Rattle.bw_model.specs.Sessions.{Live, World, empty}
use Rattle.bw_model.specs.Within.{IsWithin}
use Rattle.bw_model.proofs.Storing.{empty_is_within}
use Rattle.bw_out.specs.Told.{Disk}
use Rattle.bw_saved.specs.declared.file.FileFault.{FileFault}
use Rattle.bw_saved.specs.declared.file.FileFault.TheVariants as files
use Rattle.bw_saved.specs.declared.saved.Record.{Record}
use Rattle.bw_saved.specs.declared.saved.Saved.{Saved}
use Rattle.bw_saved.specs.Files.{by_version, decided, version_at}
use Rattle.bw_sound.specs.Worlds.{BeginsSound, IsSoundWorld}
use Rattle.bw_world.specs.declared.suspended.Suspended.{Suspended}
use Rattle.bw_world.specs.Seen.{Seen}
use Rattle.bw_world.specs.Stands.{AllStand, StandsFor}
use Rattle.bigwig.specs.Asked.{loaded_file, start}
use Rattle.bw_questions.specs.Asked.{Ruled, Work, file}
use Rattle.bw_questions.specs.Checks.{IsRuled}
use Rattle.bigwig.specs.Fits.{IsFitStart, IsFitWorld}
use Rattle.bigwig.specs.Loading.{load_line, loads}
use Rattle.bigwig.specs.Outcomes.{Comes, Replies}
use Rattle.bw_questions.specs.Questions.{Question, ◌>>=◌, IsAnswer, IsStop}
use Rattle.bw_questions.specs.Reports.{IsReported, SaysLine}
use Rattle.bigwig.specs.Works.{Outside}
use Rattle.bigwig.specs.declared.server.Server.{Server}
use Rattle.bw_command.specs.declared.status.Refusal.TheVariants as refusals
use Rattle.bw_command.specs.declared.status.Status.{Status}
use Rattle.bw_questions.specs.declared.stop.Stop.{Stop}
use Rattle.bw_questions.specs.declared.stop.Stop.TheVariants as stop
use Rattle.bw_out.specs.Told.{Coming}
use Rattle.bw_questions.proofs.Answering.{asks_next, stops_first}
use Rattle.bigwig.proofs.Endings.{comes_then, stopped_so}
use Rattle.bw_questions.proofs.Files.{take_all, take_length}
use Rattle.bw_questions.proofs.Stops.{line_stops}

-- ---- fit worlds

none_live : (service : Service) (first : ℕ) (live : List (ℕ × Suspended)) → AllStand service first live [] → live ≡ []
none_live service first [] h = refl
none_live service first (x ∷ live) h = absurd h

-- a world in which nothing was requested yet was loaded in that of the meaning
pub empty_start : (w : Seen) → StandsFor w (empty w.service) → loaded_of w ≡ empty w.service
empty_start w h = λ i. record {
  shared = h.shared i;
  next = h.next i;
  first = h.first i;
  live = map (live_of w.service) (map (λ (x : ℕ × Suspended). record_of x.1) (none_live w.service w.first w.live h.live i));
}

no_input : (earlier : List Input) (i : Input) (later : List Input) → [] ≡ earlier ++ i ∷ later → ⊥
no_input [] i later e = cc
no_input (j ∷ earlier) i later e = cc

-- a session that was loaded has stored nothing since
pub loaded_within : (formats : List Format) (service other : Service) (rs : List Record)
    → AllByRecursion (λ (l : Live). IsWithin formats other l.talk) (map (live_of service) rs)
loaded_within formats service other [] = tt
loaded_within formats service other (r ∷ rs) =
    (λ earlier i later e. absurd (no_input earlier i later e), loaded_within formats service other rs)

pub fit_empty : (w : Seen) (formats : List Format) → StandsFor w (empty w.service) → BeginsSound w.service → IsFitStart formats w
fit_empty w formats stands sound ruled is =
    subst (IsFitWorld ruled) (sym (empty_start w stands ∙ ap empty (sym is.0)))
    (subst BeginsSound (sym is.0) sound ruled.schema 1 1 is.1, empty_is_within ruled.formats ruled.service)

pub fit_loaded : (w : Seen) (formats : List Format) → IsSoundLoaded w → IsFitStart formats w
fit_loaded w formats sound ruled is = (
  subst (λ (s : Service). IsSoundWorld s (loaded_of w)) (sym is.0)
      (sound is.1.0 (subst (λ (s : Service). AreFacts s is.1.0) is.0 is.1.1.facts_are)),
  loaded_within ruled.formats w.service ruled.service (saved_of w).records,
)

-- the server is made of a world with its formats
pub fit_server : (w v : Seen) (formats kept : List Format) → v ≡ w → kept ≡ formats → IsFitStart formats w → IsFitStart kept v
fit_server w v formats kept same form h =
    subst (λ (f : List Format). IsFitStart f v) (sym form) (subst (IsFitStart formats) (sym same) h)

-- ---- what the bytes of a file give

pub thawed_gives : (service : Service) (formats : List Format) (text bytes : List ℕ) (w : Seen) (ruled : Ruled) → IsRuled service formats ruled
    → w.service ≡ service → Gives service text bytes (Ok (saved_of w)) → (loads ruled.service text bytes).gives (loaded_of w)
thawed_gives service formats text bytes w ruled is same given =
    let facts = is.1.0 in
    let are = is.1.1.facts_are in
    let by = subst (λ (s : Service). Gives s text bytes (Ok (saved_of w))) (sym is.0) given in
    (saved_of w, (facts, are, by facts are), ap (λ (s : Service). world_of s (saved_of w)) (same ∙ sym is.0))

-- the same of a server that is made of the world
pub server_gives : (service : Service) (formats : List Format) (text bytes : List ℕ) (w v : Seen) → v ≡ w → w.service ≡ service
    → Gives service text bytes (Ok (saved_of w)) → (ruled : Ruled) → IsRuled service formats ruled → (loads ruled.service text bytes).gives (loaded_of v)
server_gives service formats text bytes w v made same given ruled is =
    subst (λ (x : Seen). (loads ruled.service text bytes).gives (loaded_of x)) (sym made) (thawed_gives service formats text bytes w ruled is same given)

loaded_so : (e : LoadFault) (due : Result Saved LoadFault) → e ≢ fault.Memory → IsLoaded (Err e) due → due ≡ Err e
loaded_so fault.TooLong due some h = h
loaded_so fault.Malformed due some h = h
loaded_so (fault.Version n) due some h = h
loaded_so fault.OtherService due some h = h
loaded_so (fault.NotCovered k) due some h = h
loaded_so fault.Memory due some h = absurd (some refl)

-- the bytes are refused
pub refused_load : (service : Service) (formats : List Format) (text bytes : List ℕ) (e : LoadFault) (l : Result (Vec ℕ Global) Memory) (s : Stop)
    → Gives service text bytes (Err e) → IfOk l (λ x. SaysLine refusals.Load x.items s) → IfErr l (λ x. s ≡ stop.Memory)
    → IfOk l (λ x. x.items ≡ load_line e) → IfOk l (λ x. e ≢ fault.Memory) → (ruled : Ruled) → IsRuled service formats ruled
    → IsStop (loads ruled.service text bytes) s
refused_load service formats text bytes e (Ok l) s given is none tells some ruled r =
    let facts = r.1.0 in
    let are = r.1.1.facts_are in
    let by = subst (λ (t : Service). Gives t text bytes (Err e)) (sym r.0) given in
    line_stops (loads ruled.service text bytes) refusals.Load (load_line e) (Ok l) s is none tells
    (e, (facts, are, loaded_so e (loaded ruled.service facts text bytes) some (by facts are)), some, refl)
refused_load service formats text bytes e (Err x) s given is none tells some ruled r =
    line_stops (loads ruled.service text bytes) refusals.Load (load_line e) (Err x) s is none tt tt

-- ---- the file

is_longer : (m n : ℕ) → m < n → nat_lt m n ≡ true
is_longer m n h = grind (arith, nat_tests)

too_long : (service : Service) (facts : Facts) (text bytes : List ℕ) → 69206016 < length bytes → loaded service facts text bytes ≡ Err fault.TooLong
too_long service facts text bytes h =
    ap (λ b. by_file service facts (if b then Err files.TooLong else by_version service (plan_of service) text (version_at bytes)))
    (is_longer 69206016 (length bytes) h)

-- its front, of one byte more than it may have, gives what all of it does
loaded_front : (service : Service) (facts : Facts) (text : List ℕ) (n : ℕ) (content : List ℕ) → n ≡ 69206017
    → loaded service facts text (take n content) ≡ loaded service facts text content
loaded_front service facts text n content e = elim (cases_lt n (length content)) [
  | inr le ↦ ap (loaded service facts text) (take_all n content le)
  | inl gt ↦ (
      let full = take_length n content gt in
      too_long service facts text (take n content) (omega (arith, e, full)) ∙ sym (too_long service facts text content (omega (arith, e, gt)))
      )
]

loads_all : {B : Type 0} (seen : B → World) (service : Service) (text : List ℕ) (n : ℕ) (content : List ℕ) (r : Result B Stop) → n ≡ 69206017
    → IsAnswer seen (loads service text (take n content)) r → IsAnswer seen (loads service text content) r
loads_all seen service text n content (Ok x) e h = (h.0, (h.1.0, h.1.1, sym (loaded_front service h.1.0 text n content e) ∙ h.1.2), h.2)
loads_all seen service text n content (Err (stop.Says refusal said)) e h =
    (h.0, (h.1.0, h.1.1, sym (loaded_front service h.1.0 text n content e) ∙ h.1.2), h.2, h.3)
loads_all seen service text n content (Err stop.ReadFault) e h = tt
loads_all seen service text n content (Err stop.Memory) e h = tt

-- The answer is that of this question, for the service that was accepted, whose file has this text.
abbrev pub Begins : {B : Type 0} → (B → World) → Option Disk → (Disk → List ℕ → Service → Question World) → Service → List Format → List ℕ → Result B Stop
    → Type 0
Begins seen told q service formats text r =
    IfSome told (λ d. (ruled : Ruled) (name : List ℕ) → IsRuled service formats ruled → d name ≡ Some text → IsAnswer seen (q d name ruled.service) r)

pub file_loaded : {B : Type 0} (seen : B → World) (told : Option Disk) (load text bytes given : List ℕ) (service : Service) (formats : List Format) (n : ℕ)
    (r : Result B Stop) → n ≡ 69206017 → IfSome told (λ d. (content : List ℕ) × (d load ≡ Some content) × (bytes ≡ take n content)) → given ≡ bytes
    → ((ruled : Ruled) → IsRuled service formats ruled → IsAnswer seen (loads ruled.service text given) r)
    → Begins seen told (λ d name. loaded_file d name load) service formats text r
file_loaded seen None load text bytes given service formats n r e found same answers = tt
file_loaded seen (Some d) load text bytes given service formats n r e found same answers = λ ruled name is there.
    asks_next seen (file d name) (λ t. file d load >>= loads ruled.service t) text r there
    (asks_next seen (file d load) (loads ruled.service text) found.0 r found.1
    (loads_all seen ruled.service text n found.0 r e
    (subst (λ b. IsAnswer seen (loads ruled.service text b) r) (same ∙ found.2) (answers ruled is))))

pub no_file_loaded : {B : Type 0} (seen : B → World) (told : Option Disk) (load text : List ℕ) (service : Service) (formats : List Format) (s : Stop)
    → IfSome told (λ d. IsStop (file d load) s) → Begins seen told (λ d name. loaded_file d name load) service formats text (Err s)
no_file_loaded seen None load text service formats s h = tt
no_file_loaded seen (Some d) load text service formats s h = λ ruled name is there.
    asks_next seen (file d name) (λ t. file d load >>= loads ruled.service t) text (Err s) there
    (stops_first (file d load) (loads ruled.service text) s h)

-- ---- the world that is named, if one is

pub named_load : {B : Type 0} (seen : B → World) (told : Option Disk) (load : Option (List ℕ)) (named asked text : List ℕ) (service : Service)
    (formats : List Format) (r : Result B Stop) → load ≡ Some named → asked ≡ named
    → Begins seen told (λ d name. loaded_file d name asked) service formats text r → Begins seen told (λ d name. start d name load) service formats text r
named_load seen told load named asked text service formats r e f h =
    subst (λ o. Begins seen told (λ d name. start d name o) service formats text r) (sym e)
    (subst (λ n. Begins seen told (λ d name. loaded_file d name n) service formats text r) f h)

pub no_load : (told : Option Disk) (load : Option (List ℕ)) (text : List ℕ) (service : Service) (formats : List Format) (w : Seen) → load ≡ None
    → StandsFor w (empty w.service) → w.service ≡ service
    → IfSome told (λ d. (ruled : Ruled) (name : List ℕ) → IsRuled service formats ruled → d name ≡ Some text
    → (start d name load ruled.service).gives (loaded_of w))
no_load None load text service formats w e stands same = tt
no_load (Some d) load text service formats w e stands same = λ ruled name is there.
    subst (λ o. (start d name o ruled.service).gives (loaded_of w)) (sym e) (empty_start w stands ∙ ap empty (same ∙ sym is.0))

pub no_room : {B : Type 0} (seen : B → World) (told : Option Disk) (q : Disk → List ℕ → Service → Question World) (service : Service)
    (formats : List Format) (text : List ℕ) → Begins seen told q service formats text (Err stop.Memory)
no_room seen None q service formats text = tt
no_room seen (Some d) q service formats text = λ ruled name is there. tt

-- ---- what comes behind it, where the text of the service's file was given to the code so

-- the code stopped there, and reported it
start_stopped : (told : Option Disk) (load : Option (List ℕ)) (text given : List ℕ) (service : Service) (formats : List Format)
    (next : Disk → List ℕ → Ruled → World → Question Work) (s : Stop) (held now : Option (List ℕ)) (r : Status) → given ≡ text
    → IfSome told (λ d. (ruled : Ruled) (name : List ℕ) → IsRuled service formats ruled → d name ≡ Some given → IsStop (start d name load ruled.service) s)
    → IsReported s held now r
    → IfSome told (λ d. (ruled : Ruled) (name : List ℕ) → IsRuled service formats ruled → d name ≡ Some text → (o : Outside) (unread : Option (List ℕ))
    → Comes (start d name load ruled.service >>= next d name ruled) (record o { printed = held }) (record o { printed = now; unread = unread }) r)
start_stopped None load text given service formats next s held now r same stops p = tt
start_stopped (Some d) load text given service formats next s held now r same stops p = λ ruled name is there.
    stopped_so (start d name load ruled.service >>= next d name ruled) s held now r
    (stops_first (start d name load ruled.service) (next d name ruled) s (stops ruled name is (there ∙ ap Some (sym same)))) p

-- the same of code that answers on `out`
pub replies_stopped : (told : Option Disk) (load : Option (List ℕ)) (text given : List ℕ) (service : Service) (formats : List Format)
    (next : Disk → List ℕ → Ruled → World → Question Work) (s : Stop) (held now : Option (List ℕ)) (keys : Option Coming) (unread : Option (List ℕ))
    (steps : ℕ) (r : Status) → given ≡ text
    → IfSome told (λ d. (ruled : Ruled) (name : List ℕ) → IsRuled service formats ruled → d name ≡ Some given → IsStop (start d name load ruled.service) s)
    → IsReported s held now r
    → IfSome told (λ d. (ruled : Ruled) (name : List ℕ) → IsRuled service formats ruled → d name ≡ Some text
    → Replies (start d name load ruled.service >>= next d name ruled) held now keys keys unread steps steps r)
replies_stopped None load text given service formats next s held now keys unread steps r same stops p = tt
replies_stopped (Some d) load text given service formats next s held now keys unread steps r same stops p = λ ruled name is there o.
    start_stopped (Some d) load text given service formats next s held now r same stops p ruled name is there (record o { keys = keys; steps = steps })
    unread

-- the service and the formats of the server are those that were accepted
ruled_by_server : (service seen : Service) (formats kept : List Format) (ruled : Ruled) → seen ≡ service → kept ≡ formats → IsRuled service formats ruled
    → IsRuled seen kept ruled
ruled_by_server service seen formats kept ruled e f is = (is.0 ∙ sym e, is.1, is.2 ∙ sym f)

-- the service goes on from there, and answers on `out`
pub replies_begun : (told later_told : Option Disk) (load : Option (List ℕ)) (text given again : List ℕ) (service seen : Service)
    (formats kept : List Format) (from : World) (next : Disk → List ℕ → Ruled → World → Question Work) (held now : Option (List ℕ))
    (keys later : Option Coming) (unread : Option (List ℕ)) (steps after : ℕ) (r : Status) → later_told ≡ told → given ≡ text → again ≡ text
    → seen ≡ service → kept ≡ formats
    → IfSome told (λ d. (ruled : Ruled) (name : List ℕ) → IsRuled service formats ruled → d name ≡ Some given → (start d name load ruled.service).gives from)
    → IfSome later_told (λ d. (ruled : Ruled) (name : List ℕ) → IsRuled seen kept ruled → d name ≡ Some again
    → Replies (next d name ruled from) held now keys later unread steps after r)
    → IfSome told (λ d. (ruled : Ruled) (name : List ℕ) → IsRuled service formats ruled → d name ≡ Some text
    → Replies (start d name load ruled.service >>= next d name ruled) held now keys later unread steps after r)
replies_begun None later_told load text given again service seen formats kept from next held now keys later unread steps after r t same also e f gives comes = tt
replies_begun (Some d) later_told load text given again service seen formats kept from next held now keys later unread steps after r t same also e f gives comes =
    let all = subst (λ x. IfSome x (λ d. (ruled : Ruled) (name : List ℕ) → IsRuled seen kept ruled → d name ≡ Some again
    → Replies (next d name ruled from) held now keys later unread steps after r)) t comes in
    λ ruled name is there o.
    comes_then (start d name load ruled.service) (next d name ruled) from _ _ r (gives ruled name is (there ∙ ap Some (sym same)))
    (all ruled name (ruled_by_server service seen formats kept ruled e f is) (there ∙ ap Some (sym also)) o)

-- where the service's file is of no account
pub any_name : (told : Option Disk) (text : List ℕ) (service : Service) (formats : List Format) (q : Disk → Ruled → Question Work)
    (held now : Option (List ℕ)) (keys later : Option Coming) (unread : Option (List ℕ)) (steps after : ℕ) (r : Status)
    → IfSome told (λ d. (ruled : Ruled) → IsRuled service formats ruled → Replies (q d ruled) held now keys later unread steps after r)
    → IfSome told (λ d. (ruled : Ruled) (name : List ℕ) → IsRuled service formats ruled → d name ≡ Some text
    → Replies (q d ruled) held now keys later unread steps after r)
any_name None text service formats q held now keys later unread steps after r h = tt
any_name (Some d) text service formats q held now keys later unread steps after r h = λ ruled name is there. h ruled is

-- the service goes on from there, and its port is served
pub port_begun : (told : Option Disk) (load : Option (List ℕ)) (text given : List ℕ) (service seen : Service) (formats kept : List Format) (from : World)
    (next : Ruled → World → Question Work) (before after : Outside) (r : Status) → given ≡ text → seen ≡ service → kept ≡ formats
    → IfSome told (λ d. (ruled : Ruled) (name : List ℕ) → IsRuled service formats ruled → d name ≡ Some given → (start d name load ruled.service).gives from)
    → ((ruled : Ruled) (u v : Option (List ℕ)) → IsRuled seen kept ruled
    → Comes (next ruled from) (record before { unread = u }) (record after { unread = v }) r)
    → IfSome told (λ d. (ruled : Ruled) (name : List ℕ) (u v : Option (List ℕ)) → IsRuled service formats ruled → d name ≡ Some text
    → Comes (start d name load ruled.service >>= next ruled) (record before { unread = u }) (record after { unread = v }) r)
port_begun None load text given service seen formats kept from next before after r same e f gives comes = tt
port_begun (Some d) load text given service seen formats kept from next before after r same e f gives comes = λ ruled name u v is there.
    comes_then (start d name load ruled.service) (next ruled) from (record before { unread = u }) (record after { unread = v }) r
    (gives ruled name is (there ∙ ap Some (sym same))) (comes ruled u v (ruled_by_server service seen formats kept ruled e f is))

-- or the code stopped there, and reported it
pub port_stopped : (told : Option Disk) (load : Option (List ℕ)) (text given : List ℕ) (service : Service) (formats : List Format)
    (next : Ruled → World → Question Work) (s : Stop) (o : Outside) (now : Option (List ℕ)) (r : Status) → given ≡ text
    → IfSome told (λ d. (ruled : Ruled) (name : List ℕ) → IsRuled service formats ruled → d name ≡ Some given → IsStop (start d name load ruled.service) s)
    → IsReported s o.printed now r
    → IfSome told (λ d. (ruled : Ruled) (name : List ℕ) (u v : Option (List ℕ)) → IsRuled service formats ruled → d name ≡ Some text
    → Comes (start d name load ruled.service >>= next ruled) (record o { unread = u }) (record o { printed = now; unread = v }) r)
port_stopped None load text given service formats next s o now r same stops p = tt
port_stopped (Some d) load text given service formats next s o now r same stops p = λ ruled name u v is there.
    start_stopped (Some d) load text given service formats (λ disk service. next) s o.printed now r same stops p ruled name is there
    (record o { unread = u }) v

-- ---- servers

-- what holds of a world holds of the server that is made of it
pub made_of : (P : Seen → Type 0) (r : Result Server Memory) (w : Seen) → IfOk r (λ s. s.world ≡ w) → P w → IfOk r (λ s. P s.world)
made_of P (Ok s) w e h = subst P (sym e) h
made_of P (Err x) w e h = tt
