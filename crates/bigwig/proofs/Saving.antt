-- What waits behind the requests of a file is saved.
use Rattle.std.proofs.Common.{Vec, Global, ◌≡◌, ◌≢◌, ◌⊎◌, ℕ, zero, suc, List, [], Option, None, Some, IfSome, Result, Ok, Err, IfOk, IfErr, refl, sym, ap}
use Rattle.std.proofs.Common.{◌∙◌, subst, inl, inr}
use Rattle.bw_format.specs.declared.format.Format.{Format}
use Rattle.bw_save.specs.Freezes.{MayBeFrozen, IsFreezeFault}
use Rattle.bw_save.specs.Frozen.{loaded_of, saved_of}
use Rattle.bw_save.specs.declared.freezing.FreezeFault.{FreezeFault}
use Rattle.bw_save.specs.declared.freezing.FreezeFault.TheVariants.{TooLong}
use Rattle.bw_save.proofs.Stood.{saved_stands}
use Rattle.bw_lang.specs.declared.service.Service.{Service}
use Rattle.bw_lang.specs.declared.text.Memory.{Memory}
use Rattle.bw_model.specs.Sessions.{World}
use Rattle.bw_out.specs.Told.{Coming, Disk, Finds}
use Rattle.bw_world.specs.Seen.{Seen}
use Rattle.bw_world.specs.Streams.Answers.{Answers, between}
use Rattle.bw_world.specs.Streams.Good.{RepliesAreGood}
use Rattle.bw_world.specs.declared.ends.StreamEnd.{StreamEnd}
use Rattle.bigwig.specs.Asked.{frozen}
use Rattle.bw_questions.specs.Asked.{Ruled, Work, file}
use Rattle.bw_questions.specs.Asked.Work.{freezes}
use Rattle.bw_questions.specs.Checks.{IsRuled}
use Rattle.bigwig.specs.Fits.{IsFitStart}
use Rattle.bigwig.specs.Freezing.{FreezesAt, IsFreezing, IsFrozen, file_of, save_line}
use Rattle.bigwig.specs.Freezing.IsFrozen.{saved, too_long, no_memory as no_room}
use Rattle.bw_questions.specs.Lines.{no_file_line}
use Rattle.bigwig.specs.Outcomes.{Comes, Replies}
use Rattle.bigwig.specs.Outcomes.Comes.{done, read_fault, no_memory}
use Rattle.bw_questions.specs.Questions.{Question, ◌>>=◌, IsStop, found, line}
use Rattle.bw_command.specs.Codes.{status_for}
use Rattle.bw_questions.specs.Reports.{IsReported, Prints, SaysLine}
use Rattle.bw_command.specs.declared.status.Refusal.{Refusal}
use Rattle.bigwig.specs.Works.{Outside}
use Rattle.bw_command.specs.declared.status.Refusal.TheVariants as refusals
use Rattle.bw_command.specs.declared.status.Status.{Status}
use Rattle.bw_command.specs.declared.status.Status.TheVariants as status
use Rattle.bw_questions.specs.declared.stop.Stop.{Stop}
use Rattle.bw_questions.specs.declared.stop.Stop.TheVariants as stop
use Rattle.bw_questions.proofs.Answering.{asks_next, stops_first}
use Rattle.bigwig.proofs.Endings.{comes_then, stopped_so}
use Rattle.bigwig.proofs.Replies.{absent_stop, stream_streamed}

-- nothing has changed, whatever was asked
pub nothing_frozen : (told : Option Disk) (text : List ℕ) (service : Service) (formats : List Format) (q : Disk → List ℕ → Ruled → Question Work)
    (held : Option (List ℕ)) (keys : Option Coming) (unread : Option (List ℕ)) (steps : ℕ) (r : Status) → (r ≡ status.ReadFault) ⊎ (r ≡ status.Memory)
    → IfSome told (λ d. (ruled : Ruled) (name : List ℕ) → IsRuled service formats ruled → d name ≡ Some text
    → Replies (q d name ruled) held held keys keys unread steps steps r)
nothing_frozen None text service formats q held keys unread steps r why = tt
nothing_frozen (Some d) text service formats q held keys unread steps r (inl e) = λ ruled name is there o. read_fault e refl
nothing_frozen (Some d) text service formats q held keys unread steps r (inr e) = λ ruled name is there o. no_memory e refl

-- there is no file of the name
pub absent_frozen : {File : Type 0} (left : File → Option (List ℕ)) (told : Option Disk) (name text : List ℕ) (next : Option File) (s : Stop)
    (service : Service) (formats : List Format) (from : World) (most : ℕ) (held now : Option (List ℕ)) (keys : Option Coming) (unread : Option (List ℕ))
    (steps : ℕ) (r : Status) → next ≡ None → Finds left told name next → SaysLine refusals.File (no_file_line name) s → IsReported s held now r
    → IfSome told (λ d. (ruled : Ruled) (service_name : List ℕ) → IsRuled service formats ruled → d service_name ≡ Some text
    → Replies (frozen d service_name name most ruled from) held now keys keys unread steps steps r)
absent_frozen left None name text next s service formats from most held now keys unread steps r none f a p = tt
absent_frozen left (Some d) name text next s service formats from most held now keys unread steps r none f a p =
    let stops = absent_stop d name s (subst (λ x. Finds left (Some d) name x) none f) a in
    λ ruled service_name is there o.
    comes_then (file d service_name) (λ t. file d name >>= (λ stream. found (freezes ruled from t stream most))) text _ _ r there
    (stopped_so (file d name >>= (λ stream. found (freezes ruled from text stream most))) s held now r
    (stops_first (file d name) (λ stream. found (freezes ruled from text stream most)) s stops) p (record o { keys = keys; steps = steps }) unread)

-- the requests of a file were answered, and then what waits was saved, or not
pub requests_frozen : {File : Type 0} (left : File → Option (List ℕ)) (told : Option Disk) (name text : List ℕ) (next : Option File) (file : File)
    (formats : List Format) (most : ℕ) (seen later : Seen) (taken rest : List ℕ) (here over : Option (List ℕ)) (keys drawn : Option Coming)
    (steps after : ℕ) (held now unread : Option (List ℕ)) (end : StreamEnd) (r : Status) → unread ≡ over → next ≡ Some file → Finds left told name next
    → IsFitStart formats seen → taken ≡ [] → here ≡ left file → later.service ≡ seen.service
    → Answers formats seen.service most (between seen taken here None keys steps) (between later rest over None drawn after) end
    → RepliesAreGood formats seen.service (between seen taken here None keys steps) → FreezesAt text later end held now r
    → IfSome told (λ d. (ruled : Ruled) (service_name : List ℕ) → IsRuled seen.service formats ruled → d service_name ≡ Some text
    → Replies (frozen d service_name name most ruled (loaded_of seen)) held now keys drawn unread steps after r)
requests_frozen left None name text next file formats most seen later taken rest here over keys drawn steps after held now unread end r was some f fit none
    has kept_service answers good freezes_at = tt
requests_frozen left (Some d) name text next file formats most seen later taken rest here over keys drawn steps after held now unread end r was some f fit none
    has kept_service answers good freezes_at =
    let there = subst (λ x. Finds left (Some d) name x) some f in
    λ ruled service_name is is_text o.
    let same : seen.service ≡ ruled.service = sym is.0 in
    let form : formats ≡ ruled.formats = sym is.2 in
    let from = loaded_of seen in
    let old = between seen taken here None keys steps in
    let new = between later rest unread None drawn after in
    let told_answers : Answers formats seen.service most old new end =
    subst (λ u. Answers formats seen.service most old (between later rest u None drawn after) end) (sym was) answers in
    let all = subst (λ f. Answers f ruled.service most old new end) form (subst (λ s. Answers formats s most old new end) same told_answers) in
    let pages = subst (λ f. RepliesAreGood f ruled.service old) form (subst (λ s. RepliesAreGood formats s old) same good) in
    let freezing : IsFreezing ruled from text there.0 most (record o { printed = held; keys = keys; steps = steps })
    (record o { printed = now; keys = drawn; unread = unread; steps = after }) r = record {
      seen = later;
      service = kept_service ∙ same;
      end = end;
      freezes = freezes_at;
      streamed = λ coming k.
          stream_streamed ruled from there.0 most old new end is.1 (saved_stands seen) (fit ruled is) none (has ∙ there.2) all pages coming k;
      kept = (refl, refl, refl);
    } in
    done (freezes ruled from text there.0 most) (text, is_text, (there.0, there.1, refl)) (freezing, refl)

-- ---- the file

-- it was made and printed
pub frozen_saved : (text given bytes : List ℕ) (seen : Seen) (held now : Option (List ℕ)) (r : Status) → given ≡ bytes → bytes ≡ file_of text seen
    → MayBeFrozen seen.service (saved_of seen) → Prints (record { status = status.Done; text = given }) held now r → IsFrozen text seen held now r
frozen_saved text given bytes seen held now r is made fit p =
    saved fit (subst (λ t. Prints (record { status = status.Done; text = t }) held now r) (is ∙ made) p)

-- the line of a refusal was printed, or there was no memory for it
line_told : (refusal : Refusal) (text : List ℕ) (l : Result (Vec ℕ Global) Memory) (s : Stop) (held now : Option (List ℕ)) (r : Status)
    → IfOk l (λ x. x.items ≡ text) → IfOk l (λ x. SaysLine refusal x.items s) → IfErr l (λ e. s ≡ stop.Memory) → IsReported s held now r
    → Prints (record { status = status_for refusal; text = line text }) held now r ⊎ ((r ≡ status.Memory) × (now ≡ held))
line_told refusal text (Ok x) (stop.Says other said) held now r is says none p =
    inl (subst (λ (t : List ℕ). Prints (record { status = status_for refusal; text = t }) held now r) (says.1 ∙ ap line is)
    (subst (λ (o : Refusal). Prints (record { status = status_for o; text = said.items }) held now r) says.0 p))
line_told refusal text (Ok x) stop.ReadFault held now r is says none p = absurd says
line_told refusal text (Ok x) stop.Memory held now r is says none p = inr p
line_told refusal text (Err e) s held now r is says none p = inr (subst (λ x. IsReported x held now r) none p)

-- it was too much to be made
pub frozen_refused : (text : List ℕ) (seen : Seen) (f : FreezeFault) (n : ℕ) (l : Result (Vec ℕ Global) Memory) (s : Stop) (held now : Option (List ℕ))
    (r : Status) → IsFreezeFault seen.service (saved_of seen) f → f ≡ TooLong n → IfOk l (λ x. x.items ≡ save_line n)
    → IfOk l (λ x. SaysLine refusals.Save x.items s) → IfErr l (λ e. s ≡ stop.Memory) → IsReported s held now r → IsFrozen text seen held now r
frozen_refused text seen f n l s held now r fault is given says none p =
    let why = subst (IsFreezeFault seen.service (saved_of seen)) is fault in
    elim (line_told refusals.Save (save_line n) l s held now r given says none p) [
      | inl printed ↦ (
          too_long why.0 why.2 (subst (λ k. Prints (record { status = status.SaveRefused; text = line (save_line k) }) held now r) why.1 printed)
          )
      | inr m ↦ no_room m.0 m.1
    ]
