-- Each page that the next request is answered is good.
use Rattle.std.proofs.Common.{◌≡◌, ℕ, suc, false, List, [], ◌∷◌, take, refl, sym, ap, subst, arith}
use Rattle.std.proofs.Common.{length-append}
use Rattle.std.specs.List.{Contains}
use Rattle.bw_http.specs.declared.replies.Reply.{Reply}
use Rattle.bw_http.specs.declared.replies.Reply.TheVariants as replies
use Rattle.bw_http.specs.declared.request.Path.TheVariants as paths
use Rattle.bw_lang.specs.Service.Submissions.{IsTextForm}
use Rattle.bw_http.specs.Paths.{spelling}
use Rattle.bw_judge.proofs.Sound.{first_in, later_in}
use Rattle.bw_lang.specs.declared.service.Service.{Service}
use Rattle.bw_lang.specs.Document.Print.{print, joined}
use Rattle.bw_made.specs.Made.{IsItemsOf, IsPageOf, IsTextOutcome}
use Rattle.bw_made.specs.Worlds.{IsTextTalk, IsTextWorld}
use Rattle.bw_made.proofs.Whole.{results_are_made, next_are_made}
use Rattle.bw_meaning.specs.States.{Form, Input, Outcome, Went, Shown, Exited, Failed, Rests}
use Rattle.bw_meaning.specs.Values.{Document, Values}
use Rattle.bw_model.specs.Answers.{Shows, Ends, with_input}
use Rattle.bw_model.specs.Laws.{is_page}
use Rattle.bw_model.specs.Sessions.{Talk, Live, World, now, current}
use Rattle.bw_model.specs.Steps.{Step, reply_to, beginner}
use Rattle.bw_model.proofs.Found.{Out, here, later, out_all}
use Rattle.bw_model.proofs.Views.{View, refused, again, begun, gone_on}
use Rattle.bw_page.specs.Pages.{show_page}
use Rattle.bw_schema.specs.declared.schema.Schema.{Schema}
use Rattle.bw_types.specs.declared.typed.Typed.{Typed}
use Rattle.bw_cover.specs.Abstracts.{CoversTree}
use Rattle.bw_cover.specs.Covered.{IsCovered}
use Rattle.bw_cover.specs.Worlds.{CoversTalk, CoversWorld, CoversNext, ComesToCovered, WaitsAtShow}
use Rattle.bw_analyse.specs.declared.facts.Facts.{Facts}
use Rattle.bw_check.specs.Accepts.{IsAccepted}
use Rattle.bw_sound.specs.Good.{ReadsAsValid, IsNext, begins, goes_on, IsGood}
use Rattle.bw_sound.proofs.Covered.{F, show_good, end_good}
use Rattle.bw_sound.proofs.Read.{show_reads, last_reads}

-- a session that is taken out is one of them
out_there : (number key : ℕ) (ls : List Live) (m : Live) (others : List Live) → Out number key ls m others → Contains ls m
out_there number key _ _ _ (here l ls e) = first_in l ls
out_there number key _ _ _ (later l m ls others e o) = later_in l m ls (out_there number key ls m others o)

-- a reply without a page is good
pub no_page : (service : Service) (schema : Schema) (before after : World) (reply : Reply) → is_page reply ≡ false → IsGood service schema before after reply
no_page service schema before after (replies.Page body) e = absurd (cc)
no_page service schema before after (replies.Final body) e = absurd (cc)
no_page service schema before after (replies.Index body) e = tt
no_page service schema before after replies.NoSuch e = tt
no_page service schema before after (replies.Method m) e = tt
no_page service schema before after (replies.Stale n) e = tt
no_page service schema before after (replies.Lacking n) e = tt
no_page service schema before after (replies.Repeated n) e = tt
no_page service schema before after (replies.FieldTooLong n) e = tt
no_page service schema before after (replies.Format n) e = tt
no_page service schema before after (replies.Failed f) e = tt
no_page service schema before after replies.NoNumbers e = tt
no_page service schema before after replies.NoTurns e = tt
no_page service schema before after replies.Bad e = tt
no_page service schema before after replies.LengthRequired e = tt
no_page service schema before after replies.BodyTooLong e = tt
no_page service schema before after replies.Media e = tt
no_page service schema before after replies.HeadTooLong e = tt
no_page service schema before after replies.Memory e = tt

module _ (t : Typed) (schema : Schema) (facts : Facts) (accepted : IsAccepted t.service schema facts) where
  abbrev service : Service
  service = t.service

  abbrev covers : Outcome → Type 0
  covers o = IsCovered service (F t schema facts accepted) o

  abbrev CoversShown : ℕ → Document → Type 0
  CoversShown at d = CoversTree service ((F t schema facts accepted).shown ((F t schema facts accepted).place at)) d.tree

  abbrev IsMadePage : Document → Type 0
  IsMadePage d = IsPageOf (IsItemsOf service) d

  -- the page of a live session that waits is good
  shown_good : (before w : World) (l : Live) (at : ℕ) (locals : Values) (rests : Rests) (d : Document) (shared : Values) (units turn : ℕ) → Contains w.live l
      → now service l.talk ≡ Shown at locals rests d shared units → CoversShown at d → IsMadePage d → turn ≡ current w.first l.talk
      → IsGood service schema before w (reply_to service l.number l.key (Shows d turn))
  shown_good before w l at locals rests d shared units turn live waits h made same =
      let n = current w.first l.talk in
      let link = spelling (paths.Turn l.number l.key n) in
      let g = show_good t schema facts accepted l.talk.session at link d.tree h in
      let page_of = λ (k : ℕ). print (show_page service.name (spelling (paths.Turn l.number l.key k)) d.tree) in
      record {
        session = l;
        is_live = live;
        at = at;
        locals = locals;
        rests = rests;
        document = d;
        shared = shared;
        units = units;
        waits = waits;
        is_made = made;
        page = show_page service.name link d.tree;
        is_page = refl;
        is_body = ap page_of same;
        valid = g.valid;
        fields = g.fields;
        reads = subst (λ body. ReadsAsValid schema body (joined (show_page service.name link d.tree))) (sym (ap page_of same))
            (show_reads service t.readable schema d made l.number l.key n g.valid);
      }

  -- so is the last page of a session that begins, or goes on
  ended_good : (w after : World) (number key : ℕ) (talk : Talk) (d : Document) (shared : Values) (units : ℕ) → IsNext w talk
      → now service talk ≡ Exited d shared units → covers (Exited d shared units) → IsMadePage d
      → IsGood service schema w after (reply_to service number key (Ends d))
  ended_good w after number key talk d shared units next comes h made =
      let valid = end_good t schema facts accepted h.at d.tree h.is_exit h.last_is in
      record {
        talk = talk;
        is_next = next;
        document = d;
        shared = shared;
        units = units;
        comes = comes;
        is_made = made;
        page = _;
        is_page = refl;
        is_body = refl;
        valid = valid;
        reads = last_reads service t.readable schema d made valid;
      }

  module _ (w : World) (form : Form) (h : CoversWorld service (F t schema facts accepted) w) (next : CoversNext service (F t schema facts accepted) w)
      (made : IsTextWorld (IsItemsOf service) w) (is_text : IsTextForm form) where
    -- what a session comes to that begins, or goes on
    begun_made : (session : ℕ) (o : Outcome) → now service (beginner w session) ≡ o → IsTextOutcome (IsItemsOf service) o
    begun_made session o e =
        let talk = beginner w session in
        subst (IsTextOutcome (IsItemsOf service)) e (results_are_made service talk t.readable ((next_are_made service w made).0 session))

    gone_made : (l : Live) (o : Outcome) → IsTextTalk (IsItemsOf service) l.talk → now service (with_input l.talk form w.shared) ≡ o
        → IsTextOutcome (IsItemsOf service) o
    gone_made l o m e =
        let talk = with_input l.talk form w.shared in
        subst (IsTextOutcome (IsItemsOf service)) e
        (results_are_made service talk t.readable ((next_are_made service w made).1 l.talk form m is_text))

    live_made : (number key : ℕ) (l : Live) (others : List Live) → Out number key w.live l others → IsTextTalk (IsItemsOf service) l.talk
    live_made number key l others o = (out_all (λ (m : Live). IsTextTalk (IsItemsOf service) m.talk) number key w.live l others o made.live).0

    -- and is covered
    begun_covered : (session : ℕ) (o : Outcome) → now service (beginner w session) ≡ o → covers o
    begun_covered session o e = subst covers e (next.begins session).result

    gone_covered : (number key : ℕ) (l : Live) (others : List Live) (o : Outcome) → Out number key w.live l others
        → now service (with_input l.talk form w.shared) ≡ o → covers o
    gone_covered number key l others o out e =
        let c = out_all (λ (m : Live). ComesToCovered service (F t schema facts accepted) (with_input m.talk form w.shared)) number key w.live l others out
        (next.goes_on form) in
        subst covers e c.0.result

    pub step_good : (s : Step) → View service w form s → IsGood service schema w s.world s.reply
    step_good _ (refused reply e) = no_page service schema w w reply e
    step_good _ (again l others number key at locals rests d shared units o e) =
        let c = out_all (λ (m : Live). CoversTalk service (F t schema facts accepted) m.talk) number key w.live l others o h.live in
        let k = subst (WaitsAtShow service (F t schema facts accepted)) e c.0.waits in
        let m = subst (IsTextOutcome (IsItemsOf service)) e (results_are_made service l.talk t.readable (live_made number key l others o)) in
        shown_good w (record w { live = l ∷ others }) l at locals rests d shared units (current w.first l.talk) (first_in l others) e k.1 m.shown_is refl
    step_good _ (begun key session (Went st) e) = tt
    step_good _ (begun key session (Shown at locals rests d shared units) e) =
        let l : Live = record { number = w.next; key = key; talk = beginner w session } in
        let after : World = record w { shared = shared; next = suc w.next; live = take 1000 (l ∷ w.live) } in
        shown_good w after l at locals rests d shared units w.first (first_in l (take 999 w.live)) e (begun_covered session _ e).shown_is
        (begun_made session _ e).shown_is (omega arith)
    step_good _ (begun key session (Exited d shared units) e) =
        ended_good w w w.next key (beginner w session) d shared units (begins session) e (begun_covered session _ e) (begun_made session _ e).last_is
    step_good _ (begun key session (Failed f units) e) = tt
    step_good _ (gone_on l others number key (Went st) o e) = tt
    step_good _ (gone_on l others number key (Shown at locals rests d shared units) o e) =
        let talk = with_input l.talk form w.shared in
        let m : Live = record l { talk = talk } in
        let i : Input = record { form = form; shared = w.shared } in
        let one = length-append l.talk.inputs (i ∷ []) in
        shown_good w (record w { shared = shared; live = m ∷ others }) m at locals rests d shared units (suc (current w.first l.talk)) (first_in m others) e
        (gone_covered number key l others _ o e).shown_is (gone_made l _ (live_made number key l others o) e).shown_is (omega (arith, one))
    step_good _ (gone_on l others number key (Exited d shared units) o e) =
        ended_good w w l.number l.key (with_input l.talk form w.shared) d shared units (goes_on l form (out_there number key w.live l others o)) e
        (gone_covered number key l others _ o e) (gone_made l _ (live_made number key l others o) e).last_is
    step_good _ (gone_on l others number key (Failed f units) o e) = tt
