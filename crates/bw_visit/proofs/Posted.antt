-- A page that is filled in and posted misses no field.
use Rattle.std.proofs.Common.{◌≡◌, ◌<◌, ◌^◌, ℕ, false, List, length, Option, Some, None, sym, ap, ◌∙◌, subst, Ok}
use Rattle.bw_agent.proofs.PageForms.{read_pages_have_forms}
use Rattle.bw_agent.proofs.Texts.{markup_sends_text, forms_are_markup}
use Rattle.bw_agent.specs.Controls.{controls}
use Rattle.bw_agent.specs.Filled.{filled, unknown}
use Rattle.bw_agent.specs.Fills.{fills, fills_form, unless_unknown, sent_by}
use Rattle.bw_agent.specs.Forms.{form_in}
use Rattle.bw_agent.specs.Laws.{IsFormOf}
use Rattle.bw_agent.specs.declared.page.Filled.{Filled}
use Rattle.bw_cover.specs.Received.{scope_of, received_of}
use Rattle.bw_flow.specs.declared.point.Received.{Received}
use Rattle.bw_http.specs.Cuts.{Cut}
use Rattle.bw_http.specs.Forms.{form_of}
use Rattle.bw_http.specs.Paths.{IsForm, spelling}
use Rattle.bw_http.specs.declared.request.Method.TheVariants.{Post}
use Rattle.bw_http.specs.declared.request.Path.TheVariants.{Turn}
use Rattle.bw_http.specs.declared.request.Request.{Request}
use Rattle.bw_lang.specs.Document.Forest.{Forest}
use Rattle.bw_lang.specs.Document.Print.{joined}
use Rattle.bw_lang.specs.Service.Submissions.{IsTextForm}
use Rattle.bw_lang.specs.Template.Controls.{fields, control_names}
use Rattle.bw_lang.specs.declared.items.Element.{Element}
use Rattle.bw_lang.specs.declared.service.Service.{Service}
use Rattle.bw_meaning.specs.States.{Form}
use Rattle.bw_model.specs.Laws.{IsWorld}
use Rattle.bw_model.specs.Received.{receives_of}
use Rattle.bw_model.specs.Sessions.{World, now, current}
use Rattle.bw_model.specs.Steps.{step, taken_out}
use Rattle.bw_page.specs.Pages.{show_page}
use Rattle.bw_read.proofs.Joining.{joins_no_field}
use Rattle.bw_read.proofs.Pages.{pages_are_markup}
use Rattle.bw_read.specs.Pages.{IsPage}
use Rattle.bw_run.specs.Missing.{first_missing}
use Rattle.bw_schema.specs.declared.schema.Schema.{Schema}
use Rattle.bw_sound.specs.Good.{IsGoodShow}
use Rattle.bw_typed.proofs.Services.{shared_are_no_lists}
use Rattle.bw_types.specs.declared.typed.Typed.{Typed}
use Rattle.bw_user.proofs.Read.{posts_are_read}
use Rattle.bw_user.proofs.ReadBack.{bodies_read_back}
use Rattle.bw_user.proofs.Taken.{filled_misses_none}
use Rattle.bw_user.specs.Laws.{is_missing}
use Rattle.bw_user.specs.Messages.{post}
use Rattle.bw_waiting.proofs.KindsKept.{waiting_fits}
use Rattle.bw_visit.proofs.Replies.{each, Misses, asks_quiet, one_live, not_said}
use Rattle.bw_visit.specs.Laws.{RefusedAlike}
use Rattle.bw_visit.specs.Visits.{is_amiss}
use Rattle.bw_waiting.specs.Worlds.{IsKindedTalk, IsKindedWorld, IsNumberedWorld}
use Rattle.bw_world.proofs.Refusals.{refusals_agree}

pub refused_alike : RefusedAlike
refused_alike t talk at locals rests shown shared units kinded waits form =
    refusals_agree t.service (scope_of t.service talk.session at) locals form (shared_are_no_lists t.service t.readable)
    (waiting_fits t talk at locals rests shown shared units kinded waits) (receives_of t.service talk.session at)

-- what is sent is by the form, where no answer is unknown
sent_is : (o : Option (List ℕ)) (form : Element) (answers : Form) (f : Filled) → unless_unknown o form answers ≡ Ok f → f ≡ sent_by form answers
sent_is None form answers f e = let g : sent_by form answers ≡ f = cc in sym g
sent_is (Some n) form answers f e = absurd cc

module _ (t : Typed) (schema : Schema) (w : World) (kinded : IsKindedWorld t.service w) (numbered : IsNumberedWorld w) (apart : IsWorld w) (body : List ℕ)
    (good : IsGoodShow t.service schema w body) (d : Forest) (page : IsPage body d) (answers : Form) (texts : IsTextForm answers) (f : Filled)
    (is : fills d answers ≡ Ok f) where
  abbrev service : Service
  service = t.service

  abbrev number : ℕ
  number = good.session.number

  abbrev key : ℕ
  key = good.session.key

  abbrev turn : ℕ
  turn = current w.first good.session.talk

  abbrev target : List ℕ
  target = spelling (Turn number key turn)

  abbrev shown : Forest
  shown = show_page service.name target good.document.tree

  -- ---- the form that is filled in

  d_is : d ≡ joined shown
  d_is = good.reads.only d page ∙ ap joined good.is_page

  abbrev form : Element
  form = (read_pages_have_forms service.name target good.document.tree).0

  form_is : IsFormOf target (joined shown) form
  form_is = (read_pages_have_forms service.name target good.document.tree).1

  there : form_in d ≡ Some form
  there = ap form_in d_is ∙ form_is.is

  f_is : f ≡ sent_by form answers
  f_is = sent_is (unknown (control_names form.items) answers) form answers f (ap (λ o. fills_form o answers) (sym there) ∙ is)

  abbrev pairs : Form
  pairs = filled (controls form.items) answers

  pairs_are : form_of f.body ≡ pairs
  pairs_are =
      ap (λ (x : Filled). form_of x.body) f_is
      ∙ bodies_read_back pairs (markup_sends_text form.items answers (forms_are_markup d form (pages_are_markup body d page) there) texts)

  target_is : f.target ≡ target
  target_is = ap (λ (x : Filled). x.target) f_is ∙ form_is.target_is

  fields_are : fields form.items ≡ fields good.page
  fields_are = form_is.fields_are ∙ joins_no_field shown ∙ ap fields (sym good.is_page)

  -- ---- it misses no field

  abbrev received : List Received
  received = received_of service good.session.talk.session good.at

  none_missing : is_missing (first_missing received pairs) ≡ false
  none_missing = filled_misses_none service good.page form.items received answers good.fields fields_are

  session_kinded : IsKindedTalk service good.session.talk
  session_kinded = each (λ l. IsKindedTalk service l.talk) w.live good.session kinded.live good.is_live

  own_misses : Misses service good.session.talk pairs (now service good.session.talk)
  own_misses =
      subst (Misses service good.session.talk pairs) (sym good.waits)
      (λ r e. not_said (first_missing received pairs) none_missing r
      (sym (refused_alike t good.session.talk good.at good.locals good.rests good.document good.shared good.units session_kinded good.waits pairs) ∙ e))

  -- ---- what is posted is this request, and is answered

  abbrev pub request : Request
  request = record { method = Post; path = Turn number key turn; form = pairs }

  pub request_is : (r : Request) (rest : List ℕ) → length f.body < 2 ^ 64 → Cut (post f.target f.body) (Ok r) rest → r ≡ request
  request_is r rest small cut =
      posts_are_read number key turn f.body rest r
      (each (λ l. IsForm (Turn l.number l.key (current w.first l.talk))) w.live good.session numbered.live good.is_live) small
      (subst (λ x. Cut (post x f.body) (Ok r) rest) target_is cut)
      ∙ ap (λ x. record { method = Post; path = Turn number key turn; form = x }) pairs_are

  pub request_quiet : (drawn : ℕ) → is_amiss (step service w request drawn).reply ≡ false
  request_quiet drawn =
      asks_quiet service w pairs turn (taken_out number key w.live) (λ l others e.
      subst (λ x. Misses service x.talk pairs (now service x.talk))
      (sym (one_live w.next w.live good.session apart.apart good.is_live l others e)) own_misses)
