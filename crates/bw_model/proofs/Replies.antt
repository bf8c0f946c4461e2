-- What a live session is replied.
use Rattle.std.proofs.Common.{◌≡◌, ℕ, Bool, true, false, List, Option, Some, None, refl, sym, ap, ◌∙◌, subst}
use Rattle.std.specs.Prelude.{◌==◌, ◌&&◌, if◌then◌else◌, find}
use Rattle.std.proofs.lemmas.Bool.{and_parts, eqb-true}
use Rattle.bw_http.specs.declared.request.Method.{Method}
use Rattle.bw_http.specs.declared.request.Method.TheVariants.{Get, Post, Other}
use Rattle.bw_http.specs.declared.request.Path.{Path}
use Rattle.bw_http.specs.declared.request.Path.TheVariants as paths
use Rattle.bw_lang.specs.declared.service.Service.{Service}
use Rattle.bw_meaning.specs.States.{Form}
use Rattle.bw_model.specs.Answers.{Said}
use Rattle.bw_model.specs.Laws.{RepliesAreAnswers}
use Rattle.bw_model.specs.Sessions.{Live, World}
use Rattle.bw_model.specs.Steps.{is_of, reply_to, Answerer, asks_by, taken_out, on_path_by}
use Rattle.bw_model.specs.Talks.{said_by, said_at}
use Rattle.bw_model.proofs.Found.{IsOut, no_session, session, out, found, out_is, has_number, has_key}

module _ (ans : Answerer) (service : Service) (w : World) (number key : ℕ) (l : Live) (there : find (is_of number key) w.live ≡ Some l) (form : Form)
    (drawn : ℕ) (said : Said) where
  -- a visit is replied by it
  visit : (method : Method) (turn : ℕ) (o : Option (Live × List Live)) → IsOut number key w.live o →
      (asks_by ans service w method form turn o).reply
      ≡ reply_to service number key (ans w.first l.talk (record { method = method; form = form; turn = turn; shared = w.shared })).answer
  visit method turn None (no_session none) = cc
  visit method turn (Some _) (session m others o) =
      let is : Some m ≡ Some l = sym (found number key w.live m others o) ∙ there in
      let same : m ≡ l = cc in
      let here = out_is number key w.live m others o in
      let answer = λ (x : Live). (ans w.first x.talk (record { method = method; form = form; turn = turn; shared = w.shared })).answer in
      ap (λ n. reply_to service n m.key (answer m)) (has_number number key m here)
      ∙ ap (λ k. reply_to service number k (answer m)) (has_key number key m here) ∙ ap (λ x. reply_to service number key (answer x)) same

  said_is : (s : Said) → Some s ≡ Some said → s ≡ said
  said_is s e = cc

  by_method : (method : Method) (turn : ℕ) → said_by method form turn w.shared ≡ Some said →
      (on_path_by ans service w method form drawn (paths.Turn number key turn)).reply ≡ reply_to service number key (ans w.first l.talk said).answer
  by_method Get turn e =
      visit Get turn (taken_out number key w.live) (out number key w.live)
      ∙ ap (λ x. reply_to service number key (ans w.first l.talk x).answer) (said_is _ e)
  by_method Post turn e =
      visit Post turn (taken_out number key w.live) (out number key w.live)
      ∙ ap (λ x. reply_to service number key (ans w.first l.talk x).answer) (said_is _ e)
  by_method Other turn e = cc

  pub replied : (method : Method) (path : Path) → said_at number key method form w.shared path ≡ Some said →
      (on_path_by ans service w method form drawn path).reply ≡ reply_to service number key (ans w.first l.talk said).answer
  replied method paths.Index e = cc
  replied method (paths.Start name) e = cc
  replied method paths.Other e = cc
  replied method (paths.Turn n k turn) e = either (number == n && key == k) refl e
    where
      either : (b : Bool) → (number == n && key == k) ≡ b → (if b then said_by method form turn w.shared else None) ≡ Some said →
          (on_path_by ans service w method form drawn (paths.Turn n k turn)).reply ≡ reply_to service number key (ans w.first l.talk said).answer
      either true is e =
          let parts = and_parts (number == n) (key == k) is in
          let due = reply_to service number key (ans w.first l.talk said).answer in
          subst (λ x. (on_path_by ans service w method form drawn (paths.Turn x k turn)).reply ≡ due) (eqb-true number n parts.0)
          (subst (λ y. (on_path_by ans service w method form drawn (paths.Turn number y turn)).reply ≡ due) (eqb-true key k parts.1) (by_method method turn e))
      either false is e = cc

pub replies_are_answers : RepliesAreAnswers
replies_are_answers ans service w number key l a said there e =
    replied ans service w number key l there a.request.form a.key said a.request.method a.request.path e
