-- Serving so far: links were answered and given back, and others wait.
use Rattle.std.proofs.Common.{◌≡◌, ◌⊎◌, ◌+◌, ℕ, List, [], ◌∷◌, ◌++◌, length, Option, Some, refl, sym, ap, ◌∙◌}
use Rattle.std.proofs.Common.{subst, inl, inr, arith, append_assoc, append-nil, length-append}
use Rattle.bw_format.specs.declared.format.Format.{Format}
use Rattle.bw_journal.specs.Layout.{Entry, entries_bytes, last_sum}
use Rattle.bw_journal.proofs.Readings.{sum_then}
use Rattle.bw_lang.specs.declared.service.Service.{Service}
use Rattle.bw_out.specs.Doors.{Returned}
use Rattle.bw_out.specs.Told.{Coming}
use Rattle.bw_out.specs.declared.outside.Channel.{Ghosts}
use Rattle.bw_stable.specs.Deeds.{Deed, Does, kept}
use Rattle.bw_world.specs.Seen.{Seen}
use Rattle.bw_world.specs.Streams.Courses.{Between}
use Rattle.bw_keeping.specs.Answered.{AreAnswered, Exchange, backs_of, entries_of}
use Rattle.bw_keeping.specs.Kept.{AreKept}
use Rattle.bw_keeping.specs.Served.{Tells, View, view}
use Rattle.bw_keeping.specs.Steps.{Desk, Flushes, GivesBackAll, Keeps, desk, written}
use Rattle.bw_keeping.specs.declared.waiting.Waiting.{Waiting}
use Rattle.bw_keeping.proofs.Lists.{entries_then}
use Rattle.bw_keeping.proofs.Pieces.{backs_then, no_bytes, piece_more, quiet_more}
use Rattle.bw_keeping.proofs.Queued.{AreTaken, WereAnswered, all_answered, answered_then, none_written}

-- what is seen of all but what a flush changes
pub record Sight : Type 0 where
  pub world : Seen
  pub keys : Option Coming
  pub coming : Option (List (List ℕ))
  pub steps : ℕ

abbrev pub sight : Seen → Option Coming → Option (List (List ℕ)) → ℕ → Sight
sight world keys coming steps = record { world = world; keys = keys; coming = coming; steps = steps }

-- all that is seen
abbrev pub seen : {Link : Type 0} → Sight → Desk Link → View
seen s d = view s.world s.keys s.coming d.returned d.deeds d.sum s.steps

module _ {Link : Type 0} (channel : Ghosts Link) (formats : List Format) (service : Service) where
  -- So many links were taken from there on: some were answered and given back, and the others wait. What is to be kept of
  -- these is on the desk.
  pub record IsSoFar (n sum : ℕ) (from : Between) (links : List (List ℕ)) (given : List Returned) (deeds : List Deed) (s : Sight) (d : Desk Link) : Type 0 where
    pub exchanges : List Exchange
    pub mid : Between
    pub came : List (List ℕ)
    pub pieces : List Deed
    pub entries : List Entry
    pub to : Between
    pub rest : List (List ℕ)
    pub answered : AreAnswered formats service from links exchanges mid came
    pub taken : AreTaken channel formats service mid came d.waiting entries to rest
    pub kept : AreKept sum given exchanges pieces
    pub tells : Tells (seen s d) to rest (given ++ backs_of exchanges) (deeds ++ pieces)
    pub bytes : d.bytes ≡ entries_bytes (last_sum sum (entries_of exchanges)) entries
    pub sum_is : d.sum ≡ last_sum (last_sum sum (entries_of exchanges)) entries
    pub count : length exchanges + length d.waiting ≡ n

  -- so it is wherever all was told
  abbrev pub HasTaken : ℕ → View → Sight → Desk Link → Type 0
  HasTaken n before s d =
      (from : Between) (links : List (List ℕ)) (given : List Returned) (deeds : List Deed) → Tells before from links given deeds
      → IsSoFar n before.sum from links given deeds s d

  pub none_taken : (s : Sight) (d : Desk Link) → d.bytes ≡ [] → d.waiting ≡ [] → HasTaken 0 (seen s d) s d
  none_taken s d empty none from links given deeds t = record {
    exchanges = [];
    mid = from;
    came = links;
    pieces = [];
    entries = [];
    to = from;
    rest = links;
    answered = (refl, refl);
    taken = subst (λ (ws : List (Waiting Link)). AreTaken channel formats service from links ws [] from links) (sym none) (refl, refl, refl);
    kept = refl;
    tells = record {
      stands = t.stands;
      keys = t.keys;
      coming = t.coming;
      returned = t.returned ∙ ap Some (sym (append-nil given));
      deeds = t.deeds ∙ ap Some (sym (append-nil deeds));
      steps = t.steps;
    };
    bytes = empty;
    sum_is = refl;
    count = let size : length d.waiting ≡ 0 = ap length none in omega arith;
  }

  -- ---- a flush

  -- the links that waited were answered, and so many pieces are kept
  abbrev Piles : ℕ → List Returned → List Deed → List Exchange → List Exchange → Option (List Deed) → Type 0
  Piles sum given deeds xs ys now = (pieces : List Deed) × AreKept sum given (xs ++ ys) pieces × (now ≡ Some (deeds ++ pieces))

  piled : (sum : ℕ) (given : List Returned) (deeds pieces : List Deed) (xs ys : List Exchange) (bytes : List ℕ) (before now : Option (List Deed))
      (returned : Option (List Returned)) (unsent : Option (List ℕ)) → AreKept sum given xs pieces
      → bytes ≡ entries_bytes (last_sum sum (entries_of xs)) (entries_of ys) → before ≡ Some (deeds ++ pieces) → returned ≡ Some (given ++ backs_of xs)
      → unsent ≡ Some [] → Keeps before now bytes returned unsent → Piles sum given deeds xs ys now
  piled sum given deeds pieces xs ys bytes before now returned unsent are is told back none (inl k) =
      (pieces, quiet_more sum given xs ys pieces are (no_bytes (last_sum sum (entries_of xs)) (entries_of ys) (sym is ∙ k.0)), k.1 ∙ told)
  piled sum given deeds pieces xs ys bytes before now returned unsent are is told back none (inr k) =
      let deed : Deed = kept bytes returned unsent in
      let does : now ≡ Some ((deeds ++ pieces) ++ deed ∷ []) = subst (λ (b : Option (List Deed)). Does b now deed) told k.1 in (
        pieces ++ deed ∷ [],
        piece_more sum given xs ys pieces deed are (is, back, none),
        does ∙ ap Some (append_assoc deeds pieces (deed ∷ [])),
      )

  -- links were given back behind others
  gave : (given : List Returned) (xs ys : List Exchange) (backs : List Returned) (before now : Option (List Returned)) → before ≡ Some (given ++ backs_of xs)
      → backs_of ys ≡ backs → GivesBackAll before now backs → now ≡ Some (given ++ backs_of (xs ++ ys))
  gave given xs ys backs before now told are gives =
      let all : now ≡ Some ((given ++ backs_of xs) ++ backs) = subst (λ (b : Option (List Returned)). GivesBackAll b now backs) told gives in
      all ∙ ap Some (append_assoc given (backs_of xs) backs ∙ ap (λ (bs : List Returned). given ++ (backs_of xs ++ bs)) (sym are)
      ∙ ap (λ (bs : List Returned). given ++ bs) (sym (backs_then xs ys)))

  -- the check behind all that is kept
  summed : (sum : ℕ) (xs ys : List Exchange) (entries : List Entry) (before now : ℕ) → before ≡ last_sum (last_sum sum (entries_of xs)) entries
      → entries_of ys ≡ entries → now ≡ before → now ≡ last_sum sum (entries_of (xs ++ ys))
  summed sum xs ys entries before now is are same =
      same ∙ is ∙ ap (λ (es : List Entry). last_sum (last_sum sum (entries_of xs)) es) (sym are)
      ∙ sym (sum_then sum (entries_of xs) (entries_of ys)) ∙ ap (λ (es : List Entry). last_sum sum es) (sym (entries_then xs ys))

  pub flushed : (n : ℕ) (before : View) (s : Sight) (d later : Desk Link) → HasTaken n before s d → Flushes channel service d later
      → HasTaken n before s later
  flushed n before s d later had f from links given deeds told =
      let h = had from links given deeds told in
      let a : WereAnswered channel formats service h.mid h.came d.waiting h.entries h.to h.rest f.backs =
      all_answered channel formats service h.mid h.to h.came h.rest d.waiting h.entries f.backs h.taken f.replied in
      let S = last_sum before.sum (entries_of h.exchanges) in
      let p : Piles before.sum given deeds h.exchanges a.0 later.deeds =
      piled before.sum given deeds h.pieces h.exchanges a.0 d.bytes d.deeds later.deeds d.returned (written channel d.waiting)
      h.kept (h.bytes ∙ ap (λ (es : List Entry). entries_bytes S es) (sym a.2)) h.tells.deeds h.tells.returned
      (none_written channel formats service h.mid h.to h.came h.rest d.waiting h.entries h.taken) f.keeps in
      let size = length-append h.exchanges a.0 in
      let none : length later.waiting ≡ 0 = ap length f.waiting in
      record {
        exchanges = h.exchanges ++ a.0;
        mid = h.to;
        came = h.rest;
        pieces = p.0;
        entries = [];
        to = h.to;
        rest = h.rest;
        answered = answered_then formats service from h.mid h.to links h.came h.rest h.exchanges a.0 h.answered a.4;
        taken = subst (λ (ws : List (Waiting Link)). AreTaken channel formats service h.to h.rest ws [] h.to h.rest) (sym f.waiting) (refl, refl, refl);
        kept = p.1;
        tells = record {
          stands = h.tells.stands;
          keys = h.tells.keys;
          coming = h.tells.coming;
          returned = gave given h.exchanges a.0 f.backs d.returned later.returned h.tells.returned a.1 f.returned;
          deeds = p.2;
          steps = h.tells.steps;
        };
        bytes = f.bytes;
        sum_is = summed before.sum h.exchanges a.0 h.entries d.sum later.sum h.sum_is a.2 f.sum;
        count = omega (arith, size, none, a.3, h.count);
      }

  -- the links to come are seen anew
  moved : (n : ℕ) (before : View) (world : Seen) (keys : Option Coming) (coming later : Option (List (List ℕ))) (steps : ℕ) (d : Desk Link)
      → HasTaken n before (sight world keys coming steps) d → later ≡ coming → HasTaken n before (sight world keys later steps) d
  moved n before world keys coming later steps d had same =
      subst (λ (x : Option (List (List ℕ))). HasTaken n before (sight world keys x steps) d) (sym same) had

  -- the links that were given back are seen anew
  pub given_so : (n : ℕ) (before : View) (s : Sight) (returned later : Option (List Returned)) (deeds : Option (List Deed)) (bytes : List ℕ) (sum : ℕ)
      (ws : List (Waiting Link)) → HasTaken n before s (desk returned deeds bytes sum ws) → later ≡ returned
      → HasTaken n before s (desk later deeds bytes sum ws)
  given_so n before s returned later deeds bytes sum ws had same =
      subst (λ (x : Option (List Returned)). HasTaken n before s (desk x deeds bytes sum ws)) (sym same) had

  -- what the service of the world does is done by this one
  pub by_service : (v : Service) (d later : Desk Link) → v ≡ service → Flushes channel v d later → Flushes channel service d later
  by_service v d later same f = subst (λ (x : Service). Flushes channel x d later) same f

  -- a flush, where one was due
  pub made_room : (n : ℕ) (before : View) (world : Seen) (keys : Option Coming) (coming later : Option (List (List ℕ))) (steps : ℕ) (v : Service)
      (d then : Desk Link) → HasTaken n before (sight world keys coming steps) d → v ≡ service
      → (then ≡ d) ⊎ Flushes channel v d then → later ≡ coming → HasTaken n before (sight world keys later steps) then
  made_room n before world keys coming later steps v d then had by (inl same) move =
      moved n before world keys coming later steps then (subst (λ (x : Desk Link). HasTaken n before (sight world keys coming steps) x) (sym same) had) move
  made_room n before world keys coming later steps v d then had by (inr f) move =
      moved n before world keys coming later steps then
      (flushed n before (sight world keys coming steps) d then had (by_service v d then by f)) move
