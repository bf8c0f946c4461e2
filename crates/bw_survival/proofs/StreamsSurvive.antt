-- What is kept of a stream brings about the world that its messages left, also where a crash came.
use Rattle.std.proofs.Common.{◌≡◌, ℕ, List, [], ◌∷◌, ◌++◌, Option, Some, refl, sym, ap, ◌∙◌, subst, append-nil}
use Rattle.std.specs.List.{AllByRecursion}
use Rattle.bw_journal.specs.Layout.{Entry, Fits, entries_bytes, last_sum}
use Rattle.bw_journal.specs.Starts.{sum_at}
use Rattle.bw_journal.proofs.Readings.{fits_then, sum_then}
use Rattle.bw_lang.specs.declared.service.Service.{Service}
use Rattle.bw_model.specs.Runs.{At, answer_of}
use Rattle.bw_out.specs.Doors.{Returned}
use Rattle.bw_stable.specs.Deeds.{Deed, kept}
use Rattle.bw_world.specs.Streams.Courses.{bytes_by}
use Rattle.bw_bringing.specs.Bringing.{Brings}
use Rattle.bw_survival.specs.Laws.{HasGroups}
use Rattle.bw_survival.specs.Restarts.{Keeps}
use Rattle.bw_survival.specs.StreamLaws.{AreParted, HandledBring, HandledFit, KeptFirstInParts, StreamsSurvive}
use Rattle.bw_keeping.specs.Streamed.{AreKeptAt, AreKeptFirst, Message, entries_of, replies_to}
use Rattle.bw_survival.proofs.LinksBring.{entered_brings, entered_fit}
use Rattle.bw_keeping.proofs.StreamLists.{entries_then, written_behind}
use Rattle.bw_survival.proofs.Surviving.{left_so}

pub handled_bring : HandledBring
handled_bring formats service at [] to same = ap (λ (a : At). a.world) same
handled_bring formats service at (x ∷ xs) to (mid, one, rest) =
    entered_brings formats service at mid x.entries (entries_of xs) to.world one.entered (handled_bring formats service mid xs to rest)

pub handled_fit : HandledFit
handled_fit formats service at [] to same = tt
handled_fit formats service at (x ∷ xs) to (mid, one, rest) =
    fits_then x.entries (entries_of xs) (entered_fit formats service at mid x.entries one.entered) (handled_fit formats service mid xs to rest)

-- what is kept of one message is a group, or nothing
one_group : (sum : ℕ) (es others : List Entry) (returned : Option (List Returned)) (written : List ℕ) (piece later : List Deed)
    → AreKeptAt sum es returned written piece → HasGroups (last_sum sum es) others later → HasGroups sum (es ++ others) (piece ++ later)
one_group sum [] others returned written piece later none h =
    subst (λ (l : List Deed). HasGroups sum others (l ++ later)) (sym none) h
one_group sum (e ∷ es) others returned written piece later is h =
    subst (λ (l : List Deed). HasGroups sum ((e ∷ es) ++ others) (l ++ later)) (sym is) (record {
      groups = (e ∷ es) ∷ h.groups;
      kept = (refl, h.kept);
      all = ap (λ (l : List Entry). (e ∷ es) ++ l) h.all;
    })

pub messages_are_groups : (service : Service) (sum : ℕ) (returned : Option (List Returned)) (written : List ℕ) (xs : List Message) (deeds : List Deed)
    → AreKeptFirst service sum returned written xs deeds → HasGroups sum (entries_of xs) deeds
messages_are_groups service sum returned written [] deeds none =
    record { groups = []; kept = subst (λ (ds : List Deed). Keeps sum ds []) (sym none) refl; all = refl }
messages_are_groups service sum returned written (x ∷ xs) deeds (piece, later, all, at, rest) =
    subst (λ (ds : List Deed). HasGroups sum (entries_of (x ∷ xs)) ds) (sym all)
    (one_group sum x.entries (entries_of xs) returned written piece later at
    (messages_are_groups service (last_sum sum x.entries) returned (written ++ bytes_by service x.reply) xs later rest))

-- ---- parts

-- the first deeds are the piece of the first message, and then others
record IsSplit (piece later done undone : List Deed) : Type 0 where
  rest : List Deed
  done_is : done ≡ piece ++ rest
  later_is : later ≡ rest ++ undone

split_behind : (sum : ℕ) (es : List Entry) (returned : Option (List Returned)) (written : List ℕ) (piece later : List Deed) (deed : Deed)
    (done undone : List Deed) → AreKeptAt sum es returned written piece → (deed ∷ done) ++ undone ≡ piece ++ later
    → IsSplit piece later (deed ∷ done) undone
split_behind sum [] returned written piece later deed done undone none all = record {
  rest = deed ∷ done;
  done_is = ap (λ (l : List Deed). l ++ (deed ∷ done)) (sym none);
  later_is = sym (all ∙ ap (λ (l : List Deed). l ++ later) none);
}
split_behind sum (e ∷ es) returned written piece later deed done undone is all =
    let first : Deed = kept (entries_bytes sum (e ∷ es)) returned (Some written) in
    let same : deed ∷ (done ++ undone) ≡ first ∷ later = all ∙ ap (λ (l : List Deed). l ++ later) is in
    let heads : deed ≡ first = cc in
    let tails : done ++ undone ≡ later = cc in
    record { rest = done; done_is = ap (λ (d : Deed). d ∷ done) heads ∙ ap (λ (l : List Deed). l ++ done) (sym is); later_is = sym tails }

pub kept_first_in_parts : KeptFirstInParts
kept_first_in_parts service sum returned written xs [] undone are = record {
  first = [];
  others = xs;
  all = refl;
  before = refl;
  behind = subst (λ (w : List ℕ). AreKeptFirst service sum returned w xs undone) (sym (append-nil written)) are;
}
kept_first_in_parts service sum returned written [] (deed ∷ done) undone none = absurd cc
kept_first_in_parts service sum returned written (x ∷ xs) (deed ∷ done) undone (piece, later, all, at, rest) =
    let after = last_sum sum x.entries in
    let shown = written ++ bytes_by service x.reply in
    let s = split_behind sum x.entries returned written piece later deed done undone at all in
    let p = kept_first_in_parts service after returned shown xs s.rest undone
    (subst (λ (ds : List Deed). AreKeptFirst service after returned shown xs ds) s.later_is rest) in
    record {
      first = x ∷ p.first;
      others = p.others;
      all = ap (λ (l : List Message). x ∷ l) p.all;
      before = (piece, s.rest, s.done_is, at, p.before);
      behind = subst (λ (n : ℕ). AreKeptFirst service n returned (written ++ answer_of service (replies_to (x ∷ p.first))) p.others undone)
          (sym (sum_then sum x.entries (entries_of p.first)))
          (subst (λ (w : List ℕ). AreKeptFirst service (last_sum after (entries_of p.first)) returned w p.others undone)
          (written_behind service written x p.first) p.behind);
    }

-- whenever a crash comes
pub streams_survive : StreamsSurvive
streams_survive formats service origin start before at messages to returned written deeds left fits brings handled are may =
    let sum = last_sum (sum_at start) before in
    let p : AreParted service sum returned written messages may.done may.undone =
    kept_first_in_parts service sum returned written messages may.done may.undone
    (subst (λ (ds : List Deed). AreKeptFirst service sum returned written messages ds) (sym may.all) are) in
    let all : entries_of messages ≡ entries_of p.first ++ entries_of p.others =
    ap (λ (xs : List Message). entries_of xs) p.all ∙ entries_then p.first p.others in
    let l = left_so formats service origin at.world to.world start before (entries_of p.first) (entries_of p.others) deeds left fits
    (subst (AllByRecursion Fits) all (handled_fit formats service at messages to handled)) brings
    (subst (λ (es : List Entry). Brings formats service at.world es to.world) all (handled_bring formats service at messages to handled)) may
    (messages_are_groups service sum returned written p.first may.done p.before)
    (messages_are_groups service (last_sum sum (entries_of p.first)) returned (written ++ answer_of service (replies_to p.first)) p.others may.undone
    p.behind) in
    record {
      parts = p;
      found = l.found;
      lost = l.lost;
      others_are = l.others_are;
      is_file = l.is_file;
      world = l.world;
      brings = l.brings;
      goes_on = l.goes_on;
    }
