-- Messages of a stream, and then others.
use Rattle.std.proofs.Common.{◌≡◌, ◌+◌, ℕ, List, [], ◌∷◌, ◌++◌, Option, refl, sym, ap, ◌∙◌, subst, arith, append_assoc, append-nil}
use Rattle.bw_format.specs.declared.format.Format.{Format}
use Rattle.bw_http.specs.declared.replies.Reply.{Reply}
use Rattle.bw_journal.specs.Layout.{Entry, last_sum}
use Rattle.bw_journal.proofs.Readings.{sum_then}
use Rattle.bw_lang.specs.declared.service.Service.{Service}
use Rattle.bw_model.specs.Runs.{At, answer_of}
use Rattle.bw_out.specs.Doors.{Returned}
use Rattle.bw_stable.specs.Deeds.{Deed}
use Rattle.bw_world.specs.Streams.Courses.{bytes_by}
use Rattle.bw_keeping.specs.Streamed.{AreHandled, AreKeptAt, AreKeptFirst, Message, costs_of, entries_of, replies_to}

pub replies_then : (xs ys : List Message) → replies_to (xs ++ ys) ≡ replies_to xs ++ replies_to ys
replies_then [] ys = refl
replies_then (x ∷ xs) ys = ap (λ (rs : List Reply). x.reply ∷ rs) (replies_then xs ys)

pub costs_then : (xs ys : List Message) → costs_of (xs ++ ys) ≡ costs_of xs + costs_of ys
costs_then [] ys = omega arith
costs_then (x ∷ xs) ys = let e = costs_then xs ys in omega (arith, e)

pub entries_then : (xs ys : List Message) → entries_of (xs ++ ys) ≡ entries_of xs ++ entries_of ys
entries_then [] ys = refl
entries_then (x ∷ xs) ys = ap (λ (es : List Entry). x.entries ++ es) (entries_then xs ys) ∙ sym (append_assoc x.entries (entries_of xs) (entries_of ys))

pub handled_then : (formats : List Format) (service : Service) (at mid to : At) (xs ys : List Message) → AreHandled formats service at xs mid
    → AreHandled formats service mid ys to → AreHandled formats service at (xs ++ ys) to
handled_then formats service at mid to [] ys first then = subst (λ (a : At). AreHandled formats service a ys to) first then
handled_then formats service at mid to (x ∷ xs) ys (next, one, rest) then = (next, one, handled_then formats service next mid to xs ys rest then)

-- the reply to a message, and then those to others
pub written_behind : (service : Service) (written : List ℕ) (x : Message) (xs : List Message)
    → (written ++ bytes_by service x.reply) ++ answer_of service (replies_to xs) ≡ written ++ answer_of service (replies_to (x ∷ xs))
written_behind service written x xs = append_assoc written (bytes_by service x.reply) (answer_of service (replies_to xs))

pub kept_then : (service : Service) (sum : ℕ) (returned : Option (List Returned)) (written : List ℕ) (xs ys : List Message) (ds es : List Deed)
    → AreKeptFirst service sum returned written xs ds
    → AreKeptFirst service (last_sum sum (entries_of xs)) returned (written ++ answer_of service (replies_to xs)) ys es
    → AreKeptFirst service sum returned written (xs ++ ys) (ds ++ es)
kept_then service sum returned written [] ys ds es first then =
    subst (λ (l : List Deed). AreKeptFirst service sum returned written ys (l ++ es)) (sym first)
    (subst (λ (w : List ℕ). AreKeptFirst service sum returned w ys es) (append-nil written) then)
kept_then service sum returned written (x ∷ xs) ys ds es (piece, later, all, at, rest) then =
    let after = last_sum sum x.entries in
    let shown = written ++ bytes_by service x.reply in
    let summed = subst (λ (n : ℕ). AreKeptFirst service n returned (written ++ answer_of service (replies_to (x ∷ xs))) ys es)
    (sum_then sum x.entries (entries_of xs)) then in
    let told = subst (λ (w : List ℕ). AreKeptFirst service (last_sum after (entries_of xs)) returned w ys es) (sym (written_behind service written x xs)) summed in (
      piece,
      later ++ es,
      ap (λ (l : List Deed). l ++ es) all ∙ append_assoc piece later es,
      at,
      kept_then service after returned shown xs ys later es rest told,
    )

-- one message alone
pub kept_one : (service : Service) (sum : ℕ) (returned : Option (List Returned)) (written : List ℕ) (x : Message) (piece : List Deed)
    → AreKeptAt sum x.entries returned written piece → AreKeptFirst service sum returned written (x ∷ []) piece
kept_one service sum returned written x piece at = (piece, [], sym (append-nil piece), at, refl)
