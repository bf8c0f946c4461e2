-- A visit goes on.
use Rattle.std.proofs.Common.{◌≡◌, ℕ, List, [], ◌∷◌, ◌++◌, Option, refl, sym, ap, ◌∙◌, subst, append_assoc, append-nil}
use Rattle.std.proofs.KnownBytes.{Appends-nil, Appends-trans}
use Rattle.std.specs.Io.KnownBytes.{Appends}
use Rattle.bw_format.specs.declared.format.Format.{Format}
use Rattle.bw_http.specs.declared.replies.Reply.{Reply}
use Rattle.bw_lang.specs.declared.service.Service.{Service}
use Rattle.bw_model.specs.Runs.{answer_of}
use Rattle.bw_out.specs.Writes.{AppendsPart}
use Rattle.bw_user.specs.Messages.{body_in}
use Rattle.bw_world.specs.Streams.Courses.{bytes_by}
use Rattle.bw_visit.specs.Ends.{Prints, IsVisited, Visited}
use Rattle.bw_visit.specs.Exchanges.{Standing, Exchanges}
use Rattle.bw_visit.specs.Visits.{Next, Over, Sends, Asks, Does, Done, Unknown, is_over, is_unknown, last, quiet, no_room, broken, more}
use Rattle.bw_visit.specs.declared.visiting.VisitEnd.{VisitEnd}
use Rattle.bw_visit.specs.declared.visiting.VisitEnd.TheVariants as ends

-- no memory, and nothing was sent
pub quiet_visit : (message lines : List ℕ) (old new : Standing) (held : Option (List ℕ)) → Visited message lines old new held held ends.Memory
quiet_visit message lines old new held from b =
    record { to = from; replies = []; visits = quiet from message lines; stands = tt; prints = Appends-nil held }

module _ (message lines : List ℕ) (old mid : Standing) (held after : Option (List ℕ)) (sink : List ℕ) (exchange : Exchanges message old mid sink) where
  abbrev service : Service
  service = old.seen.service

  one_printed : (reply : Reply) → sink ≡ bytes_by service reply → Appends held after sink → Appends held after (answer_of service (reply ∷ []))
  one_printed reply e h = subst (Appends held after) (e ∙ sym (append-nil (bytes_by service reply))) h

  does_by : (body : List ℕ) (reply : Reply) (next : Next) → sink ≡ bytes_by service reply → body ≡ body_in sink → Does body lines next
      → Does (body_in (bytes_by service reply)) lines next
  does_by body reply next e f d = subst (λ b. Does b lines next) (f ∙ ap body_in e) d

  pub broken_visit : AppendsPart held after sink → Visited message lines old mid held after ends.WriteFault
  broken_visit part from b =
      let x = exchange from b in
      record {
        to = x.to;
        replies = x.reply ∷ [];
        visits = broken from x.to message lines x.reply x.exchange;
        stands = x.stands;
        prints = record { earlier = []; last = x.reply; front = part.0; back = part.1; all = refl; part = part.2 ∙ x.is; holds = part.3 };
      }

  pub over_visit : (body : List ℕ) → Appends held after sink → body ≡ body_in sink → Does body lines Over → Visited message lines old mid held after ends.Done
  over_visit body wrote f d from b =
      let x = exchange from b in
      record {
        to = x.to;
        replies = x.reply ∷ [];
        visits = last from x.to message lines x.reply Over Done x.exchange (does_by body x.reply Over x.is f d) is_over;
        stands = x.stands;
        prints = one_printed x.reply x.is wrote;
      }

  pub unknown_visit : (body name : List ℕ) → Appends held after sink → body ≡ body_in sink → Does body lines (Asks name)
      → Visited message lines old mid held after (ends.Unknown name)
  unknown_visit body name wrote f d from b =
      let x = exchange from b in
      record {
        to = x.to;
        replies = x.reply ∷ [];
        visits = last from x.to message lines x.reply (Asks name) (Unknown name) x.exchange (does_by body x.reply (Asks name) x.is f d) (is_unknown name);
        stands = x.stands;
        prints = one_printed x.reply x.is wrote;
      }

  pub memory_visit : Appends held after sink → Visited message lines old mid held after ends.Memory
  memory_visit wrote from b =
      let x = exchange from b in
      record {
        to = x.to;
        replies = x.reply ∷ [];
        visits = no_room from x.to message lines x.reply x.exchange;
        stands = tt;
        prints = one_printed x.reply x.is wrote;
      }

  -- what is printed of further replies stands behind this one
  joined : (reply : Reply) (bytes : List ℕ) (now : Option (List ℕ)) → sink ≡ bytes_by service reply → Appends held after sink → Appends after now bytes
      → Appends held now (bytes_by service reply ++ bytes)
  joined reply bytes now e h p = subst (λ x. Appends held now (x ++ bytes)) e (Appends-trans held after now sink bytes h p)

  more_printed : (reply : Reply) (replies : List Reply) (now : Option (List ℕ)) (end : VisitEnd) → sink ≡ bytes_by service reply → Appends held after sink
      → Prints service after now replies end → Prints service held now (reply ∷ replies) end
  more_printed reply replies now ends.Done e h p = joined reply (answer_of service replies) now e h p
  more_printed reply replies now (ends.Unknown name) e h p = joined reply (answer_of service replies) now e h p
  more_printed reply replies now ends.Memory e h p = joined reply (answer_of service replies) now e h p
  more_printed reply replies now ends.WriteFault e h p = record {
    earlier = reply ∷ p.earlier;
    last = p.last;
    front = p.front;
    back = p.back;
    all = ap (λ l. reply ∷ l) p.all;
    part = p.part;
    holds = subst (Appends held now) (sym (append_assoc (bytes_by service reply) (answer_of service p.earlier) p.front))
        (joined reply (answer_of service p.earlier ++ p.front) now e h p.holds);
  }

  pub sends_visit : (body later rest : List ℕ) (new : Standing) (now : Option (List ℕ)) (end : VisitEnd) → mid.formats ≡ old.formats
      → mid.seen.service ≡ service → Appends held after sink → body ≡ body_in sink → Does body lines (Sends later rest)
      → Visited later rest mid new after now end → Visited message lines old new held now end
  sends_visit body later rest new now end alike same wrote f d visited from b =
      let x = exchange from b in
      let v : IsVisited old.formats service x.to later rest new after now end
      = subst (λ (s : Service). IsVisited old.formats s x.to later rest new after now end) same
      (subst (λ (fs : List Format). IsVisited fs mid.seen.service x.to later rest new after now end) alike (visited x.to x.stands)) in
      record {
        to = v.to;
        replies = x.reply ∷ v.replies;
        visits = more from x.to v.to message lines later rest x.reply v.replies _ x.exchange (does_by body x.reply (Sends later rest) x.is f d) v.visits;
        stands = v.stands;
        prints = more_printed x.reply v.replies now end x.is wrote v.prints;
      }
