-- Links that wait are given back, one after another.
use Rattle.std.proofs.Common.{◌≡◌, List, [], ◌∷◌, ◌++◌, Option, None, Some, refl, sym, ap, ◌∙◌, subst, append_assoc, append-nil}
use Rattle.std.proofs.lemmas.List.{map-append}
use Rattle.bw_lang.specs.declared.service.Service.{Service}
use Rattle.bw_out.specs.Doors.{Returned, GivesBack}
use Rattle.bw_out.specs.declared.outside.Channel.{Ghosts}
use Rattle.bw_keeping.specs.Steps.{AreReplied, GivesBackAll, Replies, back_of, unanswered}
use Rattle.bw_keeping.specs.declared.waiting.Waiting.{Waiting}

gives_none : (returned : Option (List Returned)) → GivesBackAll returned returned []
gives_none None = tt
gives_none (Some given) = ap Some (sym (append-nil given))

gives_more : (before mid now : Option (List Returned)) (backs : List Returned) (back : Returned) → GivesBackAll before mid backs → GivesBack mid now back
    → GivesBackAll before now (backs ++ back ∷ [])
gives_more None mid now backs back all one = tt
gives_more (Some given) mid now backs back all one =
    let more : now ≡ Some ((given ++ backs) ++ back ∷ []) = subst (λ (m : Option (List Returned)). GivesBack m now back) all one in
    more ∙ ap Some (append_assoc given backs (back ∷ []))

-- the first that waits is the last that is done
next_done : {X : Type 0} (all done now later : List X) (x : X) → all ≡ done ++ now → now ≡ x ∷ later → all ≡ (done ++ x ∷ []) ++ later
next_done {X} all done now later x is first = is ∙ ap (λ (l : List X). done ++ l) first ∙ sym (append_assoc done (x ∷ []) later)

all_done : {X : Type 0} (all done now : List X) → all ≡ done ++ now → now ≡ [] → all ≡ done
all_done {X} all done now is none = is ∙ ap (λ (l : List X). done ++ l) none ∙ append-nil done

module _ {Link : Type 0} (channel : Ghosts Link) where
  -- ---- as they are

  -- so many of them were given back
  abbrev pub HasGivenUp : List (Waiting Link) → List (Waiting Link) → Option (List Returned) → Option (List Returned) → Type 0
  HasGivenUp all now before later = (done : List (Waiting Link)) × (all ≡ done ++ now) × GivesBackAll before later (unanswered channel done)

  pub none_given_up : (all : List (Waiting Link)) (returned : Option (List Returned)) → HasGivenUp all all returned returned
  none_given_up all returned = ([], refl, gives_none returned)

  pub one_given_up : (all now more : List (Waiting Link)) (w : Waiting Link) (before mid later : Option (List Returned)) → HasGivenUp all now before mid
      → now ≡ w ∷ more → GivesBack mid later (back_of channel w.link) → HasGivenUp all more before later
  one_given_up all now more w before mid later (done, is, given) first gives = (
    done ++ w ∷ [],
    next_done all done now more w is first,
    subst (λ (bs : List Returned). GivesBackAll before later bs) (sym (map-append (λ v. back_of channel v.link) done (w ∷ [])))
        (gives_more before mid later (unanswered channel done) (back_of channel w.link) given gives),
  )

  pub all_given_up : (all now : List (Waiting Link)) (before later : Option (List Returned)) → HasGivenUp all now before later → now ≡ []
      → GivesBackAll before later (unanswered channel all)
  all_given_up all now before later (done, is, given) none =
      subst (λ (ws : List (Waiting Link)). GivesBackAll before later (unanswered channel ws)) (sym (all_done all done now is none)) given

  -- ---- with their replies

  module _ (service : Service) where
    abbrev pub HasReplied : List (Waiting Link) → List (Waiting Link) → Option (List Returned) → Option (List Returned) → Type 0
    HasReplied all now before later =
        (done : List (Waiting Link)) × (backs : List Returned) × (all ≡ done ++ now) × AreReplied channel service done backs
        × GivesBackAll before later backs

    pub none_replied : (all : List (Waiting Link)) (returned : Option (List Returned)) → HasReplied all all returned returned
    none_replied all returned = ([], [], refl, refl, gives_none returned)

    replied_then : (done : List (Waiting Link)) (backs : List Returned) (w : Waiting Link) (link : Link) → AreReplied channel service done backs
        → Replies channel service w.link link w.taken → AreReplied channel service (done ++ w ∷ []) (backs ++ back_of channel link ∷ [])
    replied_then [] backs w link are one = (link, [], one, ap (λ (bs : List Returned). bs ++ back_of channel link ∷ []) are, refl)
    replied_then (v ∷ done) backs w link (now, more, replies, is, later) one = (
      now,
      more ++ back_of channel link ∷ [],
      replies,
      ap (λ (bs : List Returned). bs ++ back_of channel link ∷ []) is,
      replied_then done more w link later one,
    )

    pub one_replied : (all now more : List (Waiting Link)) (w : Waiting Link) (link : Link) (before mid later : Option (List Returned))
        → HasReplied all now before mid → now ≡ w ∷ more → Replies channel service w.link link w.taken → GivesBack mid later (back_of channel link)
        → HasReplied all more before later
    one_replied all now more w link before mid later (done, backs, is, are, given) first replies gives = (
      done ++ w ∷ [],
      backs ++ back_of channel link ∷ [],
      next_done all done now more w is first,
      replied_then done backs w link are replies,
      gives_more before mid later backs (back_of channel link) given gives,
    )

    pub all_replied : (all now : List (Waiting Link)) (before later : Option (List Returned)) → HasReplied all now before later → now ≡ []
        → (backs : List Returned) × AreReplied channel service all backs × GivesBackAll before later backs
    all_replied all now before later (done, backs, is, are, given) none =
        (backs, subst (λ (ws : List (Waiting Link)). AreReplied channel service ws backs) (sym (all_done all done now is none)) are, given)
