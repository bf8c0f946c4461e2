-- What the entries of a journal bring about.
use Rattle.std.proofs.Common.{◌≡◌, ℕ, List, [], ◌∷◌, ◌++◌, refl, sym, ◌∙◌, subst, inl, inr}
use Rattle.bw_format.specs.declared.format.Format.{Format}
use Rattle.bw_http.specs.declared.request.Request.{Request}
use Rattle.bw_http.proofs.Lossy.{cuts_are_text}
use Rattle.bw_journal.specs.Layout.{Entry}
use Rattle.bw_lang.specs.declared.service.Service.{Service}
use Rattle.bw_lang.specs.Service.Submissions.{IsTextForm}
use Rattle.bw_model.specs.Guards.{IsGuarded}
use Rattle.bw_model.specs.Reached.{Reached, none, one_more}
use Rattle.bw_model.specs.Sessions.{World}
use Rattle.bw_model.specs.Steps.{Step}
use Rattle.bw_model.specs.Within.{AreWithin}
use Rattle.bw_model.proofs.Cases.{is_step_or_nothing, one_step}
use Rattle.bw_model.proofs.Reaching.{reached_on}
use Rattle.bw_model.proofs.Storing.{steps_keep_within}
use Rattle.bw_sound.proofs.Runs.{worlds_are_sound}
use Rattle.bw_bringing.specs.Bringing.{Brings}
use Rattle.bw_bringing.specs.EntryLaws.{BringsByParts, BringsInParts, BringsKeepSound, BringsKeepWithin, BringsOnce, BringsReach}
use Rattle.bw_bringing.proofs.Messages.{one_cut}

pub brings_then : (formats : List Format) (service : Service) (world mid to : World) (es fs : List Entry) → Brings formats service world es mid
    → Brings formats service mid fs to → Brings formats service world (es ++ fs) to
brings_then formats service world mid to [] fs a b = subst (λ (w : World). Brings formats service w fs to) a b
brings_then formats service world mid to (e ∷ es) fs a b = (a.0, a.1, a.2, a.3, brings_then formats service a.1.world mid to es fs a.4 b)

pub between : BringsByParts
between formats service world to [] fs a = record { mid = world; before = refl; behind = a }
between formats service world to (e ∷ es) fs a =
    let b = between formats service a.1.world to es fs a.4 in
    record { mid = b.mid; before = (a.0, a.1, a.2, a.3, b.before); behind = b.behind }

pub in_parts : BringsInParts
in_parts formats service world to es fs b = brings_then formats service world b.mid to es fs b.before b.behind

pub brings_once : BringsOnce
brings_once formats service world to then [] a b = a ∙ sym b
brings_once formats service world to then (e ∷ es) a b =
    let r : a.0 ≡ b.0 = (one_cut e.message [] [] a.0 b.0 a.2 b.2).0 in
    let guarded : IsGuarded formats service world b.0 e.key a.1 = subst (λ (x : Request). IsGuarded formats service world x e.key a.1) r a.3 in
    let s : a.1 ≡ b.1 = one_step formats service world b.0 e.key a.1 b.1 guarded b.3 in
    brings_once formats service a.1.world to then es a.4 (subst (λ (x : Step). Brings formats service x.world es then) (sym s) b.4)

-- ---- what stays

step_reaches : (formats : List Format) (service : Service) (world : World) (r : Request) (key : ℕ) (s : Step) → IsGuarded formats service world r key s
    → IsTextForm r.form → Reached service world s.world
step_reaches formats service world r key s is text =
    elim ((is_step_or_nothing service world r key formats s is).cases) [
      | inl k ↦ subst (λ (x : Step). Reached service world x.world) (sym k) (one_more world r key text none)
      | inr k ↦ subst (Reached service world) (sym k.1) none
    ]

pub brings_reach : BringsReach
brings_reach formats service world to [] b = subst (Reached service world) (sym b) none
brings_reach formats service world to (e ∷ es) b =
    let one = step_reaches formats service world b.0 e.key b.1 b.3 (cuts_are_text e.message b.0 [] b.2) in
    reached_on service world b.1.world to one (brings_reach formats service b.1.world to es b.4)

pub brings_keep_within : BringsKeepWithin
brings_keep_within formats service world to [] b h = subst (AreWithin formats service) (sym b) h
brings_keep_within formats service world to (e ∷ es) b h =
    brings_keep_within formats service b.1.world to es b.4 (steps_keep_within formats service world b.0 e.key b.1 h b.3)

pub brings_keep_sound : BringsKeepSound
brings_keep_sound formats service schema world to entries accepts b h =
    worlds_are_sound service schema world to accepts h (brings_reach formats service world to entries b)
