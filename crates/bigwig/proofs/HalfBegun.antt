-- A journal that failed as it was begun: which deeds would have begun it, and how far they came.
use Rattle.std.proofs.Common.{◌≡◌, ◌≢◌, ℕ, List, [], ◌∷◌, ◌++◌, Option, None, Some, IfSome, Result, Ok, Err, refl, sym, ap, ◌∙◌, subst}
use Rattle.std.specs.Result.{OnErr}
use Rattle.std.proofs.lemmas.List.{append-nil}
use Rattle.bw_recall.specs.declared.recalling.Recalled.TheVariants as recalled
use Rattle.bw_out.specs.Doors.{Returned}
use Rattle.bw_questions.specs.Asked.{Ruled, Task}
use Rattle.bw_questions.specs.Asked.Task.{to_answer, to_save, to_serve}
use Rattle.bw_command.specs.declared.status.Status.{Status}
use Rattle.bw_command.specs.declared.status.Status.TheVariants.{JournalFault}
use Rattle.bw_stable.specs.Deeds.{Deed, Does, DoesFirst, cut, kept}
use Rattle.bw_stable.specs.Replacing.{replacing}
use Rattle.bw_world.specs.Seen.{Seen}
use Rattle.bigwig.specs.Finding.{IsRead, IsTask, begun_by}
use Rattle.bigwig.specs.Keeping.{AreFirst, IsBegun, IsKept, WouldBegin, fault_line, rotate_of}
use Rattle.bigwig.specs.Keeping.IsBegun.{head, behind}
use Rattle.bigwig.specs.Keeping.IsKept.{half_begun}
use Rattle.bigwig.specs.Keeping.WouldBegin.{ready, anew}
use Rattle.bigwig.specs.Works.{IsSaid, Outside}
use Rattle.bigwig.specs.declared.keeping.Task.{Task as CodeTask}
use Rattle.bigwig.specs.declared.keeping.Task.TheVariants.{Links, Stream}
use Rattle.bigwig.specs.declared.readying.Opening.{Opening}
use Rattle.bigwig.specs.declared.readying.Opening.TheVariants.{Head, Cut, Anew}

-- ---- how far deeds came

-- none was done
pub none_done : (before now : Option (List Deed)) (all : List Deed) → now ≡ before → DoesFirst before now all
none_done None now all same = same
none_done (Some deeds) now all same = ([], all, refl, same ∙ ap Some (sym (append-nil deeds)))

-- the first was done alone
pub one_done : (before mid now : Option (List Deed)) (first : Deed) (more : List Deed) → Does before mid first → now ≡ mid
    → DoesFirst before now (first ∷ more)
one_done None mid now first more did same = same ∙ did
one_done (Some deeds) mid now first more did same = (first ∷ [], more, refl, same ∙ did)

-- what holds anyway holds where a call failed
pub on_err_so : {T E P : Type 0} (r : Result T E) → P → OnErr r P
on_err_so (Ok x) p = tt
on_err_so (Err e) p = p

-- nothing was done before
first_are : (before now : Option (List Deed)) (all : List Deed) → IfSome before (λ deeds. deeds ≡ []) → DoesFirst before now all → AreFirst now all
first_are None now all none are = subst (λ (x : Option (List Deed)). AreFirst x all) (sym are) tt
first_are (Some deeds) now all none are =
    subst (λ (x : Option (List Deed)). AreFirst x all) (sym are.3)
    (subst (λ (d : List Deed). AreFirst (Some (d ++ are.0)) all) (sym none) (are.1, are.2))

-- ---- which deeds they are

would_begin : (ruled : Ruled) (text content : List ℕ) (task : Task) (seen : Seen) (opening : Opening) (given : Option (List Returned))
    (printed : Option (List ℕ)) → IsRead ruled text content (rotate_of task) seen opening
    → WouldBegin ruled text content task given printed (begun_by opening given printed)
would_begin ruled text content task seen (Head start n) given printed read =
    let f = read.is_found in
    ready recalled.New f.0 f.1 tt
    (subst (λ h. IsBegun text given printed recalled.New (cut 0 ∷ (kept h given printed ∷ []))) (sym read.start_is) head)
would_begin ruled text content task seen (Cut len n) given printed read =
    let f = read.is_found in
    ready (recalled.Done len n) f.0 f.1 (read.stays f.0 f.2) (behind len n)
would_begin ruled text content task seen (Anew start n) given printed read =
    let f = read.is_found in
    anew read.len read.before f.0 seen f.1 read.longer (record { service = read.service; stands = f.2; file = read.file }) (ap replacing read.start_is)

-- a journal is begun where links are served or requests answered
pub serves_not_saves : (port most : ℕ) (rotate : Option ℕ) → to_serve port most rotate ≢ to_save
serves_not_saves port most rotate e = cc

pub answers_not_saves : (stream : List ℕ) (most : ℕ) → to_answer stream most ≢ to_save
answers_not_saves stream most e = cc

pub task_is_no_save : {S : Type 0} (left : S → Option (List ℕ)) (code : CodeTask S) (task : Task) → IsTask left code task → task ≢ to_save
task_is_no_save left (Links place) task is e = serves_not_saves place.port place.most place.rotate (sym is ∙ e)
task_is_no_save left (Stream requests) task is e = answers_not_saves is.0 requests.most (sym is.2 ∙ e)

-- it failed, and that was printed
pub half_kept : (ruled : Ruled) (text content : List ℕ) (task : Task) (seen : Seen) (opening : Opening) (o after : Outside) (s : Status) → task ≢ to_save
    → IsRead ruled text content (rotate_of task) seen opening → IfSome o.deeds (λ all. all ≡ [])
    → DoesFirst o.deeds after.deeds (begun_by opening o.returned o.printed)
    → IsSaid (record { status = JournalFault; text = fault_line }) (record o { steps = after.steps; deeds = after.deeds }) after s
    → IsKept ruled text content task o after s
half_kept ruled text content task seen opening o after s other read none first said =
    let all = begun_by opening o.returned o.printed in
    half_begun other all (would_begin ruled text content task seen opening o.returned o.printed read) (first_are o.deeds after.deeds all none first) said
