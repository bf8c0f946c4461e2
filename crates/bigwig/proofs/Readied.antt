-- What is to be done to a journal that was read.
use Rattle.std.proofs.Common.{Vec, Global, ◌≡◌, ℕ, List, Option, None, Some, IfSome, IfNone, Result, Ok, Err, IfOk, Bool, true, false, ◌↔◌, IsTrue}
use Rattle.std.proofs.Common.{refl, sym, ap, ◌∙◌, subst, inl, inr}
use Rattle.bw_format.specs.declared.format.Format.{Format}
use Rattle.bw_journal.specs.Saved.{saved_head, saved_start}
use Rattle.bw_lang.specs.declared.service.Service.{Service}
use Rattle.bw_lang.specs.declared.text.Memory.{Memory}
use Rattle.bw_questions.specs.Asked.{Ruled}
use Rattle.bw_questions.specs.Checks.{IsRuled}
use Rattle.bw_save.specs.Frozen.{saved_of}
use Rattle.bw_save.specs.Onward.{IsFileAgain, IsNoFile}
use Rattle.bw_saved.specs.declared.saved.Saved.{Saved}
use Rattle.bw_world.specs.Seen.{Seen}
use Rattle.bw_world.specs.Stands.{StandsFor}
use Rattle.bigwig.specs.Finding.{IsFoundIn, IsRead, IsRenewing}
use Rattle.bigwig.specs.Freezing.{file_of}
use Rattle.bigwig.specs.Keeping.{IsLonger}
use Rattle.bigwig.specs.declared.bringing.Found.{Found}
use Rattle.bigwig.specs.declared.bringing.Found.TheVariants.{Nothing, Entries}
use Rattle.bigwig.specs.declared.readying.Opening.{Opening}
use Rattle.bigwig.specs.declared.readying.Opening.TheVariants.{Cut}
use Rattle.bigwig.specs.declared.readying.Ready.{Ready}

-- ---- what was found

module _ (service : Service) (formats : List Format) (text : List ℕ) (rotate : Option ℕ) (seen : Seen) (found : Found) where
  -- what is to be done, where this was found
  abbrev Reads : Ready → Type 0
  Reads r =
      (ruled : Ruled) (content : List ℕ) → IsRuled service formats ruled → IsFoundIn ruled text content seen found
      → IsRead ruled text content rotate r.server.world r.opening

  pub nothing_reads : (r : Result Ready Memory) → found ≡ Nothing
      → IfOk r (λ x. (ruled : Ruled) (content : List ℕ) (limit : Option ℕ) → IsFoundIn ruled text content seen Nothing
      → IsRead ruled text content limit x.server.world x.opening) → IfOk r Reads
  nothing_reads (Ok x) none h = λ ruled content is f. h ruled content rotate (subst (λ (y : Found). IsFoundIn ruled text content seen y) none f)
  nothing_reads (Err e) none h = tt

  pub longer_reads : (len sum : ℕ) (r : Result Ready Memory) → found ≡ Entries len sum → IsLonger rotate len
      → IfOk r (λ x. (ruled : Ruled) (content : List ℕ) (limit : Option ℕ) → IsRuled service formats ruled
      → IsFoundIn ruled text content seen (Entries len sum) → IsLonger limit len → IsRead ruled text content limit x.server.world x.opening)
      → IfOk r Reads
  longer_reads len sum (Ok x) some longer h = λ ruled content is f.
      h ruled content rotate is (subst (λ (y : Found). IsFoundIn ruled text content seen y) some f) longer
  longer_reads len sum (Err e) some longer h = tt

  pub short_reads : (len sum : ℕ) → found ≡ Entries len sum → (IsLonger rotate len → ⊥) → (ruled : Ruled) (content : List ℕ)
      → IsRuled service formats ruled → IsFoundIn ruled text content seen found → IsRead ruled text content rotate seen (Cut len sum)
  short_reads len sum some short ruled content is f = record {
    is_found = subst (λ (y : Found). IsFoundIn ruled text content seen y) some f;
    stays = λ world stands. inl short;
  }

-- the test says whether it is longer
pub not_longer : (longer : Bool) (rotate : Option ℕ) (len : ℕ) → IsTrue longer ↔ IsLonger rotate len → longer ≡ false → IsLonger rotate len → ⊥
not_longer longer rotate len tests short more =
    let t : longer ≡ true = tests.1 more in
    cc

-- a part of what is made is that of what it was made of
pub part_stays : {A B : Type 0} (whole : Ready → A) (part : A → B) (a : A) (b : B) (r : Result Ready Memory) → IfOk r (λ x. whole x ≡ a) → part a ≡ b
    → IfOk r (λ x. part (whole x) ≡ b)
part_stays whole part a b (Ok x) h e = ap part h ∙ e
part_stays whole part a b (Err y) h e = tt

-- ---- where it is longer

-- there is a file of what waits, from which something is loaded again
pub again_of : (service : Service) (text : List ℕ) (s : Saved) (file : Option (Vec ℕ Global)) (v : Vec ℕ Global) (given : List ℕ) → file ≡ Some v
    → given ≡ v.items → IfSome file (λ f. IsFileAgain service text s f.items) → IsFileAgain service text s given
again_of service text s file v given some same h =
    subst (IsFileAgain service text s) (sym same) (subst (λ (o : Option (Vec ℕ Global)). IfSome o (λ f. IsFileAgain service text s f.items)) some h)

-- there is none
pub too_much_reads : (formats : List Format) (text : List ℕ) (len sum : ℕ) (before now : Seen) (file : Option (Vec ℕ Global)) → now ≡ before
    → file ≡ None → IfNone file (IsNoFile before.service text (saved_of before))
    → (ruled : Ruled) (content : List ℕ) (rotate : Option ℕ) → IsRuled before.service formats ruled
    → IsFoundIn ruled text content before (Entries len sum) → IsLonger rotate len → IsRead ruled text content rotate now (Cut len sum)
too_much_reads formats text len sum before now file same none h ruled content rotate is f longer =
    let without : IsNoFile before.service text (saved_of before) =
    subst (λ (o : Option (Vec ℕ Global)). IfNone o (IsNoFile before.service text (saved_of before))) none h in
    subst (λ (w : Seen). IsRead ruled text content rotate w (Cut len sum)) (sym same)
    (record {
      is_found = f;
      stays = λ world stands. inr (
        before,
        record {
          service = sym is.0;
          stands = stands;
          none = subst (λ (t : Service). IsNoFile t text (saved_of before)) (sym is.0) without;
        },
      );
    })

-- the journal is begun anew at that file
pub renewing : (formats : List Format) (text saved start : List ℕ) (sum : ℕ) (seen : Seen) → start ≡ saved_head text saved → sum ≡ saved_start text saved
    → (ruled : Ruled) (content : List ℕ) (rotate : Option ℕ) (len before : ℕ) → IsRuled seen.service formats ruled
    → IsFoundIn ruled text content seen (Entries len before) → IsLonger rotate len → IsFileAgain seen.service text (saved_of seen) saved
    → IsRenewing ruled text content rotate seen start sum
renewing formats text saved start sum seen starts sums ruled content rotate len before is f longer again = record {
  len = len;
  before = before;
  is_found = f;
  longer = longer;
  file = subst (λ (t : Service). IsFileAgain t text (saved_of seen) (file_of text seen)) (sym is.0)
      (subst (IsFileAgain seen.service text (saved_of seen)) again.file_is again);
  service = sym is.0;
  start_is = starts ∙ ap (saved_head text) again.file_is;
  sum_is = sums ∙ ap (saved_start text) again.file_is;
}

pub renewed_reads : (formats : List Format) (text saved : List ℕ) (len sum : ℕ) (before now : Seen) (r : Result Ready Memory) → now ≡ before
    → IsFileAgain before.service text (saved_of before) saved
    → IfOk r (λ x. (ruled : Ruled) (content : List ℕ) (rotate : Option ℕ) (long check : ℕ) → IsRuled now.service formats ruled
    → IsFoundIn ruled text content now (Entries long check) → IsLonger rotate long → IsFileAgain now.service text (saved_of now) saved
    → IsRead ruled text content rotate x.server.world x.opening)
    → IfOk r (λ x. (ruled : Ruled) (content : List ℕ) (rotate : Option ℕ) → IsRuled before.service formats ruled
    → IsFoundIn ruled text content before (Entries len sum) → IsLonger rotate len → IsRead ruled text content rotate x.server.world x.opening)
renewed_reads formats text saved len sum before now (Err e) same again h = tt
renewed_reads formats text saved len sum before now (Ok x) same again h = λ ruled content rotate is f longer.
    h ruled content rotate len sum (subst (λ (w : Seen). IsRuled w.service formats ruled) (sym same) is)
    (subst (λ (w : Seen). IsFoundIn ruled text content w (Entries len sum)) (sym same) f) longer
    (subst (λ (w : Seen). IsFileAgain w.service text (saved_of w) saved) (sym same) again)
