use Rattle.std.proofs.Common.{[], ◌∷◌, ◌++◌, sym, ap, ◌∙◌, subst, append_assoc}
use Rattle.bw_lang.specs.Service.Drafts.{AreFormed}
use Rattle.bw_lang.specs.Service.Reads.{AreRead}
use Rattle.bw_syntax.specs.Refusals.{IsFirstUnread}
use Rattle.bw_syntax.proofs.Declared.{one_more, one_unread, formed_at}
use Rattle.bw_syntax.proofs.templates.read_all.Goals as goal

pub read_one-requires : goal.read_one-requires
read_one-requires c =
    formed_at c.loop-draft.yielded c.next.new.self.rest.items c.in-Some.draft
    (subst AreFormed (c.loop-draft.invariant.parts ∙ ap (λ l. c.loop-draft.yielded ++ l) c.in-Some.ensures.steps.0) c.requires)

pub returns-in-Err-clause-unread : goal.returns-in-Err-clause-unread
returns-in-Err-clause-unread c =
    subst (λ ds. IsFirstUnread [] ds c.in-Err.fault) (sym (c.loop-draft.invariant.parts ∙ ap (λ l. c.loop-draft.yielded ++ l) c.in-Some.ensures.steps.0))
    (one_unread [] c.loop-draft.gaps c.loop-draft.yielded c.next.new.self.rest.items c.loop-draft.declarations.items c.in-Some.draft c.in-Err.fault
    c.loop-draft.invariant.read c.in-Err.ensures.unread)

pub loop-draft-preserved : goal.loop-draft-preserved
loop-draft-preserved c = record {
  read =
      subst (λ rs. AreRead [] (c.loop-draft.yielded ++ c.in-Some.draft ∷ []) rs c.read_one.new.gaps) (sym c.in_ok-push-in-Ok.ensures.items)
      (one_more [] c.loop-draft.gaps c.read_one.new.gaps c.loop-draft.yielded c.loop-draft.declarations.items c.in-Some.draft c.in-Ok.declaration
      c.loop-draft.invariant.read c.in-Ok.ensures.read);
  parts =
      c.loop-draft.invariant.parts ∙ ap (λ l. c.loop-draft.yielded ++ l) c.in-Some.ensures.steps.0
      ∙ sym (append_assoc c.loop-draft.yielded (c.in-Some.draft ∷ []) c.next.new.self.rest.items);
}
