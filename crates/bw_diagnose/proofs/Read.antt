-- What is known of a text that is read.
use Rattle.std.proofs.Common.{◌≡◌, ◌≤◌, ◌+◌, ◌∙◌, ℕ, List, take, length, ap, sym, subst, arith}
use Rattle.std.proofs.lemmas.List.{take_all}
use Rattle.bw_lang.specs.Service.Reads.{Reads, lexemes}
use Rattle.bw_lang.specs.declared.service.Service.{Service}
use Rattle.bw_lex.proofs.Cutting.{read-cuts}
use Rattle.bw_lang.specs.declared.limits.TheConstants.{MAX_FILE_BYTES}
use Rattle.bw_syntax.specs.Told.{IsTold, IsUntold}
use Rattle.bw_syntax.specs.declared.fault.SyntaxFault.{SyntaxFault}
use Rattle.bw_syntax.specs.declared.fault.SyntaxFault.TheVariants as reading
use Rattle.bw_syntax.specs.declared.told.Told.{Told}
use Rattle.bw_diagnose.specs.Known.{AreDrafts, IsLent, found_tokens, tokens_in, lexemes_in}

-- what is told of a text are its tokens, and what they say
pub told_tokens : (text : List ℕ) (told : Told) → IsTold text told → told.tokens ≡ tokens_in text
told_tokens text told t = sym (ap found_tokens (read-cuts text told.tokens t.cut))

pub told_lexemes : (text : List ℕ) (told : Told) → IsTold text told → told.lexemes.items ≡ lexemes_in text
told_lexemes text told t = t.says ∙ ap (lexemes text) (told_tokens text told t)

-- they are lent where a fault is about tokens, and a text that has none is refused for a fault that isn't
pub told_lent : (text : List ℕ) (told : Told) (fault : SyntaxFault) → IsTold text told → IsLent text told fault
told_lent text told (reading.TooMany limit n) t = t
told_lent text told (reading.Template name f) t = t
told_lent text told reading.TooLong t = tt
told_lent text told (reading.Lex f) t = tt
told_lent text told (reading.Syntax at) t = tt
told_lent text told reading.Memory t = tt

pub untold_lent : (text : List ℕ) (told : Told) (fault : SyntaxFault) → IsUntold text fault → IsLent text told fault
untold_lent text told (reading.TooMany limit n) u = absurd u
untold_lent text told (reading.Template name f) u = absurd u
untold_lent text told reading.TooLong u = tt
untold_lent text told (reading.Lex f) u = tt
untold_lent text told (reading.Syntax at) u = tt
untold_lent text told reading.Memory u = tt

-- a text that has tokens is its own front
told_front : (text : List ℕ) (told : Told) → IsTold text told → IsTold (take (MAX_FILE_BYTES + 1) text) told
told_front text told t =
    subst (λ front. IsTold front told) (sym (take_all (MAX_FILE_BYTES + 1) text (let short : length text ≤ MAX_FILE_BYTES = t.short in omega arith))) t

pub front_lent : (text : List ℕ) (told : Told) (fault : SyntaxFault) → IsLent text told fault → IsLent (take (MAX_FILE_BYTES + 1) text) told fault
front_lent text told (reading.TooMany limit n) t = told_front text told t
front_lent text told (reading.Template name f) t = told_front text told t
front_lent text told reading.TooLong t = tt
front_lent text told (reading.Lex f) t = tt
front_lent text told (reading.Syntax at) t = tt
front_lent text told reading.Memory t = tt

-- what reads as a service is written for declarations
pub drafts_read : (content : List ℕ) (tree : Service) (r : Reads content tree) → AreDrafts content r.drafts
drafts_read content tree r = record {
  name = tree.name;
  named = r.drafted.named;
  formed = r.drafted.formed;
  spelled = ap (λ o. lexemes content (found_tokens o)) (read-cuts content r.drafted.text.tokens r.drafted.text.cut) ∙ sym r.drafted.text.says
      ∙ r.drafted.spelled;
}
