-- The steps of reading make the answer.
use Rattle.std.proofs.Common.{◌≡◌, ◌≢◌, ◌⊎◌, inl, inr, ℕ, List, [], ◌∷◌, length, Ok, Err, refl, sym, ap, subst}
use Rattle.std.specs.Prelude.{Result, IfOk, IfErr, ⊤}
use Rattle.bw_lang.specs.declared.declaration.Draft.{Draft}
use Rattle.bw_lang.specs.declared.declaration.Draft.TheVariants as drafts
use Rattle.bw_lang.specs.declared.service.Service.{Service}
use Rattle.bw_lang.specs.declared.token.Lexeme.{Lexeme}
use Rattle.bw_lang.specs.Service.Reads.{Reads, IsText, IsDraft}
use Rattle.bw_syntax.specs.declared.fault.SyntaxFault.{SyntaxFault}
use Rattle.bw_syntax.specs.declared.fault.SyntaxFault.TheVariants as faults
use Rattle.bw_syntax.specs.Refusals.{IsUnread, IsFirstUnread, IsServiceRefused, IsSameFault, IsSameAnswer}
use Rattle.bw_syntax.specs.Told.{IsTold, IsUntold}
use Rattle.bw_syntax.specs.declared.told.Told.{Told}
use Rattle.bw_syntax.specs.Steps.Stages.{IsUnparsed, IsParsed, IsRefusedDraft, IsServiceOf}
use Rattle.bw_syntax.proofs.OneAnswer.{reads_once, read_or_refused, one_reason_each}

-- ---- the answers of the steps

-- it is a template's fault, or want of memory
abbrev IsOfTemplates : SyntaxFault → Type 0
IsOfTemplates (faults.Template n f) = ⊤
IsOfTemplates faults.Memory = ⊤
IsOfTemplates fault = ⊥

of_one : (d : Draft) (fault : SyntaxFault) → IsUnread d fault → IsOfTemplates fault
of_one (drafts.Template n inside) (faults.Template m f) u = tt
of_one d faults.Memory u = tt
of_one (drafts.Template n inside) fault u = absurd u
of_one d fault u = absurd u

of_templates : (before : List (List ℕ)) (ds : List Draft) (fault : SyntaxFault) → IsFirstUnread before ds fault → IsOfTemplates fault
of_templates before [] fault u = subst IsOfTemplates (sym u) tt
of_templates before (d ∷ ds) fault (inl u) = of_one d fault u
of_templates before (d ∷ ds) fault (inr u) = of_templates u.1 ds fault u.3

pub first_unread_refuses : (name : List ℕ) (ds : List Draft) (fault : SyntaxFault) → IsFirstUnread [] ds fault → IsRefusedDraft name ds fault
first_unread_refuses name ds (faults.Template n f) u = u
first_unread_refuses name ds faults.Memory u = tt
first_unread_refuses name ds fault u = absurd (of_templates [] ds fault u)

-- what is told of a text is what it says
pub told_text : (bytes : List ℕ) (told : Told) → IsTold bytes told → IsText bytes told.lexemes.items
told_text bytes told t = record { short = t.short; tokens = told.tokens; cut = t.cut; says = t.says }

pub untold_refuses : (bytes : List ℕ) (fault : SyntaxFault) → IsUntold bytes fault → IsServiceRefused bytes fault
untold_refuses bytes faults.TooLong u = u
untold_refuses bytes (faults.Lex f) u = u
untold_refuses bytes faults.Memory u = tt
untold_refuses bytes fault u = absurd u

pub unparsed_refuses : (bytes : List ℕ) (ls : List Lexeme) (fault : SyntaxFault) → IsText bytes ls → IsUnparsed ls (length bytes) fault
    → IsServiceRefused bytes fault
unparsed_refuses bytes ls (faults.TooMany limit n) t u = inl (record { lexemes = ls; text = t; passed = u })
unparsed_refuses bytes ls (faults.Syntax at) t u = record { lexemes = ls; text = t; shallow = u.0; nothing = u.1; place = u.2 }
unparsed_refuses bytes ls faults.Memory t u = tt
unparsed_refuses bytes ls fault t u = absurd u

pub drafted : (bytes : List ℕ) (ls : List Lexeme) (name : List ℕ) (ds : List Draft) → IsText bytes ls → IsParsed ls name ds → IsDraft bytes name ds
drafted bytes ls name ds t p = record { lexemes = ls; text = t; shallow = p.shallow; named = p.named; formed = p.formed; spelled = p.spelled }

pub draft_refuses : (bytes name : List ℕ) (ds : List Draft) (fault : SyntaxFault) → IsDraft bytes name ds → IsRefusedDraft name ds fault
    → IsServiceRefused bytes fault
draft_refuses bytes name ds (faults.Template n f) d u = record { name = name; drafts = ds; drafted = d; unread = u }
draft_refuses bytes name ds (faults.TooMany limit n) d u =
    inr (record { name = name; drafts = ds; drafted = d; declarations = u.0; gaps = u.1; read = u.2; passed = u.3 })
draft_refuses bytes name ds faults.Memory d u = tt
draft_refuses bytes name ds fault d u = absurd u

draft_reads : (bytes name : List ℕ) (ds : List Draft) (service : Service) → IsDraft bytes name ds → IsServiceOf name ds service → Reads bytes service
draft_reads bytes name ds service d s =
    subst (Reads bytes) (sym s.whole) (record { drafts = ds; drafted = d; declarations = s.declarations; read = s.read; within = s.within; whole = refl })

pub finish_reads : (answer : Result Service SyntaxFault) (bytes name : List ℕ) (ds : List Draft) → IsDraft bytes name ds
    → IfOk answer (IsServiceOf name ds) → IfOk answer (Reads bytes)
finish_reads (Ok s) bytes name ds d h = draft_reads bytes name ds s d h
finish_reads (Err e) bytes name ds d h = tt

pub finish_refuses : (answer : Result Service SyntaxFault) (bytes name : List ℕ) (ds : List Draft) → IsDraft bytes name ds
    → IfErr answer (IsRefusedDraft name ds) → IfErr answer (IsServiceRefused bytes)
finish_refuses (Ok s) bytes name ds d h = tt
finish_refuses (Err e) bytes name ds d h = draft_refuses bytes name ds e d h

-- ---- the answer is the only one

pub only_read : (answer : Result Service SyntaxFault) (bytes : List ℕ) → IfOk answer (Reads bytes) → IfErr answer (IsServiceRefused bytes)
    → (service : Service) → Reads bytes service → (answer ≡ Err faults.Memory) ⊎ (answer ≡ Ok service)
only_read (Ok s) bytes r n service q = inr (ap Ok (reads_once bytes s service r q))
only_read (Err e) bytes r n service q = inl (ap Err (read_or_refused bytes service e q n))

same_answer : (e fault : SyntaxFault) → (e ≡ faults.Memory) ⊎ ((fault ≡ faults.Memory) ⊎ IsSameFault e fault) → IsSameAnswer {A = Service} (Err e) fault
same_answer faults.Memory fault h = tt
same_answer faults.TooLong fault (inl m) = absurd cc
same_answer (faults.Lex f) fault (inl m) = absurd cc
same_answer (faults.TooMany l n) fault (inl m) = absurd cc
same_answer (faults.Syntax at) fault (inl m) = absurd cc
same_answer (faults.Template n f) fault (inl m) = absurd cc
same_answer faults.TooLong fault (inr h) = h
same_answer (faults.Lex f) fault (inr h) = h
same_answer (faults.TooMany l n) fault (inr h) = h
same_answer (faults.Syntax at) fault (inr h) = h
same_answer (faults.Template n f) fault (inr h) = h

-- it is want of memory, or it isn't
pub memory_or : (fault : SyntaxFault) → (fault ≡ faults.Memory) ⊎ (fault ≢ faults.Memory)
memory_or faults.Memory = inl refl
memory_or faults.TooLong = inr (λ e. cc)
memory_or (faults.Lex f) = inr (λ e. cc)
memory_or (faults.TooMany l n) = inr (λ e. cc)
memory_or (faults.Syntax at) = inr (λ e. cc)
memory_or (faults.Template n f) = inr (λ e. cc)

pub only_refused : (answer : Result Service SyntaxFault) (bytes : List ℕ) → IfOk answer (Reads bytes) → IfErr answer (IsServiceRefused bytes)
    → (fault : SyntaxFault) → IsServiceRefused bytes fault → IsSameAnswer answer fault
only_refused (Ok s) bytes r n fault q = read_or_refused bytes s fault r q
only_refused (Err e) bytes r n fault q =
    same_answer e fault (elim (memory_or e) [
      | inl m ↦ inl m
      | inr m ↦ inr (elim (memory_or fault) [ inl k ↦ inl k | inr k ↦ inr (one_reason_each bytes e fault n q m k) ])
    ])
