use Rattle.std.proofs.Common.{refl, subst, Ok, Err}
use Rattle.bw_lang.specs.Service.Reads.{Reads}
use Rattle.bw_types.specs.declared.typed.Typed.{Typed}
use Rattle.bw_questions.specs.Asked.{file, read, typed}
use Rattle.bw_questions.specs.Behind.{AreKept, shown_if, shown_file}
use Rattle.bw_questions.specs.declared.loading.Loaded.{Loaded}
use Rattle.bw_questions.specs.declared.loading.Read.{Read}
use Rattle.bw_questions.proofs.Loads.{loaded, loaded_text, read_so, short_text}
use Rattle.bw_questions.proofs.Stops.{told_grouped}
use Rattle.bw_questions.proofs.loading.load_service.Goals as goal

pub returns-in-Ok-clause-answers : goal.returns-in-Ok-clause-answers
returns-in-Ok-clause-answers g c =
    let name = c.args.name.now in
    let source = c.args.source in
    let all : Loaded = record { typed = c.in-Ok.read.typed; text = c.in_ok-text.text; told = c.in-Ok.read.told } in
    told_grouped (λ (l : Loaded). l.typed.service) _ (λ disk. file disk name) (λ disk. read (shown_file source disk name))
    (λ disk. typed (shown_file source disk name)) (Ok all)
    (loaded (λ (l : Loaded). l.typed.service) source _ name _ _ _ 1048577 (Ok all) refl c.in_ok-text.ensures.found c.deref.ensures.value refl
    c.in-Ok.ensures.answers)

pub returns-in-Ok-clause-text : goal.returns-in-Ok-clause-text
returns-in-Ok-clause-text g c =
    loaded_text (λ (r : Read). r.typed.service) (g.F.Files.told c.args.files.now) c.args.name.now c.in_ok-text.text.items c.deref.result.now
    (shown_if c.args.source c.args.name.now c.deref.result.now) 1048577 c.in-Ok.read refl c.in_ok-text.ensures.found c.deref.ensures.value
    c.in-Ok.ensures.answers

pub returns-in-Ok-clause-kept : goal.returns-in-Ok-clause-kept
returns-in-Ok-clause-kept g c = subst (λ t. AreKept c.args.source t c.in-Ok.read.told) c.deref.ensures.value c.in-Ok.ensures.kept

pub returns-in-Err-clause-answers : goal.returns-in-Err-clause-answers
returns-in-Err-clause-answers g c =
    let name = c.args.name.now in
    let source = c.args.source in
    told_grouped (λ (l : Loaded). l.typed.service) _ (λ disk. file disk name) (λ disk. read (shown_file source disk name))
    (λ disk. typed (shown_file source disk name)) (Err _)
    (loaded (λ (l : Loaded). l.typed.service) source _ name _ _ _ 1048577 (Err c.in-Err.stop) refl c.in_ok-text.ensures.found c.deref.ensures.value refl
    c.in-Err.ensures.answers)

pub returns-in-Ok-clause-short : goal.returns-in-Ok-clause-short
returns-in-Ok-clause-short g c =
    short_text (λ (r : Read). r.typed.service) c.in_ok-text.text.items c.deref.result.now (shown_if c.args.source c.args.name.now c.deref.result.now)
    c.in-Ok.read c.deref.ensures.value c.in-Ok.ensures.answers

pub returns-in-Ok-clause-reads : goal.returns-in-Ok-clause-reads
returns-in-Ok-clause-reads g c = subst (λ t. Reads t c.in-Ok.read.typed.service) c.deref.ensures.value
    (read_so (λ (r : Read). r.typed.service) c.deref.result.now (shown_if c.args.source c.args.name.now c.deref.result.now) c.in-Ok.read c.in-Ok.ensures.answers)
