use Rattle.std.proofs.Common.{◌∙◌, ap, map, arith}
use Rattle.bw_lang.specs.Service.Order.{seen}
use Rattle.bw_places.specs.Counts.{drafts_tokens}
use Rattle.bw_places.specs.Drafted.{drafts_of}
use Rattle.bw_diagnose.proofs.Spellings.{known_few, known_are}
use Rattle.bw_diagnose.proofs.known.read_known.Goals as goal

pub spelled_all-requires : goal.spelled_all-requires
spelled_all-requires c =
    let declared = ap (map seen) c.deref.ensures.value ∙ c.in_ok-declared.ensures in
    omega (
      arith,
      known_few c.args.told.text.now c.args.service.now c.args.told.lexemes.now (map seen c.deref.result.now) c.requires c.args.told.says declared,
    )

pub invariant_of-result : goal.invariant_of-result
invariant_of-result c =
    let declared = ap (map seen) c.deref.ensures.value ∙ c.in_ok-declared.ensures in
    record {
      few = omega (
        arith,
        ap drafts_tokens c.in_ok-declarations.ensures,
        known_few c.args.told.text.now c.args.service.now c.args.told.lexemes.now (map seen c.deref.result.now) c.requires c.args.told.says declared,
      );
    }

pub returns-clause-drafts : goal.returns-clause-drafts
returns-clause-drafts c =
    let declared = ap (map seen) c.deref.ensures.value ∙ c.in_ok-declared.ensures in
    known_are c.args.told.text.now c.args.service.now c.args.told.lexemes.now (map seen c.deref.result.now)
    (drafts_of c.in_ok-declarations.declarations.items) c.requires c.args.told.says declared c.in_ok-declarations.ensures
