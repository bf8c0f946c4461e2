-- What was read from bounded declarations is bounded.
use Rattle.std.proofs.Common.{ℕ, ◌<◌, ◌^◌, List, [], ◌∷◌, length, sym, subst, arith}
use Rattle.std.specs.Prelude.{All}
use Rattle.std.proofs.lemmas.List.Elements.{All-nil, All-cons}
use Rattle.bw_lang.specs.declared.declaration.Declaration.{Declaration}
use Rattle.bw_lang.specs.declared.declaration.Declaration.TheVariants as declarations
use Rattle.bw_lang.specs.declared.declaration.Draft.{Draft}
use Rattle.bw_lang.specs.declared.declaration.Draft.TheVariants as drafts
use Rattle.bw_lang.specs.declared.service.Session.{Session}
use Rattle.bw_lang.specs.declared.service.Template.{Template}
use Rattle.bw_lang.specs.Service.CodeNames.{local_names}
use Rattle.bw_lang.specs.Service.Sorted.{templates_of, sessions_of}
use Rattle.bw_lang.specs.Document.Measures.{constant_weight}
use Rattle.bw_lang.specs.Service.Reads.{AreRead}
use Rattle.bw_tmpl.proofs.Weights.{items_bounded}
use Rattle.bw_syntax.specs.Steps.Stages.{AreBounded}

abbrev pub IsLight : Template → Type 0
IsLight t = constant_weight t.items < 2 ^ 64

abbrev pub HasFewLocals : Session → Type 0
HasFewLocals s = length (local_names s.body) < 2 ^ 64

-- the templates weigh little, and the sessions have few locals
pub record AreSmall (rs : List Declaration) : Type 0 where
  pub templates : All IsLight (templates_of rs)
  pub sessions : All HasFewLocals (sessions_of rs)

pub read_small : (before after : List (List ℕ)) (ds : List Draft) (rs : List Declaration) → AreRead before ds rs after → AreBounded ds → AreSmall rs
read_small before after [] [] p b = record { templates = All-nil IsLight; sessions = All-nil HasFewLocals }
read_small before after (drafts.Template name inside ∷ ds) (declarations.Template t ∷ rs) p b =
    let rest = read_small p.0 after ds rs p.2 b.1 in
    record {
      templates = All-cons IsLight t (templates_of rs) (omega (arith, items_bounded p.0 64 inside t.items p.1.1.read))
          rest.templates;
      sessions = rest.sessions;
    }
read_small before after (drafts.Shared kind name init ∷ ds) (declarations.Shared v ∷ rs) p b =
    let rest = read_small p.0 after ds rs p.2 b.1 in record { templates = rest.templates; sessions = rest.sessions }
read_small before after (drafts.Session s ∷ ds) (declarations.Session t ∷ rs) p b =
    let rest = read_small p.0 after ds rs p.2 b.1 in
    record { templates = rest.templates; sessions = All-cons HasFewLocals t (sessions_of rs) (subst HasFewLocals (sym p.1.0) b.0) rest.sessions }
read_small before after (d ∷ ds) (r ∷ rs) p b = absurd p.1
read_small before after ds rs p b = absurd p
