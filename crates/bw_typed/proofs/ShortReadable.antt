-- The names of a service that was read are short.
use Rattle.std.proofs.Common.{◌≡◌, ℕ, ◌≤◌, List, [], get_or, length, Some, ap, sym, subst}
use Rattle.std.specs.Prelude.{flat_map}
use Rattle.std.specs.Coded.{le_prop}
use Rattle.std.specs.List.{All}
use Rattle.std.proofs.lemmas.List.Elements.{All-weaker}
use Rattle.std.proofs.Math.Logic.{∥∥₁_elim}
use Rattle.bw_lang.specs.declared.declaration.Declaration.{Declaration}
use Rattle.bw_lang.specs.declared.declaration.Declaration.TheVariants as declarations
use Rattle.bw_lang.specs.declared.limits.Leaf.TheVariants as leaves
use Rattle.bw_lang.specs.declared.service.Literal.{Literal}
use Rattle.bw_lang.specs.declared.service.Literal.TheVariants as literals
use Rattle.bw_lang.specs.declared.service.Service.{Service}
use Rattle.bw_lang.specs.declared.service.Session.{Session}
use Rattle.bw_lang.specs.declared.service.Shared.{Shared}
use Rattle.bw_lang.specs.declared.service.Template.{Template}
use Rattle.bw_lang.specs.Service.Limits.{declaration_lengths, literal_lengths, item_lengths, code_lengths}
use Rattle.bw_lang.specs.Service.Reads.{Reads}
use Rattle.bw_lang.specs.Service.Sorted.{as_template, as_shared, as_session}
use Rattle.bw_lang.proofs.Small.{all_within}
use Rattle.bw_types.proofs.Differing.{all_sorted}
use Rattle.bw_types.proofs.Parts.{parts_of_all}
use Rattle.bw_types.specs.Gaps.{gap_uses}
use Rattle.bw_typed.specs.ShortNames.{IsShortName, NamesShort, IsShortShared, IsShortSession, NamesAreShort, ReadableHasShortNames}
use Rattle.bw_typed.proofs.Props.{short_shared_prop, short_session_prop}
use Rattle.bw_typed.proofs.Services.{stands}
use Rattle.bw_typed.proofs.Short.{AreMost, this, named, code_names}
use Rattle.bw_typed.proofs.ShortTables.{IsShortUse, items_short, table_short}

module _ (bytes : List ℕ) (s : Service) (r : Reads bytes s) where
  -- the names of each declaration are short
  abbrev pub HasNames : Declaration → Type 0
  HasNames d = AreMost 64 (declaration_lengths leaves.Name s.gaps d)

  all_names : IsShortName s.name × AreMost 64 (flat_map (declaration_lengths leaves.Name s.gaps) r.declarations)
  all_names = named s.name (flat_map (declaration_lengths leaves.Name s.gaps) r.declarations) (all_within s.name s.gaps r.declarations r.within).names

  pub names : All HasNames r.declarations
  names = parts_of_all (declaration_lengths leaves.Name s.gaps) (λ n. n ≤ 64) r.declarations all_names.1

  literal_names : (l : Literal) → AreMost 64 (literal_lengths leaves.Name l) → NamesShort l
  literal_names (literals.Int n) h = tt
  literal_names (literals.Bool b) h = tt
  literal_names (literals.Str v) h = tt
  literal_names (literals.Tmpl w) h = this 64 (length w) [] h

  -- a template's own name is short, and so are those of its gaps
  abbrev IsShortTemplate : Template → Type 0
  IsShortTemplate t = IsShortName t.name × All (IsShortUse s.gaps) (gap_uses t.items)

  template_names : (d : Declaration) (t : Template) → as_template d ≡ Some t → HasNames d → IsShortTemplate t
  template_names (declarations.Template u) t e h =
      let same : u ≡ t = cc in let n = named u.name (item_lengths s.gaps u.items) h in subst IsShortTemplate same (n.0, items_short s.gaps u.items n.1)
  template_names (declarations.Shared v) t e h = absurd (cc)
  template_names (declarations.Session x) t e h = absurd (cc)

  shared_names : (d : Declaration) (v : Shared) → as_shared d ≡ Some v → HasNames d → IsShortShared v
  shared_names (declarations.Template t) v e h = absurd (cc)
  shared_names (declarations.Shared u) v e h =
      let same : u ≡ v = cc in let n = named u.name (literal_lengths leaves.Name u.init) h in subst IsShortShared same (n.0, literal_names u.init n.1)
  shared_names (declarations.Session x) v e h = absurd (cc)

  session_names : (d : Declaration) (x : Session) → as_session d ≡ Some x → HasNames d → IsShortSession x
  session_names (declarations.Template t) x e h = absurd (cc)
  session_names (declarations.Shared v) x e h = absurd (cc)
  session_names (declarations.Session y) x e h =
      let same : y ≡ x = cc in let n = named y.name (code_lengths leaves.Name y.body) h in subst IsShortSession same (n.0, code_names y.body n.1)

  templates_short : All IsShortTemplate s.templates
  templates_short =
      subst (All IsShortTemplate) (sym (ap (λ (t : Service). t.templates) r.whole))
      (all_sorted as_template HasNames IsShortTemplate template_names r.declarations names)

  pub names_short : NamesAreShort s
  names_short = record {
    own = all_names.0;
    gaps =
        table_short s.gaps s.templates
        (All-weaker IsShortTemplate (λ t. All (IsShortUse s.gaps) (gap_uses t.items)) (λ t h. h.1) s.templates templates_short) (stands bytes s r);
    templates = All-weaker IsShortTemplate (λ t. IsShortName t.name) (λ t h. h.0) s.templates templates_short;
    shared =
        subst (All IsShortShared) (sym (ap (λ (t : Service). t.shared) r.whole))
        (all_sorted as_shared HasNames IsShortShared shared_names r.declarations names);
    sessions =
        subst (All IsShortSession) (sym (ap (λ (t : Service). t.sessions) r.whole))
        (all_sorted as_session HasNames IsShortSession session_names r.declarations names);
  }

pub readable_has_short_names : ReadableHasShortNames
readable_has_short_names s h = record {
  own = ∥∥₁_elim h le_prop (λ r. (names_short r.0 s r.1).own);
  gaps = λ i d l. ∥∥₁_elim h le_prop (λ r. (names_short r.0 s r.1).gaps i d l);
  templates = λ i d l. ∥∥₁_elim h le_prop (λ r. (names_short r.0 s r.1).templates i d l);
  shared = λ i d l. ∥∥₁_elim h (short_shared_prop (get_or s.shared i d)) (λ r. (names_short r.0 s r.1).shared i d l);
  sessions = λ i d l. ∥∥₁_elim h (short_session_prop (get_or s.sessions i d)) (λ r. (names_short r.0 s r.1).sessions i d l);
}
