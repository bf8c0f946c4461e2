-- What is shown of a service whose first test that fails is known.
use Rattle.std.proofs.Common.{◌≡◌, ◌∙◌, ◌++◌, ℕ, List, Option, None, Some, refl, ap}
use Rattle.bw_blame.specs.declared.site.Blamed.{Blamed}
use Rattle.bw_excerpt.specs.declared.excerpt.Place.{Place}
use Rattle.bw_hints.specs.Hints as hints
use Rattle.bw_hints.specs.declared.hints.Role.{Role}
use Rattle.bw_lang.specs.declared.declaration.Draft.{Draft}
use Rattle.bw_places.specs.Seeking.{declared_at}
use Rattle.bw_types.specs.declared.fault.TypeFault.{TypeFault}
use Rattle.bw_types.specs.declared.fault.TypeFault.TheVariants as typing
use Rattle.bw_diagnose.specs.Aims.{IsAim, names_there, meant_among}
use Rattle.bw_diagnose.specs.Blocks.{block, widest, meant_note, type_block, aimed_block}
use Rattle.bw_diagnose.specs.Known.{lexemes_in}
use Rattle.bw_diagnose.specs.Meant.{meant, role_of, role_in, stand_in}
use Rattle.bw_diagnose.specs.Places.{blamed_place, declared_place}
use Rattle.bw_diagnose.specs.declared.aim.Aim.{Aim}

same_meant : (text : List ℕ) (ds : List Draft) (blamed : Option Blamed) (fault : TypeFault)
    → meant_among (names_there text ds blamed) fault ≡ meant text ds blamed fault
same_meant text ds None (typing.Unknown w) = refl
same_meant text ds (Some b) (typing.Unknown w) = refl
same_meant text ds None fault = refl
same_meant text ds (Some b) fault = refl

-- the block of such a fault, by what is known
abbrev shown : List ℕ → List ℕ → TypeFault → Place → Role → Option (List ℕ) → List ℕ
shown name text fault at role near =
    block name text at None (hints.type_what fault) (hints.type_mend fault role) ++ meant_note (widest text at None) near

pub same_aim : (name text : List ℕ) (ds : List Draft) (blamed : Option Blamed) (aim : Aim) (fault : TypeFault) → IsAim text ds blamed aim
    → aimed_block name text aim fault ≡ type_block name text ds blamed fault
same_aim name text ds blamed aim fault a =
    let at = blamed_place text ds blamed in
    ap (λ (p : Place). shown name text fault p aim.role (meant_among aim.names.items fault)) a.place
    ∙ ap (λ (r : Role). shown name text fault at r (meant_among aim.names.items fault)) a.role
    ∙ ap (shown name text fault at (role_of text ds blamed))
    (ap (λ (l : List (List ℕ)). meant_among l fault) a.names ∙ same_meant text ds blamed fault)

-- no declaration has that number
pub no_declaration : (text : List ℕ) (ds : List Draft) (b : Blamed) (aim : Aim) → None ≡ declared_at ds b.declaration 3 → IsAim text ds None aim
    → IsAim text ds (Some b) aim
no_declaration text ds b aim e a = record {
  place = a.place ∙ ap (λ o. declared_place text o b.site) e;
  role = a.role ∙ ap (role_in (lexemes_in text) b.site) e;
  names = a.names ∙ ap (stand_in (lexemes_in text) ds b) e;
}
