-- The first values of a service's shared variables are among its literals.
use Rattle.std.specs.Prelude.{◌≡◌, ℕ, List, slice_get, Some}
use Rattle.bw_lang.specs.declared.service.Literal.{Literal}
use Rattle.bw_lang.specs.declared.service.Literal.TheVariants as literals
use Rattle.bw_lang.specs.declared.service.Service.{Service}
use Rattle.bw_lang.specs.declared.service.Shared.{Shared}
use Rattle.bw_lang.specs.Service.Order.{IsWoven}
use Rattle.bw_strings.specs.Literals.{literals_of, literal_strings}
use Rattle.bw_analyse.specs.Lawful.SystemLaws.{all_at}
use Rattle.bw_check.proofs.Within.Acts.{every}
use Rattle.bw_check.proofs.Within.Named.{AreNamed, shared_literals}
use Rattle.bw_sound.proofs.Found.Seen.{AreLiteral}

literal_is : (table : List (List ℕ)) (l : Literal) → AreNamed table (literal_strings l) → AreLiteral table l
literal_is table (literals.Int n) h = tt
literal_is table (literals.Bool b) h = tt
literal_is table (literals.Str s) h = h.0
literal_is table (literals.Tmpl w) h = tt

pub first_is_literal : (service : Service) → IsWoven service → (j : ℕ) (v : Shared) → slice_get service.shared j ≡ Some v
    → AreLiteral (literals_of service) v.init
first_is_literal service woven j v e =
    let HasNames : Shared → Type 0 = λ u. AreNamed (literals_of service) (literal_strings u.init) in
    literal_is (literals_of service) v.init (all_at HasNames service.shared (every HasNames service.shared (shared_literals service woven)) j v e)
