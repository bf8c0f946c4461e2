-- Laws of reading.
use Rattle.std.specs.Prelude.{◌≡◌, ◌≢◌, ◌⊎◌, ℕ, List}
use Rattle.bw_lang.specs.declared.service.Service.{Service}
use Rattle.bw_lang.specs.Service.Reads.{Reads}
use Rattle.bw_syntax.specs.declared.fault.SyntaxFault.{SyntaxFault}
use Rattle.bw_syntax.specs.declared.fault.SyntaxFault.TheVariants.{Memory}
use Rattle.bw_syntax.specs.Refusals.{IsServiceRefused, IsSameFault}

-- bytes read as one service at most
abbrev pub ReadsOnce : Type 0
ReadsOnce = (bytes : List ℕ) (service other : Service) → Reads bytes service → Reads bytes other → service ≡ other

-- what reads as a service is refused for want of memory alone
abbrev pub NotBoth : Type 0
NotBoth = (bytes : List ℕ) (service : Service) (fault : SyntaxFault) → Reads bytes service → IsServiceRefused bytes fault → fault ≡ Memory

-- there is one reason at most, beside want of memory
abbrev pub OneReason : Type 0
OneReason =
    (bytes : List ℕ) (fault other : SyntaxFault) → IsServiceRefused bytes fault → IsServiceRefused bytes other → fault ≢ Memory → other ≢ Memory →
    IsSameFault fault other

-- bytes read as a service, or there is a reason beside want of memory
abbrev pub ReadOrRefused : Type 0
ReadOrRefused =
    (bytes : List ℕ) → ((service : Service) × Reads bytes service) ⊎ ((fault : SyntaxFault) × (fault ≢ Memory) × IsServiceRefused bytes fault)
