-- Why bytes aren't read as a page.
use Rattle.std.specs.Prelude.{ℕ, List}
use Rattle.bw_lang.specs.Document.Forest.{Forest}
use Rattle.bw_read.specs.declared.fault.PageFault.{PageFault}
use Rattle.bw_read.specs.declared.fault.PageFault.TheVariants as fault
use Rattle.bw_read.specs.Pages.{IsPage}

-- they are the page of no document; want of memory says nothing
abbrev pub IsNoPage : List ℕ → PageFault → Type 0
IsNoPage bytes fault.NotAPage = (f : Forest) → IsPage bytes f → ⊥
IsNoPage bytes fault.Memory = Unit {0}
