-- What the fault of a template says of a page.
-- It only follows the steps of the code: nothing is promised by it.
use Rattle.bw_read.specs.declared.fault.PageFault.{PageFault}
use Rattle.bw_read.specs.declared.fault.PageFault.TheVariants as page
use Rattle.bw_tmpl.specs.declared.fault.TmplFault.{TmplFault}
use Rattle.bw_tmpl.specs.declared.fault.TmplFault.TheVariants as template

-- want of memory is want of memory, and each other says that there is no page
abbrev pub page_fault : TmplFault → PageFault
page_fault template.Memory = page.Memory
page_fault template.Malformed = page.NotAPage
page_fault template.RepeatedAttribute = page.NotAPage
page_fault template.Mismatched = page.NotAPage
page_fault template.Nesting = page.NotAPage
