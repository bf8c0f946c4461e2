use Rattle.bw_format.proofs.FileLaws.{no_space, has_parts, is_format, at_none, at_some}
use Rattle.bw_format.proofs.line.written_line.Goals as goal

pub returns-in-None-clause-line : goal.returns-in-None-clause-line
returns-in-None-clause-line c = (c.requires, no_space _ _ c.split_once.ensures.cases c.in-None.is)

pub returns-in-None-2-clause-line : goal.returns-in-None-2-clause-line
returns-in-None-2-clause-line c = (
  c.requires,
  λ f w. at_none _ _ _ c.in-None-2.is c.in_ok-format_of-in-Some.ensures.parts f
      (has_parts _ _ c.in-Some.parts c.split_once.ensures.cases c.in-Some.is f w),
)

pub returns-in-Some-2-clause-line : goal.returns-in-Some-2-clause-line
returns-in-Some-2-clause-line c =
    is_format _ _ c.in-Some.parts c.split_once.ensures.cases c.in-Some.is c.utf8.text c.requires c.in-Some-2.format
    (at_some _ _ _ _ c.in-Some-2.is c.in_ok-format_of-in-Some.ensures.parts)
