use Rattle.analysis_cases.proofs.pages.explained.put_explained.Goals as goal

pub put_page-requires : goal.put_page-requires
put_page-requires c = record { few = c.requires.few c.in-Page.page c.in-Page.is }
