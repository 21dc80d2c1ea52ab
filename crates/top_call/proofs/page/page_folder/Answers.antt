use Rattle.top_call.proofs.page.page_folder.Goals as goal

pub returns-clause-paged : goal.returns-clause-paged
returns-clause-paged g c = record { ended = c.page-ended.result; status_is = c.status_of.ensures.is; pages = c.page-ended.ensures.pages }
