use Rattle.page_runs.proofs.dep.run_dep.Goals as goal

pub returns-clause-follows : goal.returns-clause-follows
returns-clause-follows g c = c.in_ok-run_listing.ensures.follows
