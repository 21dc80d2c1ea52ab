use Rattle.page_plan.proofs.Comparing.{kept_some, kept_none}
use Rattle.page_plan.proofs.versions.version_kept.Goals as goal

pub returns-in-Some : goal.returns-in-Some
returns-in-Some c = kept_some c.args.kept.now c.args.name.now _ c.in-Some.ensures

pub returns-in-None : goal.returns-in-None
returns-in-None c = kept_none c.args.kept.now c.args.name.now c.in-None.ensures
