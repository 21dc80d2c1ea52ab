use Rattle.module_semantics.proofs.Analyses.{analysed_well}
use Rattle.module_semantics.proofs.analysis_laws.analyses_are_well_made.Goals as goal

pub returns : goal.returns
returns c = analysed_well
