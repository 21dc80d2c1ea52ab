use Rattle.module_semantics.proofs.Refusals.{resolve_meant, analysed_spec, analysed_scan}
use Rattle.module_semantics.proofs.analysis_laws.memory_is_never_meant.Goals as goal

pub returns-clause-specifiers : goal.returns-clause-specifiers
returns-clause-specifiers c = resolve_meant

pub returns-clause-specifier_faults : goal.returns-clause-specifier_faults
returns-clause-specifier_faults c = analysed_spec

pub returns-clause-scan_faults : goal.returns-clause-scan_faults
returns-clause-scan_faults c = analysed_scan
