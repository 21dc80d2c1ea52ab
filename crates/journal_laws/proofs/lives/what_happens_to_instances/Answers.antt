use Rattle.module_language.specs.ModuleLanguage.{module_language}
use Rattle.module_language.proofs.Binding.{module_texts_bind}
use Rattle.world_laws.specs.Runs.{served_of}
use Rattle.journal_laws.specs.Counts.{ArePrunedOnce, AreRegistered, AreTold, AreFated, AreRunsOfHandlers}
use Rattle.journal_laws.specs.Ends.{AllEnd}
use Rattle.journal_laws.specs.Lives.{HeldPruneHandlersRun, DisposersRunFirst}
use Rattle.journal_laws.specs.Values.{ValuesAreLeft, AreEvaluations, AreUnrun, AreEvaluatedOnce, AreRuns}
use Rattle.journal_laws.proofs.CountsOnce.{are_pruned_once}
use Rattle.journal_laws.proofs.CountsOrder.{held_prune_handlers_run, disposers_run_first}
use Rattle.journal_laws.proofs.CountsSteps.{are_fated}
use Rattle.journal_laws.proofs.CountsUsed.{are_registered, are_told, are_runs_of_handlers}
use Rattle.journal_laws.proofs.EvaluationsTold.{evaluations_run, unrun_run, runs_run}
use Rattle.journal_laws.proofs.FreshWorld.{live_values_are_fresh}
use Rattle.journal_laws.proofs.HandlerEnds.{all_end}
use Rattle.journal_laws.proofs.InWorld.{in_every_run}
use Rattle.journal_laws.proofs.OfTexts.{are_live_without_bag}
use Rattle.journal_laws.proofs.ValuesLeft.{values_run, once_run}
use Rattle.journal_laws.proofs.lives.what_happens_to_instances.Goals as goal

pub returns-clause-prune_handlers : goal.returns-clause-prune_handlers
returns-clause-prune_handlers f = in_every_run ArePrunedOnce (are_pruned_once module_language)

pub returns-clause-held_prune_handlers : goal.returns-clause-held_prune_handlers
returns-clause-held_prune_handlers f = in_every_run HeldPruneHandlersRun (held_prune_handlers_run module_language)

pub returns-clause-disposers_first : goal.returns-clause-disposers_first
returns-clause-disposers_first f = in_every_run DisposersRunFirst (disposers_run_first module_language)

pub returns-clause-ends : goal.returns-clause-ends
returns-clause-ends f = in_every_run AllEnd (all_end module_language)

pub returns-clause-told : goal.returns-clause-told
returns-clause-told f = in_every_run AreTold (are_told module_language)

pub returns-clause-registered : goal.returns-clause-registered
returns-clause-registered f = in_every_run AreRegistered (are_registered module_language)

pub returns-clause-runs : goal.returns-clause-runs
returns-clause-runs f = in_every_run AreRunsOfHandlers (are_runs_of_handlers module_language)

pub returns-clause-fates : goal.returns-clause-fates
returns-clause-fates f = in_every_run AreFated (are_fated module_language)

pub returns-clause-values : goal.returns-clause-values
returns-clause-values f = in_every_run ValuesAreLeft (values_run module_language)

pub returns-clause-evaluations : goal.returns-clause-evaluations
returns-clause-evaluations f = in_every_run (AreEvaluations module_language) (evaluations_run module_language)

pub returns-clause-unrun : goal.returns-clause-unrun
returns-clause-unrun f = in_every_run AreUnrun (unrun_run module_language)

pub returns-clause-evaluated_once : goal.returns-clause-evaluated_once
returns-clause-evaluated_once f = in_every_run AreEvaluatedOnce (once_run module_language)

pub returns-clause-assignments : goal.returns-clause-assignments
returns-clause-assignments f = in_every_run (AreRuns module_language) (runs_run module_language)

pub returns-clause-fresh_values : goal.returns-clause-fresh_values
returns-clause-fresh_values f run i c r h up unstale acyclic handlers nothing =
    live_values_are_fresh module_language run.roots run.shelves run.steps i c r h.went module_texts_bind h.is_open up unstale acyclic
    (are_live_without_bag (served_of run) r handlers) nothing
