use Rattle.module_language.specs.ModuleLanguage.{module_language}
use Rattle.journal_laws.specs.Counts.{AreDisposedOnce}
use Rattle.journal_laws.specs.Data.{SuccessorsInherit, DisposersHandOn, OthersInheritNothing}
use Rattle.journal_laws.proofs.CountsOnce.{are_disposed_once}
use Rattle.journal_laws.proofs.DataDisposing.{disposers_hand_on}
use Rattle.journal_laws.proofs.DataInheriting.{successors_inherit, others_inherit}
use Rattle.journal_laws.proofs.InWorld.{of_each_client}
use Rattle.world_laws.proofs.Promising.{holds_fresh, has_own_roots, has_instances, stale_stops, reloads, catches_up}
use Rattle.journal_laws.proofs.headline.headline.Goals as goal

pub returns-clause-fresh_load : goal.returns-clause-fresh_load
returns-clause-fresh_load f run i c r h up = has_instances run i c r h up

pub returns-clause-nothing_missing : goal.returns-clause-nothing_missing
returns-clause-nothing_missing f run i c r h up = (holds_fresh run i c r h up).nothing_missing

pub returns-clause-own_roots : goal.returns-clause-own_roots
returns-clause-own_roots f run i c r h = has_own_roots run i c r h

pub returns-clause-stale_bindings : goal.returns-clause-stale_bindings
returns-clause-stale_bindings f run i c r h = stale_stops run i c r h

pub returns-clause-full_reload : goal.returns-clause-full_reload
returns-clause-full_reload f run i c r h = reloads run i c r h

pub returns-clause-catches_up : goal.returns-clause-catches_up
returns-clause-catches_up f run i c r h settled quiet = catches_up run i c r h settled quiet

pub returns-clause-held_disposers : goal.returns-clause-held_disposers
returns-clause-held_disposers f run i c r h = of_each_client module_language run.roots AreDisposedOnce (are_disposed_once module_language) run.shelves run.steps i r h.went h.is_open.open_is

pub returns-clause-data_to_the_successor : goal.returns-clause-data_to_the_successor
returns-clause-data_to_the_successor f run i c r h = of_each_client module_language run.roots SuccessorsInherit (successors_inherit module_language) run.shelves run.steps i r h.went h.is_open.open_is

pub returns-clause-data_of_disposers : goal.returns-clause-data_of_disposers
returns-clause-data_of_disposers f run i c r h = of_each_client module_language run.roots DisposersHandOn (disposers_hand_on module_language) run.shelves run.steps i r h.went h.is_open.open_is

pub returns-clause-data_to_no_other : goal.returns-clause-data_to_no_other
returns-clause-data_to_no_other f run i c r h = of_each_client module_language run.roots OthersInheritNothing (others_inherit module_language) run.shelves run.steps i r h.went h.is_open.open_is
