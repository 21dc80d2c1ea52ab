use Rattle.std.specs.Prelude.{[], Ok, Err}
use Rattle.hmr_types.specs.ModName.{is_segment_byte}
use Rattle.module_semantics.specs.Values.{number}
use Rattle.module_semantics.specs.Entries.{entry_at, with_entry}
use Rattle.module_language.specs.Examples.{m, importer, importer_tree, keeper, keeper_tree, nameless, nowhere, importer_slots, kept_five}
use Rattle.module_language.proofs.Texts.{importer_reads, keeper_reads, nameless_faults}
use Rattle.module_language.proofs.Reading.{evaluated_as}
use Rattle.module_language.proofs.examples.modules_are_evaluated.Goals as goal

pub returns-clause-importer : goal.returns-clause-importer
unfolding is_segment_byte number entry_at with_entry
returns-clause-importer c = evaluated_as m importer importer_slots [] (Ok importer_tree) importer_reads

pub returns-clause-keeper : goal.returns-clause-keeper
unfolding number entry_at with_entry
returns-clause-keeper c = evaluated_as m keeper [] kept_five (Ok keeper_tree) keeper_reads

pub returns-clause-nameless : goal.returns-clause-nameless
returns-clause-nameless c = evaluated_as m nameless [] kept_five (Err nowhere) nameless_faults
