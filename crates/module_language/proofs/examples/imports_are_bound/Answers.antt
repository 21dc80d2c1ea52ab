use Rattle.std.specs.Prelude.{Ok, Err}
use Rattle.hmr_types.specs.ModName.{is_segment_byte}
use Rattle.module_language.specs.Examples.{m, importer, importer_tree, keeper, keeper_tree, astray, astray_tree, nameless, nowhere}
use Rattle.module_language.proofs.Texts.{importer_reads, keeper_reads, astray_reads, nameless_faults}
use Rattle.module_language.proofs.Reading.{bindings_as}
use Rattle.module_language.proofs.examples.imports_are_bound.Goals as goal

pub returns-clause-importer : goal.returns-clause-importer
unfolding is_segment_byte
returns-clause-importer c = bindings_as m importer (Ok importer_tree) importer_reads

pub returns-clause-keeper : goal.returns-clause-keeper
returns-clause-keeper c = bindings_as m keeper (Ok keeper_tree) keeper_reads

pub returns-clause-astray : goal.returns-clause-astray
returns-clause-astray c = bindings_as m astray (Ok astray_tree) astray_reads

pub returns-clause-nameless : goal.returns-clause-nameless
returns-clause-nameless c = bindings_as m nameless (Err nowhere) nameless_faults
