use Rattle.std.proofs.Common.{rules, arith, drop}
use Rattle.std.specs.Prelude.{◌==◌}
use Rattle.std.proofs.lemmas.Iterator.Consumers.{map_from_collect}
use Rattle.std.proofs.lemmas.Iterator.Splits.{YieldsList-from_slice_split}
use Rattle.std.proofs.lemmas.Grind.{common_steps}
use borrow.Author.Tests.{tests}
use Rattle.hmr_types.specs.ModName.{slash}
use Rattle.file_names.proofs.specifier.segments_of.Goals as goal

pub returns : goal.returns
returns c =
    map_from_collect _ c.collect.ensures.ran
    (YieldsList-from_slice_split _ (λ b. b == slash) (drop 1 c.args.name.now) (grind (arith, common_steps)) c.split.ensures.done c.split.ensures.closure (λ x b q k. search (rules, tests)))
