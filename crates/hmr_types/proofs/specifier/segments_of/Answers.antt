use Rattle.std.proofs.Common.{rules, arith, drop}
use Rattle.std.specs.Prelude.{◌==◌}
use Rattle.std.proofs.lemmas.Iterator.Consumers.{map_from_collect}
use Rattle.std.proofs.lemmas.Iterator.Splits.{YieldsList-from_slice_split}
use Rattle.std.proofs.lemmas.Grind.{common_steps}
use borrow.Author.Tests.{tests}
use Rattle.hmr_types.specs.ModName.{slash}
use Rattle.hmr_types.proofs.Segments.{segments-is_name}
use Rattle.hmr_types.proofs.specifier.segments_of.Goals as goal

pub returns-clause-value : goal.returns-clause-value
returns-clause-value c =
    map_from_collect _ c.collect.ensures.ran
    (YieldsList-from_slice_split _ (λ b. b == slash) (drop 1 c.args.name.now) (grind (arith, common_steps)) c.split.ensures.done c.split.ensures.closure (λ x b q k. search (rules, tests)))

pub returns-clause-segments : goal.returns-clause-segments
returns-clause-segments c =
    let all = segments-is_name c.args.name.now (search rules) in
    search rules
