use Rattle.std.proofs.Common.{sym, ◌∙◌}
use Rattle.std.specs.Prelude.{IsUtf8}
use Rattle.std.proofs.Math.Path.{subst}
use Rattle.version_map.proofs.Reading.{good_reads}
use Rattle.version_map.proofs.version_map.VersionMap.settle.Goals as goal

pub settle_parts-requires : goal.settle_parts-requires
settle_parts-requires c = λ g. subst IsUtf8 (sym c.into_parts-name.ensures.text)
    (good_reads c.args.transformed.name c.args.transformed.text c.into_parts-name.result.2 (c.into_parts-name.ensures.outcome ∙ c.into_parts-name.ensures.exact) g)
