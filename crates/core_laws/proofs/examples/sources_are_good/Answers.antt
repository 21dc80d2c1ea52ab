use Rattle.std.proofs.Common.{◌≡◌, Bool, true, false, refl}
use Rattle.std.specs.Prelude.{Option, Some, None, if◌then◌else◌}
use Rattle.core_model.specs.Names.{same_name}
use Rattle.core_model.specs.Sources.{Source, good}
use Rattle.core_model.specs.Examples.{m, a}
use Rattle.core_laws.specs.Settled.{HasGoodResult}
use Rattle.core_laws.proofs.examples.sources_are_good.Goals as goal

good_if : (b : Bool) (x : Source) (o : Option Source) → x.verdict ≡ good → HasGoodResult o → HasGoodResult (if b then Some x else o)
good_if true x o e h = e
good_if false x o e h = h

pub returns : goal.returns
returns c n = good_if (same_name a n) _ _ refl (good_if (same_name m n) _ None refl tt)
