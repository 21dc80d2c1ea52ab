use Rattle.std.proofs.Common.{sym}
use Rattle.std.proofs.Math.Path.{subst}
use Rattle.core_model.specs.Core.{core_after, changes_of}
use Rattle.core_model.proofs.Replaying.{sources_are}
use Rattle.core_laws.specs.Given.{analysis_given}
use Rattle.core_laws.specs.Facts.{SourcesFacts}
use Rattle.core_laws.proofs.Givens.{sources_facts}
use Rattle.core_laws.proofs.Settling.{good_is_served}
use Rattle.core_laws.proofs.laws.good_sources_are_served.Goals as goal

pub returns : goal.returns
returns c roots past = good_is_served (analysis_given (changes_of past)) (core_after roots past).sources (subst (SourcesFacts (analysis_given (changes_of past))) (sym (sources_are roots past)) (sources_facts (changes_of past)))
