-- A batch of two changes, part by part.
use Rattle.std.proofs.Common.{[], ◌∷◌}
use Rattle.core_model.specs.Examples.{a, b}
use Rattle.core_model.proofs.Spreading.{reason_is}
use Rattle.core_laws.specs.Batch.{AreCalm, view_after}
use Rattle.core_laws.specs.Examples.{roots, first_view, of_a, two_turns}

pub two_are_a_batch : AreCalm roots first_view two_turns
two_are_a_batch = ((reason_is first_view roots (a ∷ []) []).1, ((reason_is (view_after roots first_view of_a) roots (b ∷ []) []).1, tt))
