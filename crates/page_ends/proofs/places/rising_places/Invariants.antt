use Rattle.std.proofs.Common.{◌≡◌}
use Rattle.std.specs.Prelude.{reverse}
use Rattle.page_ends.specs.Each.{falling, is_of}
use Rattle.page_ends.proofs.places.rising_places.Given as goal

-- those so far
abbrev pub invariant-loop-place : goal.invariant-loop-place
invariant-loop-place g l = l.places.items ≡ reverse (falling (is_of l.whose) l.page.instances.items l.place)
