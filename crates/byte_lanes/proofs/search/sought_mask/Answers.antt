use Rattle.std.proofs.Common.{◌-◌, ap, ◌∙◌}
use Rattle.byte_lanes.proofs.Lanes.{turned}
use Rattle.byte_lanes.specs.Classes.{is_in}
use Rattle.byte_lanes.proofs.search.sought_mask.Goals as goal

pub returns-in-Out : goal.returns-in-Out
returns-in-Out c = rw c.in-Out.is (ap (λ m. 18446744073709551615 - m) c.class_mask-in-Out.ensures ∙ turned (is_in c.args.class) c.args.lanes c.fits-lanes.0)
