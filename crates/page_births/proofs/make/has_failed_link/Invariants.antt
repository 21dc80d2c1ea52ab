use Rattle.std.proofs.Common.{◌≡◌, drop}
use Rattle.page_births.specs.Births.{has_failed_link}
use Rattle.page_births.proofs.make.has_failed_link.Given as goal

-- it isn't among those that were looked at
abbrev pub invariant-loop-link : goal.invariant-loop-link
invariant-loop-link g l = has_failed_link l.instances (drop l.link-index l.links) ≡ has_failed_link l.instances l.links
