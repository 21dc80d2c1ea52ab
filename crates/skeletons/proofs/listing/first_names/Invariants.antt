use Rattle.std.proofs.Common.{◌≡◌, drop, []}
use Rattle.skeletons.specs.Following.{gathered}
use Rattle.skeletons.proofs.listing.first_names.Given as goal

-- what is left gathers, from here, what all gathers from the beginning
abbrev pub invariant-loop-name : goal.invariant-loop-name
invariant-loop-name l = gathered l.made.items (drop l.name-index l.names) ≡ gathered [] l.names
