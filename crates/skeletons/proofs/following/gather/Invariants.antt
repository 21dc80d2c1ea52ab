use Rattle.std.proofs.Common.{◌≡◌, drop}
use Rattle.skeletons.specs.Following.{gathered, targets}
use Rattle.skeletons.proofs.following.gather.Given as goal

-- what is left gathers, from here, what all gathers from the beginning
abbrev pub invariant-loop-specifier : goal.invariant-loop-specifier
invariant-loop-specifier l =
    gathered l.names.items (targets l.relation l.name l.text (drop l.specifier-index l.specifiers)) ≡ gathered l.fn.names.items (targets l.relation l.name l.text l.specifiers)
