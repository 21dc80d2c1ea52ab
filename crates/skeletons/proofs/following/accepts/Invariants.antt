use Rattle.std.proofs.Common.{◌≡◌, ◌++◌, drop}
use Rattle.skeletons.specs.Following.{targets}
use Rattle.skeletons.specs.declared.following.Relation.TheVariants as relations
use Rattle.skeletons.proofs.following.accepts.Given as goal

-- the modules so far, and those of what is left, are all
abbrev pub invariant-loop-specifier : goal.invariant-loop-specifier
invariant-loop-specifier l =
    l.names.items ++ targets relations.Accepted l.name l.text (drop l.specifier-index l.specifiers) ≡ targets relations.Accepted l.name l.text l.specifiers
