use Rattle.std.proofs.Common.{◌≡◌, drop, map}
use Rattle.module_semantics.specs.Kinds.{within}
use Rattle.token_kinds.specs.Kinds.{code_of}
use Rattle.token_kinds.proofs.kind.Kind.is_in.Given as goal

-- it is one of the kinds that are left exactly where it is one of all
abbrev pub invariant-loop-kind : goal.invariant-loop-kind
invariant-loop-kind l = within (map code_of (drop l.kind-index l.kinds)) (code_of l.self) ≡ within (map code_of l.kinds) (code_of l.self)
