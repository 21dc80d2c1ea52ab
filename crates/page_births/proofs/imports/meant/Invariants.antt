use Rattle.std.proofs.Common.{◌≡◌, ◌++◌, drop}
use Rattle.module_semantics.specs.Analysis.{meant}
use Rattle.page_births.proofs.imports.meant.Given as goal

abbrev pub invariant-loop-spec : goal.invariant-loop-spec
invariant-loop-spec l = l.names.items ++ meant l.base (drop l.spec-index l.specs) ≡ meant l.base l.specs
