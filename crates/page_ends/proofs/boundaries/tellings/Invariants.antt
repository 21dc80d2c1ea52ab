use Rattle.std.proofs.Common.{◌++◌, List, drop, length}
use Rattle.std.specs.List.{All}
use Rattle.core_model.specs.Page.{Plan}
use Rattle.client_model.specs.Runtime.{Runtime}
use Rattle.page_state.specs.Standing.{StandsFor}
use Rattle.page_ends.specs.Tellings.{AreTold, IsAsKnown, is_within}
use Rattle.page_ends.specs.declared.tell.Told.{Told}
use Rattle.page_ends.proofs.boundaries.tellings.Given as goal

-- the rows so far are the pairs so far
abbrev pub invariant-loop-pair : goal.invariant-loop-pair
invariant-loop-pair g l = record {
  within : All (λ t. is_within t.telling (length l.page.instances.items)) l.rows.items;
  told : (p : Plan) (r : Runtime) → StandsFor r l.page → IsAsKnown l.numbers l.forced p r
      → (more : List Told) → AreTold p r more (drop l.pair-index l.pairs) → AreTold p r (l.rows.items ++ more) l.pairs;
}
