-- The pairs of one boundary, and the order of pairs.
use Rattle.std.specs.Prelude.{Bool, ◌||◌, List, ◌∷◌, ◌++◌}
use Rattle.std.specs.declared.cmp.Ordering.{Ordering}
use Rattle.std.specs.Cmp.Lexicographic.{slice_cmp}
use Rattle.std.specs.Ordering.{nat_cmp, ordering_then}
use Rattle.core_model.specs.Names.{Name, at, has, sorted}
use Rattle.core_model.specs.Rounds.{touched}
use Rattle.core_model.specs.Spread.{is_pair, pairs_with}
use Rattle.core_model.specs.View.{View, accepted_of, accepts}

-- what a boundary may be told of: itself, and what it accepts by name
abbrev pub own_and_accepted : View → Name → List Name
own_and_accepted view m = sorted (m ∷ accepted_of (at view m))

-- the pairs of a boundary, among what it may be told of
abbrev pub told : View → List Name → List Name → Name → List (Name × Name)
told view replaced forced m = pairs_with (is_pair view replaced forced) (own_and_accepted view m) m

-- m accepts n by name
abbrev pub accepted_by : View → Name → Name → Bool
accepted_by view n m = accepts view m n

-- the module is replaced, or accepts one that is replaced or was invalidated
abbrev pub may_be_told : View → List Name → List Name → Name → Bool
may_be_told view replaced forced m = has replaced m || touched (accepted_by view) (replaced ++ forced) m

-- by boundary, and then by what it is told of
abbrev pub pair_cmp : Name × Name → Name × Name → Ordering
pair_cmp p q = ordering_then (slice_cmp nat_cmp p.0 q.0) (slice_cmp nat_cmp p.1 q.1)
