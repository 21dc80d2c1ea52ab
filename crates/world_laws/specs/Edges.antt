-- Edges in their order, by importer and then by dependency.
use Rattle.std.specs.Prelude.{Bool, true, ◌&&◌, ◌||◌, List, [], ◌∷◌}
use Rattle.std.specs.Ordering.{nat_cmp, is_lt}
use Rattle.std.specs.Cmp.Lexicographic.{slice_cmp}
use Rattle.core_model.specs.Names.{Name, same_name}

-- the importer is below the other's, or it is the same and the dependency is below
abbrev pub is_edge_below : Name × Name → Name × Name → Bool
is_edge_below e f =
    is_lt (slice_cmp nat_cmp e.0 f.0) || (same_name e.0 f.0 && is_lt (slice_cmp nat_cmp e.1 f.1))

-- each edge is below the next
abbrev pub edges_rise : List (Name × Name) → Bool
edges_rise [] = true
edges_rise (e ∷ []) = true
edges_rise (e ∷ (f ∷ edges)) = is_edge_below e f && edges_rise (f ∷ edges)
