-- Which calls of the ends to come are to fail.
use Rattle.std.specs.Prelude.{ℕ, List, [], ◌∷◌, map, Option, Some, None}
use Rattle.hmr_base.specs.Plans.{Plan, fresh_plan}
use Rattle.transport.specs.declared.port.Port.{Port}

-- the calls of the next end: those of the first list, and none where there is no list
abbrev pub failing_next : List (List ℕ) → List ℕ
failing_next [] = []
failing_next (failing ∷ later) = failing

-- the plan of the next end, where it is told
abbrev pub plan_of_next : Option (List (List ℕ)) → Option Plan
plan_of_next None = None
plan_of_next (Some ends) = Some (fresh_plan (failing_next ends))

-- the lists of the ends after the next, where they are told
abbrev pub ends_after : Option (List (List ℕ)) → Option (List (List ℕ))
ends_after None = None
ends_after (Some []) = Some []
ends_after (Some (failing ∷ later)) = Some later

-- the lists that a net in memory holds
abbrev pub ends_of : Port → List (List ℕ)
ends_of port = map (λ failing. failing.items) port.ends.items
