-- What a search looks for.
use Rattle.std.specs.Prelude.{ℕ, Bool, not}
use Rattle.byte_lanes.specs.Classes.{is_in}
use Rattle.byte_lanes.specs.declared.class.Class.{Class}
use Rattle.byte_lanes.specs.declared.search.Sought.{Sought}
use Rattle.byte_lanes.specs.declared.search.Sought.TheVariants.{In, Out}

-- whether a byte is sought: it is in the class, or it isn't
abbrev pub is_sought : Class → Sought → ℕ → Bool
is_sought class In b = is_in class b
is_sought class Out b = not (is_in class b)
