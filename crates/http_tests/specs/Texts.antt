-- One text under every name but one.
use Rattle.std.specs.Prelude.{ℕ, List, Option, Some, None, codes, bytes_eq, if◌then◌else◌}

abbrev pub bodies : List ℕ → Option (List ℕ)
bodies name = if bytes_eq name (codes "/x.js") then None else Some (codes "n;\n")
