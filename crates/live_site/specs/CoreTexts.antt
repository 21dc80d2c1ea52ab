-- The texts that a core is told.
use Rattle.std.specs.Prelude.{◌≤◌, ℕ, length}
use Rattle.std.specs.Global.{Vec}

-- a text that a core takes
abbrev pub IsShort : Vec ℕ → Type 0
IsShort text = length text.items ≤ 131072
