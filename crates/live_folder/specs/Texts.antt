-- The texts that a look gives.
use Rattle.std.specs.Prelude.{◌≤◌, ℕ, length}
use Rattle.std.specs.Global.{Vec}

-- a text of at most 64 MiB
abbrev pub IsShort : Vec ℕ → Type 0
IsShort text = length text.items ≤ 67108864
