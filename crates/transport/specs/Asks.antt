-- What a net was asked, and what it may be asked next.
use Rattle.std.specs.Prelude.{◌≡◌, ◌⊎◌, ℕ, Option, Some, None}
use Rattle.transport.specs.declared.net.Asked.{Asked}
use Rattle.transport.specs.declared.net.Asked.TheVariants.{Connect}

-- a connect names the port that is heard, where there is one; else all connects name one port
abbrev pub MayConnect : Option Asked → Option ℕ → ℕ → Type 0
MayConnect asked (Some heard) port = port ≡ heard
MayConnect asked None port = (asked ≡ None) ⊎ (asked ≡ Some (Connect port))

-- what was asked first stays
abbrev pub first_asked : Option Asked → Asked → Option Asked
first_asked None now = Some now
first_asked (Some before) now = Some before
