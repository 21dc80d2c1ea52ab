-- How a job ends.
use Rattle.std.specs.Prelude.{ℕ, Bool, true, false, ◌⊎◌}
use Rattle.hmr_base.specs.Causes.{Rose}

module _ {J O : Type 0} (works gives_up : J → O → Type 0) where
  -- the Out is one of the job, worked or given up
  abbrev pub Ended : J → O → Bool → Type 0
  Ended job out true = works job out
  Ended job out false = gives_up job out

  -- the job was worked, or it was given up and a fault was counted
  abbrev pub Finished : J → O → ℕ → ℕ → Type 0
  Finished job out before now = works job out ⊎ (gives_up job out × Rose before now)
