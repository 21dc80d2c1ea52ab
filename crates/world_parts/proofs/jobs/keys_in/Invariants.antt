use Rattle.std.proofs.Common.{◌≡◌, ◌++◌}
use Rattle.std.specs.Prelude.{map}
use Rattle.world_parts.specs.Jobs.{job_of, key_of}
use Rattle.world_parts.proofs.jobs.keys_in.Given as goal

-- the keys so far, and those of the rows that are left, are the keys of all
abbrev pub invariant-loop-version : goal.invariant-loop-version
invariant-loop-version l = l.keys.items ++ map (λ row. key_of (job_of row)) l.version-iterator ≡ map (λ row. key_of (job_of row)) l.rows.entries
