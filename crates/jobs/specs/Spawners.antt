-- What contracts see of the spawners.
use Rattle.std.specs.Prelude.{ℕ, List}
use Rattle.jobs.specs.declared.thread_spawner.ThreadSpawner.{ThreadSpawner}

-- how many starts of each kind went on
abbrev pub begun_of : ThreadSpawner → List ℕ
begun_of spawner = spawner.begun

-- how many faults were counted
abbrev pub faults_of : ThreadSpawner → ℕ
faults_of spawner = spawner.faults
