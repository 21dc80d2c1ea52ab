-- The rule that ties what a queue holds to what its passes know.
use Rattle.std.specs.Prelude.{◌≡◌, ℕ, ◌≤◌, true, false, List, ◌++◌}
use mathlib.Core.Option.{some}
use lib.ListN.{get_elem?}
use Rattle.transform_pool.specs.Items.{ends_in, in_order, jobs_in, no_ends, no_jobs}
use Rattle.transform_pool.specs.Tasks.{Task}
use Rattle.transform_pool.specs.declared.item.Item.{Item}
use Rattle.transform_pool.specs.declared.item.Role.{Role}

-- the jobs among the items are the last of those that were put
pub record IsLastOf (put : List Task) (items : List Item) : Type 0 where
  pub gone : List Task
  pub whole : gone ++ jobs_in items ≡ put

-- and no item is an end mark
pub record IsLastPut (put : List Task) (items : List Item) : Type 0 where
  pub jobs : no_ends items ≡ true
  pub last : IsLastOf put items

pub record Ruled (items : List Item) (views : List Role) : Type 0 where
  -- one pass puts
  pub putter : ℕ
  pub sole : (pass : ℕ) (v : Role) → get_elem? views pass ≡ some v → v.puts ≡ true → pass ≡ putter
  -- the jobs in the queue are the last of those that were put
  pub gone : List Task
  pub whole : (pass : ℕ) (v : Role) → get_elem? views pass ≡ some v → v.puts ≡ true
      → gone ++ jobs_in items ≡ v.put
  -- no job stands behind an end mark
  pub ordered : in_order items ≡ true
  -- while the pass that puts is not closed, no end mark is in the queue
  pub open_ends : (pass : ℕ) (v : Role) → get_elem? views pass ≡ some v → v.puts ≡ true → v.closed ≡ false
      → no_ends items ≡ true
  -- and no pass has ended
  pub open_passes : (pass other : ℕ) (v u : Role) → get_elem? views pass ≡ some v
      → v.puts ≡ true → v.closed ≡ false → get_elem? views other ≡ some u → u.ended ≡ false
  -- where a pass has ended, no job is in the queue
  pub ended : (pass : ℕ) (v : Role) → get_elem? views pass ≡ some v → v.ended ≡ true → no_jobs items ≡ true
  -- the end marks in the queue are among those that count as put
  pub marked : (pass : ℕ) (v : Role) → get_elem? views pass ≡ some v → v.puts ≡ true
      → ends_in items ≤ v.marks
