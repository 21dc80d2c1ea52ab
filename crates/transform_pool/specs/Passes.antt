-- What clauses say of a queue and its passes.
use Rattle.std.specs.Prelude.{◌≡◌, ℕ, ◌≤◌, true, List, Option}
use mathlib.Core.Option.{some}
use lib.ListN.{get_elem?}
use Rattle.crossbeam_queue.specs.declared.array_queue.Doing.{Doing}
use Rattle.crossbeam_queue.specs.declared.array_queue.Slotted.{Slotted}
use Rattle.crossbeam_queue.specs.Fifo.{Held}
use Rattle.crossbeam_queue.specs.Passes as ring
use Rattle.transform_pool.specs.Items.{no_jobs}
use Rattle.transform_pool.specs.Rule.{IsLastOf, IsLastPut, Ruled}
use Rattle.transform_pool.specs.Tasks.{Task}
use Rattle.transform_pool.specs.declared.item.Item.{Item}
use Rattle.transform_pool.specs.declared.item.Role.{Role}
use Rattle.transform_pool.specs.declared.queue.JobQueue.{JobQueue}
use Rattle.transform_pool.specs.declared.queue.JobPass.{JobPass}

-- how many items a queue holds at most
abbrev pub places : ℕ
places = 64

module _ {Q A : Type 0} where
  -- a pass of the queue under the rule
  abbrev pub IsSeatOf : Slotted (Option Item) (Doing Item Role) Q A → ring.Pass Item Role → Type 0
  IsSeatOf queue seat = ring.IsPassOf queue seat

  -- one that counts no more end marks than there are takers
  abbrev pub IsTakerOf : Slotted (Option Item) (Doing Item Role) Q A → ℕ → JobPass → Type 0
  IsTakerOf queue takers pass = IsSeatOf queue pass.seat × ((ring.view pass.seat).marks ≤ takers)

-- the pass is of this queue
abbrev pub IsPassOf : JobQueue → JobPass → Type 0
IsPassOf queue pass = IsTakerOf queue.ring queue.takers pass

-- what a pass knows
abbrev pub role_of : JobPass → Role
role_of pass = ring.view pass.seat

-- how many end marks close the queue
abbrev pub takers_of : JobQueue → ℕ
takers_of queue = queue.takers

-- Whatever the queue holds under its rule while the pass stands as it is, no job is among it, and the pass
-- that puts is closed.
pub record IsAtEnd (pass : JobPass) : Type 0 where
  pub empty : (items : List Item) (views : List Role) → Ruled items views
      → get_elem? views pass.seat.id ≡ some (role_of pass) → no_jobs items ≡ true
  pub closed : (items : List Item) (views : List Role) → Ruled items views
      → get_elem? views pass.seat.id ≡ some (role_of pass)
      → (other : ℕ) (v : Role) → get_elem? views other ≡ some v → v.puts ≡ true → v.closed ≡ true

-- at one moment of the call the queue held so many items, and the jobs among them are the last of these
abbrev pub HeldLast : ℕ → List Task → Type 0
HeldLast n put = Held {T = Item} n (IsLastOf put)

-- and they were jobs alone
abbrev pub HeldLastPut : ℕ → List Task → Type 0
HeldLastPut n put = Held {T = Item} n (IsLastPut put)
