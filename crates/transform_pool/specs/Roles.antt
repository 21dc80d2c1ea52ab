-- What a pass of a queue knows, and how it changes.
use Rattle.std.specs.Prelude.{◌≡◌, ℕ, ◌+◌, ◌-◌, ◌<◌, true, false, [], ◌∷◌, ◌++◌}
use Rattle.transform_pool.specs.Tasks.{Task}
use Rattle.transform_pool.specs.declared.item.Item.{Item}
use Rattle.transform_pool.specs.declared.item.Item.TheVariants.{Job, End}
use Rattle.transform_pool.specs.declared.item.Role.{Role}

-- how many passes that take a queue may have
abbrev pub most_takers : ℕ
most_takers = 16

-- the pass that puts, of a new queue
abbrev pub putting : Role
putting = record { puts = true; closed = false; ended = false; marks = 0; put = []; took = [] }

-- a pass that takes, of a new queue
abbrev pub taking : Role
taking = record putting { puts = false }

-- it put a job
abbrev pub put_more : Role → Task → Role
put_more v job = record v { put = v.put ++ job ∷ [] }

-- it took a job
abbrev pub took_more : Role → Task → Role
took_more v job = record v { took = v.took ++ job ∷ [] }

-- it took an end mark
abbrev pub at_end : Role → Role
at_end v = record v { closed = true; ended = true }

-- it put an end mark, which closes the queue
abbrev pub marked : Role → Role
marked v = record v { closed = true; marks = v.marks + 1 }

-- it took a job back, which closes the queue
abbrev pub back_with : Role → Task → Role
back_with v job = record v { closed = true; took = v.took ++ job ∷ [] }

-- it took an end mark back, which counts as not yet put
abbrev pub unmarked : Role → Role
unmarked v = record v { closed = true; marks = v.marks - 1 }

-- a pass that takes, with this item
abbrev pub taken : Role → Item → Role
taken v (Job job) = took_more v job
taken v End = at_end v

-- putting a job; no other step puts one
abbrev pub PutsJob : Role → Item → Role → Type 0
PutsJob v (Job job) w = w ≡ put_more v job
PutsJob v End w = ⊥

-- taking an item back: an end mark is one of those that were put
abbrev pub TakesBack : Role → Item → Role → Type 0
TakesBack v (Job job) w = w ≡ back_with v job
TakesBack v End w = (w ≡ unmarked v) × (0 < v.marks)

-- it puts as before, and has put the same jobs
pub record SamePuts (v w : Role) : Type 0 where
  pub puts : w.puts ≡ v.puts
  pub ended : w.ended ≡ v.ended
  pub put : w.put ≡ v.put
