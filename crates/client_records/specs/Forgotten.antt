-- What stays in store for a client when modules leave its page.
use Rattle.std.specs.Prelude.{◌≡◌, List, not, filter, None, if◌then◌else◌}
use Rattle.core_model.specs.Names.{Name, has, at}
use Rattle.client_queue.specs.Queue.{Queue}

-- the names are neither known nor forced any more
pub record Forgotten (names : List Name) (old new : Queue) : Type 0 where
  pub known : (m : Name) → at new.known m ≡ (if has names m then None else at old.known m)
  pub forced : new.forced ≡ filter (λ m. not (has names m)) old.forced
  pub kept : new ≡ record old { known = new.known; forced = new.forced }
