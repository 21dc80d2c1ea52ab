-- What is kept of a client once its page has other modules.
use Rattle.std.specs.Prelude.{◌≡◌, true, [], None}
use Rattle.core_model.specs.Names.{Name, at}
use Rattle.core_model.specs.Sources.{Sources}
use Rattle.core_model.specs.View.{View, differs, dropped_of}
use Rattle.client_queue.specs.Queue.{is_marked}
use Rattle.client_records.specs.Record.{Kept}

-- the page has the modules that were made, each is marked as its version wants it, and no plan is under way
pub record HasMade (s : Sources) (made : View) (old new : Kept) : Type 0 where
  pub kept : new
      ≡ record old
      { loaded = true; view = made; queue = new.queue; plan = None; dropped = dropped_of made old.roots }
  pub queue : new.queue ≡ record old.queue { known = new.queue.known; forced = []; held = None }
  pub marks : (n : Name) → is_marked new.queue n ≡ differs (at made n) (at s.served n)
