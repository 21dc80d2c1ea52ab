-- The marks of a page whose modules become others.
use Rattle.std.specs.Prelude.{◌≡◌, Bool, true, Option, None, if◌then◌else◌, List}
use Rattle.core_model.specs.Names.{Name, has, at}
use Rattle.core_model.specs.Sources.{Sources}
use Rattle.core_model.specs.View.{View, differs, is_in}
use Rattle.client_queue.specs.Queue.{Queue, is_marked, knows, mark_where_known}

-- more names are known, and the marks are as they were
pub record IsGrown (old new : Queue) : Type 0 where
  pub marks : (n : Name) → is_marked new n ≡ is_marked old n
  pub known : (n : Name) → knows old n ≡ true → knows new n ≡ true
  pub kept : new ≡ record old { known = new.known }

-- the mark of a name, where this is the page: by its version there; what isn't on the page isn't known
abbrev pub mark_on : View → Sources → Name → Option Bool → Option Bool
mark_on page s n old = if is_in page n then mark_where_known (differs (at page n) (at s.served n)) old
    else None

-- these names are marked as their versions on the page want it
pub record AreRenewed (names : List Name) (page : View) (s : Sources) (old new : Queue) : Type 0 where
  pub known : (n : Name)
      → at new.known n ≡ (if has names n then mark_on page s n (at old.known n) else at old.known n)
  pub kept : new ≡ record old { known = new.known }
