-- The versions that the instances of a plan get.
use Rattle.std.specs.Prelude.{◌≡◌, Some}
use Rattle.update_msgs.specs.Writable.{IsVersion}
use Rattle.core_model.specs.Names.{Name}
use Rattle.core_model.specs.Page.{Plan, entry_at}
use Rattle.core_model.specs.View.{Entry, View}

-- each entry of the plan has the version of a counted edit
abbrev pub AreCountedIn : Plan → View → Type 0
AreCountedIn p view = (n : Name) (e : Entry) → entry_at p view n ≡ Some e → IsVersion e.version
