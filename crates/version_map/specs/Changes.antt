-- What a change of one entry is to each name.
use Rattle.std.specs.Prelude.{◌≡◌, List, Option, if◌then◌else◌}
use Rattle.std.specs.Cmp.Lexicographic.{slice_cmp}
use Rattle.std.specs.List.Sorted.{IsStrictlySortedBy}
use Rattle.std.specs.Map.{keys_of}
use Rattle.std.specs.Ordering.{nat_cmp}
use Rattle.core_model.specs.Names.{Name, same_name}
use Rattle.core_model.specs.Sources.{Source, Serving}
use Rattle.version_map.specs.Entries.{entry_at, served_in, source_in}
use Rattle.version_map.specs.declared.entry.Entry.{Entry}

-- new has this source and this serving at n, and at each other name what old has
pub record ChangesAt (n : Name) (source : Option Source) (serving : Option Serving)
    (old new : List (Name × Entry)) : Type 0 where
  pub sources : (m : Name)
      → source_in (entry_at new m) ≡ (if same_name n m then source else source_in (entry_at old m))
  pub servings : (m : Name)
      → served_in (entry_at new m) ≡ (if same_name n m then serving else served_in (entry_at old m))
  pub ordered : IsStrictlySortedBy (slice_cmp nat_cmp) (keys_of new)
