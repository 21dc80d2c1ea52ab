-- Whether a client is at rest with a table.
use Rattle.std.specs.Prelude.{ℕ, Bool, false, ◌&&◌, nat_eq, List, Option, Some, None}
use Rattle.std.specs.Cmp.Lexicographic.{pointwise}
use Rattle.hmr_types.specs.ModName.{is_text}
use Rattle.core_model.specs.Core.{Event, core_after}
use Rattle.core_model.specs.Names.{Name}
use Rattle.server_core.specs.Reading.{is_resting, page_of}

-- the rows have the same name and the same version
abbrev pub is_same_row : Name × ℕ → Name × ℕ → Bool
is_same_row row other = is_text row.0 other.0 && nat_eq row.1 other.1

-- the tables have the same rows
abbrev pub is_same_table : List (Name × ℕ) → List (Name × ℕ) → Bool
is_same_table = pointwise is_same_row

-- the page is there, and has this table
abbrev pub is_page_with : Option (List (Name × ℕ)) → List (Name × ℕ) → Bool
is_page_with None table = false
is_page_with (Some page) table = is_same_table page table

-- after these events, the newest first, the client is at rest, and its page has this table
abbrev pub rests_with : List Name → List Event → ℕ → List (Name × ℕ) → Bool
rests_with roots past client table =
    is_resting (core_after roots past) client && is_page_with (page_of (core_after roots past) client) table
