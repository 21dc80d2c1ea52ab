-- What the server has in store for a client.
use Rattle.std.specs.Prelude.{◌≡◌, ◌&&◌, [], ◌∷◌}
use Rattle.std.specs.Prelude.{ℕ, Bool, true, false, List, Option, Some, None, is_some, if◌then◌else◌}
use Rattle.std.specs.Cmp.Lexicographic.{slice_cmp}
use Rattle.std.specs.Ordering.{nat_cmp, is_lt}
use Rattle.hmr_types.specs.declared.analysis.TextFault.{TextFault}
use Rattle.core_model.specs.Names.{Name, same_name, at}

-- the known names, each with whether it is marked, the forced names and the waiting notices, all rising by
-- bytes, the hold, and for how many notices there is room
pub record Queue : Type 0 where
  pub known : List (Name × Bool)
  pub forced : List Name
  pub notices : List (Name × TextFault)
  pub held : Option ℕ
  pub spare : ℕ

-- the entries with this one in place of the name's own, or else where its name belongs
abbrev pub put_row : {X : Type 0} → Name → X → List (Name × X) → List (Name × X)
put_row n x [] = (n, x) ∷ []
put_row n x (row ∷ rows) = if same_name n row.0 then (n, x) ∷ rows
    else (if is_lt (slice_cmp nat_cmp n row.0) then (n, x) ∷ (row ∷ rows) else row ∷ put_row n x rows)

-- no entry is no mark
abbrev pub mark_in : Option Bool → Bool
mark_in None = false
mark_in (Some mark) = mark

-- the name is known
abbrev pub knows : Queue → Name → Bool
knows q n = is_some (at q.known n)

-- the name is known and marked
abbrev pub is_marked : Queue → Name → Bool
is_marked q n = mark_in (at q.known n)

-- the mark that a name has where it is known
abbrev pub mark_where_known : Bool → Option Bool → Option Bool
mark_where_known mark None = None
mark_where_known mark (Some old) = Some mark

-- afterwards the name has this mark, or isn't known, and each other name is as it was
abbrev pub MarkIs : Name → Option Bool → Queue → Queue → Type 0
MarkIs n mark old new = (m : Name) → at new.known m ≡ (if same_name n m then mark else at old.known m)

-- the marked names among the known ones
abbrev pub marked_of : List (Name × Bool) → List Name
marked_of [] = []
marked_of (row ∷ rows) = if row.1 then row.0 ∷ marked_of rows else marked_of rows

abbrev pub is_none_left : {X : Type 0} → List X → Bool
is_none_left [] = true
is_none_left (x ∷ xs) = false

-- nothing is marked, forced or waiting as a notice
abbrev pub is_clear : Queue → Bool
is_clear q = is_none_left q.forced && is_none_left q.notices && is_none_left (marked_of q.known)
