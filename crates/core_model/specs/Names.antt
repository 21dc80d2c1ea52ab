-- Names of modules, in lists and as keys.
use Rattle.std.specs.Prelude.{ℕ, Bool, not, nat_eq, List, [], ◌∷◌, filter, map, Option, Some, None}
use Rattle.std.specs.Prelude.{if◌then◌else◌, true, ◌&&◌}
use Rattle.std.specs.List.{list_any}
use Rattle.std.specs.Ordering.{nat_cmp, is_lt}
use Rattle.std.specs.Cmp.Lexicographic.{pointwise, slice_cmp}

-- the name of a module, or a name in a module: its bytes
abbrev pub Name : Type 0
Name = List ℕ

-- the names are the same
abbrev pub same_name : Name → Name → Bool
same_name = pointwise nat_eq

-- the name is in the list
abbrev pub has : List Name → Name → Bool
has names n = list_any (λ m. same_name m n) names

-- what a list of entries has at a name: its first entry counts
abbrev pub at : {X : Type 0} → List (Name × X) → Name → Option X
at [] n = None
at (row ∷ rows) n = if same_name row.0 n then Some row.1 else at rows n

-- the entries of other names
abbrev pub without : {X : Type 0} → Name → List (Name × X) → List (Name × X)
without n rows = filter (λ row. not (same_name row.0 n)) rows

-- the entries with this one in place of the name's own
abbrev pub with_row : {X : Type 0} → Name → X → List (Name × X) → List (Name × X)
with_row n x rows = (n, x) ∷ without n rows

-- the entries of other names than these
abbrev pub without_all : {X : Type 0} → List Name → List (Name × X) → List (Name × X)
without_all names rows = filter (λ row. not (has names row.0)) rows

-- the names of the entries
abbrev pub names_of : {X : Type 0} → List (Name × X) → List Name
names_of rows = map (λ row. row.0) rows

-- the entries that get has, for the names of a list in its order
abbrev pub with_entry : {X : Type 0} → Name → Option X → List (Name × X) → List (Name × X)
with_entry n None rows = rows
with_entry n (Some x) rows = (n, x) ∷ rows

-- what get has for the names of a list, in its order
abbrev pub collect : {X : Type 0} → (Name → Option X) → List Name → List (Name × X)
collect get [] = []
collect get (n ∷ names) = with_entry n (get n) (collect get names)

-- the name put into a list that rises by bytes, where it isn't in it yet
abbrev pub put_name : Name → List Name → List Name
put_name n [] = n ∷ []
put_name n (m ∷ names) =
    if same_name n m then m ∷ names
    else (if is_lt (slice_cmp nat_cmp n m) then n ∷ (m ∷ names) else m ∷ put_name n names)

-- the names of a list, each once, rising by bytes
abbrev pub sorted : List Name → List Name
sorted [] = []
sorted (n ∷ names) = put_name n (sorted names)

-- the name put into a list before the first that isn't below it
abbrev pub insert_name : Name → List Name → List Name
insert_name n [] = n ∷ []
insert_name n (m ∷ names) = if is_lt (slice_cmp nat_cmp m n) then m ∷ insert_name n names
    else n ∷ (m ∷ names)

-- the names of a list, rising by bytes; a repeated name stays
abbrev pub in_order : List Name → List Name
in_order [] = []
in_order (n ∷ names) = insert_name n (in_order names)

-- the first of a list, if there is one
abbrev pub first_of : {X : Type 0} → List X → Option X
first_of [] = None
first_of (x ∷ xs) = Some x

-- each name is below the next, by bytes
abbrev pub rising : List Name → Bool
rising [] = true
rising (n ∷ []) = true
rising (n ∷ (m ∷ names)) = is_lt (slice_cmp nat_cmp n m) && rising (m ∷ names)
