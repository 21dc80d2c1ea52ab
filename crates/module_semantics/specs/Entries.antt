-- Names and what each holds, in order: the variables of a module, the exports of another, a bag.
use Rattle.std.specs.Prelude.{ℕ, Bool, true, not, ◌&&◌, ◌||◌, if◌then◌else◌, nat_le, nat_lt, List, [], ◌∷◌}
use Rattle.std.specs.Prelude.{length, map, Option, Some, None, is_some, bytes_eq}
use Rattle.std.specs.List.{list_any}
use Rattle.hmr_types.specs.declared.limits.TheConstants.{BAG_KEYS}
use Rattle.hmr_types.specs.declared.value.Value.{Value}

-- what the first entry of a name holds
unfoldable pub entry_at : {V : Type 0} → List ℕ → List (List ℕ × V) → Option V
entry_at name [] = None
entry_at name (e ∷ es) = if bytes_eq e.0 name then Some e.1 else entry_at name es

-- the entries, with this at a name: a name that is there keeps its place, a new one stands last
unfoldable pub with_entry : {V : Type 0} → List ℕ → V → List (List ℕ × V) → List (List ℕ × V)
with_entry name v [] = (name, v) ∷ []
with_entry name v (e ∷ es) = if bytes_eq e.0 name then (name, v) ∷ es else e ∷ with_entry name v es

-- the names, in order
abbrev pub names_of : {V : Type 0} → List (List ℕ × V) → List (List ℕ)
names_of es = map (λ e. e.0) es

-- whether a name is one of the names
abbrev pub has_name : List ℕ → List (List ℕ) → Bool
has_name name ns = list_any (λ n. bytes_eq n name) ns

-- whether no name comes twice
abbrev pub are_different : List (List ℕ) → Bool
are_different [] = true
are_different (n ∷ ns) = not (has_name n ns) && are_different ns

-- whether these may be the entries of a bag: at most 64, of different names
abbrev pub is_bag : {V : Type 0} → List (List ℕ × V) → Bool
is_bag es = nat_le (length es) BAG_KEYS && are_different (names_of es)

-- whether a bag takes a value at a key: it has the key, or holds fewer than 64
abbrev pub has_room : {V : Type 0} → List ℕ → List (List ℕ × V) → Bool
has_room key bag = is_some (entry_at key bag) || nat_lt (length bag) BAG_KEYS

-- keys with their values
abbrev pub Kept : Type 0
Kept = List (List ℕ × Value)
