-- What variables hold after assignments, of which the last to each name counts.
use Rattle.std.specs.Prelude.{◌≡◌, if◌then◌else◌, List, fold, Option, Some, None}
use Rattle.std.specs.Borrow.{Bor}
use Rattle.std.specs.BTreeMap.{BTreeMap, get_by}
use Rattle.std.specs.Cmp.Lexicographic.{slice_cmp}
use Rattle.std.specs.Option.{option_copied}
use Rattle.std.specs.Ordering.{nat_cmp}
use Rattle.hmr_types.specs.declared.value.Slot.{Slot}
use Rattle.hmr_types.specs.declared.value.Slot.TheVariants.{Val}
use Rattle.hmr_types.specs.declared.value.Value.{Value}
use Rattle.core_model.specs.Names.{Name, same_name}

-- the last value that the changes give a name, if one does
abbrev pub last_value : List (Name × Value) → Name → Option Value
last_value changes n =
    fold (λ value change. if same_name change.0 n then Some change.1 else value) None changes

-- the value that an index has for a name, if there is one
abbrev pub value_in : BTreeMap Name (Bor Value) → Name → Option Value
value_in index n = option_copied (get_by (slice_cmp nat_cmp n) index)

-- for each name the index tells the last value that the changes give it
pub record TellsLast (index : BTreeMap Name (Bor Value)) (changes : List (Name × Value)) : Type 0 where
  pub each : (n : Name) → value_in index n ≡ last_value changes n

-- the variable with a value, if there is one, and else as it is
abbrev pub with_value : Option Value → Name × Slot → Name × Slot
with_value None row = row
with_value (Some value) row = (row.0, Val value)
