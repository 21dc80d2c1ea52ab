-- What a name, a key of the bag and an export stand for.
use Rattle.std.specs.Prelude.{ℕ, Bool, if◌then◌else◌, List, Option, Some, None, Result, Ok, Err, slice_get}
use Rattle.hmr_types.specs.declared.value.Value.{Value}
use Rattle.hmr_types.specs.declared.value.Value.TheVariants as values
use Rattle.hmr_types.specs.declared.value.Slot.{Slot}
use Rattle.hmr_types.specs.declared.value.Slot.TheVariants.{Unset, Val}
use Rattle.hmr_types.specs.declared.value.EvalFault.{EvalFault}
use Rattle.hmr_types.specs.declared.value.EvalFault.TheVariants.{Uninitialised, UndefinedRead}
use Rattle.module_semantics.specs.Entries.{entry_at}
use Rattle.module_semantics.specs.declared.evaluation.ModParam.{ModParam}
use Rattle.module_semantics.specs.declared.evaluation.ModParam.TheVariants as params

-- what an expression reads: variables, the modules given as parameters, and the bag
pub record Scope : Type 0 where
  pub vars : List (List ℕ × Slot)
  pub mods : List ModParam
  pub bag : List (List ℕ × Value)

-- a variable has to have a value
abbrev pub name_value : List ℕ → Option Slot → Result Value EvalFault
name_value name (Some (Val v)) = Ok v
name_value name (Some Unset) = Err (Uninitialised name)
name_value name None = Err (Uninitialised name)

-- what a name reads
abbrev pub read_name : List ℕ → List (List ℕ × Slot) → Result Value EvalFault
read_name name vars = name_value name (entry_at name vars)

-- a key that the bag lacks is `undefined`
abbrev pub bag_value : Option Value → Value
bag_value (Some v) = v
bag_value None = values.Undef

-- what a key of the bag reads
abbrev pub read_bag : List ℕ → List (List ℕ × Value) → Value
read_bag key bag = bag_value (entry_at key bag)

-- an export that the module lacks is `undefined`; one that it has needs a value
abbrev pub export_value : List ℕ → Option Slot → Result Value EvalFault
export_value name (Some (Val v)) = Ok v
export_value name (Some Unset) = Err (Uninitialised name)
export_value name None = Ok values.Undef

-- an export of `undefined`
abbrev pub no_module : Bool → Result Value EvalFault
no_module safe = if safe then Ok values.Undef else Err UndefinedRead

-- an export of a parameter
abbrev pub member_of : Bool → List ℕ → Option ModParam → Result Value EvalFault
member_of safe name (Some (params.Mod exports)) = export_value name (entry_at name exports)
member_of safe name (Some params.Undef) = no_module safe
member_of safe name None = no_module safe

-- a parameter past the end is `undefined`
abbrev pub read_member : ℕ → Bool → List ℕ → List ModParam → Result Value EvalFault
read_member param safe name mods = member_of safe name (slice_get mods param)
