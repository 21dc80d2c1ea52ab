-- What the code of an instance reads, by what is kept of all of them.
use Rattle.std.specs.Prelude.{ℕ, zero, suc, List, ◌++◌, map, slice_get, Option, Some, None, if◌then◌else◌}
use Rattle.hmr_types.specs.declared.value.Slot.{Slot}
use Rattle.hmr_types.specs.declared.value.Slot.TheVariants.{Unset}
use Rattle.core_model.specs.Names.{Name, at}
use Rattle.client_model.specs.Language.{Slots, slot_at}
use Rattle.client_model.specs.Instance.{is_done_status}
use Rattle.page_instances.specs.declared.instance.Bound.{Bound}
use Rattle.page_instances.specs.declared.instance.Instance.{Instance}

-- the instance of this number; numbers begin at 1
abbrev pub kept_at : {F : Type 0} → List (Instance F) → ℕ → Option (Instance F)
kept_at instances zero = None
kept_at instances (suc place) = slice_get instances place

-- what an export of an instance holds now
abbrev pub slot_in : {F : Type 0} → Option (Instance F) → Name → Slot
slot_in None x = Unset
slot_in (Some c) x = slot_at c.values.items x

-- what an export of the instance of this number holds now
abbrev pub slot_by : {F : Type 0} → Option ℕ → List (Instance F) → Name → Slot
slot_by None instances x = Unset
slot_by (Some k) instances x = slot_in (kept_at instances k) x

-- what these names of imports hold now
abbrev pub bound_slots : {F : Type 0} → List (Instance F) → List (Name × ℕ) → List Bound → Slots
bound_slots instances links bounds =
    map (λ b. (b.local, slot_by (at links b.dependency) instances b.exported)) bounds

-- what the code of an instance reads: its own variables, and its imports
abbrev pub scope_in : {F : Type 0} → List (Instance F) → Instance F → Slots
scope_in instances c = c.values.items ++ bound_slots instances c.links c.bindings

-- what each of these variables holds, in order
abbrev pub slots_of : Slots → List Name → Slots
slots_of slots names = map (λ x. (x, slot_at slots x)) names

-- an instance as the argument of a callback: its exports, where it was evaluated to its end
abbrev pub exports_in : {F : Type 0} → Instance F → Option Slots
exports_in c = if is_done_status c.status then Some (slots_of c.values.items c.exports) else None
