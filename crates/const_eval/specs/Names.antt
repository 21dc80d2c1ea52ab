-- That what a module declares is among its variables.
use Rattle.std.specs.Prelude.{ℕ, List, [], ◌∷◌, IsSome, All}
use Rattle.hmr_types.specs.declared.value.Slot.{Slot}
use Rattle.module_tree.specs.declared.tree.Item.{Item}
use Rattle.module_tree.specs.Tree.{item_of}
use Rattle.module_semantics.specs.Modules.{declared_by}
use Rattle.const_eval.specs.Places.{place_among}

-- each of the names is among the entries
abbrev pub AreAmong : List (List ℕ × Slot) → List (List ℕ) → Type 0
AreAmong es [] = Unit {0}
AreAmong es (n ∷ ns) = IsSome (place_among n es) × AreAmong es ns

-- so is each name that one of the items declares
pub record AreDeclared (vars : List (List ℕ × Slot)) (items : List Item) : Type 0 where
  pub each : All (λ item. AreAmong vars (declared_by (item_of item))) items
