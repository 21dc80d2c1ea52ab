-- The closures of clients that haven't come: each client that comes takes its own.
use Rattle.std.proofs.Common.{◌≡◌, List, length, sym}
use Rattle.std.specs.Prelude.{map}
use Rattle.std.specs.Global.{Vec}
use Rattle.std.specs.Vec.{with_items}
use Rattle.std.proofs.Math.Path.{subst}
use Rattle.std.proofs.lemmas.List.{with_items_is}
use Rattle.std.proofs.lemmas.Option.{slice_get-map}
use Rattle.handler_table.specs.Held.{Closure}
use Rattle.handler_table.specs.Shelf.{marks_of}
use Rattle.world_parts.specs.Shelves.{AreShelves, Shelves}

-- nobody has come
pub all_there : {F : Type 0} (shelves : Shelves F) → AreShelves 0 (map marks_of shelves) shelves
all_there shelves place l = sym (slice_get-map marks_of shelves place)

-- what holds of the shelves stays so through a call that is given the slice of them
pub kept_over : {F : Type 0} (P Q : Shelves F → Type 0) (shelves : Vec (List (Closure F))) (given left : Shelves F)
    → given ≡ shelves.items → length left ≡ shelves.len → (P given → Q left)
    → P shelves.items → Q (with_items shelves left).items
kept_over P Q shelves given left same kept f h =
    subst Q (sym (with_items_is shelves left kept)) (f (subst P (sym same) h))
