-- A list of two.
use Rattle.std.proofs.Common.{◌≡◌, Option, Some, None, option_and_then, refl}
use Rattle.std.specs.Prelude.{is_some, if◌then◌else◌}
use Rattle.serde_json.specs.Data.{Data, null, boolean, number, string, array, object, Items, no_items, item}
use Rattle.serde_json.specs.Find.{at, as_array}
use Rattle.told_plans.specs.Reading.{two_items}

abbrev pub two_of : Option Data → Option Data → Option Data → Option (Data × Data)
two_of a b c = option_and_then (λ x. option_and_then (λ y. if is_some c then None else Some (x, y)) b) a

two_at_items : (ds : Items) → option_and_then two_items (as_array (array ds)) ≡ two_of (at 0 (array ds)) (at 1 (array ds)) (at 2 (array ds))
two_at_items no_items = refl
two_at_items (item a no_items) = refl
two_at_items (item a (item b no_items)) = refl
two_at_items (item a (item b (item c ds))) = refl

-- a list of two, by its places
pub two_at : (d : Data) → option_and_then two_items (as_array d) ≡ two_of (at 0 d) (at 1 d) (at 2 d)
two_at null = refl
two_at (boolean b) = refl
two_at (number n) = refl
two_at (string s) = refl
two_at (array ds) = two_at_items ds
two_at (object ms) = refl
