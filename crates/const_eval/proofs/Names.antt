-- The names that a module declares are among its variables.
use Rattle.std.proofs.Common.{◌≡◌, ◌<◌, ℕ, zero, suc, Bool, true, false, if◌then◌else◌, List, [], ◌∷◌, ◌++◌, length, get_or, map, Option, Some, None, refl, arith}
use Rattle.std.specs.Prelude.{bytes_eq, IsSome}
use Rattle.std.specs.Option.{option_map}
use Rattle.std.proofs.lemmas.Slice.Eq.{bytes_eq-Decides}
use Rattle.hmr_types.specs.declared.value.Slot.{Slot}
use Rattle.hmr_types.specs.declared.value.Slot.TheVariants.{Unset}
use Rattle.module_tree.specs.declared.tree.Item.{Item}
use Rattle.module_tree.specs.Tree.{item_of}
use Rattle.module_semantics.specs.Modules.{declared_by, declared_names, unset}
use Rattle.const_eval.specs.Names.{AreAmong, AreDeclared}
use Rattle.const_eval.specs.Places.{place_among}

still_step : (b : Bool) (o : Option ℕ) → IsSome o → IsSome (if b then Some 0 else option_map suc o)
still_step true o there = refl
still_step false (Some p) there = refl
still_step false None there = there

-- a name is still there where one more entry stands before
still_there : (n : List ℕ) (e : List ℕ × Slot) (es : List (List ℕ × Slot)) → IsSome (place_among n es) → IsSome (place_among n (e ∷ es))
unfolding place_among
still_there n e es there = still_step (bytes_eq e.0 n) (place_among n es) there

still_among : (ns : List (List ℕ)) (e : List ℕ × Slot) (es : List (List ℕ × Slot)) → AreAmong es ns → AreAmong (e ∷ es) ns
still_among [] e es among = tt
still_among (n ∷ ns) e es among = (still_there n e es among.0, still_among ns e es among.1)

first_step : (b : Bool) (o : Option ℕ) → b ≡ true → IsSome (if b then Some 0 else option_map suc o)
first_step true o is = refl
first_step false o is = cc

first_there : (n : List ℕ) (v : Slot) (es : List (List ℕ × Slot)) → IsSome (place_among n ((n, v) ∷ es))
unfolding place_among
first_there n v es = first_step (bytes_eq n n) (place_among n es) ((bytes_eq-Decides n n).1 refl)

-- each name is among the variables that are made of the names
names_declared : (ns : List (List ℕ)) → AreAmong (unset ns) ns
names_declared [] = tt
names_declared (n ∷ ns) = (first_there n Unset (unset ns), still_among ns (n, Unset) (unset ns) (names_declared ns))

-- names in two parts
both_parts : (es : List (List ℕ × Slot)) (ns ms : List (List ℕ)) → AreAmong es (ns ++ ms) → AreAmong es ns × AreAmong es ms
both_parts es [] ms among = (tt, among)
both_parts es (n ∷ ns) ms among =
    let rest : AreAmong es ns × AreAmong es ms = both_parts es ns ms among.1 in
    ((among.0, rest.0), rest.1)

each_declared : (es : List (List ℕ × Slot)) (items : List Item) → AreAmong es (declared_names (map item_of items))
    → (k : ℕ) (d : Item) → k < length items → AreAmong es (declared_by (item_of (get_or items k d)))
each_declared es [] among k d lt = absurd (omega arith)
each_declared es (x ∷ xs) among zero d lt = (both_parts es (declared_by (item_of x)) (declared_names (map item_of xs)) among).0
each_declared es (x ∷ xs) among (suc k) d lt =
    each_declared es xs (both_parts es (declared_by (item_of x)) (declared_names (map item_of xs)) among).1 k d (omega arith)

-- what items declare is among the variables that are made of them
pub all_declared : (items : List Item) (vars : List (List ℕ × Slot)) → vars ≡ unset (declared_names (map item_of items)) → AreDeclared vars items
all_declared items vars are =
    let among : AreAmong vars (declared_names (map item_of items)) = rw are (names_declared (declared_names (map item_of items))) in
    record { each = each_declared vars items among }

-- it is so of equal variables
pub still_declared : (vars more : List (List ℕ × Slot)) (items : List Item) → more ≡ vars → AreDeclared vars items → AreDeclared more items
still_declared vars more items same declared = rw same declared
