-- What holds of all holds of the one that is found.
use Rattle.std.proofs.Common.{Bool, true, false, List, [], ◌∷◌, Option, Some, IfSome, cond, find}
use Rattle.std.specs.List.{All, AllByRecursion}
use Rattle.std.proofs.lemmas.List.Elements.{recursion_from_All}

found_step : {X : Type 0} (P : X → Type 0) (x : X) (b : Bool) (rest : Option X) → P x → IfSome rest P → IfSome (cond b (Some x) rest) P
found_step P x true rest first more = first
found_step P x false rest first more = more

found_one : {X : Type 0} (P : X → Type 0) (test : X → Bool) (xs : List X) → AllByRecursion P xs → IfSome (find test xs) P
found_one P test [] h = tt
found_one P test (x ∷ xs) h = found_step P x (test x) (find test xs) h.0 (found_one P test xs h.1)

-- the first that passes a test
pub found : {X : Type 0} (P : X → Type 0) (test : X → Bool) (xs : List X) → All P xs → IfSome (find test xs) P
found P test xs h = found_one P test xs (recursion_from_All P xs h)
