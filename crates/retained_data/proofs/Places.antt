-- What is put at the place of a name.
use Rattle.std.proofs.Common.{◌≡◌, ◌≤◌, ◌<◌, ◌+◌, ℕ, suc, Bool, true, false, if◌then◌else◌, List, [], ◌∷◌, ◌++◌, length, refl, ap, arith}
use Rattle.std.specs.Prelude.{bytes_eq, slice_set, ◌||◌}
use Rattle.module_semantics.specs.Entries.{with_entry, has_name, names_of}
use Rattle.module_semantics.proofs.Entries.{new_stands_last}
use Rattle.retained_data.specs.Places.{place}

in_place_step : {V : Type 0} (name : List ℕ) (v : V) (e : List ℕ × V) (es : List (List ℕ × V)) (b : Bool)
    → (place name es < length es → with_entry name v es ≡ slice_set es (place name es) (name, v))
    → (if b then 0 else 1 + place name es) < suc (length es)
    → (if b then (name, v) ∷ es else e ∷ with_entry name v es) ≡ slice_set (e ∷ es) (if b then 0 else 1 + place name es) (name, v)
in_place_step name v e es true more h = refl
in_place_step name v e es false more h =
    let next : 1 + place name es ≡ suc (place name es) = omega arith in
    rw next (ap (λ l. e ∷ l) (more (omega arith)))

-- a name that is there keeps its place
pub in_place : {V : Type 0} (name : List ℕ) (v : V) (es : List (List ℕ × V)) → place name es < length es → with_entry name v es ≡ slice_set es (place name es) (name, v)
unfolding with_entry place
in_place name v [] h = absurd (omega arith)
in_place name v (e ∷ es) h = in_place_step name v e es (bytes_eq e.0 name) (in_place name v es) h

new_step : {V : Type 0} (name : List ℕ) (es : List (List ℕ × V)) (b : Bool)
    → (length es ≤ place name es → has_name name (names_of es) ≡ false)
    → suc (length es) ≤ (if b then 0 else 1 + place name es) → (b || has_name name (names_of es)) ≡ false
new_step name es true more h = absurd (omega arith)
new_step name es false more h = more (omega arith)

no_place : {V : Type 0} (name : List ℕ) (es : List (List ℕ × V)) → length es ≤ place name es → has_name name (names_of es) ≡ false
unfolding place
no_place name [] h = refl
no_place name (e ∷ es) h = new_step name es (bytes_eq e.0 name) (no_place name es) h

-- a name that isn't there comes last
pub at_end : {V : Type 0} (name : List ℕ) (v : V) (es : List (List ℕ × V)) → length es ≤ place name es → with_entry name v es ≡ es ++ (name, v) ∷ []
at_end name v es h = new_stands_last name v es (no_place name es h)
