-- Lists that rise: of names, of pairs and of triples of names, told apart from the first name on.
use Rattle.std.specs.Prelude.{◌≡◌, ◌⊎◌, true, List, [], ◌∷◌, Contains, ⊤}
use Rattle.std.specs.Ordering.{nat_cmp, is_lt}
use Rattle.std.specs.Cmp.Lexicographic.{slice_cmp}
use Rattle.core_model.specs.Names.{Name}

-- the one name comes before the other, by bytes
abbrev pub IsBelow : Name → Name → Type 0
IsBelow n m = is_lt (slice_cmp nat_cmp n m) ≡ true

-- by the first name, and by the second where the first is the same
abbrev pub IsPairBelow : Name × Name → Name × Name → Type 0
IsPairBelow p q = IsBelow p.0 q.0 ⊎ ((p.0 ≡ q.0) × IsBelow p.1 q.1)

-- by the first name, and by the other two where the first is the same
abbrev pub IsTripleBelow : Name × Name × Name → Name × Name × Name → Type 0
IsTripleBelow p q = IsBelow p.0 q.0 ⊎ ((p.0 ≡ q.0) × IsPairBelow (p.1, p.2) (q.1, q.2))

-- each is below all that come after it
abbrev pub Rises : {X : Type 0} → (X → X → Type 0) → List X → Type 0
Rises below [] = ⊤
Rises {X} below (x ∷ xs) = ((y : X) → Contains xs y → below x y) × Rises below xs
