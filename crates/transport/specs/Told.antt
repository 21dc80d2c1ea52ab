-- What is told of a list, where it is told at all.
use Rattle.std.specs.Prelude.{◌≡◌, List, [], ◌++◌, Option, Some, None, ⊤}

-- the told list grew by these
abbrev pub told_and : {X : Type 0} → Option (List X) → List X → Option (List X)
told_and None more = None
told_and (Some xs) more = Some (xs ++ more)

-- the told list with these before it
abbrev pub told_front : {X : Type 0} → List X → Option (List X) → Option (List X)
told_front front None = None
told_front front (Some xs) = Some (front ++ xs)

-- nothing so far, where it is told at all
abbrev pub told_none : {X : Type 0} → Option (List X) → Option (List X)
told_none None = None
told_none (Some xs) = Some []

-- the second list, where the first is told
abbrev pub told_of : {X Y : Type 0} → Option (List X) → Option (List Y) → Option (List Y)
told_of None told = None
told_of (Some xs) told = told

-- nothing is left, where that is told
abbrev pub IsNoneLeft : {X : Type 0} → Option (List X) → Type 0
IsNoneLeft None = ⊤
IsNoneLeft (Some xs) = xs ≡ []
