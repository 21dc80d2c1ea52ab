-- The bags of names.
use Rattle.std.specs.Prelude.{◌≡◌, ℕ, if◌then◌else◌, List, [], Option, Some, None, bytes_eq}
use Rattle.module_semantics.specs.Entries.{Kept, entry_at}

-- names with their bags
abbrev pub KeptBags : Type 0
KeptBags = List (List ℕ × Kept)

-- none kept is the empty bag
abbrev pub bag_or_empty : Option Kept → Kept
bag_or_empty None = []
bag_or_empty (Some bag) = bag

-- the bag of a name
abbrev pub bag_of : KeptBags → List ℕ → Kept
bag_of bags name = bag_or_empty (entry_at name bags)

-- afterwards the name has this bag, and each other name the bag that it had
abbrev pub HasBag : List ℕ → Kept → KeptBags → KeptBags → Type 0
HasBag name bag before after = (n : List ℕ)
    → bag_of after n ≡ (if bytes_eq n name then bag else bag_of before n)
