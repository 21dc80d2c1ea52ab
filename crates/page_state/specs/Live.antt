-- The numbers of live instances, by name.
use Rattle.std.specs.Prelude.{◌≡◌, ℕ, if◌then◌else◌, List, Option, bytes_eq}
use Rattle.module_semantics.specs.Entries.{entry_at}
use Rattle.live_instances.specs.Orderly.{without_number}

-- names with their numbers
abbrev pub Numbers : Type 0
Numbers = List (List ℕ × ℕ)

-- the number of a name
abbrev pub number_of : Numbers → List ℕ → Option ℕ
number_of numbers name = entry_at name numbers

-- afterwards the name has this number or none, and each other name what it had
abbrev pub HasNumber : List ℕ → Option ℕ → Numbers → Numbers → Type 0
HasNumber name number before after = (n : List ℕ)
    → number_of after n ≡ (if bytes_eq n name then number else number_of before n)

-- afterwards the name lacks this number, if it had it, and all else is as before
abbrev pub LosesNumber : List ℕ → ℕ → Numbers → Numbers → Type 0
LosesNumber name number before after =
    HasNumber name (without_number number (number_of before name)) before after
