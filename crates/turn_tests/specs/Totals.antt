-- What a tally comes to, what it replies, and how many entries a pass has seen of the numbers it knows.
use Rattle.std.specs.Prelude.{◌≡◌, ◌+◌, ◌%◌, ◌^◌, [], ◌∷◌}
use Rattle.std.specs.Prelude.{ℕ, List, length, Bool, true, false, Option, Some, None}
use Rattle.turn_lock.specs.Histories.{calls}
use Rattle.turn_lock.specs.declared.view.View.{View}
use Rattle.turn_tests.specs.declared.tally.Ask.TheVariants.{the_data, Add, Total}

-- the total after an entry
abbrev pub after : ℕ → the_data → ℕ
after total (Add n) = (total + n) % 2 ^ 64
after total Total = total

-- the total after all entries
abbrev pub total_of : ℕ → List (ℕ × the_data) → ℕ
total_of start [] = start
total_of start (e ∷ es) = total_of (after start e.1) es

-- an addition is answered by the total before it where it is recorded; a total is told and not recorded
abbrev pub IsReply : ℕ → the_data → Option ℕ → Bool → Type 0
IsReply total (Add n) reply true = reply ≡ Some total
IsReply total (Add n) reply false = reply ≡ None
IsReply total Total reply true = ⊥
IsReply total Total reply false = reply ≡ Some total

-- how many entries are under the numbers that are known
abbrev pub made_by : {T E : Type 0} → View T E → ℕ
made_by v = length (calls v.known v.seen)
