-- The rule of the lock, which every step keeps. Word 0 is 1 while a pass has the turn, and else 0. Word 1
-- is how many pass numbers were given. Slot 0 has the value, and nothing while a pass has it in hand.
use Rattle.std.specs.Prelude.{◌≡◌, ◌≢◌, ◌⊎◌, ◌∷◌, [], ◌<◌, ◌≤◌}
use Rattle.std.specs.Prelude.{ℕ, List, Bool, true, false, Option, Some, All}
use mathlib.Core.Option.{some}
use lib.ListN.{get_elem?}
use Rattle.atomic_table.specs.Table.{State}
use Rattle.turn_lock.specs.Histories.{has, calls, Past}
use Rattle.turn_lock.specs.Views.{most_numbers}
use Rattle.turn_lock.specs.declared.view.View.{View}

module _ {T E : Type 0} where
  -- of two passes that were joined, each had seen a beginning of what is seen now, with all entries under
  -- its numbers; and they knew no number in common
  pub record Met (v : View T E) : Type 0 where
    pub mine : Past v.seen v.mine.seen v.mine.known
    pub other : Past v.seen v.other.seen v.other.known
    pub apart : (k : ℕ) → has k v.mine.known ≡ true → has k v.other.known ≡ false

  -- the view has seen the whole history, and isn't spent
  abbrev pub IsCurrent : List (ℕ × E) → View T E → Type 0
  IsCurrent log v = (v.seen ≡ log) × (v.spent ≡ false)

  -- a view beside the history
  pub record Stands (opening : T) (log : List (ℕ × E)) (made : ℕ) (v : View T E) : Type 0 where
    pub past : Past log v.seen v.known  -- it has seen a beginning, with all entries under its numbers
    pub below : (k : ℕ) → has k v.known ≡ true → k < made  -- the numbers that it knows were given
    pub given : v.given ≤ made  -- as many as it knows of, at least
    pub own : (k : ℕ) → v.number ≡ Some k → has k v.known ≡ true  -- it knows its own
    pub turn : v.holds ≡ true → IsCurrent log v  -- with the turn it is current
    pub named : v.holds ≡ true → (k : ℕ) × (v.number ≡ Some k)  -- and has a number
    pub alone : v.alone ≡ true → IsCurrent log v  -- so it is alone
    pub all_given : v.all_given ≡ true → made ≡ most_numbers
    pub opened : v.spent ≡ false → v.opening ≡ Some opening
    pub met : Met v

  -- two views: they know no number in common, one of them has the turn at most, and one that is alone is
  -- the only one that isn't spent
  pub record Apart (v w : View T E) : Type 0 where
    pub numbers : (k : ℕ) → has k v.known ≡ true → has k w.known ≡ false
    pub turn : v.holds ≡ true → w.holds ≡ false
    pub alone : v.alone ≡ true → w.spent ≡ true

  -- one of the views has the turn
  pub record HasTurn (views : List (View T E)) : Type 0 where
    pub id : ℕ
    pub view : View T E
    pub at : get_elem? views id ≡ some view
    pub holds : view.holds ≡ true

module _ {T E : Type 0} (history : T → List (ℕ × E)) (may : ℕ → E → Bool) (follows : T → T → Type 0) where
  -- the value is in its slot, with the whole history, and no view has the turn
  pub record IsFree (opening : T) (log : List (ℕ × E)) (s : State (Option T) (View T E)) : Type 0 where
    pub value : T
    pub home : get_elem? s.homes 0 ≡ some (some (Some value))
    pub kept : history value ≡ log
    pub comes : follows opening value
    pub nobody : (id : ℕ) (v : View T E) → get_elem? s.views id ≡ some v → v.holds ≡ false

  -- the rule
  pub record IsLock (s : State (Option T) (View T E)) : Type 0 where
    pub opening : T  -- the value that the lock was made of
    pub log : List (ℕ × E)  -- the one history
    pub turn : ℕ
    pub made : ℕ  -- the pass numbers that were given
    pub words : s.words ≡ turn ∷ made ∷ []
    pub begun : 1 ≤ made
    pub holder : ((turn ≡ 0) × IsFree opening log s) ⊎ ((turn ≡ 1) × HasTurn s.views)
    pub allowed : All (λ e. may e.0 e.1 ≡ true) log
    pub fresh : (k : ℕ) → made ≤ k → calls (k ∷ []) log ≡ []
    pub each : (id : ℕ) (v : View T E) → get_elem? s.views id ≡ some v → Stands opening log made v
    pub apart : (i j : ℕ) (v w : View T E) → get_elem? s.views i ≡ some v → get_elem? s.views j ≡ some w
        → i ≢ j → Apart v w
