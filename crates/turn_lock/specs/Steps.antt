-- What each step of the lock tells of itself: the seat before and after it, and the word that it found.
use Rattle.std.specs.Prelude.{◌≡◌, ◌≢◌, ◌⊎◌, ◌∷◌, [], ◌≤◌, ℕ, List, Bool, true, false, Option, Some, All}
use Rattle.atomic_table.specs.Table.{Me, Step}
use Rattle.turn_lock.specs.Histories.{has, grown, Past}
use Rattle.turn_lock.specs.Calls.{IsFresh}
use Rattle.turn_lock.specs.Rule.{Met}
use Rattle.turn_lock.specs.Views.{most_numbers, seized, counted, released, numbered, filled}
use Rattle.turn_lock.specs.declared.view.View.{View}

module _ {T E : Type 0} where
  -- the seat of the pass of that number, between calls
  pub record IsIdle {S : Type 0} (by : ℕ) (m : Me S (View T E)) : Type 0 where
    pub empty : m.1 ≡ []
    pub holds : m.0.holds ≡ false
    pub spent : m.0.spent ≡ false
    pub number : m.0.number ≡ Some by

  -- a number that a seat is given: nobody had it, and not all were given; the seat knows its own
  pub record IsGiven (v : View T E) (n : ℕ) : Type 0 where
    pub fresh : IsFresh v n
    pub left : v.all_given ≡ false
    pub own : (k : ℕ) → v.number ≡ Some k → has k v.known ≡ true

  -- the word was what was sought: it is the seat's, for a pass to be split off
  abbrev pub GivesNumber : {S : Type 0} → Step S → Me S (View T E) → ℕ → Me S (View T E) → Type 0
  GivesNumber st m found n =
      (found ≡ st.first) × (1 ≤ found) × IsGiven m.0 found × (n ≡ (numbered m.0 found, m.1))

  -- all numbers were given
  abbrev pub HasGivenAll : {S : Type 0} → Step S → Me S (View T E) → ℕ → Me S (View T E) → Type 0
  HasGivenAll st m found n = (found ≢ st.first) × (found ≡ most_numbers) × (n ≡ (filled m.0, m.1))

  -- the word was another, and nothing changed
  abbrev pub IsBehind : {S : Type 0} → Step S → Me S (View T E) → ℕ → Me S (View T E) → Type 0
  IsBehind st m found n = (found ≢ st.first) × (found ≢ most_numbers) × (1 ≤ found) × (n ≡ m)

  -- number: the word is compared with the number that is sought, and raised where it is that
  abbrev pub Numbers : {S : Type 0} → Step S → Me S (View T E) → ℕ → Me S (View T E) → Type 0
  Numbers st m found n = GivesNumber st m found n ⊎ (HasGivenAll st m found n ⊎ IsBehind st m found n)

module _ {T E : Type 0} (history : T → List (ℕ × E)) (may : ℕ → E → Bool) (follows : T → T → Type 0) where
  -- the seat has the turn and the value, whose history is the whole one
  pub record Took (m n : Me (Option T) (View T E)) : Type 0 where
    pub opening : T
    pub value : T
    pub log : List (ℕ × E)
    pub carried : n.1 ≡ (0, Some value) ∷ []
    pub view : n.0 ≡ seized m.0 log
    pub opened : m.0.opening ≡ Some opening
    pub kept : history value ≡ log
    pub comes : follows opening value
    pub past : Past log m.0.seen m.0.known
    pub own : (k : ℕ) → m.0.number ≡ Some k → has k m.0.known ≡ true
    pub alone : m.0.alone ≡ true → log ≡ m.0.seen
    pub allowed : All (λ e. may e.0 e.1 ≡ true) log

  -- seize: the turn was free and is the seat's, or nothing changed
  abbrev pub Seizes : Step (Option T) → Me (Option T) (View T E) → ℕ → Me (Option T) (View T E) → Type 0
  Seizes st m found n = ((found ≡ 0) × Took m n) ⊎ ((found ≢ 0) × (n ≡ m))

  -- the seat has the value, which after a recorded call has one more entry, under the seat's own number
  pub record Grew (by : ℕ) (recorded : Bool) (m : Me (Option T) (View T E)) : Type 0 where
    pub value : T
    pub entry : E
    pub carried : m.1 ≡ (0, Some value) ∷ []
    pub holds : m.0.holds ≡ true
    pub number : m.0.number ≡ Some by
    pub kept : history value ≡ grown m.0.seen by entry recorded
    pub allowed : may by entry ≡ true

  -- the seat after a call that left this value
  abbrev pub Settled : Me (Option T) (View T E) → Me (Option T) (View T E) → Type 0
  Settled m n = (value : T) → m.1 ≡ (0, Some value) ∷ [] → n ≡ (counted m.0 (history value), m.1)

  -- count: the history of the value is what was seen
  abbrev pub Counts : Step (Option T) → Me (Option T) (View T E) → ℕ → Me (Option T) (View T E) → Type 0
  Counts st m found n = Settled m n

  -- release: the value is in its slot
  abbrev pub Releases : Step (Option T) → Me (Option T) (View T E) → ℕ → Me (Option T) (View T E) → Type 0
  Releases st m found n = n ≡ (released m.0, [])

  -- meet: nothing changes, and the seat is told what two that were joined into it had seen
  abbrev pub Meets : Step (Option T) → Me (Option T) (View T E) → ℕ → Me (Option T) (View T E) → Type 0
  Meets st m found n = (n ≡ m) × Met m.0 × All (λ e. may e.0 e.1 ≡ true) m.0.seen
