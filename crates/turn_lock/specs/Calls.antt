-- What a call, a split and a join of passes leave, as their callers are told.
use Rattle.std.specs.Prelude.{◌≡◌, ◌<◌, ◌≤◌, ◌⊎◌, ◌||◌, ◌∷◌, [], ◌++◌, ◌+◌, length, max}
use Rattle.std.specs.Prelude.{ℕ, List, Bool, true, false, Some}
use Rattle.turn_lock.specs.Histories.{has, calls, grown, Past}
use Rattle.turn_lock.specs.declared.view.View.{View}

-- what a value replies to an entry of a pass, and whether it records it, in the state that a history makes
-- of the opening value
abbrev pub Answers : Type 0 → Type 0 → Type 0 → Type 1
Answers T E P = T → List (ℕ × E) → ℕ → E → P → Bool → Type 0

module _ {T E : Type 0} where
  -- what a call leaves as it was
  pub record SameKnower (v w : View T E) : Type 0 where
    pub opening : w.opening ≡ v.opening
    pub number : w.number ≡ v.number
    pub known : w.known ≡ v.known
    pub given : w.given ≡ v.given
    pub alone : w.alone ≡ v.alone
    pub all_given : w.all_given ≡ v.all_given

  -- what a split leaves as it was; the pass is alone no more
  pub record SameSeen (v w : View T E) : Type 0 where
    pub opening : w.opening ≡ v.opening
    pub number : w.number ≡ v.number
    pub known : w.known ≡ v.known
    pub seen : w.seen ≡ v.seen
    pub alone : w.alone ≡ false

  -- a number that no pass had when it was given: it is above each that the pass knows, no entry is under it,
  -- and as many were given as the pass knows of
  pub record IsFresh (v : View T E) (n : ℕ) : Type 0 where
    pub known : (k : ℕ) → has k v.known ≡ true → k < n
    pub unused : calls (n ∷ []) v.seen ≡ []
    pub given : v.given ≤ n

  -- One call of the pass `by`: the history begins with all that had been seen, goes on with entries under
  -- no known number, and ends with the entry where it was recorded. The reply is the value's in the state
  -- that the history before the entry makes.
  pub record Called {P : Type 0} (answers : Answers T E P) (by : ℕ) (entry : E) (reply : P) (v w : View T E)
      : Type 0 where
    pub between : List (ℕ × E)
    pub recorded : Bool
    pub seen : w.seen ≡ grown (v.seen ++ between) by entry recorded
    pub quiet : calls v.known between ≡ []
    pub own : calls (by ∷ []) w.seen ≡ grown (calls (by ∷ []) v.seen) by entry recorded
    pub known : calls v.known w.seen ≡ grown (calls v.known v.seen) by entry recorded
    pub alone : v.alone ≡ true → w.seen ≡ grown v.seen by entry recorded
    pub start : T
    pub opening : v.opening ≡ Some start
    pub answered : answers start (v.seen ++ between) by entry reply recorded

  -- one of two histories begins the other, with all entries under the numbers of its pass; the longer stays
  abbrev pub IsLonger : View T E → View T E → View T E → Type 0
  IsLonger v w u =
      ((u.seen ≡ w.seen) × Past w.seen v.seen v.known) ⊎ ((u.seen ≡ v.seen) × Past v.seen w.seen w.known)

  -- The second pass was joined into the first. What is seen now is the longer history, with all entries
  -- under the numbers of both, each once.
  pub record Joined (v w u : View T E) : Type 0 where
    pub longer : IsLonger v w u
    pub mine : Past u.seen v.seen v.known
    pub other : Past u.seen w.seen w.known
    pub apart : (k : ℕ) → has k v.known ≡ true → has k w.known ≡ false
    pub mine_calls : calls v.known u.seen ≡ calls v.known v.seen
    pub other_calls : calls w.known u.seen ≡ calls w.known w.seen
    pub count : length (calls u.known u.seen)
        ≡ length (calls v.known v.seen) + length (calls w.known w.seen)
    pub known : u.known ≡ v.known ++ w.known
    pub number : u.number ≡ v.number
    pub given : u.given ≡ max v.given w.given
    pub opening : u.opening ≡ v.opening
    pub alone : u.alone ≡ false
    pub all_given : u.all_given ≡ (v.all_given || w.all_given)
