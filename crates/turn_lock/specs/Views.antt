-- What a pass knows, and what each step of the lock makes of it.
use Rattle.std.specs.Prelude.{◌||◌, ◌∷◌, [], ◌++◌, ◌+◌, max, ℕ, List, Option, true, false, Some, None}
use Rattle.turn_lock.specs.Histories.{longer}
use Rattle.turn_lock.specs.declared.view.View.{View}
use Rattle.turn_lock.specs.declared.view.Part.{Part}

-- how many pass numbers there are: 2^64 - 1 of them are given at most
abbrev pub most_numbers : ℕ
most_numbers = 18446744073709551615

-- the first of the known numbers, as an own one
abbrev pub first_number : List ℕ → Option ℕ
first_number [] = None
first_number (k ∷ ks) = Some k

-- the first of the known numbers alone
abbrev pub first_known : List ℕ → List ℕ
first_known [] = []
first_known (k ∷ ks) = k ∷ []

-- the known numbers but the first
abbrev pub later_known : List ℕ → List ℕ
later_known [] = []
later_known (k ∷ ks) = ks

-- no two passes were joined
abbrev pub no_part : {E : Type 0} → Part E
no_part = record { seen = []; known = [] }

module _ {T E : Type 0} where
  -- the first pass, of a lock round this value
  abbrev pub first_view : T → View T E
  first_view value =
      record {
        opening = Some value;
        holds = false;
        alone = true;
        spent = false;
        all_given = false;
        number = Some 0;
        given = 1;
        known = 0 ∷ [];
        seen = [];
        mine = no_part;
        other = no_part;
      }

  -- a pass that was joined into another knows nothing more
  abbrev pub spent_view : View T E
  spent_view =
      record {
        opening = None;
        holds = false;
        alone = false;
        spent = true;
        all_given = false;
        number = None;
        given = 0;
        known = [];
        seen = [];
        mine = no_part;
        other = no_part;
      }

  -- it has the turn, and has seen the whole history
  abbrev pub seized : View T E → List (ℕ × E) → View T E
  seized v history = record v { holds = true; seen = history; mine = no_part; other = no_part }

  -- it has seen the history that its call left
  abbrev pub counted : View T E → List (ℕ × E) → View T E
  counted v history = record v { seen = history; mine = no_part; other = no_part }

  -- it gave the turn up
  abbrev pub released : View T E → View T E
  released v = record v { holds = false }

  -- it was given a number, which comes first of those that it knows, for a pass to be split off
  abbrev pub numbered : View T E → ℕ → View T E
  numbered v n = record v { given = n + 1; known = n ∷ v.known }

  -- a pass of which another was split off
  abbrev pub old_half : View T E → View T E
  old_half v = record v { alone = false; known = later_known v.known }

  -- the pass that was split off: it has seen as much, and the number is its own
  abbrev pub new_half : View T E → View T E
  new_half v =
      record {
        opening = v.opening;
        holds = false;
        alone = false;
        spent = false;
        all_given = v.all_given;
        number = first_number v.known;
        given = v.given;
        known = first_known v.known;
        seen = v.seen;
        mine = no_part;
        other = no_part;
      }

  -- it found that all numbers were given; as after each split it counts as alone no more
  abbrev pub filled : View T E → View T E
  filled v = record v { alone = false; all_given = true }

  -- the second was joined into the first: the longer history stays, and the numbers of both are known
  abbrev pub joined : View T E → View T E → View T E
  joined v w =
      record v {
        alone = false;
        all_given = v.all_given || w.all_given;
        given = max v.given w.given;
        known = v.known ++ w.known;
        seen = longer v.seen w.seen;
        mine = record { seen = v.seen; known = v.known };
        other = record { seen = w.seen; known = w.known };
      }
