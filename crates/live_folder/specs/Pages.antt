-- What a look shows where a page is made for a folder that has none.
use Rattle.std.specs.Prelude.{◌≡◌, ◌&&◌, ◌||◌, ◌++◌, ◌∷◌, [], ℕ, Bool, List, IsSomeAnd, MatchBool, not}
use Rattle.std.specs.List.{AllZip, list_any}
use Rattle.std.specs.Option.{is_none}
use Rattle.hmr_types.specs.ModName.{is_text}
use Rattle.live_folder.specs.declared.look.Change.{Change}
use Rattle.live_folder.specs.declared.look.Look.{Look}

-- a change that makes the page of this text
abbrev pub Makes : List ℕ → List ℕ → Change → Type 0
Makes page text change = (change.name ≡ page) × IsSomeAnd change.text (λ t. t.items ≡ text)

-- a single change, which makes it
abbrev pub MakesOne : List ℕ → List ℕ → List Change → Type 0
MakesOne page text changes = (one : Change) × (changes ≡ one ∷ []) × Makes page text one

-- whether a change takes the page away
abbrev pub takes_away : List ℕ → Change → Bool
takes_away page change = is_text change.name page && is_none change.text

-- a change of the folder, and what is shown of it: where the page is gone, it is made
abbrev pub ShownAs : List ℕ → List ℕ → Change → Change → Type 0
ShownAs page text change shown = MatchBool (takes_away page change) (Makes page text shown) (shown ≡ change)

-- whether a look has a change of the page, or passed its file over
abbrev pub is_told : List ℕ → Look → Bool
is_told page look =
    list_any (λ c. is_text c.name page) look.changes.items
    || list_any (λ p. is_text p.path page) look.passed.items

-- Each change of the folder is shown, and the page is made where it is to be added.
pub record ShowsChanges (page text : List ℕ) (adds : Bool) (changes shown : List Change) : Type 0 where
  pub front : List Change
  pub more : List Change
  pub whole : shown ≡ front ++ more
  pub others : AllZip (ShownAs page text) changes front
  pub made : MatchBool adds (MakesOne page text more) (more ≡ [])

-- The page is added where it is due and the look of the folder tells nothing of it.
pub record ShowsPage (page text : List ℕ) (is_due : Bool) (look shown : Look) : Type 0 where
  pub changes :
      ShowsChanges page text (is_due && not (is_told page look)) look.changes.items shown.changes.items
  pub passed : shown.passed ≡ look.passed
  pub away : shown.away ≡ look.away
