-- What is at a path.
use Rattle.std.specs.Prelude.{ℕ, Bool, List}
use Rattle.live_answers.specs.declared.found.Found.{Found}
use Rattle.live_answers.specs.declared.found.Found.TheVariants as found
use Rattle.live_answers.specs.declared.media.Media.{Media}

pub data Given : Type 0 where
  a_file : List ℕ → Given
  a_text : Media → List ℕ → Given
  a_folder : Given
  nothing : Given
  no_text : Given

abbrev pub given_of : Found → Given
given_of (found.File bytes) = a_file bytes.items
given_of (found.Text media bytes) = a_text media bytes.items
given_of found.Folder = a_folder
given_of found.Missing = nothing
given_of found.Unread = no_text

-- what may be found at each path, where that is told; else whatever
abbrev pub Gives : Type 1
Gives = List ℕ → Given → Type 0

-- what may be found at each path with a query, by one who wants a page or not, where that is told; else
-- whatever
abbrev pub GivesAt : Type 1
GivesAt = List ℕ → List ℕ → Bool → Given → Type 0
