-- What becomes of bytes that are posted.
use Rattle.std.specs.Prelude.{ℕ, List}
use Rattle.live_answers.specs.declared.site.Posted.{Posted}
use Rattle.live_answers.specs.declared.site.Posted.TheVariants as posted

pub data Taken : Type 0 where
  done : Taken
  a_reply : List ℕ → Taken
  bad : List ℕ → Taken
  not_taken : Taken
  rings : Taken

abbrev pub taken_of : Posted → Taken
taken_of posted.Done = done
taken_of (posted.Text bytes) = a_reply bytes.items
taken_of (posted.Bad sentence) = bad sentence.now
taken_of posted.Missing = not_taken
taken_of posted.Ring = rings

-- what may become of bytes that are posted at each path, where that is told; else whatever
abbrev pub Takes : Type 1
Takes = List ℕ → List ℕ → Taken → Type 0
