-- The options, and how near a word is to one.
use Rattle.std.specs.Prelude.{ℕ, Bool, true, false, List, [], ◌∷◌, codes, length, nat_eq}
use Rattle.std.specs.Str.{chars}
use Rattle.strsim.specs.Edits.{levenshtein_row}
use Rattle.live_words.specs.declared.option.DevOption.{DevOption}
use Rattle.live_words.specs.declared.option.DevOption.TheVariants.{Port, StrictPort, Workers, Json, Record, Help}

-- as it is written
abbrev pub option_text : DevOption → List ℕ
option_text Port = codes "--port"
option_text StrictPort = codes "--strict-port"
option_text Workers = codes "--workers"
option_text Json = codes "--json"
option_text Record = codes "--record"
option_text Help = codes "--help"

-- whether a value stands behind it
abbrev pub takes_value : DevOption → Bool
takes_value Port = true
takes_value StrictPort = false
takes_value Workers = true
takes_value Json = false
takes_value Record = true
takes_value Help = false

-- all of them
abbrev pub options : List DevOption
options = Port ∷ StrictPort ∷ Workers ∷ Json ∷ Record ∷ Help ∷ []

-- how many changes of a character lead from a word to an option
abbrev pub distance : List ℕ → DevOption → ℕ
distance word o = levenshtein_row nat_eq (chars word) (chars (option_text o)) (length (chars (option_text o)))
