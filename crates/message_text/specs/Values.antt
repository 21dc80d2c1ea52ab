-- What bytes stand for, and the JSON values of the parts of messages.
use Rattle.std.specs.Prelude.{◌≡◌, ℕ, List, [], ◌∷◌, codes, Option, Some, None, IsUtf8, map}
use Rattle.json.specs.Token.{Token}
use Rattle.json.specs.Tree.{items_tokens, json_tokens}
use Rattle.serde_json.specs.Data.{Data, null, number, unsigned, string, array, no_items, item}
use Rattle.serde_json.specs.Read.{read}
use Rattle.serde_json.specs.View.{items_of}
use Rattle.serde_json.specs.Written.{items_outline, outline}
use Rattle.json_readings.specs.Object.{entries}

-- what the bytes stand for
pub record HasReading (bytes : List ℕ) (d : Data) : Type 0 where
  pub utf8 : IsUtf8 bytes
  pub value : read bytes ≡ Some d

abbrev pub whole : ℕ → Data
whole n = number (unsigned n)

-- null where there is no text
abbrev pub or_null : Option (List ℕ) → Data
or_null None = null
or_null (Some s) = string s

-- null where there is no number
abbrev pub number_or_null : Option ℕ → Data
number_or_null None = null
number_or_null (Some n) = whole n

abbrev pub list : {X : Type 0} → (X → Data) → List X → Data
list w xs = array (items_of (map w xs))

-- a list of a name and a version
abbrev pub row : List ℕ × ℕ → Data
row r = array (item (string r.0) (item (whole r.1) no_items))

-- an object of a type alone
abbrev pub alone : List ℕ → Data
alone word = entries ((codes "type", Some (string word)) ∷ [])

-- an object of a type and a path alone
abbrev pub only_path : List ℕ → List ℕ → Data
only_path word path = entries ((codes "path", Some (string path)) ∷ (codes "type", Some (string word)) ∷ [])

-- the tokens of a value that has no float
abbrev pub tokens_of : Data → List Token
tokens_of d = json_tokens (outline d)

-- the tokens of the items of a list, with its end
abbrev pub item_tokens : List Data → List Token
item_tokens ds = items_tokens (items_outline (items_of ds))
