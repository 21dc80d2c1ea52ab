-- The text of a table as it is read, row by row.
use Rattle.std.specs.Prelude.{◌≡◌, ℕ, List, [], ◌∷◌, ◌++◌, codes, decimal, map, Bool, false, true}
use Rattle.std.specs.List.{list_all}
use Rattle.serde_json.specs.View.{items_of}
use Rattle.serde_json.specs.Written.{items_text}
use Rattle.hmr_types.specs.ModName.{is_name}
use Rattle.hmr_types.specs.Table.{is_table}
use Rattle.update_msgs.specs.declared.message.ClientMsg.TheVariants as msg
use Rattle.message_text.specs.Values.{row}
use Rattle.message_text.specs.ClientText.{client_text}

-- a name in quotes and a version, in brackets
abbrev pub row_bytes : List ℕ × ℕ → List ℕ
row_bytes r = 91 ∷ 34 ∷ (r.0 ++ 34 ∷ 44 ∷ (decimal r.1 ++ 93 ∷ []))

-- rows with a comma behind each
abbrev pub front : List (List ℕ × ℕ) → List ℕ
front [] = []
front (r ∷ rs) = row_bytes r ++ 44 ∷ front rs

-- what stands behind the last row
abbrev pub tail : List ℕ
tail = codes "],\"type\":\"applied\"}"

abbrev pub are_named : List (List ℕ × ℕ) → Bool
are_named = list_all (λ r. is_name r.0)

-- the text behind the first bracket is that of these rows, which have names
pub record AreRows (bytes : List ℕ) (rows : List (List ℕ × ℕ)) : Type 0 where
  pub named : are_named rows ≡ true
  pub text : bytes ≡ items_text false (items_of (map row rows)) ++ codes ",\"type\":\"applied\"}"

-- the bytes are the text of this table
pub record IsTableText (bytes : List ℕ) (table : List (List ℕ × ℕ)) : Type 0 where
  pub named : are_named table ≡ true
  pub fits : is_table table ≡ true
  pub text : bytes ≡ client_text (msg.Applied table)
