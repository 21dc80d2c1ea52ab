-- The messages of a client as they are read: by the fields in the order of their table, and then by further
-- keys.
use Rattle.std.specs.Prelude.{◌≡◌, [], ◌∷◌, ⊤}
use Rattle.std.specs.Prelude.{ℕ, List, codes, true, Option, Some, None, Result, Ok, Err, if◌then◌else◌}
use Rattle.std.specs.List.{list_all}
use Rattle.std.specs.Str.{bytes_eq}
use Rattle.serde_json.specs.Data.{Data}
use Rattle.serde_json.specs.Find.{as_str}
use Rattle.hmr_types.specs.ModName.{is_name}
use Rattle.hmr_types.specs.Table.{is_table}
use Rattle.hmr_types.specs.declared.limits.TheConstants.{LARGEST_NUMBER}
use Rattle.message_text.specs.Words.{abort_word}
use Rattle.update_msgs.specs.declared.message.ClientMsg.{ClientMsg}
use Rattle.update_msgs.specs.declared.message.ClientMsg.TheVariants as msg
use Rattle.message_json.specs.Reading.{Fault, no_type, ◌>>=◌, field, field_or, only, plain_of, path_of}
use Rattle.message_json.specs.Reading.{kind_of, HasName, name_in, number_in, wanted_in, some_names_in, table_in}
use Rattle.message_json.specs.Words.{abort_causes, is_link, word_in}

abbrev pub hello_of : Data → Result ClientMsg Fault
hello_of d = do
  format ← field (number_in 1 2) (codes "format") d
  roots ← field_or [] some_names_in (codes "roots") d
  none ← only (codes "format" ∷ codes "roots" ∷ codes "type" ∷ []) d
  Ok (msg.Hello format roots)

abbrev pub applied_of : Data → Result ClientMsg Fault
applied_of d = do
  table ← field table_in (codes "table") d
  none ← only (codes "table" ∷ codes "type" ∷ []) d
  Ok (msg.Applied table)

abbrev pub aborted_of : Data → Result ClientMsg Fault
aborted_of d = do
  cause ← field (word_in abort_word abort_causes) (codes "cause") d
  path ← field name_in (codes "path") d
  from ← field (wanted_in (is_link cause) name_in) (codes "from") d
  name ← field (wanted_in (is_link cause) as_str) (codes "name") d
  none ← only (codes "cause" ∷ codes "from" ∷ codes "name" ∷ codes "path" ∷ codes "type" ∷ []) d
  Ok (msg.Aborted cause path from name)

abbrev pub invalidate_of : Data → Result ClientMsg Fault
invalidate_of d = do
  path ← field name_in (codes "path") d
  version ← field (number_in 1 LARGEST_NUMBER) (codes "version") d
  message ← field as_str (codes "message") d
  none ← only (codes "message" ∷ codes "path" ∷ codes "type" ∷ codes "version" ∷ []) d
  Ok (msg.Invalidate path version message)

-- by the text at `type`
abbrev pub client_by : Option (List ℕ) → Data → Result ClientMsg Fault
client_by None d = Err no_type
client_by (Some t) d =
    if bytes_eq t (codes "hello") then hello_of d else (
    if bytes_eq t (codes "ask") then plain_of msg.Ask d else (
    if bytes_eq t (codes "fetch") then path_of msg.Fetch d else (
    if bytes_eq t (codes "applied") then applied_of d else (
    if bytes_eq t (codes "aborted") then aborted_of d else (
    if bytes_eq t (codes "invalidate") then invalidate_of d else (
    if bytes_eq t (codes "bye") then plain_of msg.Bye d else Err no_type))))))

-- the message of a client that a value is, or its first fault
unfoldable pub client_of : Data → Result ClientMsg Fault
client_of d = client_by (kind_of d) d

-- what the types of the code keep: names are names, and tables are tables
abbrev pub IsTyped : ClientMsg → Type 0
IsTyped (msg.Hello format roots) = list_all is_name roots ≡ true
IsTyped msg.Ask = ⊤
IsTyped (msg.Fetch path) = is_name path ≡ true
IsTyped (msg.Applied table) = (list_all (λ row. is_name row.0) table ≡ true) × (is_table table ≡ true)
IsTyped (msg.Aborted cause path from name) = (is_name path ≡ true) × HasName from
IsTyped (msg.Invalidate path version message) = is_name path ≡ true
IsTyped msg.Bye = ⊤
