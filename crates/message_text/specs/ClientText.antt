-- The messages of a client as they are written, with keys in byte order.
use Rattle.std.specs.Prelude.{◌≡◌, ℕ, List, [], ◌∷◌, codes, true, Option, Some, None, ⊤}
use Rattle.serde_json.specs.Data.{Data, string}
use Rattle.serde_json.specs.Written.{compact_text}
use Rattle.hmr_types.specs.Table.{is_table}
use Rattle.json_readings.specs.Object.{entries}
use Rattle.update_msgs.specs.declared.message.ClientMsg.{ClientMsg}
use Rattle.update_msgs.specs.declared.message.ClientMsg.TheVariants as msg
use Rattle.message_text.specs.Values.{alone, only_path, whole, or_null, list, row}
use Rattle.message_text.specs.Words.{abort_word}

-- the roots are written where there are some
abbrev pub unless_empty : List (List ℕ) → Option Data
unless_empty [] = None
unless_empty (x ∷ xs) = Some (list string (x ∷ xs))

-- the JSON value of a message
abbrev pub say : ClientMsg → Data
say (msg.Hello format roots) =
    entries ((codes "format", Some (whole format)) ∷ (codes "roots", unless_empty roots)
    ∷ (codes "type", Some (string (codes "hello"))) ∷ [])
say msg.Ask = alone (codes "ask")
say (msg.Fetch path) = only_path (codes "fetch") path
say (msg.Applied table) =
    entries ((codes "table", Some (list row table)) ∷ (codes "type", Some (string (codes "applied"))) ∷ [])
say (msg.Aborted cause path from name) =
    entries ((codes "cause", Some (string (abort_word cause))) ∷ (codes "from", Some (or_null from))
    ∷ (codes "name", Some (or_null name)) ∷ (codes "path", Some (string path))
    ∷ (codes "type", Some (string (codes "aborted"))) ∷ [])
say (msg.Invalidate path version message) =
    entries ((codes "message", Some (string message)) ∷ (codes "path", Some (string path))
    ∷ (codes "type", Some (string (codes "invalidate"))) ∷ (codes "version", Some (whole version)) ∷ [])
say msg.Bye = alone (codes "bye")

-- the text of a message: its value without spaces
abbrev pub client_text : ClientMsg → List ℕ
client_text m = compact_text (say m)

-- what the type of a table keeps, of a message that has one
abbrev pub HasTable : ClientMsg → Type 0
HasTable (msg.Hello format roots) = ⊤
HasTable msg.Ask = ⊤
HasTable (msg.Fetch path) = ⊤
HasTable (msg.Applied table) = is_table table ≡ true
HasTable (msg.Aborted cause path from name) = ⊤
HasTable (msg.Invalidate path version message) = ⊤
HasTable msg.Bye = ⊤
