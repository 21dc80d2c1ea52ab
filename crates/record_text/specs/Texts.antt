-- The text of a record: its lines in order, each with its LF.
use Rattle.std.specs.Prelude.{ℕ, List, [], ◌∷◌, ◌++◌, codes, if◌then◌else◌}
use Rattle.std.specs.List.{flat_map}
use Rattle.play_script.specs.Script.{Line, lines_from}
use Rattle.play_script.specs.Texts.{names_text, spaced, spaced_number}
use Rattle.record_text.specs.declared.record.Record.{Record}
use Rattle.record_text.specs.declared.record.RecordEvent.{RecordEvent}
use Rattle.record_text.specs.declared.record.RecordEvent.TheVariants as events
use Rattle.record_text.specs.declared.record.RecordLine.{RecordLine}
use Rattle.record_text.specs.declared.record.RecordLine.TheVariants as lines

-- a line of a text: behind `|` where an LF ends it, behind `~` where none does
abbrev pub text_line : Line → List ℕ
text_line l = (if l.ended then codes "|" else codes "~") ++ l.bytes ++ codes "\n"

-- the lines of a text
abbrev pub text_lines : List ℕ → List ℕ
text_lines text = flat_map text_line (lines_from [] text)

-- each name with its version, behind spaces
abbrev pub rows_text : List (List ℕ × ℕ) → List ℕ
rows_text [] = []
rows_text (r ∷ rs) = (spaced r.0 ++ spaced_number r.1) ++ rows_text rs

-- the line of a word and a name
abbrev pub named_line : List ℕ → List ℕ → List ℕ
named_line word name = word ++ spaced name ++ codes "\n"

-- the line of a word and a number
abbrev pub counted_line : List ℕ → ℕ → List ℕ
counted_line word n = word ++ spaced_number n ++ codes "\n"

-- the line of a word, a number and a table
abbrev pub table_line : List ℕ → ℕ → List (List ℕ × ℕ) → List ℕ
table_line word n table = word ++ spaced_number n ++ rows_text table ++ codes "\n"

-- the line of an event, and the lines of its text
abbrev pub event_text : RecordEvent → List ℕ
event_text (events.Edit name text) = named_line (codes "edit") name ++ text_lines text
event_text (events.Remove name) = named_line (codes "remove") name
event_text (events.Settle name text version) =
    codes "settle" ++ spaced name ++ spaced_number version ++ codes "\n" ++ text_lines text
event_text (events.Connect names) = codes "connect" ++ names_text names ++ codes "\n"
event_text (events.Ask client) = counted_line (codes "ask") client
event_text (events.Fetch client name) = codes "fetch" ++ spaced_number client ++ spaced name ++ codes "\n"
event_text (events.Applied client table) = table_line (codes "applied") client table
event_text (events.Aborted client) = counted_line (codes "aborted") client
event_text (events.Invalidate client name version) =
    codes "invalidate" ++ spaced_number client ++ spaced name ++ spaced_number version ++ codes "\n"
event_text (events.Disconnect client) = counted_line (codes "disconnect") client

-- the line of a reply
abbrev pub reply_line : List ℕ → List ℕ
reply_line reply = codes "= " ++ reply ++ codes "\n"

-- the lines of an entry, or of a client at rest
abbrev pub line_text : RecordLine → List ℕ
line_text (lines.Entry event reply) = event_text event ++ reply_line reply
line_text (lines.Rest client table) = table_line (codes "rest") client table

-- the lines of roots
abbrev pub roots_text : List (List ℕ) → List ℕ
roots_text roots = flat_map (named_line (codes "root")) roots

-- the text of a record
abbrev pub record_text : Record → List ℕ
record_text r = roots_text r.roots ++ flat_map line_text r.lines
