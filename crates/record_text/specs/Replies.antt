-- The texts of replies, and which bytes have the form of one.
use Rattle.std.specs.Prelude.{ℕ, ◌==◌, Bool, false, ◌&&◌, ◌||◌, List, [], ◌∷◌, codes, Option, Some, None}
use Rattle.std.specs.Prelude.{is_some}
use Rattle.std.specs.Prelude.{if◌then◌else◌, option_and_then}
use Rattle.std.specs.List.{list_any, slice_split}
use Rattle.std.specs.Str.{is_utf8}
use Rattle.serde_json.specs.Read.{read}
use Rattle.hmr_types.specs.declared.limits.TheConstants.{LARGEST_CLIENT}
use Rattle.hmr_types.specs.ModName.{is_text}
use Rattle.play_script.specs.Script.{words}
use Rattle.word_texts.specs.Words.{fault_word}
use Rattle.update_msgs.specs.declared.message.ServerMsg.{ServerMsg}
use Rattle.message_text.specs.ServerText.{server_text}
use Rattle.message_json.specs.ServerReading.{ok_of, server_of}
use Rattle.message_json.specs.Words.{fault_kinds}
use Rattle.record_text.specs.Numbers.{count_of, largest_count}

-- the message is written by these bytes
abbrev pub is_written_as : List ℕ → Option ServerMsg → Bool
is_written_as bytes None = false
is_written_as bytes (Some m) = is_text (server_text 2 m) bytes

-- whether bytes are just what is written of a server's message in the second format
unfoldable pub is_message_text : List ℕ → Bool
is_message_text bytes =
    is_utf8 bytes && is_written_as bytes (option_and_then (λ d. ok_of (server_of 2 d)) (read bytes))

-- the replies of one word
abbrev pub is_lone_word : List ℕ → Bool
is_lone_word w =
    is_text w (codes "same") || is_text w (codes "served") || is_text w (codes "late")
    || is_text w (codes "gone") || is_text w (codes "text-too-long") || is_text w (codes "too-many-names")
    || is_text w (codes "source-total") || is_text w (codes "numbers-spent")

-- the replies of a word and a version
abbrev pub is_counted : List ℕ → List ℕ → Bool
is_counted w version =
    (is_text w (codes "job") || is_text w (codes "removed")) && is_some (count_of largest_count version)

-- the parts of a text between its colons
abbrev pub place_parts : List ℕ → List (List ℕ)
place_parts = slice_split (λ b. b == 58)

-- a line and a column
abbrev pub is_line_column : List (List ℕ) → Bool
is_line_column [] = false
is_line_column (word ∷ []) = false
is_line_column (line ∷ column ∷ []) =
    is_some (count_of LARGEST_CLIENT line) && is_some (count_of LARGEST_CLIENT column)
is_line_column (line ∷ column ∷ other ∷ more) = false

-- the word of a fault in a module text
abbrev pub is_fault_word : List ℕ → Bool
is_fault_word w = list_any (λ fault. is_text w (fault_word fault)) fault_kinds

-- the reply of a result that was refused: the place and the fault
abbrev pub is_refused : List ℕ → List ℕ → List ℕ → Bool
is_refused w place fault =
    is_text w (codes "refused") && is_line_column (place_parts place) && is_fault_word fault

-- whether words are the reply to an edit, to a result, or to a client that goes
abbrev pub is_word_reply : List (List ℕ) → Bool
is_word_reply [] = false
is_word_reply (w ∷ []) = is_lone_word w
is_word_reply (w ∷ version ∷ []) = is_counted w version
is_word_reply (w ∷ place ∷ fault ∷ []) = is_refused w place fault
is_word_reply (w ∷ place ∷ fault ∷ other ∷ more) = false

-- whether bytes have the form of a reply
unfoldable pub is_reply : List ℕ → Bool
is_reply [] = false
is_reply (b ∷ bs) = if b == 123 then is_message_text (b ∷ bs) else is_word_reply (words (b ∷ bs))
