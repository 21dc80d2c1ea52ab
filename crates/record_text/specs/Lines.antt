-- What one line of a record says by itself, whatever stands before it.
use Rattle.std.specs.Prelude.{◌≡◌, ℕ, ◌==◌, List, [], ◌∷◌, ◌++◌, codes, Option, Some, None}
use Rattle.std.specs.Prelude.{if◌then◌else◌, Result, Ok, Err}
use Rattle.std.specs.List.{list_all}
use Rattle.hmr_types.specs.declared.limits.TheConstants.{LARGEST_CLIENT, LARGEST_NUMBER}
use Rattle.hmr_types.specs.ModName.{is_name, is_text}
use Rattle.hmr_types.specs.Table.{is_table}
use Rattle.play_script.specs.Script.{number_of, words}
use Rattle.record_text.specs.declared.record.RecordEvent.TheVariants as events
use Rattle.record_text.specs.declared.said.Said.{Said}
use Rattle.record_text.specs.declared.said.Said.TheVariants as says
use Rattle.record_text.specs.declared.said.Word.{Word}
use Rattle.record_text.specs.declared.said.Word.TheVariants as first
use Rattle.record_text.specs.declared.refusal.Refusal.{Refusal}
use Rattle.record_text.specs.declared.refusal.Refusal.TheVariants as refusals
use Rattle.record_text.specs.Numbers.{count_of, largest_count}
use Rattle.record_text.specs.Replies.{is_reply}

infixl 10 ◌>>=◌
-- what the second gives of what the first gave, where both give something
abbrev pub ◌>>=◌ : {A B : Type 0} → Option A → (A → Option B) → Option B
(Some x) >>= f = f x
None >>= f = None

-- the answer is the definition's, where None is a bad line; where memory ran out nothing is said
abbrev pub Gives : {X Y : Type 0} → (X → Y) → Result X Refusal → Option Y → Type 0
Gives view (Ok x) meant = meant ≡ Some (view x)
Gives view (Err refusals.BadLine) meant = meant ≡ None
Gives view (Err refusals.NoMemory) meant = Unit {0}

-- the name of a module that a word is
abbrev pub named : List ℕ → Option (List ℕ)
named word = if is_name word then Some word else None

-- the names of modules that words are
abbrev pub all_named : List (List ℕ) → Option (List (List ℕ))
all_named ws = if list_all is_name ws then Some ws else None

-- the one word
abbrev pub one_word : List (List ℕ) → Option (List ℕ)
one_word [] = None
one_word (word ∷ []) = Some word
one_word (word ∷ other ∷ more) = None

abbrev pub one_name : List (List ℕ) → Option (List ℕ)
one_name ws = one_word ws >>= named

abbrev pub one_client : List (List ℕ) → Option ℕ
one_client ws = one_word ws >>= count_of LARGEST_CLIENT

-- Names and versions in turn: the rows so far, a name whose version is to come, and the words that are left.
abbrev pub rows_from : List (List ℕ × ℕ) → Option (List ℕ) → List (List ℕ) → Option (List (List ℕ × ℕ))
rows_from rows None [] = Some rows
rows_from rows (Some n) [] = None
rows_from rows None (w ∷ ws) = named w >>= λ n. rows_from rows (Some n) ws
rows_from rows (Some n) (w ∷ ws) =
    number_of LARGEST_NUMBER w >>= λ v. rows_from (rows ++ (n, v) ∷ []) None ws

abbrev pub if_table : List (List ℕ × ℕ) → Option (List (List ℕ × ℕ))
if_table rows = if is_table rows then Some rows else None

-- the table that words are
abbrev pub table_of : List (List ℕ) → Option (List (List ℕ × ℕ))
table_of ws = rows_from [] None ws >>= if_table

-- a client and a table
abbrev pub client_table : List (List ℕ) → Option (ℕ × List (List ℕ × ℕ))
client_table [] = None
client_table (client ∷ ws) = count_of LARGEST_CLIENT client >>= λ c. table_of ws >>= λ t. Some (c, t)

-- `settle`, with a name and a version
abbrev pub settle : List (List ℕ) → Option Said
settle [] = None
settle (word ∷ []) = None
settle (name ∷ version ∷ []) =
    named name >>= λ n. count_of largest_count version >>= λ v. Some (says.Event (events.Settle n [] v))
settle (name ∷ version ∷ other ∷ more) = None

-- `fetch`, with a client and a name
abbrev pub fetch : List (List ℕ) → Option Said
fetch [] = None
fetch (word ∷ []) = None
fetch (client ∷ name ∷ []) =
    count_of LARGEST_CLIENT client >>= λ c. named name >>= λ n. Some (says.Event (events.Fetch c n))
fetch (client ∷ name ∷ other ∷ more) = None

-- `invalidate`, with a client, a name and a version
abbrev pub invalidate : List (List ℕ) → Option Said
invalidate [] = None
invalidate (word ∷ []) = None
invalidate (word ∷ other ∷ []) = None
invalidate (client ∷ name ∷ version ∷ []) =
    count_of LARGEST_CLIENT client >>= λ c. named name >>= λ n. count_of largest_count version
    >>= λ v. Some (says.Event (events.Invalidate c n v))
invalidate (client ∷ name ∷ version ∷ other ∷ more) = None

-- what a line's first word and the words behind it say
abbrev pub said_in : Word → List (List ℕ) → Option Said
said_in first.Root ws = one_name ws >>= λ n. Some (says.Root n)
said_in first.Edit ws = one_name ws >>= λ n. Some (says.Event (events.Edit n []))
said_in first.Remove ws = one_name ws >>= λ n. Some (says.Event (events.Remove n))
said_in first.Settle ws = settle ws
said_in first.Connect ws = all_named ws >>= λ ns. Some (says.Event (events.Connect ns))
said_in first.Ask ws = one_client ws >>= λ c. Some (says.Event (events.Ask c))
said_in first.Fetch ws = fetch ws
said_in first.Applied ws = client_table ws >>= λ t. Some (says.Event (events.Applied t.0 t.1))
said_in first.Aborted ws = one_client ws >>= λ c. Some (says.Event (events.Aborted c))
said_in first.Invalidate ws = invalidate ws
said_in first.Disconnect ws = one_client ws >>= λ c. Some (says.Event (events.Disconnect c))
said_in first.Rest ws = client_table ws >>= λ t. Some (says.Rest t.0 t.1)

-- the first word of a line
abbrev pub known_word : List ℕ → Option Word
known_word w =
    if is_text w (codes "root") then Some first.Root
    else if is_text w (codes "edit") then Some first.Edit
    else if is_text w (codes "remove") then Some first.Remove
    else if is_text w (codes "settle") then Some first.Settle
    else if is_text w (codes "connect") then Some first.Connect
    else if is_text w (codes "ask") then Some first.Ask
    else if is_text w (codes "fetch") then Some first.Fetch
    else if is_text w (codes "applied") then Some first.Applied
    else if is_text w (codes "aborted") then Some first.Aborted
    else if is_text w (codes "invalidate") then Some first.Invalidate
    else if is_text w (codes "disconnect") then Some first.Disconnect
    else if is_text w (codes "rest") then Some first.Rest
    else None

-- what the words of a line say
abbrev pub said_by : List (List ℕ) → Option Said
said_by [] = None
said_by (w ∷ ws) = known_word w >>= λ word. said_in word ws

-- a piece of a text with its LF
abbrev pub piece_of : List ℕ → List ℕ
piece_of piece = piece ++ codes "\n"

-- the last piece of a text, which no LF ends, has a byte
abbrev pub last_piece : List ℕ → Option Said
last_piece [] = None
last_piece (b ∷ bs) = Some (says.Last (b ∷ bs))

-- a reply of right form, behind a space
abbrev pub reply_said : List ℕ → Option Said
reply_said [] = None
reply_said (b ∷ bs) = if b == 32 then (if is_reply bs then Some (says.Reply bs) else None) else None

-- what a line without its LF says
abbrev pub said_of : List ℕ → Option Said
said_of [] = None
said_of (b ∷ bs) =
    if b == 124 then Some (says.Text (piece_of bs))
    else if b == 126 then last_piece bs
    else if b == 61 then reply_said bs
    else said_by (words (b ∷ bs))
