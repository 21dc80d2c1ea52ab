-- Which bytes are a script, and what they say; or the first fault of those that are none.
--
-- A text is lines, and a line by itself says nothing, text, a root, an edit or a command. The lines are
-- checked in order, since all but those that say nothing may stand only behind certain others. The
-- commands of a script are what its lines say, in order, where an edit takes the text directly below it.
use Rattle.std.specs.Prelude.{◌≡◌, ℕ, ◌+◌, ◌*◌, ◌-◌, ◌==◌, nat_le, nat_lt, Bool, true, false}
use Rattle.std.specs.Prelude.{not, ◌&&◌, List, [], ◌∷◌, ◌++◌, length, fold, codes, Option}
use Rattle.std.specs.Prelude.{Some, None, Result, Ok, Err, if◌then◌else◌, ◌⊎◌}
use Rattle.std.specs.List.{list_all, list_any, slice_split}
use Rattle.std.specs.Str.{is_utf8}
use Rattle.hmr_types.specs.Event.{event_module, is_event}
use Rattle.hmr_types.specs.ModName.{between, is_name, is_text}
use Rattle.hmr_types.specs.Results.{◌>>=◌}
use Rattle.hmr_types.specs.declared.limits.TheConstants.{LARGEST_CLIENT, LARGEST_NUMBER}
use Rattle.hmr_types.specs.declared.limits.TheConstants.{ROOTS, SCRIPT_LINE_BYTES, VALUE_BYTES}
use Rattle.play_script.specs.declared.draft.Draft.{Draft}
use Rattle.play_script.specs.declared.script_line.ScriptLine.{ScriptLine}
use Rattle.play_script.specs.declared.script_line.ScriptLine.TheVariants as lines
use Rattle.play_script.specs.declared.words.Word.{Word}
use Rattle.play_script.specs.declared.words.Word.TheVariants as first
use Rattle.play_script.specs.declared.words.Said.{Said}
use Rattle.play_script.specs.declared.form.Form.{Form}
use Rattle.play_script.specs.declared.form.Form.TheVariants as forms
use Rattle.play_script.specs.declared.words.Said.TheVariants as says
use Rattle.play_script.specs.declared.fault.ScriptFault.{ScriptFault}
use Rattle.play_script.specs.declared.fault.ScriptKind.{ScriptKind}
use Rattle.play_script.specs.declared.fault.ScriptKind.TheVariants.{NotUtf8, LineTooLong, CutLine}
use Rattle.play_script.specs.declared.fault.ScriptKind.TheVariants.{TextWithoutEdit, UnknownWord, WordCount}
use Rattle.play_script.specs.declared.fault.ScriptKind.TheVariants.{BadName, BadNumber, RootPlace}
use Rattle.play_script.specs.declared.fault.ScriptRefusal.{ScriptRefusal}
use Rattle.play_script.specs.declared.fault.ScriptRefusal.TheVariants.{Faulty, NoMemory}
use Rattle.play_script.specs.declared.fault.Refusal.{Refusal}
use Rattle.play_script.specs.declared.fault.Refusal.TheVariants as refusals

-- the spelling of each kind of fault
abbrev pub kind_word : ScriptKind → List ℕ
kind_word NotUtf8 = codes "not-utf8"
kind_word LineTooLong = codes "line-too-long"
kind_word CutLine = codes "cut-line"
kind_word TextWithoutEdit = codes "text-without-edit"
kind_word UnknownWord = codes "unknown-word"
kind_word WordCount = codes "word-count"
kind_word BadName = codes "bad-name"
kind_word BadNumber = codes "bad-number"
kind_word RootPlace = codes "root-place"

-- LF
abbrev pub is_line_end : ℕ → Bool
is_line_end b = b == 10

-- a line without its LF, and whether an LF ends it
pub record Line : Type 0 where
  pub bytes : List ℕ
  pub ended : Bool

-- the line of what stands behind the last LF, where anything does
abbrev pub cut_line : List ℕ → List Line
cut_line [] = []
cut_line (b ∷ bs) = record { bytes = b ∷ bs; ended = false } ∷ []

-- the lines of bytes before which `line` stands since the last LF
abbrev pub lines_from : List ℕ → List ℕ → List Line
lines_from line [] = cut_line line
lines_from line (b ∷ bs) = if is_line_end b then record { bytes = line; ended = true } ∷ lines_from [] bs
    else lines_from (line ++ b ∷ []) bs

-- the words of a line: what stands between its spaces, one more than it has spaces
abbrev pub words : List ℕ → List (List ℕ)
words = slice_split (λ b. b == 32)

-- the number with one more digit
abbrev pub with_digit : ℕ → ℕ → ℕ
with_digit n b = 10 * n + (b - 48)

-- the number that digits write
abbrev pub digits_value : List ℕ → ℕ
digits_value digits = fold with_digit 0 digits

abbrev pub is_digit : ℕ → Bool
is_digit b = between 48 57 b

abbrev pub up_to : ℕ → ℕ → Option ℕ
up_to most n = if nat_le n most then Some n else None

-- the number that a digit from 1 to 9 and then digits write, where it isn't too large
abbrev pub number_of : ℕ → List ℕ → Option ℕ
number_of most [] = None
number_of most (b ∷ bs) = if between 49 57 b && list_all is_digit bs then up_to most (digits_value (b ∷ bs))
    else None

-- the value that is there, or this fault
abbrev pub or_fault : ScriptKind → Option ℕ → Result ℕ ScriptKind
or_fault kind (Some n) = Ok n
or_fault kind None = Err kind

-- the number that a word is, from 1 to the most
abbrev pub number : ℕ → List ℕ → Result ℕ ScriptKind
number most word = or_fault BadNumber (number_of most word)

-- the name of a module that a word is
abbrev pub named : List ℕ → Result (List ℕ) ScriptKind
named word = if is_name word then Ok word else Err BadName

-- the names of modules that words are
abbrev pub all_named : List (List ℕ) → Result (List (List ℕ)) ScriptKind
all_named ws = if list_all is_name ws then Ok ws else Err BadName

-- the module of the event that a word names
abbrev pub event_named : List ℕ → Result (List ℕ) ScriptKind
event_named word = if is_event word then Ok (event_module word) else Err BadName

-- a text that is a value of the module language
abbrev pub is_text_value : List ℕ → Bool
is_text_value text = is_utf8 text && nat_le (length text) VALUE_BYTES

-- the text that a word is
abbrev pub text_value : List ℕ → Result (List ℕ) ScriptKind
text_value word = if is_text_value word then Ok word else Err BadName

-- the one word
abbrev pub one_word : List (List ℕ) → Result (List ℕ) ScriptKind
one_word [] = Err WordCount
one_word (word ∷ []) = Ok word
one_word (word ∷ other ∷ more) = Err WordCount

abbrev pub one_name : List (List ℕ) → Result (List ℕ) ScriptKind
one_name ws = one_word ws >>= named

abbrev pub one_client : List (List ℕ) → Result ℕ ScriptKind
one_client ws = one_word ws >>= number LARGEST_CLIENT

-- a command that takes no word
abbrev pub no_word : ScriptLine → List (List ℕ) → Result Said ScriptKind
no_word line [] = Ok (says.Command line)
no_word line (word ∷ more) = Err WordCount

-- `open` or `open2`, whose words are the names of the client's roots
abbrev pub opening : ℕ → List (List ℕ) → Result Said ScriptKind
opening format ws = all_named ws >>= λ roots. Ok (says.Command (lines.Open format roots))

-- `settle`, alone or with a name and a version
abbrev pub settle : List (List ℕ) → Result Said ScriptKind
settle [] = Ok (says.Command lines.SettleAll)
settle (word ∷ []) = Err WordCount
settle (name ∷ version ∷ []) =
    named name >>= λ n. number LARGEST_NUMBER version >>= λ v. Ok (says.Command (lines.Settle n v))
settle (name ∷ version ∷ other ∷ more) = Err WordCount

-- `turns`, with a client and a number of turns
abbrev pub turns : List (List ℕ) → Result Said ScriptKind
turns [] = Err WordCount
turns (word ∷ []) = Err WordCount
turns (client ∷ most ∷ []) =
    number LARGEST_CLIENT client >>= λ c. number LARGEST_CLIENT most
    >>= λ k. Ok (says.Command (lines.Turns c k))
turns (client ∷ most ∷ other ∷ more) = Err WordCount

-- `emit`, with the name of an event and a text
abbrev pub emission : List (List ℕ) → Result Said ScriptKind
emission [] = Err WordCount
emission (word ∷ []) = Err WordCount
emission (event ∷ text ∷ []) =
    event_named event >>= λ e. text_value text >>= λ t. Ok (says.Command (lines.Emit e t))
emission (event ∷ text ∷ other ∷ more) = Err WordCount

-- `fresh`, alone or with a client
abbrev pub fresh : List (List ℕ) → Result Said ScriptKind
fresh [] = Ok (says.Command lines.Fresh)
fresh (client ∷ []) = number LARGEST_CLIENT client >>= λ c. Ok (says.Command (lines.FreshOf c))
fresh (client ∷ other ∷ more) = Err WordCount

-- what a command's first word and the words behind it say
abbrev pub command : Word → List (List ℕ) → Result Said ScriptKind
command first.Root ws = one_name ws >>= λ name. Ok (says.Root name)
command first.Quiet ws = no_word lines.Quiet ws
command first.Edit ws = one_name ws >>= λ name. Ok (says.Edit name)
command first.Remove ws = one_name ws >>= λ name. Ok (says.Command (lines.Remove name))
command first.Settle ws = settle ws
command first.Open ws = opening 1 ws
command first.Open2 ws = opening 2 ws
command first.Close ws = one_client ws >>= λ client. Ok (says.Command (lines.Close client))
command first.Turn ws = one_client ws >>= λ client. Ok (says.Command (lines.Turn client))
command first.Turns ws = turns ws
command first.Emit ws = emission ws
command first.Hear ws = one_client ws >>= λ client. Ok (says.Command (lines.Hear client))
command first.Show ws = one_client ws >>= λ client. Ok (says.Command (lines.Show client))
command first.Values ws = one_client ws >>= λ client. Ok (says.Command (lines.Values client))
command first.Fates ws = one_client ws >>= λ client. Ok (says.Command (lines.Fates client))
command first.Fresh ws = fresh ws

-- the first word of a line
abbrev pub known_word : List ℕ → Result Word ScriptKind
known_word w =
    if is_text w (codes "root") then Ok first.Root
    else if is_text w (codes "quiet") then Ok first.Quiet
    else if is_text w (codes "edit") then Ok first.Edit
    else if is_text w (codes "remove") then Ok first.Remove
    else if is_text w (codes "settle") then Ok first.Settle
    else if is_text w (codes "open") then Ok first.Open
    else if is_text w (codes "open2") then Ok first.Open2
    else if is_text w (codes "close") then Ok first.Close
    else if is_text w (codes "turn") then Ok first.Turn
    else if is_text w (codes "turns") then Ok first.Turns
    else if is_text w (codes "emit") then Ok first.Emit
    else if is_text w (codes "hear") then Ok first.Hear
    else if is_text w (codes "show") then Ok first.Show
    else if is_text w (codes "values") then Ok first.Values
    else if is_text w (codes "fates") then Ok first.Fates
    else if is_text w (codes "fresh") then Ok first.Fresh
    else Err UnknownWord

-- a first word, where this form of script has it
abbrev pub in_form : Form → Word → Result Word ScriptKind
in_form forms.Page word = Ok word
in_form forms.Edits first.Edit = Ok first.Edit
in_form forms.Edits first.Remove = Ok first.Remove
in_form forms.Edits other = Err UnknownWord

-- what the words of a line say
abbrev pub said_in : Form → List (List ℕ) → Result Said ScriptKind
said_in form [] = Err UnknownWord
said_in form (word ∷ arguments) = known_word word >>= λ k. in_form form k >>= λ w. command w arguments

-- what a line that LF ends says: nothing and `#` say nothing, `|` is a line of text
abbrev pub whole_line_in : Form → List ℕ → Result Said ScriptKind
whole_line_in form [] = Ok says.Nothing
whole_line_in form (b ∷ bs) =
    if b == 35 then Ok says.Nothing
    else if b == 124 then Ok says.Text
    else said_in form (words (b ∷ bs))

-- what a line says, or its first fault by itself
abbrev pub line_said_in : Form → List ℕ → Bool → Result Said ScriptKind
line_said_in form line ended =
    if not (is_utf8 line) then Err NotUtf8
    else if nat_lt SCRIPT_LINE_BYTES (length line) then Err LineTooLong
    else if ended then whole_line_in form line
    else Err CutLine

-- the same in the script of a page
abbrev pub said : List (List ℕ) → Result Said ScriptKind
said = said_in forms.Page

abbrev pub whole_line : List ℕ → Result Said ScriptKind
whole_line = whole_line_in forms.Page

abbrev pub line_said : List ℕ → Bool → Result Said ScriptKind
line_said = line_said_in forms.Page

-- a script before its first line
abbrev pub beginning : Form → Draft
beginning form = record { form = form; roots = []; began = false; in_edit = false }

-- whether there is nothing
abbrev pub is_empty : {X : Type 0} → List X → Bool
is_empty [] = true
is_empty (x ∷ xs) = false

-- a root may come before every command, under a name of its own, and as the sixteenth at most
abbrev pub may_be_root : Draft → List ℕ → Bool
may_be_root draft name =
    not draft.began && nat_lt (length draft.roots) ROOTS
    && not (list_any (λ root. is_text root name) draft.roots)

-- a command may come where a root came; in edits, everywhere
abbrev pub asks_a_root : Form → Bool
asks_a_root forms.Page = true
asks_a_root forms.Edits = false

abbrev pub may_be_command : Draft → Bool
may_be_command draft = not (asks_a_root draft.form && is_empty draft.roots)

-- what may come here
abbrev pub allowed : Bool → Draft → Result Draft ScriptKind
allowed true draft = Ok draft
allowed false draft = Err RootPlace

-- text may come directly below an edit or a line of its text
abbrev pub below_edit : Bool → Draft → Result Draft ScriptKind
below_edit true draft = Ok draft
below_edit false draft = Err TextWithoutEdit

-- the script so far after a line that says this, where it may stand here
abbrev pub placed : Draft → Said → Result Draft ScriptKind
placed draft says.Nothing = Ok (record draft { in_edit = false })
placed draft says.Text = below_edit draft.in_edit draft
placed draft (says.Root name) =
    allowed (may_be_root draft name) (record draft { roots = draft.roots ++ name ∷ []; in_edit = false })
placed draft (says.Edit name) =
    allowed (may_be_command draft) (record draft { began = true; in_edit = true })
placed draft (says.Command command) =
    allowed (may_be_command draft) (record draft { began = true; in_edit = false })

-- the script so far after a line, or the line's first fault
abbrev pub line_read : Draft → List ℕ → Bool → Result Draft ScriptKind
line_read draft line ended = line_said_in draft.form line ended >>= placed draft

-- what the line of this number says, or its fault in the script
abbrev pub numbered : {X : Type 0} → ℕ → Result X ScriptKind → Result X ScriptFault
numbered n (Ok x) = Ok x
numbered n (Err kind) = Err (record { line = n; kind = kind })

-- what stands after the lines from the one of this number on: the first fault is the answer of all
abbrev pub checked : Draft → ℕ → List Line → Result Draft ScriptFault
checked draft n [] = Ok draft
checked draft n (line ∷ more) =
    numbered n (line_read draft line.bytes line.ended) >>= λ next. checked next (n + 1) more

-- the text of a line of text
abbrev pub text_of : List ℕ → Option (List ℕ)
text_of [] = None
text_of (b ∷ bs) = if b == 124 then Some bs else None

-- the text that a line begins, with the text below it
abbrev pub text_with : Option (List ℕ) → List ℕ → List ℕ
text_with None below = []
text_with (Some text) below = text ++ (codes "\n" ++ below)

-- the text of the lines of text that come first, each with LF
abbrev pub text_below : List Line → List ℕ
text_below [] = []
text_below (line ∷ more) = text_with (text_of line.bytes) (text_below more)

-- the command of a line that says this above these lines, where it is one
abbrev pub command_of : Result Said ScriptKind → List Line → Option ScriptLine
command_of (Ok (says.Edit name)) more = Some (lines.Edit name (text_below more))
command_of (Ok (says.Command command)) more = Some command
command_of (Ok says.Nothing) more = None
command_of (Ok says.Text) more = None
command_of (Ok (says.Root name)) more = None
command_of (Err kind) more = None

-- commands with one before them, where there is one
abbrev pub with_first : Option ScriptLine → List ScriptLine → List ScriptLine
with_first None more = more
with_first (Some command) more = command ∷ more

-- the commands that lines say
abbrev pub commands : List Line → List ScriptLine
commands [] = []
commands (line ∷ more) = with_first (command_of (whole_line line.bytes) more) (commands more)

-- what a script says: the roots of the page, and what happens to it
pub record Contents : Type 0 where
  pub roots : List (List ℕ)
  pub lines : List ScriptLine

-- the script of these lines, after which this stands
abbrev pub finished : List Line → Draft → Contents
finished ls draft = record { roots = draft.roots; lines = commands ls }

-- the script that bytes say, or their first fault
abbrev pub script_of : List ℕ → Result Contents ScriptFault
script_of text =
    checked (beginning forms.Page) 1 (lines_from [] text)
    >>= λ draft. Ok (finished (lines_from [] text) draft)

-- why a script isn't read whose line of this number is refused
abbrev pub refused_at : ℕ → Refusal → ScriptRefusal
refused_at n (refusals.Fault kind) = Faulty (record { line = n; kind = kind })
refused_at n refusals.NoMemory = NoMemory

-- a refusal is the fault that the definition says, or out of memory
abbrev pub Refuses : {Y : Type 0} → Refusal → Result Y ScriptKind → Type 0
Refuses (refusals.Fault kind) meant = meant ≡ Err kind
Refuses refusals.NoMemory meant = Unit {0}

-- the answer is the definition's, or out of memory
abbrev pub Gives : {X Y : Type 0} → (X → Y) → Result X Refusal → Result Y ScriptKind → Type 0
Gives view (Ok x) meant = meant ≡ Ok (view x)
Gives view (Err refusal) meant = Refuses refusal meant

-- a reader's answer is what the bytes say, or out of memory
abbrev pub IsReading : {X : Type 0} → Result X ScriptRefusal → Result X ScriptFault → Type 0
IsReading (Ok script) meant = meant ≡ Ok script
IsReading (Err (Faulty fault)) meant = meant ≡ Err fault
IsReading (Err NoMemory) meant = Unit {0}
