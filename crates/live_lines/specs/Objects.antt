-- A piece of news as one JSON object on a line.
use Rattle.std.specs.Prelude.{ℕ, Bool, List, [], ◌∷◌, ◌++◌, ◌+◌, ◌-◌, ◌==◌, codes, decimal, nat_lt, Option, Some}
use Rattle.std.specs.Prelude.{None, if◌then◌else◌}
use Rattle.std.specs.List.{flat_map}
use Rattle.core_model.specs.Names.{Name}
use Rattle.hmr_types.specs.declared.analysis.TextFault.{TextFault}
use Rattle.word_texts.specs.Words.{cause_word, fault_word}
use Rattle.update_msgs.specs.declared.message.AbortCause.{AbortCause}
use Rattle.update_msgs.specs.declared.message.AbortCause.TheVariants.{Missing, Broken, Link}
use Rattle.live_lines.specs.declared.clock.Clock.{Clock}
use Rattle.live_lines.specs.declared.news.AnewCause.{AnewCause}
use Rattle.live_lines.specs.declared.news.AnewCause.TheVariants.{TranscriptFull, NumbersSpent}
use Rattle.live_lines.specs.declared.news.Foreign.{Foreign}
use Rattle.live_lines.specs.declared.news.Foreign.TheVariants.{Host, Origin}
use Rattle.live_lines.specs.declared.news.News.{News}
use Rattle.live_lines.specs.declared.news.News.TheVariants as news
use Rattle.live_lines.specs.declared.news.PassedCause.{PassedCause}
use Rattle.live_lines.specs.declared.news.PassedCause.TheVariants as passed
use Rattle.live_lines.specs.declared.page_news.PageNews.{PageNews}
use Rattle.live_lines.specs.declared.page_news.PageNews.TheVariants as page
use Rattle.live_lines.specs.declared.page_news.StaleBinding.{StaleBinding}
use Rattle.live_lines.specs.Texts.{clock_text}

-- a digit of base 16
abbrev pub hex_digit : ℕ → ℕ
hex_digit d = if nat_lt d 10 then 48 + d else 87 + d

-- a control byte, below 32, as an escape
abbrev pub control_text : ℕ → List ℕ
control_text b =
    if nat_lt b 16 then codes "\\u000" ++ hex_digit b ∷ [] else codes "\\u001" ++ hex_digit (b - 16) ∷ []

-- a byte of a string
abbrev pub string_byte : ℕ → List ℕ
string_byte b =
    if b == 34 then codes "\\\"" else if b == 92 then codes "\\\\" else if nat_lt b 32 then control_text b else b ∷ []

-- a text as a string
abbrev pub string_text : List ℕ → List ℕ
string_text text = codes "\"" ++ flat_map string_byte text ++ codes "\""

-- a text as a string, null for none
abbrev pub string_or_null : Option (List ℕ) → List ℕ
string_or_null None = codes "null"
string_or_null (Some text) = string_text text

-- the values of a list, with a comma between each two
abbrev pub items_text : {X : Type 0} → (X → List ℕ) → List X → List ℕ
items_text text [] = []
items_text text (x ∷ more) = text x ++ flat_map (λ y. codes "," ++ text y) more

-- a list
abbrev pub array_text : {X : Type 0} → (X → List ℕ) → List X → List ℕ
array_text text items = codes "[" ++ items_text text items ++ codes "]"

-- a module with its version, as a list of the two
abbrev pub row_value : Name × ℕ → List ℕ
row_value row = codes "[" ++ string_text row.0 ++ (codes "," ++ decimal row.1 ++ codes "]")

-- a key and its text
abbrev pub text_field : List ℕ → List ℕ → List ℕ
text_field key text = codes ",\"" ++ key ++ codes "\":" ++ string_text text

-- a key and its number
abbrev pub number_field : List ℕ → ℕ → List ℕ
number_field key number = codes ",\"" ++ key ++ codes "\":" ++ decimal number

-- a key and its list
abbrev pub list_field : {X : Type 0} → (X → List ℕ) → List ℕ → List X → List ℕ
list_field text key items = codes ",\"" ++ key ++ codes "\":" ++ array_text text items

-- who accepted what
abbrev pub pair_value : Name × Name → List ℕ
pair_value p = codes "{\"by\":" ++ string_text p.0 ++ text_field (codes "accepted") p.1 ++ codes "}"

-- the modules and the name of a stale binding
abbrev pub names_value : StaleBinding → List ℕ
names_value b = text_field (codes "imported") b.imported ++ text_field (codes "name") b.name

-- the versions of a stale binding
abbrev pub versions_value : StaleBinding → List ℕ
versions_value b =
    number_field (codes "linked") b.linked ++ number_field (codes "live") b.live ++ codes "}"

-- a stale binding
abbrev pub stale_value : StaleBinding → List ℕ
stale_value b =
    (codes "{\"importer\":" ++ string_text b.importer) ++ names_value b ++ versions_value b

-- lists of names, of modules with versions, of pairs and of stale bindings
abbrev pub names_field : List ℕ → List Name → List ℕ
names_field key names = list_field string_text key names

abbrev pub rows_field : List ℕ → List (Name × ℕ) → List ℕ
rows_field key rows = list_field row_value key rows

abbrev pub pairs_field : List ℕ → List (Name × Name) → List ℕ
pairs_field key pairs = list_field pair_value key pairs

abbrev pub stale_field : List ℕ → List StaleBinding → List ℕ
stale_field key bindings = list_field stale_value key bindings

-- a key and a text that may not be there
abbrev pub null_field : List ℕ → Option (List ℕ) → List ℕ
null_field key text = codes ",\"" ++ key ++ codes "\":" ++ string_or_null text

abbrev pub abort_word : AbortCause → List ℕ
abort_word Missing = codes "missing"
abort_word Broken = codes "broken"
abort_word Link = codes "link"

abbrev pub passed_word : PassedCause → List ℕ
passed_word passed.FileTooLong = codes "file-too-long"
passed_word passed.TextTooLong = codes "text-too-long"
passed_word passed.BadName = codes "bad-name"
passed_word passed.TooManyNames = codes "too-many-names"
passed_word passed.SourceTotal = codes "source-total"
passed_word passed.Unreadable = codes "unreadable"
passed_word passed.Outside = codes "outside"

abbrev pub foreign_word : Foreign → List ℕ
foreign_word Host = codes "host"
foreign_word Origin = codes "origin"

abbrev pub anew_word : AnewCause → List ℕ
anew_word TranscriptFull = codes "transcript-full"
anew_word NumbersSpent = codes "numbers-spent"

abbrev pub bool_word : Bool → List ℕ
bool_word holds = if holds then codes "true" else codes "false"

-- an edit, with its event
abbrev pub edit_fields : List ℕ → Name → ℕ → List ℕ
edit_fields event name version =
    event ++ text_field (codes "module") name ++ number_field (codes "version") version

-- an event of a module
abbrev pub of_module : List ℕ → Name → List ℕ
of_module event name = event ++ text_field (codes "module") name

-- a place in a text
abbrev pub place_fields : ℕ → ℕ → List ℕ
place_fields line column = number_field (codes "line") line ++ number_field (codes "column") column

-- what is wrong there, and the line of the text
abbrev pub kind_fields : List ℕ → List ℕ → List ℕ
kind_fields word line = text_field (codes "kind") word ++ text_field (codes "text") line

-- a fault, and the line of its text
abbrev pub fault_fields : Name → TextFault → List ℕ → List ℕ
fault_fields name fault line =
    of_module (codes "\"fault\"") name ++ place_fields fault.line fault.col
    ++ kind_fields (fault_word fault.word) line

-- an event of a page
abbrev pub of_page : List ℕ → ℕ → List ℕ
of_page event client = event ++ number_field (codes "page") client

-- an update that was applied
abbrev pub hot_fields : ℕ → List (Name × ℕ) → List (Name × Name) → List StaleBinding → List ℕ
hot_fields client changed accepted stale =
    (of_page (codes "\"hot\"") client ++ rows_field (codes "changed") changed)
    ++ pairs_field (codes "accepted") accepted ++ stale_field (codes "stale") stale

-- the cause of a plan that was given up, and its module
abbrev pub cause_fields : List ℕ → Name → List ℕ
cause_fields word path = text_field (codes "cause") word ++ text_field (codes "path") path

-- what doesn't fit
abbrev pub misfit_fields : Option Name → Option (List ℕ) → List ℕ
misfit_fields from name = null_field (codes "from") from ++ null_field (codes "name") name

-- a plan that was given up
abbrev pub aborted_fields : ℕ → AbortCause → Name → Option Name → Option (List ℕ) → List ℕ
aborted_fields client cause path from name =
    of_page (codes "\"aborted\"") client ++ cause_fields (abort_word cause) path ++ misfit_fields from name

-- a page with its roots
abbrev pub opened_fields : ℕ → List Name → List ℕ
opened_fields client roots = of_page (codes "\"opened\"") client ++ names_field (codes "roots") roots

-- a reload that is to come
abbrev pub reload_fields : ℕ → List ℕ → List Name → List ℕ
reload_fields client word path =
    (of_page (codes "\"reload\"") client ++ text_field (codes "cause") word) ++ names_field (codes "path") path

-- modules that left the page
abbrev pub pruned_fields : ℕ → List Name → List ℕ
pruned_fields client names = of_page (codes "\"pruned\"") client ++ names_field (codes "modules") names

-- the stale bindings of a page
abbrev pub stale_fields : ℕ → List StaleBinding → List ℕ
stale_fields client bindings = of_page (codes "\"stale\"") client ++ stale_field (codes "stale") bindings

-- what changed on the page of this number
abbrev pub page_fields : ℕ → PageNews → List ℕ
page_fields client (page.Opened roots) = opened_fields client roots
page_fields client (page.Refused code) = codes "\"refused\"" ++ number_field (codes "code") code
page_fields client (page.Loaded modules) =
    of_page (codes "\"loaded\"") client ++ number_field (codes "modules") modules
page_fields client (page.Reload cause path) = reload_fields client (cause_word cause) path
page_fields client (page.Hot changed accepted stale) = hot_fields client changed accepted stale
page_fields client (page.Aborted cause path from name) = aborted_fields client cause path from name
page_fields client (page.Pruned names) = pruned_fields client names
page_fields client page.Closed = of_page (codes "\"closed\"") client

-- the event, and what there is to it
abbrev pub fields_text : News → List ℕ
fields_text (news.Saved name version) = edit_fields (codes "\"saved\"") name version
fields_text (news.Removed name version) = edit_fields (codes "\"removed\"") name version
fields_text (news.Fault name fault line) = fault_fields name fault line
fields_text (news.Passed path cause) =
    codes "\"passed\"" ++ text_field (codes "path") path ++ text_field (codes "why") (passed_word cause)
fields_text (news.Page client told) = page_fields client told
fields_text (news.Stale client bindings) = stale_fields client bindings
fields_text (news.Stranger foreign told) =
    codes "\"stranger\"" ++ text_field (codes "what") (foreign_word foreign) ++ text_field (codes "told") told
fields_text (news.Anew cause) = codes "\"anew\"" ++ text_field (codes "why") (anew_word cause)
fields_text (news.Away away) = codes "\"away\",\"away\":" ++ bool_word away

-- the object, and LF
abbrev pub object_text : Clock → News → List ℕ
object_text clock told =
    codes "{\"time\":\"" ++ clock_text clock ++ codes "\",\"event\":" ++ fields_text told ++ codes "}\n"
