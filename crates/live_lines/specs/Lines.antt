-- The line of a piece of news, as a terminal shows it.
use Rattle.std.specs.Prelude.{ℕ, Bool, List, [], ◌++◌, ◌==◌, ◌||◌, codes, decimal, length}
use Rattle.std.specs.Prelude.{if◌then◌else◌}
use Rattle.std.specs.List.{flat_map}
use Rattle.core_model.specs.Names.{Name}
use Rattle.hmr_types.specs.declared.analysis.TextFault.{TextFault}
use Rattle.word_texts.specs.Words.{fault_word}
use Rattle.live_lines.specs.declared.clock.Clock.{Clock}
use Rattle.live_lines.specs.declared.line_text.Style.{Style}
use Rattle.live_lines.specs.declared.news.AnewCause.{AnewCause}
use Rattle.live_lines.specs.declared.news.AnewCause.TheVariants.{TranscriptFull, NumbersSpent}
use Rattle.live_lines.specs.declared.news.Foreign.{Foreign}
use Rattle.live_lines.specs.declared.news.Foreign.TheVariants.{Host, Origin}
use Rattle.live_lines.specs.declared.news.News.{News}
use Rattle.live_lines.specs.declared.news.News.TheVariants as news
use Rattle.live_lines.specs.declared.news.PassedCause.{PassedCause}
use Rattle.live_lines.specs.declared.news.PassedCause.TheVariants as passed
use Rattle.live_lines.specs.FaultLines.{before_caret}
use Rattle.live_lines.specs.PageLines.{page_text, stale_list}
use Rattle.live_lines.specs.Texts.{clock_text, on, off, shown_byte}

-- a module with its version, and what was done
abbrev pub edit_text : Name → ℕ → List ℕ → List ℕ
edit_text name version done = name ++ (codes " v" ++ decimal version ++ done)

-- the line and the column, where there are any
abbrev pub place_text : ℕ → ℕ → List ℕ
place_text line column =
    if line == 0 then [] else codes ":" ++ decimal line ++ codes ":" ++ decimal column

-- the line of the text, and the caret below it, where there is a line
abbrev pub lines_below : ℕ → List ℕ → List ℕ
lines_below column line =
    if length line == 0 || column == 0 then []
    else codes "\n         " ++ flat_map shown_byte line ++ codes "\n         "
    ++ before_caret line column ++ codes "^"

-- a fault with its place, as path:line:column word
abbrev pub fault_text : Style → Name → TextFault → List ℕ → List ℕ
fault_text style name fault line =
    on style (codes "31") ++ name ++ place_text fault.line fault.col ++ codes " " ++ fault_word fault.word
    ++ off style ++ lines_below fault.col line

abbrev pub passed_words : PassedCause → List ℕ
passed_words passed.FileTooLong = codes "it has more than 64 MiB"
passed_words passed.TextTooLong = codes "its imports take more than 131,072 bytes"
passed_words passed.BadName = codes "no module can have this name"
passed_words passed.TooManyNames = codes "there are 8,192 modules"
passed_words passed.SourceTotal = codes "all sources together would have more than 32 MiB"
passed_words passed.Unreadable = codes "it can't be read"
passed_words passed.Outside = codes "it is a link to a file outside of the folder"

-- a file that was passed over
abbrev pub passed_text : Style → List ℕ → PassedCause → List ℕ
passed_text style path cause =
    on style (codes "33") ++ flat_map shown_byte path ++ off style ++ codes " passed over: "
    ++ passed_words cause

abbrev pub foreign_words : Foreign → List ℕ
foreign_words Host = codes "refused: a request for another host: "
foreign_words Origin = codes "refused: a connection from a page of another origin: "

-- a request that was refused
abbrev pub stranger_text : Style → Foreign → List ℕ → List ℕ
stranger_text style foreign told =
    on style (codes "33") ++ foreign_words foreign ++ flat_map shown_byte told ++ off style

abbrev pub anew_words : AnewCause → List ℕ
anew_words TranscriptFull = codes "its transcript is full"
anew_words NumbersSpent = codes "all of its numbers were given"

-- the hub begins anew
abbrev pub anew_text : AnewCause → List ℕ
anew_text cause = codes "the server begins anew, and all pages load again: " ++ anew_words cause

-- the folder is away, or there again
abbrev pub away_text : Bool → List ℕ
away_text away = if away then codes "the folder can't be looked at; what is served stays"
    else codes "the folder is there again"

-- what stands behind the time
abbrev pub body_text : Style → News → List ℕ
body_text style (news.Saved name version) = edit_text name version (codes " saved")
body_text style (news.Removed name version) = edit_text name version (codes " removed")
body_text style (news.Fault name fault line) = fault_text style name fault line
body_text style (news.Passed path cause) = passed_text style path cause
body_text style (news.Page client told) = page_text style client told
body_text style (news.Stale client bindings) = stale_list style client bindings
body_text style (news.Stranger foreign told) = stranger_text style foreign told
body_text style (news.Anew cause) = anew_text cause
body_text style (news.Away away) = away_text away

-- the line, with the time before it
abbrev pub line_text : Style → Clock → News → List ℕ
line_text style clock told =
    on style (codes "2") ++ clock_text clock ++ off style ++ codes " " ++ body_text style told ++ codes "\n"
