-- What reading a file gives.
use Rattle.std.specs.Prelude.{⊤}
use Rattle.live_folder.specs.Texts.{IsShort}
use Rattle.live_folder.specs.declared.folder_marks.Read.{Read}
use Rattle.live_folder.specs.declared.folder_marks.Read.TheVariants.{Text, Skip, Gone}

-- a text that was read is within the limit
abbrev pub IsShortRead : Read → Type 0
IsShortRead (Text text) = IsShort text
IsShortRead (Skip cause) = ⊤
IsShortRead Gone = ⊤
