-- Words as they stand behind others in a line.
use Rattle.std.specs.Prelude.{ℕ, List, [], ◌∷◌, ◌++◌, codes, decimal, Option, Some, None}
use Rattle.hmr_types.specs.Event.{event_of}

-- a word behind a space
abbrev pub spaced : List ℕ → List ℕ
spaced text = codes " " ++ text

-- a number behind a space
abbrev pub spaced_number : ℕ → List ℕ
spaced_number n = codes " " ++ decimal n

-- each name behind a space
abbrev pub names_text : List (List ℕ) → List ℕ
names_text [] = []
names_text (n ∷ ns) = spaced n ++ names_text ns

-- the event that a module stands for, or else the module
abbrev pub event_or : Option (List ℕ) → List ℕ → List ℕ
event_or (Some event) name = event
event_or None name = name

-- an event as it is written, by its module: `my:ping`, of `/event/my/ping`
abbrev pub event_text : List ℕ → List ℕ
event_text name = event_or (event_of name) name
