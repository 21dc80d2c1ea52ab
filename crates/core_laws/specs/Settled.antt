-- Current sources that all had a good result, and that they are then what is served.
use Rattle.std.specs.Prelude.{◌≡◌, ℕ, Option, Some, None, ⊤}
use Rattle.core_model.specs.Names.{Name, at}
use Rattle.core_model.specs.Sources.{Text, Source, Serving, Sources, good}

-- the source, if there is one, had a good result
abbrev pub HasGoodResult : Option Source → Type 0
HasGoodResult None = ⊤
HasGoodResult (Some s) = s.verdict ≡ good

-- no job is outstanding, and no source is refused
abbrev pub AllAreGood : Sources → Type 0
AllAreGood s = (n : Name) → HasGoodResult (at s.current n)

-- the version and the text of a source
abbrev pub of_source : Option Source → Option (ℕ × Text)
of_source None = None
of_source (Some s) = Some (s.version, s.text)

-- the version and the text that are served
abbrev pub of_serving : Option Serving → Option (ℕ × Text)
of_serving None = None
of_serving (Some s) = Some (s.version, s.text)
