-- What one more event makes of the analyses and the texts that are known, and the facts of a whole core.
use Rattle.std.specs.Prelude.{ℕ, ◌≡◌, ◌<◌, Option, None, IfSome}
use Rattle.hmr_types.specs.declared.analysis.Analysis.{Analysis}
use Rattle.core_model.specs.Names.{Name, at}
use Rattle.core_model.specs.Sources.{Text, Change, edit, result, Sources, edit_answer, result_answer}
use Rattle.core_model.specs.Core.{Core, Event, change, connect, request, disconnect, client_at}
use Rattle.core_laws.specs.Given.{given_too}
use Rattle.core_laws.specs.Written.{written_too, IsWritten, IsServedWritten}
use Rattle.core_laws.specs.Facts.{SourcesFacts, ClientFacts}

-- the analyses that versions were served with, after one more edit or result
abbrev pub given_after : Sources → (Name → ℕ → Option Analysis) → Change → Name → ℕ → Option Analysis
given_after s by (edit n t) = by
given_after s by (result n t o v) = given_too (result_answer s n t o v) n v by

-- after one more event
abbrev pub given_by : Core → (Name → ℕ → Option Analysis) → Event → Name → ℕ → Option Analysis
given_by core by (change ch) = given_after core.sources by ch
given_by core by (connect names) = by
given_by core by (request i r) = by
given_by core by (disconnect i) = by

-- the texts of counted edits, after one more edit or result
abbrev pub written_after : Sources → (Name → ℕ → Option Text) → Change → Name → ℕ → Option Text
written_after s by (edit n t) = written_too (edit_answer s n t) n t by
written_after s by (result n t o v) = by

-- the facts of the sources and of each connected client
pub record CoreFacts (by : Name → ℕ → Option Analysis) (core : Core) : Type 0 where
  pub sources : SourcesFacts by core.sources
  pub clients : (i : ℕ) → IfSome (client_at core.clients i) (ClientFacts by core.sources)

-- a number that isn't given yet has no text; each source, and each served one, has the text of its version
pub record TextFacts (by : Name → ℕ → Option Text) (s : Sources) : Type 0 where
  pub fresh : (n : Name) (v : ℕ) → s.counted < v → by n v ≡ None
  pub current : (n : Name) → IsWritten (by n) (at s.current n)
  pub served : (n : Name) → IsServedWritten (by n) (at s.served n)
