-- The text of each edit that was counted.
use Rattle.std.specs.Prelude.{◌≡◌, ℕ, ◌==◌, ◌&&◌, List, [], ◌∷◌, Option, Some, None, if◌then◌else◌, ⊤}
use Rattle.core_model.specs.Names.{Name, same_name}
use Rattle.core_model.specs.Sources.{Text, Change, edit, result, Source, Serving, EditAnswer, job, same}
use Rattle.core_model.specs.Sources.{removed, edit_refused, edit_answer, text_or_none, sources_after}

-- the texts so far, and that of one more edit where it was counted
abbrev pub written_too : EditAnswer → Name → Option Text → (Name → ℕ → Option Text) → Name → ℕ → Option Text
written_too (job w) m t before n v = if same_name m n && w == v then Some (text_or_none t) else before n v
written_too same m t before n v = before n v
written_too (removed w) m t before n v = before n v
written_too (edit_refused word) m t before n v = before n v

-- the text of the edit of this name that was counted as this number, the newest change first
abbrev pub written : List Change → Name → ℕ → Option Text
written [] n v = None
written (edit m t ∷ past) n v = written_too (edit_answer (sources_after past) m t) m t (written past) n v
written (result m t o w ∷ past) n v = written past n v

-- the source has the text of its version
abbrev pub IsWritten : (ℕ → Option Text) → Option Source → Type 0
IsWritten by None = ⊤
IsWritten by (Some s) = by s.version ≡ Some s.text

-- what is served has the text of its version
abbrev pub IsServedWritten : (ℕ → Option Text) → Option Serving → Type 0
IsServedWritten by None = ⊤
IsServedWritten by (Some s) = by s.version ≡ Some s.text
