-- The analysis that a served version came with.
use Rattle.std.specs.Prelude.{◌≡◌, ℕ, ◌==◌, ◌&&◌, List, [], ◌∷◌, Option, Some, None, if◌then◌else◌, ⊤}
use Rattle.hmr_types.specs.declared.analysis.Analysis.{Analysis}
use Rattle.core_model.specs.Names.{Name, same_name, at}
use Rattle.core_model.specs.Sources.{Change, edit, result, ResultAnswer, serve, refuse, late, result_answer}
use Rattle.core_model.specs.Sources.{sources_after, Serving}
use Rattle.core_model.specs.View.{View, Entry}

-- the analyses so far, and the one of a result that is served
abbrev pub given_too : ResultAnswer → Name → ℕ → (Name → ℕ → Option Analysis) → Name → ℕ → Option Analysis
given_too (serve a) m w before n v = if same_name m n && w == v then Some a else before n v
given_too (refuse f) m w before n v = before n v
given_too late m w before n v = before n v

-- the analysis that came with the result that served this version of the name, the newest change first
abbrev pub analysis_given : List Change → Name → ℕ → Option Analysis
analysis_given [] n v = None
analysis_given (edit m t ∷ past) n v = analysis_given past n v
analysis_given (result m t o w ∷ past) n v =
    given_too (result_answer (sources_after past) m t o w) m w (analysis_given past) n v

-- what is served of a name, as an entry of a page
abbrev pub entry_of : Option Serving → Option Entry
entry_of None = None
entry_of (Some s) = Some (record { version = s.version; analysis = s.analysis })

-- the entry has the analysis that its version was served with
abbrev pub IsGiven : (ℕ → Option Analysis) → Option Entry → Type 0
IsGiven by None = ⊤
IsGiven by (Some e) = by e.version ≡ Some e.analysis

-- each entry has
abbrev pub AreGiven : (Name → ℕ → Option Analysis) → View → Type 0
AreGiven by view = (n : Name) → IsGiven (by n) (at view n)
