-- What true results say: an analysis is that of the text of the counted edit of its version.
use Rattle.std.specs.Prelude.{◌≡◌, ℕ, Option, Some}
use Rattle.hmr_types.specs.declared.analysis.Analysis.{Analysis}
use Rattle.hmr_types.specs.declared.analysis.Outcome.{Outcome}
use Rattle.hmr_types.specs.declared.analysis.Outcome.TheVariants.{Good}
use Rattle.core_model.specs.Names.{Name}
use Rattle.core_model.specs.Sources.{Text, Change}
use Rattle.core_model.specs.View.{Entry}
use Rattle.core_model.specs.Core.{change}
use Rattle.core_model.specs.Transcript.{IsTrueEvent}

-- an edit, or a result that transforming its text gives
abbrev pub IsTrueChange : (Name → Text → Outcome) → Change → Type 0
IsTrueChange transformed ch = IsTrueEvent transformed (change ch)

-- an edit of n with some text was counted as v, and transforming that text gives this analysis
pub record IsOfText (transformed : Name → Text → Outcome) (written : Name → ℕ → Option Text) (n : Name)
    (v : ℕ) (a : Analysis) : Type 0 where
  pub text : Text
  pub counted : written n v ≡ Some text
  pub analysed : transformed n text ≡ Good a

-- the entry has the analysis of the text of its version
abbrev pub IsTrueEntry : (Name → Text → Outcome) → (Name → ℕ → Option Text) → Name → Entry → Type 0
IsTrueEntry transformed written n e = IsOfText transformed written n e.version e.analysis
