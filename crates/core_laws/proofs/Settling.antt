-- Good sources are served.
use Rattle.std.proofs.Common.{◌≡◌, ℕ, ap, ◌∙◌}
use Rattle.std.specs.Prelude.{Option, Some, None}
use Rattle.std.proofs.Math.Path.{subst}
use Rattle.hmr_types.specs.declared.analysis.Analysis.{Analysis}
use Rattle.core_model.specs.Names.{Name, at}
use Rattle.core_model.specs.Sources.{Source, Serving, Sources}
use Rattle.core_laws.specs.Facts.{IsOfSource, VerdictIs, SourceIs, SourcesFacts}
use Rattle.core_laws.specs.Settled.{HasGoodResult, AllAreGood, of_source, of_serving}

of_good : (x : Source) (served : Option Serving) → IsOfSource x served → of_serving served ≡ of_source (Some x)
of_good x None h = absurd h
of_good x (Some v) h = ap (λ k. Some (k, v.text)) h.0 ∙ ap (λ t. Some (x.version, t)) h.1

by_source : (o : Option Source) (by : ℕ → Option Analysis) (served : Option Serving) → HasGoodResult o → SourceIs o by served → of_serving served ≡ of_source o
by_source None by served g h = ap of_serving h
by_source (Some x) by served g h = of_good x served (subst (λ verdict. VerdictIs verdict x (by x.version) served) g h)

-- where all current sources are good they are what is served
pub good_is_served : (by : Name → ℕ → Option Analysis) (s : Sources) → SourcesFacts by s → AllAreGood s → (n : Name) → of_serving (at s.served n) ≡ of_source (at s.current n)
good_is_served by s facts g n = by_source (at s.current n) (by n) (at s.served n) (g n) (facts.settled n)
