-- What each step of the world keeps, from any world that has it.
use Rattle.std.specs.Prelude.{ℕ, Option}
use Rattle.hmr_types.specs.declared.analysis.Analysis.{Analysis}
use Rattle.core_model.specs.Names.{Name}
use Rattle.core_laws.specs.Kept.{CoreFacts}
use Rattle.client_model.specs.Language.{Language}
use Rattle.world_model.specs.World.{World}
use Rattle.world_model.specs.Ties.{AreTied, AreServedRight}
use Rattle.world_laws.specs.Quiet.{Ends}

-- the facts of the core, where by gives the analysis that each version of a name was served with; what ties
-- the clients to their records; and what holds of their plans and of the causes to give them up
pub record WorldFacts (language : Language) (w : World) : Type 0 where
  pub by : Name → ℕ → Option Analysis
  pub core : CoreFacts by w.core
  pub tied : AreTied w
  pub served : AreServedRight language w.core.sources.served
  pub plans : Ends language w
