-- A text that can't be read.
use Rattle.std.proofs.Common.{ℕ}
use Rattle.hmr_types.specs.declared.analysis.Outcome.{Outcome}
use Rattle.hmr_types.specs.declared.analysis.Outcome.TheVariants.{Good, Bad}
use Rattle.core_model.specs.Names.{Name}
use Rattle.core_model.specs.Page.{Plan}
use Rattle.core_model.specs.Sources.{Text}
use Rattle.client_model.specs.Runtime.{Runtime, broken}
use Rattle.client_plan.specs.UnderWay.{IsFetched, IsUnderWay, with_cause_of}
use Rattle.client_plan.specs.declared.under_way.UnderWay.{UnderWay}
use Rattle.fetched_texts.specs.Reads.{IsBad}

-- a text that can't be read
pub bad_fetched : (o : Outcome) (r : Runtime) (p : Plan) (n : Name) (version : ℕ) (text : Text) (u : UnderWay) → IsBad o → IsUnderWay (with_cause_of (broken n) r) p u → IsFetched o r p n version text u
bad_fetched (Good a) r p n version text u b i = absurd b
bad_fetched (Bad fault) r p n version text u b i = i
