use Rattle.std.proofs.Common.{◌≡◌, sym}
use Rattle.std.specs.Prelude.{IfOk}
use Rattle.std.proofs.Math.Path.{subst}
use Rattle.core_model.specs.View.{table_of}
use Rattle.runtime_state.proofs.runtime.HotRuntime.table.Goals as goal

pub returns : goal.returns
returns g c = λ opening past s. subst (λ view. IfOk c.table_of.result (λ shown. shown ≡ table_of view)) (sym s.keeps.view) c.table_of.ensures
