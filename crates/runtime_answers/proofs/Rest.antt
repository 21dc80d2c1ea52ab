-- Where only the plan under way is another, all else stays.
use Rattle.std.proofs.Common.{◌≡◌, ap, sym}
use Rattle.std.specs.Prelude.{OnOk, Option, Result, Ok, Err}
use Rattle.std.proofs.Math.Path.{subst}
use Rattle.handler_table.specs.Held.{Answers}
use Rattle.client_plan.specs.declared.under_way.UnderWay.{UnderWay}
use Rattle.runtime_state.specs.Standing.{KeepsWords}
use Rattle.runtime_state.specs.declared.runtime.HotRuntime.{HotRuntime}
use Rattle.runtime_state.proofs.Keeping.{with_under_way}

-- what holds anyway holds where all went well
pub on_ok : {T E P : Type 0} (result : Result T E) → P → OnOk result P
on_ok (Ok x) h = h
on_ok (Err e) h = tt

module _ {F : Type 0} (h after : HotRuntime F) (u : Option UnderWay) (rest : after ≡ with_under_way h u) where
  pub rest_words : (answers : Answers F) → KeepsWords answers h → KeepsWords answers after
  rest_words answers w = subst (KeepsWords answers) (sym rest) w

  pub rest_format : after.format ≡ h.format
  rest_format = ap (λ x. x.format) rest

  pub rest_stopped : after.stopped ≡ h.stopped
  rest_stopped = ap (λ x. x.stopped) rest
