use Rattle.std.proofs.Common.{◌≡◌, List, [], refl}
use Rattle.std.specs.Prelude.{Option, Some, None, IfSome}
use Prim.{⊥}
use Rattle.core_model.specs.Names.{Name}
use Rattle.core_model.specs.View.{View}
use Rattle.core_model.specs.Spread.{IsReason, IsReloadWanted, reason_of}
use Rattle.core_model.proofs.Spreading.{reason_is}
use Rattle.core_laws.specs.Batch.{names_changed}
use Rattle.core_laws.proofs.Batches.{batch_is_calm}
use Rattle.core_laws.proofs.laws.batch_wants_no_reload.Goals as goal

no_reason : (view : View) (roots changed : List Name) (o : Option (List Name)) → IfSome o (IsReason view roots changed []) → (IsReloadWanted view roots changed [] → ⊥) → o ≡ None
no_reason view roots changed None h f = refl
no_reason view roots changed (Some path) h f = absurd (f (record { end = h.end; path = record { path = path; is = h.is }; badly = h.badly }))

pub returns-clause-wanted : goal.returns-clause-wanted
returns-clause-wanted c = batch_is_calm

pub returns-clause-computed : goal.returns-clause-computed
returns-clause-computed c roots view turns closed eager batch = no_reason view roots (names_changed turns) (reason_of view roots (names_changed turns) []) (reason_is view roots (names_changed turns) []).0 (batch_is_calm roots view turns closed eager batch)
