-- When a call of the outside may answer that it failed.
use Rattle.std.specs.Prelude.{◌≡◌, ℕ, ◌≤◌, Bool, true, false, Result, Ok, Err, OnOk}
use Rattle.hmr_base.specs.Causes.{Rose}
use Rattle.hmr_base.specs.declared.out_fault.OutFault.{OutFault}
use Rattle.hmr_base.specs.declared.out_fault.OutFault.TheVariants.{Failed, NoMemory}

-- whether the answer is that the outside failed
abbrev pub is_failed : {T : Type 0} → Result T OutFault → Bool
is_failed (Ok value) = false
is_failed (Err Failed) = true
is_failed (Err NoMemory) = false

-- the count does not fall: it rose where the answer is Failed, and stays at an Ok
pub record HasOutCause {T : Type 0} (before now : ℕ) (result : Result T OutFault) : Type 0 where
  pub later : before ≤ now
  pub failed : is_failed result ≡ true → Rose before now
  pub same : OnOk result (now ≡ before)
