-- Why bytes that stand for a value are read or refused.
use Rattle.std.specs.Prelude.{ℕ, List, Result, Ok, Err, IfErr, IfOk}
use Rattle.serde_json.specs.Data.{Data}
use Rattle.told_plans.specs.Plans.{Told}
use Rattle.told_plans.specs.Reading.{Gives, HasCause, HasReading, IsToldBy, told_of}
use Rattle.told_plans.specs.declared.fault.PlanFault.{PlanFault}
use Rattle.told_plans.specs.declared.fault.PlanFault.TheVariants as faults

pub told_by : (bytes : List ℕ) (d : Data) (r : Result Told PlanFault) → HasReading bytes d → Gives r (told_of d) → IfOk r (IsToldBy bytes)
told_by bytes d (Ok t) h gives = (d, h, gives)
told_by bytes d (Err e) h gives = tt

caused : (bytes : List ℕ) (d : Data) (e : PlanFault) → HasReading bytes d → Gives {Y = Told} (Err e) (told_of d) → HasCause bytes e
caused bytes d faults.NotJson h gives = tt
caused bytes d faults.WrongPlan h gives = (d, h, gives)
caused bytes d faults.WrongPlain h gives = (d, h, gives)
caused bytes d faults.WrongMade h gives = (d, h, gives)
caused bytes d faults.WrongKept h gives = (d, h, gives)
caused bytes d faults.TooMany h gives = (d, h, gives)
caused bytes d faults.Twice h gives = (d, h, gives)
caused bytes d faults.NoMemory h gives = tt

pub cause_of : (bytes : List ℕ) (d : Data) (r : Result Told PlanFault) → HasReading bytes d → Gives r (told_of d) → IfErr r (HasCause bytes)
cause_of bytes d (Ok t) h gives = tt
cause_of bytes d (Err e) h gives = caused bytes d e h gives
