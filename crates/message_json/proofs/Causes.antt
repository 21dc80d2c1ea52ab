-- Why bytes that read as a value are refused.
use Rattle.std.specs.Prelude.{ℕ, List, Result, Ok, Err, IfErr}
use Rattle.serde_json.specs.Data.{Data}
use Rattle.message_text.specs.Values.{HasReading}
use Rattle.message_json.specs.declared.fault.MsgFault.{MsgFault}
use Rattle.message_json.specs.declared.fault.MsgFault.TheVariants as errors
use Rattle.message_json.specs.Reading.{Fault, Fails, Gives, HasCause}

cause_of : {Y : Type 0} (bytes : List ℕ) (f : Data → Result Y Fault) (d : Data) (e : MsgFault) → HasReading bytes d → Fails e (f d) → HasCause bytes f e
cause_of bytes f d errors.NotJson h fails = absurd fails
cause_of bytes f d errors.NoType h fails = (d, h, fails)
cause_of bytes f d (errors.BadField k) h fails = (d, h, fails)
cause_of bytes f d (errors.ExtraField k) h fails = (d, h, fails)
cause_of bytes f d errors.NoMemory h fails = tt

-- what a value gives has its cause in that value
pub given_cause : {Y : Type 0} (bytes : List ℕ) (f : Data → Result Y Fault) (d : Data) (r : Result Y MsgFault) → HasReading bytes d → Gives r (f d) → IfErr r (HasCause bytes f)
given_cause bytes f d (Ok y) h gives = tt
given_cause bytes f d (Err e) h gives = cause_of bytes f d e h gives
