-- What is recorded of a script, by how its run ended.
use Rattle.std.proofs.Common.{◌≡◌, ℕ, true, false, List, ap, sym, refl}
use Rattle.std.specs.Prelude.{Result, Ok, Err, is_err}
use Rattle.std.specs.Global.{Vec}
use Rattle.std.proofs.Math.Path.{subst}
use Rattle.std.proofs.lemmas.Bool.{false≢true}
use Rattle.core_model.specs.Sources.{Text}
use Rattle.world_model.specs.Playing.{Stage}
use Rattle.event_runs.specs.Logs.{IsLogOf}
use Rattle.event_runs.specs.Playing.{Played}
use Rattle.event_runs.specs.declared.event_log.EventLog.{EventLog}
use Rattle.play_script.specs.declared.fault.ScriptFault.{ScriptFault}
use Rattle.play_script.specs.Script.{Contents, IsReading}
use Rattle.play_script.specs.declared.fault.ScriptRefusal.{ScriptRefusal}
use Rattle.play_script.specs.declared.fault.ScriptRefusal.TheVariants as refusals
use Rattle.text_commands.specs.declared.stop.Stop.{Stop}
use Rattle.text_commands.specs.declared.stop.Stop.TheVariants.{NotACommand, TooLong, TextTooLong, RecordTooLong, Faulty, Unread, Unwritten, TranscriptFull, InstancesFull, NoMemory}
use Rattle.text_commands.specs.Ends.{IsFaultStop}
use Rattle.script_runs.specs.Outputs.{record_of_run, record_of_script}
use Rattle.script_runs.specs.Logged.{IsLoggedEnd}
use Rattle.text_commands.specs.Recorded.{IsRecordStop, Records}
use Rattle.script_runs.specs.Recording.{events_of}

faulty_alone : (shelves : List (List (Text × ℕ))) (meant : Result Contents ScriptFault) (fault : ScriptFault) (stop : Stop) →
    meant ≡ Err fault → IsRecordStop (record_of_script shelves (Err fault)) stop → Records (record_of_script shelves meant) (Err stop)
faulty_alone shelves meant fault stop e h =
    subst (λ m. Records (record_of_script shelves m) (Err stop)) (sym e) (record { ends = tt; text = tt; stops = h })

pub fault_recorded : (shelves : List (List (Text × ℕ))) (meant : Result Contents ScriptFault) (refusal : ScriptRefusal) (stop : Stop) →
    IsReading {X = Contents} (Err refusal) meant → IsFaultStop refusal stop → Records (record_of_script shelves meant) (Err stop)
fault_recorded shelves meant refusal NotACommand read h = absurd h
fault_recorded shelves meant refusal TooLong read h = absurd h
fault_recorded shelves meant refusal TextTooLong read h = absurd h
fault_recorded shelves meant refusal RecordTooLong read h = absurd h
fault_recorded shelves meant (refusals.Faulty fault) (Faulty line) e h =
    faulty_alone shelves meant fault (Faulty line) e (record { status_is = refl; lines_are = refl; last_is = sym h })
fault_recorded shelves meant refusals.NoMemory (Faulty line) read h = absurd h
fault_recorded shelves meant refusal Unread read h = absurd h
fault_recorded shelves meant refusal Unwritten read h = absurd h
fault_recorded shelves meant refusal TranscriptFull read h = absurd h
fault_recorded shelves meant refusal InstancesFull read h = absurd h
fault_recorded shelves meant refusal NoMemory read h = record { ends = tt; text = tt; stops = tt }

pub script_recorded : (shelves : List (List (Text × ℕ))) (meant : Result Contents ScriptFault) (script : Contents) (result : Result (Vec ℕ) Stop) →
    meant ≡ Ok script → Records (record_of_script shelves (Ok script)) result → Records (record_of_script shelves meant) result
script_recorded shelves meant script result e h =
    subst (λ m. Records (record_of_script shelves m) result) (sym e) h

-- a run that came to its end
pub ended_well : (stage : Stage) (p : Played) (played : Result (Unit {0}) Stop) (u : Unit {0}) (log : EventLog) →
    played ≡ Ok u → IsLoggedEnd stage p played log → (p.over ≡ false) × IsLogOf (events_of stage p) log
ended_well stage p (Ok v) u log e h = (h.goes_on, h.done)
ended_well stage p (Err stop) u log e h = absurd (false≢true (sym (ap is_err e)))

pub full_is : (played : Result (Unit {0}) Stop) (stop : Stop) → played ≡ Err stop → stop ≡ InstancesFull →
    played ≡ Err InstancesFull
full_is played stop e full = subst (λ s. played ≡ Err s) full e

-- what was stopped is recorded so
pub stop_recorded : (stage : Stage) (p : Played) (stop : Stop) → IsRecordStop (record_of_run stage p) stop →
    Records (record_of_run stage p) (Err stop)
stop_recorded stage p stop h = record { ends = tt; text = tt; stops = h }
