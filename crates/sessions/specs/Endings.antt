-- Which ending each fault leads to.
use Rattle.hmr_base.specs.declared.out_fault.OutFault.{OutFault}
use Rattle.hmr_base.specs.declared.out_fault.OutFault.TheVariants.{Failed, NoMemory as OutOfMemory}
use Rattle.update_msgs.specs.declared.desk.HubStop.{HubStop}
use Rattle.update_msgs.specs.declared.desk.HubStop.TheVariants as stops
use Rattle.message_json.specs.declared.fault.MsgFault.{MsgFault}
use Rattle.message_json.specs.declared.fault.MsgFault.TheVariants as faults
use Rattle.sessions.specs.declared.ended.Ended.{Ended}
use Rattle.sessions.specs.declared.ended.Ended.TheVariants.{LinkFault, BadMessage, Stopped, NoMemory}

-- at a fault of the link
abbrev pub ended_at : OutFault → Ended
ended_at Failed = LinkFault
ended_at OutOfMemory = NoMemory

-- by what was received
abbrev pub ended_by : MsgFault → Ended
ended_by faults.NotJson = BadMessage faults.NotJson
ended_by faults.NoType = BadMessage faults.NoType
ended_by (faults.BadField key) = BadMessage (faults.BadField key)
ended_by (faults.ExtraField key) = BadMessage (faults.ExtraField key)
ended_by faults.NoMemory = NoMemory

-- for want of an answer
abbrev pub ended_for : HubStop → Ended
ended_for stops.TranscriptFull = Stopped
ended_for stops.NoMemory = NoMemory
