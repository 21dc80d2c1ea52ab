-- What a stop rules out.
use Rattle.std.proofs.Common.{◌≡◌}
use Rattle.std.specs.Prelude.{Result, Ok, Err, IfErr}
use Prim.{⊥}
use Rattle.text_commands.specs.declared.stop.Stop.{Stop}
use Rattle.text_commands.specs.declared.stop.Stop.TheVariants.{NotACommand, TooLong, TextTooLong, RecordTooLong, Faulty, Unread, Unwritten, TranscriptFull, InstancesFull, NoMemory}
use Rattle.text_commands.specs.Writing.{IsPlayStop, IsWriteStop}

-- writing stops for no limit
full_by : (stop : Stop) → IsWriteStop stop
    → (let r : Result (Unit {0}) Stop = Err stop in r ≡ Err InstancesFull) → ⊥
full_by NotACommand k e = absurd k
full_by TooLong k e = absurd k
full_by TextTooLong k e = absurd k
full_by RecordTooLong k e = absurd k
full_by (Faulty line) k e = absurd k
full_by Unread k e = absurd k
full_by Unwritten k e = cc
full_by TranscriptFull k e = absurd k
full_by InstancesFull k e = absurd k
full_by NoMemory k e = cc

pub never_full : (result : Result (Unit {0}) Stop) → IfErr result IsWriteStop → result ≡ Err InstancesFull → ⊥
never_full (Ok u) k e = cc
never_full (Err stop) k e = full_by stop k e

-- a stop of writing is one of playing
plays_by : (stop : Stop) → IsWriteStop stop → IsPlayStop stop
plays_by NotACommand k = absurd k
plays_by TooLong k = absurd k
plays_by TextTooLong k = absurd k
plays_by RecordTooLong k = absurd k
plays_by (Faulty line) k = absurd k
plays_by Unread k = absurd k
plays_by Unwritten k = tt
plays_by TranscriptFull k = absurd k
plays_by InstancesFull k = tt
plays_by NoMemory k = tt

pub plays_stop : (result : Result (Unit {0}) Stop) → IfErr result IsWriteStop → IfErr result IsPlayStop
plays_stop (Ok u) k = tt
plays_stop (Err stop) k = plays_by stop k
