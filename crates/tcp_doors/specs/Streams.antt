-- What is left to read of a stream with bytes that were read ahead.
use Rattle.std.specs.Prelude.{ℕ, List, Option, drop}
use Rattle.transport.specs.Told.{told_front}
use Rattle.tcp_doors.specs.declared.patient_stream.PatientStream.{PatientStream}

-- those that were read ahead, and then those of the stream
abbrev pub remaining_of : {S R : Type 0} → (S → Option (List ℕ)) → PatientStream S R → Option (List ℕ)
remaining_of remaining s = told_front (drop s.at s.ahead.items) (remaining s.stream)
