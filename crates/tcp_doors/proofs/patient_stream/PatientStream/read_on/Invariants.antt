use Rattle.std.proofs.Common.{◌≡◌}
use Rattle.std.specs.Io.KnownBytes.{Keeps}
use Rattle.tcp_doors.proofs.patient_stream.PatientStream.read_on.Given as goal

-- no byte was taken yet
abbrev pub invariant-loop : goal.invariant-loop
invariant-loop g l =
    (goal.iterator-loop g).can_next l.iterator' × (goal.iterator-loop g).is_finite l.iterator'
    × record {
      ahead : l.self.ahead ≡ l.fn.self.ahead;
      at : l.self.at ≡ l.fn.self.at;
      stream : Keeps (g.S.Read.remaining l.fn.self.stream) (g.S.Read.remaining l.self.stream);
    }
