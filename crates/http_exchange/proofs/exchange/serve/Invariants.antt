use Rattle.std.proofs.Common.{◌≤◌}
use Rattle.http_exchange.proofs.Turns.{Stands}
use Rattle.http_exchange.proofs.exchange.serve.Given as goal

-- so many answers were written, none of which closes
abbrev pub invariant-loop : goal.invariant-loop
invariant-loop g l =
    record {
      stands : Stands (g.T.Site.bodies l.fn.site) l.counter (g.S.Source.left l.fn.source)
          (g.S.Source.left l.source) l.held.items (g.K.Sink.written l.fn.sink) (g.K.Sink.written l.sink);
      later : g.S.Source.faults l.fn.source ≤ g.S.Source.faults l.source;
      sink_later : g.K.Sink.faults l.fn.sink ≤ g.K.Sink.faults l.sink;
    }
