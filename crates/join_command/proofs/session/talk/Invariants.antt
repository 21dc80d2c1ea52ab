use Rattle.std.proofs.Common.{◌≡◌, ◌≤◌, [], false}
use Rattle.transport.specs.declared.link.Phase.TheVariants.{Open}
use Rattle.client_model.specs.Runtime.{Opening}
use Rattle.runtime_state.specs.Standing.{KeepsWords, StandsFor}
use Rattle.client_sessions.specs.Asking.{IsNew}
use Rattle.join_command.proofs.Lines.{Wrote}
use Rattle.join_command.proofs.session.talk.Given as goal

-- each request so far was answered, its answer taken, and the lines of that written
abbrev pub invariant-loop : goal.invariant-loop
invariant-loop g l =
    let left = g.L.Link.left in
    let sent = g.L.Link.sent in
    let written = g.K.Sink.written in
    record {
      is_open : g.L.Link.phase l.link ≡ Open;
      wrote : (opening : Opening) → StandsFor opening [] l.fn.runtime
          → Wrote opening l.counter l.fn.runtime.format (left l.fn.link) (left l.link)
          (sent l.fn.link) (sent l.link) (written l.fn.out) (written l.out) l.runtime;
      new : IsNew l.fn.runtime;
      running : l.runtime.stopped ≡ false;
      format : l.runtime.format ≡ l.fn.runtime.format;
      words : KeepsWords (goal.F-post g) l.runtime;
      later : g.L.Link.faults l.fn.link ≤ g.L.Link.faults l.link;
      out_later : g.K.Sink.faults l.fn.out ≤ g.K.Sink.faults l.out;
    }
