use Rattle.std.proofs.Common.{◌≡◌, ◌≤◌, [], false}
use Rattle.transport.specs.declared.link.Phase.TheVariants.{Open}
use Rattle.client_model.specs.Runtime.{Opening}
use Rattle.runtime_state.specs.Standing.{KeepsWords, StandsFor}
use Rattle.client_sessions.specs.Asking.{IsNew}
use Rattle.client_sessions.specs.Course.{Talked}
use Rattle.client_sessions.proofs.session.talk.Given as goal

-- each request so far was answered, and its answer taken
abbrev pub invariant-loop : goal.invariant-loop
invariant-loop g l =
    let left = g.L.Link.left in
    let sent = g.L.Link.sent in
    record {
      is_open : g.L.Link.phase l.link ≡ Open;
      talked : (opening : Opening) → StandsFor opening [] l.fn.runtime → Talked opening l.counter l.fn.runtime.format (left l.fn.link) (left l.link) (sent l.fn.link) (sent l.link) l.runtime l.lines.items;
      new : IsNew l.fn.runtime;
      running : l.runtime.stopped ≡ false;
      format : l.runtime.format ≡ l.fn.runtime.format;
      words : KeepsWords (goal.F-post g) l.runtime;
      later : g.L.Link.faults l.fn.link ≤ g.L.Link.faults l.link;
    }
