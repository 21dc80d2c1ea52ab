use Rattle.std.proofs.Common.{◌≡◌, ◌≤◌}
use Rattle.transport.specs.declared.link.Phase.TheVariants.{Fresh}
use Rattle.live_heads.proofs.answering.answer_heads.Given as goal

-- the visitor isn't opened
abbrev pub invariant-loop : goal.invariant-loop
invariant-loop g l =
    (goal.iterator-loop g).can_next l.iterator' × (goal.iterator-loop g).is_finite l.iterator'
    × record {
      fresh : g.E.Link.phase l.end ≡ Fresh;
      later : g.E.Link.faults l.fn.end ≤ g.E.Link.faults l.end;
    }
