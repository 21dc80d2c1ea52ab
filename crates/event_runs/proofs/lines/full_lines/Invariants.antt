use Rattle.std.proofs.Common.{◌≡◌, ◌++◌, drop, map}
use Rattle.output_lines.specs.declared.out_line.OutLine.TheVariants.{Full}
use Rattle.event_runs.proofs.lines.full_lines.Given as goal

-- the lines so far, and those of the clients that are left
abbrev pub invariant-loop-client : goal.invariant-loop-client
invariant-loop-client l =
    l.lines.items ++ map (λ i. Full i l.event) (drop l.client-index l.clients) ≡ map (λ i. Full i l.event) l.clients
