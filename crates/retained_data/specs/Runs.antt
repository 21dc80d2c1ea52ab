-- What the run of a handler stands for.
use Rattle.module_semantics.specs.Bodies.{Ran}
use Rattle.retained_data.specs.declared.ran.Ran as code

-- what a handler left
abbrev pub ran_seen : code.Ran → Ran
ran_seen r =
    record {
      fault = r.fault;
      lines = r.lines;
      changes = r.changes;
      invalidations = r.invalidations;
      bag = r.bag;
    }
