-- What the evaluation of a module stands for.
use Rattle.std.specs.Prelude.{map}
use Rattle.module_semantics.specs.Bodies.{registration_of}
use Rattle.module_semantics.specs.Modules.{Evaluated}
use Rattle.const_eval.specs.declared.module.Evaluated as module_answer

-- what a module's evaluation gave
abbrev pub evaluated_seen : module_answer.Evaluated → Evaluated
evaluated_seen r =
    record {
      fault = r.fault;
      vars = r.vars;
      lines = r.lines;
      registered = map registration_of r.registered;
      bag = r.bag;
    }
