use Rattle.std.proofs.Common.{refl, arith}
use Rattle.std.proofs.lemmas.List.Elements.{All-from_recursion}
use Rattle.core_model.specs.Examples.{transforming, transcript}
use Rattle.core_model.specs.Formed.{IsFormed}
use Rattle.core_model.specs.Transcript.{IsTrueEvent, events_of}
use Rattle.core_model.proofs.Working.{formed, results}
use Rattle.core_model.proofs.examples.transcript_is_legal.Goals as goal

pub returns-clause-legal : goal.returns-clause-legal
returns-clause-legal c = record {
  roots_are = record { some = omega arith; few = omega arith; distinct = refl };
  formed = All-from_recursion IsFormed (events_of transcript) formed;
  results = All-from_recursion (IsTrueEvent transforming) (events_of transcript) results;
  few = omega arith;
  small = omega arith;
}
