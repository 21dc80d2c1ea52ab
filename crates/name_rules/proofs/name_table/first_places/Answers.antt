use Rattle.std.proofs.Common.{rules}
use Rattle.name_rules.proofs.Places.{next_kept}
use Rattle.name_rules.proofs.name_table.first_places.Goals as goal

pub loop-name-preserved : goal.loop-name-preserved
loop-name-preserved c = record {
  tells = next_kept c.args.names.now c.loop-name.name-index c.loop-name.place c.name-item.result c.loop-name.places.entries c.keep_first.new.places.entries
      c.loop-name-test.true c.name-item.is c.loop-name.invariant.place c.loop-name.invariant.tells c.in_ok-keep_first.ensures;
  place = search rules;
  few = search rules;
}
