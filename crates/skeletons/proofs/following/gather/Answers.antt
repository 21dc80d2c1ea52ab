use Rattle.std.proofs.Common.{◌<◌, length, None, arith, sym, ◌∙◌}
use Rattle.es_scan.specs.declared.outline.ModuleSpecifier.{ModuleSpecifier}
use Rattle.es_scan.specs.declared.outline.Phase.TheVariants.{Evaluation}
use Rattle.es_scan.specs.declared.outline.Purpose.TheVariants.{Import}
use Rattle.skeletons.proofs.Gathering.{gather_ends, gather_on}
use Rattle.skeletons.proofs.following.gather.Goals as goal

-- what a read of a list gives where there is nothing
abbrev none_there : ModuleSpecifier
none_there = record {
  purpose = Import;
  phase = Evaluation;
  statement = 0;
  literal = record { start = 0; end = 0 };
  type_attribute = None;
  names = record { from = 0; to = 0 };
}

pub loop-specifier-preserved : goal.loop-specifier-preserved
loop-specifier-preserved c =
    let ss = c.args.specifiers.now in
    let n = c.loop-specifier.specifier-index in
    let inside : n < length ss = omega (arith, c.loop-specifier-test.true) in
    gather_on c.args.relation c.args.name.now c.args.text.now ss n none_there c.loop-specifier.names.items c.add_found.new.names.items c.in_ok-found.found inside c.in_ok-found.ensures c.in_ok-add_found.ensures
    ∙ c.loop-specifier.invariant

pub returns : goal.returns
returns c =
    sym (gather_ends c.args.relation c.args.name.now c.args.text.now c.args.specifiers.now c.loop-specifier.specifier-index c.loop-specifier.names.items (omega arith))
    ∙ c.loop-specifier.invariant
