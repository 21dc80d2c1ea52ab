use Rattle.std.proofs.Common.{◌≡◌, true, nat_cmp, sym, ◌∙◌, rules}
use Rattle.std.specs.Ordering.{is_lt}
use Rattle.std.specs.Cmp.Lexicographic.{slice_cmp}
use Rattle.message_json.proofs.Loops.{last_name_rises, rises_step}
use Rattle.message_json.proofs.list.names_rise.Goals as goal

pub loop-i-preserved : goal.loop-i-preserved
loop-i-preserved c =
    let below : is_lt (slice_cmp nat_cmp c.index-names-i.result c.index-names-i-in-loop-i.result) ≡ true = search rules in
    rises_step c.args.names.now c.loop-i.i c.index-names-i.result c.index-names-i-in-loop-i.result c.loop-i.auto.i c.loop-i-test.true c.index-names-i.is c.index-names-i-in-loop-i.is below ∙ c.loop-i.invariant

pub returns : goal.returns
returns c = sym (last_name_rises c.args.names.now c.loop-i.i c.loop-i-test.false) ∙ c.loop-i.invariant
