use Rattle.std.proofs.Common.{[], ◌∙◌}
use Rattle.hmr_hub.proofs.Moves.{knows_moved, moved_looked, moved_no_more}
use Rattle.serve_reports.proofs.Joins.{all_calls, all_look}
use Rattle.serve_reports.proofs.winding.report_of_all.Goals as goal

pub returns-clause-own : goal.returns-clause-own
returns-clause-own g c own =
    let m = c.join_all.ensures.own own in
    moved_no_more c.args.pass.now c.join_all.new.pass c.report.new.pass [] m
    (moved_looked c.join_all.new.pass c.report.new.pass c.report.ensures.same c.report.ensures.looked (knows_moved c.args.pass.now c.join_all.new.pass [] m own))

pub returns-clause-within : goal.returns-clause-within
returns-clause-within g c =
    all_look c.args.passes.items c.join_all.new.pass c.report.new.pass c.report.ensures.same c.report.ensures.looked c.join_all.ensures.within

pub returns-clause-calls : goal.returns-clause-calls
returns-clause-calls g c =
    all_calls c.args.passes.items c.report.new.pass
    (all_look c.args.passes.items c.join_all.new.pass c.report.new.pass c.report.ensures.same c.report.ensures.looked c.join_all.ensures.within)

pub returns-clause-given : goal.returns-clause-given
returns-clause-given g c = λ h. c.report.ensures.same.given ∙ c.join_all.ensures.given h
