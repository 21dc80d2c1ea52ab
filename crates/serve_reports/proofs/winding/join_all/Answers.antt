use Rattle.std.proofs.Common.{arith, ◌≡◌, ◌++◌, ◌∷◌, [], ◌∙◌}
use Rattle.std.proofs.lemmas.Grind.{common_steps}
use Rattle.std.proofs.lemmas.Bool.{or_left}
use Rattle.hmr_hub.specs.Passes.{all_given}
use Rattle.hmr_hub.proofs.Moves.{knows_moved, moved_joined, moved_no_more}
use Rattle.serve_reports.proofs.Joins.{all_calls, all_joined, joined_more}
use Rattle.serve_reports.proofs.winding.join_all.Goals as goal

pub loop-other-preserved : goal.loop-other-preserved
loop-other-preserved c =
    let i = c.loop-other.invariant in
    let e : c.loop-other.passes.items ≡ c.pop.new.self.items ++ c.in-Some.other ∷ [] = grind (arith, common_steps) in
    let j = c.join.ensures.joined in
    record {
      of = c.join.ensures.pass;
      roots = j.roots ∙ i.roots;
      given = λ h. j.given ∙ or_left (all_given c.loop-other.pass) (all_given c.in-Some.other) (i.given h);
      own = λ own.
          moved_no_more c.args.pass.now c.loop-other.pass c.join.new.into [] (i.own own)
          (moved_joined c.loop-other.pass c.in-Some.other c.join.new.into j (knows_moved c.args.pass.now c.loop-other.pass [] (i.own own) own));
      left = grind (arith, common_steps, i.left);
      joined = joined_more c.args.passes.items c.loop-other.passes.items c.pop.new.self.items i.joined.0 c.loop-other.pass
          c.join.new.into c.in-Some.other e i.joined.1 j i.joined.2;
    }

pub returns-clause-calls : goal.returns-clause-calls
returns-clause-calls c =
    all_calls c.args.passes.items c.loop-other.pass
    (all_joined c.args.passes.items c.loop-other.passes.items c.loop-other.pass (grind (arith, common_steps)) c.loop-other.invariant.joined)
