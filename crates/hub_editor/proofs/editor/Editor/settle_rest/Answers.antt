use Rattle.std.proofs.Common.{arith, ◌≡◌, ◌<◌, ◌+◌, ◌-◌, length, drop, subst}
use Rattle.std.specs.Prelude.{All}
use Rattle.std.proofs.Math.ListN.{set}
use Rattle.std.proofs.lemmas.List.{length-set}
use Rattle.hmr_hub.specs.Passes.{seen_of}
use Rattle.hub_editor.proofs.Calls.{knower_then, knows_same}
use Rattle.hub_editor.proofs.Ending.{HasLast, rest_all, rest_step}
use Rattle.hub_editor.proofs.Steps.{edited_step, same_step, same_then}
use Rattle.hub_editor.proofs.editor.Editor.settle_rest.Goals as goal

pub loop-left-preserved : goal.loop-left-preserved
loop-left-preserved g c =
    let i = c.loop-left.invariant in
    let first = c.args.self.now.works.items in
    let made = c.loop-left.self.works.items in
    let at = c.loop-left.left - 1 in
    let m = c.index_mut.result.now in
    let n = c.settle_outstanding.new.self in
    let q = c.loop-left.pass in
    let r = c.settle_outstanding.new.pass in
    let below : at < length made = omega (arith, i.below, c.loop-left-test.true) in
    let next : c.loop-left.left ≡ at + 1 = omega (arith, c.loop-left-test.true) in
    let step = c.settle_outstanding.ensures.steps in
    record {
      of = c.settle_outstanding.ensures.of;
      same = knower_then c.args.pass.now q r i.same c.settle_outstanding.ensures.same;
      knows = knows_same q r c.settle_outstanding.ensures.same i.knows;
      transcript = λ h. c.settle_outstanding.ensures.transcript (i.transcript h);
      edited = λ p x. edited_step made at m n below c.index_mut.ensures.value p q r (i.edited p x) step;
      edits = same_then first made (set made at n) i.edits (same_step made at m n below c.index_mut.ensures.value q r step);
      below = omega (arith, length-set made at n, below);
      rest = λ p x.
          rest_step p q r first made at m n below c.index_mut.ensures.value i.edits (i.edited p x) step c.in_ok-settle_outstanding.ensures.resulted
          (subst (λ k. All (HasLast (seen_of q) first) (drop k made)) next (i.rest p x));
    }

pub returns-in_err-settle_outstanding-clause-edited : goal.returns-in_err-settle_outstanding-clause-edited
returns-in_err-settle_outstanding-clause-edited g c = λ p x.
    let made = c.loop-left.self.works.items in
    let at = c.loop-left.left - 1 in
    let below : at < length made = omega (arith, c.loop-left.invariant.below, c.loop-left-test.true) in
    edited_step made at c.index_mut.result.now c.settle_outstanding.new.self below c.index_mut.ensures.value p c.loop-left.pass c.settle_outstanding.new.pass (c.loop-left.invariant.edited p x)
    c.settle_outstanding.ensures.steps

pub returns-in_err-settle_outstanding-clause-edits : goal.returns-in_err-settle_outstanding-clause-edits
returns-in_err-settle_outstanding-clause-edits g c =
    let made = c.loop-left.self.works.items in
    let at = c.loop-left.left - 1 in
    let below : at < length made = omega (arith, c.loop-left.invariant.below, c.loop-left-test.true) in
    same_then c.args.self.now.works.items made (set made at c.settle_outstanding.new.self) c.loop-left.invariant.edits
    (same_step made at c.index_mut.result.now c.settle_outstanding.new.self below c.index_mut.ensures.value c.loop-left.pass c.settle_outstanding.new.pass c.settle_outstanding.ensures.steps)

pub returns-clause-results : goal.returns-clause-results
returns-clause-results g c = λ p x.
    let i = c.loop-left.invariant in
    let first = c.args.self.now.works.items in
    let made = c.loop-left.self.works.items in
    let zero : c.loop-left.left ≡ 0 = omega (arith, c.loop-left-test.false) in
    rest_all p c.loop-left.pass first made i.edits (i.edited p x) (subst (λ k. All (HasLast (seen_of c.loop-left.pass) first) (drop k made)) zero (i.rest p x))
