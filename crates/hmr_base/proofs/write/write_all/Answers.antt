use Rattle.std.proofs.Common.{arith, take, drop, ◌∙◌}
use Rattle.std.proofs.KnownBytes.{Appends-trans, Appends-kept}
use Rattle.std.proofs.Math.Seq.{take-add}
use Rattle.std.proofs.lemmas.List.{take_rest, take-append-drop}
use Rattle.hmr_base.proofs.write.write_all.Goals as goal

pub loop-at-preserved : goal.loop-at-preserved
loop-at-preserved g c =
    let h = c.in-Ok.ensures in
    let w = Appends-trans _ _ _ _ _ c.loop-at.invariant.out h.bytes in
    record {
      out = rw (take-add c.loop-at.at c.in-Ok.count c.args.text.now, ← take_rest c.args.text.now c.loop-at.at) w;
      within = omega (arith, h.bound);
      same = h.cause.same ∙ c.loop-at.invariant.same;
    }

pub returns-in-Err-clause-front : goal.returns-in-Err-clause-front
returns-in-Err-clause-front g c =
    let text = c.args.text.now in
    let at = c.loop-at.at in
    record {
      front = take at text;
      rest = drop at text;
      whole = take-append-drop at text;
      out = Appends-kept _ _ _ _ c.loop-at.invariant.out c.in-Err.ensures.bytes;
    }
