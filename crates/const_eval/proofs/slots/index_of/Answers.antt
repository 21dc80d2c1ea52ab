use Rattle.std.proofs.Common.{rules, ◌≡◌, ◌<◌, ◌+◌, ◌++◌, ◌-◌, suc, length, Some, arith}
use Rattle.std.specs.Prelude.{slice_get}
use Rattle.std.specs.BTreeMap.{UpdatesBy}
use Rattle.std.specs.Cmp.Lexicographic.{slice_cmp}
use Rattle.std.specs.Ordering.{nat_cmp}
use Rattle.std.proofs.lemmas.List.{length-append}
use Rattle.const_eval.proofs.Lookups.{tells_none, tells_before}
use Rattle.const_eval.proofs.slots.index_of.Goals as goal

pub loop-place-init : goal.loop-place-init
loop-place-init c =
    let all : length (c.args.first.now ++ c.args.second.now) ≡ length c.args.first.now + length c.args.second.now = length-append c.args.first.now c.args.second.now in
    record {
      tells = tells_none (c.args.first.now ++ c.args.second.now) c.new-places.result (length c.args.first.now + length c.args.second.now) (omega (arith, all)) c.new-places.ensures.empty;
      below = omega (arith, all);
    }

pub loop-place-preserved : goal.loop-place-preserved
loop-place-preserved c =
    let next : c.loop-place.place ≡ suc (c.loop-place.place - 1) = search rules in
    let lt : c.loop-place.place - 1 < length (c.args.first.now ++ c.args.second.now) = search rules in
    let got : slice_get (c.args.first.now ++ c.args.second.now) (c.loop-place.place - 1) ≡ Some c.entry_in.result.now = search rules in
    let updates : UpdatesBy (slice_cmp nat_cmp) (slice_cmp nat_cmp c.entry_in.result.now.0) c.loop-place.places c.insert.new.self (Some (c.loop-place.place - 1)) = search rules in
    record {
      tells = tells_before (c.args.first.now ++ c.args.second.now) (c.loop-place.place - 1) c.loop-place.place c.entry_in.result.now c.loop-place.places c.insert.new.self next lt got c.loop-place.invariant.tells updates;
      below = search rules;
    }
