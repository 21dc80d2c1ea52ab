use Rattle.std.proofs.Common.{◌≡◌, ◌+◌, ◌-◌, ℕ, suc, arith, subst, sym, ◌∙◌}
use Rattle.packed_table.specs.Packing.{AreRows}
use Rattle.packed_table.proofs.Packing.{first_is, others_are, unpacked_on}
use Rattle.packed_table.proofs.row.unpack_rows.Goals as goal

pub first_row-requires : goal.first_row-requires
first_row-requires c =
    let left : c.args.count - c.loop.counter ≡ suc (c.args.count - (c.loop.counter + 1)) = omega (arith, c.loop-test.true) in
    first_is (c.args.count - c.loop.counter) (c.args.count - (c.loop.counter + 1)) c.loop.rest.now left c.loop.invariant.whole

pub loop-preserved : goal.loop-preserved
loop-preserved c =
    let n : ℕ = c.args.count - c.loop.counter in
    let m : ℕ = c.args.count - (c.loop.counter + 1) in
    let left : n ≡ suc m = omega (arith, c.loop-test.true) in
    record {
      all =
          unpacked_on n m c.loop.rest.now c.other_rows-rest.result.now _ c.loop.rows.items c.push.new.self.items left c.in_ok-push.ensures.items c.in_ok-first_row.ensures c.other_rows-rest.ensures
          ∙ c.loop.invariant.all;
      whole = subst (λ bytes. AreRows m bytes) (sym c.other_rows-rest.ensures) (others_are n m c.loop.rest.now left c.loop.invariant.whole);
    }
