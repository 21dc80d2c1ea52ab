use Rattle.std.proofs.Common.{◌≡◌, suc, length, ap, sym, ◌∙◌, arith}
use Rattle.std.specs.Vec.Iter.{into_iter_items, into_iter_len}
use Rattle.page_births.proofs.EachBirth.{next_begins, all_begun}
use Rattle.page_births.proofs.all_births.make_all.Goals as goal

pub loop-birth-preserved : goal.loop-birth-preserved
loop-birth-preserved g c =
    let l = c.loop-birth in
    let shorter : length (into_iter_items l.rest) ≡ suc (length (into_iter_items c.next.new.self)) = ap length c.in-Some.ensures.items in
    let fewer : suc (into_iter_len c.next.new.self) ≡ into_iter_len l.rest = omega (arith, c.in-Some.ensures.len) in
    let longer : length c.make.new.page.instances.items ≡ suc (length l.page.instances.items) = c.in_ok-make.ensures.count in
    record {
      left = omega (arith, fewer, shorter, l.invariant.left);
      count = omega (arith, shorter, longer, l.invariant.count);
      words = c.in_ok-make.ensures.words;
      begins = next_begins c.args.births.items (into_iter_items l.rest) (into_iter_items c.next.new.self) c.in-Some.birth c.args.page.now l.page c.make.new.page c.args.lines.now.items l.lines.items c.make.new.lines.items
          c.in-Some.ensures.items longer c.in_ok-make.ensures.live c.in_ok-make.ensures.follows l.invariant.begins;
    }

pub returns-clause-follows : goal.returns-clause-follows
returns-clause-follows g c =
    let l = c.loop-birth in
    all_begun c.args.births.items (into_iter_items l.rest) c.args.page.now l.page c.args.lines.now.items l.lines.items (sym l.invariant.left ∙ c.in_default.ensures.cases.0) l.invariant.begins
