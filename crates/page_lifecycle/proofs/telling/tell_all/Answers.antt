use Rattle.std.proofs.Common.{◌∙◌}
use Rattle.page_ends.proofs.Foretold.{next_told, none_told}
use Rattle.page_lifecycle.proofs.telling.tell_all.Goals as goal

pub loop-row-preserved : goal.loop-row-preserved
loop-row-preserved g c =
    let l = c.loop-row in
    record {
      long = c.in_ok-tell.ensures.count ∙ l.invariant.long;
      words = c.in_ok-tell.ensures.words;
      begins = λ z more f. l.invariant.begins z more
          (next_told c.args.rows.now l.row-index c.row-item.result l.page c.tell.new.page z l.lines.items c.tell.new.lines.items more c.loop-row-test.true c.row-item.is c.in_ok-tell.ensures.follows f);
    }

pub returns-clause-follows : goal.returns-clause-follows
returns-clause-follows g c =
    let l = c.loop-row in
    l.invariant.begins l.page l.lines.items (none_told c.args.rows.now l.row-index l.page l.lines.items c.loop-row-test.false)
