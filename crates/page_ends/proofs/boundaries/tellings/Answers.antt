use Rattle.std.proofs.Common.{◌∷◌, [], length, sym}
use Rattle.std.specs.List.{All}
use Rattle.std.proofs.Math.Path.{subst}
use Rattle.std.proofs.lemmas.List.Elements.{All-nil, All-cons, All-append}
use Rattle.page_ends.specs.Tellings.{is_within}
use Rattle.page_ends.proofs.Foretold.{all_rows, next_row, told_each}
use Rattle.page_ends.proofs.boundaries.tellings.Goals as goal

pub loop-pair-preserved : goal.loop-pair-preserved
loop-pair-preserved g c =
    let l = c.loop-pair in
    let count = length c.args.page.now.instances.items in
    record {
      within = subst (All (λ t. is_within t.telling count)) (sym c.in_ok-push.ensures.items) (All-append (λ t. is_within t.telling count) l.rows.items (c.in_ok-row.row ∷ []) l.invariant.within
          (All-cons (λ t. is_within t.telling count) c.in_ok-row.row [] c.in_ok-row.ensures.within (All-nil (λ t. is_within t.telling count))));
      told = λ p r s known. next_row p r l.rows.items c.push.new.self.items c.in_ok-row.row c.args.pairs.now l.pair-index c.pair-item.result c.loop-pair-test.true c.pair-item.is c.in_ok-push.ensures.items
          (c.in_ok-row.ensures.told p r s known) (l.invariant.told p r s known);
    }

pub returns-clause-told : goal.returns-clause-told
returns-clause-told g c = λ p r s known now.
    let l = c.loop-pair in
    told_each p r l.rows.items c.args.pairs.now (all_rows p r l.rows.items c.args.pairs.now l.pair-index c.loop-pair-test.false (l.invariant.told p r s known)) now
