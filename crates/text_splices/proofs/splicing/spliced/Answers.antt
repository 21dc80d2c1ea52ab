use Rattle.std.proofs.Common.{rules, arith, ◌∙◌}
use Rattle.std.proofs.lemmas.List.{take_rest}
use Rattle.text_splices.proofs.Pieces.{spliced_ends, spliced_on}
use Rattle.text_splices.proofs.splicing.spliced.Goals as goal

pub loop-splice-preserved : goal.loop-splice-preserved
loop-splice-preserved c = record {
  within = search rules;
  whole = spliced_on c.args.text.now c.args.splices.now c.loop-splice.made.items c.put_piece.new.made.items c.loop-splice.at _ c.loop-splice.splice-index c.splice-item.result
      (omega arith) c.splice-item.is c.in_ok-at.ensures.piece c.in_ok-at.ensures.behind ∙ c.loop-splice.invariant.whole;
}

pub returns : goal.returns
returns c =
    spliced_ends c.args.text.now c.args.splices.now c.loop-splice.made.items _ c.loop-splice.at c.loop-splice.splice-index (search rules) c.loop-splice.invariant.whole (rw take_rest at c.in_ok-extend_from_slice.ensures.items)
