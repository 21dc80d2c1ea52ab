use Rattle.std.proofs.Common.{◌≡◌, ◌≤◌, ◌++◌, length, drop}
use Rattle.text_splices.specs.Splices.{splice_of, spliced_from}
use Rattle.text_splices.proofs.splicing.spliced.Given as goal

-- what is made, and what is left of the text and the splices, is the whole
abbrev pub invariant-loop-splice : goal.invariant-loop-splice
invariant-loop-splice l = record {
  within : l.at ≤ length l.text;
  whole : l.made.items ++ spliced_from l.text l.at (drop l.splice-index l.splices) ≡ splice_of l.text l.splices;
}
