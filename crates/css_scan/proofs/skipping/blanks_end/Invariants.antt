use Rattle.css_scan.specs.Styles.{IsOpened}
use Rattle.css_scan.proofs.skipping.blanks_end.Given as goal

abbrev pub invariant-loop-end : goal.invariant-loop-end
invariant-loop-end l = IsOpened l.text l.at → IsOpened l.text l.end
