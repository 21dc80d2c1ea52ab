use Rattle.html_scan.specs.Pages.{IsOpened}
use Rattle.html_scan.proofs.attributes.spaces_end.Given as goal

abbrev pub invariant-loop-end : goal.invariant-loop-end
invariant-loop-end l = IsOpened l.text l.at → IsOpened l.text l.end
