use Rattle.live_folder.specs.Pages.{ShownAs}
use Rattle.live_folder.proofs.Upto.{Upto}
use Rattle.live_folder.proofs.made_page.make_removed.Given as goal

-- the changes before are shown, and the others are as they were
abbrev pub invariant-loop-change : goal.invariant-loop-change
invariant-loop-change l = Upto (ShownAs l.page l.text) l.change-index l.initial.changes l.changes
