use Rattle.std.proofs.Common.{◌≡◌, drop}
use Rattle.html_scan.specs.CommentEnds.{comment_end, end_from}
use Rattle.html_scan.proofs.comments.comment_end.Given as goal

abbrev pub invariant-loop-at : goal.invariant-loop-at
invariant-loop-at l = end_from l.at l.reading (drop l.at l.text) ≡ comment_end l.text l.from
