use Rattle.std.proofs.Common.{◌≡◌, vec_len}
use Rattle.page_plan.specs.Renewals.{AreAlike, put_all}
use Rattle.page_plan.proofs.renewal.put_in_place.Given as goal

-- what is left makes of the view what all make
abbrev pub invariant-loop-row : goal.invariant-loop-row
invariant-loop-row l = (put_all l.rows.items l.view ≡ put_all l.fn.rows.items l.fn.view) × AreAlike l.view l.rows.items

abbrev pub decreases-loop-row : goal.decreases-loop-row
decreases-loop-row l = vec_len l.rows
