use Rattle.play_text.proofs.Puts.{two_puts}
use Rattle.play_text.proofs.outcomes.put_eval_fault.Goals as goal

pub returns-in_ok-put-in-Uninitialised : goal.returns-in_ok-put-in-Uninitialised
returns-in_ok-put-in-Uninitialised c =
    rw (c.in-Uninitialised.is, ← c.as_str.ensures)
    (two_puts _ _ _ _ _ _ c.in_ok-put-in-Uninitialised.ensures c.put-in-Uninitialised.ensures)
