use Rattle.std.proofs.Common.{◌≡◌, ◌++◌, drop, map}
use Rattle.message_text.specs.Values.{item_tokens, row}
use Rattle.message_text.proofs.members.put_rows.Given as goal

-- what is put, and the tokens of the rows that are left, is the whole
abbrev pub invariant-loop-name : goal.invariant-loop-name
invariant-loop-name l =
    (l.out.tokens ++ item_tokens (map row (drop l.name-index l.rows)) ≡ l.initial.out.tokens ++ item_tokens (map row l.rows)) × (l.out.before ≡ l.initial.out.before)
