use Rattle.std.proofs.Common.{◌≡◌, ◌++◌, drop, map}
use Rattle.serde_json.specs.Data.{string}
use Rattle.message_text.specs.Values.{item_tokens}
use Rattle.message_text.proofs.members.put_names.Given as goal

-- what is put, and the tokens of the names that are left, is the whole
abbrev pub invariant-loop-name : goal.invariant-loop-name
invariant-loop-name l =
    (l.out.tokens ++ item_tokens (map string (drop l.name-index l.names)) ≡ l.initial.out.tokens ++ item_tokens (map string l.names)) × (l.out.before ≡ l.initial.out.before)
