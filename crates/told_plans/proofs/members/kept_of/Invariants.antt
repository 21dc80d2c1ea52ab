use Rattle.std.proofs.Common.{◌≡◌, []}
use Rattle.serde_json.specs.View.{members_view}
use Rattle.told_plans.specs.Reading.{kept_in, put_members}
use Rattle.told_plans.proofs.members.kept_of.Given as goal

-- what is put, and the members that are left, are all
abbrev pub invariant-loop-key : goal.invariant-loop-key
invariant-loop-key l = put_members kept_in l.kept.entries (members_view l.key-iterator) ≡ put_members kept_in [] (members_view l.members.entries)
