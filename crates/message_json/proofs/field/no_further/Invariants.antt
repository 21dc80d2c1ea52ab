use Rattle.std.proofs.Common.{◌≡◌, map}
use Rattle.serde_json.specs.View.{members_view}
use Rattle.json_readings.specs.Object.{further_member, one_of}
use Rattle.message_json.proofs.field.no_further.Given as goal

abbrev pub invariant-loop-key : goal.invariant-loop-key
invariant-loop-key l =
    further_member (one_of (map (λ k. k.now) l.known)) (members_view l.key-iterator) ≡ further_member (one_of (map (λ k. k.now) l.known)) (members_view l.members.entries)
