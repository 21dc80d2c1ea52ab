use Rattle.std.proofs.Common.{rules, ◌≡◌}
use Rattle.hmr_hub.specs.Passes.{seen_of}
use Rattle.live_server.proofs.Events.{events_few, events_small}
use Rattle.live_server.proofs.recording.put_record.Goals as goal

pub write_record-requires-clause-few : goal.write_record-requires-clause-few
write_record-requires-clause-few g c =
    let same : c.deref-2.result.now ≡ c.in_ok-events.events.items = search rules in
    events_few _ (seen_of c.events.new.pass) c.in_ok-events.events.items c.deref-2.result.now same c.in_ok-events.ensures.told c.events.ensures.transcript.legal.few

pub write_record-requires-clause-small : goal.write_record-requires-clause-small
write_record-requires-clause-small g c =
    let same : c.deref-2.result.now ≡ c.in_ok-events.events.items = search rules in
    events_small _ (seen_of c.events.new.pass) c.in_ok-events.events.items c.deref-2.result.now same c.in_ok-events.ensures.told c.events.ensures.transcript.legal.small
