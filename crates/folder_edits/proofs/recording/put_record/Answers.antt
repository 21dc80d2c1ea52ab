use Rattle.std.proofs.Common.{rules, ◌≡◌, ◌++◌, length, map, ap, sym, ◌∙◌, codes}
use Rattle.std.specs.Prelude.{OnOk}
use Rattle.std.specs.Prelude.{take}
use Rattle.core_model.specs.Transcript.{events_of}
use Rattle.events_and_replies.specs.Said.{event_of}
use Rattle.hmr_hub.specs.Passes.{roots_of, seen_of}
use Rattle.record_text.specs.Texts.{record_text}
use Rattle.record_laws.specs.Written.{record_told}
use Rattle.folder_edits.proofs.Events.{confirmed_of, events_small, first_events, put_behind}
use Rattle.folder_edits.proofs.recording.put_record.Goals as goal

pub write_record-requires-clause-small : goal.write_record-requires-clause-small
write_record-requires-clause-small g c =
    let seen = seen_of c.args.pass.now in
    let past = c.events.ensures.looked.past in
    let cut : c.deref-2.result.now ≡ take (length seen) c.in_ok-events.events.items = search rules in
    let told = ap (map event_of) cut
    ∙ first_events event_of c.in_ok-events.events.items seen past.rest (seen_of c.events.new.pass) c.in_ok-events.ensures.told past.whole in
    events_small seen (map event_of c.deref-2.result.now) told c.requires.transcript.legal.small

pub returns-clause-text : goal.returns-clause-text
returns-clause-text g c =
    let seen = seen_of c.args.pass.now in
    let past = c.events.ensures.looked.past in
    let cut : c.deref-2.result.now ≡ take (length seen) c.in_ok-events.events.items = search rules in
    let told = ap (map event_of) cut
    ∙ first_events event_of c.in_ok-events.events.items seen past.rest (seen_of c.events.new.pass) c.in_ok-events.ensures.told past.whole in
    let of : c.in_ok-record.record.items ≡ record_text (record_told c.args.roots.now (map event_of c.deref-2.result.now)) = search rules in
    let whole = of
    ∙ (ap (λ events. record_text (record_told c.args.roots.now events)) told
    ∙ ap (λ roots. record_text (record_told roots (events_of seen))) (sym c.requires.roots)) in
    let head : c.extend_from_slice.new.self.items ≡ c.args.text.now.items ++ codes "record\n" = search rules in
    let wrote : OnOk c.extend_from_slice-2.result
    (c.extend_from_slice-2.new.self.items ≡ c.extend_from_slice.new.self.items ++ c.in_ok-record.record.items) = search rules in
    put_behind c.extend_from_slice-2.result c.args.text.now.items c.extend_from_slice.new.self.items c.extend_from_slice-2.new.self.items
    (codes "record\n") c.in_ok-record.record.items (record_text (record_told (roots_of c.args.pass.now) (events_of seen))) head wrote whole

pub returns-clause-confirmed : goal.returns-clause-confirmed
returns-clause-confirmed g c =
    let seen = seen_of c.args.pass.now in
    let past = c.events.ensures.looked.past in
    let cut : c.deref.result.now ≡ take (length seen) c.in_ok-events.events.items = search rules in
    let told = ap (map event_of) cut
    ∙ first_events event_of c.in_ok-events.events.items seen past.rest (seen_of c.events.new.pass) c.in_ok-events.ensures.told past.whole in
    confirmed_of c.extend_from_slice-2.result c.args.roots.now c.args.pass.now c.requires.transcript c.requires.roots
    (λ legal. c.records_are_confirmed.ensures.transcript seen legal told)
