use Rattle.std.proofs.Common.{◌≡◌, map, drop}
use Rattle.httparse.specs.Spans.{header_bytes}
use Rattle.request_guard.specs.Admissions.{is_upgrade}
use Rattle.request_guard.proofs.fields.is_upgrade.Given as goal

abbrev pub invariant-loop-field : goal.invariant-loop-field
invariant-loop-field l =
    is_upgrade (map (header_bytes l.bytes) l.fields) ≡ is_upgrade (map (header_bytes l.bytes) (drop l.field-index l.fields))
