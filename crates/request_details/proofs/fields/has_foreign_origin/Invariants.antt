use Rattle.std.proofs.Common.{◌≡◌, map, drop}
use Rattle.httparse.specs.Spans.{header_bytes}
use Rattle.request_guard.specs.Admissions.{has_foreign_origin}
use Rattle.request_details.proofs.fields.has_foreign_origin.Given as goal

abbrev pub invariant-loop-field : goal.invariant-loop-field
invariant-loop-field l = has_foreign_origin l.port (map (header_bytes l.bytes) l.fields)
    ≡ has_foreign_origin l.port (map (header_bytes l.bytes) (drop l.field-index l.fields))
