use Rattle.std.proofs.Common.{◌≡◌, map, drop}
use Rattle.httparse.specs.Spans.{header_bytes}
use Rattle.request_details.specs.Details.{wants_page}
use Rattle.request_details.proofs.fields.wants_page.Given as goal

abbrev pub invariant-loop-field : goal.invariant-loop-field
invariant-loop-field l =
    wants_page (map (header_bytes l.bytes) l.fields) ≡ wants_page (map (header_bytes l.bytes) (drop l.field-index l.fields))
