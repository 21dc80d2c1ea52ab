use Rattle.std.proofs.Common.{◌≡◌, map, drop}
use Rattle.httparse.specs.Spans.{header_bytes}
use Rattle.http_heads.specs.Head.{is_closing}
use Rattle.request_details.proofs.fields.is_closing.Given as goal

abbrev pub invariant-loop-field : goal.invariant-loop-field
invariant-loop-field l =
    is_closing (map (header_bytes l.bytes) l.fields) ≡ is_closing (map (header_bytes l.bytes) (drop l.field-index l.fields))
