use Rattle.std.proofs.Common.{◌≡◌, map, drop}
use Rattle.httparse.specs.Spans.{header_bytes}
use Rattle.http_heads.specs.Head.{has_body}
use Rattle.http_heads.proofs.fields.has_body.Given as goal

abbrev pub invariant-loop-field : goal.invariant-loop-field
invariant-loop-field l =
    has_body (map (header_bytes l.bytes) l.fields) ≡ has_body (map (header_bytes l.bytes) (drop l.field-index l.fields))
