use Rattle.std.proofs.Common.{◌≡◌, map, drop}
use Rattle.httparse.specs.Spans.{header_bytes}
use Rattle.request_details.specs.Bodies.{body_of}
use Rattle.request_details.specs.declared.body.Body.TheVariants as body
use Rattle.request_details.proofs.body.body_of.Given as goal

abbrev pub invariant-loop-field : goal.invariant-loop-field
invariant-loop-field l = body_of body.Untold (map (header_bytes l.bytes) l.fields)
    ≡ body_of l.body (map (header_bytes l.bytes) (drop l.field-index l.fields))
