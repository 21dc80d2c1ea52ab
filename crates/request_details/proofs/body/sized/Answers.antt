use Rattle.std.proofs.Common.{◌≡◌, ◌+◌, ◌-◌, ◌*◌, sym, ap, ◌∙◌, drop, get_or}
use Rattle.std.proofs.lemmas.List.{drop_more}
use Rattle.request_details.specs.Bodies.{number}
use Rattle.request_details.proofs.Numbers.{long_at}
use Rattle.request_details.proofs.body.sized.Goals as goal

pub returns-then-count-gt-BODY_BYTES : goal.returns-then-count-gt-BODY_BYTES
returns-then-count-gt-BODY_BYTES c =
    let digits = c.args.digits.now in
    let rest = drop (c.loop-b.b-index + 1) digits in
    let step : number c.loop-b.count (drop c.loop-b.b-index digits)
    ≡ number (10 * c.loop-b.count + (get_or digits c.loop-b.b-index 0 - 48)) rest
    = ap (number c.loop-b.count) (drop_more digits c.loop-b.b-index 0 c.loop-b-test.true) in
    long_at digits rest _ c.if-count-gt-BODY_BYTES.true
    (c.loop-b.invariant.0
    ∙ (step ∙ ap (λ d. number (10 * c.loop-b.count + d) rest) (sym c.saturating_sub.ensures)))
