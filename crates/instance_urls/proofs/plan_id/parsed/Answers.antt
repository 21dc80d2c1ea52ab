use Rattle.std.proofs.Common.{◌≡◌, decimal, arith, sym, ap, ◌∙◌}
use Rattle.std.proofs.lemmas.Fmt.{parse-decimal}
use Rattle.instance_urls.proofs.plan_id.parsed.Goals as goal
use Rattle.instance_urls.proofs.plan_id.parsed.Goals.{else-number-le-LARGEST_NUMBER-via-then-number-le-LARGEST_NUMBER+else-is_decimal, else-number-le-LARGEST_NUMBER-via-else-number-le-LARGEST_NUMBER}

pub returns-then-is_decimal-clause-each : goal.returns-then-is_decimal-clause-each
returns-then-is_decimal-clause-each c = λ n most is.
    let read = parse-decimal 64 n c.args.text.now c.parse.result (omega arith) (omega arith) is c.parse.ensures.value.0 in
    cc

pub returns-else-number-le-LARGEST_NUMBER-clause-each : goal.returns-else-number-le-LARGEST_NUMBER-clause-each
returns-else-number-le-LARGEST_NUMBER-clause-each c = λ n most is.
    let read = parse-decimal 64 n c.args.text.now c.parse.result (omega arith) (omega arith) is c.parse.ensures.value.0 in
    let same : c.in-Ok.number ≡ n = cc in
    elim c.else-number-le-LARGEST_NUMBER.branch [
      | else-number-le-LARGEST_NUMBER-via-then-number-le-LARGEST_NUMBER+else-is_decimal w ↦ (let told = w.is_decimal.ensures.no (is ∙ ap decimal (sym same)) in cc)
      | else-number-le-LARGEST_NUMBER-via-else-number-le-LARGEST_NUMBER w ↦ absurd (omega arith)
    ]

pub returns-in-Err-clause-each : goal.returns-in-Err-clause-each
returns-in-Err-clause-each c = λ n most is.
    let read = parse-decimal 64 n c.args.text.now c.parse.result (omega arith) (omega arith) is c.parse.ensures.value.0 in
    cc
