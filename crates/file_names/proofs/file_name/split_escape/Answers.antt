use Rattle.std.proofs.Common.{◌≡◌, ◌+◌, ◌*◌, get_or, arith, rules}
use Rattle.std.specs.Char.{digit_value}
use Rattle.std.proofs.lemmas.List.{take_rest}
use Rattle.file_names.proofs.Escapes.{KeepsFirst_from_no_escape, decoded_at_escape}
use Rattle.file_names.proofs.file_name.split_escape.Goals as goal

pub returns-in_default-clause-splits : goal.returns-in_default-clause-splits
returns-in_default-clause-splits c = KeepsFirst_from_no_escape _ (λ long is_dot is_dash high low. grind arith)

pub returns-in_err-high-clause-splits : goal.returns-in_err-high-clause-splits
returns-in_err-high-clause-splits c = rw c.from_residual.ensures (KeepsFirst_from_no_escape _ (λ long is_dot is_dash high low. search rules))

pub returns-in_err-low-clause-splits : goal.returns-in_err-low-clause-splits
returns-in_err-low-clause-splits c = rw c.from_residual-in_err-low.ensures (KeepsFirst_from_no_escape _ (λ long is_dot is_dash high low. search rules))

pub returns-clause-splits : goal.returns-clause-splits
returns-clause-splits c =
    let text = c.args.text.now in
    let value : c.in_ok-high.high * 16 + c.in_ok-low.low ≡ 16 * digit_value (get_or text 2 0) + digit_value (get_or text 3 0) = grind arith in
    rw (take_rest text 4, value) (decoded_at_escape text (omega arith) (search rules) (search rules) (search rules) (search rules))
