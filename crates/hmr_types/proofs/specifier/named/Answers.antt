use Rattle.std.proofs.Common.{rules, map, length, ◌<◌, ◌≤◌, ap, arith}
use Rattle.std.proofs.lemmas.Bool.Decides.{nat_tests}
use Rattle.hmr_types.specs.Specifier.{spelled}
use Rattle.hmr_types.proofs.Segments.{spelled-is_name}
use Rattle.hmr_types.proofs.specifier.named.Goals as goal

pub from_name-requires : goal.from_name-requires
from_name-requires c =
    rw c.in_ok-text.ensures
    (let some : 0 < length (spelled (map (λ s. s.now) c.args.segments.now)) = grind (arith, nat_tests, c.in_ok-text.ensures) in
    let few : length (spelled (map (λ s. s.now) c.args.segments.now)) ≤ 255 = omega (arith, ap length c.in_ok-text.ensures) in
    spelled-is_name _ (search rules) some few)
