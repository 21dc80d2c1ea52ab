-- After the loop eight rounds are pushed.
use Rattle.std.proofs.Common.{◌≡◌, arith}
use Rattle.made_scripts.proofs.made_script.push_rounds.Goals as goal

pub returns : goal.returns
returns c =
    let done : c.loop-earlier.earlier ≡ 8 = omega arith in
    cc
