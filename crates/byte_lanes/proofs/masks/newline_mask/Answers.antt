use Rattle.std.proofs.Common.{ℕ, refl}
use Rattle.std.proofs.lemmas.Simd.{zip2_splat}
use Rattle.byte_lanes.proofs.Lanes.{masked, equal}
use Rattle.byte_lanes.specs.Classes.{is_newline}
use Rattle.byte_lanes.proofs.masks.newline_mask.Goals as goal

pub returns : goal.returns
unfolding is_newline
returns c =
    let v = c.args.lanes in
    let is = λ (y : ℕ). zip2_splat equal v 64 y c.fits-lanes.0 in
    masked _ is_newline v _ c.fits-lanes (is 10) refl
