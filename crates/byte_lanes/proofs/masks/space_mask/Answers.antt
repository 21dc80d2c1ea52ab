use Rattle.std.proofs.Common.{ℕ, refl}
use Rattle.std.proofs.lemmas.Simd.{zip2_splat}
use Rattle.byte_lanes.proofs.Lanes.{masked, equal, or}
use Rattle.module_semantics.specs.Bytes.{is_blank}
use Rattle.byte_lanes.proofs.masks.space_mask.Goals as goal

pub returns : goal.returns
unfolding is_blank
returns c =
    let v = c.args.lanes in
    let is = λ (y : ℕ). zip2_splat equal v 64 y c.fits-lanes.0 in
    masked _ is_blank v _ c.fits-lanes (or _ _ v (or _ _ v (or _ _ v (is 32) (is 9)) (is 13)) (is 10)) refl
