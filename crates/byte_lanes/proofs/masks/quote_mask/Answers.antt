use Rattle.std.proofs.Common.{ℕ, refl}
use Rattle.std.proofs.lemmas.Simd.{zip2_splat}
use Rattle.byte_lanes.proofs.Lanes.{masked, equal, or}
use Rattle.byte_lanes.specs.Classes.{is_quoting}
use Rattle.module_semantics.specs.Bytes.{is_quote}
use Rattle.byte_lanes.proofs.masks.quote_mask.Goals as goal

pub returns : goal.returns
unfolding is_quoting is_quote
returns c =
    let v = c.args.lanes in
    let is = λ (y : ℕ). zip2_splat equal v 64 y c.fits-lanes.0 in
    masked _ is_quoting v _ c.fits-lanes (or _ _ v (or _ _ v (is 39) (is 34)) (is 92)) refl
