use Rattle.std.proofs.Common.{ℕ, refl}
use Rattle.std.proofs.lemmas.Simd.{zip2_splat}
use Rattle.byte_lanes.proofs.Lanes.{masked, equal, or}
use Rattle.byte_lanes.specs.Classes.{is_quoting, stops_string}
use Rattle.module_semantics.specs.Bytes.{is_quote, is_line_end}
use Rattle.byte_lanes.proofs.masks.string_stop_mask.Goals as goal

pub returns : goal.returns
unfolding stops_string is_quoting is_quote is_line_end
returns c =
    let v = c.args.lanes in
    let is = λ (y : ℕ). zip2_splat equal v 64 y c.fits-lanes.0 in
    masked _ stops_string v _ c.fits-lanes (or _ _ v (or _ _ v (or _ _ v (or _ _ v (is 39) (is 34)) (is 92)) (is 13)) (is 10)) refl
