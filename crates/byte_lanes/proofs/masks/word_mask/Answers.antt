use Rattle.std.proofs.Common.{ℕ, refl, ◌+◌, ◌-◌, ◌%◌}
use Rattle.std.proofs.lemmas.Simd.{zip2_splat, zip2_of_maps, splat_is_map}
use Rattle.byte_lanes.proofs.Lanes.{masked, equal, or, less}
use Rattle.module_semantics.specs.Bytes.{is_name_byte, is_name_start, is_digit}
use lib.Bits.{bit_or}
use Rattle.byte_lanes.proofs.masks.word_mask.Goals as goal

pub returns : goal.returns
unfolding is_name_byte is_name_start is_digit
returns c =
    let v = c.args.lanes in
    let long = c.fits-lanes.0 in
    let is = λ (y : ℕ). zip2_splat equal v 64 y long in
    let splat = λ (y : ℕ). splat_is_map v 64 y long in
    let small = zip2_splat bit_or v 64 32 long in
    let letter = zip2_of_maps less _ _ v (zip2_of_maps (λ a b. (a + (256 - b)) % 256) _ _ v small (splat 97)) (splat 26) in
    let digit = zip2_of_maps less _ _ v (zip2_splat (λ a b. (a + (256 - b)) % 256) v 64 48 long) (splat 10) in
    masked _ is_name_byte v _ c.fits-lanes (or _ _ v (or _ _ v letter digit) (or _ _ v (is 95) (is 36))) refl
