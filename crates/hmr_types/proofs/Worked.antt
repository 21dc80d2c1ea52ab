-- Worked examples: what the definitions of names and of specifiers say of texts written out.
use Rattle.std.proofs.Common.{ℕ, List, ◌++◌, true, false, ◌≡◌, refl, Result, Ok, Err}
use Rattle.std.specs.Prelude.{codes, replicate}
use Rattle.hmr_types.specs.declared.specifier.SpecFault.{SpecFault}
use Rattle.hmr_types.specs.declared.specifier.SpecFault.TheVariants.{Bare, Climbs, Empty, TooLong, BadSegment}
use Rattle.hmr_types.specs.ModName.{is_name, is_segment_byte}
use Rattle.hmr_types.specs.Specifier.{resolve}

abbrev from_b : List ℕ → Result (List ℕ) SpecFault
from_b = resolve (codes "/a/b.js")

file_in_folder_is_name : is_name (codes "/a/b-1_2.js") ≡ true
unfolding is_segment_byte
file_in_folder_is_name = refl

slash_alone_is_no_name : is_name (codes "/") ≡ false
unfolding is_segment_byte
slash_alone_is_no_name = refl

beside : from_b (codes "./c.js") ≡ Ok (codes "/a/c.js")
unfolding is_segment_byte
beside = refl

above : from_b (codes "../c.js") ≡ Ok (codes "/c.js")
unfolding is_segment_byte
above = refl

from_the_root : from_b (codes "/x/./y.js") ≡ Ok (codes "/x/y.js")
unfolding is_segment_byte
from_the_root = refl

above_the_root : from_b (codes "../../c.js") ≡ Err Climbs
unfolding is_segment_byte
above_the_root = refl

bare : from_b (codes "react") ≡ Err Bare
bare = refl

dots_alone : from_b (codes "..") ≡ Err Bare
dots_alone = refl

nothing : from_b (codes "") ≡ Err Empty
nothing = refl

query : from_b (codes "./c.js?v=1") ≡ Err BadSegment
unfolding is_segment_byte
query = refl

trailing_slash : from_b (codes "./c/") ≡ Err BadSegment
unfolding is_segment_byte
trailing_slash = refl

root_alone : from_b (codes "/") ≡ Err BadSegment
unfolding is_segment_byte
root_alone = refl

folder : from_b (codes "./.") ≡ Ok (codes "/a")
unfolding is_segment_byte
folder = refl

no_segment_left : from_b (codes "../.") ≡ Err Empty
unfolding is_segment_byte
no_segment_left = refl

longest : is_name (codes "/" ++ replicate 254 97) ≡ true
unfolding is_segment_byte
longest = refl

too_long : is_name (codes "/" ++ replicate 255 97) ≡ false
unfolding is_segment_byte
too_long = refl

leads_too_far : from_b (codes "./" ++ replicate 253 97) ≡ Err TooLong
unfolding is_segment_byte
leads_too_far = refl

leads_far : from_b (codes "./" ++ replicate 252 97) ≡ Ok (codes "/a/" ++ replicate 252 97)
unfolding is_segment_byte
leads_far = refl
