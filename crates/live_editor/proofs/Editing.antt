-- An edit has room in a message.
use Rattle.std.proofs.Common.{◌≡◌, ◌≤◌, ℕ, List, [], ◌∷◌, length, refl, arith, true}
use Rattle.std.specs.Prelude.{◌==◌, ◌&&◌, nat_le, Option, Some, None}
use Rattle.std.specs.List.{list_all}
use Rattle.std.proofs.lemmas.Bool.{and_parts, leb-true}
use Rattle.std.specs.Option.{ForSome}
use Rattle.std.specs.Global.{Vec}
use Rattle.hmr_types.specs.ModName.{is_name, is_segment, parts, slash}
use Rattle.hmr_types.specs.declared.limits.TheConstants.{MESSAGE_BYTES}
use Rattle.hub_editor.specs.Edits.{length_of, text_in}
use Rattle.live_site.specs.CoreTexts.{IsShort}

-- a name has at most 255 bytes
name_short : (path : List ℕ) → is_name path ≡ true → length path ≤ 255
name_short [] h = absurd (cc)
name_short (b ∷ bs) h =
    let t = and_parts ((b == slash) && nat_le (length (b ∷ bs)) 255) (list_all is_segment (parts bs)) h in
    leb-true (length (b ∷ bs)) 255 (and_parts (b == slash) (nat_le (length (b ∷ bs)) 255) t.0).1

-- a name and a short text have room in a message
pub short_edit : (name : List ℕ) (text : Option (Vec ℕ)) → is_name name ≡ true → ForSome text IsShort → length_of (name, text_in text) ≤ MESSAGE_BYTES
short_edit name None n h = let few = name_short name n in omega (arith, few)
short_edit name (Some text) n h = let few = name_short name n in let short : IsShort text = h text refl in omega (arith, few, short)
