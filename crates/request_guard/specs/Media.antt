-- What a file is, by its name.
use Rattle.std.specs.Prelude.{ℕ, ◌||◌, ◌==◌, if◌then◌else◌, List, [], ◌∷◌, codes}
use Rattle.http_heads.specs.Head.{same_letters}

-- what stands behind the last dot of the last part of a path, where this was found behind the last so far
abbrev pub behind_dot : List ℕ → List ℕ → List ℕ
behind_dot found [] = found
behind_dot found (b ∷ bytes) =
    if b == 46 then behind_dot bytes bytes else if b == 47 then behind_dot [] bytes else behind_dot found bytes

-- the ending of a name, without its dot
abbrev pub ending_of : List ℕ → List ℕ
ending_of name = behind_dot [] name

abbrev pub other_type : List ℕ → List ℕ
other_type e =
    if same_letters e (codes "wasm") then codes "application/wasm"
    else if same_letters e (codes "pdf") then codes "application/pdf"
    else if same_letters e (codes "webmanifest") then codes "application/manifest+json"
    else if same_letters e (codes "mp3") then codes "audio/mpeg"
    else if same_letters e (codes "mp4") then codes "video/mp4"
    else if same_letters e (codes "webm") then codes "video/webm"
    else codes "application/octet-stream"

abbrev pub font_type : List ℕ → List ℕ
font_type e =
    if same_letters e (codes "woff2") then codes "font/woff2"
    else if same_letters e (codes "woff") then codes "font/woff"
    else if same_letters e (codes "ttf") then codes "font/ttf"
    else if same_letters e (codes "otf") then codes "font/otf"
    else other_type e

abbrev pub image_type : List ℕ → List ℕ
image_type e =
    if same_letters e (codes "svg") then codes "image/svg+xml"
    else if same_letters e (codes "png") then codes "image/png"
    else if same_letters e (codes "jpg") || same_letters e (codes "jpeg") then codes "image/jpeg"
    else if same_letters e (codes "gif") then codes "image/gif"
    else if same_letters e (codes "webp") then codes "image/webp"
    else if same_letters e (codes "avif") then codes "image/avif"
    else if same_letters e (codes "ico") then codes "image/x-icon"
    else font_type e

-- by the ending of a name, in any case of its letters
abbrev pub type_of : List ℕ → List ℕ
type_of e =
    if same_letters e (codes "html") || same_letters e (codes "htm") then codes "text/html; charset=utf-8"
    else if same_letters e (codes "js") || same_letters e (codes "mjs") then codes "text/javascript; charset=utf-8"
    else if same_letters e (codes "css") then codes "text/css; charset=utf-8"
    else if same_letters e (codes "json") || same_letters e (codes "map") then codes "application/json"
    else if same_letters e (codes "txt") then codes "text/plain; charset=utf-8"
    else if same_letters e (codes "xml") then codes "text/xml; charset=utf-8"
    else image_type e

abbrev pub media_type : List ℕ → List ℕ
media_type name = type_of (ending_of name)
