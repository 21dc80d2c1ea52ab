-- Media types of texts.
use Rattle.std.specs.Prelude.{ℕ, List, codes}
use Rattle.live_answers.specs.declared.media.Media.{Media}
use Rattle.live_answers.specs.declared.media.Media.TheVariants as media

abbrev pub media_text : Media → List ℕ
media_text media.Html = codes "text/html; charset=utf-8"
media_text media.JavaScript = codes "text/javascript; charset=utf-8"
media_text media.Css = codes "text/css; charset=utf-8"
media_text media.Json = codes "application/json; charset=utf-8"
