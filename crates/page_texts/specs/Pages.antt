-- What a browser is sent of a page: its HTML, with the client's tag and the hooks of its inline modules.
use Rattle.std.specs.Prelude.{ℕ, List, ◌∷◌, ◌++◌, [], map, codes, decimal}
use Rattle.text_splices.specs.Splices.{splice_of}
use Rattle.text_splices.specs.declared.splice.Splice.{Splice}
use Rattle.page_texts.specs.declared.client_tag.ClientTag.{ClientTag}

-- an attribute from its start, with its quote, to the quote behind its value
unfoldable pub attribute : List ℕ → List ℕ → List ℕ
attribute start value = start ++ (value ++ 34 ∷ [])

-- the tag by which a page loads the client
unfoldable pub tag_text : ClientTag → List ℕ → List ℕ
tag_text tag root =
    codes "<script src=\"/@hmr/client.js\"" ++ (attribute (codes " data-page=\"") (decimal tag.page)
    ++ (attribute (codes " data-root=\"") root ++ (attribute (codes " data-run=\"") (decimal tag.run)
    ++ (attribute (codes " data-count=\"") (decimal tag.count) ++ codes "></script>"))))

-- a text before the byte at a place
abbrev pub put_in : ℕ → List ℕ → Splice
put_in at by = record { start = at; end = at; by = by }

-- the statement by which an inline module is made known to the client
abbrev pub hook_at : ℕ → Splice
hook_at at = put_in at (codes "globalThis.__hmr?.enter(import.meta);")

-- the page with the client's tag and its hooks
abbrev pub page_of : ClientTag → List ℕ → List ℕ → ℕ → List ℕ → List ℕ
page_of tag root text head hooks = splice_of text (put_in head (tag_text tag root) ∷ map hook_at hooks)
