-- The client's tag is put together piece by piece.
use Rattle.std.proofs.Common.{◌≡◌, List, ℕ, ◌++◌, append_assoc, ap, ◌∙◌}
use Rattle.std.specs.Prelude.{codes, decimal}
use Rattle.page_texts.specs.Pages.{attribute, tag_text}
use Rattle.page_texts.specs.declared.client_tag.ClientTag.{ClientTag}

-- the next piece goes before what is put behind it
piece : (done next made p rest : List ℕ) → next ≡ done ++ p → made ≡ next ++ rest → made ≡ done ++ (p ++ rest)
piece done next made p rest grown whole = whole ∙ ap (λ l. l ++ rest) grown ∙ append_assoc done p rest

pub whole_tag : (tag : ClientTag) (root done a b c d e made : List ℕ) → a ≡ done ++ codes "<script src=\"/@hmr/client.js\""
    → b ≡ a ++ attribute (codes " data-page=\"") (decimal tag.page) → c ≡ b ++ attribute (codes " data-root=\"") root
    → d ≡ c ++ attribute (codes " data-run=\"") (decimal tag.run) → e ≡ d ++ attribute (codes " data-count=\"") (decimal tag.count)
    → made ≡ e ++ codes "></script>" → made ≡ done ++ tag_text tag root
unfolding tag_text
whole_tag tag root done a b c d e made start page name run count end =
    let count_on = piece d e made (attribute (codes " data-count=\"") (decimal tag.count)) (codes "></script>") count end in
    let run_on = piece c d made (attribute (codes " data-run=\"") (decimal tag.run)) (attribute (codes " data-count=\"") (decimal tag.count) ++ codes "></script>") run count_on in
    let name_on = piece b c made (attribute (codes " data-root=\"") root)
    (attribute (codes " data-run=\"") (decimal tag.run) ++ (attribute (codes " data-count=\"") (decimal tag.count) ++ codes "></script>")) name run_on in
    let page_on = piece a b made (attribute (codes " data-page=\"") (decimal tag.page))
    (attribute (codes " data-root=\"") root ++ (attribute (codes " data-run=\"") (decimal tag.run) ++ (attribute (codes " data-count=\"") (decimal tag.count) ++ codes "></script>"))) page name_on in
    piece done a made (codes "<script src=\"/@hmr/client.js\"")
    (attribute (codes " data-page=\"") (decimal tag.page) ++ (attribute (codes " data-root=\"") root
    ++ (attribute (codes " data-run=\"") (decimal tag.run) ++ (attribute (codes " data-count=\"") (decimal tag.count) ++ codes "></script>")))) start page_on
