-- What a terminal shows of a page.
use Rattle.std.specs.Prelude.{ℕ, List, [], ◌∷◌, ◌++◌, ◌-◌, ◌==◌, codes, decimal, length, take, Option, Some, None}
use Rattle.std.specs.Prelude.{if◌then◌else◌}
use Rattle.std.specs.List.{flat_map}
use Rattle.core_model.specs.Names.{Name, has}
use Rattle.hmr_types.specs.ModName.{is_text}
use Rattle.hmr_types.specs.declared.words.ReloadCause.{ReloadCause}
use Rattle.word_texts.specs.Words.{cause_word}
use Rattle.update_msgs.specs.declared.message.AbortCause.{AbortCause}
use Rattle.update_msgs.specs.declared.message.AbortCause.TheVariants.{Missing, Broken, Link}
use Rattle.live_lines.specs.declared.line_text.Style.{Style}
use Rattle.live_lines.specs.declared.page_news.PageNews.{PageNews}
use Rattle.live_lines.specs.declared.page_news.PageNews.TheVariants as news
use Rattle.live_lines.specs.declared.page_news.StaleBinding.{StaleBinding}
use Rattle.live_lines.specs.Texts.{arrow, dot, on, off, shown_byte}

-- how many more there are
abbrev pub more_text : ℕ → List ℕ
more_text n = if n == 0 then [] else codes " and " ++ decimal n ++ codes " more"

-- the texts of a list, of which the first three are shown
abbrev pub list_text : {X : Type 0} → (X → List ℕ) → List X → List ℕ
list_text text [] = []
list_text text (x ∷ more) =
    text x ++ flat_map (λ y. codes ", " ++ text y) (take 2 more) ++ more_text (length more - 2)

-- a name as it is
abbrev pub itself : Name → List ℕ
itself n = n

-- a module with its version
abbrev pub versioned : Name × ℕ → List ℕ
versioned row = row.0 ++ codes " v" ++ decimal row.1

-- a name, which may be any text, where it isn't all of its module
abbrev pub name_text : List ℕ → List ℕ
name_text name = if is_text name (codes "*") then [] else flat_map shown_byte name ++ codes " of "

-- who still has which name
abbrev pub still_text : StaleBinding → List ℕ
still_text b = (b.importer ++ codes " still has ") ++ name_text b.name

-- which version of which module it has, and which is the live one
abbrev pub of_text : StaleBinding → List ℕ
of_text b =
    (b.imported ++ codes " v") ++ (decimal b.linked ++ codes " (now v")
    ++ (decimal b.live ++ codes ")")

-- a stale binding
abbrev pub stale_text : StaleBinding → List ℕ
stale_text b = still_text b ++ of_text b

-- a number of things of this name
abbrev pub plural_text : ℕ → List ℕ → List ℕ
plural_text n word = decimal n ++ codes " " ++ word ++ (if n == 1 then [] else codes "s")

-- the page of this number
abbrev pub page_number : ℕ → List ℕ
page_number client = codes "page " ++ decimal client

-- the modules of a path, with an arrow between each two
abbrev pub path_text : List Name → List ℕ
path_text [] = []
path_text (n ∷ names) = n ++ flat_map (λ m. codes " " ++ arrow ++ codes " " ++ m) names

-- one more boundary behind those that came, unless it is among them
abbrev pub add_boundary : List Name → Name → List Name
add_boundary came n = if has came n then came else came ++ n ∷ []

-- the boundaries behind those that came, each once
abbrev pub with_boundaries : List Name → List (Name × Name) → List Name
with_boundaries came [] = came
with_boundaries came (p ∷ pairs) = with_boundaries (add_boundary came p.0) pairs

-- who accepted, where someone did
abbrev pub by_text : List Name → List ℕ
by_text [] = []
by_text (n ∷ names) = codes " (accepted by " ++ list_text itself (n ∷ names) ++ codes ")"

-- what changed, where something did
abbrev pub changed_text : List (Name × ℕ) → List ℕ
changed_text [] = []
changed_text (row ∷ rows) = list_text versioned (row ∷ rows) ++ codes " "

-- the stale bindings behind a dot, where there are any
abbrev pub stale_part : Style → List StaleBinding → List ℕ
stale_part style [] = []
stale_part style (b ∷ more) =
    codes " " ++ dot ++ codes " " ++ on style (codes "33") ++ codes "stale: "
    ++ list_text stale_text (b ∷ more) ++ off style

-- an update that was applied
abbrev pub hot_text : Style → ℕ → List (Name × ℕ) → List (Name × Name) → List StaleBinding → List ℕ
hot_text style client changed accepted stale =
    changed_text changed ++ arrow ++ codes " " ++ page_number client ++ on style (codes "32") ++ codes " hot"
    ++ off style ++ by_text (with_boundaries [] accepted) ++ stale_part style stale

-- a reload that is to come
abbrev pub reload_text : Style → ℕ → ReloadCause → List Name → List ℕ
reload_text style client cause path =
    arrow ++ codes " " ++ page_number client ++ on style (codes "36") ++ codes " reload" ++ off style
    ++ codes ": " ++ path_text path ++ codes " (" ++ cause_word cause ++ codes ")"

-- a text that may not be there
abbrev pub or_nothing : Option (List ℕ) → List ℕ
or_nothing None = []
or_nothing (Some text) = text

-- a module that is not served
abbrev pub missing_text : Name → List ℕ
missing_text path = codes "the module " ++ path ++ codes " is not served"

-- a text that cannot be read
abbrev pub broken_text : Name → List ℕ
broken_text path = codes "the text of " ++ path ++ codes " cannot be read"

-- an import that doesn't fit; its name may be any text
abbrev pub link_text : Name → List ℕ → List ℕ → List ℕ
link_text path from name =
    (path ++ codes " imports ") ++ (flat_map shown_byte name ++ codes ", which ")
    ++ (from ++ codes " does not export")

-- why a plan was given up
abbrev pub abort_text : AbortCause → Name → Option Name → Option (List ℕ) → List ℕ
abort_text Missing path from name = missing_text path
abort_text Broken path from name = broken_text path
abort_text Link path from name = link_text path (or_nothing from) (or_nothing name)

-- that a page stays as it was
abbrev pub stays_text : Style → ℕ → List ℕ
stays_text style client =
    (arrow ++ codes " " ++ page_number client) ++ (on style (codes "31") ++ codes " kept" ++ off style)
    ++ codes ": "

-- a plan that was given up
abbrev pub aborted_text : Style → ℕ → AbortCause → Name → Option Name → Option (List ℕ) → List ℕ
aborted_text style client cause path from name = stays_text style client ++ abort_text cause path from name

-- why a page isn't taken
abbrev pub refused_words : ℕ → List ℕ
refused_words code =
    if code == 2 then codes "32 pages are open"
    else if code == 7 then codes "its roots are more than 16, or two of them are equal"
    else codes "it asked what it may not"

-- what changed on the page of this number
abbrev pub page_text : Style → ℕ → PageNews → List ℕ
page_text style client (news.Opened roots) =
    page_number client ++ codes " opened: " ++ list_text itself roots
page_text style client (news.Refused code) = codes "a page isn't taken: " ++ refused_words code
page_text style client (news.Loaded modules) =
    page_number client ++ codes " loaded, " ++ plural_text modules (codes "module")
page_text style client (news.Reload cause path) = reload_text style client cause path
page_text style client (news.Hot changed accepted stale) = hot_text style client changed accepted stale
page_text style client (news.Aborted cause path from name) =
    aborted_text style client cause path from name
page_text style client (news.Pruned names) = page_number client ++ codes " pruned " ++ list_text itself names
page_text style client news.Closed = page_number client ++ codes " closed"

-- each stale binding on a line of its own
abbrev pub each_below : List StaleBinding → List ℕ
each_below bindings = flat_map (λ b. codes "\n         " ++ stale_text b) bindings

-- the stale bindings of a page, as they were asked for
abbrev pub stale_list : Style → ℕ → List StaleBinding → List ℕ
stale_list style client bindings =
    page_number client ++ codes " has " ++ plural_text (length bindings) (codes "stale binding")
    ++ each_below bindings
