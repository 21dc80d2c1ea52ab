-- What a browser is sent of a stylesheet: its text, but for the addresses of `@import`s that lead to instances of plans.
use Rattle.std.specs.Prelude.{ℕ, ◌+◌, ◌-◌, List, [], ◌∷◌, ◌++◌, length, ◌&&◌, nat_le, nat_lt, if◌then◌else◌, Option, Some, None}
use Rattle.std.specs.List.{slice_range}
use Rattle.css_scan.specs.declared.outline.Quoting.{Quoting}
use Rattle.css_scan.specs.declared.outline.Quoting.TheVariants.{Double, Single, Bare}
use Rattle.css_scan.specs.declared.outline.Span.{Span}
use Rattle.css_scan.specs.declared.outline.StyleImport.{StyleImport}
use Rattle.instance_urls.specs.Urls.{url_of}
use Rattle.instance_urls.specs.declared.plan_id.PlanId.{PlanId}
use Rattle.page_addresses.specs.Addresses.{addressed}
use Rattle.text_splices.specs.Splices.{splice_of}
use Rattle.text_splices.specs.declared.splice.Splice.{Splice}

-- the bytes of an address
abbrev pub address_bytes : List ℕ → Span → List ℕ
address_bytes text s = if nat_le s.start s.end && nat_le s.end (length text) then slice_range text s.start s.end else []

-- where what follows an address and its quote begins; a text may end without the quote
abbrev pub quote_end : List ℕ → Span → ℕ
quote_end text s = if nat_lt s.end (length text) then s.end + 1 else s.end

-- the URL of an instance between double quotes
abbrev pub quoted_url : List ℕ → PlanId → List ℕ
quoted_url name plan = 34 ∷ (url_of name (Some plan) ++ 34 ∷ [])

-- that URL in the place of an address. It stands between double quotes, since it may have single ones and parentheses
abbrev pub address_splice : List ℕ → Span → List ℕ → PlanId → Quoting → Splice
address_splice text s name plan Double = record { start = s.start; end = s.end; by = url_of name (Some plan) }
address_splice text s name plan Single = record { start = s.start - 1; end = quote_end text s; by = quoted_url name plan }
address_splice text s name plan Bare = record { start = s.start; end = s.end; by = quoted_url name plan }

-- the address of a module that has an instance of a plan
abbrev pub styled : List ℕ → StyleImport → List ℕ → Option PlanId → List Splice
styled text i name None = []
styled text i name (Some plan) = address_splice text i.address name plan i.quoting ∷ []

abbrev pub styled_to : (List ℕ → Option PlanId) → List ℕ → StyleImport → Option (List ℕ) → List Splice
styled_to instance text i None = []
styled_to instance text i (Some name) = styled text i name (instance name)

-- an address with escapes is left to the browser
abbrev pub rule_splices : (List ℕ → Option PlanId) → List ℕ → List ℕ → StyleImport → List Splice
rule_splices instance name text i =
    if i.has_escapes then [] else styled_to instance text i (addressed name (address_bytes text i.address))

-- those of all its rules
abbrev pub rules_splices : (List ℕ → Option PlanId) → List ℕ → List ℕ → List StyleImport → List Splice
rules_splices instance name text [] = []
rules_splices instance name text (i ∷ is') = rule_splices instance name text i ++ rules_splices instance name text is'

-- what a browser is sent of the text of a stylesheet with these imports
abbrev pub style_of : (List ℕ → Option PlanId) → List ℕ → List ℕ → List StyleImport → List ℕ
style_of instance name text imports = splice_of text (rules_splices instance name text imports)
