-- What a hub reports of its transcript: how many entries it has, what the server's page would load anew,
-- and each client's page as it was last.
use Rattle.std.specs.Prelude.{ℕ, List, [], ◌∷◌, ◌++◌, length, map, flat_map, Option, Some, None}
use Rattle.std.specs.List.{range_with_len}
use Rattle.core_model.specs.Names.{Name}
use Rattle.core_model.specs.FreshLoad.{fresh_load}
use Rattle.core_model.specs.Core.{Event, core_after}
use Rattle.core_model.specs.Transcript.{Recorded}
use Rattle.client_model.specs.Printing.{module_line}
use Rattle.world_model.specs.Steps.{fresh_lines}
use Rattle.import_links.specs.Links.{links}
use Rattle.hmr_hub.specs.declared.report_line.ReportLine.{ReportLine}
use Rattle.hmr_hub.specs.declared.report_line.ReportLine.TheVariants.{Steps, Client, Line}
use Rattle.hmr_hub.specs.Pages.{Page, last_page}
use Rattle.transcripts.specs.Transcripts.{past_of}

-- a module of a client's page
abbrev pub page_line : Name × ℕ → ReportLine
page_line row = Line (module_line row)

-- a client's number, and its page
abbrev pub client_lines : ℕ → Option Page → List ReportLine
client_lines i None = Client i ∷ []
client_lines i (Some page) = Client i ∷ map page_line page

-- the pages of so many clients, by their numbers from 1 on
abbrev pub pages_lines : List Name → List Event → ℕ → List ReportLine
pages_lines roots past many = flat_map (λ i. client_lines i (last_page roots past i)) (range_with_len 1 many)

-- the report of a server with these roots
abbrev pub report_of : List Name → List Recorded → List ReportLine
report_of roots entries =
    let past = past_of entries in
    let core = core_after roots past in
    Steps (length entries)
    ∷ (map Line (fresh_lines (fresh_load links core.sources.served roots))
    ++ pages_lines roots past core.given)
