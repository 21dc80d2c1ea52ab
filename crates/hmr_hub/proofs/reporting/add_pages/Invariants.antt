use Rattle.std.proofs.Common.{◌≡◌, ◌++◌, List}
use Rattle.core_model.specs.Core.{Event}
use Rattle.server_core.specs.Kept.{StandsFor}
use Rattle.hmr_hub.specs.Pages.{ArePages}
use Rattle.hmr_hub.specs.Reports.{pages_lines}
use Rattle.hmr_hub.proofs.reporting.add_pages.Given as goal

-- the lines so far are those of the clients so far
abbrev pub invariant-loop-place : goal.invariant-loop-place
invariant-loop-place l = (past : List Event) → StandsFor past l.core → ArePages l.core.roots past l.pages
    → l.lines.items ≡ l.fn.lines.items ++ pages_lines l.core.roots past l.place
