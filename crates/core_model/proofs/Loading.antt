-- The fresh load: what imports of served sources reach.
use Rattle.std.proofs.Common.{◌≡◌, ◌↔◌, true, List, sym}
use Rattle.std.specs.Prelude.{Option, Some, None, if◌then◌else◌}
use Rattle.std.proofs.Math.Path.{subst}
use Rattle.core_model.specs.Names.{Name, has, at}
use Rattle.core_model.specs.Paths.{Reaches}
use Rattle.core_model.specs.Rounds.{IsOver}
use Rattle.core_model.specs.Sources.{Serving}
use Rattle.core_model.specs.FreshLoad.{Served, imports_in, imports, imported_by_served, reached_by, version_in, fresh_table}
use Rattle.core_model.proofs.Naming.{sorted_has}
use Rattle.core_model.proofs.Reaching.{rounds_are}
use Rattle.core_model.proofs.Tables.{listed_in, listed_over, at_collect}

pub imports_listed : (o : Option Serving) (m : Name) → has (imports_in o) m ≡ true → has (listed_in (λ (s : Serving). s.analysis.imports) o) m ≡ true
imports_listed None m h = h
imports_listed (Some s) m h = h

over : (served : Served) → IsOver (imports served) (imported_by_served served)
over served n m h = listed_over (λ (s : Serving). s.analysis.imports) served n m (imports_listed (at served n) m h)

-- the computed names are those that lists of imports reach from the roots
pub reached_is : (served : Served) (roots : List Name) (m : Name) → (has (reached_by served roots) m ≡ true) ↔ Reaches (imports served) roots m
reached_is served roots m = subst (λ b. (b ≡ true) ↔ Reaches (imports served) roots m) (sym (sorted_has _ m)) (rounds_are (imports served) (imported_by_served served) roots (over served) m)

-- the table has the reached names, each at its served version
pub at_fresh : (served : Served) (roots : List Name) (n : Name) → at (fresh_table served roots) n ≡ (if has (reached_by served roots) n then version_in (at served n) else None)
at_fresh served roots n = at_collect (λ k. version_in (at served k)) (reached_by served roots) n
