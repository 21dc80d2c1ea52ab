-- What the search along served imports finds, in order, is what the definition reaches.
use Rattle.std.proofs.Common.{◌≡◌, ◌↔◌, List, ◌∙◌, Contains}
use Rattle.core_model.specs.Names.{Name, at, has, sorted}
use Rattle.core_model.specs.Paths.{Reaches}
use Rattle.core_model.specs.FreshLoad.{Served, imports, imported_by_served, reached_by}
use Rattle.core_model.specs.Rounds.{IsOver, reached_of}
use Rattle.core_model.specs.Sources.{Serving}
use Rattle.core_model.proofs.Naming.{has_is, same_test, sorted_has}
use Rattle.core_model.proofs.Tables.{listed_over}
use Rattle.core_model.proofs.Loading.{imports_listed, reached_is}
use Rattle.module_graph.proofs.Sorting.{same_rising, sorted_rising}

-- each import of a served source is among all that served sources import
pub over : (served : Served) → IsOver (imports served) (imported_by_served served)
over served n m h = listed_over (λ (s : Serving). s.analysis.imports) served n m (imports_listed (at served n) m h)

pub found_is : (served : Served) (roots known out : List Name) → ((m : Name) → Contains known m ↔ Reaches (imports served) roots m) → out ≡ sorted known → out ≡ reached_by served roots
found_is served roots known out is e = e ∙ same_rising (sorted known) (reached_by served roots) (sorted_rising known) (sorted_rising (reached_of (imports served) (imported_by_served served) roots))
    (λ n. sorted_has known n ∙ same_test (has known n) (has (reached_by served roots) n)
    (λ h. (reached_is served roots n).1 ((is n).0 ((has_is known n).1 h)))
    (λ h. (has_is known n).0 ((is n).1 ((reached_is served roots n).0 h))))
