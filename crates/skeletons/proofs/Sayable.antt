-- What may be told, that there is a skeleton which says it.
use Rattle.std.proofs.Common.{◌≡◌, ◌≤◌, true, [], length}
use Rattle.std.specs.List.{list_all}
use Rattle.hmr_types.specs.ModName.{is_name}
use Rattle.hmr_types.specs.declared.analysis.Analysis.{Analysis}
use Rattle.module_semantics.specs.Entries.{are_different, has_name}

pub record CanBeSaid (a : Analysis) : Type 0 where
  pub imports : are_different a.imports ≡ true
  pub names : list_all is_name a.imports ≡ true
  pub few : length a.imports ≤ 257
  pub exports : a.exports ≡ []
  pub accepted : are_different a.accepted ≡ true
  pub accepted_names : list_all is_name a.accepted ≡ true
  pub among : list_all (λ n. has_name n a.imports) a.accepted ≡ true
  pub heard : length a.accepted ≤ 257
