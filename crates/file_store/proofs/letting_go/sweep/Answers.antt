use Rattle.std.proofs.Common.{rules}
use Rattle.std.proofs.lemmas.Map.Made.{filter_same_pairs}
use Rattle.file_store.proofs.letting_go.sweep.Goals as goal

pub returns : goal.returns
returns g c = filter_same_pairs _ _ _ (λ k v b w f' h. search rules) _ _ c.retain.ensures.filtered
