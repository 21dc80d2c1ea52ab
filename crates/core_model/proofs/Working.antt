-- The events of the worked transcript are well formed, and its results are true.
use Rattle.std.proofs.Common.{ℕ, [], ◌∷◌, refl}
use Rattle.std.specs.Prelude.{All}
use Rattle.std.specs.List.{AllByRecursion}
use Rattle.std.proofs.lemmas.List.Elements.{All-from_recursion}
use Rattle.hmr_types.specs.ModName.{is_segment_byte}
use Rattle.core_model.specs.Names.{Name}
use Rattle.core_model.specs.Formed.{IsName, IsFormed}
use Rattle.core_model.specs.Transcript.{IsTrueEvent, events_of}
use Rattle.core_model.specs.Examples.{m, transforming, transcript}

is_named : IsName m
unfolding is_segment_byte
is_named = refl

no_names : All IsName []
no_names = All-from_recursion IsName [] tt

told : All (λ (row : Name × ℕ). IsName row.0) ((m, 1) ∷ [])
told = All-from_recursion (λ (row : Name × ℕ). IsName row.0) ((m, 1) ∷ []) (is_named, tt)

pub formed : AllByRecursion IsFormed (events_of transcript)
formed = (is_named, ((is_named, refl, record { imports = no_names; accepted = no_names }), (no_names, (is_named, ((refl, told), (is_named, tt))))))

pub results : AllByRecursion (IsTrueEvent transforming) (events_of transcript)
results = (tt, (refl, (tt, (tt, (tt, (tt, tt))))))
