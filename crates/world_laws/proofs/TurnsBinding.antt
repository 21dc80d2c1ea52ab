-- In a small language the bindings of each text are from its imports, where its texts are so.
use Rattle.std.proofs.Common.{◌≡◌, Bool, true, false, [], ◌∷◌, refl, ap, sym, ◌∙◌}
use Rattle.std.specs.Prelude.{Option, Some, None, if◌then◌else◌, ⊤}
use Rattle.std.specs.List.{list_all}
use Rattle.hmr_types.specs.declared.analysis.Analysis.{Analysis}
use Rattle.hmr_types.specs.declared.analysis.Outcome.{Outcome}
use Rattle.hmr_types.specs.declared.analysis.Outcome.TheVariants.{Good, Bad}
use Rattle.core_model.specs.Names.{same_name, has, at}
use Rattle.core_model.specs.Sources.{Text}
use Rattle.core_model.proofs.Naming.{both_true}
use Rattle.world_model.specs.SmallLanguage.{Module, Texts, outcome_in, bindings_in, small_language}
use Rattle.client_model.specs.Language.{BindsImports}
use Rattle.world_laws.specs.SmallTexts.{binds_imports, all_bind_imports}

abbrev analysis_or : Analysis → Outcome → Analysis
analysis_or d (Good a) = a
analysis_or d (Bad fault) = d

abbrev IsBound : Option Module → Type 0
IsBound None = ⊤
IsBound (Some m) = binds_imports m ≡ true

in_module : (m : Option Module) (a : Analysis) → IsBound m → outcome_in m ≡ Good a → list_all (λ b. has a.imports b.dependency) (bindings_in m) ≡ true
in_module None a h e = refl
in_module (Some m) a h e = ap (λ k. list_all (λ b. has k.imports b.dependency) m.bindings) (sym (ap (analysis_or a) e)) ∙ h

bound_if : (b : Bool) (m : Module) (o : Option Module) → binds_imports m ≡ true → IsBound o → IsBound (if b then Some m else o)
bound_if true m o h k = h
bound_if false m o h k = k

at_bound : (texts : Texts) → all_bind_imports texts ≡ true → (t : Text) → IsBound (at texts t)
at_bound [] h t = tt
at_bound (row ∷ rows) h t =
    let k = both_true (binds_imports row.1) (all_bind_imports rows) h in
    bound_if (same_name row.0 t) row.1 (at rows t) k.0 (at_bound rows k.1 t)

pub binds_small : (texts : Texts) → all_bind_imports texts ≡ true → BindsImports (small_language texts)
binds_small texts h n t a e = in_module (at texts t) a (at_bound texts h t) e
