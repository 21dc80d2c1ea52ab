-- What is served reads as a module, so that it is UTF-8.
use Rattle.std.proofs.Common.{◌≡◌, ℕ, List, Result, Ok, Err, refl, ap, ◌∙◌}
use Rattle.std.specs.Prelude.{IsUtf8}
use Rattle.std.proofs.Math.Path.{subst}
use Rattle.hmr_types.specs.declared.analysis.Outcome.{Outcome}
use Rattle.module_semantics.specs.Analysis.{outcome_of, transformed}
use Rattle.module_semantics.specs.ModuleText.{parsing}
use Rattle.module_semantics.proofs.Texts.{was_parsed}
use Rattle.version_map.specs.Entries.{IsGood}

either_way : {A E P : Type 0} (r : Result A E) → ((x : A) → r ≡ Ok x → P) → ((e : E) → r ≡ Err e → P) → P
either_way (Ok x) f g = f x refl
either_way (Err e) f g = g e refl

-- a text with a good outcome
pub good_reads : (name text : List ℕ) (o : Outcome) → o ≡ transformed parsing name text → IsGood o → IsUtf8 text
good_reads name text o e g = either_way (parsing text) (λ m is. (was_parsed text m is).utf8) (λ f is. absurd (subst IsGood (e ∙ ap (outcome_of name) is) g))
