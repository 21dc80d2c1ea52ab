-- The core, the transcript and the pages after an event.
use Rattle.std.proofs.Common.{◌≡◌, ℕ, true, List, [], ◌∷◌, ◌++◌, ap, sym, ◌∙◌, subst}
use Rattle.std.specs.Prelude.{Option}
use Rattle.module_semantics.specs.Analysis.{transformed}
use Rattle.module_semantics.specs.ModuleText.{parsing}
use Rattle.core_model.specs.Formed.{IsFormed}
use Rattle.core_model.specs.Core.{Event}
use Rattle.core_model.specs.Transcript.{IsTrueEvent, Recorded}
use Rattle.server_core.specs.Kept.{Kept, StandsFor}
use Rattle.hmr_hub.specs.Pages.{ArePages, Page}
use Rattle.transcripts.specs.Transcripts.{IsTranscript, may_make, past_of}
use Rattle.hmr_hub.proofs.Histories.{past_more}
use Rattle.hmr_hub.proofs.Legal.{HasPlace, one_more}

-- what holds of the core with its transcript and its pages
pub record AreTied (entries : List Recorded) (core : Kept) (pages : List (Option Page)) : Type 0 where
  pub stands : StandsFor (past_of entries) core
  pub transcript : IsTranscript core.roots entries
  pub pages_are : ArePages core.roots (past_of entries) pages

-- nothing was told
pub as_before : (entries next : List Recorded) (core : Kept) (pages later : List (Option Page)) → next ≡ entries → later ≡ pages
    → StandsFor (past_of entries) core → IsTranscript core.roots entries → ArePages core.roots (past_of entries) pages → AreTied next core later
as_before entries next core pages later e p stands transcript are = record {
  stands = subst (λ es. StandsFor (past_of es) core) (sym e) stands;
  transcript = subst (λ es. IsTranscript core.roots es) (sym e) transcript;
  pages_are = subst (λ es. ArePages core.roots (past_of es) later) (sym e) (subst (λ ps. ArePages core.roots (past_of entries) ps) (sym p) are);
}

-- an event was told
pub after_event : (entries next : List Recorded) (by : ℕ) (event kept : Event) (core told : Kept) (later : List (Option Page)) → next ≡ entries ++ (by, kept) ∷ [] → kept ≡ event
    → told.roots ≡ core.roots → IsTranscript core.roots entries → HasPlace entries event → IsFormed event → IsTrueEvent (transformed parsing) event → may_make by event ≡ true
    → StandsFor (event ∷ past_of entries) told → ArePages core.roots (event ∷ past_of entries) later → AreTied next told later
after_event entries next by event kept core told later n k roots transcript place formed true_result may stands are =
    let e : next ≡ entries ++ (by, event) ∷ [] = n ∙ ap (λ v. entries ++ (by, v) ∷ []) k in
    let past : past_of next ≡ event ∷ past_of entries = ap past_of e ∙ past_more entries by event in
    record {
      stands = subst (λ events. StandsFor events told) (sym past) stands;
      transcript = subst (λ rs. IsTranscript rs next) (sym roots) (subst (λ es. IsTranscript core.roots es) (sym e) (one_more core.roots entries by event transcript place formed true_result may));
      pages_are = subst (λ rs. ArePages rs (past_of next) later) (sym roots) (subst (λ events. ArePages core.roots events later) (sym past) are);
    }
