-- The variables of each instance are those that the journal left, and each was evaluated once.
use Rattle.std.proofs.Common.{◌≡◌, ℕ, [], ◌∷◌, ◌++◌, length, refl, ap, sym, ◌∙◌, arith, Contains}
use Rattle.std.specs.Prelude.{filter, fold, ◌||◌}
use Rattle.std.proofs.lemmas.List.Sums.{fold-append}
use Rattle.std.proofs.lemmas.List.Folds.{list_any-append}
use Rattle.core_model.specs.Names.{Name}
use Rattle.client_model.specs.Language.{Language}
use Rattle.client_model.specs.Instance.{Instance, numbered}
use Rattle.client_model.specs.Journal.{Journal, bag_after, bag_left}
use Rattle.client_model.specs.Runtime.{Runtime, Opening, Did, bag_of}
use Rattle.client_model.specs.Making.{is_failed}
use Rattle.client_model.specs.Past.{Past, met, runtime_after, journal_of}
use Rattle.world_laws.proofs.Frames.{frames, Numbered}
use Rattle.world_laws.proofs.Messages.{run_holds}
use Rattle.journal_laws.specs.Values.{values_after, values_left, is_failure_of, is_evaluation_of, evaluations_by}
use Rattle.journal_laws.proofs.ValuesTaking.{steps_met}
use Rattle.journal_laws.proofs.ValuesAdding.{Adds, values_in, times_in, times_told, times_join, failure_told}
use Rattle.journal_laws.proofs.ValuesMaking.{all_add}
use Rattle.journal_laws.proofs.Numbers.{apart_numbered, there}

-- what a client keeps is read off the journal so far
pub record Reads (r : Runtime) (seen : Journal) : Type 0 where
  pub values : (k : ℕ) → values_in (numbered r.instances k) ≡ values_left seen k
  pub failures : (k : ℕ) → is_failed (numbered r.instances k) ≡ failure_told k seen
  pub times : (k : ℕ) → times_in (numbered r.instances k) ≡ times_told k seen
  pub bags : (n : Name) → bag_of r n ≡ bag_left seen n

pub reads_on : (r : Runtime) (did : Did) (seen : Journal) → Reads r seen → Adds r did → Reads did.0 (seen ++ did.1)
reads_on r did seen h g = record {
  values = λ k. g.values k ∙ ap (λ slots. fold (values_after k) slots did.1) (h.values k) ∙ sym (fold-append (values_after k) [] seen did.1);
  failures = λ k. g.failures k ∙ ap (λ b. b || failure_told k did.1) (h.failures k) ∙ sym (list_any-append (is_failure_of k) seen did.1);
  times = λ k. omega (arith, g.times k, h.times k, times_join k seen did.1);
  bags = λ n. g.bags n ∙ ap (λ bag. fold (bag_after n) bag did.1) (h.bags n) ∙ sym (fold-append (bag_after n) [] seen did.1);
}

module _ (language : Language) (opening : Opening) where
  pub numbered_run : (past : Past) → Numbered (frames (runtime_after language opening past).instances)
  numbered_run past = (run_holds language opening past).numbered

  pub reads_run : (past : Past) → Reads (runtime_after language opening past) (journal_of language opening past)
  reads_run [] = record { values = λ k. refl; failures = λ k. refl; times = λ k. refl; bags = λ n. refl }
  reads_run (came ∷ past) =
      let r : Runtime = runtime_after language opening past in
      reads_on r (met language came r) (journal_of language opening past) (reads_run past) (steps_met language Adds (all_add language) r came (numbered_run past))

  pub values_run : (past : Past) (i : Instance) → Contains (runtime_after language opening past).instances i → i.values ≡ values_left (journal_of language opening past) i.number
  values_run past i c = ap values_in (sym (there (runtime_after language opening past).instances (apart_numbered (runtime_after language opening past).instances (numbered_run past)) i c)) ∙ (reads_run past).values i.number

  pub once_run : (past : Past) (i : Instance) → Contains (runtime_after language opening past).instances i → length (filter (is_evaluation_of i.number) (journal_of language opening past)) ≡ evaluations_by i.status
  once_run past i c = sym ((reads_run past).times i.number) ∙ ap times_in (there (runtime_after language opening past).instances (apart_numbered (runtime_after language opening past).instances (numbered_run past)) i c)
