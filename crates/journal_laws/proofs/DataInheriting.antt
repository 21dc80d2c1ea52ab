-- An instance that replaces another starts with what was left when that one ended, and any other with the
-- empty bag, in every run of a client.
use Rattle.std.proofs.Common.{◌≡◌, ◌⊎◌, inl, inr, ℕ, ◌≤◌, ◌<◌, Bool, true, false, [], ◌∷◌, ◌++◌, length, refl, ap, sym, ◌∙◌, arith, subst}
use Rattle.std.specs.Prelude.{fold}
use Rattle.std.specs.List.{list_any}
use Rattle.std.proofs.lemmas.Bool.{false≢true}
use Prim.{⊥}
use Rattle.std.proofs.lemmas.List.Sums.{fold-append}
use Rattle.output_lines.specs.declared.words.InstanceFate.TheVariants.{Replaced}
use Rattle.core_model.specs.Names.{Name}
use Rattle.client_model.specs.Language.{Language, Bag, Evaluated}
use Rattle.client_model.specs.Journal.{Journal, evaluated, ended, bag_after, bag_left}
use Rattle.client_model.specs.Runtime.{Runtime, Opening, Did, bag_of}
use Rattle.client_model.specs.Past.{Incoming, Past, met, runtime_after, journal_of}
use Rattle.client_model.proofs.Bagging.{bags_are}
use Rattle.client_model.proofs.Takes.{IsTaken, met_does}
use Rattle.world_laws.proofs.Holding.{HoldsOf}
use Rattle.world_laws.proofs.Messages.{run_holds}
use Rattle.journal_laws.specs.Runs.{OfEachRun}
use Rattle.journal_laws.specs.Data.{is_succeeded_by, SuccessorsInherit, OthersInheritNothing}
use Rattle.journal_laws.proofs.DataEach.{Each, each_append, each_same, each_at}
use Rattle.journal_laws.proofs.DataResting.{NoneLeft, none_left}
use Rattle.journal_laws.proofs.DataTelling.{EvaluatedAs, EndedAs, each_more, ended_more, ended_respects}
use Rattle.journal_laws.proofs.DataSplits.{inner_append, InFirst, InSecond, split_append, any_right}
use Rattle.journal_laws.proofs.DataPassing.{Passing, quiet_passes, prune_passes, hear_passes, apply_passes}

module _ (language : Language) where
  abbrev Passes : Runtime → Did → Type 0
  Passes r did = HoldsOf r → NoneLeft r → Passing r did

  all_pass : IsTaken language Passes
  all_pass = record {
    quiet = λ r did q h empty. quiet_passes r did q;
    prunes = λ names r none loaded h empty. prune_passes language names r;
    applies = λ p r e due counted h empty. apply_passes language p r e due.0 h empty;
    hears = λ n value r loaded idle h empty. hear_passes language n value r;
  }

  met_passes : (opening : Opening) (past : Past) (came : Incoming) → Passing (runtime_after language opening past) (met language came (runtime_after language opening past))
  met_passes opening past came = met_does language Passes all_pass (runtime_after language opening past) came (run_holds language opening past) (none_left language opening past)

  -- the numbers of replacements so far are those of instances
  ends_low : (opening : Opening) (past : Past) → Each (EndedAs (λ k n bag. k ≤ length (runtime_after language opening past).instances)) (λ n. []) (journal_of language opening past)
  ends_low opening [] = tt
  ends_low opening (came ∷ past) =
      let r : Runtime = runtime_after language opening past in
      let s : Runtime = (met language came r).0 in
      let passing : Passing r (met language came r) = met_passes opening past came in
      each_append (EndedAs (λ k n bag. k ≤ length s.instances)) (λ n. []) (journal_of language opening past) (met language came r).1
      (each_more (ended_more (λ k n bag. k ≤ length r.instances) (λ k n bag. k ≤ length s.instances) (λ k n bag low. omega (arith, low, passing.grown))) (λ n. []) (journal_of language opening past) (ends_low opening past))
      (each_same (EndedAs (λ k n bag. k ≤ length s.instances)) (ended_respects (λ k n bag. k ≤ length s.instances)) (bag_of r) (bag_left (journal_of language opening past)) (bags_are language opening past) (met language came r).1 passing.ends)

  module _ (opening : Opening) (past : Past) (came : Incoming) where
    abbrev before_it : Runtime
    before_it = runtime_after language opening past

    abbrev first_part : Journal
    first_part = journal_of language opening past

    abbrev last_part : Journal
    last_part = (met language came before_it).1

    passing_on : Passing before_it (met language came before_it)
    passing_on = met_passes opening past came

    -- what was left, for a part of what happened last
    left_on : (front : Journal) (n : Name) → fold (bag_after n) (bag_of before_it n) front ≡ bag_left (first_part ++ front) n
    left_on front n = ap (λ bag. fold (bag_after n) bag front) (bags_are language opening past n) ∙ sym (fold-append (bag_after n) [] first_part front)

    number_above : (front back : Journal) (k : ℕ) (n : Name) (before : Bag) (e : Evaluated) → last_part ≡ front ++ evaluated k n before e ∷ back → length before_it.instances < k
    number_above front back k n before e split = each_at (EvaluatedAs (λ j m bag. length before_it.instances < j)) (bag_of before_it) front (evaluated k n before e) back (subst (Each (EvaluatedAs (λ j m bag. length before_it.instances < j)) (bag_of before_it)) split passing_on.starts)

    number_below : (front back : Journal) (j k : ℕ) (n : Name) → first_part ≡ front ++ ended j n (Replaced k) ∷ back → k ≤ length before_it.instances
    number_below front back j k n split = each_at (EndedAs (λ i m bag. i ≤ length before_it.instances)) (λ m. []) front (ended j n (Replaced k)) back (subst (Each (EndedAs (λ i m bag. i ≤ length before_it.instances)) (λ m. [])) split (ends_low opening past))

    others_step : OthersInheritNothing before_it first_part → OthersInheritNothing (met language came before_it).0 (first_part ++ last_part)
    others_step rest front back k n before e split t = by (split_append first_part last_part front (evaluated k n before e) back split)
      where
        not_told : (tail : Journal) → front ≡ first_part ++ tail → (b : Bool) → list_any (is_succeeded_by k n) tail ≡ b → b ≡ false
        not_told tail f true s = absurd (false≢true (sym t ∙ ap (list_any (is_succeeded_by k n)) f ∙ any_right (is_succeeded_by k n) first_part tail s))
        not_told tail f false s = refl

        by : InFirst first_part front (evaluated k n before e) ⊎ InSecond first_part last_part front (evaluated k n before e) back → before ≡ []
        by (inl s) = rest front s.rest k n before e s.first_is t
        by (inr s) = passing_on.others s.rest back k n before e s.second_is (not_told s.rest s.front_is (list_any (is_succeeded_by k n) s.rest) refl)

    successors_step : SuccessorsInherit before_it first_part → SuccessorsInherit (met language came before_it).0 (first_part ++ last_part)
    successors_step rest front middle back j k n before e split = by (split_append first_part last_part (front ++ ended j n (Replaced k) ∷ middle) (evaluated k n before e) back (split ∙ inner_append front middle back (ended j n (Replaced k)) (evaluated k n before e)))
      where
        by_end : (tail : Journal) → last_part ≡ tail ++ evaluated k n before e ∷ back → InFirst first_part front (ended j n (Replaced k)) ⊎ InSecond first_part tail front (ended j n (Replaced k)) middle → before ≡ bag_left front n
        by_end tail f (inl s) = absurd (omega (arith, number_below front s.rest j k n s.first_is, number_above tail back k n before e f))
        by_end tail f (inr s) =
            passing_on.succeeds s.rest middle back j k n before e (f ∙ ap (λ xs. xs ++ evaluated k n before e ∷ back) s.second_is ∙ sym (inner_append s.rest middle back (ended j n (Replaced k)) (evaluated k n before e)))
            ∙ left_on s.rest n ∙ ap (λ xs. bag_left xs n) (sym s.front_is)

        by : InFirst first_part (front ++ ended j n (Replaced k) ∷ middle) (evaluated k n before e) ⊎ InSecond first_part last_part (front ++ ended j n (Replaced k) ∷ middle) (evaluated k n before e) back → before ≡ bag_left front n
        by (inl s) = rest front middle s.rest j k n before e (s.first_is ∙ sym (inner_append front middle s.rest (ended j n (Replaced k)) (evaluated k n before e)))
        by (inr s) = by_end s.rest s.second_is (split_append first_part s.rest front (ended j n (Replaced k)) middle (sym s.front_is))

  pub others_inherit : OfEachRun language OthersInheritNothing
  others_inherit opening [] = λ front back k n before e split. absurd (each_at (λ h bags. ⊥) (λ m. []) front (evaluated k n before e) back (subst (Each (λ h bags. ⊥) (λ m. [])) split tt))
  others_inherit opening (came ∷ past) = others_step opening past came (others_inherit opening past)

  pub successors_inherit : OfEachRun language SuccessorsInherit
  successors_inherit opening [] = λ front middle back j k n before e split. absurd (each_at (λ h bags. ⊥) (λ m. []) front (ended j n (Replaced k)) (middle ++ evaluated k n before e ∷ back) (subst (Each (λ h bags. ⊥) (λ m. [])) split tt))
  successors_inherit opening (came ∷ past) = successors_step opening past came (successors_inherit opening past)
