-- Where results are true, each analysis is that of the text of its version.
use Rattle.std.proofs.Common.{◌≡◌, ℕ, Bool, true, false, List, [], ◌∷◌, refl, ap, sym, ◌∙◌}
use Rattle.std.specs.Prelude.{◌==◌, ◌&&◌, All, Option, Some, None, is_some, IfSome, if◌then◌else◌}
use Rattle.std.specs.List.{AllByRecursion}
use Rattle.std.proofs.Math.Path.{subst}
use Rattle.std.proofs.lemmas.Bool.{false≢true, eqb-true}
use Rattle.std.proofs.lemmas.Option.{same_Some, IfSome_then}
use Rattle.std.proofs.lemmas.List.Elements.{recursion_from_All}
use Rattle.hmr_types.specs.declared.analysis.Analysis.{Analysis}
use Rattle.hmr_types.specs.declared.analysis.Outcome.{Outcome}
use Rattle.hmr_types.specs.declared.analysis.Outcome.TheVariants.{Good, Bad}
use Rattle.core_model.specs.Names.{Name, same_name, at}
use Rattle.core_model.specs.Sources.{Text, Change, edit, result, ResultAnswer, serve, refuse, late, is_awaited, answer_of, result_answer, sources_after}
use Rattle.core_model.specs.View.{View, Entry}
use Rattle.core_model.specs.Page.{Plan}
use Rattle.core_model.specs.Core.{Event, change, connect, request, disconnect, client_at, core_after, changes_of}
use Rattle.core_model.specs.Transcript.{IsTrueEvent}
use Rattle.core_model.proofs.Naming.{same_true, both_true}
use Rattle.core_laws.specs.Given.{given_too, analysis_given, entry_of, IsGiven}
use Rattle.core_laws.specs.Written.{written}
use Rattle.core_laws.specs.Facts.{PlanIs}
use Rattle.core_laws.specs.Truth.{IsTrueChange, IsOfText, IsTrueEntry}
use Rattle.core_laws.proofs.Writing.{IsOf, answer_is, text_facts, written_stays}
use Rattle.core_laws.proofs.Events.{client_facts, served_given}

-- What is served comes of a good outcome.

abbrev is_serving : ResultAnswer → Bool
is_serving (serve a) = true
is_serving (refuse f) = false
is_serving late = false

abbrev analysis_in : Analysis → ResultAnswer → Analysis
analysis_in d (serve a) = a
analysis_in d (refuse f) = d
analysis_in d late = d

served_good : (b : Bool) (o : Outcome) (a : Analysis) → (if b then answer_of o else late) ≡ serve a → o ≡ Good a
served_good true (Good x) a h = ap (λ answer. Good (analysis_in a answer)) h
served_good true (Bad f) a h = absurd (false≢true (ap is_serving h))
served_good false o a h = absurd (false≢true (ap is_serving h))

module _ (transformed : Name → Text → Outcome) where
  edit_on : (past : List Change) (ch : Change) (n : Name) (v : ℕ) (a : Analysis) → IsOfText transformed (written past) n v a → IsOfText transformed (written (ch ∷ past)) n v a
  edit_on past ch n v a h = record { text = h.text; counted = written_stays past ch n v h.text h.counted; analysed = h.analysed }

  module _ (past : List Change) (m : Name) (t : Text) (o : Outcome) (w : ℕ) (is_true : o ≡ transformed m t) (n : Name) (v : ℕ) (a : Analysis) (before : analysis_given past n v ≡ Some a → IsOfText transformed (written past) n v a) where
    by_name : (b : Analysis) → result_answer (sources_after past) m t o w ≡ serve b → m ≡ n → w ≡ v → b ≡ a → IsOfText transformed (written past) n v a
    by_name b e f g h = record {
      text = t;
      counted = ap (λ k. written past k v) (sym f) ∙ ap (written past m) (sym g) ∙ subst (λ answer. IsOf (written past) (sources_after past) m (text_facts past) answer t w) e (answer_is (written past) (sources_after past) m (text_facts past) o t w);
      analysed = ap (λ k. transformed k t) (sym f) ∙ sym is_true ∙ served_good (is_awaited (at (sources_after past).current m) t w) o b e ∙ ap Good h;
    }

    by_test : (b : Analysis) → result_answer (sources_after past) m t o w ≡ serve b → (c : Bool) → (c ≡ true → (same_name m n ≡ true) × ((w == v) ≡ true)) → (if c then Some b else analysis_given past n v) ≡ Some a → IsOfText transformed (written past) n v a
    by_test b e true f h = let q = f refl in by_name b e (same_true m n q.0) (eqb-true w v q.1) (same_Some b a h)
    by_test b e false f h = before h

    by_answer : (answer : ResultAnswer) → result_answer (sources_after past) m t o w ≡ answer → given_too answer m w (analysis_given past) n v ≡ Some a → IsOfText transformed (written past) n v a
    by_answer (serve b) e h = by_test b e (same_name m n && w == v) (λ q. both_true (same_name m n) (w == v) q) h
    by_answer (refuse f) e h = before h
    by_answer late e h = before h

  of_text : (past : List Change) → AllByRecursion (IsTrueChange transformed) past → (n : Name) (v : ℕ) (a : Analysis) → analysis_given past n v ≡ Some a → IsOfText transformed (written past) n v a
  of_text [] w n v a h = absurd (false≢true (ap is_some h))
  of_text (edit m t ∷ past) w n v a h = edit_on past (edit m t) n v a (of_text past w.1 n v a h)
  of_text (result m t o x ∷ past) w n v a h = by_answer past m t o x w.0 n v a (of_text past w.1 n v a) (result_answer (sources_after past) m t o x) refl h

  changes_true : (past : List Event) → AllByRecursion (IsTrueEvent transformed) past → AllByRecursion (IsTrueChange transformed) (changes_of past)
  changes_true [] w = tt
  changes_true (change ch ∷ past) w = (w.0, changes_true past w.1)
  changes_true (connect names ∷ past) w = changes_true past w.1
  changes_true (request i r ∷ past) w = changes_true past w.1
  changes_true (disconnect i ∷ past) w = changes_true past w.1

  -- the analysis of a version is that of its text
  pub given_true : (past : List Change) → All (IsTrueChange transformed) past → (n : Name) (v : ℕ) (a : Analysis) → analysis_given past n v ≡ Some a → IsOfText transformed (written past) n v a
  given_true past w = of_text past (recursion_from_All (IsTrueChange transformed) past w)

  module _ (roots : List Name) (past : List Event) (w : All (IsTrueEvent transformed) past) where
    entry_true : (n : Name) (o : Option Entry) → IsGiven (analysis_given (changes_of past) n) o → IfSome o (IsTrueEntry transformed (written (changes_of past)) n)
    entry_true n None h = tt
    entry_true n (Some e) h = of_text (changes_of past) (changes_true past (recursion_from_All (IsTrueEvent transformed) past w)) n e.version e.analysis h

    pub served_true : (n : Name) → IfSome (entry_of (at (core_after roots past).sources.served n)) (IsTrueEntry transformed (written (changes_of past)) n)
    served_true n = entry_true n (entry_of (at (core_after roots past).sources.served n)) (served_given roots past n)

    pub view_true : (i : ℕ) (n : Name) → IfSome (client_at (core_after roots past).clients i) (λ c. IfSome (at c.page.view n) (IsTrueEntry transformed (written (changes_of past)) n))
    view_true i n = IfSome_then (client_at (core_after roots past).clients i) (client_facts roots past i) (λ c facts. entry_true n (at c.page.view n) (facts.viewed n))

    plan_true : (n : Name) (own : List Name) (loaded : Bool) (view : View) (forced : List Name) (plan : Option Plan) → PlanIs plan own (analysis_given (changes_of past)) loaded view forced → IfSome plan (λ p. IfSome (at p.staged n) (IsTrueEntry transformed (written (changes_of past)) n))
    plan_true n own loaded view forced None h = tt
    plan_true n own loaded view forced (Some p) h = entry_true n (at p.staged n) (h.1 n)

    pub staged_true : (i : ℕ) (n : Name) → IfSome (client_at (core_after roots past).clients i) (λ c. IfSome c.page.plan (λ p. IfSome (at p.staged n) (IsTrueEntry transformed (written (changes_of past)) n)))
    staged_true i n = IfSome_then (client_at (core_after roots past).clients i) (client_facts roots past i) (λ c facts. plan_true n c.roots c.page.loaded c.page.view c.page.forced c.page.plan facts.planned)
