-- What is known of each closure stays known as one instance changes.
use Rattle.std.proofs.Common.{◌≡◌, ℕ, ◌<◌, List, length, get_or, ap, sym, ◌∙◌}
use Rattle.std.specs.Prelude.{Some, slice_get, slice_set}
use Rattle.std.specs.List.{All}
use Rattle.std.proofs.Math.Path.{subst}
use Rattle.std.proofs.lemmas.Option.{same_Some}
use Rattle.std.proofs.lemmas.List.Elements.{All-get_or, All-set}
use Rattle.output_lines.specs.declared.out_line.OutLine.{OutLine}
use Rattle.output_lines.specs.declared.words.FaultPlace.{FaultPlace}
use Rattle.client_model.specs.Language.{Ran}
use Rattle.handler_table.specs.Held.{Answers, IsHost}
use Rattle.handler_table.specs.Handlers.{KeepTheirWord}
use Rattle.page_instances.specs.declared.instance.Instance.{Instance}
use Rattle.page_state.specs.declared.page.Page.{Page}
use Rattle.page_state.specs.Standing.{KeepWords}
use Rattle.page_state.specs.Settling.{Settles}
use Rattle.page_state.proofs.Matching.{set_same}

pub word_at : {F : Type 0} (answers : Answers F) (p : Page F) (place : ℕ) (c : Instance F) → place < length p.instances.items → c ≡ get_or p.instances.items place c → KeepWords answers p → KeepTheirWord answers c.held
word_at answers p place c within is words = subst (λ x. KeepTheirWord answers x.held) (sym is) (All-get_or (λ x. KeepTheirWord answers x.held) p.instances.items place c within words.instances)

pub words_set : {F : Type 0} (answers : Answers F) (p q : Page F) (place : ℕ) (d : Instance F) → q.instances.items ≡ slice_set p.instances.items place d → q.shelf ≡ p.shelf
    → KeepTheirWord answers d.held → KeepWords answers p → KeepWords answers q
words_set answers p q place d set shelf word words = record {
  instances = subst (All (λ x. KeepTheirWord answers x.held)) (sym set) (All-set (λ x. KeepTheirWord answers x.held) p.instances.items place d word words.instances);
  shelf = subst (All (IsHost answers)) (sym shelf) words.shelf;
}

pub words_settled : {F : Type 0} (answers : Answers F) (p m q : Page F) (c d : Instance F) (at : FaultPlace) (left : Ran) (place : ℕ) (told tells : List OutLine)
    → slice_get p.instances.items place ≡ Some c → m.instances.items ≡ slice_set p.instances.items place d → m.shelf ≡ p.shelf → KeepTheirWord answers d.held → KeepWords answers p → Settles at left place m q told tells → KeepWords answers q
words_settled answers p m q c d at left place told tells there set shelf word words settles =
    let same : settles.instance ≡ d = same_Some _ _ (sym settles.there ∙ ap (λ cs. slice_get cs place) set ∙ set_same p.instances.items place d c there) in
    words_set answers m q place settles.changed settles.instances settles.shelf (subst (KeepTheirWord answers) (sym (ap (λ x. x.held) settles.rest ∙ ap (λ x. x.held) same)) word)
    (words_set answers p m place d set shelf word words)
