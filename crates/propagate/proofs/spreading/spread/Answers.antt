use Rattle.std.proofs.Common.{◌↔◌, List, sym, ap, ◌∙◌, Contains}
use Rattle.std.specs.Cmp.Lexicographic.{slice_cmp}
use Rattle.std.specs.List.Sorted.{IsStrictlySortedBy}
use Rattle.std.specs.Ordering.{nat_cmp}
use Rattle.std.proofs.Math.Path.{subst}
use Rattle.core_model.specs.Names.{Name}
use Rattle.core_model.specs.Spread.{IsReplaced, IsPair, pairs_of}
use Rattle.core_model.proofs.Pairing.{pairs_are}
use Rattle.core_model.proofs.Spreading.{replaced_are}
use Rattle.propagate.specs.Pairs.{pair_cmp}
use Rattle.propagate.proofs.Onward.{reason_same, replaced_rising}
use Rattle.propagate.proofs.Telling.{pairs_rise}
use Rattle.propagate.proofs.spreading.spread.Goals as goal

pub pairs-requires-clause-replaced : goal.pairs-requires-clause-replaced
pairs-requires-clause-replaced c = subst (λ (l : List Name). (m : Name) → Contains l m ↔ IsReplaced c.args.view.now c.args.changed.now c.args.forced.now m)
    (sym (c.deref.ensures.value ∙ c.in_ok-replaced.ensures)) (replaced_are c.args.view.now c.args.changed.now c.args.forced.now)

pub returns-clause-reason_computed : goal.returns-clause-reason_computed
returns-clause-reason_computed c = reason_same c.args.view.now c.args.roots.now c.args.changed.now c.args.forced.now c.in_ok-reload.reload c.in_ok-reload.ensures.reason c.in_ok-reload.ensures.none

pub returns-clause-replaced : goal.returns-clause-replaced
returns-clause-replaced c = subst (λ (l : List Name). (m : Name) → Contains l m ↔ IsReplaced c.args.view.now c.args.changed.now c.args.forced.now m)
    (sym (c.from_vec.ensures ∙ c.in_ok-replaced.ensures)) (replaced_are c.args.view.now c.args.changed.now c.args.forced.now)

pub returns-clause-replaced_rising : goal.returns-clause-replaced_rising
returns-clause-replaced_rising c = subst (IsStrictlySortedBy (slice_cmp nat_cmp)) (sym (c.from_vec.ensures ∙ c.in_ok-replaced.ensures)) (replaced_rising c.args.view.now c.args.changed.now c.args.forced.now)

pub returns-clause-replaced_computed : goal.returns-clause-replaced_computed
returns-clause-replaced_computed c = c.from_vec.ensures ∙ c.in_ok-replaced.ensures

pub returns-clause-pairs : goal.returns-clause-pairs
returns-clause-pairs c =
    let view = c.args.view.now in
    let changed = c.args.changed.now in
    let forced = c.args.forced.now in
    subst (λ (l : List (Name × Name)). (m n : Name) → Contains l (m, n) ↔ IsPair view changed forced m n) (sym (c.from_vec-2.ensures ∙ c.in_ok-pairs.ensures))
    (pairs_are view changed forced c.deref.result.now
    (subst (λ (l : List Name). (m : Name) → Contains l m ↔ IsReplaced view changed forced m) (sym (c.deref.ensures.value ∙ c.in_ok-replaced.ensures)) (replaced_are view changed forced))
    c.requires.changed c.requires.forced)

pub returns-clause-pairs_rising : goal.returns-clause-pairs_rising
returns-clause-pairs_rising c = subst (IsStrictlySortedBy pair_cmp) (sym (c.from_vec-2.ensures ∙ c.in_ok-pairs.ensures)) (pairs_rise c.args.view.now c.deref.result.now c.args.forced.now)

pub returns-clause-pairs_computed : goal.returns-clause-pairs_computed
returns-clause-pairs_computed c = c.from_vec-2.ensures ∙ c.in_ok-pairs.ensures ∙ ap (λ (l : List Name). pairs_of c.args.view.now l c.args.forced.now) (c.deref.ensures.value ∙ sym c.from_vec.ensures)
