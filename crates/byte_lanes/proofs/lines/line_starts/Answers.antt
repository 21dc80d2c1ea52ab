use Rattle.std.proofs.Common.{◌≡◌, ◌+◌, ◌<◌, ◌++◌, [], ◌∷◌, length, drop, take, sym, ap, ◌∙◌, arith, append_assoc}
use Rattle.std.proofs.lemmas.List.{append-nil, drop-drop, take_rest, take_more_set, drop-set-lt, take-append-drop, length-drop, length-set}
use Rattle.std.proofs.lemmas.Grind.{drop_more_same}
use Rattle.module_semantics.specs.Lines.{line_feeds}
use Rattle.byte_lanes.proofs.LineStarts.{go_on, end}
use Rattle.byte_lanes.specs.Starts.{starts_after}
use Rattle.byte_lanes.proofs.lines.line_starts.Goals as goal

pub loop-line-init : goal.loop-line-init
loop-line-init c =
    let into = c.args.into.now in
    let room : 0 < length into = omega (arith, c.requires.room) in (
      omega arith,
      length-set into 0 0,
      omega arith,
      ap (λ front. front ++ starts_after 0 c.args.text.now) (take_more_set into 0 0 room),
      drop-set-lt 1 into 0 0 (omega arith),
    )

pub bounds-into-count : goal.bounds-into-count
bounds-into-count c =
    let l = c.loop-line in
    let there = go_on l.start (drop l.start c.args.text.now) c.in-Some.line (sym (rw take_rest at c.in-Some.ensures)) in
    omega (arith, there.2, l.invariant.1, l.invariant.2, c.requires.room)

pub loop-line-preserved : goal.loop-line-preserved
loop-line-preserved c =
    let l = c.loop-line in
    let text = c.args.text.now in
    let next = l.start + (c.in-Some.line + 1) in
    let there = go_on l.start (drop l.start text) c.in-Some.line (sym (rw take_rest at c.in-Some.ensures)) in
    let left : drop (c.in-Some.line + 1) (drop l.start text) ≡ drop next text = drop-drop (c.in-Some.line + 1) l.start text in
    let room : l.count < length l.into = omega (arith, there.2, l.invariant.1, l.invariant.2, c.requires.room) in (
      omega (arith, there.0, length-drop l.start text, l.invariant.0),
      length-set l.into l.count next ∙ l.invariant.1,
      omega (arith, there.2, ap line_feeds left, l.invariant.2),
      ap (λ front. front ++ starts_after next (drop next text)) (take_more_set l.into l.count next room)
          ∙ append_assoc (take l.count l.into) (next ∷ []) (starts_after next (drop next text))
          ∙ ap (λ ys. take l.count l.into ++ (next ∷ starts_after next ys)) (sym left) ∙ ap (λ ys. take l.count l.into ++ ys) (sym there.1) ∙ l.invariant.3,
      drop-set-lt (l.count + 1) l.into l.count next (omega arith) ∙ drop_more_same l.into c.args.into.now l.count l.invariant.4,
    )

pub returns-clause-count : goal.returns-clause-count
returns-clause-count c =
    let l = c.loop-line in
    omega (arith, (end l.start (drop l.start c.args.text.now) (sym (rw take_rest at c.in_default.ensures))).1, l.invariant.2)

pub returns-clause-written : goal.returns-clause-written
returns-clause-written c =
    let l = c.loop-line in
    let none = (end l.start (drop l.start c.args.text.now) (sym (rw take_rest at c.in_default.ensures))).0 in
    let front = sym (append-nil (take l.count l.into)) ∙ ap (λ ys. take l.count l.into ++ ys) (sym none) ∙ l.invariant.3 in
    sym (take-append-drop l.count l.into) ∙ ap (λ ys. ys ++ drop l.count l.into) front ∙ ap (λ ys. (0 ∷ starts_after 0 c.args.text.now) ++ ys) l.invariant.4
