-- An editor that goes on, step by step.
use Rattle.std.proofs.Common.{◌≡◌, List, [], refl, sym, ◌∙◌, subst}
use Rattle.hmr_hub.specs.declared.pass.Pass.{Pass}
use Rattle.hmr_hub.specs.Calls.{SameKnower}
use Rattle.hub_editor.specs.Edits.{Made}
use Rattle.hub_editor.specs.Editing.{Edited, made_by}
use Rattle.hub_editor.proofs.Steps.{edited_none}
use Rattle.live_editor.specs.Editors.{GoesOn}
use Rattle.live_editor.specs.declared.live_editor.LiveEditor.{LiveEditor}

same_none : (p : Pass) → SameKnower p p
same_none p = record { mark = refl; number = refl; known = refl; alone = refl; given = refl; numbers = refl; roots = refl }

same_then : (p q r : Pass) → SameKnower p q → SameKnower q r → SameKnower p r
same_then p q r h k = record {
  mark = k.mark ∙ h.mark;
  number = k.number ∙ h.number;
  known = k.known ∙ h.known;
  alone = k.alone ∙ h.alone;
  given = k.given ∙ h.given;
  numbers = k.numbers ∙ h.numbers;
  roots = k.roots ∙ h.roots;
}

pub goes_none : (x : LiveEditor) → GoesOn x x
goes_none x = record { hub = refl; same = same_none x.pass; transcript = λ h. h; edited = λ p h. h }

pub goes_then : (x y z : LiveEditor) → GoesOn x y → GoesOn y z → GoesOn x z
goes_then x y z h k = record {
  hub = k.hub ∙ h.hub;
  same = same_then x.pass y.pass z.pass h.same k.same;
  transcript = λ t. k.transcript (h.transcript t);
  edited = λ p e. k.edited p (h.edited p e);
}

-- an editor that began at a pass with no edit, and closed at another
pub edits_done : (x y : LiveEditor) (d w : Pass) → x.pass ≡ d → made_by x.editor ≡ [] → GoesOn x y → SameKnower y.pass w
    → ((p : Pass) → Edited p y.pass (made_by y.editor) → (made : List Made) × Edited p w made) → SameKnower d w × ((made : List Made) × Edited d w made)
edits_done x y d w pass none goes same closed = (
  subst (λ z. SameKnower z w) pass (same_then x.pass y.pass w goes.same same),
  closed d (goes.edited d (subst (λ ms. Edited d x.pass ms) (sym none) (subst (λ z. Edited d z []) (sym pass) (edited_none d)))),
)
