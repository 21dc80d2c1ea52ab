-- What an editor of a live server keeps while it goes on.
use Rattle.std.specs.Prelude.{◌≡◌}
use Rattle.hmr_hub.specs.declared.pass.Pass.{Pass}
use Rattle.hmr_hub.specs.Calls.{SameKnower}
use Rattle.hmr_hub.specs.Passes.{HasTranscript}
use Rattle.hub_editor.specs.Editing.{Edited, made_by}
use Rattle.live_editor.specs.declared.live_editor.LiveEditor.{LiveEditor}

-- It has the same hub, and its pass knows the same numbers. What came under the editor's number is just the
-- edits that it made since, each once and in order, with their results; each edit was answered at its place.
pub record GoesOn (x y : LiveEditor) : Type 0 where
  pub hub : y.hub ≡ x.hub
  pub same : SameKnower x.pass y.pass
  pub transcript : HasTranscript x.pass → HasTranscript y.pass
  pub edited : (p : Pass) → Edited p x.pass (made_by x.editor) → Edited p y.pass (made_by y.editor)
