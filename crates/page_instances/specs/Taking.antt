-- A handler is taken off an instance to be run.
use Rattle.std.specs.Prelude.{◌≡◌, ℕ, Bool, [], ◌∷◌, slice_get, Some}
use Rattle.output_lines.specs.declared.words.HandlerEnd.TheVariants.{Spent}
use Rattle.client_model.specs.Instance as model
use Rattle.client_model.specs.Instance.{places_from, with_end}
use Rattle.client_model.specs.Running.{end_after}
use Rattle.handler_table.specs.declared.handler.Handler.{Handler}
use Rattle.page_instances.specs.declared.instance.Instance.{Instance}
use Rattle.page_instances.specs.Seeing.{Sees, deed_in}

-- this handler was the first that passes the test: where it stood, and what is left
pub record TakenOff {F : Type 0} (test : model.Handler → Bool) (h : Handler F) (i : model.Instance)
    (after : Instance F) : Type 0 where
  pub spot : ℕ
  pub handler : model.Handler
  pub there : slice_get i.handlers spot ≡ Some handler
  pub does : handler.deed ≡ deed_in h
  pub ends : end_after handler.kind ≡ Spent
  pub places : places_from 0 test i.handlers ≡ spot ∷ places_from 0 test (with_end spot Spent i.handlers)
  pub sees : Sees (record i { handlers = with_end spot Spent i.handlers }) after

-- no handler passes the test, and nothing has changed
pub record Lacks {F : Type 0} (test : model.Handler → Bool) (i : model.Instance)
    (after : Instance F) : Type 0 where
  pub places : places_from 0 test i.handlers ≡ []
  pub sees : Sees i after
