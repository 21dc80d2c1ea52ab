-- The event that the core would be told in a step, as the code has it.
use Rattle.std.proofs.Common.{◌≡◌, ℕ, refl, sym, ap, ◌∙◌}
use Rattle.std.specs.Prelude.{Option, Some, None, find, option_map}
use Rattle.update_msgs.specs.declared.message.ClientMsg.{ClientMsg}
use Rattle.core_model.specs.Names.{Name}
use Rattle.core_model.specs.Sources.{Text, result}
use Rattle.core_model.specs.Core.{Event, change, disconnect, client_at}
use Rattle.core_model.specs.Exchange.{event_of}
use Rattle.client_model.specs.Requesting.{request}
use Rattle.module_language.specs.ModuleLanguage.{module_language}
use Rattle.runtime_state.specs.declared.runtime.HotRuntime.{HotRuntime}
use Rattle.world_model.specs.Editing.{is_job}
use Rattle.world_model.specs.World.{Job, World, settles, turn, closes}
use Rattle.world_laws.specs.Runs.{Run, world_of}
use Rattle.run_promises.specs.Events.{bye_of, event_in, request_of, result_of}
use Rattle.hmr_world.specs.Standing.{StandsFor}
use Rattle.hmr_world.specs.declared.world.World as code
use Rattle.hmr_world.proofs.Looking.{IsRead, opened, read_of}
use Rattle.hmr_world.proofs.Opened.{closed_at}

-- the result of a text
abbrev pub result_for : Name → ℕ → Text → Event
result_for n v t = change (result n t (module_language.transformed n t) v)

by_text : (n : Name) (v : ℕ) (j : Option Job)
    → option_map (result_for n v) (option_map (λ (j : Job). j.text) j) ≡ result_of module_language n v j
by_text n v None = refl
by_text n v (Some j) = refl

module _ {F : Type 0} (run : Run) (world : code.World F) (stands : StandsFor run world) where
  abbrev w : World
  w = world_of run

  -- the result of the job's text, if there is such a job
  pub told_result : (n : Name) (v : ℕ) (t : Option Text)
      → t ≡ option_map (λ (j : Job). j.text) (find (is_job n v) world.jobs)
      → option_map (result_for n v) t ≡ event_in run (settles n v)
  told_result n v t is =
      ap (option_map (result_for n v)) is
      ∙ by_text n v (find (is_job n v) world.jobs)
      ∙ ap (λ js. result_of module_language n v (find (is_job n v) js)) stands.has.jobs

  module _ (i : ℕ) where
    -- the client isn't open
    module _ (none : client_at world.clients.items i ≡ None) where
      closed : None ≡ client_at w.clients i
      closed = sym (closed_at w.clients world.clients.items i stands.has.clients none)

      pub no_request : None ≡ event_in run (turn i)
      no_request = ap (request_of module_language i) closed

      pub no_bye : None ≡ event_in run (closes i)
      no_bye = ap (bye_of i) closed

    -- the client is open
    module _ (h : HotRuntime F) (there : client_at world.clients.items i ≡ Some h) where
      pub told_request : (asked : ClientMsg) → IsRead h asked (request module_language)
          → Some (event_of i asked) ≡ event_in run (turn i)
      told_request asked is =
          let o = opened run i world stands h there in
          ap (λ m. Some (event_of i m)) (read_of h asked (request module_language) is o.r o.is)
          ∙ ap (request_of module_language i) (sym o.there)

      pub told_bye : Some (disconnect i) ≡ event_in run (closes i)
      told_bye = ap (bye_of i) (sym (opened run i world stands h there).there)
