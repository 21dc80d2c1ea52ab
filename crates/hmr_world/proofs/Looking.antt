-- What the world shows.
use Rattle.std.proofs.Common.{◌≡◌, ℕ, Bool, true, false, List, [], ◌∷◌, ◌++◌, refl, sym, ap, ◌∙◌}
use Rattle.std.specs.Prelude.{◌&&◌, map, Ok, Option, Some, None, option_map, if◌then◌else◌}
use Prim.{⊥}
use Rattle.std.specs.Global.{Vec}
use Rattle.std.proofs.Math.Path.{subst}
use Rattle.std.proofs.lemmas.Option.{none-some, same_Some}
use Rattle.output_lines.specs.declared.out_line.OutLine.{OutLine}
use Rattle.output_lines.specs.declared.out_line.OutLine.TheVariants as line
use Rattle.output_lines.specs.declared.words.ClientState.{ClientState}
use Rattle.output_lines.specs.declared.words.ClientState.TheVariants.{Up, Behind}
use Rattle.core_model.specs.Names.{Name}
use Rattle.core_model.specs.FreshLoad.{FreshLoad, fresh_load}
use Rattle.core_model.specs.Client.{Client}
use Rattle.core_model.specs.Core.{client_at}
use Rattle.client_model.specs.Past.{Past, runtime_after}
use Rattle.client_model.specs.Printing.{is_at_rest, show_lines, module_line, stale_line, table}
use Rattle.client_model.specs.Runtime.{Runtime, Opening}
use Rattle.client_model.specs.Stale.{stale_of}
use Rattle.import_links.specs.Links.{links}
use Rattle.module_language.specs.ModuleLanguage.{module_language}
use Rattle.runtime_state.specs.Standing as runtimes
use Rattle.runtime_state.specs.declared.runtime.HotRuntime.{HotRuntime}
use Rattle.fresh_loads.specs.Fresh.{load_of}
use Rattle.server_core.specs.Reading.{is_resting, rests}
use Rattle.server_core.specs.Loads.{load_at}
use Rattle.fresh_loads.specs.declared.loading.Fresh.{Fresh}
use Rattle.world_model.specs.CaughtUp.{is_caught_up, state_of}
use Rattle.world_model.specs.Playing.{is_up, is_up_in}
use Rattle.world_model.specs.Steps.{loaded_anew, load_lines, fresh_lines, fresh_of_lines}
use Rattle.world_model.specs.Ties.{TiedAt}
use Rattle.world_model.specs.Turning.{shown, state_in}
use Rattle.world_model.specs.World.{Step, stepped, show, fresh, fresh_of}
use Rattle.world_model.proofs.Tying.{run_sound}
use Rattle.world_laws.specs.Runs.{Run, world_of}
use Rattle.hmr_world.specs.Clients.{IsRuntime}
use Rattle.hmr_world.specs.Standing.{IsStepped, StandsFor}
use Rattle.run_promises.specs.RunSteps.{stage_of, step_in}
use Rattle.hmr_world.specs.declared.world.World.{World}
use Rattle.hmr_world.proofs.Opened.{Opened, opened_at, closed_at}
use Rattle.hmr_world.proofs.Stepped.{stepped_by}
use Rattle.world_parts.proofs.Resting.{Recorded, recorded_by, rest_is, shown_state, state_is}
use Rattle.world_parts.proofs.Cores.{IsReadOfCore, core_of}
use Rattle.world_parts.proofs.Loading.{load_is}

module _ {F : Type 0} (run : Run) (i : ℕ) (world : World F) (stands : StandsFor run world) where
  -- the client isn't open
  pub look_unknown : (s : Step) (lines : Runtime → List OutLine) (shows : Vec OutLine)
      → step_in run s ≡ shown i (world_of run) lines (client_at (world_of run).clients i)
      → client_at world.clients.items i ≡ None → shows.items ≡ line.Unknown i ∷ []
      → IsStepped run s world (Ok shows)
  look_unknown s lines shows is none e =
      let gone = closed_at (world_of run).clients world.clients.items i stands.has.clients none in
      stepped_by run s world (Ok shows) (stepped (world_of run) (line.Unknown i ∷ []))
      (is ∙ ap (shown i (world_of run) lines) gone)
      (ap Some (sym e)) stands.has

  module _ (h : HotRuntime F) (there : client_at world.clients.items i ≡ Some h) where
    abbrev pub opened : Opened (world_of run).clients i h
    opened = opened_at (world_of run).clients world.clients.items i h stands.has.clients there

    -- the client is open, and shows these lines
    pub look_step : (s : Step) (lines : Runtime → List OutLine) (shows : Vec OutLine)
        → step_in run s ≡ shown i (world_of run) lines (client_at (world_of run).clients i)
        → shows.items ≡ lines opened.r → IsStepped run s world (Ok shows)
    look_step s lines shows is e = stepped_by run s world (Ok shows) (stepped (world_of run) (lines opened.r))
        (is ∙ ap (shown i (world_of run) lines) opened.there) (ap Some (sym e)) stands.has

    pub tie : Recorded i (client_at (world_of run).core.clients i) opened.r
    tie =
        let record_there = client_at (world_of run).core.clients i in
        let ties = (run_sound module_language run.roots run.shelves run.steps stands.went).tied in
        recorded_by i record_there opened.r (subst (TiedAt i record_there) opened.there (ties i))

-- this is read of the runtime
abbrev pub IsRead : {F X : Type 0} → HotRuntime F → X → (Runtime → X) → Type 0
IsRead h x f = (opening : Opening) (past : Past) → runtimes.StandsFor opening past h
    → x ≡ f (runtime_after module_language opening past)

-- and so of that of the definitions
pub read_of : {F X : Type 0} (h : HotRuntime F) (x : X) (f : Runtime → X) → IsRead h x f
    → (r : Runtime) → IsRuntime r h → x ≡ f r
read_of h x f g r k = g k.opening k.past k.stands ∙ ap f k.is

module _ {F : Type 0} (run : Run) (i : ℕ) (world : World F) (stands : StandsFor run world) where
  -- a client that isn't open isn't caught up
  pub up_unknown : client_at world.clients.items i ≡ None
      → false ≡ is_up_in (stage_of run) (world_of run) i (client_at (world_of run).clients i)
  up_unknown none =
      ap (is_up_in (stage_of run) (world_of run) i)
      (sym (closed_at (world_of run).clients world.clients.items i stands.has.clients none))

  module _ (h : HotRuntime F) (there : client_at world.clients.items i ≡ Some h) where
    up_both : (rests_here : Bool) → IsReadOfCore world.core rests_here (λ c. is_resting c i)
        → (rests_here && is_at_rest (opened run i world stands h there).r) ≡ is_up_in (stage_of run)
        (world_of run) i (client_at (world_of run).clients i)
    up_both rests_here here =
        let o = opened run i world stands h there in
        let t = tie run i world stands h there in
        let core : rests_here ≡ rests (world_of run).core.sources (Some t.c) =
        core_of world.core rests_here (λ c. is_resting c i) here (world_of run).core stands.has.core
        ∙ ap (rests (world_of run).core.sources) t.there in
        ap (λ b. b && is_at_rest o.r) core
        ∙ rest_is i (world_of run).core.sources t.c o.r t.tied
        ∙ sym (state_is (is_caught_up (world_of run).core.sources t.c o.r))
        ∙ ap (λ k. is_up (state_of (world_of run).core.sources k o.r)) (sym t.there)
        ∙ ap (is_up_in (stage_of run) (world_of run) i) (sym o.there)

    -- a client isn't caught up where the core has something to do for it
    pub up_not : (rests_here : Bool) → rests_here ≡ false
        → IsReadOfCore world.core rests_here (λ c. is_resting c i)
        → false ≡ is_up_in (stage_of run) (world_of run) i (client_at (world_of run).clients i)
    up_not rests_here e here =
        ap (λ b. b && is_at_rest (opened run i world stands h there).r) (sym e) ∙ up_both rests_here here

    -- else it is where its runtime is at rest
    pub up_known : (rests_here rests_there : Bool) → rests_here ≡ true
        → IsReadOfCore world.core rests_here (λ c. is_resting c i)
        → IsRead h rests_there is_at_rest
        → rests_there ≡ is_up_in (stage_of run) (world_of run) i (client_at (world_of run).clients i)
    up_known rests_here rests_there e here there_too =
        let o = opened run i world stands h there in
        read_of h rests_there is_at_rest there_too o.r o.is ∙ ap (λ b. b && is_at_rest o.r) (sym e)
        ∙ up_both rests_here here

module _ {F : Type 0} (run : Run) (world : World F) (stands : StandsFor run world) where
  -- what the server's roots would load anew
  pub fresh_step : (load : Fresh) (shows : Vec OutLine)
      → IsReadOfCore world.core (load_of load) (λ c. fresh_load links c.sources.served world.core.roots)
      → shows.items ≡ line.Fresh ∷ load_lines (load_of load) → IsStepped run fresh world (Ok shows)
  fresh_step load shows f e =
      let same : load_of load ≡ loaded_anew module_language (world_of run) run.roots =
      core_of world.core (load_of load) (λ c. fresh_load links c.sources.served world.core.roots) f
      (world_of run).core stands.has.core
      ∙ ap (fresh_load links (world_of run).core.sources.served) stands.has.roots_are
      ∙ load_is (world_of run).core.sources.served run.roots in
      stepped_by run fresh world (Ok shows)
      (stepped (world_of run) (fresh_lines (loaded_anew module_language (world_of run) run.roots))) refl
      (ap Some (sym (e ∙ ap (λ l. line.Fresh ∷ load_lines l) same))) stands.has

module _ {F : Type 0} (run : Run) (i : ℕ) (world : World F) (stands : StandsFor run world)
    (h : HotRuntime F) (there : client_at world.clients.items i ≡ Some h) where
  -- what is read of the runtime is shown
  pub read_step : (s : Step) (lines : Runtime → List OutLine) (shows : Vec OutLine)
      → step_in run s ≡ shown i (world_of run) lines (client_at (world_of run).clients i)
      → IsRead h shows.items lines → IsStepped run s world (Ok shows)
  read_step s lines shows is f =
      let o = opened run i world stands h there in
      look_step run i world stands h there s lines shows is (read_of h shows.items lines f o.r o.is)

  -- whether it is caught up, its modules and its stale edges
  pub show_step : (up : Bool) (state : ClientState) (modules : List (Name × ℕ)) (edges : List (Name × Name))
      (first lines : List OutLine) (shows : Vec OutLine)
      → up ≡ is_up_in (stage_of run) (world_of run) i (client_at (world_of run).clients i)
      → state ≡ (if up then Up else Behind)
      → IsRead h modules table
      → IsRead h edges stale_of
      → first ≡ line.Client i state ∷ []
      → lines ≡ first ++ map module_line modules
      → shows.items ≡ lines ++ map stale_line edges
      → IsStepped run (show i) world (Ok shows)
  show_step up state modules edges first lines shows up_is state_e modules_are edges_are first_is lines_are e =
      let o = opened run i world stands h there in
      let t = tie run i world stands h there in
      let told : ClientState = state_in (world_of run) i o.r in
      let same_state : state ≡ told =
      state_e
      ∙ ap (λ b. if b then Up else Behind) (up_is ∙ ap (is_up_in (stage_of run) (world_of run) i) o.there)
      ∙ shown_state told in
      look_step run i world stands h there (show i) (λ r. show_lines (state_in (world_of run) i r) r) shows refl
      (e
      ∙ ap (λ l. l ++ map stale_line edges) (lines_are ∙ ap (λ l. l ++ map module_line modules) first_is)
      ∙ ap (λ k. line.Client i k ∷ (map module_line modules ++ map stale_line edges)) same_state
      ∙ ap (λ n. line.Client n told ∷ (map module_line modules ++ map stale_line edges)) (sym t.tied.number)
      ∙ ap (λ l. line.Client o.r.client told ∷ (map module_line l ++ map stale_line edges))
      (read_of h modules table modules_are o.r o.is)
      ∙ ap (λ l. line.Client o.r.client told ∷ (map module_line (table o.r) ++ map stale_line l))
      (read_of h edges stale_of edges_are o.r o.is))

  load_at_is : (load : Option FreshLoad) → IsReadOfCore world.core load (λ c. load_at c i)
      → load ≡ Some (loaded_anew module_language (world_of run) (opened run i world stands h there).r.roots)
  load_at_is load f =
      let o = opened run i world stands h there in
      let t = tie run i world stands h there in
      let served = (world_of run).core.sources.served in
      core_of world.core load (λ c. load_at c i) f (world_of run).core stands.has.core
      ∙ ap (option_map (λ (c : Client). fresh_load links served c.roots)) t.there
      ∙ ap (λ roots. Some (fresh_load links served roots)) (sym t.tied.roots_are)
      ∙ ap Some (load_is served o.r.roots)

  -- what its own roots would load anew
  pub fresh_of_step : (load : Fresh) (shows : Vec OutLine)
      → IsReadOfCore world.core (option_map load_of (Some load)) (λ c. load_at c i)
      → shows.items ≡ line.FreshOf i ∷ load_lines (load_of load) → IsStepped run (fresh_of i) world (Ok shows)
  fresh_of_step load shows f e =
      look_step run i world stands h there (fresh_of i)
      (λ r. fresh_of_lines i (loaded_anew module_language (world_of run) r.roots)) shows refl
      (e ∙ ap (λ l. line.FreshOf i ∷ load_lines l) (same_Some _ _ (load_at_is (Some (load_of load)) f)))

  -- an open client has a record
  pub fresh_of_some : IsReadOfCore {X = Option FreshLoad} world.core None (λ c. load_at c i) → ⊥
  fresh_of_some f = none-some _ (load_at_is None f)
