-- The roots of an open client's page are those that it named at its hello; where it named none, the server's.
use Rattle.std.proofs.Common.{◌≡◌, ℕ, ◌+◌, ◌≤◌, Bool, true, false, List, [], ◌∷◌, refl, ap, sym, ◌∙◌}
use Rattle.std.specs.Prelude.{find, ◌==◌, Option, Some, None, is_some, option_map, if◌then◌else◌, ⊤}
use Rattle.std.proofs.Math.Path.{subst}
use Rattle.std.proofs.lemmas.Bool.{false≢true, eqb-true}
use Rattle.hmr_types.specs.declared.value.Value.{Value}
use Rattle.output_lines.specs.declared.out_line.OutLine.{OutLine}
use Rattle.update_msgs.specs.declared.message.ServerMsg.{ServerMsg}
use Rattle.core_model.specs.Names.{Name}
use Rattle.core_model.specs.Sources.{Text, Change, edit, result}
use Rattle.core_model.specs.Roots.{are_bad, roots_or}
use Rattle.core_model.specs.Client.{Client, new_client}
use Rattle.core_model.specs.Core.{client_at, without_client, told_of, after_change, is_full, if_room, connected, disconnected, admitted}
use Rattle.core_model.specs.Exchange.{message_for}
use Rattle.core_model.proofs.Clients.{at_with, at_without, at_each}
use Rattle.client_model.specs.Language.{Language}
use Rattle.client_model.specs.Runtime.{Runtime}
use Rattle.client_model.specs.Requesting.{request_by}
use Rattle.client_model.specs.Firing.{fire}
use Rattle.client_model.specs.Past.{Past}
use Rattle.world_model.specs.World.{World, Job, Step, edits, settles, opens, turn, closes, show, values, fates, fresh, fresh_of, fires}
use Rattle.world_model.specs.Editing.{is_job, settle_job}
use Rattle.world_model.specs.Turning.{turn_of, open_by, connected_as, close_of, shown, fire_of, opening_of}
use Rattle.world_model.specs.Steps.{world_step, world_after}
use Rattle.world_model.specs.Ties.{TiedAt, WentOn}
use Rattle.world_model.proofs.Tying.{IsSound, change_roots, run_sound}
use Rattle.world_laws.specs.Taken.{Life, message_too, in_turn, in_open, in_fire, lived_in, life_of}
use Rattle.world_laws.proofs.TurnsTaken.{heard_by, heard_by_roots, Turned, turned}

module _ (language : Language) (roots : List Name) (shelves : List (List (Text × ℕ))) where
  -- the record of an open client has these roots
  abbrev RootsAt : Life → Option Client → Option Runtime → Type 0
  RootsAt life None r = ⊤
  RootsAt life (Some c) None = ⊤
  RootsAt life (Some c) (Some r) = c.roots ≡ roots_or life.opening.roots roots

  abbrev HaveRoots : (ℕ → Life) → World → Type 0
  HaveRoots lives w = (i : ℕ) → RootsAt (lives i) (client_at w.core.clients i) (client_at w.clients i)

  -- Edits and results.

  told_roots : (life : Life) (f : Client → Client) → ((c : Client) → (f c).roots ≡ c.roots) → (c : Option Client) (r : Option Runtime) → RootsAt life c r → RootsAt life (option_map f c) r
  told_roots life f same None r h = tt
  told_roots life f same (Some c) None h = tt
  told_roots life f same (Some c) (Some r) h = same c ∙ h

  change_keeps : (lives : ℕ → Life) (w : World) (ch : Change) → HaveRoots lives w → (i : ℕ) → RootsAt (lives i) (client_at (after_change w.core ch).clients i) (client_at w.clients i)
  change_keeps lives w ch h i = subst (λ o. RootsAt (lives i) o (client_at w.clients i)) (sym (at_each (told_of w.core.sources ch) w.core.clients i))
      (told_roots (lives i) (told_of w.core.sources ch) (change_roots w.core.sources ch) (client_at w.core.clients i) (client_at w.clients i) (h i))

  settled : (lives : ℕ → Life) (n : Name) (v : ℕ) (w : World) (o : Option Job) → HaveRoots lives w → HaveRoots lives (settle_job language roots n v w o).world
  settled lives n v w None h = h
  settled lives n v w (Some j) h = change_keeps lives w (result n j.text (language.transformed n j.text) v) h

  -- Clients that come.

  born_if : (life : Life) (j : ℕ) (format : ℕ) (names : List Name) (m : Option ServerMsg) (b : Bool) (c : Client) (r : Runtime) (oc : Option Client) (or : Option Runtime) → c.roots ≡ roots_or names roots → RootsAt life oc or
      → RootsAt (if b then record { opening = opening_of shelves format names j; past = message_too m [] } else life) (if b then Some c else oc) (if b then Some r else or)
  born_if life j format names m true c r oc or e h = e
  born_if life j format names m false c r oc or e h = h

  room : (lives : ℕ → Life) (format : ℕ) (names : List Name) (w : World) (full : Bool) → HaveRoots lives w
      → let after = if_room full (roots_or names roots) w.core in
      HaveRoots (λ i. in_open shelves format names (message_for format after.1) (connected_as (message_for format after.1)) i (lives i)) (open_by language shelves format names w after).world
  room lives format names w true h i = h i
  room lives format names w false h i =
      let j : ℕ = w.core.given + 1 in
      let c : Client = new_client (roots_or names roots) w.core.sources.served_no in
      let after = admitted (roots_or names roots) w.core in
      let m : Option ServerMsg = message_for format after.1 in
      let life : Life = if j == i then record { opening = opening_of shelves format names j; past = message_too m [] } else lives i in
      let world : World = (open_by language shelves format names w after).world in
      subst (λ o. RootsAt life o (client_at world.clients i)) (sym (at_with j c w.core.clients i))
      (subst (λ o. RootsAt life (if j == i then Some c else client_at w.core.clients i) o) (sym (at_with j _ w.clients i))
      (born_if (lives i) j format names m (j == i) c _ (client_at w.core.clients i) (client_at w.clients i) refl (h i)))

  opened : (lives : ℕ → Life) (format : ℕ) (names : List Name) (w : World) (bad : Bool) → HaveRoots lives w
      → let after = connected bad (roots_or names roots) w.core in
      HaveRoots (λ i. in_open shelves format names (message_for format after.1) (connected_as (message_for format after.1)) i (lives i)) (open_by language shelves format names w after).world
  opened lives format names w true h i = h i
  opened lives format names w false h i = room lives format names w (is_full w.core) h i

  -- Clients that go.

  gone_if : (life : Life) (b : Bool) (oc : Option Client) (or : Option Runtime) → RootsAt life oc or → RootsAt life oc (if b then None else or)
  gone_if life true None or h = tt
  gone_if life true (Some c) or h = tt
  gone_if life false oc or h = h

  without_if : (life : Life) (b : Bool) (oc : Option Client) (or : Option Runtime) → RootsAt life oc or → RootsAt life (if b then None else oc) (if b then None else or)
  without_if life true oc or h = tt
  without_if life false oc or h = h

  closed_core : (lives : ℕ → Life) (i : ℕ) (w : World) (o : Option Client) → HaveRoots lives w → HaveRoots lives (record w { core = (disconnected o i w.core).0; clients = without_client i w.clients })
  closed_core lives i w None h j = subst (λ o. RootsAt (lives j) (client_at w.core.clients j) o) (sym (at_without i w.clients j)) (gone_if (lives j) (i == j) (client_at w.core.clients j) (client_at w.clients j) (h j))
  closed_core lives i w (Some c) h j = subst (λ o. RootsAt (lives j) o (client_at (without_client i w.clients) j)) (sym (at_without i w.core.clients j))
      (subst (λ o. RootsAt (lives j) (if i == j then None else client_at w.core.clients j) o) (sym (at_without i w.clients j)) (without_if (lives j) (i == j) (client_at w.core.clients j) (client_at w.clients j) (h j)))

  closed : (lives : ℕ → Life) (i : ℕ) (w : World) (o : Option Runtime) → HaveRoots lives w → HaveRoots lives (close_of roots i w o).world
  closed lives i w None h = h
  closed lives i w (Some r) h = closed_core lives i w (client_at w.core.clients i) h

  shows : (lives : ℕ → Life) (i : ℕ) (w : World) (lines : Runtime → List OutLine) (o : Option Runtime) → HaveRoots lives w → HaveRoots lives (shown i w lines o).world
  shows lives i w lines None h = h
  shows lives i w lines (Some r) h = h

  -- Turns, and events.

  -- a life that goes on keeps its opening
  same_opening : (life later : Life) → later.opening ≡ life.opening → (c : Option Client) (r : Option Runtime) → RootsAt life c r → RootsAt later c r
  same_opening life later e None r h = tt
  same_opening life later e (Some c) None h = tt
  same_opening life later e (Some c) (Some r) h = h ∙ ap (λ opening. roots_or opening.roots roots) (sym e)

  opening_if : (life : Life) (b : Bool) (past : Past) → (if b then record life { past = past } else life).opening ≡ life.opening
  opening_if life true past = refl
  opening_if life false past = refl

  turn_opening : (w : World) (j : ℕ) (o : Option Runtime) (i : ℕ) (life : Life) → (in_turn language roots w j o i life).opening ≡ life.opening
  turn_opening w j None i life = refl
  turn_opening w j (Some r) i life = opening_if life (j == i) _

  fire_opening : (j : ℕ) (n : Name) (value : Value) (o : Option Runtime) (i : ℕ) (life : Life) → (in_fire j n value o i life).opening ≡ life.opening
  fire_opening j n value None i life = refl
  fire_opening j n value (Some r) i life = opening_if life (j == i) _

  turn_if : (life : Life) (b : Bool) (c d : Client) (r s : Runtime) (oc : Option Client) (or : Option Runtime) → (b ≡ true → (oc ≡ Some c) × (or ≡ Some r)) → d.roots ≡ c.roots → RootsAt life oc or → RootsAt life (if b then Some d else oc) (if b then Some s else or)
  turn_if life true c d r s oc or there e h = e ∙ subst (λ o. RootsAt life o (Some r)) (there refl).0 (subst (RootsAt life oc) (there refl).1 h)
  turn_if life false c d r s oc or there e h = h

  turned_by : (lives : ℕ → Life) (w after : World) (i : ℕ) (c : Client) (r : Runtime) → Turned language w after i c r → client_at w.core.clients i ≡ Some c → client_at w.clients i ≡ Some r → HaveRoots lives w → HaveRoots lives after
  turned_by lives w after i c r t there open_is h j =
      let asked = request_by r.page.plan language r in
      subst (λ o. RootsAt (lives j) o (client_at after.clients j)) (sym (t.clients j))
      (subst (λ o. RootsAt (lives j) (if i == j then Some (heard_by asked i w.core.sources c).0 else client_at w.core.clients j) o) (sym (t.runtimes j))
      (turn_if (lives j) (i == j) c (heard_by asked i w.core.sources c).0 r _ (client_at w.core.clients j) (client_at w.clients j)
      (λ e. (ap (client_at w.core.clients) (sym (eqb-true i j e)) ∙ there, ap (client_at w.clients) (sym (eqb-true i j e)) ∙ open_is)) (heard_by_roots asked i w.core.sources c) (h j)))

  turned_record : (lives : ℕ → Life) (w : World) (i : ℕ) (r : Runtime) (o : Option Client) → client_at w.core.clients i ≡ o → client_at w.clients i ≡ Some r → TiedAt i o (Some r) → IsSound language w → HaveRoots lives w → is_some (turn_of language roots i w (Some r)).lines ≡ true → HaveRoots lives (turn_of language roots i w (Some r)).world
  turned_record lives w i r None there open_is tie sound h some = absurd tie
  turned_record lives w i r (Some c) there open_is tie sound h some = turned_by lives w (turn_of language roots i w (Some r)).world i c r (turned language roots w i c r sound there open_is (subst (λ k. 1 ≤ k) (sym tie.number) tie.counted) some) there open_is h

  turns : (lives : ℕ → Life) (w : World) (i : ℕ) (o : Option Runtime) → client_at w.clients i ≡ o → IsSound language w → HaveRoots lives w → is_some (turn_of language roots i w o).lines ≡ true → HaveRoots lives (turn_of language roots i w o).world
  turns lives w i None e sound h some = h
  turns lives w i (Some r) e sound h some = turned_record lives w i r (client_at w.core.clients i) refl e (subst (TiedAt i (client_at w.core.clients i)) e (sound.tied i)) sound h some

  fire_if : (life : Life) (b : Bool) (s : Runtime) (oc : Option Client) (or : Option Runtime) → (b ≡ true → is_some or ≡ true) → RootsAt life oc or → RootsAt life oc (if b then Some s else or)
  fire_if life true s None or there h = tt
  fire_if life true s (Some c) None there h = absurd (false≢true (there refl))
  fire_if life true s (Some c) (Some r) there h = h
  fire_if life false s oc or there h = h

  fired : (lives : ℕ → Life) (i : ℕ) (n : Name) (value : Value) (w : World) (o : Option Runtime) → client_at w.clients i ≡ o → HaveRoots lives w → HaveRoots lives (fire_of language i n value w o).world
  fired lives i n value w None e h j = h j
  fired lives i n value w (Some r) e h j = subst (λ o. RootsAt (lives j) (client_at w.core.clients j) o) (sym (at_with i (fire language n value r).after w.clients j))
      (fire_if (lives j) (i == j) (fire language n value r).after (client_at w.core.clients j) (client_at w.clients j) (λ t. ap is_some (ap (client_at w.clients) (sym (eqb-true i j t)) ∙ e)) (h j))

  step_roots : (lives : ℕ → Life) (w : World) (s : Step) → IsSound language w → HaveRoots lives w → is_some (world_step language roots shelves w s).lines ≡ true → HaveRoots (λ i. lived_in language roots shelves w s i (lives i)) (world_step language roots shelves w s).world
  step_roots lives w (edits n t) sound h some i = change_keeps lives w (edit n t) h i
  step_roots lives w (settles n v) sound h some i = settled lives n v w (find (is_job n v) w.issued) h i
  step_roots lives w (opens format names) sound h some i = opened lives format names w (are_bad names) h i
  step_roots lives w (turn j) sound h some i = same_opening (lives i) (in_turn language roots w j (client_at w.clients j) i (lives i)) (turn_opening w j (client_at w.clients j) i (lives i)) _ _ (turns lives w j (client_at w.clients j) refl sound h some i)
  step_roots lives w (closes j) sound h some i = closed lives j w (client_at w.clients j) h i
  step_roots lives w (show j) sound h some i = shows lives j w _ (client_at w.clients j) h i
  step_roots lives w (values j) sound h some i = shows lives j w _ (client_at w.clients j) h i
  step_roots lives w (fates j) sound h some i = shows lives j w _ (client_at w.clients j) h i
  step_roots lives w fresh sound h some i = h i
  step_roots lives w (fresh_of j) sound h some i = shows lives j w _ (client_at w.clients j) h i
  step_roots lives w (fires j n value) sound h some i = same_opening (lives i) (in_fire j n value (client_at w.clients j) i (lives i)) (fire_opening j n value (client_at w.clients j) i (lives i)) _ _ (fired lives j n value w (client_at w.clients j) refl h i)

  pub run_roots : (past : List Step) → WentOn language roots shelves past → HaveRoots (life_of language roots shelves past) (world_after language roots shelves past)
  run_roots [] h i = tt
  run_roots (s ∷ past) h i = step_roots (life_of language roots shelves past) (world_after language roots shelves past) s (run_sound language roots shelves past h.1) (run_roots past h.1) h.0 i

  abbrev pub OwnRoots : Life → Option Client → Option Runtime → Type 0
  OwnRoots life c None = ⊤
  OwnRoots life c (Some r) = r.roots ≡ roots_or life.opening.roots roots

  own_by : (life : Life) (i : ℕ) (c : Option Client) (r : Option Runtime) → TiedAt i c r → RootsAt life c r → OwnRoots life c r
  own_by life i c None t h = tt
  own_by life i None (Some r) t h = absurd t
  own_by life i (Some c) (Some r) t h = t.roots_are ∙ h

  -- the same of each open client
  pub own_roots : (past : List Step) (i : ℕ) → WentOn language roots shelves past → OwnRoots (life_of language roots shelves past i) (client_at (world_after language roots shelves past).core.clients i) (client_at (world_after language roots shelves past).clients i)
  own_roots past i h = own_by (life_of language roots shelves past i) i (client_at (world_after language roots shelves past).core.clients i) (client_at (world_after language roots shelves past).clients i) ((run_sound language roots shelves past h).tied i) (run_roots past h i)
