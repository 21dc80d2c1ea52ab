-- Steps that only look change nothing, so that a client catches up among them as it does without them.
use Rattle.std.proofs.Common.{◌≡◌, ◌⊎◌, inl, inr, ℕ, zero, suc, Bool, true, false, List, [], ◌∷◌, ◌++◌, length, refl, ap, sym, ◌∙◌}
use Rattle.std.specs.Prelude.{filter, cond, ◌||◌, Option, Some, None}
use Rattle.std.proofs.Math.Path.{subst}
use Rattle.std.proofs.lemmas.Bool.{false≢true, eqb-true}
use Rattle.output_lines.specs.declared.out_line.OutLine.{OutLine}
use Rattle.core_model.specs.Names.{Name}
use Rattle.core_model.specs.Sources.{Text}
use Rattle.core_model.specs.Core.{client_at}
use Rattle.core_model.proofs.Naming.{both_true, cases_bool}
use Rattle.client_model.specs.Language.{Language}
use Rattle.client_model.specs.Runtime.{Runtime}
use Rattle.world_model.specs.World.{World, Step, edits, settles, opens, turn, closes, show, values, fates, fresh, fresh_of, fires}
use Rattle.world_model.specs.Turning.{shown}
use Rattle.world_model.specs.Steps.{world_step, world_after}
use Rattle.world_laws.specs.Quiet.{looks, is_turn, are_turns_and_looks, turns_in, turns, IsUp, IsUpWithin, IsUpAmongLooks}

shown_same : (i : ℕ) (w : World) (lines : Runtime → List OutLine) (o : Option Runtime) → (shown i w lines o).world ≡ w
shown_same i w lines None = refl
shown_same i w lines (Some r) = refl

turn_same : (i : ℕ) (s : Step) → is_turn i s ≡ true → s ≡ turn i
turn_same i (edits n t) e = absurd (false≢true e)
turn_same i (settles n v) e = absurd (false≢true e)
turn_same i (opens format names) e = absurd (false≢true e)
turn_same i (turn j) e = ap turn (eqb-true j i e)
turn_same i (closes j) e = absurd (false≢true e)
turn_same i (show j) e = absurd (false≢true e)
turn_same i (values j) e = absurd (false≢true e)
turn_same i (fates j) e = absurd (false≢true e)
turn_same i fresh e = absurd (false≢true e)
turn_same i (fresh_of j) e = absurd (false≢true e)
turn_same i (fires j n value) e = absurd (false≢true e)

-- turns one after another
turns_more : (i k : ℕ) (past : List Step) → turns i (suc k) past ≡ turn i ∷ turns i k past
turns_more i zero past = refl
turns_more i (suc k) past = turns_more i k (turn i ∷ past)

module _ (language : Language) (roots : List Name) (shelves : List (List (Text × ℕ))) where
  -- a step that only looks changes nothing
  pub look_same : (w : World) (s : Step) → looks s ≡ true → (world_step language roots shelves w s).world ≡ w
  look_same w (edits n t) e = absurd (false≢true e)
  look_same w (settles n v) e = absurd (false≢true e)
  look_same w (opens format names) e = absurd (false≢true e)
  look_same w (turn j) e = absurd (false≢true e)
  look_same w (closes j) e = absurd (false≢true e)
  look_same w (show j) e = shown_same j w _ (client_at w.clients j)
  look_same w (values j) e = shown_same j w _ (client_at w.clients j)
  look_same w (fates j) e = shown_same j w _ (client_at w.clients j)
  look_same w fresh e = refl
  look_same w (fresh_of j) e = shown_same j w _ (client_at w.clients j)
  look_same w (fires j n value) e = absurd (false≢true e)

  or_second : (a b : Bool) → (a || b) ≡ true → a ≡ false → b ≡ true
  or_second true b h e = absurd (false≢true (sym e))
  or_second false b h e = h

  -- the turns of a list with one step more
  abbrev counted : ℕ → Step → List Step → Bool → ℕ
  counted i s steps b = length (cond b (s ∷ filter (is_turn i) steps) (filter (is_turn i) steps))

  among_more : (i : ℕ) (past : List Step) (s : Step) (steps : List Step) → (is_turn i s || looks s) ≡ true → world_after language roots shelves (steps ++ past) ≡ world_after language roots shelves (turns i (turns_in i steps) past) → (is_turn i s ≡ true) ⊎ (is_turn i s ≡ false)
      → (world_step language roots shelves (world_after language roots shelves (steps ++ past)) s).world ≡ world_after language roots shelves (turns i (counted i s steps (is_turn i s)) past)
  among_more i past s steps part rest (inl e) = ap (λ w. (world_step language roots shelves w s).world) rest
      ∙ ap (λ t. (world_step language roots shelves (world_after language roots shelves (turns i (turns_in i steps) past)) t).world) (turn_same i s e)
      ∙ ap (world_after language roots shelves) (sym (turns_more i (turns_in i steps) past))
      ∙ ap (λ b. world_after language roots shelves (turns i (counted i s steps b) past)) (sym e)
  among_more i past s steps part rest (inr e) = look_same (world_after language roots shelves (steps ++ past)) s (or_second (is_turn i s) (looks s) part e) ∙ rest
      ∙ ap (λ b. world_after language roots shelves (turns i (counted i s steps b) past)) (sym e)

  -- among looks, turns make what they make without them
  same_among : (i : ℕ) (past steps : List Step) → are_turns_and_looks i steps ≡ true → world_after language roots shelves (steps ++ past) ≡ world_after language roots shelves (turns i (turns_in i steps) past)
  same_among i past [] h = refl
  same_among i past (s ∷ steps) h =
      let parts = both_true (is_turn i s || looks s) (are_turns_and_looks i steps) h in
      among_more i past s steps parts.0 (same_among i past steps parts.1) (cases_bool (is_turn i s))

  -- so a client is caught up among looks as without them
  pub up_among : (i k : ℕ) (past : List Step) → IsUpWithin language roots shelves i k past → IsUpAmongLooks language roots shelves i k past
  up_among i k past u = record {
    taken = u.taken;
    few = u.few;
    up = λ steps are counted. subst (λ w. IsUp w i) (sym (same_among i past steps are)) (subst (λ n. IsUp (world_after language roots shelves (turns i n past)) i) (sym counted) u.up);
  }
