-- Whether a client is caught up, of the core's record and of the runtime that is tied to it.
use Rattle.std.proofs.Common.{◌≡◌, ℕ, Bool, true, false, refl, ap, ◌∙◌}
use Rattle.std.specs.Prelude.{◌&&◌, not, Option, Some, None, is_none, if◌then◌else◌}
use Rattle.output_lines.specs.declared.words.ClientState.{ClientState}
use Rattle.output_lines.specs.declared.words.ClientState.TheVariants.{Up, Behind}
use Rattle.core_model.specs.Sources.{Sources}
use Rattle.core_model.specs.Client.{Client, changed, dropped}
use Rattle.core_model.specs.Page.{Page}
use Rattle.client_model.specs.Printing.{is_at_rest}
use Rattle.client_model.specs.Runtime.{Runtime}
use Rattle.server_core.specs.Reading.{rests}
use Rattle.world_model.specs.CaughtUp.{is_caught_up, is_empty}
use Rattle.world_model.specs.Playing.{is_up}
use Rattle.world_model.specs.Ties.{IsTied, TiedAt}

-- The record that is open under a number.

pub record Recorded (i : ℕ) (o : Option Client) (r : Runtime) : Type 0 where
  pub c : Client
  pub there : o ≡ Some c
  pub tied : IsTied i c r

pub recorded_by : (i : ℕ) (o : Option Client) (r : Runtime) → TiedAt i o (Some r) → Recorded i o r
recorded_by i None r h = absurd h
recorded_by i (Some c) r h = record { c = c; there = refl; tied = h }

-- Caught up.

up_if : (loaded idle a b c d e stopped : Bool) → stopped ≡ false
    → ((loaded && idle && a && b && c && d) && (loaded && idle && e && not stopped)) ≡
    (loaded && idle && a && b && c && d && e)
up_if false idle a b c d e stopped h = refl
up_if true false a b c d e stopped h = refl
up_if true true false b c d e stopped h = refl
up_if true true true false c d e stopped h = refl
up_if true true true true false d e stopped h = refl
up_if true true true true true false e stopped h = refl
up_if true true true true true true false stopped h = refl
up_if true true true true true true true stopped h = ap not h

-- nothing is under way and nothing is to be told, on either side
pub rest_is : (i : ℕ) (s : Sources) (c : Client) (r : Runtime) → IsTied i c r
    → (rests s (Some c) && is_at_rest r) ≡ is_caught_up s c r
rest_is i s c r tie =
    ap
    (λ (p : Page). rests s (Some c) && (p.loaded && is_none p.plan && is_empty r.unsent && not r.stopped))
    tie.page
    ∙ up_if c.page.loaded (is_none c.page.plan) (is_empty (changed s c)) (is_empty c.page.forced)
    (is_empty (dropped c)) (is_empty c.notices) (is_empty r.unsent) r.stopped tie.running

pub state_is : (b : Bool) → is_up (if b then Up else Behind) ≡ b
state_is true = refl
state_is false = refl

pub shown_state : (state : ClientState) → (if is_up state then Up else Behind) ≡ state
shown_state Up = refl
shown_state Behind = refl
