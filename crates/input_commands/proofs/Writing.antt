-- A play on a world, whose lines are taken part by part.
use Rattle.std.proofs.Common.{◌≡◌, true, false, [], ap, sym}
use Rattle.std.specs.Prelude.{Result, Ok, Err, is_err}
use Prim.{⊥}
use Rattle.std.proofs.Math.Path.{subst}
use Rattle.std.proofs.lemmas.Bool.{false≢true}
use Rattle.hmr_base.proofs.Fronts.{front_all}
use Rattle.world_model.specs.Playing.{Stage}
use Rattle.event_runs.specs.Courses.{Course}
use Rattle.event_runs.specs.Playing.{Played}
use Rattle.event_world.specs.declared.event_world.EventWorld.{EventWorld}
use Rattle.text_commands.specs.declared.stop.Stop.{Stop}
use Rattle.text_commands.specs.declared.stop.Stop.TheVariants.{InstancesFull}
use Rattle.text_commands.specs.Outputs.{lines_text}
use Rattle.script_runs.specs.Playing.{nothing, then_on}
use Rattle.input_commands.specs.Standing.{IsAt, LogsAt, Plays}
use Rattle.text_commands.specs.Writing.{Taken}
use Rattle.text_commands.proofs.Taking.{takes_none}
use Rattle.script_runs.proofs.Parts.{IsTakenUpTo, ends_course, ends_over, nil_taken, part_front, part_last, part_more}

-- the world stands where this is left of the whole, and all before it is taken
pub record IsUpTo {F : Type 0} (stage : Stage) (old now : Taken) (left : Course → Played)
    (whole : Played) (world : EventWorld F) : Type 0 where
  pub w : Course
  pub here : IsAt stage w world
  pub taken : IsTakenUpTo old now (left w) whole

ok_other : (u : Unit {0}) (stop : Stop) → (let r : Result (Unit {0}) Stop = Ok u in r ≡ Err stop) → ⊥
ok_other u stop e = false≢true (ap is_err e)

module _ {F : Type 0} (stage : Stage) where
  module _ (a b c : Taken) (left part after : Course → Played) (whole : Played) (world next : EventWorld F)
      (splits : (w : Course) → IsAt stage w world → left w ≡ then_on (part w) after) where
    -- a part went on
    went_on : ((w : Course) → IsAt stage w world → Plays stage b c (part w) next (Ok tt)) →
        IsUpTo stage a b left whole world → IsUpTo stage a c after whole next
    went_on plays h =
        let k = plays h.w h.here in
        let so_far = subst (λ p. IsTakenUpTo a b p whole) (splits h.w h.here) h.taken in
        record {
          w = (part h.w).course;
          here = k.state;
          taken = part_more a b c (part h.w) after whole k.performs.goes_on so_far k.performs.done;
        }

    -- a part stopped
    stopped : (stop : Stop) →
        ((w : Course) → IsAt stage w world → Plays stage b c (part w) next (Err stop)) →
        IsUpTo stage a b left whole world → Plays stage a c whole next (Err stop)
    stopped stop plays h =
        let k = plays h.w h.here in
        let so_far = subst (λ p. IsTakenUpTo a b p whole) (splits h.w h.here) h.taken in
        record {
          performs = record {
            front = part_front a b c (part h.w) after whole so_far k.performs.front;
            done = tt;
            goes_on = tt;
            ended = λ full. ends_over a b (part h.w) after whole (k.performs.ended full) so_far;
            all = λ full.
                part_last a b c (part h.w) after whole (k.performs.ended full) so_far (k.performs.all full);
          };
          state = tt;
          stopped = λ full.
              subst (λ w. LogsAt stage w next)
              (ends_course a b (part h.w) after whole (k.performs.ended full) so_far) (k.stopped full);
        }

    pub more : (result : Result (Unit {0}) Stop) → is_err result ≡ false →
        ((w : Course) → IsAt stage w world → Plays stage b c (part w) next result) →
        IsUpTo stage a b left whole world → IsUpTo stage a c after whole next
    more (Ok u) e plays h = went_on plays h
    more (Err stop) e plays h = absurd (false≢true (sym e))

    pub stops : (result : Result (Unit {0}) Stop) → is_err result ≡ true →
        ((w : Course) → IsAt stage w world → Plays stage b c (part w) next result) →
        IsUpTo stage a b left whole world → Plays stage a c whole next result
    stops (Ok u) e plays h = absurd (false≢true e)
    stops (Err stop) e plays h = stopped stop plays h

  -- all of the whole is left
  pub begins : (a : Taken) (left : Course → Played) (whole : Played) (w : Course)
      (world : EventWorld F) →
      IsAt stage w world → left w ≡ whole → IsUpTo stage a a left whole world
  begins a left whole w world h e = record {
    w = w;
    here = h;
    taken = record {
      front = [];
      out = takes_none a;
      rest = ap (λ (p : Played). p.lines) e;
      over = ap (λ (p : Played). p.over) e;
      course = ap (λ (p : Played). p.course) e;
    };
  }

  -- the same is left, in other words
  pub likewise : (a b : Taken) (left after : Course → Played) (whole : Played) (world : EventWorld F) →
      ((w : Course) → left w ≡ after w) → IsUpTo stage a b left whole world →
      IsUpTo stage a b after whole world
  likewise a b left after whole world same h = record {
    w = h.w;
    here = h.here;
    taken = subst (λ p. IsTakenUpTo a b p whole) (same h.w) h.taken;
  }

  -- nothing is left
  pub finishes : (a b : Taken) (left : Course → Played) (whole : Played) (world : EventWorld F)
      (u : Unit {0}) →
      ((w : Course) → IsAt stage w world → left w ≡ nothing w) →
      IsUpTo stage a b left whole world → Plays stage a b whole world (Ok u)
  finishes a b left whole world u none h =
      let end = subst (λ p. IsTakenUpTo a b p whole) (none h.w h.here) h.taken in
      let out = nil_taken a b h.w whole end in
      record {
        performs = record {
          front = front_all a.bytes b.bytes (lines_text whole.lines) out.written;
          done = out;
          goes_on = sym end.over;
          ended = λ full. absurd (ok_other u InstancesFull full);
          all = λ full. absurd (ok_other u InstancesFull full);
        };
        state = subst (λ w. IsAt stage w world) end.course h.here;
        stopped = λ full. absurd (ok_other u InstancesFull full);
      }
