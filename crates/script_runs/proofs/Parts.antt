-- A play whose lines are taken part by part: what is taken, and what is left.
use Rattle.std.proofs.Common.{◌≡◌, Bool, true, false, List, [], ◌++◌, append_assoc, append-nil, ap, refl, sym, ◌∙◌}
use Rattle.std.proofs.Math.Path.{subst}
use Rattle.hmr_base.proofs.Fronts.{front_more}
use Rattle.output_lines.specs.declared.out_line.OutLine.{OutLine}
use Rattle.event_runs.specs.Courses.{Course}
use Rattle.event_runs.specs.Playing.{Played}
use Rattle.text_commands.specs.Outputs.{lines_text}
use Rattle.script_runs.specs.Playing.{nothing, then_on, unless, behind}
use Rattle.text_commands.specs.Writing.{Taken, Takes, TakesFront}
use Rattle.text_commands.proofs.Taking.{both_lines, takes_both}

-- a front of the whole is taken, and this much of it is left
pub record IsTakenUpTo (old now : Taken) (left whole : Played) : Type 0 where
  pub front : List OutLine
  pub out : Takes old now front
  pub rest : front ++ left.lines ≡ whole.lines
  pub over : left.over ≡ whole.over
  pub course : left.course ≡ whole.course

goes_on_by : (part : Played) (after : Course → Played) → part.over ≡ false →
    then_on part after ≡ behind part.lines (after part.course)
goes_on_by part after e = ap (λ over. unless over part after) e

ends_by : (part : Played) (after : Course → Played) → part.over ≡ true → then_on part after ≡ part
ends_by part after e = ap (λ over. unless over part after) e

-- one part more
pub part_more : (a b c : Taken) (part : Played) (after : Course → Played) (whole : Played) →
    part.over ≡ false → IsTakenUpTo a b (then_on part after) whole → Takes b c part.lines →
    IsTakenUpTo a c (after part.course) whole
part_more a b c part after whole e h out =
    let k = subst (λ p. IsTakenUpTo a b p whole) (goes_on_by part after e) h in
    record {
      front = k.front ++ part.lines;
      out = takes_both a b c k.front part.lines k.out out;
      rest = append_assoc k.front part.lines (after part.course).lines ∙ k.rest;
      over = k.over;
      course = k.course;
    }

-- the lines of a part come first
record Begins (part whole : Played) : Type 0 where
  left : List OutLine
  is : part.lines ++ left ≡ whole.lines

begins_by : (part : Played) (after : Course → Played) (over : Bool) →
    Begins part (unless over part after)
begins_by part after true = record { left = []; is = append-nil part.lines }
begins_by part after false = record { left = (after part.course).lines; is = refl }

-- a front of a part is a front of the whole
pub part_front : (a b c : Taken) (part : Played) (after : Course → Played) (whole : Played) →
    IsTakenUpTo a b (then_on part after) whole → TakesFront b c part.lines → TakesFront a c whole.lines
part_front a b c part after whole h w =
    let begins = begins_by part after part.over in
    let rest = sym (both_lines part.lines begins.left) ∙ ap lines_text begins.is in
    front_more a.bytes b.bytes c.bytes (lines_text h.front) (lines_text part.lines) (lines_text begins.left)
    (lines_text whole.lines) h.out.written w
    (ap (λ t. lines_text h.front ++ t) rest
    ∙ (sym (both_lines h.front (then_on part after).lines) ∙ ap lines_text h.rest))

-- a part that ends the run is the last
pub part_last : (a b c : Taken) (part : Played) (after : Course → Played) (whole : Played) →
    part.over ≡ true → IsTakenUpTo a b (then_on part after) whole → Takes b c part.lines →
    Takes a c whole.lines
part_last a b c part after whole e h out =
    let k = subst (λ p. IsTakenUpTo a b p whole) (ends_by part after e) h in
    subst (Takes a c) k.rest (takes_both a b c k.front part.lines k.out out)

pub ends_over : (a b : Taken) (part : Played) (after : Course → Played) (whole : Played) →
    part.over ≡ true → IsTakenUpTo a b (then_on part after) whole → whole.over ≡ true
ends_over a b part after whole e h = sym h.over ∙ (ap (λ (p : Played). p.over) (ends_by part after e) ∙ e)

pub ends_course : (a b : Taken) (part : Played) (after : Course → Played) (whole : Played) →
    part.over ≡ true → IsTakenUpTo a b (then_on part after) whole → part.course ≡ whole.course
ends_course a b part after whole e h = ap (λ (p : Played). p.course) (sym (ends_by part after e)) ∙ h.course

pub nil_taken : (a b : Taken) (w : Course) (whole : Played) →
    IsTakenUpTo a b (nothing w) whole → Takes a b whole.lines
nil_taken a b w whole h = subst (Takes a b) (sym (append-nil h.front) ∙ h.rest) h.out
