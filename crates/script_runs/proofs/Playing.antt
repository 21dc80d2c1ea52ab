-- Parts of a play one after another.
use Rattle.std.proofs.Common.{◌≡◌, ℕ, zero, suc, ◌+◌, ◌<◌, Bool, true, false, List, [], ◌∷◌, length, get_or, drop, map, fold, append_assoc, append-nil, ap, sym, refl, ◌∙◌}
use Rattle.std.specs.Prelude.{Option, Some, None, if◌then◌else◌}
use Rattle.std.proofs.lemmas.List.{drop_more}
use Rattle.output_lines.specs.declared.out_line.OutLine.{OutLine}
use Rattle.core_model.specs.Names.{Name}
use Rattle.world_model.specs.World.{settles, turn}
use Rattle.world_model.specs.Playing.{Stage}
use Rattle.event_runs.specs.Courses.{Course, EventStep, Moved, event_step, plain}
use Rattle.event_runs.specs.Playing.{Command, Played, stepped_on, play_step, play_turns, is_up_at}
use Rattle.play_script.specs.declared.script_line.ScriptLine.{ScriptLine}
use Rattle.script_runs.specs.Playing.{behind, command_of, commanded, line_played, nothing, perform, quieted, settled_by, then_on, unless}
use Rattle.text_commands.proofs.Shown.{shown_both}

-- nothing comes behind a part
then_nothing : (w : Course) (lines : List OutLine) (over : Bool) →
    let p : Played = record { course = w; lines = lines; over = over } in p ≡ then_on p nothing
then_nothing w lines true = refl
then_nothing w lines false =
    ap (λ l. let p : Played = record { course = w; lines = l; over = false } in p) (sym (append-nil lines))

-- what is shown of a part and what comes after it
quieted_then : (quiet : Bool) (part : Played) (after : Course → Played) →
    quieted quiet (then_on part after) ≡ then_on (quieted quiet part) (λ w. quieted quiet (after w))
quieted_then quiet part after = by_over part.over
  where
    by_over : (over : Bool) →
        quieted quiet (unless over part after) ≡ unless over (quieted quiet part) (λ w. quieted quiet (after w))
    by_over true = refl
    by_over false =
        ap (λ l. let p : Played = record (after part.course) { lines = l } in p)
        (shown_both quiet part.lines (after part.course).lines)

module _ (stage : Stage) where
  abbrev step_of : Course → EventStep → Moved
  step_of w s = event_step stage w s

  -- a step behind lines is these lines and the step
  step_behind : (w : Course) (before : List OutLine) (made : Option (List OutLine)) (rest : Course → Played) →
      then_on (stepped_on before w made) rest ≡ behind before (then_on (stepped_on [] w made) rest)
  step_behind w before None rest =
      ap (λ l. let p : Played = record { course = w; lines = l; over = true } in p) (sym (append-nil before))
  step_behind w before (Some lines) rest =
      ap (λ l. let p : Played = record (rest w) { lines = l } in p)
      (append_assoc before lines (rest w).lines)

  -- a step after a part
  step_then : (w : Course) (lines : List OutLine) (over : Bool) (s : EventStep) (rest : Course → Played) →
      let p : Played = record { course = w; lines = lines; over = over } in
      then_on (play_step stage p s) rest ≡ then_on p (λ v. then_on (play_step stage (nothing v) s) rest)
  step_then w lines true s rest = refl
  step_then w lines false s rest = step_behind (step_of w s).course lines (step_of w s).lines rest

  -- steps after a part
  steps_then : (w : Course) (lines : List OutLine) (over : Bool) (ss : List EventStep) →
      let p : Played = record { course = w; lines = lines; over = over } in
      fold (play_step stage) p ss ≡ then_on p (λ v. fold (play_step stage) (nothing v) ss)
  steps_then w lines over [] = then_nothing w lines over
  steps_then w lines true (s ∷ ss) = steps_then w lines true ss
  steps_then w lines false (s ∷ ss) =
      let p : Played = record { course = w; lines = lines; over = false } in
      let here = play_step stage p s in
      let rest : Course → Played = λ v. fold (play_step stage) (nothing v) ss in
      let next = play_step stage (nothing w) s in
      steps_then here.course here.lines here.over ss
      ∙ (step_then w lines false s rest
      ∙ ap (behind lines) (sym (steps_then next.course next.lines next.over ss)))

  -- one result, and those behind it
  settled_more : (job : Name × ℕ) (jobs : List (Name × ℕ)) (w : Course) →
      settled_by stage (job ∷ jobs) w
      ≡ then_on (play_step stage (nothing w) (plain (settles job.0 job.1))) (settled_by stage jobs)
  settled_more job jobs w =
      let p = play_step stage (nothing w) (plain (settles job.0 job.1)) in
      steps_then p.course p.lines p.over (map (λ j. plain (settles j.0 j.1)) jobs)

  -- a client that is caught up, or not, and its turns
  abbrev up_or : Bool → Played → Played → Played
  up_or up p next = if up then p else next

  stays_over : (up : Bool) (p next : Played) → next ≡ p → up_or up p next ≡ p
  stays_over true p next e = refl
  stays_over false p next e = e

  over_turns : (i k : ℕ) (w : Course) (lines : List OutLine) →
      let p : Played = record { course = w; lines = lines; over = true } in play_turns stage i k p ≡ p
  over_turns i zero w lines = refl
  over_turns i (suc k) w lines =
      let p : Played = record { course = w; lines = lines; over = true } in
      stays_over (is_up_at stage w i) p (play_turns stage i k p) (over_turns i k w lines)

  up_behind : (up : Bool) (w : Course) (lines : List OutLine) (here next : Played) →
      let p : Played = record { course = w; lines = lines; over = false } in
      here ≡ behind lines next → up_or up p here ≡ behind lines (up_or up (nothing w) next)
  up_behind true w lines here next e = then_nothing w lines false
  up_behind false w lines here next e = e

  -- turns after a part
  turns_then : (i k : ℕ) (w : Course) (lines : List OutLine) (over : Bool) →
      let p : Played = record { course = w; lines = lines; over = over } in
      play_turns stage i k p ≡ then_on p (λ v. play_turns stage i k (nothing v))
  turns_then i k w lines true = over_turns i k w lines
  turns_then i zero w lines false = then_nothing w lines false
  turns_then i (suc k) w lines false =
      let p : Played = record { course = w; lines = lines; over = false } in
      let here = play_step stage p (plain (turn i)) in
      let next = play_step stage (nothing w) (plain (turn i)) in
      let rest : Course → Played = λ v. play_turns stage i k (nothing v) in
      up_behind (is_up_at stage w i) w lines (play_turns stage i k here)
      (play_turns stage i k next)
      (turns_then i k here.course here.lines here.over
      ∙ (step_then w lines false (plain (turn i)) rest
      ∙ ap (behind lines) (sym (turns_then i k next.course next.lines next.over))))

  -- one turn of a client that isn't caught up, and those behind it
  turns_more : (i k : ℕ) (w : Course) → is_up_at stage w i ≡ false →
      play_turns stage i (suc k) (nothing w)
      ≡ then_on (play_step stage (nothing w) (plain (turn i))) (λ v. play_turns stage i k (nothing v))
  turns_more i k w behind_is =
      let p = play_step stage (nothing w) (plain (turn i)) in
      ap (λ up. if up then nothing w else play_turns stage i k p) behind_is
      ∙ turns_then i k p.course p.lines p.over

  -- a client that is caught up makes none
  pub turns_none : (i k : ℕ) (w : Course) → is_up_at stage w i ≡ true →
      play_turns stage i k (nothing w) ≡ nothing w
  turns_none i zero w up = refl
  turns_none i (suc k) w up =
      ap (λ b. if b then nothing w else play_turns stage i k (play_step stage (nothing w) (plain (turn i)))) up

  -- a command that comes next, and those behind it
  pub next_command : (before more : List ScriptLine) (line : ScriptLine)
      (quiet : Bool) (command : Command) (w : Course) →
      before ≡ line ∷ more → Some command ≡ command_of line →
      perform stage before quiet w
      ≡ then_on (quieted quiet (commanded stage command w)) (perform stage more quiet)
  next_command before more line quiet command w is e =
      ap (λ lines. perform stage lines quiet w) is
      ∙ ap (λ c. line_played stage quiet c (perform stage more) w) (sym e)

  -- a line that is no command, and those behind it
  pub next_quiet : (before more : List ScriptLine) (line : ScriptLine) (quiet : Bool) (w : Course) →
      before ≡ line ∷ more → None ≡ command_of line →
      perform stage before quiet w ≡ perform stage more true w
  next_quiet before more line quiet w is e =
      ap (λ lines. perform stage lines quiet w) is
      ∙ ap (λ c. line_played stage quiet c (perform stage more) w) (sym e)

  -- a result that comes next, and those behind it
  pub next_job : (jobs : List (Name × ℕ)) (i : ℕ) (job : Name × ℕ) (name : Name) (quiet : Bool) (w : Course) →
      i < length jobs → job ≡ get_or jobs i job → name ≡ job.0 →
      quieted quiet (settled_by stage (drop i jobs) w)
      ≡ then_on (quieted quiet (play_step stage (nothing w) (plain (settles name job.1))))
      (λ v. quieted quiet (settled_by stage (drop (i + 1) jobs) v))
  next_job jobs i job name quiet w here is same =
      let behind_it = drop (i + 1) jobs in
      let step_by : Name → Played = λ n. play_step stage (nothing w) (plain (settles n job.1)) in
      let first = drop_more jobs i job here ∙ ap (λ j. j ∷ behind_it) (sym is) in
      let parts = settled_more job behind_it w
      ∙ ap (λ n. then_on (step_by n) (settled_by stage behind_it)) (sym same) in
      ap (quieted quiet) (ap (λ js. settled_by stage js w) first ∙ parts)
      ∙ quieted_then quiet (step_by name) (settled_by stage behind_it)

  -- a turn of a client that isn't caught up, and those behind it
  pub next_turn : (i left k : ℕ) (quiet : Bool) (w : Course) →
      left ≡ suc k → is_up_at stage w i ≡ false →
      quieted quiet (play_turns stage i left (nothing w))
      ≡ then_on (quieted quiet (play_step stage (nothing w) (plain (turn i))))
      (λ v. quieted quiet (play_turns stage i k (nothing v)))
  next_turn i left k quiet w one_more behind_is =
      ap (quieted quiet) (ap (λ n. play_turns stage i n (nothing w)) one_more ∙ turns_more i k w behind_is)
      ∙ quieted_then quiet (play_step stage (nothing w) (plain (turn i))) (λ v. play_turns stage i k (nothing v))
