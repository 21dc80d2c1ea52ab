-- What a message does to a client: it prunes modules, applies the plan under way, or leaves instances, bags
-- and closures as they are and at most writes lines. Every message is gone through once, here.
use Rattle.std.proofs.Common.{◌≡◌, ℕ, Bool, true, false, List, [], ◌∷◌, ◌++◌, refl, ◌∙◌}
use Rattle.std.specs.Prelude.{map, not, ◌==◌, ◌||◌, is_some, Option, Some, None, if◌then◌else◌, ⊤}
use Prim.{⊥}
use Rattle.std.proofs.lemmas.Bool.{true≢false}
use Rattle.hmr_types.specs.declared.value.Value.{Value}
use Rattle.hmr_types.specs.declared.analysis.Outcome.{Outcome}
use Rattle.hmr_types.specs.declared.analysis.Outcome.TheVariants.{Good, Bad}
use Rattle.hmr_types.specs.declared.words.PlanKind.TheVariants.{Update}
use Rattle.output_lines.specs.declared.out_line.OutLine.{OutLine}
use Rattle.output_lines.specs.declared.out_line.OutLine.TheVariants as line
use Rattle.update_msgs.specs.declared.message.ClientMsg.{ClientMsg}
use Rattle.update_msgs.specs.declared.message.ClientMsg.TheVariants as request_is
use Rattle.update_msgs.specs.declared.message.ServerMsg.{ServerMsg}
use Rattle.update_msgs.specs.declared.message.ServerMsg.TheVariants as msg
use Rattle.core_model.specs.Names.{Name, in_order}
use Rattle.core_model.specs.Sources.{Text}
use Rattle.core_model.specs.Page.{Plan, given_up}
use Rattle.core_model.proofs.Naming.{not_false}
use Rattle.client_model.specs.Language.{Language}
use Rattle.client_model.specs.Journal.{Happening, Journal, made, evaluated, not_run, registered, no_host, ran, dropped, ended, gave_up, gave_up_all, told}
use Rattle.client_model.specs.Runtime.{Runtime, Cause, Did, nothing, and_then, for_each, write}
use Rattle.client_model.specs.Applying.{apply, prune}
use Rattle.client_model.specs.Answering.{begin, accept_line, pair_of, write_batch, start_reload, start_update, stage, stage_in, apply_in, write_cause, abort_in, done, took_refusal, answered}
use Rattle.client_model.specs.Requesting.{request, cause_by}
use Rattle.client_model.specs.Expecting.{is_answer, request_place, answer_place}
use Rattle.client_model.specs.Taking.{take, did_take, unchanged_by, stop, is_too_many, unexpected, is_stopped, Taking}
use Rattle.client_model.specs.Firing.{Firing, Fired, busy, unheard, did_hear, hear_all, fire}
use Rattle.client_model.specs.Firing as fires
use Rattle.client_model.specs.Past.{Incoming, met}
use Rattle.client_model.specs.Past as came_is
use Rattle.client_model.proofs.Needs.{IsDue, Needs, request_needs, prunes_at_ask}

-- a line that no instance gives
abbrev pub IsLine : Happening → Type 0
IsLine (made i) = ⊥
IsLine (evaluated k n bag e) = ⊥
IsLine (not_run k n) = ⊥
IsLine (registered k h) = ⊥
IsLine (no_host k n label) = ⊥
IsLine (ran k spot n at bag left) = ⊥
IsLine (dropped k spot) = ⊥
IsLine (ended k n fate) = ⊥
IsLine (gave_up n) = ⊥
IsLine gave_up_all = ⊥
IsLine (told l) = ⊤

-- only such lines
abbrev pub AreLines : Journal → Type 0
AreLines [] = ⊤
AreLines (h ∷ journal) = IsLine h × AreLines journal

-- what holds of each line holds of each such thing, and what is kept by one more holds of any such lines
pub line_by : (Q : Happening → Type 0) → ((l : OutLine) → Q (told l)) → (h : Happening) → IsLine h → Q h
line_by Q f (made i) l = absurd l
line_by Q f (evaluated k n bag e) l = absurd l
line_by Q f (not_run k n) l = absurd l
line_by Q f (registered k h) l = absurd l
line_by Q f (no_host k n label) l = absurd l
line_by Q f (ran k spot n at bag left) l = absurd l
line_by Q f (dropped k spot) l = absurd l
line_by Q f (ended k n fate) l = absurd l
line_by Q f (gave_up n) l = absurd l
line_by Q f gave_up_all l = absurd l
line_by Q f (told words) l = f words

pub lines_by : (Q : Journal → Type 0) → Q [] → ((l : OutLine) (journal : Journal) → Q journal → Q (told l ∷ journal)) → (journal : Journal) → AreLines journal → Q journal
lines_by Q none more [] l = none
lines_by Q none more (h ∷ journal) l = line_by (λ g. Q (g ∷ journal)) (λ words. more words journal (lines_by Q none more journal l.1)) h l.0

-- all instances, bags and closures stay
pub record Quiet (r : Runtime) (did : Did) : Type 0 where
  pub instances : did.0.instances ≡ r.instances
  pub bags : did.0.bags ≡ r.bags
  pub shelf : did.0.shelf ≡ r.shelf
  pub lines : AreLines did.1

-- P holds of what changes nothing of an instance, of a prune, and of a plan that is applied
pub record IsTaken (language : Language) (P : Runtime → Did → Type 0) : Type 0 where
  pub quiet : (r : Runtime) (did : Did) → Quiet r did → P r did
  pub prunes : (names : List Name) (r : Runtime) → r.page.plan ≡ None → r.page.loaded ≡ true → P r (prune language names r)
  pub applies : (p : Plan) (r : Runtime) → r.page.plan ≡ Some p → IsDue language p r → (r.client == 0) ≡ false → P r (apply language p r)
  pub hears : (n : Name) (value : Value) (r : Runtime) → r.page.loaded ≡ true → r.page.plan ≡ None → P r (hear_all language n value r)

-- What is quiet.

lines_append : (a b : Journal) → AreLines a → AreLines b → AreLines (a ++ b)
lines_append [] b s t = t
lines_append (h ∷ a) b s t = (s.0, lines_append a b s.1 t)

-- only what the page waits for changes, and such lines are written
abbrev written : (r : Runtime) (did : Did) → did.0.instances ≡ r.instances → did.0.bags ≡ r.bags → did.0.shelf ≡ r.shelf → AreLines did.1 → Quiet r did
written r did instances bags shelf lines = record { instances = instances; bags = bags; shelf = shelf; lines = lines }

pub quiet_then : (r : Runtime) (did : Did) (next : Runtime → Did) → Quiet r did → ((s : Runtime) → Quiet s (next s)) → Quiet r (and_then did next)
quiet_then r did next q k = record { instances = (k did.0).instances ∙ q.instances; bags = (k did.0).bags ∙ q.bags; shelf = (k did.0).shelf ∙ q.shelf; lines = lines_append did.1 (next did.0).1 q.lines (k did.0).lines }

quiet_if : (b : Bool) (r : Runtime) (did other : Did) → Quiet r did → Quiet r other → Quiet r (if b then did else other)
quiet_if true r did other q s = q
quiet_if false r did other q s = s

quiet_pairs : (pairs : List (Name × Name)) (r : Runtime) → Quiet r (for_each (λ pair s. write (accept_line s.client pair) s) pairs r)
quiet_pairs [] r = written r (r, []) refl refl refl tt
quiet_pairs (pair ∷ pairs) r = quiet_then r (write (accept_line r.client pair) r) (for_each (λ pair s. write (accept_line s.client pair) s) pairs) (written r (write (accept_line r.client pair) r) refl refl refl (tt, tt)) (quiet_pairs pairs)

quiet_update : (replaced : List Name) (pairs : List (Name × Name)) (r : Runtime) → Quiet r (start_update replaced pairs r)
quiet_update replaced pairs r =
    let first : Did = write (line.Update r.client (in_order replaced)) r in
    let telling : Runtime → Did = for_each (λ pair s. write (accept_line s.client pair) s) pairs in
    quiet_then r (and_then first telling) (λ s. nothing (begin Update replaced pairs s))
    (quiet_then r first telling (written r first refl refl refl (tt, tt)) (quiet_pairs pairs))
    (λ s. written s (nothing (begin Update replaced pairs s)) refl refl refl tt)

quiet_batch : (batch : ℕ) (triggered : List Name) (r : Runtime) → Quiet r (write_batch batch triggered r)
quiet_batch batch triggered r = quiet_if (batch == 0) r (nothing r) (write (line.Batch r.client batch (in_order triggered)) r) (written r (nothing r) refl refl refl tt) (written r (write (line.Batch r.client batch (in_order triggered)) r) refl refl refl (tt, tt))

quiet_reload : (l : OutLine) (r : Runtime) → Quiet r (start_reload l r)
quiet_reload l r = written r (start_reload l r) refl refl refl (tt, tt)

quiet_stage : (o : Outcome) (p : Plan) (m : Name) (v : ℕ) (t : Text) (r : Runtime) → Quiet r (stage o p m v t r)
quiet_stage (Good a) p m v t r = written r (stage (Good a) p m v t r) refl refl refl tt
quiet_stage (Bad fault) p m v t r = written r (stage (Bad fault) p m v t r) refl refl refl tt

quiet_stage_in : (p : Option Plan) (language : Language) (m : Name) (v : ℕ) (t : Text) (r : Runtime) → Quiet r (stage_in p language m v t r)
quiet_stage_in None language m v t r = written r (r, []) refl refl refl tt
quiet_stage_in (Some p) language m v t r = quiet_stage (language.transformed m t) p m v t r

quiet_cause : (cause : Option Cause) (r : Runtime) → Quiet r (write_cause cause r)
quiet_cause None r = written r (r, []) refl refl refl tt
quiet_cause (Some cause) r = written r (write_cause (Some cause) r) refl refl refl (tt, tt)

quiet_abort : (p : Option Plan) (language : Language) (r : Runtime) → Quiet r (abort_in p language r)
quiet_abort None language r = written r (r, []) refl refl refl tt
quiet_abort (Some p) language r =
    let give_up : Runtime → Did = λ s. nothing (record s { page = given_up s.page; texts = []; pairs = []; cause = None }) in
    quiet_then r (write_cause (cause_by r.cause language p r) r) give_up (quiet_cause (cause_by r.cause language p r) r) (λ s. written s (give_up s) refl refl refl tt)

-- Every message.

take_if : (Q : Did → Type 0) (stopped unfit full : Bool) (first second third fourth : Taking) → Q (first.after, first.journal) → Q (second.after, second.journal) → Q (third.after, third.journal) → (unfit ≡ false → Q (fourth.after, fourth.journal))
    → let chosen : Taking = if stopped then first else (if unfit then second else (if full then third else fourth)) in Q (chosen.after, chosen.journal)
take_if Q true unfit full first second third fourth a b c d = a
take_if Q false true full first second third fourth a b c d = b
take_if Q false false true first second third fourth a b c d = c
take_if Q false false false first second third fourth a b c d = d refl

-- what holds of a client as it is, or stopped, and of what each fit answer makes of it, holds once a
-- message is taken
pub take_by : (language : Language) (r : Runtime) (m : ServerMsg) (Q : Did → Type 0) → Q (r, []) → Q (record r { stopped = true }, []) → ((asked : ClientMsg) → Needs language asked r → is_answer r.page.loaded asked m ≡ true → Q (answered language asked m r))
    → Q ((take language r m).after, (take language r m).journal)
take_by language r m Q unchanged stopped fit =
    let asked : ClientMsg = request language r in
    take_if Q r.stopped (not (is_answer r.page.loaded asked m)) (is_too_many asked m r) (unchanged_by is_stopped r) (unchanged_by (unexpected (request_place asked) (answer_place m)) r) (stop r) (did_take (answered language asked m r))
    unchanged unchanged stopped (λ e. fit asked (request_needs language r) (not_false _ e))

fire_if : (Q : Did → Type 0) (stopped unfit : Bool) (first second third : Firing) → Q (first.after, first.journal) → Q (second.after, second.journal) → (unfit ≡ false → Q (third.after, third.journal))
    → let chosen : Firing = if stopped then first else (if unfit then second else third) in Q (chosen.after, chosen.journal)
fire_if Q true unfit first second third a b c = a
fire_if Q false true first second third a b c = b
fire_if Q false false first second third a b c = c refl

both_false : (a b : Bool) → (a || b) ≡ false → (a ≡ false) × (b ≡ false)
both_false true b e = absurd (true≢false e)
both_false false b e = (refl, e)

none_if : {X : Type 0} (o : Option X) → is_some o ≡ false → o ≡ None
none_if None e = refl
none_if (Some x) e = absurd (true≢false e)

module _ (language : Language) (P : Runtime → Did → Type 0) (k : IsTaken language P) where
  stays : (r : Runtime) → P r (r, [])
  stays r = k.quiet r (r, []) (written r (r, []) refl refl refl tt)

  waits : (r : Runtime) (did : Did) → did.0.instances ≡ r.instances → did.0.bags ≡ r.bags → did.0.shelf ≡ r.shelf → AreLines did.1 → P r did
  waits r did instances bags shelf lines = k.quiet r did (written r did instances bags shelf lines)

  apply_by : (q : Option Plan) (r : Runtime) → r.page.plan ≡ q → ((p : Plan) → r.page.plan ≡ Some p → IsDue language p r) → (r.client == 0) ≡ false → P r (apply_in q language r)
  apply_by None r e due counted = stays r
  apply_by (Some p) r e due counted = k.applies p r e (due p e) counted

  done_does : (asked : ClientMsg) (r : Runtime) → Needs language asked r → P r (done asked language r)
  done_does (request_is.Hello format roots) r needs = stays r
  done_does request_is.Ask r needs = stays r
  done_does (request_is.Fetch m) r needs = stays r
  done_does (request_is.Applied table) r needs = apply_by r.page.plan r refl needs.1 needs.0
  done_does (request_is.Aborted cause m from x) r needs = k.quiet r (abort_in r.page.plan language r) (quiet_abort r.page.plan language r)
  done_does (request_is.Invalidate m v message) r needs = waits r (done (request_is.Invalidate m v message) language r) refl refl refl (tt, tt)
  done_does request_is.Bye r needs = stays r

  refused_does : (asked : ClientMsg) (r : Runtime) → P r (took_refusal asked r)
  refused_does (request_is.Hello format roots) r = stays r
  refused_does request_is.Ask r = stays r
  refused_does (request_is.Fetch m) r = stays r
  refused_does (request_is.Applied table) r = stays r
  refused_does (request_is.Aborted cause m from x) r = stays r
  refused_does (request_is.Invalidate m v message) r = waits r (took_refusal (request_is.Invalidate m v message) r) refl refl refl (tt, tt)
  refused_does request_is.Bye r = stays r

  prune_does : (asked : ClientMsg) (names : List Name) (r : Runtime) → Needs language asked r → is_answer r.page.loaded asked (msg.Prune names) ≡ true → P r (prune language names r)
  prune_does asked names r needs fit = let at_ask = prunes_at_ask language asked names r needs fit in k.prunes names r at_ask.0 at_ask.1

  answered_does : (asked : ClientMsg) (m : ServerMsg) (r : Runtime) → Needs language asked r → is_answer r.page.loaded asked m ≡ true → P r (answered language asked m r)
  answered_does asked (msg.Connected client roots) r needs fit = waits r (answered language asked (msg.Connected client roots) r) refl refl refl tt
  answered_does asked (msg.Update replaced updates batch triggered) r needs fit =
      let start : Runtime → Did = start_update replaced (map pair_of updates) in
      k.quiet r (and_then (write_batch batch triggered r) start) (quiet_then r (write_batch batch triggered r) start (quiet_batch batch triggered r) (quiet_update replaced (map pair_of updates)))
  answered_does asked (msg.Prune paths) r needs fit = prune_does asked paths r needs fit
  answered_does asked (msg.FullReload cause path batch triggered) r needs fit =
      k.quiet r (answered language asked (msg.FullReload cause path batch triggered) r) (quiet_then r (write_batch batch triggered r) (start_reload (line.Reload r.client cause path)) (quiet_batch batch triggered r) (quiet_reload (line.Reload r.client cause path)))
  answered_does asked (msg.Error m row column word) r needs fit = waits r (answered language asked (msg.Error m row column word) r) refl refl refl (tt, tt)
  answered_does asked (msg.Broken m row column word) r needs fit = waits r (answered language asked (msg.Broken m row column word) r) refl refl refl tt
  answered_does asked msg.Idle r needs fit = stays r
  answered_does asked msg.Done r needs fit = done_does asked r needs
  answered_does asked (msg.Text m v t) r needs fit = k.quiet r (stage_in r.page.plan language m v t r) (quiet_stage_in r.page.plan language m v t r)
  answered_does asked (msg.Missing m) r needs fit = waits r (answered language asked (msg.Missing m) r) refl refl refl tt
  answered_does asked (msg.NotYet m) r needs fit = waits r (answered language asked (msg.NotYet m) r) refl refl refl (tt, tt)
  answered_does asked (msg.Refused number m heard kept) r needs fit = refused_does asked r

  -- it holds of an event that is fired
  fire_does : (n : Name) (value : Value) (r : Runtime) → P r ((fire language n value r).after, (fire language n value r).journal)
  fire_does n value r = fire_if (P r) r.stopped (not r.page.loaded || is_some r.page.plan) (unheard fires.is_stopped r) (unheard busy r) (did_hear (hear_all language n value r)) (stays r) (stays r) (λ e. let apart = both_false (not r.page.loaded) (is_some r.page.plan) e in k.hears n value r (not_false _ apart.0) (none_if r.page.plan apart.1))

  -- it holds of what each message does
  pub take_does : (r : Runtime) (m : ServerMsg) → P r ((take language r m).after, (take language r m).journal)
  take_does r m = take_by language r m (P r) (stays r) (waits r (record r { stopped = true }, []) refl refl refl tt) (λ asked needs fit. answered_does asked m r needs fit)

  -- it holds of what each thing that comes does
  pub met_does : (r : Runtime) (came : Incoming) → P r (met language came r)
  met_does r (came_is.message m) = take_does r m
  met_does r (came_is.event n value) = fire_does n value r
