-- The versions of issued jobs are counted, and their texts are no longer than a source may be.
use Rattle.std.proofs.Common.{◌≡◌, ℕ, ◌+◌, ◌<◌, ◌≤◌, arith, Bool, true, false, cond, List, [], ◌∷◌, length, refl, sym, ap}
use Rattle.std.specs.Prelude.{◌&&◌, ◌-◌, nat_le, nat_lt, is_some, filter, find, not, Option, Some, None, if◌then◌else◌}
use Rattle.std.specs.List.{AllByRecursion}
use Rattle.std.proofs.Math.Path.{subst}
use Rattle.std.proofs.lemmas.Bool.{false≢true, ltb-false}
use Rattle.hmr_types.specs.declared.limits.TheConstants.{TEXT_BYTES, SOURCE_NAMES, SOURCE_BYTES, LARGEST_NUMBER}
use Rattle.hmr_types.specs.declared.words.EditRefusal.{EditRefusal}
use Rattle.hmr_types.specs.declared.words.EditRefusal.TheVariants.{TextTooLong, TooManyNames, SourceTotal, NumbersSpent}
use Rattle.update_msgs.specs.declared.message.ClientMsg.{ClientMsg}
use Rattle.update_msgs.specs.declared.message.ClientMsg.TheVariants as told
use Rattle.core_model.specs.Names.{Name, at}
use Rattle.core_model.specs.Sources.{Text, Source, Sources, EditAnswer, job, same, removed, edit_refused, ResultAnswer, serve, refuse, late, has_text, text_length, total_of, answer_for, edit_answer, result_answer, after_edit, after_result}
use Rattle.core_model.specs.Client.{Client}
use Rattle.core_model.specs.Requests.{Request, Reply}
use Rattle.core_model.specs.Core.{Core, connect, disconnect, step, connected, if_room, is_full, requested, disconnected, client_at}
use Rattle.core_model.specs.Roots.{are_bad, roots_or}
use Rattle.core_model.specs.Exchange.{event_of, message_for}
use Rattle.client_model.specs.Language.{Language}
use Rattle.client_model.specs.Runtime.{Runtime}
use Rattle.client_model.specs.Requesting as requesting
use Rattle.client_model.specs.Firing.{Firing}
use Rattle.output_lines.specs.declared.out_line.OutLine.{OutLine}
use Rattle.world_model.specs.World.{Job, World, Step, edits, settles, opens, turn, closes, show, values, fates, fresh, fresh_of, fires}
use Rattle.world_model.specs.Editing.{with_job, is_job, settle_job}
use Rattle.world_model.specs.Turning.{turn_of, opened_by, connected_as, close_of, shown, fired_by, fired_at, heard_at}
use Rattle.world_model.specs.Steps.{world_step, world_after}
use Rattle.world_parts.specs.Jobs.{AreBelow, AreIssued, IsIssued}

-- a number counted before is counted after
more_counted : (a b : ℕ) → a ≤ b → (jobs : List Job) → AreIssued a jobs → AreIssued b jobs
more_counted a b l [] h = tt
more_counted a b l (j ∷ jobs) h = (record { given = omega (arith, l, h.0.given); short = h.0.short }, more_counted a b l jobs h.1)

kept_one : (b : Bool) (counted : ℕ) (j : Job) (jobs : List Job) → IsIssued counted j → AreIssued counted jobs → AreIssued counted (cond b (j ∷ jobs) jobs)
kept_one true counted j jobs h k = (h, k)
kept_one false counted j jobs h k = k

kept_issued : (keep : Job → Bool) (counted : ℕ) (jobs : List Job) → AreIssued counted jobs → AreIssued counted (filter keep jobs)
kept_issued keep counted [] h = tt
kept_issued keep counted (j ∷ jobs) h = kept_one (keep j) counted j (filter keep jobs) h.0 (kept_issued keep counted jobs h.1)

-- the number after an answer
abbrev version_or : ℕ → EditAnswer → ℕ
version_or counted (job v) = v
version_or counted same = counted
version_or counted (removed v) = v
version_or counted (edit_refused word) = counted

counted_is : (answer : EditAnswer) (n : Name) (t : Option Text) (s : Sources) → (after_edit answer n t s).counted ≡ version_or s.counted answer
counted_is (job v) n t s = refl
counted_is same n t s = refl
counted_is (removed v) n t s = refl
counted_is (edit_refused word) n t s = refl

removed_if : (a b : Bool) (word : EditRefusal) (k : ℕ) → k ≤ version_or k (if a then (if b then edit_refused word else removed (k + 1)) else same)
removed_if true true word k = omega arith
removed_if true false word k = omega arith
removed_if false b word k = omega arith

given_if : (a b c d e : Bool) (w x y z : EditRefusal) (k : ℕ) → k ≤ version_or k (if a then edit_refused w else (if b then same else (if c then edit_refused x else (if d then edit_refused y else (if e then edit_refused z else job (k + 1))))))
given_if true b c d e w x y z k = omega arith
given_if false true c d e w x y z k = omega arith
given_if false false true d e w x y z k = omega arith
given_if false false false true e w x y z k = omega arith
given_if false false false false true w x y z k = omega arith
given_if false false false false false w x y z k = omega arith

counts_up : (old : Option Source) (s : Sources) (t : Option Text) → s.counted ≤ version_or s.counted (answer_for old s t)
counts_up old s None = removed_if (is_some old) (nat_le LARGEST_NUMBER s.counted) NumbersSpent s.counted
counts_up old s (Some t) = given_if (nat_lt TEXT_BYTES (length t)) (has_text old t) (not (is_some old) && nat_le SOURCE_NAMES (length s.current)) (nat_lt SOURCE_BYTES ((total_of s - text_length old) + length t)) (nat_le LARGEST_NUMBER s.counted) TextTooLong TooManyNames SourceTotal NumbersSpent s.counted

-- a job is issued for a short text
abbrev is_a_job : EditAnswer → Bool
is_a_job (job v) = true
is_a_job same = false
is_a_job (removed v) = false
is_a_job (edit_refused word) = false

short_if : (a : Bool) (w : EditRefusal) (rest : EditAnswer) → is_a_job (if a then edit_refused w else rest) ≡ true → a ≡ false
short_if true w rest h = absurd (false≢true h)
short_if false w rest h = refl

short_text : (old : Option Source) (s : Sources) (t : Text) → is_a_job (answer_for old s (Some t)) ≡ true → length t ≤ TEXT_BYTES
short_text old s t h = ltb-false TEXT_BYTES (length t) (short_if (nat_lt TEXT_BYTES (length t)) TextTooLong (if has_text old t then same else (if not (is_some old) && nat_le SOURCE_NAMES (length s.current) then edit_refused TooManyNames else (if nat_lt SOURCE_BYTES ((total_of s - text_length old) + length t) then edit_refused SourceTotal else (if nat_le LARGEST_NUMBER s.counted then edit_refused NumbersSpent else job (s.counted + 1))))) h)

edit_issued : (answer : EditAnswer) (n : Name) (t : Option Text) (s : Sources) (jobs : List Job) → edit_answer s n t ≡ answer → AreIssued s.counted jobs → AreIssued (after_edit answer n t s).counted (with_job n t answer jobs)
edit_issued answer n None s jobs e h = more_counted _ _ (subst (λ k. s.counted ≤ k) (sym (counted_is answer n None s)) (subst (λ a. s.counted ≤ version_or s.counted a) e (counts_up _ s None))) jobs h
edit_issued (job v) n (Some t) s jobs e h = (record { given = omega arith; short = short_text _ s t (ap is_a_job e) }, more_counted _ _ (subst (λ a. s.counted ≤ version_or s.counted a) e (counts_up _ s (Some t))) jobs h)
edit_issued same n (Some t) s jobs e h = h
edit_issued (removed v) n (Some t) s jobs e h = more_counted _ _ (subst (λ a. s.counted ≤ version_or s.counted a) e (counts_up _ s (Some t))) jobs h
edit_issued (edit_refused word) n (Some t) s jobs e h = h

result_counted : (answer : ResultAnswer) (n : Name) (t : Text) (v : ℕ) (s : Sources) → (after_result answer n t v s).counted ≡ s.counted
result_counted (serve a) n t v s = refl
result_counted (refuse fault) n t v s = refl
result_counted late n t v s = refl

-- The messages of clients leave the sources as they were, and a client number that was given stays given.
pub record Goes (before after : Core) : Type 0 where
  pub sources : after.sources ≡ before.sources
  pub given : before.given ≤ after.given

room_goes : (b : Bool) (roots : List Name) (core : Core) → Goes core (if_room b roots core).0
room_goes true roots core = record { sources = refl; given = omega arith }
room_goes false roots core = record { sources = refl; given = omega arith }

connect_goes : (b : Bool) (roots : List Name) (core : Core) → Goes core (connected b roots core).0
connect_goes true roots core = record { sources = refl; given = omega arith }
connect_goes false roots core = room_goes (is_full core) roots core

request_goes : (c : Option Client) (i : ℕ) (core : Core) (r : Request) → Goes core (requested c i core r).0
request_goes None i core r = record { sources = refl; given = omega arith }
request_goes (Some c) i core r = record { sources = refl; given = omega arith }

disconnect_goes : (c : Option Client) (i : ℕ) (core : Core) → Goes core (disconnected c i core).0
disconnect_goes None i core = record { sources = refl; given = omega arith }
disconnect_goes (Some c) i core = record { sources = refl; given = omega arith }

pub hello_goes : (roots : List Name) (core : Core) (names : List Name) → Goes core (step roots core (connect names)).0
hello_goes roots core names = connect_goes (are_bad names) (roots_or names roots) core

pub bye_goes : (roots : List Name) (core : Core) (i : ℕ) → Goes core (step roots core (disconnect i)).0
bye_goes roots core i = disconnect_goes (client_at core.clients i) i core

pub message_goes : (roots : List Name) (core : Core) (i : ℕ) (m : ClientMsg) → Goes core (step roots core (event_of i m)).0
message_goes roots core i (told.Hello format names) = hello_goes roots core names
message_goes roots core i told.Ask = request_goes (client_at core.clients i) i core _
message_goes roots core i (told.Fetch n) = request_goes (client_at core.clients i) i core _
message_goes roots core i (told.Applied table) = request_goes (client_at core.clients i) i core _
message_goes roots core i (told.Aborted cause n from x) = request_goes (client_at core.clients i) i core _
message_goes roots core i (told.Invalidate n v message) = request_goes (client_at core.clients i) i core _
message_goes roots core i told.Bye = bye_goes roots core i

-- what is issued in a world is so
abbrev InOrder : World → Type 0
InOrder w = AreIssued w.core.sources.counted w.issued

same_sources : (w : World) (core : Core) → core.sources ≡ w.core.sources → InOrder w → AreIssued core.sources.counted w.issued
same_sources w core e h = subst (λ s. AreIssued s.counted w.issued) (sym e) h

settled_order : (language : Language) (roots : List Name) (n : Name) (v : ℕ) (w : World) (j : Option Job) → InOrder w → InOrder (settle_job language roots n v w j).world
settled_order language roots n v w None h = h
settled_order language roots n v w (Some j) h =
    let answer : ResultAnswer = result_answer w.core.sources n j.text (language.transformed n j.text) v in
    subst (λ k. AreIssued k (filter (λ x. not (is_job n v x)) w.issued)) (sym (result_counted answer n j.text v w.core.sources)) (kept_issued _ _ w.issued h)

opened_order : (language : Language) (shelves : List (List (Text × ℕ))) (format : ℕ) (names : List Name) (w : World) (after : Core × Reply) (o : Option ℕ) → Goes w.core after.0 → InOrder w → InOrder (opened_by language shelves format names w after o).world
opened_order language shelves format names w after None e h = same_sources w after.0 e.sources h
opened_order language shelves format names w after (Some i) e h = same_sources w after.0 e.sources h

turned_order : (language : Language) (roots : List Name) (i : ℕ) (w : World) (r : Option Runtime) → InOrder w → InOrder (turn_of language roots i w r).world
turned_order language roots i w None h = h
turned_order language roots i w (Some r) h = same_sources w (step roots w.core (event_of i (requesting.request language r))).0 (message_goes roots w.core i (requesting.request language r)).sources h

closed_order : (roots : List Name) (i : ℕ) (w : World) (r : Option Runtime) → InOrder w → InOrder (close_of roots i w r).world
closed_order roots i w None h = h
closed_order roots i w (Some r) h = same_sources w (step roots w.core (disconnect i)).0 (bye_goes roots w.core i).sources h

shown_order : (i : ℕ) (w : World) (lines : Runtime → List OutLine) (r : Option Runtime) → InOrder w → InOrder (shown i w lines r).world
shown_order i w lines None h = h
shown_order i w lines (Some r) h = h

fired_order : (i : ℕ) (w : World) (lines : Option (List OutLine)) (f : Option Firing) → InOrder w → InOrder (fired_by i w lines f).world
fired_order i w lines None h = h
fired_order i w lines (Some f) h = h

next_order : (language : Language) (roots : List Name) (shelves : List (List (Text × ℕ))) (w : World) (s : Step) → InOrder w → InOrder (world_step language roots shelves w s).world
next_order language roots shelves w (edits n t) h = edit_issued (edit_answer w.core.sources n t) n t w.core.sources w.issued refl h
next_order language roots shelves w (settles n v) h = settled_order language roots n v w (find (is_job n v) w.issued) h
next_order language roots shelves w (opens format names) h = opened_order language shelves format names w (step roots w.core (connect names)) (connected_as (message_for format (step roots w.core (connect names)).1)) (hello_goes roots w.core names) h
next_order language roots shelves w (turn i) h = turned_order language roots i w (client_at w.clients i) h
next_order language roots shelves w (closes i) h = closed_order roots i w (client_at w.clients i) h
next_order language roots shelves w (show i) h = shown_order i w _ (client_at w.clients i) h
next_order language roots shelves w (values i) h = shown_order i w _ (client_at w.clients i) h
next_order language roots shelves w (fates i) h = shown_order i w _ (client_at w.clients i) h
next_order language roots shelves w fresh h = h
next_order language roots shelves w (fresh_of i) h = shown_order i w _ (client_at w.clients i) h
next_order language roots shelves w (fires i n value) h = fired_order i w (heard_at language n value (client_at w.clients i)) (fired_at language n value (client_at w.clients i)) h

pub are_issued : (language : Language) (roots : List Name) (shelves : List (List (Text × ℕ))) (past : List Step) → AreIssued (world_after language roots shelves past).core.sources.counted (world_after language roots shelves past).issued
are_issued language roots shelves [] = tt
are_issued language roots shelves (s ∷ past) = next_order language roots shelves (world_after language roots shelves past) s (are_issued language roots shelves past)

-- a job gets the next version
version_if : (a b c d e : Bool) (w x y z : EditRefusal) (k v : ℕ) → (if a then edit_refused w else (if b then same else (if c then edit_refused x else (if d then edit_refused y else (if e then edit_refused z else job (k + 1)))))) ≡ job v → v ≡ k + 1
version_if true b c d e w x y z k v h = absurd (false≢true (ap is_a_job h))
version_if false true c d e w x y z k v h = absurd (false≢true (ap is_a_job h))
version_if false false true d e w x y z k v h = absurd (false≢true (ap is_a_job h))
version_if false false false true e w x y z k v h = absurd (false≢true (ap is_a_job h))
version_if false false false false true w x y z k v h = absurd (false≢true (ap is_a_job h))
version_if false false false false false w x y z k v h = ap (version_or 0) (sym h)

pub edit_counts : (n : Name) (t : Text) (s : Sources) (v : ℕ) → edit_answer s n (Some t) ≡ job v → s.counted < v
edit_counts n t s v h = let e = version_if (nat_lt TEXT_BYTES (length t)) (has_text (at s.current n) t) (not (is_some (at s.current n)) && nat_le SOURCE_NAMES (length s.current)) (nat_lt SOURCE_BYTES ((total_of s - text_length (at s.current n)) + length t)) (nat_le LARGEST_NUMBER s.counted) TextTooLong TooManyNames SourceTotal NumbersSpent s.counted v h in omega (arith, e)

-- each job is below a version that is given now
below_all : (counted v : ℕ) (jobs : List Job) → counted < v → AreIssued counted jobs → AllByRecursion (λ (j : Job). j.version < v) jobs
below_all counted v [] l h = tt
below_all counted v (j ∷ jobs) l h = (omega (arith, l, h.0.given), below_all counted v jobs l h.1)

pub are_below : (answer : EditAnswer) (n : Name) (t : Text) (s : Sources) (jobs : List Job) → edit_answer s n (Some t) ≡ answer → AreIssued s.counted jobs → AreBelow answer jobs
are_below (job v) n t s jobs e h = below_all s.counted v jobs (edit_counts n t s v e) h
are_below same n t s jobs e h = tt
are_below (removed v) n t s jobs e h = tt
are_below (edit_refused word) n t s jobs e h = tt
