-- Worked rows: the text of each form of line, written out by hand.
use Rattle.std.proofs.Common.{ℕ, List, [], ◌∷◌, ◌≡◌, refl}
use Rattle.std.specs.Prelude.{codes, pos, negsuc}
use Rattle.std.specs.Fmt.{digits}
use Rattle.hmr_types.specs.ModName.{is_segment_byte}
use Rattle.hmr_types.specs.declared.analysis.FaultWord.TheVariants as fault_words
use Rattle.output_lines.specs.declared.out_line.OutLine.TheVariants as lines
use Rattle.hmr_types.specs.declared.value.Slot.TheVariants as slots
use Rattle.hmr_types.specs.declared.value.Value.TheVariants as values
use Rattle.hmr_types.specs.declared.value.EvalFault.TheVariants as faults
use Rattle.output_lines.specs.declared.words.AbortWord.TheVariants as aborts
use Rattle.output_lines.specs.declared.words.ClientState.TheVariants as state_words
use Rattle.hmr_types.specs.declared.words.EditRefusal.TheVariants as refusal_words
use Rattle.output_lines.specs.declared.words.EditWord.TheVariants as edits
use Rattle.output_lines.specs.declared.words.EndWord.TheVariants as ending_words
use Rattle.output_lines.specs.declared.words.FaultPlace.TheVariants as place_words
use Rattle.output_lines.specs.declared.words.Handled.TheVariants as handlers
use Rattle.output_lines.specs.declared.words.HandlerEnd.TheVariants as end_words
use Rattle.output_lines.specs.declared.words.InstanceFate.TheVariants as fates
use Rattle.output_lines.specs.declared.words.InstanceStatus.TheVariants as status_words
use Rattle.hmr_types.specs.declared.words.HandlerKind.TheVariants as kind_words
use Rattle.hmr_types.specs.declared.words.PlanKind.TheVariants as plan_words
use Rattle.hmr_types.specs.declared.words.ReloadCause.TheVariants as cause_words
use Rattle.output_lines.specs.declared.words.RemoveWord.TheVariants as removals
use Rattle.output_lines.specs.declared.words.SettleWord.TheVariants as results
use Rattle.play_text.specs.Lines.{line_text}

abbrev m : List ℕ
m = codes "/m.js"

abbrev a : List ℕ
a = codes "/a.js"

of_the_server :
    (line_text (lines.Edit m (edits.Job 1)) ≡ codes "edit /m.js job 1\n")
    × (line_text (lines.Edit m edits.Same) ≡ codes "edit /m.js same\n")
    × (line_text (lines.Edit m (edits.Refused refusal_words.TextTooLong)) ≡ codes "edit /m.js refused text-too-long\n")
    × (line_text (lines.Edit m (edits.Refused refusal_words.TooManyNames)) ≡ codes "edit /m.js refused too-many-names\n")
    × (line_text (lines.Edit m (edits.Refused refusal_words.SourceTotal)) ≡ codes "edit /m.js refused source-total\n")
    × (line_text (lines.Edit m (edits.Refused refusal_words.NumbersSpent)) ≡ codes "edit /m.js refused numbers-spent\n")
    × (line_text (lines.Remove m (removals.Removed 2)) ≡ codes "remove /m.js 2\n")
    × (line_text (lines.Remove m removals.Same) ≡ codes "remove /m.js same\n")
    × (line_text (lines.Remove m removals.NumbersSpent) ≡ codes "remove /m.js refused numbers-spent\n")
    × (line_text (lines.Settle m 2 results.Served) ≡ codes "settle /m.js 2 served\n")
    × (line_text (lines.Settle m 2 (results.Refused (record { line = 1; col = 14; word = fault_words.Unexpected }))) ≡ codes "settle /m.js 2 refused 1:14 unexpected\n")
    × (line_text (lines.Settle m 2 results.Late) ≡ codes "settle /m.js 2 late\n")
    × (line_text (lines.Settle m 2 results.NotIssued) ≡ codes "settle /m.js 2 none\n")
    × (line_text (lines.Open 1) ≡ codes "open 1\n")
    × (line_text lines.OpenRefused ≡ codes "open refused\n")
    × (line_text lines.OpenBadRoots ≡ codes "open bad-roots\n")
    × (line_text (lines.Close 1) ≡ codes "close 1\n")
    × (line_text (lines.Unknown 9) ≡ codes "unknown 9\n")
unfolding digits
of_the_server = (refl, refl, refl, refl, refl, refl, refl, refl, refl, refl, refl, refl, refl, refl, refl, refl, refl, refl)

of_a_client :
    (line_text (lines.Applied 1 plan_words.Load) ≡ codes "1 loaded\n")
    × (line_text (lines.Applied 1 plan_words.Reload) ≡ codes "1 reloaded\n")
    × (line_text (lines.Applied 1 plan_words.Update) ≡ codes "1 updated\n")
    × (line_text (lines.Reload 1 cause_words.Root (a ∷ m ∷ [])) ≡ codes "1 reload root /a.js /m.js\n")
    × (line_text (lines.Reload 1 cause_words.Declined (a ∷ m ∷ [])) ≡ codes "1 reload declined /a.js /m.js\n")
    × (line_text (lines.Batch 1 18446744073709551615 (a ∷ m ∷ [])) ≡ codes "1 batch 18446744073709551615 by /a.js /m.js\n")
    × (line_text (lines.Update 1 (a ∷ m ∷ [])) ≡ codes "1 update /a.js /m.js\n")
    × (line_text (lines.Update 1 []) ≡ codes "1 update\n")
    × (line_text (lines.Accept 1 m a) ≡ codes "1 accept /m.js /a.js\n")
    × (line_text (lines.Aborted 1 (aborts.Missing a)) ≡ codes "1 aborted missing /a.js\n")
    × (line_text (lines.Aborted 1 (aborts.Broken a)) ≡ codes "1 aborted broken /a.js\n")
    × (line_text (lines.Aborted 1 (aborts.Link m a (codes "x"))) ≡ codes "1 aborted link /m.js /a.js x\n")
    × (line_text (lines.Pruned 1 a) ≡ codes "1 pruned /a.js\n")
    × (line_text (lines.Error 1 m 9007199254740991 18446744073709551615 fault_words.TooManyImports) ≡ codes "1 error /m.js 9007199254740991:18446744073709551615 too-many-imports\n")
    × (line_text (lines.Wait 1 m) ≡ codes "1 wait /m.js\n")
    × (line_text (lines.Log 1 m (codes "a\\b\nc\rd e")) ≡ codes "1 log /m.js a\\\\b\\nc\\rd e\n")
    × (line_text (lines.Log 1 m []) ≡ codes "1 log /m.js\n")
    × (line_text (lines.Fault 1 m place_words.Module (faults.Uninitialised (codes "x"))) ≡ codes "1 fault /m.js module uninitialised x\n")
    × (line_text (lines.Fault 1 m place_words.Dispose faults.NotNumber) ≡ codes "1 fault /m.js dispose not-number\n")
    × (line_text (lines.Fault 1 m place_words.Prune faults.Range) ≡ codes "1 fault /m.js prune range\n")
    × (line_text (lines.Fault 1 m place_words.Own faults.UndefinedRead) ≡ codes "1 fault /m.js own undefined-read\n")
    × (line_text (lines.Fault 1 m place_words.Dep (faults.Thrown (codes "no\n"))) ≡ codes "1 fault /m.js dep thrown no\\n\n")
    × (line_text (lines.Fault 1 m place_words.Dep (faults.Thrown [])) ≡ codes "1 fault /m.js dep thrown \n")
    × (line_text (lines.Fault 1 m place_words.Dep faults.BagFull) ≡ codes "1 fault /m.js dep bag-full\n")
    × (line_text (lines.Unrun 1 m) ≡ codes "1 unrun /m.js\n")
    × (line_text (lines.NoHost 1 m (codes "H\n")) ≡ codes "1 nohost /m.js H\\n\n")
    × (line_text (lines.Invalidated 1 m (codes "changed 2")) ≡ codes "1 invalidated /m.js changed 2\n")
    × (line_text (lines.Invalidated 1 m []) ≡ codes "1 invalidated /m.js\n")
    × (line_text (lines.Ignored 1 m) ≡ codes "1 ignored /m.js\n")
    × (line_text (lines.Full 1 (codes "/event/my/ping")) ≡ codes "1 full my:ping\n")
    × (line_text (lines.Quiet 1) ≡ codes "1 quiet\n")
    × (line_text (lines.Busy 1) ≡ codes "1 busy\n")
    × (line_text (lines.Event 4294967295 (codes "/event/a")) ≡ codes "4294967295 event a\n")
    × (line_text (lines.Ended 0 ending_words.Link) ≡ codes "0 ended link\n")
    × (line_text (lines.Ended 1 ending_words.Instances) ≡ codes "1 ended instances\n")
unfolding digits is_segment_byte
of_a_client = (refl, refl, refl, refl, refl, refl, refl, refl, refl, refl, refl, refl, refl, refl, refl, refl, refl, refl, refl, refl, refl, refl, refl, refl, refl, refl, refl, refl, refl, refl, refl, refl, refl, refl, refl)

of_reports :
    (line_text (lines.Client 1 state_words.Up) ≡ codes "client 1 up\n")
    × (line_text (lines.Client 2 state_words.Behind) ≡ codes "client 2 behind\n")
    × (line_text (lines.Module m 3) ≡ codes "/m.js 3\n")
    × (line_text (lines.Stale m a) ≡ codes "stale /m.js /a.js\n")
    × (line_text (lines.Values 1) ≡ codes "values 1\n")
    × (line_text (lines.Value m (codes "n") (slots.Val (values.Num (pos 11)))) ≡ codes "value /m.js n 11\n")
    × (line_text (lines.Value m (codes "n") (slots.Val (values.Num (negsuc 10)))) ≡ codes "value /m.js n -11\n")
    × (line_text (lines.Value m (codes "s") (slots.Val (values.Str (codes "a\\b\"c\nd\te\rf'g")))) ≡ codes "value /m.js s \"a\\\\b\\\"c\\nd\\te\\rf'g\"\n")
    × (line_text (lines.Value m (codes "u") (slots.Val values.Undef)) ≡ codes "value /m.js u undefined\n")
    × (line_text (lines.Value m (codes "x") slots.Unset) ≡ codes "value /m.js x -\n")
    × (line_text (lines.Fates 1) ≡ codes "fates 1\n")
    × (line_text (lines.Instance 1 m 2 status_words.Done fates.Live) ≡ codes "instance 1 /m.js 2 done live\n")
    × (line_text (lines.Instance 1 m 2 status_words.Faulted (fates.Replaced 3)) ≡ codes "instance 1 /m.js 2 faulted replaced 3\n")
    × (line_text (lines.Instance 1 m 2 status_words.Unrun fates.Pruned) ≡ codes "instance 1 /m.js 2 unrun pruned\n")
    × (line_text (lines.Instance 1 m 2 status_words.Done fates.Reloaded) ≡ codes "instance 1 /m.js 2 done reloaded\n")
    × (line_text (lines.Handler kind_words.Dispose handlers.Code end_words.Spent) ≡ codes "dispose code spent\n")
    × (line_text (lines.Handler kind_words.Prune (handlers.Host (codes "H") 2) end_words.Dropped) ≡ codes "prune host H 2 dropped\n")
    × (line_text (lines.Handler kind_words.Own handlers.Code end_words.Held) ≡ codes "own code held\n")
    × (line_text (lines.Handler kind_words.Dep handlers.Code end_words.Held) ≡ codes "dep code held\n")
    × (line_text lines.Fresh ≡ codes "fresh\n")
    × (line_text (lines.FreshOf 4294967295) ≡ codes "fresh 4294967295\n")
    × (line_text (lines.Missing a) ≡ codes "missing /a.js\n")
    × (line_text (lines.Unlinked m a (codes "x")) ≡ codes "unlinked /m.js /a.js x\n")
unfolding digits
of_reports = (refl, refl, refl, refl, refl, refl, refl, refl, refl, refl, refl, refl, refl, refl, refl, refl, refl, refl, refl, refl, refl, refl, refl)
