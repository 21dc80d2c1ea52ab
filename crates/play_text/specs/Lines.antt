-- The text of every output line.
use Rattle.std.specs.Prelude.{ℕ, List, ◌++◌, codes, decimal}
use Rattle.std.specs.List.{flat_map}
use Rattle.std.specs.Fmt.{signed_decimal}
use Rattle.play_script.specs.Texts.{event_text, names_text, spaced, spaced_number}
use Rattle.play_text.specs.Texts.{of_client, escaped, quoted, after_space}
use Rattle.word_texts.specs.Words.{fault_word, refusal_word, plan_word, cause_word, place_word}
use Rattle.word_texts.specs.Words.{kind_word, state_word, end_word, status_word, ending_word}
use Rattle.hmr_types.specs.declared.analysis.FaultWord.{FaultWord}
use Rattle.hmr_types.specs.declared.analysis.TextFault.{TextFault}
use Rattle.output_lines.specs.declared.out_line.OutLine.{OutLine}
use Rattle.output_lines.specs.declared.out_line.OutLine.TheVariants as lines
use Rattle.hmr_types.specs.declared.value.Slot.{Slot}
use Rattle.hmr_types.specs.declared.value.Slot.TheVariants as slots
use Rattle.hmr_types.specs.declared.value.Value.TheVariants as values
use Rattle.hmr_types.specs.declared.value.EvalFault.{EvalFault}
use Rattle.hmr_types.specs.declared.value.EvalFault.TheVariants as faults
use Rattle.output_lines.specs.declared.words.EditWord.{EditWord}
use Rattle.output_lines.specs.declared.words.EditWord.TheVariants as edits
use Rattle.output_lines.specs.declared.words.RemoveWord.{RemoveWord}
use Rattle.output_lines.specs.declared.words.RemoveWord.TheVariants as removals
use Rattle.output_lines.specs.declared.words.SettleWord.{SettleWord}
use Rattle.output_lines.specs.declared.words.SettleWord.TheVariants as results
use Rattle.output_lines.specs.declared.words.AbortWord.{AbortWord}
use Rattle.output_lines.specs.declared.words.AbortWord.TheVariants as aborts
use Rattle.output_lines.specs.declared.words.InstanceStatus.{InstanceStatus}
use Rattle.output_lines.specs.declared.words.InstanceFate.{InstanceFate}
use Rattle.output_lines.specs.declared.words.InstanceFate.TheVariants as fates
use Rattle.output_lines.specs.declared.words.Handled.{Handled}
use Rattle.output_lines.specs.declared.words.Handled.TheVariants as handlers

-- a place, its line and its column, and the word of the fault there
abbrev pub fault_at : ℕ → ℕ → FaultWord → List ℕ
fault_at line column word = decimal line ++ codes ":" ++ decimal column ++ spaced (fault_word word)

abbrev pub text_fault : TextFault → List ℕ
text_fault fault = fault_at fault.line fault.col fault.word

abbrev pub edit_text : EditWord → List ℕ
edit_text (edits.Job version) = codes "job " ++ decimal version
edit_text edits.Same = codes "same"
edit_text (edits.Refused word) = codes "refused " ++ refusal_word word

abbrev pub remove_text : RemoveWord → List ℕ
remove_text (removals.Removed version) = decimal version
remove_text removals.Same = codes "same"
remove_text removals.NumbersSpent = codes "refused numbers-spent"

abbrev pub result_text : SettleWord → List ℕ
result_text results.Served = codes "served"
result_text (results.Refused fault) = codes "refused " ++ text_fault fault
result_text results.Late = codes "late"
result_text results.NotIssued = codes "none"

abbrev pub abort_text : AbortWord → List ℕ
abort_text (aborts.Missing name) = codes "missing " ++ name
abort_text (aborts.Broken name) = codes "broken " ++ name
abort_text (aborts.Link name from export) = codes "link " ++ name ++ spaced from ++ spaced export

abbrev pub eval_fault : EvalFault → List ℕ
eval_fault (faults.Uninitialised name) = codes "uninitialised " ++ name
eval_fault faults.NotNumber = codes "not-number"
eval_fault faults.Range = codes "range"
eval_fault faults.UndefinedRead = codes "undefined-read"
eval_fault (faults.Thrown text) = codes "thrown " ++ flat_map escaped text
eval_fault faults.BagFull = codes "bag-full"

abbrev pub slot_text : Slot → List ℕ
slot_text slots.Unset = codes "-"
slot_text (slots.Val (values.Num n)) = signed_decimal n
slot_text (slots.Val (values.Str text)) = quoted text
slot_text (slots.Val values.Undef) = codes "undefined"

abbrev pub fate_text : InstanceFate → List ℕ
fate_text fates.Live = codes "live"
fate_text (fates.Replaced number) = codes "replaced " ++ decimal number
fate_text fates.Pruned = codes "pruned"
fate_text fates.Reloaded = codes "reloaded"

abbrev pub handled_text : Handled → List ℕ
handled_text handlers.Code = codes "code"
handled_text (handlers.Host label number) = codes "host " ++ flat_map escaped label ++ spaced_number number

-- what an instance is, and what became of it
abbrev pub instance_text : ℕ → List ℕ → ℕ → InstanceStatus → InstanceFate → List ℕ
instance_text number name version status fate =
    decimal number ++ spaced name ++ spaced_number version ++ spaced (status_word status)
    ++ spaced (fate_text fate)

-- a line without its LF
abbrev pub body_text : OutLine → List ℕ
body_text (lines.Edit name outcome) = codes "edit " ++ name ++ spaced (edit_text outcome)
body_text (lines.Remove name outcome) = codes "remove " ++ name ++ spaced (remove_text outcome)
body_text (lines.Settle name version outcome) =
    codes "settle " ++ name ++ spaced_number version ++ spaced (result_text outcome)
body_text (lines.Open client) = codes "open " ++ decimal client
body_text lines.OpenRefused = codes "open refused"
body_text lines.OpenBadRoots = codes "open bad-roots"
body_text (lines.Close client) = codes "close " ++ decimal client
body_text (lines.Unknown client) = codes "unknown " ++ decimal client
body_text (lines.Applied client plan) = of_client client (codes " ") ++ plan_word plan
body_text (lines.Reload client cause path) =
    of_client client (codes " reload ") ++ cause_word cause ++ names_text path
body_text (lines.Batch client batch triggered) =
    of_client client (codes " batch ") ++ decimal batch ++ codes " by" ++ names_text triggered
body_text (lines.Update client replaced) = of_client client (codes " update") ++ names_text replaced
body_text (lines.Accept client boundary via) = of_client client (codes " accept ") ++ boundary ++ spaced via
body_text (lines.Aborted client outcome) = of_client client (codes " aborted ") ++ abort_text outcome
body_text (lines.Pruned client name) = of_client client (codes " pruned ") ++ name
body_text (lines.Error client name line column word) =
    of_client client (codes " error ") ++ name ++ spaced (fault_at line column word)
body_text (lines.Wait client name) = of_client client (codes " wait ") ++ name
body_text (lines.Log client name text) = of_client client (codes " log ") ++ name ++ after_space text
body_text (lines.Fault client name place fault) =
    of_client client (codes " fault ") ++ name ++ spaced (place_word place) ++ spaced (eval_fault fault)
body_text (lines.Unrun client name) = of_client client (codes " unrun ") ++ name
body_text (lines.NoHost client name label) =
    of_client client (codes " nohost ") ++ name ++ spaced (flat_map escaped label)
body_text (lines.Invalidated client name message) =
    of_client client (codes " invalidated ") ++ name ++ after_space message
body_text (lines.Ignored client name) = of_client client (codes " ignored ") ++ name
body_text (lines.Full client event) = of_client client (codes " full ") ++ event_text event
body_text (lines.Quiet client) = of_client client (codes " quiet")
body_text (lines.Busy client) = of_client client (codes " busy")
body_text (lines.Event client event) = of_client client (codes " event ") ++ event_text event
body_text (lines.Ended client word) = of_client client (codes " ended ") ++ ending_word word
body_text (lines.Client client state) = codes "client " ++ decimal client ++ spaced (state_word state)
body_text (lines.Module name version) = name ++ spaced_number version
body_text (lines.Stale importer dependency) = codes "stale " ++ importer ++ spaced dependency
body_text (lines.Values client) = codes "values " ++ decimal client
body_text (lines.Value name export value) =
    codes "value " ++ name ++ spaced export ++ spaced (slot_text value)
body_text (lines.Fates client) = codes "fates " ++ decimal client
body_text (lines.Instance number name version status fate) =
    codes "instance " ++ instance_text number name version status fate
body_text (lines.Handler kind handled end) =
    kind_word kind ++ spaced (handled_text handled) ++ spaced (end_word end)
body_text lines.Fresh = codes "fresh"
body_text (lines.FreshOf client) = codes "fresh " ++ decimal client
body_text (lines.Missing name) = codes "missing " ++ name
body_text (lines.Unlinked importer dependency export) =
    codes "unlinked " ++ importer ++ spaced dependency ++ spaced export

-- a line with its LF
abbrev pub line_text : OutLine → List ℕ
line_text line = body_text line ++ codes "\n"
