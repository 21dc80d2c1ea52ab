-- The spelling of each word that stands in a line.
use Rattle.std.specs.Prelude.{ℕ, List, codes}
use Rattle.hmr_types.specs.declared.analysis.FaultWord.{FaultWord}
use Rattle.hmr_types.specs.declared.analysis.FaultWord.TheVariants as fault_words
use Rattle.hmr_types.specs.declared.words.EditRefusal.{EditRefusal}
use Rattle.hmr_types.specs.declared.words.EditRefusal.TheVariants as refusal_words
use Rattle.hmr_types.specs.declared.words.PlanKind.{PlanKind}
use Rattle.hmr_types.specs.declared.words.PlanKind.TheVariants as plan_words
use Rattle.hmr_types.specs.declared.words.ReloadCause.{ReloadCause}
use Rattle.hmr_types.specs.declared.words.ReloadCause.TheVariants as cause_words
use Rattle.output_lines.specs.declared.words.FaultPlace.{FaultPlace}
use Rattle.output_lines.specs.declared.words.FaultPlace.TheVariants as place_words
use Rattle.hmr_types.specs.declared.words.HandlerKind.{HandlerKind}
use Rattle.hmr_types.specs.declared.words.HandlerKind.TheVariants as kind_words
use Rattle.output_lines.specs.declared.words.ClientState.{ClientState}
use Rattle.output_lines.specs.declared.words.ClientState.TheVariants as state_words
use Rattle.output_lines.specs.declared.words.HandlerEnd.{HandlerEnd}
use Rattle.output_lines.specs.declared.words.HandlerEnd.TheVariants as end_words
use Rattle.output_lines.specs.declared.words.InstanceStatus.{InstanceStatus}
use Rattle.output_lines.specs.declared.words.InstanceStatus.TheVariants as status_words
use Rattle.output_lines.specs.declared.words.EndWord.{EndWord}
use Rattle.output_lines.specs.declared.words.EndWord.TheVariants as ending_words

abbrev pub fault_word : FaultWord → List ℕ
fault_word fault_words.BadByte = codes "bad-byte"
fault_word fault_words.OpenString = codes "open-string"
fault_word fault_words.OpenComment = codes "open-comment"
fault_word fault_words.BadEscape = codes "bad-escape"
fault_word fault_words.NumberTooLarge = codes "number-too-large"
fault_word fault_words.TooManyTokens = codes "too-many-tokens"
fault_word fault_words.Unexpected = codes "unexpected"
fault_word fault_words.TooDeep = codes "too-deep"
fault_word fault_words.DuplicateName = codes "duplicate-name"
fault_word fault_words.NotUtf8 = codes "not-utf8"
fault_word fault_words.NotAssignable = codes "not-assignable"
fault_word fault_words.SpecifierBare = codes "specifier-bare"
fault_word fault_words.SpecifierClimbs = codes "specifier-climbs"
fault_word fault_words.SpecifierEmpty = codes "specifier-empty"
fault_word fault_words.SpecifierTooLong = codes "specifier-too-long"
fault_word fault_words.SpecifierBadSegment = codes "specifier-bad-segment"
fault_word fault_words.TooManyImports = codes "too-many-imports"

abbrev pub refusal_word : EditRefusal → List ℕ
refusal_word refusal_words.TextTooLong = codes "text-too-long"
refusal_word refusal_words.TooManyNames = codes "too-many-names"
refusal_word refusal_words.SourceTotal = codes "source-total"
refusal_word refusal_words.NumbersSpent = codes "numbers-spent"

abbrev pub plan_word : PlanKind → List ℕ
plan_word plan_words.Load = codes "loaded"
plan_word plan_words.Reload = codes "reloaded"
plan_word plan_words.Update = codes "updated"

abbrev pub cause_word : ReloadCause → List ℕ
cause_word cause_words.Root = codes "root"
cause_word cause_words.Declined = codes "declined"

abbrev pub place_word : FaultPlace → List ℕ
place_word place_words.Module = codes "module"
place_word place_words.Dispose = codes "dispose"
place_word place_words.Prune = codes "prune"
place_word place_words.Own = codes "own"
place_word place_words.Dep = codes "dep"

abbrev pub kind_word : HandlerKind → List ℕ
kind_word kind_words.Dispose = codes "dispose"
kind_word kind_words.Prune = codes "prune"
kind_word kind_words.Own = codes "own"
kind_word kind_words.Dep = codes "dep"

abbrev pub state_word : ClientState → List ℕ
state_word state_words.Up = codes "up"
state_word state_words.Behind = codes "behind"

abbrev pub end_word : HandlerEnd → List ℕ
end_word end_words.Held = codes "held"
end_word end_words.Spent = codes "spent"
end_word end_words.Dropped = codes "dropped"

abbrev pub status_word : InstanceStatus → List ℕ
status_word status_words.Done = codes "done"
status_word status_words.Faulted = codes "faulted"
status_word status_words.Unrun = codes "unrun"

abbrev pub ending_word : EndWord → List ℕ
ending_word ending_words.Link = codes "link"
ending_word ending_words.Message = codes "message"
ending_word ending_words.Stopped = codes "stopped"
ending_word ending_words.Memory = codes "memory"
ending_word ending_words.Unexpected = codes "unexpected"
ending_word ending_words.Instances = codes "instances"
