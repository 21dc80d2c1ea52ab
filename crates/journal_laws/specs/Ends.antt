-- How the handlers of an instance end, by what became of the instance.
use Rattle.std.specs.Prelude.{◌≡◌, ◌≢◌, Bool, true, false, ◌&&◌, ◌||◌, List, [], ◌∷◌, Contains, ⊤}
use Rattle.std.specs.List.{list_any}
use Rattle.hmr_types.specs.declared.words.HandlerKind.{HandlerKind}
use Rattle.hmr_types.specs.declared.words.HandlerKind.TheVariants as kind
use Rattle.output_lines.specs.declared.words.HandlerEnd.{HandlerEnd}
use Rattle.output_lines.specs.declared.words.HandlerEnd.TheVariants.{Held, Spent, Dropped}
use Rattle.output_lines.specs.declared.words.InstanceFate.{InstanceFate}
use Rattle.output_lines.specs.declared.words.InstanceFate.TheVariants.{Live, Replaced, Pruned, Reloaded}
use Rattle.client_model.specs.Instance.{Instance, Handler, is_dispose, is_prune}
use Rattle.client_model.specs.Journal.{Journal}
use Rattle.client_model.specs.Runtime.{Runtime}

-- a later disposer displaces an earlier one, and a later prune handler an earlier one
abbrev pub displaces : HandlerKind → HandlerKind → Bool
displaces later earlier = (is_dispose later && is_dispose earlier) || (is_prune later && is_prune earlier)

-- some handler that was registered later displaced one of this kind
abbrev pub is_displaced : HandlerKind → List Handler → Bool
is_displaced kind later = list_any (λ h. displaces h.kind kind) later

-- The end of a handler that none displaced. A live instance holds all of them. At a replacement the
-- disposer is spent; callbacks on the module itself are spent or dropped, the others dropped. At a prune
-- the disposer and the prune handler are spent, the others dropped. A page reload drops them all.
abbrev pub EndsBy : InstanceFate → HandlerKind → HandlerEnd → Type 0
EndsBy Live kind end = end ≡ Held
EndsBy (Replaced k) kind.Dispose end = end ≡ Spent
EndsBy (Replaced k) kind.Prune end = end ≡ Dropped
EndsBy (Replaced k) kind.Own end = end ≢ Held
EndsBy (Replaced k) kind.Dep end = end ≡ Dropped
EndsBy Pruned kind.Dispose end = end ≡ Spent
EndsBy Pruned kind.Prune end = end ≡ Spent
EndsBy Pruned kind.Own end = end ≡ Dropped
EndsBy Pruned kind.Dep end = end ≡ Dropped
EndsBy Reloaded kind end = end ≡ Dropped

-- a displaced handler is dropped
abbrev pub HandlerEnds : Bool → InstanceFate → Handler → Type 0
HandlerEnds true fate h = h.end ≡ Dropped
HandlerEnds false fate h = EndsBy fate h.kind h.end

-- each of the handlers ends so; they stand in the order of registration
abbrev pub HandlersEnd : InstanceFate → List Handler → Type 0
HandlersEnd fate [] = ⊤
HandlersEnd fate (h ∷ later) = HandlerEnds (is_displaced h.kind later) fate h × HandlersEnd fate later

-- the handlers of each instance end by its fate
abbrev pub AllEnd : Runtime → Journal → Type 0
AllEnd r journal = (i : Instance) → Contains r.instances i → HandlersEnd i.fate i.handlers
