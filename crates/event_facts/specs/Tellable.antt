-- Events as a record can tell them: well formed, but for the version of a result or of an invalidation, which
-- may be any number.
use Rattle.std.specs.Prelude.{◌≡◌, true, All, ⊤}
use Rattle.hmr_types.specs.Table.{is_table}
use Rattle.core_model.specs.Core.{Event, change, connect, request, disconnect}
use Rattle.core_model.specs.Formed.{IsFormedOutcome, IsName}
use Rattle.core_model.specs.Requests.{Request, ask, fetch, applied_as, aborted, invalidate}
use Rattle.core_model.specs.Sources.{Change, edit, result}

abbrev pub IsTellableChange : Change → Type 0
IsTellableChange (edit n t) = IsName n
IsTellableChange (result n t o v) = IsName n × IsFormedOutcome o

abbrev pub IsTellableRequest : Request → Type 0
IsTellableRequest ask = ⊤
IsTellableRequest (fetch n) = IsName n
IsTellableRequest (applied_as table) = (is_table table ≡ true) × All (λ row. IsName row.0) table
IsTellableRequest aborted = ⊤
IsTellableRequest (invalidate n v) = IsName n

abbrev pub IsTellable : Event → Type 0
IsTellable (change ch) = IsTellableChange ch
IsTellable (connect names) = All IsName names
IsTellable (request i r) = IsTellableRequest r
IsTellable (disconnect i) = ⊤
