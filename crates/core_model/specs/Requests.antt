-- The requests of a client: what each one makes of the client's record, and the reply.
use Rattle.std.specs.Prelude.{◌==◌, ◌&&◌, [], ◌∷◌, ◌++◌}
use Rattle.std.specs.Prelude.{ℕ, Bool, true, false, not, List, map, filter, Option}
use Rattle.std.specs.Prelude.{Some, None}
use Rattle.hmr_types.specs.declared.analysis.TextFault.{TextFault}
use Rattle.update_msgs.specs.declared.message.ServerMsg.{ServerMsg}
use Rattle.update_msgs.specs.declared.message.ServerMsg.TheVariants as msg
use Rattle.core_model.specs.declared.refusal.Refusal.{Refusal}
use Rattle.core_model.specs.declared.refusal.Refusal.TheVariants.{OutOfTurn, Mismatch, Unfetched, Ignored}
use Rattle.core_model.specs.Names.{Name, at, names_of, sorted}
use Rattle.core_model.specs.Sources.{Source, Serving, Sources, Verdict, outstanding, good, bad, EditAnswer}
use Rattle.core_model.specs.Sources.{ResultAnswer}
use Rattle.core_model.specs.Spread.{cause_of}
use Rattle.core_model.specs.View.{View, Entry, table_of}
use Rattle.core_model.specs.Page.{Plan, staged, applied, given_up, forced_too, unfetched_of, new_view}
use Rattle.core_model.specs.Client.{Client, triggered}
use Rattle.core_model.specs.Asking.{AskRow, out_of_turn, tell, load, idle, prune, reload, update, ask_row}
use Rattle.core_model.specs.Asking.{asked, js_update, number_or_zero}

-- what a client asks or tells
pub data Request : Type 0 where
  ask : Request
  fetch : Name → Request
  applied_as : List (Name × ℕ) → Request
  aborted : Request
  invalidate : Name → ℕ → Request

-- what the core answers
pub data Reply : Type 0 where
  edited : EditAnswer → Reply
  settled : ResultAnswer → Reply
  to_client : ServerMsg → Reply
  refused : Refusal → Reply
  gone : Reply

-- an Ask

-- the answer to an Ask, by its row, where the client is as the Ask leaves it
abbrev pub ask_reply : ℕ → Sources → Client → AskRow → Reply
ask_reply i s c out_of_turn = refused OutOfTurn
ask_reply i s c (tell n fault) = to_client (msg.Error n fault.line fault.col fault.word)
ask_reply i s c load = to_client (msg.Connected i c.roots)
ask_reply i s c idle = to_client msg.Idle
ask_reply i s c (prune ns) = to_client (msg.Prune ns)
ask_reply i s c (reload path) =
    to_client (msg.FullReload (cause_of c.page.view path) path c.batches (triggered s c))
ask_reply i s c (update ns ps) = to_client (msg.Update ns (map (js_update s) ps) c.batches (triggered s c))

-- the answer to an Ask that leaves the client so
abbrev pub answer_ask : ℕ → Sources → AskRow → Client → Client × Reply
answer_ask i s row c = (asked row s c, ask_reply i s (asked row s c) row)

-- a Fetch

-- the rows of the table for a Fetch
pub data FetchRow : Type 0 where
  text : Serving → FetchRow
  not_yet : FetchRow
  broken : TextFault → FetchRow
  missing : FetchRow

-- what there is of a source that isn't served
abbrev pub row_verdict : Verdict → FetchRow
row_verdict outstanding = not_yet
row_verdict good = missing
row_verdict (bad fault) = broken fault

-- what there is of a name that isn't served
abbrev pub row_source : Option Source → FetchRow
row_source None = missing
row_source (Some s) = row_verdict s.verdict

-- the served text; else what there is of the current source
abbrev pub row_served : Option Serving → Option Source → FetchRow
row_served None source = row_source source
row_served (Some s) source = text s

-- what is there of n: its served text, or why there is none
abbrev pub fetch_row : Sources → Name → FetchRow
fetch_row s n = row_served (at s.served n) (at s.current n)

-- a text is staged, and nothing else changes anything
abbrev pub fetched : FetchRow → Plan → Name → Client → Client
fetched (text s) p n c = record c {
  page = staged p n (record { version = s.version; analysis = s.analysis }) c.page;
}
fetched not_yet p n c = c
fetched (broken fault) p n c = c
fetched missing p n c = c

-- the answer to a Fetch, by its row
abbrev pub fetch_reply : FetchRow → Name → Reply
fetch_reply (text s) n = to_client (msg.Text n s.version s.text)
fetch_reply not_yet n = to_client (msg.NotYet n)
fetch_reply (broken fault) n = to_client (msg.Broken n fault.line fault.col fault.word)
fetch_reply missing n = to_client (msg.Missing n)

-- an Applied

-- the rows of the table for an Applied
pub data AppliedRow : Type 0 where
  unfetched : Name → AppliedRow
  mismatch : Name → ℕ → ℕ → AppliedRow
  done : AppliedRow

-- the version that a table has of a name, 0 for none
abbrev pub version_at : List (Name × ℕ) → Name → ℕ
version_at table n = number_or_zero (at table n)

-- the least name, if any, at which the versions told and kept differ
abbrev pub differing : List (Name × ℕ) → List (Name × ℕ) → List Name
differing told kept =
    filter (λ n. not (version_at told n == version_at kept n)) (sorted (names_of told ++ names_of kept))

-- the least name with two versions
abbrev pub row_differing : List Name → List (Name × ℕ) → List (Name × ℕ) → AppliedRow
row_differing [] told kept = done
row_differing (n ∷ ns) told kept = mismatch n (version_at told n) (version_at kept n)

-- the least name without an entry; else what follows
abbrev pub row_unfetched : List Name → AppliedRow → AppliedRow
row_unfetched [] row = row
row_unfetched (n ∷ ns) row = unfetched n

-- the row that an Applied meets
abbrev pub applied_row : List Name → Plan → View → List (Name × ℕ) → AppliedRow
applied_row roots p view table = row_unfetched (unfetched_of roots p view) (row_differing (differing table
    (table_of (new_view roots p view))) table (table_of (new_view roots p view)))

-- the plan's page stands where all fits, and else nothing changes
abbrev pub after_applied : AppliedRow → Plan → Client → Client
after_applied (unfetched n) p c = c
after_applied (mismatch n told kept) p c = c
after_applied done p c = record c { page = applied c.roots p c.page; held_at = None }

-- the answer to an Applied, by its row
abbrev pub applied_reply : AppliedRow → Reply
applied_reply (unfetched n) = refused (Unfetched n)
applied_reply (mismatch n told kept) = refused (Mismatch n told kept)
applied_reply done = to_client msg.Done

-- an Invalidate

-- the view has n at this version, and n accepts itself there
abbrev pub is_at_version : Option Entry → ℕ → Bool
is_at_version None v = false
is_at_version (Some e) v = e.version == v && e.analysis.self_accepts

-- the module is forced where it is there and accepts itself
abbrev pub invalidated : Bool → Name → Client → Client
invalidated true n c = record c { page = forced_too n c.page; held_at = None }
invalidated false n c = c

-- the answer to an Invalidate
abbrev pub invalidate_reply : Bool → Reply
invalidate_reply true = to_client msg.Done
invalidate_reply false = refused Ignored

-- each request, by the plan under way

-- a Fetch needs a plan under way
abbrev pub fetched_in : Option Plan → Sources → Name → Client → Client × Reply
fetched_in None s n c = (c, refused OutOfTurn)
fetched_in (Some p) s n c = (fetched (fetch_row s n) p n c, fetch_reply (fetch_row s n) n)

-- an Applied needs a plan under way
abbrev pub applied_in : Option Plan → List (Name × ℕ) → Client → Client × Reply
applied_in None table c = (c, refused OutOfTurn)
applied_in (Some p) table c = (
  after_applied (applied_row c.roots p c.page.view table) p c,
  applied_reply (applied_row c.roots p c.page.view table),
)

-- an Aborted needs a plan under way, and holds the client until something is served
abbrev pub aborted_in : Option Plan → Client → Client × Reply
aborted_in None c = (c, refused OutOfTurn)
aborted_in (Some p) c = (record c { page = given_up c.page; held_at = Some c.plan_at }, to_client msg.Done)

-- an Invalidate needs no plan under way
abbrev pub invalidated_in : Option Plan → Name → ℕ → Client → Client × Reply
invalidated_in None n v c = (
  invalidated (is_at_version (at c.page.view n) v) n c,
  invalidate_reply (is_at_version (at c.page.view n) v),
)
invalidated_in (Some p) n v c = (c, refused OutOfTurn)

-- what a request makes of the client's record, and the reply
abbrev pub heard : ℕ → Sources → Client → Request → Client × Reply
heard i s c ask = answer_ask i s (ask_row s c) c
heard i s c (fetch n) = fetched_in c.page.plan s n c
heard i s c (applied_as table) = applied_in c.page.plan table c
heard i s c aborted = aborted_in c.page.plan c
heard i s c (invalidate n v) = invalidated_in c.page.plan n v c
