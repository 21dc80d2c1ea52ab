-- What an exchange makes of what is known of a page, and what there is to tell of it.
use Rattle.std.specs.Prelude.{ℕ, List, [], ◌∷◌, map, Option, Some, None}
use Rattle.std.specs.BTreeMap.{insert_entry, is_at}
use Rattle.std.specs.Cmp.Lexicographic.{slice_cmp}
use Rattle.std.specs.Map.{remove_entry}
use Rattle.std.specs.Ordering.{nat_cmp}
use Rattle.hmr_types.specs.declared.words.PlanKind.{PlanKind}
use Rattle.hmr_types.specs.declared.words.PlanKind.TheVariants.{Load, Reload, Update}
use Rattle.core_model.specs.Names.{Name}
use Rattle.update_msgs.specs.declared.message.JsUpdate.{JsUpdate}
use Rattle.update_msgs.specs.declared.message.ServerMsg.{ServerMsg}
use Rattle.update_msgs.specs.declared.message.ServerMsg.TheVariants as msg
use Rattle.live_lines.specs.declared.asked.Asked.{Asked}
use Rattle.live_lines.specs.declared.asked.Asked.TheVariants as asked
use Rattle.live_lines.specs.declared.imported_name.ImportedName.{ImportedName}
use Rattle.live_lines.specs.declared.instance.Begun.{Begun}
use Rattle.live_lines.specs.declared.page_news.PageNews.{PageNews}
use Rattle.live_lines.specs.declared.page_news.PageNews.TheVariants as news
use Rattle.live_lines.specs.Applying.{changed_of, modules_after, next_made, told_by}
use Rattle.live_lines.specs.Pages.{Page}

-- a page of which nothing is known but its number
abbrev pub blank : ℕ → Page
blank client = record { client = client; made = 0; modules = []; staged = []; under = None }

-- the modules without these
abbrev pub without_rows : {X : Type 0} → List (Name × X) → List Name → List (Name × X)
without_rows rows [] = rows
without_rows rows (n ∷ names) = without_rows (remove_entry (is_at (slice_cmp nat_cmp n)) rows) names

-- what an exchange comes to: the page after it, and what there is to tell
abbrev pub Told : Type 0
Told = Page × Option PageNews

-- a plan begins: nothing is fetched
abbrev pub begin : PlanKind → List (Name × Name) → Page → Page
begin kind accepted p = record p { staged = []; under = Some (record { kind = kind; accepted = accepted }) }

-- no plan is under way
abbrev pub at_rest : Page → Page
at_rest p = record p { staged = []; under = None }

-- who accepts, and what is accepted
abbrev pub pair_of : JsUpdate → Name × Name
pair_of u = (u.path, u.accepted_path)

-- a text came, which imports these names: it is fetched
abbrev pub fetch : Name → ℕ → List ImportedName → Page → Page
fetch n version names p =
    record p {
      staged = insert_entry (slice_cmp nat_cmp) p.staged n (record { version = version; names = names });
    }

-- the plan under way was applied
abbrev pub apply : Option Begun → Page → Told
apply None p = (p, None)
apply (Some begun) p = (
  record (at_rest p) { made = next_made p.made; modules = modules_after begun.kind p },
  Some (told_by begun.kind begun.accepted (changed_of p.modules p.staged) (modules_after begun.kind p)),
)

-- the page has its number, and its load begins; this is told of the first one
abbrev pub connect : Asked → ℕ → List Name → Page → Told
connect asked.Hello client roots p = (begin Load [] (blank client), Some (news.Opened roots))
connect asked.Applied client roots p = (begin Load [] p, None)
connect (asked.Aborted cause path from name) client roots p = (begin Load [] p, None)
connect asked.Bye client roots p = (begin Load [] p, None)
connect asked.Other client roots p = (begin Load [] p, None)

-- `done`, by what was asked
abbrev pub done : Asked → Page → Told
done asked.Hello p = (p, None)
done asked.Applied p = apply p.under p
done (asked.Aborted cause path from name) p = (at_rest p, Some (news.Aborted cause path from name))
done asked.Bye p = (p, Some news.Closed)
done asked.Other p = (p, None)

-- what there is to tell of a refusal: that of the first message
abbrev pub refusal_told : Asked → ℕ → Option PageNews
refusal_told asked.Hello code = Some (news.Refused code)
refusal_told asked.Applied code = None
refusal_told (asked.Aborted cause path from name) code = None
refusal_told asked.Bye code = None
refusal_told asked.Other code = None

-- what an exchange makes of what is known, and what there is to tell; the names are what a text imports
abbrev pub answered : Asked → ServerMsg → List ImportedName → Page → Told
answered a (msg.Connected client roots) names p = connect a client roots p
answered a (msg.Update replaced updates batch triggered) names p =
    (begin Update (map pair_of updates) p, None)
answered a (msg.Prune paths) names p =
    (record p { modules = without_rows p.modules paths }, Some (news.Pruned paths))
answered a (msg.FullReload cause path batch triggered) names p =
    (begin Reload [] p, Some (news.Reload cause path))
answered a (msg.Error path row column word) names p = (p, None)
answered a (msg.Broken path row column word) names p = (p, None)
answered a msg.Idle names p = (p, None)
answered a msg.Done names p = done a p
answered a (msg.Text path version text) names p = (fetch path version names p, None)
answered a (msg.Missing path) names p = (p, None)
answered a (msg.NotYet path) names p = (p, None)
answered a (msg.Refused code path told kept) names p = (p, refusal_told a code)
