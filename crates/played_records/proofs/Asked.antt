-- What a client asks or tells can be told by a line of a record, where its page, its instances and its unsent
-- invalidations have names.
use Rattle.std.proofs.Common.{◌≡◌, ℕ, ◌≤◌, Bool, true, false, List, [], ◌∷◌, ◌++◌, Contains, Option, Some, None, arith, refl}
use Rattle.std.specs.Prelude.{◌==◌, IfSome, if◌then◌else◌}
use Rattle.std.specs.List.{list_all}
use Rattle.std.proofs.lemmas.Bool.{and_parts, eqb-true}
use Rattle.std.proofs.lemmas.List.Elements.{All-from_recursion}
use Rattle.hmr_types.specs.declared.limits.TheConstants.{LARGEST_CLIENT}
use Rattle.hmr_types.specs.ModName.{is_name}
use Rattle.hmr_types.specs.Table.{is_table}
use Rattle.update_msgs.specs.Writable.{IsVersion}
use Rattle.update_msgs.specs.declared.message.ClientMsg.{ClientMsg}
use Rattle.update_msgs.specs.declared.message.ClientMsg.TheVariants as msg
use Rattle.core_model.specs.Exchange.{event_of}
use Rattle.core_model.specs.Formed.{IsName}
use Rattle.core_model.specs.Names.{Name, has, names_of, rising, sorted}
use Rattle.core_model.specs.Page.{Plan, met_of, new_entry, new_view}
use Rattle.core_model.specs.View.{View, table_of}
use Rattle.core_model.proofs.Rising.{collect_rises, sorted_rises}
use Rattle.client_model.specs.Language.{Language}
use Rattle.client_model.specs.Linking.{link_cause, next_needed}
use Rattle.client_model.specs.Requesting.{abort_message, apply_or_abort, ask_or_invalidate, carry_on, fetch_or_finish, hello, request, request_by}
use Rattle.client_model.specs.Runtime.{Cause, Invalidation, Runtime, broken, missing, unlinked}
use Rattle.world_laws.specs.Unsent.{AreUnsentVersions}
use Rattle.world_laws.proofs.Members.{head_in}
use Rattle.record_agreement.specs.Recordable.{IsRecordable}
use Rattle.record_agreement.proofs.Lists.{Each, each_map}
use Rattle.record_agreement.proofs.Named.{Names, RowNamed, ViewNamed, new_named, page_is}
use Rattle.played_records.proofs.Acts.{ClientNames, UnsentNamed}
use Rattle.played_records.proofs.Walks.{PageNamed, needed_named}

module _ (i : ℕ) (low : i ≤ LARGEST_CLIENT) where
  abbrev Tellable : ClientMsg → Type 0
  Tellable m = IsRecordable (event_of i m)

  unsent_told : (unsent : List Invalidation) → Each UnsentNamed unsent → ((m : Invalidation) → Contains unsent m → IsVersion m.version) → Tellable (ask_or_invalidate unsent)
  unsent_told [] n u = record { tellable = tt; client = low; counted = tt }
  unsent_told (m ∷ more) n u = record { tellable = n.0; client = low; counted = omega (arith, (u m (head_in m more)).most) }

  abort_told : (cause : Cause) → Tellable (abort_message cause)
  abort_told (missing n) = record { tellable = tt; client = low; counted = tt }
  abort_told (broken n) = record { tellable = tt; client = low; counted = tt }
  abort_told (unlinked n m x) = record { tellable = tt; client = low; counted = tt }

  module _ (language : Language) (p : Plan) (r : Runtime) (roots : Names r.roots) (view : ViewNamed r.page.view) (staged : ViewNamed p.staged) where
    after : View
    after = new_view r.roots p r.page.view

    after_named : ViewNamed (new_view r.roots p r.page.view)
    after_named = new_named r.roots p r.page.view roots view staged

    after_rises : rising (names_of (new_view r.roots p r.page.view)) ≡ true
    after_rises =
        let names = sorted (met_of r.roots p r.page.view ++ names_of r.page.view) in
        collect_rises (λ n. new_entry (has (met_of r.roots p r.page.view) n) p r.page.view n) names (sorted_rises (met_of r.roots p r.page.view ++ names_of r.page.view))

    rows_named : Each (λ row. IsName row.0) (table_of (new_view r.roots p r.page.view))
    rows_named = each_map RowNamed (λ row. IsName row.0) (λ row. (row.0, row.1.version)) (new_view r.roots p r.page.view) (λ row q. q.0) after_named

    table_told : Tellable (msg.Applied (table_of (new_view r.roots p r.page.view)))
    table_told =
        let table = table_of (new_view r.roots p r.page.view) in
        let parts = and_parts (is_table table) (list_all (λ row. is_name row.0) table) (page_is (new_view r.roots p r.page.view) after_named after_rises) in
        record { tellable = (parts.0, All-from_recursion (λ row. IsName row.0) table rows_named); client = low; counted = tt }

    apply_told : (o : Option Cause) → Tellable (apply_or_abort o p r)
    apply_told None = table_told
    apply_told (Some cause) = abort_told cause

    fetch_told : (o : Option Name) → IfSome o IsName → Tellable (fetch_or_finish o (link_cause language p r) p r)
    fetch_told (Some n) h = record { tellable = h; client = low; counted = tt }
    fetch_told None h = apply_told (link_cause language p r)

    carry_told : (o : Option Cause) → Tellable (carry_on o language p r)
    carry_told (Some cause) = abort_told cause
    carry_told None = fetch_told (next_needed p r) (needed_named p r roots view staged)

  module _ (language : Language) (r : Runtime) (page : PageNamed r.roots r.page) (names : ClientNames r) (versions : AreUnsentVersions r) where
    plan_told : (q : Option Plan) → IfSome q (λ p. ViewNamed p.staged) → Tellable (request_by q language r)
    plan_told None s = unsent_told r.unsent names.1 versions
    plan_told (Some p) s = carry_told language p r page.roots_are page.view s r.cause

    request_if : (b : Bool) → (r.client == 0) ≡ b → 1 ≤ r.client → Tellable (if b then hello r else request_by r.page.plan language r)
    request_if true e h = absurd (omega (arith, h, eqb-true r.client 0 e))
    request_if false e h = plan_told r.page.plan page.staged

    -- the request that stands, of a client that has its number
    pub request_told : 1 ≤ r.client → Tellable (request language r)
    request_told h = request_if (r.client == 0) refl h
