-- A table that has the versions of the new view is the new view's.
use Rattle.std.proofs.Common.{◌≡◌, ◌↔◌, ℕ, ◌≤◌, Bool, true, false, List, [], ◌∷◌, ◌++◌, refl, ap, sym, ◌∙◌, arith}
use Rattle.std.specs.Prelude.{◌&&◌, All, Option, Some, None, IfSome, if◌then◌else◌}
use Rattle.std.specs.List.{list_all}
use Rattle.std.specs.Ordering.{nat_cmp, is_lt}
use Rattle.std.specs.Cmp.Lexicographic.{slice_cmp}
use Rattle.std.proofs.Math.Path.{subst}
use Rattle.std.proofs.lemmas.Bool.{leb-true}
use Rattle.hmr_types.specs.Table.{rises, is_version, is_table}
use Rattle.update_msgs.specs.declared.message.ServerMsg.TheVariants as msg
use Rattle.update_msgs.specs.Writable.{IsVersion}
use Rattle.core_model.specs.Names.{Name, same_name, has, at, names_of, sorted, rising}
use Rattle.core_model.specs.View.{View, Entry, table_of}
use Rattle.core_model.specs.Page.{Plan, met_of, new_entry, new_view}
use Rattle.core_model.specs.Client.{Client}
use Rattle.core_model.specs.Asking.{number_or_zero}
use Rattle.core_model.specs.Requests.{applied_as, to_client, version_at}
use Rattle.core_model.specs.Formed.{IsFormed}
use Rattle.core_model.specs.Core.{Event, request, client_at, core_after, step}
use Rattle.core_model.proofs.Naming.{both_true}
use Rattle.core_model.proofs.Rising.{collect_rises, sorted_rises}
use Rattle.core_laws.specs.Answering.{IsApplied, IsAppliedAs}
use Rattle.core_laws.specs.Ranges.{ViewFits, ClientFits}
use Rattle.core_laws.proofs.Looking.{rising_same}
use Rattle.core_laws.proofs.Freshness.{names_kept, version_of, at_table}
use Rattle.core_laws.proofs.Keeping.{new_view_fits}
use Rattle.core_laws.proofs.Messaging.{after_fits}
use Rattle.core_laws.proofs.Applying.{done_exactly}

abbrev IsCounted : Option ℕ → Type 0
IsCounted o = IfSome o (λ v. 1 ≤ v)

same_number : (o p : Option ℕ) → IsCounted o → IsCounted p → number_or_zero o ≡ number_or_zero p → o ≡ p
same_number None None g h e = refl
same_number None (Some v) g h e = absurd (omega (arith, h, e))
same_number (Some v) None g h e = absurd (omega (arith, g, e))
same_number (Some v) (Some w) g h e = ap Some e

row_counted : (b : Bool) (v : ℕ) (o : Option ℕ) → is_version v ≡ true → IsCounted o → IsCounted (if b then Some v else o)
row_counted true v o h g = leb-true 1 v (both_true _ _ h).0
row_counted false v o h g = g

told_counted : (table : List (Name × ℕ)) → list_all (λ p. is_version p.1) table ≡ true → (n : Name) → IsCounted (at table n)
told_counted [] h n = tt
told_counted (row ∷ rows) h n = let q = both_true (is_version row.1) _ h in row_counted (same_name row.0 n) row.1 (at rows n) q.0 (told_counted rows q.1 n)

entry_counted : (o : Option Entry) → IfSome o (λ e. 1 ≤ e.version) → IsCounted (version_of o)
entry_counted None h = tt
entry_counted (Some e) h = h

rise_step : (row next : Name × ℕ) (rows : List (Name × ℕ)) → rises (next ∷ rows) ≡ rising (names_of (next ∷ rows)) → rises (row ∷ (next ∷ rows)) ≡ rising (names_of (row ∷ (next ∷ rows)))
rise_step row next rows e = ap (λ b. is_lt (slice_cmp nat_cmp row.0 next.0) && b) e

names_rise : (table : List (Name × ℕ)) → rises table ≡ rising (names_of table)
names_rise [] = refl
names_rise (row ∷ []) = refl
names_rise (row ∷ (next ∷ rows)) = rise_step row next rows (names_rise (next ∷ rows))

low : (o : Option Entry) → IfSome o (λ e. IsVersion e.version) → IfSome o (λ e. 1 ≤ e.version)
low None h = tt
low (Some e) h = h.least

module _ (c : Client) (f : ClientFits c) (table : List (Name × ℕ)) (t : is_table table ≡ true) (p : Plan) (e : c.page.plan ≡ Some p) where
  abbrev new : View
  new = new_view c.roots p c.page.view

  kept_counted : (n : Name) → IsCounted (at (table_of new) n)
  kept_counted n = subst IsCounted (sym (at_table new n)) (entry_counted (at new n) (low (at new n) (new_view_fits c.roots p c.page.view f.view (subst (λ o. IfSome o (λ q. ViewFits q.staged)) e f.staged) n)))

  pub same_table : ((n : Name) → version_at table n ≡ version_at (table_of new) n) → table ≡ table_of new
  same_table g = rising_same table (table_of new)
      (sym (names_rise table) ∙ (both_true (rises table) _ t).0)
      (ap rising (names_kept new) ∙ collect_rises (λ n. new_entry (has (met_of c.roots p c.page.view) n) p c.page.view n) (sorted (met_of c.roots p c.page.view ++ names_of c.page.view)) (sorted_rises (met_of c.roots p c.page.view ++ names_of c.page.view)))
      (λ n. same_number (at table n) (at (table_of new) n) (told_counted table (both_true (rises table) _ t).1 n) (kept_counted n) (g n))

applied_as_of : (c : Client) → ClientFits c → (table : List (Name × ℕ)) → is_table table ≡ true → IsApplied c table → IsAppliedAs c table
applied_as_of c f table t h = record { plan = h.plan; under_way = h.under_way; whole = h.whole; told = same_table c f table t h.plan h.under_way h.told }

applied_of : (c : Client) (table : List (Name × ℕ)) → IsAppliedAs c table → IsApplied c table
applied_of c table h = record { plan = h.plan; under_way = h.under_way; whole = h.whole; told = λ n. ap (λ k. version_at k n) h.told }

-- an Applied of a table is answered Done exactly where it is the new view's
pub table_exactly : (roots : List Name) (past : List Event) (i : ℕ) (c : Client) (table : List (Name × ℕ)) → All IsFormed past → is_table table ≡ true → client_at (core_after roots past).clients i ≡ Some c
    → ((step roots (core_after roots past) (request i (applied_as table))).1 ≡ to_client msg.Done) ↔ IsAppliedAs c table
table_exactly roots past i c table w t e =
    let d = done_exactly roots (core_after roots past) i c table e in
    let f : ClientFits c = subst (λ o. IfSome o ClientFits) e ((after_fits roots past w).clients i) in
    ((λ h. applied_as_of c f table t (d.0 h)), (λ h. d.1 (applied_of c table h)))
