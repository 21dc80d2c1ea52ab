-- What stays while a plan is under way.
use Rattle.std.proofs.Common.{◌≡◌, ℕ, List, refl, ap}
use Rattle.std.specs.Prelude.{Option, Some, None, is_some}
use Rattle.std.proofs.lemmas.Bool.{false≢true}
use Rattle.core_model.specs.Names.{Name}
use Rattle.core_model.specs.Sources.{Sources}
use Rattle.core_model.specs.Page.{Plan}
use Rattle.core_model.specs.Client.{Client, is_held, dropped, reason, replaced, pairs, first_notice}
use Rattle.core_model.specs.Asking.{AskRow, row_plan, row_notice, row_loaded, row_dropped, row_held, row_reason, row_replaced, ask_row, asked}
use Rattle.core_model.specs.Requests.{Request, ask, fetch, applied_as, aborted, invalidate, FetchRow, text, not_yet, broken, missing, fetch_row, fetched, AppliedRow, unfetched, mismatch, done, applied_row, after_applied, fetched_in, applied_in, aborted_in, invalidated_in, heard}
use Rattle.core_laws.specs.Facts.{SamePage}

same_page : (c : Client) → SamePage c c
same_page c = record { roots = refl; loaded = refl; view = refl; forced = refl }

fetched_same : (row : FetchRow) (p : Plan) (n : Name) (c : Client) → SamePage c (fetched row p n c)
fetched_same (text s) p n c = record { roots = refl; loaded = refl; view = refl; forced = refl }
fetched_same not_yet p n c = same_page c
fetched_same (broken fault) p n c = same_page c
fetched_same missing p n c = same_page c

applied_same : (row : AppliedRow) (p q : Plan) (c : Client) → (after_applied row p c).page.plan ≡ Some q → SamePage c (after_applied row p c)
applied_same (unfetched n) p q c e = same_page c
applied_same (mismatch n told kept) p q c e = same_page c
applied_same done p q c e = absurd (false≢true (ap is_some e))

module _ (i : ℕ) (s : Sources) (c : Client) (q : Plan) where
  in_fetch : (n : Name) (plan : Option Plan) → SamePage c (fetched_in plan s n c).0
  in_fetch n None = same_page c
  in_fetch n (Some p) = fetched_same (fetch_row s n) p n c

  in_applied : (table : List (Name × ℕ)) (plan : Option Plan) → (applied_in plan table c).0.page.plan ≡ Some q → SamePage c (applied_in plan table c).0
  in_applied table None e = same_page c
  in_applied table (Some p) e = applied_same (applied_row c.roots p c.page.view table) p q c e

  in_aborted : (plan : Option Plan) → (aborted_in plan c).0.page.plan ≡ Some q → SamePage c (aborted_in plan c).0
  in_aborted None e = same_page c
  in_aborted (Some p) e = absurd (false≢true (ap is_some e))

  in_invalidated : (n : Name) (v : ℕ) (p : Plan) (plan : Option Plan) → plan ≡ Some p → SamePage c (invalidated_in plan n v c).0
  in_invalidated n v p None e = absurd (false≢true (ap is_some e))
  in_invalidated n v p (Some k) e = same_page c

  in_turn : (p : Plan) (plan : Option Plan) → plan ≡ Some p → (row : AskRow) → SamePage c (asked (row_plan plan row) s c)
  in_turn p None e row = absurd (false≢true (ap is_some e))
  in_turn p (Some k) e row = same_page c

  in_ask : (p : Plan) → c.page.plan ≡ Some p → SamePage c (asked (ask_row s c) s c)
  in_ask p e = in_turn p c.page.plan e (row_notice (first_notice c) (row_loaded c.page.loaded (is_held s c) (row_dropped (dropped c) (row_held (is_held s c) (row_reason (reason s c) (row_replaced (replaced s c) (pairs s c)))))))

  -- a request after which a plan is still under way leaves the page
  pub plan_stays : (r : Request) (p : Plan) → c.page.plan ≡ Some p → (heard i s c r).0.page.plan ≡ Some q → SamePage c (heard i s c r).0
  plan_stays ask p e f = in_ask p e
  plan_stays (fetch n) p e f = in_fetch n c.page.plan
  plan_stays (applied_as table) p e f = in_applied table c.page.plan f
  plan_stays aborted p e f = in_aborted c.page.plan f
  plan_stays (invalidate n v) p e f = in_invalidated n v p c.page.plan e
