-- What holds where an Ask meets a row of the table.
use Rattle.std.proofs.Common.{◌≡◌, Bool, true, false, List, [], ◌∷◌, refl}
use Rattle.std.specs.Prelude.{Option, Some, None, ⊤}
use Rattle.hmr_types.specs.declared.analysis.TextFault.{TextFault}
use Rattle.core_model.specs.Names.{Name}
use Rattle.core_model.specs.Sources.{Sources}
use Rattle.core_model.specs.Page.{Plan}
use Rattle.core_model.specs.Client.{Client, is_held, dropped, reason, replaced, pairs, first_notice}
use Rattle.core_model.specs.Asking.{AskRow, out_of_turn, tell, load, idle, prune, reload, update, row_replaced, row_reason, row_held, row_dropped, row_loaded, row_notice, row_plan, ask_row}

-- a loaded page without a plan, of which nothing is dropped
pub record IsReady (c : Client) : Type 0 where
  pub none : c.page.plan ≡ None
  pub loaded : c.page.loaded ≡ true
  pub whole : dropped c ≡ []

module _ (s : Sources) (c : Client) where
  -- what holds where the row is met
  abbrev pub Right : AskRow → Type 0
  Right out_of_turn = ⊤
  Right (tell n fault) = c.page.plan ≡ None
  Right load = (c.page.plan ≡ None) × (c.page.loaded ≡ false)
  Right idle = c.page.plan ≡ None
  Right (prune ds) = (c.page.plan ≡ None) × (c.page.loaded ≡ true) × (dropped c ≡ ds)
  Right (reload path) = IsReady c × (reason s c ≡ Some path)
  Right (update ns ps) = IsReady c × (replaced s c ≡ ns) × (pairs s c ≡ ps)

  right_replaced : IsReady c → (ns : List Name) (ps : List (Name × Name)) → replaced s c ≡ ns → pairs s c ≡ ps → Right (row_replaced ns ps)
  right_replaced r [] [] e f = r.none
  right_replaced r [] (p ∷ ps) e f = (r, e, f)
  right_replaced r (n ∷ ns) ps e f = (r, e, f)

  right_reason : IsReady c → (o : Option (List Name)) → reason s c ≡ o → (row : AskRow) → Right row → Right (row_reason o row)
  right_reason r None e row k = k
  right_reason r (Some path) e row k = (r, e)

  right_held : c.page.plan ≡ None → (b : Bool) (row : AskRow) → Right row → Right (row_held b row)
  right_held p true row k = p
  right_held p false row k = k

  right_dropped : c.page.plan ≡ None → c.page.loaded ≡ true → (ds : List Name) → dropped c ≡ ds → (row : AskRow) → (IsReady c → Right row) → Right (row_dropped ds row)
  right_dropped p l [] e row k = k (record { none = p; loaded = l; whole = e })
  right_dropped p l (d ∷ ds) e row k = (p, l, e)

  right_loaded : c.page.plan ≡ None → (loaded held : Bool) → c.page.loaded ≡ loaded → (row : AskRow) → (c.page.loaded ≡ true → Right row) → Right (row_loaded loaded held row)
  right_loaded p true held e row k = k e
  right_loaded p false true e row k = p
  right_loaded p false false e row k = (p, e)

  right_notice : c.page.plan ≡ None → (o : Option (Name × TextFault)) (row : AskRow) → Right row → Right (row_notice o row)
  right_notice p None row k = k
  right_notice p (Some notice) row k = p

  right_plan : (o : Option Plan) → c.page.plan ≡ o → (row : AskRow) → (c.page.plan ≡ None → Right row) → Right (row_plan o row)
  right_plan None e row k = k e
  right_plan (Some p) e row k = tt

  -- it holds of the row that an Ask meets
  pub right_row : Right (ask_row s c)
  right_row = right_plan c.page.plan refl _ (λ p.
      right_notice p (first_notice c) _ (right_loaded p c.page.loaded (is_held s c) refl _ (λ l.
      right_dropped p l (dropped c) refl _ (λ r.
      right_held p (is_held s c) _ (right_reason r (reason s c) refl _ (right_replaced r (replaced s c) (pairs s c) refl refl))))))
