-- How boundaries are told of modules, row by row.
use Rattle.std.proofs.Common.{◌≡◌, ◌<◌, ◌≤◌, ◌+◌, ℕ, suc, List, [], ◌∷◌, ◌++◌, length, drop, get_or, refl, ap, sym, ◌∙◌}
use Rattle.std.proofs.Math.Path.{subst}
use Rattle.std.specs.Prelude.{Option, Some, None}
use Rattle.std.specs.Option.{option_map}
use Rattle.std.proofs.lemmas.List.{append-nil, append_assoc, drop_all, drop_more}
use Rattle.output_lines.specs.declared.out_line.OutLine.{OutLine}
use Rattle.core_model.specs.Names.{Name}
use Rattle.core_model.specs.Page.{Plan}
use Rattle.client_model.specs.Applying.{tell_boundary}
use Rattle.client_model.specs.Instance.{Instance, live_at}
use Rattle.client_model.specs.Linking.{number_in}
use Rattle.client_model.specs.Runtime.{Runtime, Did, and_then, for_each}
use Rattle.module_language.specs.ModuleLanguage.{module_language}
use Rattle.page_instances.specs.Scopes.{kept_at}
use Rattle.page_state.specs.declared.page.Page.{Page}
use Rattle.page_state.specs.Live.{number_of}
use Rattle.page_state.specs.Settling.{kept_by}
use Rattle.page_state.specs.Standing.{BothOrNone, StandsFor, Follows}
use Rattle.page_ends.specs.Tellings.{AreTold, told}
use Rattle.page_ends.specs.declared.tell.Told.{Told}
use Rattle.page_state.proofs.Following.{follows_nothing, follows_more}
use Rattle.page_state.proofs.Standing.{live_seen}

-- where the live instance of a name stands, by its number
module _ {F : Type 0} (r : Runtime) (p : Page F) (s : StandsFor r p) (n : Name) where
  -- no instance has the number
  no_such_number : (k : ℕ) → number_of p.live n ≡ Some k → kept_at p.instances.items k ≡ None → number_in (live_at r.instances n) ≡ None
  no_such_number k e none = by (live_at r.instances n) (subst (BothOrNone (live_at r.instances n)) (ap (kept_by p.instances.items) e ∙ none) (live_seen r p s n))
    where
      by : (o : Option Instance) → BothOrNone {F = F} o None → number_in o ≡ None
      by None b = refl
      by (Some i) b = absurd b

  pub its_place : (k : ℕ) (o : Option ℕ) → number_of p.live n ≡ Some k → ((j : ℕ) → o ≡ Some j → k ≡ suc j) → (o ≡ None → kept_at p.instances.items k ≡ None) → number_in (live_at r.instances n) ≡ option_map suc o
  its_place k None e some none = no_such_number k e (none refl)
  its_place k (Some j) e some none = s.instances.by_name n ∙ e ∙ ap Some (some j refl)

-- rows that are the pairs do all that the model's pairs do
pub told_each : (p : Plan) (r : Runtime) (rows : List Told) (pairs : List (Name × Name)) → AreTold p r rows pairs → (now : Runtime) → for_each told rows now ≡ for_each (tell_boundary module_language p r) pairs now
told_each p r [] [] are now = refl
told_each p r [] (pair ∷ pairs) are now = absurd are
told_each p r (t ∷ rows) [] are now = absurd are
told_each p r (t ∷ rows) (pair ∷ pairs) are now =
    ap (λ did. and_then did (for_each told rows)) (are.0 now)
    ∙ ap {A = Did} {B = Did} (λ more. (more.0, (tell_boundary module_language p r pair now).1 ++ more.1)) (told_each p r rows pairs are.1 (tell_boundary module_language p r pair now).0)

-- one row more
pub next_row : (p : Plan) (r : Runtime) (rows new : List Told) (t : Told) (pairs : List (Name × Name)) (index : ℕ) (pair : Name × Name) → index < length pairs → pair ≡ get_or pairs index pair → new ≡ rows ++ t ∷ []
    → ((now : Runtime) → told t now ≡ tell_boundary module_language p r pair now)
    → ((more : List Told) → AreTold p r more (drop index pairs) → AreTold p r (rows ++ more) pairs)
    → (more : List Told) → AreTold p r more (drop (index + 1) pairs) → AreTold p r (new ++ more) pairs
next_row p r rows new t pairs index pair within is added one so_far more are =
    subst (λ ts. AreTold p r ts pairs) (sym (ap (λ ts. ts ++ more) added ∙ append_assoc rows (t ∷ []) more))
    (so_far (t ∷ more) (subst (AreTold p r (t ∷ more)) (sym (drop_more pairs index pair within ∙ ap (λ x. x ∷ drop (index + 1) pairs) (sym is))) (one, are)))

-- no pair is left
pub all_rows : (p : Plan) (r : Runtime) (rows : List Told) (pairs : List (Name × Name)) (index : ℕ) → length pairs ≤ index
    → ((more : List Told) → AreTold p r more (drop index pairs) → AreTold p r (rows ++ more) pairs) → AreTold p r rows pairs
all_rows p r rows pairs index last so_far =
    subst (λ ts. AreTold p r ts pairs) (append-nil rows) (so_far [] (subst (AreTold p r []) (sym (drop_all index pairs last)) tt))

-- one row more is carried out
pub next_told : {F : Type 0} (rows : List Told) (index : ℕ) (t : Told) (a b z : Page F) (l m more : List OutLine) → index < length rows → t ≡ get_or rows index t
    → Follows (told t) a b l m → Follows (for_each told (drop (index + 1) rows)) b z m more → Follows (for_each told (drop index rows)) a z l more
next_told rows index t a b z l m more within is one later =
    subst (λ ts. Follows (for_each told ts) a z l more) (sym (drop_more rows index t within ∙ ap (λ x. x ∷ drop (index + 1) rows) (sym is))) (follows_more told t (drop (index + 1) rows) a b z l m more one later)

-- no row is left
pub none_told : {F : Type 0} (rows : List Told) (index : ℕ) (a : Page F) (l : List OutLine) → length rows ≤ index → Follows (for_each told (drop index rows)) a a l l
none_told rows index a l last = subst (λ ts. Follows (for_each told ts) a a l l) (sym (drop_all index rows last)) (follows_nothing a l)
