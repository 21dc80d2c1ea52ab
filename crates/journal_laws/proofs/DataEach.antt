-- What holds of each thing that happened, with the bags before it: of one journal after another, of one where
-- it is split, and of what only writes, drops or registers.
use Rattle.std.proofs.Common.{◌≡◌, ℕ, List, [], ◌∷◌, ◌++◌, ap}
use Rattle.std.specs.Prelude.{fold, map, Option, Some, None, ⊤}
use Rattle.module_tree.specs.Syntax as syntax
use Rattle.module_tree.specs.Syntax.{OnceTree}
use Rattle.output_lines.specs.declared.out_line.OutLine.{OutLine}
use Rattle.core_model.specs.Names.{Name, at}
use Rattle.core_model.specs.Sources.{Text}
use Rattle.client_model.specs.Language.{Bag, Registered}
use Rattle.client_model.specs.Instance.{Handler, Deed, code, host, places_from}
use Rattle.client_model.specs.Journal.{Happening, Journal, registered, no_host, dropped, told, bag_after}
use Rattle.client_model.specs.Runtime.{Runtime, Did, and_then, bag_of}
use Rattle.client_model.specs.Making.{Registry, is_displaced_by, new_handler, without_first, with_handler, with_host, register_once, register_all}
use Rattle.client_model.proofs.Bagging.{Keeps}
use Rattle.client_model.proofs.Takes.{AreLines, line_by}

-- each thing that happened, with the bags before it
abbrev pub Each : (Happening → (Name → Bag) → Type 0) → (Name → Bag) → Journal → Type 0
Each Q bags [] = ⊤
Each Q bags (h ∷ journal) = Q h bags × Each Q (λ n. bag_after n (bags n) h) journal

-- it is the same of the same bags
abbrev pub Respects : (Happening → (Name → Bag) → Type 0) → Type 0
Respects Q = (h : Happening) (f g : Name → Bag) → ((n : Name) → f n ≡ g n) → Q h f → Q h g

-- nothing of what only writes, drops or registers is against it
pub record IsFree (Q : Happening → (Name → Bag) → Type 0) : Type 0 where
  pub registered : (k : ℕ) (h : Handler) (bags : Name → Bag) → Q (registered k h) bags
  pub no_host : (k : ℕ) (n : Name) (label : Text) (bags : Name → Bag) → Q (no_host k n label) bags
  pub dropped : (k spot : ℕ) (bags : Name → Bag) → Q (dropped k spot) bags
  pub line : (l : OutLine) (bags : Name → Bag) → Q (told l) bags

module _ (Q : Happening → (Name → Bag) → Type 0) where
  pub each_append : (bags : Name → Bag) (a b : Journal) → Each Q bags a → Each Q (λ n. fold (bag_after n) (bags n) a) b → Each Q bags (a ++ b)
  each_append bags [] b s t = t
  each_append bags (h ∷ a) b s t = (s.0, each_append (λ n. bag_after n (bags n) h) a b s.1 t)

  pub each_same : Respects Q → (f g : Name → Bag) → ((n : Name) → f n ≡ g n) → (journal : Journal) → Each Q f journal → Each Q g journal
  each_same c f g e [] s = tt
  each_same c f g e (h ∷ journal) s = (c h f g e s.0, each_same c (λ n. bag_after n (f n) h) (λ n. bag_after n (g n) h) (λ n. ap (λ bag. bag_after n bag h) (e n)) journal s.1)

  pub each_at : (bags : Name → Bag) (front : Journal) (h : Happening) (back : Journal) → Each Q bags (front ++ h ∷ back) → Q h (λ n. fold (bag_after n) (bags n) front)
  each_at bags [] h back s = s.0
  each_at bags (f ∷ front) h back s = each_at (λ n. bag_after n (bags n) f) front h back s.1

  -- one after another, where the bags are kept
  pub each_then : Respects Q → (r : Runtime) (did : Did) (next : Runtime → Did) → Keeps r did → Each Q (bag_of r) did.1 → Each Q (bag_of did.0) (next did.0).1 → Each Q (bag_of r) (and_then did next).1
  each_then c r did next k s t = each_append (bag_of r) did.1 (next did.0).1 s (each_same c (bag_of did.0) (λ n. fold (bag_after n) (bag_of r n) did.1) k (next did.0).1 t)

  module _ (free : IsFree Q) where
    pub each_line : (bags : Name → Bag) (journal : Journal) → AreLines journal → Each Q bags journal
    each_line bags [] l = tt
    each_line bags (h ∷ journal) l = (line_by (λ g. Q g bags) (λ words. free.line words bags) h l.0, each_line (λ n. bag_after n (bags n) h) journal l.1)

    pub each_drop : (k : ℕ) (places : List ℕ) (bags : Name → Bag) → Each Q bags (map (dropped k) places)
    each_drop k [] bags = tt
    each_drop k (p ∷ places) bags = (free.dropped k p bags, each_drop k places bags)

    abbrev pub Free : Journal → Type 0
    Free journal = (bags : Name → Bag) → Each Q bags journal

    pub free_append : (a b : Journal) → Free a → Free b → Free (a ++ b)
    free_append a b s t bags = each_append bags a b (s bags) (t (λ n. fold (bag_after n) (bags n) a))

    free_handler : (k : ℕ) (entry : Registered) (deed : Deed) (g : Registry) → Free g.journal → Free (with_handler k entry deed g).journal
    free_handler k entry deed g s =
        let places : List ℕ = places_from 0 (is_displaced_by entry.kind) g.handlers in
        free_append g.journal (map (dropped k) places ++ registered k (new_handler entry deed) ∷ []) s
        (free_append (map (dropped k) places) (registered k (new_handler entry deed) ∷ []) (each_drop k places) (λ bags. (free.registered k (new_handler entry deed) bags, tt)))

    free_host : (number : Option ℕ) (k : ℕ) (m : Name) (entry : Registered) (label : Text) (g : Registry) → Free g.journal → Free (with_host number k m entry label g).journal
    free_host None k m entry label g s = free_append g.journal (no_host k m label ∷ []) s (λ bags. (free.no_host k m label bags, tt))
    free_host (Some number) k m entry label g s = free_handler k entry (host label number) (record g { shelf = without_first label g.shelf }) s

    free_once : (what : OnceTree) (k : ℕ) (m : Name) (entry : Registered) (g : Registry) → Free g.journal → Free (register_once what k m entry g).journal
    free_once (syntax.code tree) k m entry g s = free_handler k entry (code tree) g s
    free_once (syntax.host label) k m entry g s = free_host (at g.shelf label) k m entry label g s

    free_all : (k : ℕ) (m : Name) (entries : List Registered) (g : Registry) → Free g.journal → Free (fold (λ g entry. register_once entry.what k m entry g) g entries).journal
    free_all k m [] g s = s
    free_all k m (entry ∷ entries) g s = free_all k m entries (register_once entry.what k m entry g) (free_once entry.what k m entry g s)

    -- what an evaluation registers
    pub each_register : (k : ℕ) (m : Name) (entries : List Registered) (shelf : List (Text × ℕ)) (bags : Name → Bag) → Each Q bags (register_all k m entries shelf).journal
    each_register k m entries shelf = free_all k m entries (record { handlers = []; shelf = shelf; journal = [] }) (λ bags. tt)
