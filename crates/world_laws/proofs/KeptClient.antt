-- The facts of a client, as clauses tell them of its instances and as proofs use them of frames; each thing
-- that comes to the client keeps them.
use Rattle.std.proofs.Common.{◌≡◌, ℕ, zero, suc, ◌≤◌, Bool, true, false, List, [], ◌∷◌, refl, ap, sym, ◌∙◌, arith, Contains}
use Rattle.std.specs.Prelude.{◌==◌, Option, Some, None, is_some, option_map, IfSome}
use Rattle.std.proofs.Math.Path.{subst}
use Rattle.std.proofs.lemmas.Bool.{false≢true, eqb-true, eq-eqb}
use Rattle.std.proofs.lemmas.List.{length-map}
use Rattle.core_model.specs.Names.{Name, at}
use Rattle.core_model.specs.Sources.{Text, Serving}
use Rattle.core_model.specs.Core.{client_at}
use Rattle.core_model.specs.View.{Entry}
use Rattle.core_model.specs.Page.{Plan}
use Rattle.client_model.specs.Language.{Language}
use Rattle.client_model.specs.Instance.{Instance, live_at}
use Rattle.client_model.specs.Runtime.{Runtime, Opening, new_runtime}
use Rattle.client_model.specs.Past.{Incoming, met}
use Rattle.world_model.specs.World.{World, Step}
use Rattle.world_model.specs.Steps.{world_step}
use Rattle.world_laws.specs.Instances.{AreNumbered, IsMadeOf, IsExporting}
use Rattle.world_laws.specs.KeptClient.{IsFetchedAs, IsPlanned, IsLiveOf, ClientFacts, HaveFacts}
use Rattle.world_laws.proofs.Members.{none_in, map_in, MadeOf, map_from}
use Rattle.world_laws.proofs.Frames.{Frame, frame, frames, Numbered}
use Rattle.world_laws.proofs.Holding.{LeadsTo, PlanFits, HoldsOf, live_is}
use Rattle.world_laws.proofs.Messages.{met_goes, new_holds}
use Rattle.world_laws.proofs.Texts.{StagedFits, LiveFits, PlanTexts, FitsIn, met_fits}
use Rattle.world_laws.proofs.Replies.{ServedFits, KeptAt, step_kept}
use Rattle.world_laws.proofs.Exporting.{Exporting, IsServedBy, AllServed, Right, came_right, met_served, served_exported}
use Rattle.world_laws.proofs.Linked.{IsWhole, AllWhole, met_whole}
use Rattle.world_laws.proofs.Making.{numbered_are, linked_are, live_framed, one_counted}

-- the same, as proofs use it
pub record Facts (language : Language) (r : Runtime) : Type 0 where
  pub holds : HoldsOf r
  pub fits : FitsIn (Right language) r
  pub whole : AllWhole language (frames r.instances)
  pub served : AllServed language (frames r.instances)

-- Numbers.

above_none : (c : ℕ) → (c == 0) ≡ false → 1 ≤ c
above_none zero e = absurd (false≢true (sym e ∙ eq-eqb 0 0 refl))
above_none (suc c) e = omega arith

not_none : (c : ℕ) → 1 ≤ c → (c == 0) ≡ false
not_none c l = by (c == 0) refl
  where
    by : (b : Bool) → (c == 0) ≡ b → b ≡ false
    by true e = absurd (omega (arith, l, eqb-true c 0 e))
    by false e = refl

frames_numbered : (is : List Instance) → AreNumbered is → Numbered (frames is)
frames_numbered [] d = tt
frames_numbered (i ∷ is) d = (d.0 ∙ ap suc (sym (length-map is frame)), frames_numbered is d.1)

-- Links.

made_leads : (is : List Instance) (x : Name) (k : ℕ) → IsMadeOf is x k → LeadsTo (frames is) x k
made_leads is x k m = record {
  to = frame m.instance;
  there = map_in frame is m.instance m.made;
  number = m.number;
  name = m.name;
}

exports_lead : (is : List Instance) (k : ℕ) (x : Name) → IsExporting is k x → Exporting (frames is) k x
exports_lead is k x e = record {
  to = frame e.instance;
  there = map_in frame is e.instance e.made;
  number = e.number;
  exports = e.exports;
}

-- what holds of the frame of each instance holds of each frame
of_frames : (Q : Frame → Type 0) (is : List Instance) → ((i : Instance) → Contains is i → Q (frame i)) →
    (f : Frame) → Contains (frames is) f → Q f
of_frames Q is h f c =
    let m : MadeOf frame is f = map_from frame is f c in
    subst Q m.makes (h m.of m.there)

-- What was fetched, and what is live.

fetched_there : (language : Language) (n : Name) (e : Option Entry) (t : Option Text) →
    IsFetchedAs language n e t → is_some e ≡ true → is_some t ≡ true
fetched_there language n None t h s = absurd (false≢true s)
fetched_there language n (Some e) None h s = absurd h
fetched_there language n (Some e) (Some t) h s = refl

to_staged : (language : Language) (n : Name) (e : Option Entry) (t : Option Text) →
    IsFetchedAs language n e t → StagedFits (Right language n) e t
to_staged language n None t h = tt
to_staged language n (Some e) None h = h
to_staged language n (Some e) (Some t) h = h

from_staged : (language : Language) (n : Name) (e : Option Entry) (t : Option Text) →
    StagedFits (Right language n) e t → IsFetchedAs language n e t
from_staged language n None t h = tt
from_staged language n (Some e) None h = h
from_staged language n (Some e) (Some t) h = h

to_fitting : (language : Language) (q : Option Plan) (loaded : Bool) (texts : List (Name × Text)) →
    IsPlanned language q loaded texts → PlanFits q loaded texts
to_fitting language None loaded texts h = tt
to_fitting language (Some p) loaded texts h =
    (h.0, λ n s. fetched_there language n (at p.staged n) (at texts n) (h.1 n) s)

to_texts : (language : Language) (q : Option Plan) (loaded : Bool) (texts : List (Name × Text)) →
    IsPlanned language q loaded texts → PlanTexts (Right language) q texts
to_texts language None loaded texts h = tt
to_texts language (Some p) loaded texts h = λ n. to_staged language n (at p.staged n) (at texts n) (h.1 n)

from_texts : (language : Language) (q : Option Plan) (loaded : Bool) (texts : List (Name × Text)) →
    PlanFits q loaded texts → PlanTexts (Right language) q texts → IsPlanned language q loaded texts
from_texts language None loaded texts f h = tt
from_texts language (Some p) loaded texts f h =
    (f.0, λ n. from_staged language n (at p.staged n) (at texts n) (h n))

to_live : (language : Language) (n : Name) (e : Option Entry) (i : Option Instance) →
    IsLiveOf language n e i → LiveFits (Right language n) e (option_map frame i)
to_live language n None i h = tt
to_live language n (Some e) None h = tt
to_live language n (Some e) (Some i) h = (h.version, h.exports, h.analysis)

from_live : (language : Language) (n : Name) (e : Option Entry) (i : Option Instance) →
    LiveFits (Right language n) e (option_map frame i) → IsLiveOf language n e i
from_live language n None i h = tt
from_live language n (Some e) None h = tt
from_live language n (Some e) (Some i) h = record { version = h.0; exports = h.1; analysis = h.2 }

-- The facts, told in one way and in the other.

module _ (language : Language) (r : Runtime) where
  used : ClientFacts language r → Facts language r
  used f = record {
    holds = record {
      numbered = frames_numbered r.instances f.numbered;
      one = λ n. omega (arith, one_counted r.instances n, f.one n);
      live = λ n. sym (live_framed r.instances n) ∙ f.live n;
      linked =
          of_frames (λ g. (x : Name) (k : ℕ) → Contains g.links (x, k) → LeadsTo (frames r.instances) x k)
          r.instances (λ i c x k l. made_leads r.instances x k (f.linked i c x k l));
      planned = to_fitting language r.page.plan r.page.loaded r.texts f.planned;
      empty = f.empty;
      talks = λ e. not_none r.client (f.counted e);
    };
    fits = record {
      planned = to_texts language r.page.plan r.page.loaded r.texts f.planned;
      live =
          λ n. subst (LiveFits (Right language n) (at r.page.view n)) (sym (live_is r.instances n))
          (to_live language n (at r.page.view n) (live_at r.instances n) (f.modules n));
    };
    whole = of_frames (IsWhole language) r.instances f.whole;
    served =
        of_frames (IsServedBy language (frames r.instances)) r.instances
        (λ i c b d k l. exports_lead r.instances k b.exported (f.exported i c b d k l));
  }

  told : Facts language r → ClientFacts language r
  told f = record {
    numbered = numbered_are r.instances f.holds.numbered;
    linked = linked_are r.instances f.holds.linked;
    whole = λ i c. f.whole (frame i) (map_in frame r.instances i c);
    exported = served_exported language r.instances f.served;
    one = λ n. omega (arith, one_counted r.instances n, f.holds.one n);
    live = λ n. live_framed r.instances n ∙ f.holds.live n;
    modules =
        λ n. from_live language n (at r.page.view n) (live_at r.instances n)
        (subst (LiveFits (Right language n) (at r.page.view n)) (live_is r.instances n) (f.fits.live n));
    planned = from_texts language r.page.plan r.page.loaded r.texts f.holds.planned f.fits.planned;
    empty = f.holds.empty;
    counted = λ e. above_none r.client (f.holds.talks e);
  }

-- Each thing that comes.

met_keeps : (language : Language) (r : Runtime) (came : Incoming) → Facts language r →
    Facts language (met language came r).0
met_keeps language r came f = record {
  holds = (met_goes language r came f.holds).holds;
  fits = met_fits language (Right language) r f.holds f.fits came (came_right language came);
  whole = met_whole language r came f.holds f.fits f.whole;
  served = met_served language (Right language) r came f.holds f.fits f.served;
}

pub client_keeps : (language : Language) (r : Runtime) (came : Incoming) → ClientFacts language r →
    ClientFacts language (met language came r).0
client_keeps language r came f =
    told language (met language came r).0 (met_keeps language r came (used language r f))

pub client_begins : (language : Language) (opening : Opening) → ClientFacts language (new_runtime opening)
client_begins language opening = told language (new_runtime opening) (record {
  holds = new_holds opening;
  fits = record { planned = tt; live = λ n. tt };
  whole = λ f c. absurd (none_in f c);
  served = λ f c. absurd (none_in f c);
})

-- Each step of the world.

module _ (language : Language) where
  abbrev Linked : Runtime → Type 0
  Linked r = AllWhole language (frames r.instances) × AllServed language (frames r.instances)

  linked_first : (opening : Opening) → Linked (new_runtime opening)
  linked_first opening = (λ f c. absurd (none_in f c), λ f c. absurd (none_in f c))

  linked_on : (r : Runtime) (came : Incoming) → HoldsOf r → FitsIn (Right language) r →
      FitsIn (Right language) (met language came r).0 → Linked r → Linked (met language came r).0
  linked_on r came h fits new l =
      (met_whole language r came h fits l.0, met_served language (Right language) r came h fits l.1)

  abbrev Kept : Option Runtime → Type 0
  Kept o = KeptAt language (Right language) Linked linked_first linked_on o

  to_kept : (o : Option Runtime) → IfSome o (ClientFacts language) → Kept o
  to_kept None h = tt
  to_kept (Some r) h = let f : Facts language r = used language r h in (f.holds, f.fits, (f.whole, f.served))

  from_kept : (o : Option Runtime) → Kept o → IfSome o (ClientFacts language)
  from_kept None k = tt
  from_kept (Some r) k =
      told language r (record { holds = k.0; fits = k.1; whole = k.2.0; served = k.2.1 })

  served_right : (n : Name) (o : Option Serving) → ServedFits language (Right language) n o
  served_right n None = tt
  served_right n (Some s) = λ a e. e

  pub clients_keep : (roots : List Name) (shelves : List (List (Text × ℕ))) (w : World) (s : Step) →
      HaveFacts language w → HaveFacts language (world_step language roots shelves w s).world
  clients_keep roots shelves w s h i =
      from_kept (client_at (world_step language roots shelves w s).world.clients i)
      (step_kept language (Right language) Linked linked_first linked_on roots shelves w s
      (λ n. served_right n (at w.core.sources.served n)) (λ j. to_kept (client_at w.clients j) (h j)) i)
