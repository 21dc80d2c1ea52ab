-- What firing an event answers, and that one that isn't heard changes nothing.
use Rattle.std.proofs.Common.{◌≡◌, ℕ, Bool, true, false, List, refl, sym, ap, ◌∙◌}
use Rattle.std.specs.Prelude.{Option, Some, None, Ok, is_some, option_map, not, ◌||◌, if◌then◌else◌}
use Rattle.std.specs.Global.{Vec}
use Rattle.std.proofs.lemmas.Bool.{false≢true}
use Rattle.hmr_types.specs.declared.value.Value.{Value}
use Rattle.output_lines.specs.declared.out_line.OutLine.{OutLine}
use Rattle.core_model.specs.Names.{Name}
use Rattle.core_model.specs.Core.{client_at, with_client}
use Rattle.core_laws.proofs.Refusing.{put_back}
use Rattle.client_model.specs.Firing.{busy, did_hear, hear_all, is_stopped, unheard}
use Rattle.client_model.specs.Runtime.{Runtime, Did}
use Rattle.module_language.specs.ModuleLanguage.{module_language}
use Rattle.world_model.specs.Turning.{fire_of, heard_at, lines_heard}
use Rattle.world_model.specs.World as model
use Rattle.world_parts.specs.Stops.{AreHeard}

unheard_stays : (stopped unfit : Bool) (r : Runtime) (did : Did)
    → lines_heard (if stopped then unheard is_stopped r else (if unfit then unheard busy r else did_hear did)).answer ≡ None
    → (if stopped then unheard is_stopped r else (if unfit then unheard busy r else did_hear did)).after ≡ r
unheard_stays true unfit r did e = refl
unheard_stays false true r did e = refl
unheard_stays false false r did e = absurd (false≢true (sym (ap is_some e)))

pub unheard_world : (w : model.World) (i : ℕ) (n : Name) (v : Value) (r : Runtime) → client_at w.clients i ≡ Some r → heard_at module_language n v (Some r) ≡ None
    → (fire_of module_language i n v w (client_at w.clients i)).world ≡ w
unheard_world w i n v r there e =
    ap (λ o. (fire_of module_language i n v w o).world) there
    ∙ ap (λ x. record w { clients = with_client i x w.clients }) (unheard_stays r.stopped (not r.page.loaded || is_some r.page.plan) r (hear_all module_language n v r) e)
    ∙ ap (λ rows. record w { clients = rows }) (put_back i r w.clients there)

-- what firing an event answered

pub heard_none : (heard : Option (List OutLine)) (shown : Option (Vec OutLine)) → AreHeard heard (Ok shown) → shown ≡ None → heard ≡ None
heard_none heard None h e = h
heard_none heard (Some lines) h e = absurd (false≢true (sym (ap is_some e)))

pub heard_some : (heard : Option (List OutLine)) (shown : Option (Vec OutLine)) (lines : Vec OutLine) → AreHeard heard (Ok shown) → shown ≡ Some lines → heard ≡ Some lines.items
heard_some heard None lines h e = absurd (false≢true (ap is_some e))
heard_some heard (Some all) lines h e = h ∙ ap (option_map (λ (x : Vec OutLine). x.items)) e
