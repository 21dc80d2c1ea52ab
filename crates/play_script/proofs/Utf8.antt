-- A test that is true exactly of UTF-8 is the definition's; a text that is read where it is UTF-8.
use Rattle.std.proofs.Common.{◌≡◌, ℕ, Bool, true, false, cond, List, Option, Some, None, sym, ap, ◌∙◌, refl}
use Prim.{⊥}
use Rattle.std.specs.Prelude.{if◌then◌else◌}
use Rattle.std.specs.Prelude.{Ok}
use Rattle.std.proofs.lemmas.Option.{same_Some}
use Rattle.hmr_types.specs.Event.{event_module, is_event}
use Rattle.hmr_types.proofs.Events.{event_module-is_name, is_event-IsUtf8}
use Rattle.play_script.specs.Script.{event_named, named}
use Rattle.std.specs.Str.{is_utf8, IsUtf8}
use Rattle.std.proofs.lemmas.Str.{IsUtf8-from_is_utf8, is_utf8-from_IsUtf8}

by_test : (b : Bool) (bs : List ℕ) → is_utf8 bs ≡ b → (false ≡ true → IsUtf8 bs) × (IsUtf8 bs → false ≡ true) → false ≡ is_utf8 bs
by_test true bs e h = h.1 (IsUtf8-from_is_utf8 bs e) ∙ sym e
by_test false bs e h = sym e

-- a test that is true exactly of UTF-8
pub decides_utf8 : (b : Bool) (bs : List ℕ) → (b ≡ true → IsUtf8 bs) × (IsUtf8 bs → b ≡ true) → b ≡ is_utf8 bs
decides_utf8 true bs h = sym (is_utf8-from_IsUtf8 bs (h.0 refl))
decides_utf8 false bs h = by_test (is_utf8 bs) bs refl h

-- the text that is read where it is UTF-8
abbrev pub TextOf : List ℕ → Option (List ℕ) → Type 0
TextOf word text = text ≡ (if is_utf8 word then Some word else None)

pub text_there : (word text : List ℕ) → (text ≡ word) × IsUtf8 word → TextOf word (Some text)
text_there word text h = let e = is_utf8-from_IsUtf8 word h.1 in rw e (ap Some h.0)

no_text : (word : List ℕ) (t : Bool) → is_utf8 word ≡ t → (IsUtf8 word → ⊥) → None ≡ cond t (Some word) None
no_text word true e h = absurd (h (IsUtf8-from_is_utf8 word e))
no_text word false e h = refl

pub text_absent : (word : List ℕ) → (IsUtf8 word → ⊥) → TextOf word None
text_absent word h = no_text word (is_utf8 word) refl h

some_text : (word : List ℕ) → is_utf8 word ≡ true → (if is_utf8 word then Some word else None) ≡ Some word
some_text word e = rw e refl

-- the name of an event is UTF-8
pub event_there : (word : List ℕ) (text : Option (List ℕ)) → is_event word ≡ true → TextOf word text → text ≡ (if is_event word then Some word else None)
event_there word text e h = rw e (h ∙ some_text word (is_utf8-from_IsUtf8 word (is_event-IsUtf8 word e)))

named_module : (word event name : List ℕ) (t : Bool) → is_event word ≡ t → Some event ≡ cond t (Some word) None → name ≡ event_module event → named name ≡ event_named word
named_module word event name true e h m =
    let good = event_module-is_name word e in
    let same : name ≡ event_module word = m ∙ ap event_module (same_Some _ _ h) in
    let there : named (event_module word) ≡ Ok (event_module word) = rw good refl in
    let read : Ok (event_module word) ≡ event_named word = rw e refl in
    ap named same ∙ (there ∙ read)
named_module word event name false e h m = absurd (cc)

-- the module of a named event is named as modules are
pub event_named_is : (word event name : List ℕ) → Some event ≡ (if is_event word then Some word else None) → name ≡ event_module event → named name ≡ event_named word
event_named_is word event name h m = named_module word event name (is_event word) refl h m
