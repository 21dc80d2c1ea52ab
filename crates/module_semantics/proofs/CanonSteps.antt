-- Tokens taken one part after another: what is left of them, and what was read.
use Rattle.std.proofs.Common.{◌≡◌, ℕ, ◌==◌, List, [], ◌∷◌, ◌++◌, true, Some, refl, ap, ◌∙◌, codes}
use Rattle.std.proofs.lemmas.List.{append_assoc}
use Rattle.std.specs.Str.{bytes_eq}
use Rattle.module_semantics.specs.Token as token
use Rattle.module_semantics.specs.Token.{Token, LineToken}
use Rattle.module_semantics.specs.Kinds.{ACCEPT, ARROW, AS, CLOSE, CLOSE_BRACE, CLOSE_BRACKET, COMMA, CONSOLE, CONST, DATA, DECLINE, DISPOSE, DOT, ELSE, EQUALS, ERROR, EXPORT, FROM, HOST, HOT, IF, IMPORT, INVALIDATE, LET, LOG, META, NEW, ON, OPEN, OPEN_BRACE, OPEN_BRACKET, PRUNE, SEMICOLON, TEXT, THROW, kind, within, word_kind, found_word, bytes_of, name_at, same_name}
use Rattle.module_semantics.specs.Spelling as spell
use Rattle.module_semantics.specs.Readers.{next_in}
use Rattle.module_semantics.specs.Spelling.{Spell, ◌>>◌, ◌▸◌}
use Rattle.module_semantics.specs.ExprGrammar.{hot_spelt}
use Rattle.module_semantics.specs.CanonTokens.{hot_tokens}
use Rattle.module_semantics.proofs.Steps.{if_true}
use Rattle.module_semantics.proofs.KindLists.{same_kind}
use Rattle.module_semantics.proofs.Leaves.{one_is, next_is}
use Rattle.module_semantics.proofs.CanonLevels.{tokens_in, halves, first, marked}
use Rattle.module_semantics.proofs.CanonExprs.{name_spells, key_spells, lone}
use Rattle.module_semantics.proofs.Marks.{same_bytes, same_names, mark_spells}

-- a derivation spelled by tokens, of which something holds
pub record Done {D : Type 0} (spelt : D → Spell) (Means : D → Type 0) (us r : List LineToken) : Type 0 where
  pub by : D
  pub spells : spelt by (us ++ r) ≡ Some r
  pub means : Means by

abbrev pub Writes : {D : Type 0} → (D → Spell) → (D → Type 0) → List Token → Type 0
Writes spelt Means toks = (us r : List LineToken) → tokens_in us ≡ toks → Done spelt Means us r

semi_kind : within (SEMICOLON ∷ []) (kind (token.punct 7)) ≡ true
unfolding within
semi_kind = refl

-- a semicolon ends a statement
pub end_alone : (us r : List LineToken) → tokens_in us ≡ token.punct 7 ∷ [] → spell.end (us ++ r) ≡ Some r
unfolding spell.end
end_alone us r h =
    let l = lone us (token.punct 7) h in
    let is : within (SEMICOLON ∷ []) (kind l.0.token) ≡ true = ap (λ v. within (SEMICOLON ∷ []) (kind v)) l.2 ∙ semi_kind in
    let whole : us ++ r ≡ l.0 ∷ r = ap (λ v. v ++ r) l.1 in
    if_true (next_in (SEMICOLON ∷ []) (us ++ r)) _ _ _ (next_is (SEMICOLON ∷ []) l.0 r (us ++ r) whole is) (ap (spell.mark SEMICOLON) whole ∙ mark_spells SEMICOLON l.0 r is)

-- a mark, and what follows it
pub record Marked (k : ℕ) (us r : List LineToken) (ys : List Token) : Type 0 where
  pub at : LineToken
  pub back : List LineToken
  pub lasts : tokens_in back ≡ ys
  pub is : spell.mark k (us ++ r) ≡ Some (back ++ r)
  pub placed : spell.mark_at k at.at (us ++ r) ≡ Some (back ++ r)

abbrev pub Past : ℕ → Token → Type 0
Past k x = (ys : List Token) (us r : List LineToken) → tokens_in us ≡ x ∷ ys → Marked k us r ys

pub past : (k : ℕ) (x : Token) → within (k ∷ []) (kind x) ≡ true → Past k x
past k x is ys us r h =
    let m = first us x ys h in
    let there : within (k ∷ []) (kind m.at.token) ≡ true = ap (λ v. within (k ∷ []) (kind v)) m.token ∙ is in
    record { at = m.at; back = m.back; lasts = m.lasts; is = marked k us x ys m r is; placed = ap (λ v. spell.mark_at k m.at.at (v ++ r)) m.is ∙ one_is (k ∷ []) (λ t. m.at.at == t.at) m.at (m.back ++ r) there (same_kind m.at.at) }

-- a part, and what follows it
pub record Taken {D : Type 0} (spelt : D → Spell) (Means : D → Type 0) (us r : List LineToken) (ys : List Token) : Type 0 where
  pub by : D
  pub back : List LineToken
  pub lasts : tokens_in back ≡ ys
  pub is : spelt by (us ++ r) ≡ Some (back ++ r)
  pub means : Means by

pub take : {D : Type 0} (spelt : D → Spell) (Means : D → Type 0) (xs ys : List Token) (us r : List LineToken) → Writes spelt Means xs → tokens_in us ≡ xs ++ ys → Taken spelt Means us r ys
take spelt Means xs ys us r a h =
    let k = halves us xs ys h in
    let d = a k.front (k.back ++ r) k.firsts in
    record { by = d.by; back = k.back; lasts = k.lasts; is = ap (spelt d.by) (ap (λ v. v ++ r) k.is ∙ append_assoc k.front k.back r) ∙ d.spells; means = d.means }

-- a name where it stands, and what follows it
pub record Named (ks : List ℕ) (n : List ℕ) (us r : List LineToken) (ys : List Token) : Type 0 where
  pub at : LineToken
  pub back : List LineToken
  pub lasts : tokens_in back ≡ ys
  pub is : spell.name_of ks (name_at at) (us ++ r) ≡ Some (back ++ r)
  pub name : bytes_of at.token ≡ n

pub past_name : (ks : List ℕ) (n : List ℕ) → within ks (word_kind n) ≡ true → (ys : List Token) (us r : List LineToken) → tokens_in us ≡ token.name n ∷ ys → Named ks n us r ys
past_name ks n fits ys us r h =
    let m = first us (token.name n) ys h in
    record { at = m.at; back = m.back; lasts = m.lasts; is = ap (λ v. spell.name_of ks (name_at m.at) (v ++ r)) m.is ∙ name_spells ks m.at (m.back ++ r) n m.token fits; name = ap bytes_of m.token }

-- a token that is told alone, as a key or a text, and what follows it
pub record Told (spelt : Spell) (us r : List LineToken) (ys : List Token) : Type 0 where
  pub back : List LineToken
  pub lasts : tokens_in back ≡ ys
  pub is : spelt (us ++ r) ≡ Some (back ++ r)

pub past_key : (k : List ℕ) (ys : List Token) (us r : List LineToken) → tokens_in us ≡ token.name k ∷ ys → Told (spell.key k) us r ys
past_key k ys us r h = let m = first us (token.name k) ys h in record { back = m.back; lasts = m.lasts; is = ap (λ v. spell.key k (v ++ r)) m.is ∙ key_spells m.at (m.back ++ r) k m.token }

text_kind : (s : List ℕ) → within (TEXT ∷ []) (kind (token.text s)) ≡ true
unfolding within
text_kind s = refl

text_spells : (u : LineToken) (r : List LineToken) (s : List ℕ) → u.token ≡ token.text s → spell.text_token s (u ∷ r) ≡ Some r
text_spells u r s is = one_is (TEXT ∷ []) (λ t. bytes_eq s (bytes_of t.token)) u r (ap (λ v. within (TEXT ∷ []) (kind v)) is ∙ text_kind s) (ap (λ v. bytes_eq s (bytes_of v)) is ∙ same_bytes.again s)

pub past_text : (s : List ℕ) (ys : List Token) (us r : List LineToken) → tokens_in us ≡ token.text s ∷ ys → Told (spell.text_token s) us r ys
past_text s ys us r h = let m = first us (token.text s) ys h in record { back = m.back; lasts = m.lasts; is = ap (λ v. spell.text_token s (v ++ r)) m.is ∙ text_spells m.at (m.back ++ r) s m.token }

event_spells : (u : LineToken) (r : List LineToken) (s : List ℕ) → u.token ≡ token.text s → spell.name_of (TEXT ∷ []) (name_at u) (u ∷ r) ≡ Some r
event_spells u r s is = one_is (TEXT ∷ []) (λ t. same_name (name_at u) (name_at t)) u r (ap (λ v. within (TEXT ∷ []) (kind v)) is ∙ text_kind s) (same_names.again (name_at u))

-- the name of an event, which is a text, and what follows it
pub past_event : (s : List ℕ) (ys : List Token) (us r : List LineToken) → tokens_in us ≡ token.text s ∷ ys → Named (TEXT ∷ []) s us r ys
past_event s ys us r h =
    let m = first us (token.text s) ys h in
    record { at = m.at; back = m.back; lasts = m.lasts; is = ap (λ v. spell.name_of (TEXT ∷ []) (name_at m.at) (v ++ r)) m.is ∙ event_spells m.at (m.back ++ r) s m.token; name = ap bytes_of m.token }

-- the marks
pub past_open_brace : Past OPEN_BRACE (token.punct 0)
unfolding within
past_open_brace = past OPEN_BRACE (token.punct 0) refl

pub past_close_brace : Past CLOSE_BRACE (token.punct 1)
unfolding within
past_close_brace = past CLOSE_BRACE (token.punct 1) refl

pub past_open : Past OPEN (token.punct 2)
unfolding within
past_open = past OPEN (token.punct 2) refl

pub past_close : Past CLOSE (token.punct 3)
unfolding within
past_close = past CLOSE (token.punct 3) refl

pub past_open_bracket : Past OPEN_BRACKET (token.punct 4)
unfolding within
past_open_bracket = past OPEN_BRACKET (token.punct 4) refl

pub past_close_bracket : Past CLOSE_BRACKET (token.punct 5)
unfolding within
past_close_bracket = past CLOSE_BRACKET (token.punct 5) refl

pub past_comma : Past COMMA (token.punct 6)
unfolding within
past_comma = past COMMA (token.punct 6) refl

pub past_dot : Past DOT (token.punct 8)
unfolding within
past_dot = past DOT (token.punct 8) refl

pub past_equals : Past EQUALS (token.punct 9)
unfolding within
past_equals = past EQUALS (token.punct 9) refl

pub past_arrow : Past ARROW (token.punct 15)
unfolding within
past_arrow = past ARROW (token.punct 15) refl

pub past_import : Past IMPORT (token.name (codes "import"))
unfolding within word_kind found_word
past_import = past IMPORT (token.name (codes "import")) refl

pub past_export : Past EXPORT (token.name (codes "export"))
unfolding within word_kind found_word
past_export = past EXPORT (token.name (codes "export")) refl

pub past_const : Past CONST (token.name (codes "const"))
unfolding within word_kind found_word
past_const = past CONST (token.name (codes "const")) refl

pub past_let : Past LET (token.name (codes "let"))
unfolding within word_kind found_word
past_let = past LET (token.name (codes "let")) refl

pub past_if : Past IF (token.name (codes "if"))
unfolding within word_kind found_word
past_if = past IF (token.name (codes "if")) refl

pub past_else : Past ELSE (token.name (codes "else"))
unfolding within word_kind found_word
past_else = past ELSE (token.name (codes "else")) refl

pub past_throw : Past THROW (token.name (codes "throw"))
unfolding within word_kind found_word
past_throw = past THROW (token.name (codes "throw")) refl

pub past_console : Past CONSOLE (token.name (codes "console"))
unfolding within word_kind found_word
past_console = past CONSOLE (token.name (codes "console")) refl

pub past_log : Past LOG (token.name (codes "log"))
unfolding within word_kind found_word
past_log = past LOG (token.name (codes "log")) refl

pub past_host : Past HOST (token.name (codes "host"))
unfolding within word_kind found_word
past_host = past HOST (token.name (codes "host")) refl

pub past_new : Past NEW (token.name (codes "new"))
unfolding within word_kind found_word
past_new = past NEW (token.name (codes "new")) refl

pub past_from : Past FROM (token.name (codes "from"))
unfolding within word_kind found_word
past_from = past FROM (token.name (codes "from")) refl

pub past_as : Past AS (token.name (codes "as"))
unfolding within word_kind found_word
past_as = past AS (token.name (codes "as")) refl

pub past_meta : Past META (token.name (codes "meta"))
unfolding within word_kind found_word
past_meta = past META (token.name (codes "meta")) refl

pub past_hot : Past HOT (token.name (codes "hot"))
unfolding within word_kind found_word
past_hot = past HOT (token.name (codes "hot")) refl

pub past_data : Past DATA (token.name (codes "data"))
unfolding within word_kind found_word
past_data = past DATA (token.name (codes "data")) refl

pub past_accept : Past ACCEPT (token.name (codes "accept"))
unfolding within word_kind found_word
past_accept = past ACCEPT (token.name (codes "accept")) refl

pub past_dispose : Past DISPOSE (token.name (codes "dispose"))
unfolding within word_kind found_word
past_dispose = past DISPOSE (token.name (codes "dispose")) refl

pub past_prune : Past PRUNE (token.name (codes "prune"))
unfolding within word_kind found_word
past_prune = past PRUNE (token.name (codes "prune")) refl

pub past_on : Past ON (token.name (codes "on"))
unfolding within word_kind found_word
past_on = past ON (token.name (codes "on")) refl

pub past_decline : Past DECLINE (token.name (codes "decline"))
unfolding within word_kind found_word
past_decline = past DECLINE (token.name (codes "decline")) refl

pub past_invalidate : Past INVALIDATE (token.name (codes "invalidate"))
unfolding within word_kind found_word
past_invalidate = past INVALIDATE (token.name (codes "invalidate")) refl

pub past_error : Past ERROR (token.name (codes "Error"))
unfolding within word_kind found_word
past_error = past ERROR (token.name (codes "Error")) refl

-- `import.meta.hot.`, and what follows it
pub record Hot (us r : List LineToken) (ys : List Token) : Type 0 where
  pub at : LineToken
  pub middle : List LineToken
  pub back : List LineToken
  pub lasts : tokens_in back ≡ ys
  pub is : spell.mark IMPORT (us ++ r) ≡ Some (middle ++ r)
  pub placed : spell.mark_at IMPORT at.at (us ++ r) ≡ Some (middle ++ r)
  pub rest : (f : Spell) → hot_spelt f (middle ++ r) ≡ f (back ++ r)

pub past_hot_path : (ys : List Token) (us r : List LineToken) → tokens_in us ≡ token.name (codes "import") ∷ hot_tokens ys → Hot us r ys
past_hot_path ys us r h =
    let a = past_import _ us r h in
    let b = past_dot _ a.back r a.lasts in
    let c = past_meta _ b.back r b.lasts in
    let d = past_dot _ c.back r c.lasts in
    let e = past_hot _ d.back r d.lasts in
    let f = past_dot _ e.back r e.lasts in
    record { at = a.at; middle = a.back; back = f.back; lasts = f.lasts; is = a.is; placed = a.placed; rest = λ x. rw (b.is, c.is, d.is, e.is, f.is) refl }
