-- What is known of a value that a parse found: it passed the parser of its argument, and is read as that
-- parser says.
use Rattle.std.proofs.Common.{◌≡◌, ◌∙◌, ◌<◌, ap, ℕ, Bool, true, false, List, [], ◌∷◌, length, Option, Some, None, refl, sym, subst, inl, inr, arith}
use Rattle.std.specs.List.{All, slice_index_or}
use Rattle.std.specs.Str.{bytes_eq}
use Rattle.std.specs.Prelude.{option_map, slice_get, unwrap_or}
use Rattle.std.specs.Borrow.{Bor}
use Rattle.std.proofs.lemmas.Slice.Eq.{bytes_eq-Decides}
use Rattle.std.proofs.lemmas.List.Elements.{All-get_or}
use Rattle.clap.specs.Facts.{args_of, groups_of, Entry, EntryPasses, HasReading, PassesArg, parser_of, parser_of_value}
use Rattle.clap.specs.Built.{IsAuto, IsParsedFrom, IsPlain, SameRules}
use Rattle.clap.specs.Matches.{found_of, matched_of, one_text}
use Rattle.clap.specs.Values.{Accepts, read_as, reading_of}
use Rattle.clap.specs.declared.builder.value_parser.Reading.{Reading}
use Rattle.clap.specs.declared.builder.arg.Arg.{Arg}
use Rattle.clap.specs.declared.builder.command.Command.{Command}
use Rattle.clap.specs.declared.builder.command.Command.TheViews.{out-Command}
use Rattle.clap.specs.declared.builder.value_parser.ValueParser.{ValueParser}
use Rattle.clap.specs.declared.parser.matches.ArgMatches.{ArgMatches}
use Rattle.clap.specs.declared.parser.matches.MatchedArg.{MatchedArg}
use Rattle.clap.proofs.CallerLemmas.{entry_by_id, same_rules_by_id}

-- an argument of a command under an id that no other of its arguments has, with a parser of its own
pub record HasParser (c : Command) (k : ℕ) (a : Arg) (q : ValueParser) : Type 0 where
  pub within : k < length (args_of c)
  pub at : slice_index_or (args_of c) k a ≡ a
  pub only : (j : ℕ) (e : Arg) → j < length (args_of c)
      → bytes_eq (slice_index_or (args_of c) j e).id.now a.id.now ≡ true → j ≡ k
  pub named : a.id.now ≡ [] → ⊥
  pub own : IsAuto a → ⊥
  pub parser : a.value_parser ≡ Some q

-- the rules of the built command's argument of that id are the caller's
same_rules : (c : Command) (m : ArgMatches) (p : IsParsedFrom c m) (k : ℕ) (a : Arg) (q : ValueParser)
    → HasParser c k a q → (j : ℕ) (x : Arg) → j < length (args_of p.built)
    → slice_index_or (args_of p.built) j x ≡ x → bytes_eq x.id.now a.id.now ≡ true → SameRules a x
same_rules c m p k a q is j x high at same =
    subst (λ (y : Arg). SameRules y x) is.at
    (same_rules_by_id c m p k a is.within
    (λ i e low eq. is.only i e low
    (subst (λ (y : Arg). bytes_eq (slice_index_or (args_of c) i e).id.now y.id.now ≡ true) is.at eq))
    (λ auto. is.own (subst IsAuto is.at auto)) j x high at
    (subst (λ (y : Arg). bytes_eq x.id.now y.id.now ≡ true) (sym is.at) same))

read_by : (c : Command) (m : ArgMatches) (p : IsParsedFrom c m) (k : ℕ) (a : Arg) (q : ValueParser)
    → HasParser c k a q → (r : Reading) → HasReading p.built a.id.now r → r ≡ reading_of q
read_by c m p k a q is r any =
    let rules = same_rules c m p k a q is any.0 any.1 any.2 any.3 any.4.0 in
    let is_q : parser_of any.1 ≡ q = ap parser_of_value (rules.parser q is.parser) in
    sym any.4.1 ∙ ap reading_of is_q

passes : (c : Command) (m : ArgMatches) (p : IsParsedFrom c m) (k : ℕ) (a : Arg) (q : ValueParser)
    → HasParser c k a q → (t : List ℕ) → PassesArg p.built a.id.now t → Accepts a.ignore_case q t
passes c m p k a q is t pass =
    let rules = same_rules c m p k a q is pass.0 pass.1 pass.2 pass.3 pass.4.0 in
    let is_q : parser_of pass.1 ≡ q = ap parser_of_value (rules.parser q is.parser) in
    subst (λ (b : Bool). Accepts b q t) rules.ignore_case
    (subst (λ (w : ValueParser). Accepts pass.1.ignore_case w t) is_q pass.4.1)

-- the text of a first value
head_of : (P : Bor (List ℕ) → Type 0) (how : Reading) (vs : List (Bor (List ℕ))) (t : List ℕ) → All P vs
    → option_map (λ s. read_as how s.now) (slice_get vs 0) ≡ Some t
    → (v : Bor (List ℕ)) × (t ≡ read_as how v.now) × P v
head_of P how [] t h e = cc
head_of P how (v ∷ vs) t h e =
    (v, sym (ap (λ (o : Option (List ℕ)). unwrap_or o t) e), All-get_or P (v ∷ vs) 0 v (omega arith) h)

-- the text that was found for an argument is that of a word that passed its parser
pub given_reads : (c : Command) (m : ArgMatches) (p : IsParsedFrom c m) → IsPlain c
    → (out-Command c).has_globals ≡ false → (k : ℕ) (a : Arg) (q : ValueParser) → HasParser c k a q
    → (t : List ℕ) → one_text (found_of m) a.id.now ≡ Some t
    → (w : List ℕ) × (t ≡ read_as (reading_of q) w) × Accepts a.ignore_case q w
given_reads c m p plain globals k a q is t e =
    go (matched_of (found_of m) a.id.now) refl
  where
    entry : (x : MatchedArg) → option_map (λ s. read_as x.reading s.now) (slice_get x.vals.items 0) ≡ Some t
        → ((y : Entry) × (y.1 ≡ x) × (bytes_eq y.0.now a.id.now ≡ true) × EntryPasses p.built y)
        → (w : List ℕ) × (t ≡ read_as (reading_of q) w) × Accepts a.ignore_case q w
    entry x text got =
        let key : got.0.0.now ≡ a.id.now = (bytes_eq-Decides got.0.0.now a.id.now).0 got.2 in
        let no_groups : groups_of p.built ≡ [] = (p.from.plain plain).1 in
        let no_group : got.0.1.is_group ≡ true → ⊥ = λ g. elim (got.3.3 g) [
          | inl empty ↦ is.named (sym key ∙ empty)
          | inr lots ↦
              let bad : 0 < 0 = rw no_groups at lots in
              absurd (omega arith)
        ] in
        let all : All (λ v. PassesArg p.built a.id.now v.now) x.vals.items = elim got.3.0 [
          | inl g ↦ absurd (no_group g)
          | inr vals ↦ subst (λ (w : List ℕ). All (λ v. PassesArg p.built w v.now) x.vals.items) key
              (subst (λ (y : MatchedArg). All (λ v. PassesArg p.built got.0.0.now v.now) y.vals.items) got.1 vals)
        ] in
        let how : got.0.1.reading ≡ reading_of q = elim got.3.4 [
          | inl g ↦ absurd (no_group g)
          | inr h ↦ read_by c m p k a q is got.0.1.reading
              (subst (λ (w : List ℕ). HasReading p.built w got.0.1.reading) key h)
        ] in
        let reads : x.reading ≡ reading_of q = subst (λ (y : MatchedArg). y.reading ≡ reading_of q) got.1 how in
        let head = head_of (λ v. PassesArg p.built a.id.now v.now) x.reading x.vals.items t all text in (
          head.0.now,
          subst (λ (r : Reading). t ≡ read_as r head.0.now) reads head.1,
          passes c m p k a q is head.0.now head.2,
        )

    go : (o : Option MatchedArg) → matched_of (found_of m) a.id.now ≡ o
        → (w : List ℕ) × (t ≡ read_as (reading_of q) w) × Accepts a.ignore_case q w
    go None found =
        let none : one_text (found_of m) a.id.now ≡ None = rw found refl in
        absurd (cc)
    go (Some x) found =
        let parsed = p.parsed (p.from.globals ∙ globals) in
        let text : option_map (λ s. read_as x.reading s.now) (slice_get x.vals.items 0) ≡ Some t = rw found at e in
        entry x text (entry_by_id (EntryPasses p.built) (found_of m).entries.items a.id.now x parsed.values found)
