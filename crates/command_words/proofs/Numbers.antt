-- The numbers of a command: clap took the words, so each that is there is in its range, and it is read as
-- its text says.
use Rattle.std.proofs.Common.{ℕ, zero, suc, ◌<◌, ◌^◌, List, [], ◌∷◌, length, Bool, true, false, not, ◌&&◌, Option, Some, None, is_some, Result, Ok, map, ◌≡◌, refl, sym, ap, subst, ◌∙◌, inl, inr, arith, codes, pos}
use Rattle.std.specs.Prelude.{IfSome, option_map, slice_get, unwrap_or}
use Rattle.std.specs.List.{All, list_all, slice_index_or}
use Rattle.std.specs.Str.{bytes_eq}
use Rattle.std.specs.Str.Parse.{ParsesUnsigned}
use Rattle.std.proofs.lemmas.Bool.{and_parts}
use Rattle.std.proofs.lemmas.List.Elements.{All-cons, All-nil}
use Rattle.std.proofs.lemmas.Slice.Eq.{bytes_eq-Decides}
use Rattle.clap.specs.Words.{App, IsParsedFrom, IsPlainArg, ReadsOne, Rule, Text, app_of, args_of, found_of, one_text, rows_of, rule_of}
use Rattle.clap.specs.Built.{HasDistinctIds}
use Rattle.clap.specs.Walk.{is_empty, is_free_arg, is_simple_arg}
use Rattle.clap.specs.declared.builder.arg.Arg.{Arg}
use Rattle.clap.specs.declared.builder.command.Command.{Command}
use Rattle.clap.specs.declared.builder.value_parser.ValueParser.TheVariants as vp
use Rattle.clap.specs.declared.parser.matches.ArgMatches.{ArgMatches}
use Rattle.clap.specs.declared.parser.matches.Found.{Found}
use Rattle.clap.proofs.SimpleLemmas.{is_false, is_nil, plain_fields}
use Rattle.clap.proofs.CallerReads.{signed_reads}
use Rattle.clap.proofs.WalkLemmas.{one_text-rows}
use Rattle.command_words.specs.Words.{Between, Fits, HasJoinNumbers, HasMakeNumbers, HasServeNumbers, IsWithin, Writes, join_app, make_app, number, number_of, serve_app}
use Rattle.command_words.proofs.Given.{HasParser, given_reads}

-- the tests of an argument without settings, from the second on, from the third on, and so on
abbrev past_groups : Arg → Bool
past_groups a = not (is_some a.val_delim) && (not (is_some a.terminator) && (not a.allow_hyphen_values
    && (not a.allow_negative_numbers && (not a.require_equals && (not a.last && not a.global)))))

abbrev past_defaults : Arg → Bool
past_defaults a = is_empty a.groups.items && past_groups a

abbrev past_overrides : Arg → Bool
past_overrides a = is_empty a.default_vals_ifs.items && past_defaults a

-- and of one without a rule on another
abbrev past_conflicts : Arg → Bool
past_conflicts a =
    is_empty a.needs.items && (is_empty a.r_ifs.items
    && (is_empty a.r_ifs_all.items && (is_empty a.r_unless.items && is_empty a.r_unless_all.items)))

abbrev past_exclusive : Arg → Bool
past_exclusive a = is_empty a.conflicts.items && past_conflicts a

-- an argument without settings is a plain one
plain_arg : (a : Arg) → is_simple_arg a ≡ true → is_free_arg a ≡ true → IsPlainArg a
plain_arg a simple free =
    let overrides = and_parts (is_empty a.overrides.items) (past_overrides a) simple in
    let defaults = and_parts (is_empty a.default_vals_ifs.items) (past_defaults a) overrides.1 in
    let groups = and_parts (is_empty a.groups.items) (past_groups a) defaults.1 in
    let exclusive = and_parts (not a.exclusive) (past_exclusive a) free in
    let conflicts = and_parts (is_empty a.conflicts.items) (past_conflicts a) exclusive.1 in (
      is_false a.exclusive exclusive.0,
      is_nil a.conflicts.items conflicts.0,
      is_nil a.overrides.items overrides.0,
      is_nil a.groups.items groups.0,
    )

abbrev is_plain_rule : Rule → Bool
is_plain_rule r = r.is_simple && r.is_free

all_plain : (args : List Arg) → list_all is_plain_rule (map rule_of args) ≡ true → All IsPlainArg args
all_plain [] h = All-nil IsPlainArg
all_plain (a ∷ args) h =
    let parts = and_parts (is_plain_rule (rule_of a)) (list_all is_plain_rule (map rule_of args)) h in
    let plain = and_parts (is_simple_arg a) (is_free_arg a) parts.0 in
    All-cons IsPlainArg a args (plain_arg a plain.0 plain.1) (all_plain args parts.1)

-- the rule has another id than this one
abbrev is_other : Text → Rule → Bool
is_other id r = not (bytes_eq r.id id) && not (bytes_eq id r.id)

abbrev are_distinct_ids : List Rule → Bool
are_distinct_ids [] = true
are_distinct_ids (r ∷ rules) = list_all (is_other r.id) rules && are_distinct_ids rules

other : (id : Text) (args : List Arg) → list_all (is_other id) (map rule_of args) ≡ true
    → (k : ℕ) (d : Arg) → k < length args → is_other id (rule_of (slice_index_or args k d)) ≡ true
other id [] h k d low = absurd (omega arith)
other id (a ∷ args) h zero d low =
    (and_parts (is_other id (rule_of a)) (list_all (is_other id) (map rule_of args)) h).0
other id (a ∷ args) h (suc k) d low =
    other id args (and_parts (is_other id (rule_of a)) (list_all (is_other id) (map rule_of args)) h).1 k d
    (omega arith)

distinct_ids : (args : List Arg) → are_distinct_ids (map rule_of args) ≡ true → HasDistinctIds args
distinct_ids [] h j k d e low high same = absurd (omega arith)
distinct_ids (a ∷ args) h zero zero d e low high same = refl
distinct_ids (a ∷ args) h zero (suc k) d e low high same =
    let parts = and_parts (list_all (is_other a.id.now) (map rule_of args)) (are_distinct_ids (map rule_of args)) h in
    let differ = other a.id.now args parts.0 k d (omega arith) in
    let x = slice_index_or args k d in
    let tests = and_parts (not (bytes_eq x.id.now a.id.now)) (not (bytes_eq a.id.now x.id.now)) differ in
    let no : bytes_eq a.id.now x.id.now ≡ false = is_false (bytes_eq a.id.now x.id.now) tests.1 in
    absurd (cc)
distinct_ids (a ∷ args) h (suc j) zero d e low high same =
    let parts = and_parts (list_all (is_other a.id.now) (map rule_of args)) (are_distinct_ids (map rule_of args)) h in
    let differ = other a.id.now args parts.0 j e (omega arith) in
    let x = slice_index_or args j e in
    let tests = and_parts (not (bytes_eq x.id.now a.id.now)) (not (bytes_eq a.id.now x.id.now)) differ in
    let no : bytes_eq x.id.now a.id.now ≡ false = is_false (bytes_eq x.id.now a.id.now) tests.0 in
    absurd (cc)
distinct_ids (a ∷ args) h (suc j) (suc k) d e low high same =
    let parts = and_parts (list_all (is_other a.id.now) (map rule_of args)) (are_distinct_ids (map rule_of args)) h in
    ap suc (distinct_ids args parts.1 j k d e (omega arith) (omega arith) same)

-- a command without settings whose arguments have ids of their own
abbrev is_plain_app : App → Bool
is_plain_app app = app.top.is_plain && (list_all is_plain_rule app.top.rules && are_distinct_ids app.top.rules)

-- the argument of a rule at a place
record IsAt (args : List Arg) (k : ℕ) (r : Rule) : Type 0 where
  arg : Arg
  within : k < length args
  at : slice_index_or args k arg ≡ arg
  is : rule_of arg ≡ r

arg_at : (args : List Arg) (k : ℕ) (r : Rule) → slice_get (map rule_of args) k ≡ Some r → IsAt args k r
arg_at [] k r e = absurd (cc)
arg_at (a ∷ args) zero r e = record {
  arg = a;
  within = omega arith;
  at = refl;
  is = ap (λ (o : Option Rule). unwrap_or o r) e;
}
arg_at (a ∷ args) (suc k) r e =
    let below = arg_at args k r e in
    let low = below.within in
    record {
      arg = below.arg;
      within = omega arith;
      at = below.at;
      is = below.is;
    }

-- an id that is neither empty nor one of clap's own
abbrev is_own : Text → Bool
is_own id = not (bytes_eq id []) && (not (bytes_eq id (codes "help")) && not (bytes_eq id (codes "version")))

differs : (id other : Text) → not (bytes_eq id other) ≡ true → id ≡ other → ⊥
differs id other h e =
    let no : bytes_eq id other ≡ false = is_false (bytes_eq id other) h in
    let yes : bytes_eq id other ≡ true = (bytes_eq-Decides id other).1 e in
    cc

-- what a command's argument gives, where it takes a number of a range
number_within : (c : Command) (m : ArgMatches) → IsParsedFrom c m → (app : App) → app_of c ≡ app
    → is_plain_app app ≡ true → (k least most : ℕ) (r : Rule) → slice_get app.top.rules k ≡ Some r
    → r.parser ≡ Some (vp.Signed (pos least) (pos most)) → is_own r.id ≡ true
    → IsWithin least most (found_of m) r.id
number_within c m parsed app e plain k least most r at parser own t text =
    let rules : map rule_of (args_of c) ≡ app.top.rules = ap (λ (a : App). a.top.rules) e in
    let settings = and_parts app.top.is_plain
    (list_all is_plain_rule app.top.rules && are_distinct_ids app.top.rules) plain in
    let tests = and_parts (list_all is_plain_rule app.top.rules) (are_distinct_ids app.top.rules) settings.1 in
    let fields = plain_fields c (ap (λ (a : App). a.top.is_plain) e ∙ settings.0) in
    let args = all_plain (args_of c) (subst (λ (rs : List Rule). list_all is_plain_rule rs ≡ true) (sym rules) tests.0) in
    let ids = distinct_ids (args_of c) (subst (λ (rs : List Rule). are_distinct_ids rs ≡ true) (sym rules) tests.1) in
    let arg = arg_at (args_of c) k r (subst (λ (rs : List Rule). slice_get rs k ≡ Some r) (sym rules) at) in
    let id : arg.arg.id.now ≡ r.id = ap (λ (x : Rule). x.id) arg.is in
    let named = and_parts (not (bytes_eq r.id []))
    (not (bytes_eq r.id (codes "help")) && not (bytes_eq r.id (codes "version"))) own in
    let auto = and_parts (not (bytes_eq r.id (codes "help"))) (not (bytes_eq r.id (codes "version"))) named.1 in
    let has : HasParser c k arg.arg (vp.Signed (pos least) (pos most)) = record {
      within = arg.within;
      at = arg.at;
      only = λ j d low same. ids j k arg.arg d low arg.within
          (subst (λ (y : Arg). bytes_eq (slice_index_or (args_of c) j d).id.now y.id.now ≡ true) (sym arg.at) same);
      named = λ empty. differs r.id [] named.0 (sym id ∙ empty);
      own = λ a. elim a [
        | inl h ↦ differs r.id (codes "help") auto.0 (sym id ∙ h)
        | inr h ↦ differs r.id (codes "version") auto.1 (sym id ∙ h)
      ];
      parser = ap (λ (x : Rule). x.parser) arg.is ∙ parser;
    } in
    let read = given_reads c m parsed (args, fields.groups) fields.globals k arg.arg
    (vp.Signed (pos least) (pos most)) has t
    (subst (λ (i : Text). one_text (found_of m) i ≡ Some t) (sym id) text) in
    record { word = read.0; is = read.1; within = read.2 }

-- the numbers of each command
pub make_numbers : (c : Command) (m : ArgMatches) → IsParsedFrom c m → app_of c ≡ make_app
    → HasMakeNumbers (found_of m)
make_numbers c m parsed e = record {
  count = number_within c m parsed make_app e refl 0 1 4096 _ refl refl refl;
  seed = number_within c m parsed make_app e refl 1 0 2147483647 _ refl refl refl;
}

pub serve_numbers : (c : Command) (m : ArgMatches) → IsParsedFrom c m → app_of c ≡ serve_app
    → HasServeNumbers (found_of m)
serve_numbers c m parsed e = record {
  port = number_within c m parsed serve_app e refl 2 0 65535 _ refl refl refl;
  clients = number_within c m parsed serve_app e refl 3 0 32 _ refl refl refl;
  outside = number_within c m parsed serve_app e refl 4 0 32 _ refl refl refl;
  turns = number_within c m parsed serve_app e refl 5 0 400000 _ refl refl refl;
  workers = number_within c m parsed serve_app e refl 6 1 16 _ refl refl refl;
  rounds = number_within c m parsed serve_app e refl 7 0 1000 _ refl refl refl;
}

pub join_numbers : (c : Command) (m : ArgMatches) → IsParsedFrom c m → app_of c ≡ join_app
    → HasJoinNumbers (found_of m)
join_numbers c m parsed e = record {
  port = number_within c m parsed join_app e refl 0 1 65535 _ refl refl refl;
  turns = number_within c m parsed join_app e refl 2 0 400000 _ refl refl refl;
}

-- what is read of a text that a word in a range gives
record IsRead (least most : ℕ) (text : Text) (read : Option ℕ) : Type 0 where
  value : ℕ
  some : read ≡ Some value
  is : value ≡ number text
  between : Between least most value

text_read : (E : Type 0) (G : Text → Result ℕ E → Type 0) (bits least most : ℕ) (text : Text) (read : Option ℕ)
    → most < 2 ^ bits → ((u : Text) (x : Result ℕ E) → G u x → ParsesUnsigned bits 10 u x)
    → Writes least most text → ReadsOne G text read → IsRead least most text read
text_read E G bits least most text read fits only writes one =
    let at = subst (λ (u : Text). ReadsOne G u read) writes.is one in
    let got = signed_reads E G bits least most writes.word read at only fits writes.within in
    let value : ReadsOne G text (Some got.0) = subst (λ (o : Option ℕ). ReadsOne G text o) got.1 one in
    let parsed = only text (Ok got.0) value in
    record { value = got.0; some = got.1; is = parsed.1; between = (got.2, got.3) }

-- what `get_one` gives of an argument
pub record Reads (E : Type 0) (G : Text → Result ℕ E → Type 0) (bits : ℕ) (found : Found) (id : Text)
    (read : Option ℕ) : Type 0 where
  pub only : (u : Text) (x : Result ℕ E) → G u x → ParsesUnsigned bits 10 u x
  pub none : one_text found id ≡ None → read ≡ None
  pub some : (text : Text) → one_text found id ≡ Some text → ReadsOne G text read

-- is the number that was found
number_is : (E : Type 0) (G : Text → Result ℕ E → Type 0) (bits : ℕ) (found : Found) (id : Text)
    (read : Option ℕ) → Reads E G bits found id read → Fits bits found id → read ≡ number_of id (rows_of found)
unfolding number_of
number_is E G bits found id read reads fits =
    go (one_text found id) refl
  where
    go : (o : Option Text) → one_text found id ≡ o → read ≡ number_of id (rows_of found)
    go None e =
        reads.none e ∙ sym (ap (option_map number) (sym (one_text-rows found id) ∙ e))
    go (Some text) e =
        let is = text_read E G bits fits.least fits.most text read fits.small reads.only (fits.within text e)
        (reads.some text e) in
        is.some ∙ (ap (λ (n : ℕ). Some n) is.is ∙ sym (ap (option_map number) (sym (one_text-rows found id) ∙ e)))

-- and lies in the range
number_between : (E : Type 0) (G : Text → Result ℕ E → Type 0) (bits : ℕ) (found : Found) (id : Text)
    (read : Option ℕ) → Reads E G bits found id read → (least most : ℕ) → most < 2 ^ bits
    → IsWithin least most found id → IfSome read (Between least most)
number_between E G bits found id read reads least most small within =
    go (one_text found id) refl
  where
    go : (o : Option Text) → one_text found id ≡ o → IfSome read (Between least most)
    go None e = subst (λ (r : Option ℕ). IfSome r (Between least most)) (sym (reads.none e)) tt
    go (Some text) e =
        let is = text_read E G bits least most text read small reads.only (within text e) (reads.some text e) in
        subst (λ (r : Option ℕ). IfSome r (Between least most)) (sym is.some) is.between

-- both of what `get_one` gives
pub number_read : (E : Type 0) (G : Text → Result ℕ E → Type 0) (bits : ℕ) (found : Found) (id : Text)
    (read : Option ℕ) → Reads E G bits found id read → Fits bits found id
    → (read ≡ number_of id (rows_of found)) × ((least most : ℕ) → most < 2 ^ bits
    → IsWithin least most found id → IfSome read (Between least most))
number_read E G bits found id read reads fits = (
  number_is E G bits found id read reads fits,
  λ least most small within. number_between E G bits found id read reads least most small within,
)
