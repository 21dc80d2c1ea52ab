-- The text of a table, row by row, and what it reads as.
use Rattle.std.proofs.Common.{◌≡◌, ◌≤◌, ◌<◌, ◌+◌, ◌*◌, ◌%◌, ◌^◌, ℕ, List, [], ◌∷◌, ◌++◌, length, map, take, drop, get_or, Bool, true, false, cond, ◌==◌, nat_le, Option, Some, None, Result, Ok, Err, IsErrOf, ◌↔◌, decimal, refl, sym, ap, ap₂, ◌∙◌, arith, subst, append_assoc, length-append, take-append-drop}
use Rattle.std.specs.Prelude.{codes, if◌then◌else◌, IfSome, IsUtf8, is_some, nat_eq}
use Prim.{⊥}
use Rattle.std.specs.Cmp.Lexicographic.{pointwise}
use Rattle.std.specs.List.{list_all, onto_first}
use Rattle.std.proofs.lemmas.Bool.{and_parts, eqb-true, false≢true, leb-true}
use Rattle.std.proofs.lemmas.Bool.Decides.{nat_tests}
use Rattle.std.proofs.lemmas.Fmt.{IsAscii-decimal, decimal_step}
use Rattle.std.proofs.lemmas.List.{drop_more}
use Rattle.std.proofs.lemmas.Nat.{div-mul-add, mod-mul-add}
use Rattle.std.proofs.lemmas.Str.{IsUtf8-append, IsUtf8-from_ascii}
use Rattle.json.specs.Lex.{tokens}
use Rattle.json.specs.Print.{escape, escape_byte, print}
use Rattle.json.specs.Tree.{HasNumbers, ItemsHaveNumbers}
use Rattle.json.proofs.Printed.Decimals.{IsNumber-decimal}
use Rattle.json.proofs.Printed.Strings.{escape_byte_plain}
use Rattle.json.proofs.Printed.Tokens.{tokens-print}
use Rattle.json.proofs.Printed.Trees.{ArePrintable-json_tokens}
use Rattle.json.proofs.Printed.Utf8.{IsUtf8-are_ascii}
use Rattle.serde_json.specs.View.{items_of}
use Rattle.serde_json.specs.Written.{comma_if, compact_text, items_outline, items_text, outline}
use Rattle.serde_json.proofs.Texts.{print-outline}
use Rattle.hmr_types.specs.declared.limits.TheConstants.{LARGEST_NUMBER}
use Rattle.hmr_types.specs.ModName.{is_name, is_segment, is_segment_byte, parts, slash}
use Rattle.hmr_types.specs.declared.mod_name.NameFault.{NameFault}
use Rattle.hmr_types.specs.declared.mod_name.NameFault.TheVariants.{NotAName}
use Rattle.hmr_types.specs.Table.{is_table, is_version, rises}
use Rattle.hmr_types.proofs.Names.{first_byte, has_segment_bytes, is_name-IsUtf8, weaker}
use Rattle.update_msgs.specs.Desk.{bytes_of}
use Rattle.update_msgs.specs.Writable.{IsSayable}
use Rattle.update_msgs.specs.declared.message.ClientMsg.{ClientMsg}
use Rattle.update_msgs.specs.declared.message.ClientMsg.TheVariants as client
use Rattle.message_text.specs.Values.{HasReading, row, tokens_of}
use Rattle.message_text.specs.ClientText.{client_text, say}
use Rattle.message_text.proofs.Written.{read_back, say_back, say_nests}
use Rattle.serde_json.specs.Data.{Data}
use Rattle.message_json.specs.ClientReading.{IsTyped, client_of}
use Rattle.message_json.specs.Reading.{Fault}
use Rattle.message_json.proofs.Back.{client_back}
use Rattle.message_json.proofs.Said.{said_bound}
use Rattle.message_json.specs.TableText.{AreRows, IsTableText, are_named, front, row_bytes, tail}

-- ---- names have no byte that is escaped

segment_byte_plain : (b : ℕ) → is_segment_byte b ≡ true → escape_byte b ≡ b ∷ []
unfolding is_segment_byte
segment_byte_plain b h = escape_byte_plain b (λ e. grind (arith, nat_tests)) (λ e. grind (arith, nat_tests)) (grind (arith, nat_tests))

at_byte : (b : ℕ) (bs : List ℕ) (t : Bool) → (b == slash) ≡ t
    → list_all has_segment_bytes (cond t ([] ∷ parts bs) (onto_first b (parts bs))) ≡ true
    → (escape_byte b ≡ b ∷ []) × (list_all has_segment_bytes (parts bs) ≡ true)
at_byte b bs true e h = (escape_byte_plain b (λ q. grind (arith, nat_tests)) (λ q. grind (arith, nat_tests)) (grind (arith, nat_tests)), h)
at_byte b bs false e h =
    let first = first_byte b (parts bs) h in
    (segment_byte_plain b first.0, first.1)

plain_parts : (bs : List ℕ) → list_all has_segment_bytes (parts bs) ≡ true → escape bs ≡ bs
plain_parts [] h = refl
plain_parts (b ∷ bs) h =
    let here = at_byte b bs (b == slash) refl h in
    ap (λ e. e ++ escape bs) here.0 ∙ ap (λ e. b ∷ e) (plain_parts bs here.1)

plain_name : (n : List ℕ) → is_name n ≡ true → escape n ≡ n
plain_name [] h = refl
plain_name (b ∷ bs) h =
    let tests = and_parts _ (list_all is_segment (parts bs)) h in
    let begins = and_parts (b == slash) _ tests.0 in
    let first : escape_byte b ≡ b ∷ [] = escape_byte_plain b (λ q. grind (arith, nat_tests)) (λ q. grind (arith, nat_tests)) (grind (arith, nat_tests)) in
    ap (λ e. e ++ escape bs) first ∙ ap (λ e. b ∷ e) (plain_parts bs (weaker (parts bs) tests.1))

-- ---- rows

row_is : (r : List ℕ × ℕ) → is_name r.0 ≡ true → compact_text (row r) ≡ row_bytes r
row_is r h =
    let rest : List ℕ = 44 ∷ (decimal r.1 ++ 93 ∷ []) in
    ap (λ s. 91 ∷ 34 ∷ s) (append_assoc (escape r.0) (34 ∷ []) rest ∙ ap (λ e. e ++ 34 ∷ rest) (plain_name r.0 h))

front_more : (rs : List (List ℕ × ℕ)) (r : List ℕ × ℕ) → front (rs ++ r ∷ []) ≡ front rs ++ (row_bytes r ++ 44 ∷ [])
front_more [] r = refl
front_more (s ∷ rs) r = ap (λ t. row_bytes s ++ 44 ∷ t) (front_more rs r) ∙ sym (append_assoc (row_bytes s) (44 ∷ front rs) (row_bytes r ++ 44 ∷ []))

front_ended : (later : Bool) (rs : List (List ℕ × ℕ)) (r : List ℕ × ℕ) → are_named rs ≡ true → is_name r.0 ≡ true
    → comma_if later ++ (front rs ++ (row_bytes r ++ 93 ∷ [])) ≡ items_text later (items_of (map row (rs ++ r ∷ [])))
front_ended later [] r all h = ap (λ c. comma_if later ++ (c ++ 93 ∷ [])) (sym (row_is r h))
front_ended later (s ∷ rs) r all h =
    let named = and_parts (is_name s.0) (are_named rs) all in
    let next = front_ended true rs r named.1 h in
    ap (λ t. comma_if later ++ t) (append_assoc (row_bytes s) (44 ∷ front rs) (row_bytes r ++ 93 ∷ []) ∙ ap (λ t. row_bytes s ++ t) next ∙ ap (λ c. c ++ items_text true (items_of (map row (rs ++ r ∷ [])))) (sym (row_is s named.0)))

named_more : (rs : List (List ℕ × ℕ)) (r : List ℕ × ℕ) → are_named rs ≡ true → is_name r.0 ≡ true → are_named (rs ++ r ∷ []) ≡ true
named_more [] r all h = rw h refl
named_more (s ∷ rs) r all h =
    let named = and_parts (is_name s.0) (are_named rs) all in
    rw (named.0, named_more rs r named.1 h) refl

-- one more row was read, with a comma behind it
pub row_more : (text left rest more : List ℕ) (rs : List (List ℕ × ℕ)) (n : List ℕ) (v : ℕ) → text ≡ front rs ++ left → left ≡ row_bytes (n, v) ++ rest → rest ≡ 44 ∷ more
    → text ≡ front (rs ++ (n, v) ∷ []) ++ more
row_more text left rest more rs n v whole at comma =
    whole ∙ ap (λ t. front rs ++ t) (at ∙ ap (λ t. row_bytes (n, v) ++ t) comma ∙ sym (append_assoc (row_bytes (n, v)) (44 ∷ []) more))
    ∙ sym (append_assoc (front rs) (row_bytes (n, v) ++ 44 ∷ []) more) ∙ ap (λ t. t ++ more) (sym (front_more rs (n, v)))

-- and less is left
pub row_shorter : (left rest more n : List ℕ) (v : ℕ) → left ≡ row_bytes (n, v) ++ rest → rest ≡ 44 ∷ more → length more < length left
row_shorter left rest more n v at comma = omega (arith, ap length at, ap length comma, length-append (row_bytes (n, v)) rest)

-- the last row was read
pub rows_end : (text left rest : List ℕ) (rs : List (List ℕ × ℕ)) (n : List ℕ) (v : ℕ) → are_named rs ≡ true → is_name n ≡ true → text ≡ front rs ++ left → left ≡ row_bytes (n, v) ++ rest → rest ≡ tail
    → AreRows text (rs ++ (n, v) ∷ [])
rows_end text left rest rs n v all h whole at last =
    let after : List ℕ = codes ",\"type\":\"applied\"}" in
    record {
      named = named_more rs (n, v) all h;
      text = whole ∙ ap (λ t. front rs ++ t) (at ∙ ap (λ t. row_bytes (n, v) ++ t) last ∙ sym (append_assoc (row_bytes (n, v)) (93 ∷ []) after))
          ∙ sym (append_assoc (front rs) (row_bytes (n, v) ++ 93 ∷ []) after) ∙ ap (λ t. t ++ after) (front_ended false rs (n, v) all h);
    }

pub rows_named : (rs : List (List ℕ × ℕ)) (n : List ℕ) (v : ℕ) → are_named rs ≡ true → is_name n ≡ true → are_named (rs ++ (n, v) ∷ []) ≡ true
rows_named rs n v all h = named_more rs (n, v) all h

-- ---- a name and a number

pub around_quote : (text : List ℕ) (i b : ℕ) → i < length text → b ≡ get_or text i b → b ≡ 34 → text ≡ take i text ++ 34 ∷ drop (i + 1) text
around_quote text i b lt at is = sym (take-append-drop i text) ∙ ap (λ t. take i text ++ t) (drop_more text i b lt ∙ ap (λ c. c ∷ drop (i + 1) text) (sym at ∙ is))

pub one_digit : (n d : ℕ) (text left more : List ℕ) → 0 < n → n < 1000000000000000 → d < 10 → text ≡ decimal n ++ left → left ≡ (48 + d) ∷ more → text ≡ decimal (n * 10 + d) ++ more
one_digit n d text left more some few low whole at =
    let big : 10 ≤ n * 10 + d = omega arith in
    let fits : n * 10 + d < 2 ^ 64 = omega arith in
    let split : decimal (n * 10 + d) ≡ decimal n ++ ((48 + d) ∷ []) =
    decimal_step (n * 10 + d) big fits ∙ ap (λ k. decimal k ++ ((48 + (n * 10 + d) % 10) ∷ [])) (div-mul-add n 10 d low) ∙ ap (λ k. decimal n ++ ((48 + k) ∷ [])) (mod-mul-add n 10 d low) in
    whole ∙ ap (λ t. decimal n ++ t) at ∙ sym (append_assoc (decimal n) ((48 + d) ∷ []) more) ∙ ap (λ t. t ++ more) (sym split)

some_if : (b : Bool) (t : List ℕ) → b ≡ true → Some t ≡ (if b then Some t else None)
some_if true t h = refl
some_if false t h = absurd (false≢true h)

pub read_is_name : (t n : List ℕ) → n ≡ t → is_name t ≡ true → Some n ≡ (if is_name t then Some t else None)
read_is_name t n is h = ap Some is ∙ some_if (is_name t) t h

not_refused : (n : List ℕ) (fault : NameFault) → (let r : Result (List ℕ) NameFault = Ok n in r ≡ Err fault) → ⊥
not_refused n fault h = cc

-- what was read is a name
pub is_read : (n : List ℕ) (b : Bool) → (let r : Result (List ℕ) NameFault = Ok n in IsErrOf r NotAName ↔ (b ≡ false)) → b ≡ true
is_read n true h = refl
is_read n false h = absurd (not_refused n NotAName (h.1 refl))

-- ---- what the text reads as

version_small : (v : ℕ) → is_version v ≡ true → v < 2 ^ 64
version_small v h =
    let most : v ≤ LARGEST_NUMBER = leb-true v LARGEST_NUMBER (and_parts (nat_le 1 v) _ h).1 in
    omega (arith, most)

rows_numbers : (rs : List (List ℕ × ℕ)) → list_all (λ r. is_version r.1) rs ≡ true → ItemsHaveNumbers (items_outline (items_of (map row rs)))
rows_numbers [] h = tt
rows_numbers (r ∷ rs) h =
    let both = and_parts (is_version r.1) _ h in
    ((tt, (IsNumber-decimal r.1 (version_small r.1 both.0), tt)), rows_numbers rs both.1)

row_utf8 : (r : List ℕ × ℕ) → is_name r.0 ≡ true → is_version r.1 ≡ true → IsUtf8 (compact_text (row r))
row_utf8 r h v =
    let number = IsUtf8-append (decimal r.1) (93 ∷ []) (IsUtf8-from_ascii _ (IsAscii-decimal r.1 (version_small r.1 v))) (IsUtf8-are_ascii (93 ∷ []) refl) in
    let rest = IsUtf8-append (34 ∷ 44 ∷ []) (decimal r.1 ++ 93 ∷ []) (IsUtf8-are_ascii (34 ∷ 44 ∷ []) refl) number in
    let named = IsUtf8-append r.0 (34 ∷ 44 ∷ (decimal r.1 ++ 93 ∷ [])) (is_name-IsUtf8 r.0 h) rest in
    subst IsUtf8 (sym (row_is r h)) (IsUtf8-append (91 ∷ 34 ∷ []) (r.0 ++ 34 ∷ 44 ∷ (decimal r.1 ++ 93 ∷ [])) (IsUtf8-are_ascii (91 ∷ 34 ∷ []) refl) named)

comma_utf8 : (later : Bool) → IsUtf8 (comma_if later)
comma_utf8 true = IsUtf8-are_ascii (44 ∷ []) refl
comma_utf8 false = IsUtf8-are_ascii [] refl

rows_utf8 : (later : Bool) (rs : List (List ℕ × ℕ)) → are_named rs ≡ true → list_all (λ r. is_version r.1) rs ≡ true → IsUtf8 (items_text later (items_of (map row rs)))
rows_utf8 later [] h v = IsUtf8-are_ascii (93 ∷ []) refl
rows_utf8 later (r ∷ rs) h v =
    let named = and_parts (is_name r.0) (are_named rs) h in
    let counted = and_parts (is_version r.1) _ v in
    IsUtf8-append (comma_if later) _ (comma_utf8 later) (IsUtf8-append (compact_text (row r)) _ (row_utf8 r named.0 counted.0) (rows_utf8 true rs named.1 counted.1))

text_split : (rs : List (List ℕ × ℕ)) → client_text (client.Applied rs) ≡ codes "{\"table\":[" ++ (items_text false (items_of (map row rs)) ++ codes ",\"type\":\"applied\"}")
unfolding escape_byte
text_split rs = refl

table_utf8 : (rs : List (List ℕ × ℕ)) → are_named rs ≡ true → list_all (λ r. is_version r.1) rs ≡ true → IsUtf8 (client_text (client.Applied rs))
table_utf8 rs h v =
    subst IsUtf8 (sym (text_split rs))
    (IsUtf8-append (codes "{\"table\":[") _ (IsUtf8-are_ascii (codes "{\"table\":[") refl)
    (IsUtf8-append (items_text false (items_of (map row rs))) _ (rows_utf8 false rs h v) (IsUtf8-are_ascii (codes ",\"type\":\"applied\"}") refl)))

pub rows_are_text : (text : List ℕ) (rs table : List (List ℕ × ℕ)) → AreRows text rs → table ≡ rs → is_table table ≡ true → IsTableText (codes "{\"table\":[" ++ text) table
rows_are_text text rs table r same test = record {
  named = subst (λ t. are_named t ≡ true) (sym same) r.named;
  fits = test;
  text = ap (λ t. codes "{\"table\":[" ++ t) r.text ∙ sym (text_split rs) ∙ ap (λ t. client_text (client.Applied t)) (sym same);
}

pub table_reads : (bytes : List ℕ) (table : List (List ℕ × ℕ)) → IsTableText bytes table → HasReading bytes (say (client.Applied table))
table_reads bytes table t =
    let counted = (and_parts (rises table) _ t.fits).1 in
    let printed : print (tokens_of (say (client.Applied table))) ≡ client_text (client.Applied table) = print-outline (say (client.Applied table)) in
    let numbers : HasNumbers (outline (say (client.Applied table))) = (rows_numbers table counted, (tt, tt)) in
    let same : tokens bytes ≡ tokens_of (say (client.Applied table)) = ap tokens (t.text ∙ sym printed) ∙ tokens-print _ (ArePrintable-json_tokens (outline (say (client.Applied table))) numbers) in
    record {
      utf8 = subst IsUtf8 (sym t.text) (table_utf8 table t.named counted);
      value = read_back (say (client.Applied table)) bytes same (say_nests (client.Applied table)) (say_back (client.Applied table) tt t.fits);
    }

abbrev pick : Data → Option Data → Data
pick d None = d
pick d (Some e) = e

one_reading : (bytes : List ℕ) (d e : Data) → HasReading bytes d → HasReading bytes e → d ≡ e
one_reading bytes d e h k = ap (pick d) (sym h.value ∙ k.value)

pub table_size : (bytes : List ℕ) (table : List (List ℕ × ℕ)) → IsTableText bytes table → bytes_of (client.Applied table) ≤ length bytes
table_size bytes table t = said_bound bytes (client.Applied table) (table_reads bytes table t)

-- each value that the bytes read as is the table's
pub table_read : (bytes : List ℕ) (table : List (List ℕ × ℕ)) (d : Data) → IsTableText bytes table → HasReading bytes d → client_of d ≡ Ok (client.Applied table)
table_read bytes table d t h =
    ap client_of (one_reading bytes d (say (client.Applied table)) h (table_reads bytes table t)) ∙ client_back (client.Applied table) (t.named, t.fits) tt

pub table_written : (bytes : List ℕ) (table : List (List ℕ × ℕ)) (m : ClientMsg) → IsTableText bytes table → IsTyped m → IsSayable m → HasReading bytes (say m)
    → (let r : Result ClientMsg Fault = Ok m in r ≡ Ok (client.Applied table))
table_written bytes table m t typed fits h = sym (client_back m typed fits) ∙ table_read bytes table (say m) t h

-- ---- of a result

pub table_result : (o : Option (List (List ℕ × ℕ))) (rows : List (List ℕ × ℕ)) (text : List ℕ) → AreRows text rows → IfSome o (λ table. table ≡ rows) → is_some o ≡ is_table rows
    → IfSome o (IsTableText (codes "{\"table\":[" ++ text))
table_result None rows text r same test = tt
table_result (Some table) rows text r same test = rows_are_text text rows table r same (ap is_table same ∙ sym test)

pub same_bytes : (xs ys : List ℕ) → pointwise nat_eq xs ys ≡ true → xs ≡ ys
same_bytes [] [] h = refl
same_bytes [] (y ∷ ys) h = absurd cc
same_bytes (x ∷ xs) [] h = absurd cc
same_bytes (x ∷ xs) (y ∷ ys) h =
    let both = and_parts (nat_eq x y) (pointwise nat_eq xs ys) h in
    ap₂ (λ a b. a ∷ b) (eqb-true x y both.0) (same_bytes xs ys both.1)
