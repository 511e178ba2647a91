-- A document has no more elements than its text has bytes.
use Rattle.std.proofs.Common.{◌≡◌, refl, arith, ℕ, zero, suc, ◌+◌, ◌≤◌, ◌==◌, Bool, true, false, ◌&&◌, ◌||◌, List, [], ◌∷◌, ◌++◌, length, take, drop, Option, Some, None, option_map, option_and_then, is_some, unwrap_or, length-drop, eqb-true, inl, inr}
use Rattle.std.specs.Prelude.{if◌then◌else◌, nat_lt, slice_index, encode_utf8}
use Rattle.std.proofs.lemmas.Bool.{cases_Bool, false≢true, true≢false}
use Rattle.toml_parser.specs.Lexical.{Read, first, skip_ws, skip_from, skip_blank, skip_lines, skip_turn, split_while, is_bare, starts_newline, backslash, comma, equals, right_bracket, dot}
use Rattle.toml_parser.specs.Strings.{Key, hex_len, hex_escape, escape_char, simple_escape, escape, is_plain, at_delims, special, prepend, after_piece, body, trim_newline, one_line, quoted, starts_string, simple_key, key_after, key, recursion_limit}
use Rattle.toml_parser.specs.Numbers.{unquoted, word_len, word_value}
use Rattle.toml_parser.specs.declared.scalar.Scalar.{Scalar}
use Rattle.toml.specs.Data.{Data, Items, no_items, item, push_item}
use Rattle.toml.specs.Parse.{read_map, after_byte, after_element, key_equals, keyval, items}
use Rattle.pm_scenario.proofs.Sizes.{size, items_size}

-- what was read costs no more than n, together with the text that is left
unfoldable pub Costs : {A : Type 0} → (A → ℕ) → ℕ → Read A → Type 0
Costs w n None = Unit {0}
Costs w n (Some p) = w p.0 + length p.1 ≤ n

abbrev pub free : {A : Type 0} → A → ℕ
free x = 0

abbrev pub one : {A : Type 0} → A → ℕ
one x = 1

pub costs_none : {A : Type 0} (w : A → ℕ) (n : ℕ) → Costs w n None
unfolding Costs
costs_none w n = tt

pub costs_some : {A : Type 0} (w : A → ℕ) (n : ℕ) (x : A) (rest : List ℕ) → w x + length rest ≤ n → Costs w n (Some (x, rest))
unfolding Costs
costs_some w n x rest h = h

costs_free : {A : Type 0} (n : ℕ) (x : A) (rest : List ℕ) → length rest ≤ n → Costs free n (Some (x, rest))
unfolding Costs
costs_free n x rest h = omega (arith, h)

pub costs_more : {A : Type 0} (w : A → ℕ) (n m : ℕ) (r : Read A) → n ≤ m → Costs w n r → Costs w m r
unfolding Costs
costs_more w n m None h c = tt
costs_more w n m (Some p) h c = omega (arith, h, c)

pub costs_map : {A B : Type 0} (f : A → B) (v : B → ℕ) (w : A → ℕ) (n m : ℕ) (r : Read A) → ((x : A) → v (f x) + n ≤ w x + m) → Costs w n r → Costs v m (read_map f r)
unfolding Costs
costs_map f v w n m None h c = tt
costs_map f v w n m (Some p) h c = let k = h p.0 in omega (arith, k, c)

pub costs_then : {A B : Type 0} (w : A → ℕ) (v : B → ℕ) (n m : ℕ) (r : Read A) (k : A × List ℕ → Read B) → Costs w n r →
    ((p : A × List ℕ) → w p.0 + length p.1 ≤ n → Costs v m (k p)) → Costs v m (option_and_then k r)
unfolding Costs
costs_then w v n m None k c h = tt
costs_then w v n m (Some p) k c h = h p c

pub costs_if : {A : Type 0} (w : A → ℕ) (n : ℕ) (b : Bool) (r s : Read A) → (b ≡ true → Costs w n r) → (b ≡ false → Costs w n s) → Costs w n (if b then r else s)
costs_if w n true r s there other = there refl
costs_if w n false r s there other = other refl

costs_raise : {A : Type 0} (n m : ℕ) (r : Read A) → 1 + n ≤ m → Costs free n r → Costs one m r
unfolding Costs
costs_raise n m None h c = tt
costs_raise n m (Some p) h c = omega (arith, h, c)

-- text that is left

pub shorter_if : (n : ℕ) (b : Bool) (r s : List ℕ) → length r ≤ n → length s ≤ n → length (if b then r else s) ≤ n
shorter_if n true r s h k = h
shorter_if n false r s h k = k

pub dropped : (n : ℕ) (text : List ℕ) → length (drop n text) ≤ length text
dropped n text = omega (arith, length-drop n text)

thrice : (text : List ℕ) → length (drop 3 text) ≤ length (drop 1 text)
thrice text = let a = length-drop 3 text in let b = length-drop 1 text in omega (arith, a, b)

pub twice : (text : List ℕ) → length (drop 2 text) ≤ length (drop 1 text)
twice text = let a = length-drop 2 text in let b = length-drop 1 text in omega (arith, a, b)

-- the first byte is there
pub first_there : (c : ℕ) (text : List ℕ) → 1 ≤ c → (first text == c) ≡ true → 1 + length (drop 1 text) ≤ length text
first_there c [] some h = absurd (let e = eqb-true 0 c h in omega (arith, e, some))
first_there c (b ∷ bs) some h = omega arith

pub ws : (text : List ℕ) → length (skip_ws text) ≤ length text
unfolding skip_ws
ws text = dropped _ text

from_skipped : (comments inside : Bool) (text : List ℕ) → length (skip_from comments inside text) ≤ length text
unfolding skip_from
from_skipped comments inside [] = omega arith
from_skipped comments inside (c ∷ cs) =
    elim (cases_Bool (is_some (skip_turn comments inside c (first cs)))) [
      | inl more ↦ rw more (let next = from_skipped comments (unwrap_or (skip_turn comments inside c (first cs)) false) cs in omega (arith, next))
      | inr stop ↦ rw stop (omega arith)
    ]

pub blank : (text : List ℕ) → length (skip_blank text) ≤ length text
blank text = from_skipped true false text

-- strings

trimmed : (text : List ℕ) → length (trim_newline text) ≤ length text
trimmed text =
    shorter_if (length text) (first text == 10) (drop 1 text) (if starts_newline text then drop 2 text else text) (dropped 1 text)
    (shorter_if (length text) (starts_newline text) (drop 2 text) text (dropped 2 text) (omega arith))

hex_costs : (n : ℕ) (text : List ℕ) → Costs free (length text) (hex_escape n text)
unfolding hex_escape
hex_costs n text = search (costs_if, costs_free, costs_none, dropped)

simple_costs : (o : Option ℕ) (text : List ℕ) → Costs free (length text) (option_map (λ c. (c, drop 1 text)) o)
simple_costs None text = costs_none _ _
simple_costs (Some c) text = costs_free _ _ _ (dropped 1 text)

escape_char_costs : (text : List ℕ) → Costs free (length text) (escape_char text)
unfolding escape_char
escape_char_costs text =
    costs_if free (length text) (nat_lt 0 (hex_len (first text))) (hex_escape (hex_len (first text)) (drop 1 text)) (option_map (λ c. (c, drop 1 text)) (simple_escape (first text)))
    (λ _. costs_more free (length (drop 1 text)) _ _ (dropped 1 text) (hex_costs (hex_len (first text)) (drop 1 text))) (λ _. simple_costs (simple_escape (first text)) text)

escape_costs : (multi : Bool) (text : List ℕ) → Costs free (length text) (escape multi text)
unfolding escape
escape_costs multi text =
    costs_if free (length text) (multi && starts_newline (skip_ws text)) (Some ([], skip_lines text)) (option_map (λ p. (encode_utf8 p.0, p.1)) (escape_char text))
    (λ _. costs_free _ _ _ (from_skipped false false text))
    (λ _. costs_map encode_utf8 free free (length text) (length text) (escape_char text) (λ _. omega arith) (escape_char_costs text))

delims_costs : (delim : ℕ) (text : List ℕ) → Costs free (length text) (at_delims delim text)
delims_costs delim text = search (costs_if, costs_free, costs_none, dropped)

abbrev newline_special : Bool → List ℕ → Read (Option (List ℕ))
newline_special multi text = if multi && starts_newline text then Some (Some (first text ∷ []), drop 1 text) else None

abbrev other_special : Bool → List ℕ → Read (Option (List ℕ))
other_special multi text =
    if first text == backslash then option_map (λ p. (Some p.0, p.1)) (escape multi (drop 1 text)) else newline_special multi text

special_costs : (delim : ℕ) (multi : Bool) (text : List ℕ) → Costs free (length text) (special delim multi text)
unfolding special
special_costs delim multi text =
    costs_if free (length text) (first text == delim) (if multi then at_delims delim text else Some (None, drop 1 text)) (other_special multi text)
    (λ _. costs_if free (length text) multi (at_delims delim text) (Some (None, drop 1 text)) (λ _. delims_costs delim text) (λ _. costs_free _ _ _ (dropped 1 text)))
    (λ _. costs_if free (length text) (first text == backslash) (option_map (λ p. (Some p.0, p.1)) (escape multi (drop 1 text))) (newline_special multi text)
    (λ _. costs_map (λ b. Some b) free free (length (drop 1 text)) (length text) (escape multi (drop 1 text)) (λ _. omega (arith, dropped 1 text)) (escape_costs multi (drop 1 text)))
    (λ _. costs_if free (length text) (multi && starts_newline text) (Some (Some (first text ∷ []), drop 1 text)) None (λ _. costs_free _ _ _ (dropped 1 text)) (λ _. costs_none _ _)))

pieces : (more : List ℕ → Read (List ℕ)) → ((text : List ℕ) → Costs free (length text) (more text)) → (m : ℕ) (piece : Option (List ℕ)) (rest : List ℕ) → length rest ≤ m →
    Costs free m (after_piece more piece rest)
pieces more costs m None rest h = costs_free _ _ _ h
pieces more costs m (Some bytes) rest h = costs_map (λ b. bytes ++ b) free free (length rest) m (more rest) (λ _. omega (arith, h)) (costs rest)

body_costs : (delim : ℕ) (multi : Bool) (n : ℕ) (text : List ℕ) → Costs free (length text) (body delim multi n text)
unfolding body
body_costs delim multi zero text = costs_none _ _
body_costs delim multi (suc n) text =
    costs_if free (length text) (is_plain delim multi (first text)) (prepend (first text ∷ []) (body delim multi n (drop 1 text))) (option_and_then (λ p. after_piece (body delim multi n) p.0 p.1) (special delim multi text))
    (λ _. costs_map (λ b. (first text ∷ []) ++ b) free free (length (drop 1 text)) (length text) (body delim multi n (drop 1 text)) (λ _. omega (arith, dropped 1 text)) (body_costs delim multi n (drop 1 text)))
    (λ _. costs_then free free (length text) (length text) (special delim multi text) (λ p. after_piece (body delim multi n) p.0 p.1) (special_costs delim multi text)
    (λ p h. pieces (body delim multi n) (body_costs delim multi n) (length text) p.0 p.1 (omega (arith, h))))

started_by : (b c : Bool) (text : List ℕ) → (first text == 34) ≡ b → (first text == 39) ≡ c → (b || c) ≡ true → 1 + length (drop 1 text) ≤ length text
started_by true c text q a h = first_there 34 text (omega arith) q
started_by false true text q a h = first_there 39 text (omega arith) a
started_by false false text q a h = absurd (false≢true h)

started : (text : List ℕ) → starts_string text ≡ true → 1 + length (drop 1 text) ≤ length text
started text h = started_by _ _ text refl refl h

-- a string costs at least its delimiter
one_line_costs : (text : List ℕ) → starts_string text ≡ true → Costs one (length text) (one_line text)
unfolding one_line
one_line_costs text h =
    costs_raise (length (drop 1 text)) (length text) (body (first text) false (length text) (drop 1 text)) (started text h) (body_costs (first text) false (length text) (drop 1 text))

pub quoted_costs : (text : List ℕ) → starts_string text ≡ true → Costs one (length text) (quoted text)
unfolding quoted
quoted_costs text h =
    costs_if one (length text) (slice_index text 1 == first text && slice_index text 2 == first text) (body (first text) true (length text) (trim_newline (drop 3 text))) (one_line text)
    (λ _. costs_raise (length (trim_newline (drop 3 text))) (length text) _ (let a = trimmed (drop 3 text) in let b = started text h in let c = thrice text in omega (arith, a, b, c)) (body_costs (first text) true (length text) (trim_newline (drop 3 text))))
    (λ _. one_line_costs text h)

-- words

positive : (n : ℕ) → (n == 0) ≡ false → 1 ≤ n
positive zero h = absurd (true≢false h)
positive (suc n) h = omega arith

some_word : (text : List ℕ) → (word_len text == 0) ≡ false → 1 ≤ length text
unfolding word_len
some_word [] h = absurd (true≢false h)
some_word (b ∷ bs) h = omega arith

word_costs : (o : Option Scalar) (n : ℕ) (text : List ℕ) → 1 ≤ n → 1 ≤ length text → Costs one (length text) (option_map (λ d. (d, drop n text)) o)
word_costs None n text h k = costs_none _ _
word_costs (Some d) n text h k = costs_some _ _ _ _ (let l = length-drop n text in omega (arith, h, k, l))

pub unquoted_costs : (text : List ℕ) → Costs one (length text) (unquoted text)
unfolding unquoted
unquoted_costs text =
    costs_if one (length text) (word_len text == 0) None (option_map (λ d. (d, drop (word_len text) text)) (word_value (take (word_len text) text)))
    (λ _. costs_none _ _) (λ h. word_costs _ (word_len text) text (positive (word_len text) h) (some_word text h))

-- keys

costs_forget : {A : Type 0} (n : ℕ) (r : Read A) → Costs one n r → Costs free n r
unfolding Costs
costs_forget n None c = tt
costs_forget n (Some p) c = omega (arith, c)

simple_key_costs : (text : List ℕ) → Costs free (length text) (simple_key text)
unfolding simple_key
simple_key_costs text =
    costs_if free (length text) (starts_string text) (one_line text) (if is_bare (first text) then Some (split_while is_bare text) else None)
    (λ h. costs_forget _ _ (one_line_costs text h))
    (λ _. costs_if free (length text) (is_bare (first text)) (Some (split_while is_bare text)) None (λ _. costs_free _ _ _ (dropped _ text)) (λ _. costs_none _ _))

key_after_costs : (n : ℕ) (path : List (List ℕ)) (text : List ℕ) → Costs free (length text) (key_after n path text)
unfolding key_after
key_after_costs zero path text = costs_none _ _
key_after_costs (suc n) path text =
    costs_then free free (length text) (length text) (simple_key text)
    (λ part. if first (skip_ws part.1) == dot then key_after n (path ++ part.0 ∷ []) (skip_ws (drop 1 (skip_ws part.1))) else Some ((path, part.0), skip_ws part.1))
    (simple_key_costs text)
    (λ p h. costs_if free (length text) (first (skip_ws p.1) == dot) (key_after n (path ++ p.0 ∷ []) (skip_ws (drop 1 (skip_ws p.1)))) (Some ((path, p.0), skip_ws p.1))
    (λ _. costs_more free (length (skip_ws (drop 1 (skip_ws p.1)))) (length text) _
    (let a = ws p.1 in let b = dropped 1 (skip_ws p.1) in let c = ws (drop 1 (skip_ws p.1)) in omega (arith, a, b, c, h))
    (key_after_costs n (path ++ p.0 ∷ []) (skip_ws (drop 1 (skip_ws p.1)))))
    (λ _. costs_free _ _ _ (let a = ws p.1 in omega (arith, a, h))))

pub key_costs : (text : List ℕ) → Costs free (length text) (key text)
key_costs text = key_after_costs recursion_limit [] text

pub byte_costs : {A : Type 0} (w : A → ℕ) (x : A) (f : List ℕ → List ℕ) → ((t : List ℕ) → length (f t) ≤ length t) → (byte : ℕ) (text : List ℕ) (n : ℕ) → w x + length text ≤ n →
    Costs w n (option_map (λ rest. (x, f rest)) (after_byte byte text))
byte_costs w x f short byte text n h =
    elim (cases_Bool (first text == byte)) [
      | inl e ↦ rw e (costs_some w n x (f (drop 1 text)) (let a = short (drop 1 text) in let b = dropped 1 text in omega (arith, a, b, h)))
      | inr e ↦ rw e (costs_none w n)
    ]

key_equals_costs : (text : List ℕ) → Costs free (length text) (key_equals text)
unfolding key_equals
key_equals_costs text =
    costs_then free free (length text) (length text) (key text) (λ k. option_map (λ rest. (k.0, skip_ws rest)) (after_byte equals k.1)) (key_costs text)
    (λ p h. byte_costs free p.0 skip_ws ws equals p.1 (length text) h)

-- values

-- a value takes a byte more than it has elements
abbrev pub charge : Data → ℕ
charge d = 1 + size d

abbrev pub pair_charge : Key × Data → ℕ
pair_charge p = charge p.1

pub keyval_costs : (v : List ℕ → Read Data) → ((text : List ℕ) → Costs charge (length text) (v text)) → (text : List ℕ) → Costs pair_charge (length text) (keyval v text)
keyval_costs v costs text =
    costs_then free pair_charge (length text) (length text) (key_equals text) (λ k. read_map (λ d. (k.0, d)) (v k.1)) (key_equals_costs text)
    (λ p h. costs_map (λ d. (p.0, d)) pair_charge charge (length p.1) (length text) (v p.1) (λ _. omega (arith, h)) (costs p.1))

pub element_then : {A : Type 0} (w : A → ℕ) (m closing : ℕ) (text : List ℕ) (k : List ℕ → Read A) → ((rest : List ℕ) → length rest ≤ length text → Costs w m (k rest)) →
    Costs w m (option_and_then k (after_element closing text))
unfolding after_element
element_then w m closing text k h =
    elim (cases_Bool (first (skip_blank text) == comma)) [
      | inl a ↦ rw a (h (drop 1 (skip_blank text)) (let x = dropped 1 (skip_blank text) in let y = blank text in omega (arith, x, y)))
      | inr a ↦ rw a (elim (cases_Bool (first (skip_blank text) == closing)) [
        | inl b ↦ rw b (h (skip_blank text) (blank text))
        | inr b ↦ rw b (costs_none w m)
      ])
    ]

pub pushed : (ds : Items) (d : Data) → items_size (push_item ds d) ≡ items_size ds + (1 + size d)
pushed no_items d = omega arith
pushed (item e ds) d = let h = pushed ds d in omega (arith, h)

pub items_costs : (v : List ℕ → Read Data) → ((text : List ℕ) → Costs charge (length text) (v text)) → (n : ℕ) (found : Items) (text : List ℕ) →
    Costs items_size (items_size found + length text) (items v n found text)
unfolding items
items_costs v costs zero found text = costs_none _ _
items_costs v costs (suc n) found text =
    costs_if items_size (items_size found + length text) (first (skip_blank text) == right_bracket) (Some (found, drop 1 (skip_blank text)))
    (option_and_then (λ p. option_and_then (items v n (push_item found p.0)) (after_element right_bracket p.1)) (v (skip_blank text)))
    (λ _. costs_some _ _ _ _ (let a = dropped 1 (skip_blank text) in let b = blank text in omega (arith, a, b)))
    (λ _. costs_then charge items_size (length (skip_blank text)) (items_size found + length text) (v (skip_blank text))
    (λ p. option_and_then (items v n (push_item found p.0)) (after_element right_bracket p.1)) (costs (skip_blank text))
    (λ p fits. element_then items_size (items_size found + length text) right_bracket p.1 (items v n (push_item found p.0))
    (λ rest short. costs_more items_size (items_size (push_item found p.0) + length rest) (items_size found + length text) _
    (let a = pushed found p.0 in let b = blank text in omega (arith, a, b, fits, short)) (items_costs v costs n (push_item found p.0) rest))))
