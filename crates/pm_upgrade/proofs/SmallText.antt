-- The integers of a text are below 2 ^ 63.
use Rattle.std.proofs.Common.{◌≡◌, refl, ap, sym, subst, ◌∙◌, arith, ℕ, zero, suc, ◌<◌, Bool, true, false, cond, ℤ, pos, negsuc, List, length, drop, take, Option, Some, None, option_map, option_and_then}
use Rattle.std.specs.Prelude.{◌^◌, ◌==◌, ◌&&◌, ◌||◌, codes, nat_lt, not, if◌then◌else◌}
use Rattle.std.proofs.lemmas.Bool.{and_parts}
use Rattle.std.proofs.lemmas.Bool.Decides.{nat_tests}
use Rattle.std.specs.List.{filter, list_all}
use Rattle.std.specs.Char.{is_digit}
use Rattle.std.specs.Float.Ieee.{inf, nan}
use Rattle.std.specs.Str.{bytes_eq}
use Rattle.std.specs.Str.Parse.{digits_value}
use Rattle.fast_float.specs.Text.{Parts, digits_of, scan, with_sign}
use Rattle.toml_datetime.specs.Parse.{parse_datetime}
use Rattle.toml_parser.specs.Lexical.{Read, dash, first, left_brace, left_bracket, plus, underscore}
use Rattle.toml_parser.specs.Strings.{quoted, starts_string}
use Rattle.toml_parser.specs.Numbers.{decimal_number, float_of, integer_of, is_decimal, looks_like_datetime, number, plain_number, prefixed_integer, radix_of, underscore_radix, underscores_fit, unquoted, word_len, word_value}
use Rattle.toml_parser.specs.declared.scalar.Scalar.{Scalar}
use Rattle.toml_parser.specs.declared.scalar.Scalar.TheVariants.{Boolean, Integer, Float, Datetime}
use Rattle.toml.specs.Data.{Data, string, integer, float, boolean, datetime, array, table, Items, no_items, Members}
use Rattle.toml.specs.Tables.{no_nodes}
use Rattle.toml.specs.Parse.{read_map, scalar_data, atom, items, members, val}

-- a number that isn't negative is below 2 ^ 63
abbrev pub IsLow : ℤ → Type 0
IsLow (pos n) = n < 2 ^ 63
IsLow (negsuc n) = Unit {0}

-- so an integer; all other values
abbrev pub IsSmall : Data → Type 0
IsSmall (integer z) = IsLow z
IsSmall (string s) = Unit {0}
IsSmall (float x) = Unit {0}
IsSmall (boolean b) = Unit {0}
IsSmall (datetime t) = Unit {0}
IsSmall (array ds) = Unit {0}
IsSmall (table ms) = Unit {0}

abbrev IsSmallScalar : Scalar → Type 0
IsSmallScalar (Integer z) = IsLow z
IsSmallScalar (Boolean b) = Unit {0}
IsSmallScalar (Float x) = Unit {0}
IsSmallScalar (Datetime t) = Unit {0}

-- this is so of what was read, if anything
unfoldable pub Each : {A : Type 0} → (A → Type 0) → Read A → Type 0
Each P None = Unit {0}
Each P (Some r) = P r.0

-- and of what there is
unfoldable pub Every : {A : Type 0} → (A → Type 0) → Option A → Type 0
Every P None = Unit {0}
Every P (Some x) = P x

pub each-none : {A : Type 0} (P : A → Type 0) → Each P None
unfolding Each
each-none P = tt

pub each-some : {A : Type 0} (P : A → Type 0) (x : A) (rest : List ℕ) → P x → Each P (Some (x, rest))
unfolding Each
each-some P x rest h = h

pub each-if : {A : Type 0} (P : A → Type 0) (b : Bool) (r s : Read A) → Each P r → Each P s → Each P (if b then r else s)
each-if P true r s h g = h
each-if P false r s h g = g

pub each-map : {A B : Type 0} (P : A → Type 0) (Q : B → Type 0) (f : A → B) (r : Read A) → Each P r → ((x : A) → P x → Q (f x)) → Each Q (read_map f r)
unfolding Each
each-map P Q f None h g = tt
each-map P Q f (Some p) h g = g p.0 h

pub each-any : {A B : Type 0} (Q : B → Type 0) (f : A → B) (r : Read A) → ((x : A) → Q (f x)) → Each Q (read_map f r)
unfolding Each
each-any Q f None g = tt
each-any Q f (Some p) g = g p.0

pub each-then : {A B : Type 0} (Q : B → Type 0) (o : Option A) (k : A → Read B) → ((x : A) → Each Q (k x)) → Each Q (option_and_then k o)
unfolding Each
each-then Q None k g = tt
each-then Q (Some x) k g = g x

every-none : {A : Type 0} (P : A → Type 0) → Every P None
unfolding Every
every-none P = tt

every-some : {A : Type 0} (P : A → Type 0) (x : A) → P x → Every P (Some x)
unfolding Every
every-some P x h = h

every-if : {A : Type 0} (P : A → Type 0) (b : Bool) (r s : Option A) → (b ≡ true → Every P r) → (b ≡ false → Every P s) → Every P (if b then r else s)
every-if P true r s h g = h refl
every-if P false r s h g = g refl

every-map : {A B : Type 0} (Q : B → Type 0) (f : A → B) (o : Option A) → ((x : A) → Q (f x)) → Every Q (option_map f o)
unfolding Every
every-map Q f None g = tt
every-map Q f (Some x) g = g x

low-number : (n : ℕ) → nat_lt n (2 ^ 63) ≡ true → n < 2 ^ 63
low-number n e = grind (arith, nat_tests, e)

prefixed-small : (radix : ℕ) (digits : List ℕ) → Every IsSmallScalar (prefixed_integer radix digits)
unfolding prefixed_integer
prefixed-small radix digits =
    let some = nat_lt 0 (length digits) && list_all (λ c. is_digit c radix) digits in
    let n = digits_value radix digits in
    every-if IsSmallScalar (some && nat_lt n (2 ^ 63)) (Some (Integer (pos n))) None
    (λ h. every-some IsSmallScalar (Integer (pos n)) (low-number n (and_parts some (nat_lt n (2 ^ 63)) h).1))
    (λ _. every-none IsSmallScalar)

signed-low : (negative : Bool) (n : ℕ) → (nat_lt n (2 ^ 63) || (negative && n == 2 ^ 63)) ≡ true → IsLow (with_sign negative n)
signed-low false n h = either (nat_lt n (2 ^ 63)) refl h
  where
    either : (b : Bool) → nat_lt n (2 ^ 63) ≡ b → (b || false) ≡ true → n < 2 ^ 63
    either true e g = grind (arith, nat_tests, e)
    either false e g = absurd (cc)
signed-low true zero h = omega arith
signed-low true (suc n) h = tt

integer-small : (negative : Bool) (n : ℕ) → Every IsSmallScalar (integer_of negative n)
integer-small negative n =
    every-if IsSmallScalar (nat_lt n (2 ^ 63) || (negative && n == 2 ^ 63)) _ None
    (λ h. every-some IsSmallScalar _ (signed-low negative n h))
    (λ _. every-none IsSmallScalar)

float-small : (negative : Bool) (p : Parts) → Every IsSmallScalar (float_of negative p)
float-small negative p = every-if IsSmallScalar _ _ None (λ _. every-some IsSmallScalar _ tt) (λ _. every-none IsSmallScalar)

decimal-small : (negative : Bool) (word : List ℕ) → Every IsSmallScalar (decimal_number negative word)
unfolding decimal_number
decimal-small negative word =
    let p = scan word in
    let last : Option Scalar = if p.point || nat_lt 0 (length p.exponent) then float_of negative p else integer_of negative (digits_of p) in
    let third : Option Scalar = if not (p.len == length word && is_decimal p) then None else last in
    let second : Option Scalar = if bytes_eq word (codes "nan") then Some (Float nan) else third in
    every-if IsSmallScalar (bytes_eq word (codes "inf")) (Some (Float (inf negative))) second (λ _. every-some IsSmallScalar (Float (inf negative)) tt) (λ _.
    every-if IsSmallScalar (bytes_eq word (codes "nan")) (Some (Float nan)) third (λ _. every-some IsSmallScalar (Float nan) tt) (λ _.
    every-if IsSmallScalar (not (p.len == length word && is_decimal p)) None last (λ _. every-none IsSmallScalar) (λ _.
    every-if IsSmallScalar (p.point || nat_lt 0 (length p.exponent)) (float_of negative p) (integer_of negative (digits_of p)) (λ _. float-small negative p) (λ _. integer-small negative (digits_of p)))))

plain-small : (word : List ℕ) → Every IsSmallScalar (plain_number word)
unfolding plain_number
plain-small word =
    let last : Option Scalar = if first word == plus then decimal_number false (drop 1 word) else decimal_number false word in
    let second : Option Scalar = if first word == dash then decimal_number true (drop 1 word) else last in
    every-if IsSmallScalar (not (radix_of word == 10)) (prefixed_integer (radix_of word) (drop 2 word)) second (λ _. prefixed-small (radix_of word) (drop 2 word)) (λ _.
    every-if IsSmallScalar (first word == dash) (decimal_number true (drop 1 word)) last (λ _. decimal-small true (drop 1 word)) (λ _.
    every-if IsSmallScalar (first word == plus) (decimal_number false (drop 1 word)) (decimal_number false word) (λ _. decimal-small false (drop 1 word)) (λ _. decimal-small false word)))

number-small : (word : List ℕ) → Every IsSmallScalar (number word)
unfolding number
number-small word =
    let plain = filter (λ c. not (c == underscore)) word in
    every-if IsSmallScalar (underscores_fit (λ c. is_digit c (underscore_radix word)) 0 word) (plain_number plain) None (λ _. plain-small plain) (λ _. every-none IsSmallScalar)

word-small : (word : List ℕ) → Every IsSmallScalar (word_value word)
unfolding word_value
word-small word =
    let last : Option Scalar = if looks_like_datetime word then option_map Datetime (parse_datetime word) else number word in
    let second : Option Scalar = if bytes_eq word (codes "false") then Some (Boolean false) else last in
    every-if IsSmallScalar (bytes_eq word (codes "true")) (Some (Boolean true)) second (λ _. every-some IsSmallScalar (Boolean true) tt) (λ _.
    every-if IsSmallScalar (bytes_eq word (codes "false")) (Some (Boolean false)) last (λ _. every-some IsSmallScalar (Boolean false) tt) (λ _.
    every-if IsSmallScalar (looks_like_datetime word) (option_map Datetime (parse_datetime word)) (number word) (λ _. every-map IsSmallScalar Datetime (parse_datetime word) (λ t. tt)) (λ _. number-small word)))

beside : (rest : List ℕ) (o : Option Scalar) → Every IsSmallScalar o → Each IsSmallScalar (option_map (λ d. (d, rest)) o)
unfolding Each Every
beside rest None h = tt
beside rest (Some x) h = h

unquoted-small : (text : List ℕ) → Each IsSmallScalar (unquoted text)
unfolding unquoted
unquoted-small text =
    let word = take (word_len text) text in
    let rest = drop (word_len text) text in
    each-if IsSmallScalar (word_len text == 0) None (option_map (λ d. (d, rest)) (word_value word)) (each-none IsSmallScalar) (beside rest (word_value word) (word-small word))

scalar-small : (x : Scalar) → IsSmallScalar x → IsSmall (scalar_data x)
scalar-small (Boolean b) h = tt
scalar-small (Integer z) h = h
scalar-small (Float x) h = tt
scalar-small (Datetime t) h = tt

atom-small : (text : List ℕ) → Each IsSmall (atom text)
unfolding atom
atom-small text =
    each-if IsSmall (starts_string text) (read_map string (quoted text)) (read_map scalar_data (unquoted text))
    (each-any IsSmall string (quoted text) (λ s. tt)) (each-map IsSmallScalar IsSmall scalar_data (unquoted text) (unquoted-small text) scalar-small)

-- a value of a text
pub val-small : (depth : ℕ) (text : List ℕ) → Each IsSmall (val depth text)
unfolding val
val-small zero text = atom-small text
val-small (suc depth) text =
    let listed = items (val depth) (length text) no_items (drop 1 text) in
    let inline = members (val depth) (length text) no_nodes (drop 1 text) in
    let rest : Read Data = if first text == left_brace then read_map table inline else atom text in
    each-if IsSmall (first text == left_bracket) (read_map array listed) rest (each-any IsSmall array listed (λ ds. tt))
    (each-if IsSmall (first text == left_brace) (read_map table inline) (atom text) (each-any IsSmall table inline (λ ms. tt)) (atom-small text))
