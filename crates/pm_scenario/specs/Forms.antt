-- How a table of a document is read by a list of its keys, or what it is refused for first.
use Rattle.std.specs.Prelude.{◌≡◌, ℕ, ◌+◌, Bool, true, false, if◌then◌else◌, List, [], ◌∷◌, ◌++◌, Option, Some, None}
use Rattle.std.specs.Prelude.{Result, Ok, Err, ℤ, pos, codes, decimal}
use Rattle.std.specs.Ordering.{nat_cmp, is_lt}
use Rattle.std.specs.Cmp.Lexicographic.{slice_cmp}
use Rattle.std.specs.Str.{bytes_eq}
use Rattle.std.specs.List.{list_any}
use Rattle.toml.specs.Data.{Data, integer, array, table, Items, no_items, item, Members, no_members, member, get_member}
use Rattle.toml.specs.Data.{as_str, as_integer}
use Rattle.pm_scenario.specs.declared.fault.ScenarioFault.{ScenarioFault}
use Rattle.pm_scenario.specs.declared.fault.ScenarioFault.TheVariants as fault

infixl 10 ◌>>=◌
-- what comes next is done with what was read, and a fault of the reading is the fault of the whole
abbrev pub ◌>>=◌ : {A B : Type 0} → Result A ScenarioFault → (A → Result B ScenarioFault) → Result B ScenarioFault
(Ok x) >>= f = f x
(Err e) >>= f = Err e

-- what was read is refused with this fault, and is free where the fault is that memory ran out
abbrev pub Fails : {A : Type 0} → ScenarioFault → Result A ScenarioFault → Type 0
Fails fault.Memory read = Unit {0}
Fails f read = read ≡ Err f

-- what was returned is what the definition gives, a value or its fault, unless memory ran out
abbrev pub Gives : {A : Type 0} → Result A ScenarioFault → Result A ScenarioFault → Type 0
Gives (Ok x) read = read ≡ Ok x
Gives (Err f) read = Fails f read

-- the keys that lead to a value, and the indices, as `class[0].var[2].x`
abbrev pub Path : Type 0
Path = List ℕ

-- an element of the array at the path
abbrev pub indexed : Path → ℕ → Path
indexed path i = path ++ codes "[" ++ decimal i ++ codes "]"

-- what stands before the keys of the table at the path
abbrev pub inside : Path → Path
inside path = path ++ codes "."

-- a kind of values: the value that a path has, where it is of this kind
abbrev pub Kind : Type 0 → Type 0
Kind A = Path → Data → Result A ScenarioFault

-- the value that was found, or that the value at the path is of the wrong kind
abbrev pub of_kind : {A : Type 0} → Path → Option A → Result A ScenarioFault
of_kind path (Some x) = Ok x
of_kind path None = Err (fault.Kind path)

-- the kind of texts: a string's bytes
abbrev pub text : Kind (List ℕ)
text path d = of_kind path (as_str d)

-- the kind of integers
abbrev pub number : Kind ℤ
number path d = of_kind path (as_integer d)

-- the number that an integer is, where it isn't negative
abbrev pub as_count : Data → Option ℕ
as_count (integer (pos n)) = Some n
as_count _ = None

-- the kind of counts: integers that aren't negative
abbrev pub count : Kind ℕ
count path d = of_kind path (as_count d)

-- the values of a kind, as those of a key that may be absent
abbrev pub optional : {A : Type 0} → Kind A → Kind (Option A)
optional kind path d = kind path d >>= λ x. Ok (Some x)

-- a key that is listed, the kind of its value, and what stands for it where it is absent: nothing where it is required
pub record Field (A : Type 0) : Type 0 where
  pub key : List ℕ
  pub kind : Kind A
  pub absent : Option A

-- the default, or that the key at the path is missing where it has none
abbrev pub or_missing : {A : Type 0} → Path → Option A → Result A ScenarioFault
or_missing path (Some x) = Ok x
or_missing path None = Err (fault.Missing path)

-- what a listed key has at the path: its value, which is of the key's kind, or where there is none its default
abbrev pub value_of : {A : Type 0} → Field A → Path → Option Data → Result A ScenarioFault
value_of field path (Some d) = field.kind path d
value_of field path None = or_missing path field.absent

-- what a listed key has in a table whose keys stand behind this prefix
abbrev pub field_at : {A : Type 0} → Field A → Path → Members → Result A ScenarioFault
field_at field prefix ms = value_of field (prefix ++ field.key) (get_member field.key ms)

-- the listed keys of a table in order, and what is made of their values
pub record Form (A : Type 0) : Type 0 where
  pub keys : List (List ℕ)
  pub values : Path → Members → Result A ScenarioFault

-- no keys
abbrev pub made_by : {A : Type 0} → A → Form A
made_by x = record { keys = []; values = λ prefix ms. Ok x }

infixl 9 ◌◃◌
-- one more key: its value is taken after those before it
abbrev pub ◌◃◌ : {A B : Type 0} → Form (A → B) → Field A → Form B
form ◃ field = record {
  keys = form.keys ++ field.key ∷ [];
  values = λ prefix ms. form.values prefix ms >>= λ f. field_at field prefix ms >>= λ x. Ok (f x);
}

-- the key is one of those that are listed
abbrev pub is_listed : List (List ℕ) → List ℕ → Bool
is_listed keys k = list_any (λ l. bytes_eq l k) keys

-- the lesser by its bytes of a key and another, where there is another
abbrev pub lesser : Option (List ℕ) → List ℕ → List ℕ
lesser None k = k
lesser (Some l) k = if is_lt (slice_cmp nat_cmp k l) then k else l

-- the least of the keys that aren't listed and of another, where there is another
abbrev pub least_of : List (List ℕ) → Option (List ℕ) → Members → Option (List ℕ)
least_of keys other no_members = other
least_of keys other (member k d ms) = least_of keys (if is_listed keys k then other else Some (lesser other k)) ms

-- the least, by its bytes, of the keys that aren't listed, where there are such
abbrev pub strange : List (List ℕ) → Members → Option (List ℕ)
strange keys ms = least_of keys None ms

-- the table is refused for this key, which isn't listed, where there is such a key
abbrev pub refuse_strange : Path → Option (List ℕ) → Result (Unit {0}) ScenarioFault
refuse_strange prefix None = Ok tt
refuse_strange prefix (Some k) = Err (fault.Strange (prefix ++ k))

-- each key of the table is listed, or the least that isn't is named by its path
unfoldable pub no_strange : Path → List (List ℕ) → Members → Result (Unit {0}) ScenarioFault
no_strange prefix keys ms = refuse_strange prefix (strange keys ms)

-- the walk over a table whose keys stand behind this prefix: first the keys that aren't listed, then each listed key
-- in order
abbrev pub walk : {A : Type 0} → Form A → Path → Members → Result A ScenarioFault
walk form prefix ms = no_strange prefix form.keys ms >>= λ _. form.values prefix ms

-- the value is a table
abbrev pub is_table : Data → Bool
is_table (table ms) = true
is_table _ = false

-- the elements from number i on are tables, or the first that is none is of the wrong kind
unfoldable pub all_tables : Path → ℕ → Items → Result (Unit {0}) ScenarioFault
all_tables path i no_items = Ok tt
all_tables path i (item d ds) = if is_table d then all_tables path (i + 1) ds else Err (fault.Kind (indexed path i))

-- the kind of tables that this form reads
abbrev pub element : {A : Type 0} → Form A → Kind A
element form path (table ms) = walk form (inside path) ms
element form path _ = Err (fault.Kind path)

-- the elements from number i on, each walked before the next
unfoldable pub elements : {A : Type 0} → Form A → Path → ℕ → Items → Result (List A) ScenarioFault
elements form path i no_items = Ok []
elements form path i (item d ds) = do
  x ← element form (indexed path i) d
  xs ← elements form path (i + 1) ds
  Ok (x ∷ xs)

-- an array of tables: an element that is no table is told before any element is walked
unfoldable pub tables : {A : Type 0} → Form A → Kind (List A)
tables form path (array ds) = all_tables path 0 ds >>= λ _. elements form path 0 ds
tables form path _ = Err (fault.Kind path)

-- a list in front of what is read
abbrev pub with_front : {A : Type 0} → List A → Result (List A) ScenarioFault → Result (List A) ScenarioFault
with_front front read = read >>= λ more. Ok (front ++ more)

-- a listed key that must be there
abbrev pub required : {A : Type 0} → List ℕ → Kind A → Field A
required key kind = record { key = key; kind = kind; absent = None }

-- a listed key with what stands for its value where it is absent
abbrev pub default : {A : Type 0} → List ℕ → Kind A → A → Field A
default key kind x = record { key = key; kind = kind; absent = Some x }
