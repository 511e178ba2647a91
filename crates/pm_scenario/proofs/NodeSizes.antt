-- What a definition adds to a document.
use Rattle.std.proofs.Common.{◌≡◌, refl, arith, ℕ, ◌+◌, ◌≤◌, Bool, true, false, List, [], ◌∷◌, ◌++◌, Option, Some, None, option_map, Ordering, Less, Equal, Greater, nat_cmp}
use Rattle.std.specs.Prelude.{if◌then◌else◌}
use Rattle.std.specs.Cmp.Lexicographic.{slice_cmp}
use Rattle.std.specs.Ordering.{match_ordering}
use Rattle.toml_parser.specs.Strings.{Key}
use Rattle.toml.specs.Data.{Data, table, same_key}
use Rattle.toml.specs.Tables.{Origin, implicit, dotted, header, Node, Nodes, no_nodes, node, value, open_table, open_array, get_node, insert, replace, close, close_node, Edit, header_node, dot_node, by_header, by_dot, along_header, along_dots, Definition, key_value, std_table, array_table, Expression, new_node, redefine, at_found, at_key, put, Document, define_as, define}
use Rattle.pm_scenario.proofs.Sizes.{size, members_size, node_size, nodes_size}
use Rattle.pm_scenario.proofs.TextSizes.{pushed}

mutual
  pub close_node_size : (x : Node) → size (close_node x) ≡ node_size x
  close_node_size (value d) = refl
  close_node_size (open_table origin ns) = close_size ns
  close_node_size (open_array done last) = let a = pushed done (table (close last)) in let b = close_size last in omega (arith, a, b)

  pub close_size : (ns : Nodes) → members_size (close ns) ≡ nodes_size ns
  close_size no_nodes = refl
  close_size (node k x ns) = let a = close_node_size x in let b = close_size ns in omega (arith, a, b)

-- what came of it is no larger than n
unfoldable pub Adds : {A : Type 0} → (A → ℕ) → ℕ → Option A → Type 0
Adds w n None = Unit {0}
Adds w n (Some x) = w x ≤ n

pub adds_none : {A : Type 0} (w : A → ℕ) (n : ℕ) → Adds w n None
unfolding Adds
adds_none w n = tt

pub adds_some : {A : Type 0} (w : A → ℕ) (n : ℕ) (x : A) → w x ≤ n → Adds w n (Some x)
unfolding Adds
adds_some w n x h = h

pub adds_map : {A B : Type 0} (f : A → B) (w : A → ℕ) (v : B → ℕ) (n m : ℕ) (o : Option A) → ((x : A) → w x ≤ n → v (f x) ≤ m) → Adds w n o → Adds v m (option_map f o)
unfolding Adds
adds_map f w v n m None h a = tt
adds_map f w v n m (Some x) h a = h x a

-- an edit that makes any table larger by at most a
abbrev pub Grows : ℕ → Edit → Type 0
Grows a edit = (ns : Nodes) → Adds nodes_size (nodes_size ns + a) (edit ns)

inserted_at : (o : Ordering) (k l : List ℕ) (x y : Node) (ns : Nodes) → nodes_size (insert k x ns) ≤ node_size x + nodes_size ns →
    nodes_size (match_ordering o (node k x (node l y ns)) (node l x ns) (node l y (insert k x ns))) ≤ node_size x + (node_size y + nodes_size ns)
inserted_at Less k l x y ns h = omega arith
inserted_at Equal k l x y ns h = omega arith
inserted_at Greater k l x y ns h = omega (arith, h)

inserted : (k : List ℕ) (x : Node) (ns : Nodes) → nodes_size (insert k x ns) ≤ node_size x + nodes_size ns
inserted k x no_nodes = omega arith
inserted k x (node l y ns) = inserted_at (slice_cmp nat_cmp k l) k l x y ns (inserted k x ns)

replaced_at : (b : Bool) (l : List ℕ) (x y z : Node) (found : Option Node) (ns more : Nodes) → (found ≡ Some y → nodes_size more + node_size y ≤ node_size x + nodes_size ns) →
    (if b then Some z else found) ≡ Some y → nodes_size (if b then node l x ns else node l z more) + node_size y ≤ node_size x + (node_size z + nodes_size ns)
replaced_at true l x y z found ns more h e = let same : z ≡ y = cc in rw same (omega arith)
replaced_at false l x y z found ns more h e = let k = h e in omega (arith, k)

replaced : (k : List ℕ) (x y : Node) (ns : Nodes) → get_node k ns ≡ Some y → nodes_size (replace k x ns) + node_size y ≤ node_size x + nodes_size ns
replaced k x y no_nodes e = absurd (cc)
replaced k x y (node l z ns) e = replaced_at (same_key k l) l x y z (get_node k ns) ns (replace k x ns) (replaced k x y ns) e

header_adds : (edit : Edit) (a : ℕ) → Grows a edit → (x : Node) → Adds node_size (node_size x + a) (header_node edit x)
header_adds edit a grows (value d) = adds_none _ _
header_adds edit a grows (open_table origin inner) = adds_map (open_table origin) nodes_size node_size (nodes_size inner + a) _ (edit inner) (λ _ h. h) (grows inner)
header_adds edit a grows (open_array done last) = adds_map (open_array done) nodes_size node_size (nodes_size last + a) _ (edit last) (λ _ h. omega (arith, h)) (grows last)

dot_adds : (edit : Edit) (a : ℕ) → Grows a edit → (x : Node) → Adds node_size (node_size x + a) (dot_node edit x)
dot_adds edit a grows (value d) = adds_none _ _
dot_adds edit a grows (open_table header inner) = adds_none _ _
dot_adds edit a grows (open_table implicit inner) = adds_map (open_table dotted) nodes_size node_size (nodes_size inner + a) _ (edit inner) (λ _ h. h) (grows inner)
dot_adds edit a grows (open_table dotted inner) = adds_map (open_table dotted) nodes_size node_size (nodes_size inner + a) _ (edit inner) (λ _ h. h) (grows inner)
dot_adds edit a grows (open_array done last) = adds_none _ _

-- a new table at a key that is not there
added : (k : List ℕ) (origin : Origin) (edit : Edit) (a : ℕ) → Grows a edit → (ns : Nodes) →
    Adds nodes_size (nodes_size ns + a) (option_map (λ new. insert k (open_table origin new) ns) (edit no_nodes))
added k origin edit a grows ns =
    adds_map (λ new. insert k (open_table origin new) ns) nodes_size nodes_size (nodes_size no_nodes + a) (nodes_size ns + a) (edit no_nodes)
    (λ new h. let i = inserted k (open_table origin new) ns in omega (arith, h, i)) (grows no_nodes)

-- a node in the place of the one at a key
changed : (k : List ℕ) (x : Node) (a : ℕ) (ns : Nodes) (o : Option Node) → get_node k ns ≡ Some x → Adds node_size (node_size x + a) o →
    Adds nodes_size (nodes_size ns + a) (option_map (λ new. replace k new ns) o)
changed k x a ns o e adds =
    adds_map (λ new. replace k new ns) node_size nodes_size (node_size x + a) (nodes_size ns + a) o (λ new h. let r = replaced k new x ns e in omega (arith, h, r)) adds

by_header_adds : (k : List ℕ) (edit : Edit) (a : ℕ) → Grows a edit → (ns : Nodes) (o : Option Node) → get_node k ns ≡ o → Adds nodes_size (nodes_size ns + a) (by_header k edit ns o)
by_header_adds k edit a grows ns None e = added k implicit edit a grows ns
by_header_adds k edit a grows ns (Some x) e = changed k x a ns (header_node edit x) e (header_adds edit a grows x)

by_dot_adds : (k : List ℕ) (edit : Edit) (a : ℕ) → Grows a edit → (ns : Nodes) (o : Option Node) → get_node k ns ≡ o → Adds nodes_size (nodes_size ns + a) (by_dot k edit ns o)
by_dot_adds k edit a grows ns None e = added k dotted edit a grows ns
by_dot_adds k edit a grows ns (Some x) e = changed k x a ns (dot_node edit x) e (dot_adds edit a grows x)

along_header_grows : (path : List (List ℕ)) (edit : Edit) (a : ℕ) → Grows a edit → Grows a (along_header path edit)
unfolding along_header
along_header_grows [] edit a grows ns = grows ns
along_header_grows (k ∷ path) edit a grows ns = by_header_adds k (along_header path edit) a (along_header_grows path edit a grows) ns (get_node k ns) refl

along_dots_grows : (path : List (List ℕ)) (edit : Edit) (a : ℕ) → Grows a edit → Grows a (along_dots path edit)
unfolding along_dots
along_dots_grows [] edit a grows ns = grows ns
along_dots_grows (k ∷ path) edit a grows ns = by_dot_adds k (along_dots path edit) a (along_dots_grows path edit a grows) ns (get_node k ns) refl

abbrev pub definition_size : Definition → ℕ
definition_size (key_value d) = size d
definition_size std_table = 0
definition_size array_table = 1

new_size : (what : Definition) → node_size (new_node what) ≡ definition_size what
new_size (key_value d) = refl
new_size std_table = refl
new_size array_table = refl

redefine_adds : (what : Definition) (x : Node) → Adds node_size (node_size x + definition_size what) (redefine what x)
redefine_adds (key_value d) (value e) = adds_none _ _
redefine_adds (key_value d) (open_table implicit ns) = adds_none _ _
redefine_adds (key_value d) (open_table dotted ns) = adds_none _ _
redefine_adds (key_value d) (open_table header ns) = adds_none _ _
redefine_adds (key_value d) (open_array done last) = adds_none _ _
redefine_adds std_table (value e) = adds_none _ _
redefine_adds std_table (open_table implicit ns) = adds_some _ _ _ (omega arith)
redefine_adds std_table (open_table dotted ns) = adds_none _ _
redefine_adds std_table (open_table header ns) = adds_none _ _
redefine_adds std_table (open_array done last) = adds_none _ _
redefine_adds array_table (value e) = adds_none _ _
redefine_adds array_table (open_table implicit ns) = adds_none _ _
redefine_adds array_table (open_table dotted ns) = adds_none _ _
redefine_adds array_table (open_table header ns) = adds_none _ _
redefine_adds array_table (open_array done last) = adds_some _ _ _ (let a = pushed done (table (close last)) in let b = close_size last in omega (arith, a, b))

at_found_adds : (k : List ℕ) (what : Definition) (ns : Nodes) (o : Option Node) → get_node k ns ≡ o → Adds nodes_size (nodes_size ns + definition_size what) (at_found k what ns o)
at_found_adds k what ns None e = adds_some _ _ _ (let a = inserted k (new_node what) ns in let b = new_size what in omega (arith, a, b))
at_found_adds k what ns (Some x) e = changed k x (definition_size what) ns (redefine what x) e (redefine_adds what x)

at_key_grows : (k : List ℕ) (what : Definition) → Grows (definition_size what) (at_key k what)
unfolding at_key
at_key_grows k what ns = at_found_adds k what ns (get_node k ns) refl

pub put_grows : (key : Key) (d : Data) → Grows (size d) (put key d)
put_grows key d = along_dots_grows key.0 (at_key key.1 (key_value d)) (size d) (at_key_grows key.1 (key_value d))

abbrev pub document_nodes : Document → ℕ
document_nodes doc = nodes_size doc.0

define_as_adds : (doc : Document) (key : Key) (what : Definition) → Adds document_nodes (document_nodes doc + definition_size what) (define_as doc key what)
define_as_adds doc key (key_value d) =
    adds_map (λ root. (root, doc.1)) nodes_size document_nodes (nodes_size doc.0 + size d) _ (along_header doc.1 (put key d) doc.0) (λ _ h. h)
    (along_header_grows doc.1 (put key d) (size d) (put_grows key d) doc.0)
define_as_adds doc key std_table =
    adds_map (λ root. (root, key.0 ++ key.1 ∷ [])) nodes_size document_nodes (nodes_size doc.0 + 0) _ (along_header key.0 (at_key key.1 std_table) doc.0) (λ _ h. h)
    (along_header_grows key.0 (at_key key.1 std_table) 0 (at_key_grows key.1 std_table) doc.0)
define_as_adds doc key array_table =
    adds_map (λ root. (root, key.0 ++ key.1 ∷ [])) nodes_size document_nodes (nodes_size doc.0 + 1) _ (along_header key.0 (at_key key.1 array_table) doc.0) (λ _ h. h)
    (along_header_grows key.0 (at_key key.1 array_table) 1 (at_key_grows key.1 array_table) doc.0)

pub define_adds : (doc : Document) (e : Expression) → Adds document_nodes (document_nodes doc + definition_size e.1) (define doc e)
unfolding define
define_adds doc e = define_as_adds doc e.0 e.1
