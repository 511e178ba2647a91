-- The integers at the root of a document are below 2 ^ 63.
use Rattle.std.proofs.Common.{◌≡◌, refl, ap, sym, subst, ◌∙◌, ℕ, zero, suc, Bool, true, false, cond, List, [], ◌∷◌, ◌++◌, drop, length, Option, Some, None, option_map, option_and_then, Ordering, Less, Equal, Greater}
use Rattle.std.specs.Prelude.{◌==◌, ◌&&◌, if◌then◌else◌, slice_index}
use Rattle.std.specs.Ordering.{nat_cmp, match_ordering}
use Rattle.std.specs.Cmp.Lexicographic.{slice_cmp}
use Rattle.std.proofs.lemmas.Option.{same_Some}
use Rattle.toml_parser.specs.Lexical.{Read, first, left_bracket, right_bracket, skip_blank, skip_ws}
use Rattle.toml_parser.specs.Strings.{Key, recursion_limit}
use Rattle.toml.specs.Data.{Data, Members, no_members, member, get_member, same_key}
use Rattle.toml.specs.Tables.{Definition, Document, Edit, Expression, Node, Nodes, Origin, no_nodes, node, value, open_table, open_array, implicit, dotted, header, key_value, std_table, array_table, along_dots, along_header, at_found, at_key, by_dot, by_header, close, close_node, define, define_as, dot_node, get_node, header_node, insert, new_node, put, redefine, replace}
use Rattle.toml.specs.Parse.{after_byte, ends_line, expression, header_key, key_equals, keyval, line, lines, parse_document, read_map, skip_bom, val}
use Rattle.pm_upgrade.proofs.SmallText.{IsSmall, Each, Every, each-none, each-some, each-if, each-map, each-any, each-then, val-small}

-- the values among these are small
abbrev pub AreSmall : Members → Type 0
AreSmall no_members = Unit {0}
AreSmall (member k d ms) = IsSmall d × AreSmall ms

abbrev IsSmallNode : Node → Type 0
IsSmallNode (value d) = IsSmall d
IsSmallNode (open_table origin ns) = Unit {0}
IsSmallNode (open_array done ns) = Unit {0}

abbrev SmallNodes : Nodes → Type 0
SmallNodes no_nodes = Unit {0}
SmallNodes (node k x ns) = IsSmallNode x × SmallNodes ns

abbrev IsSmallDefinition : Definition → Type 0
IsSmallDefinition (key_value d) = IsSmall d
IsSmallDefinition std_table = Unit {0}
IsSmallDefinition array_table = Unit {0}

closed-node : (x : Node) → IsSmallNode x → IsSmall (close_node x)
closed-node (value d) h = h
closed-node (open_table origin ns) h = tt
closed-node (open_array done ns) h = tt

closed : (ns : Nodes) → SmallNodes ns → AreSmall (close ns)
closed no_nodes h = tt
closed (node k x ns) h = (closed-node x h.0, closed ns h.1)

inserted : (k : List ℕ) (x : Node) (ns : Nodes) → IsSmallNode x → SmallNodes ns → SmallNodes (insert k x ns)
inserted k x no_nodes hx h = (hx, tt)
inserted k x (node l y ns) hx h = pick (slice_cmp nat_cmp k l) (inserted k x ns hx h.1)
  where
    pick : (o : Ordering) → SmallNodes (insert k x ns) → SmallNodes (match_ordering o (node k x (node l y ns)) (node l x ns) (node l y (insert k x ns)))
    pick Less more = (hx, h)
    pick Equal more = (hx, h.1)
    pick Greater more = (h.0, more)

replaced : (k : List ℕ) (x : Node) (ns : Nodes) → IsSmallNode x → SmallNodes ns → SmallNodes (replace k x ns)
replaced k x no_nodes hx h = tt
replaced k x (node l y ns) hx h = pick (same_key k l) (replaced k x ns hx h.1)
  where
    pick : (b : Bool) → SmallNodes (replace k x ns) → SmallNodes (if b then node l x ns else node l y (replace k x ns))
    pick true more = (hx, h.1)
    pick false more = (h.0, more)

-- nodes that are made of one another
every-nodes : {A : Type 0} (f : A → Nodes) (o : Option A) → ((x : A) → SmallNodes (f x)) → Every SmallNodes (option_map f o)
unfolding Every
every-nodes f None g = tt
every-nodes f (Some x) g = g x

every-through : {A : Type 0} (P : A → Type 0) (f : A → Nodes) (o : Option A) → Every P o → ((x : A) → P x → SmallNodes (f x)) → Every SmallNodes (option_map f o)
unfolding Every
every-through P f None h g = tt
every-through P f (Some x) h g = g x h

opened : (f : Nodes → Node) → ((ns : Nodes) → IsSmallNode (f ns)) → (o : Option Nodes) → Every IsSmallNode (option_map f o)
unfolding Every
opened f g None = tt
opened f g (Some ns) = g ns

no-node : Every IsSmallNode None
unfolding Every
no-node = tt

header-small : (edit : Edit) (x : Node) → Every IsSmallNode (header_node edit x)
header-small edit (value d) = no-node
header-small edit (open_table origin inner) = opened (open_table origin) (λ _. tt) (edit inner)
header-small edit (open_array done last) = opened (open_array done) (λ _. tt) (edit last)

dot-small : (edit : Edit) (x : Node) → Every IsSmallNode (dot_node edit x)
dot-small edit (value d) = no-node
dot-small edit (open_table header inner) = no-node
dot-small edit (open_table implicit inner) = opened (open_table dotted) (λ _. tt) (edit inner)
dot-small edit (open_table dotted inner) = opened (open_table dotted) (λ _. tt) (edit inner)
dot-small edit (open_array done last) = no-node

by-header-small : (k : List ℕ) (edit : Edit) (ns : Nodes) (o : Option Node) → SmallNodes ns → Every SmallNodes (by_header k edit ns o)
by-header-small k edit ns None h = every-nodes (λ new. insert k (open_table implicit new) ns) (edit no_nodes) (λ new. inserted k (open_table implicit new) ns tt h)
by-header-small k edit ns (Some x) h = every-through IsSmallNode (λ new. replace k new ns) (header_node edit x) (header-small edit x) (λ new g. replaced k new ns g h)

by-dot-small : (k : List ℕ) (edit : Edit) (ns : Nodes) (o : Option Node) → SmallNodes ns → Every SmallNodes (by_dot k edit ns o)
by-dot-small k edit ns None h = every-nodes (λ new. insert k (open_table dotted new) ns) (edit no_nodes) (λ new. inserted k (open_table dotted new) ns tt h)
by-dot-small k edit ns (Some x) h = every-through IsSmallNode (λ new. replace k new ns) (dot_node edit x) (dot-small edit x) (λ new g. replaced k new ns g h)

redefined : (what : Definition) (x : Node) → Every IsSmallNode (redefine what x)
unfolding Every
redefined (key_value d) (value e) = tt
redefined (key_value d) (open_table implicit inner) = tt
redefined (key_value d) (open_table dotted inner) = tt
redefined (key_value d) (open_table header inner) = tt
redefined (key_value d) (open_array done last) = tt
redefined std_table (value e) = tt
redefined std_table (open_table implicit inner) = tt
redefined std_table (open_table dotted inner) = tt
redefined std_table (open_table header inner) = tt
redefined std_table (open_array done last) = tt
redefined array_table (value e) = tt
redefined array_table (open_table implicit inner) = tt
redefined array_table (open_table dotted inner) = tt
redefined array_table (open_table header inner) = tt
redefined array_table (open_array done last) = tt

new-small : (what : Definition) → IsSmallDefinition what → IsSmallNode (new_node what)
new-small (key_value d) h = h
new-small std_table h = tt
new-small array_table h = tt

every-one : (ns : Nodes) → SmallNodes ns → Every SmallNodes (Some ns)
unfolding Every
every-one ns h = h

at-found-small : (k : List ℕ) (what : Definition) (ns : Nodes) (o : Option Node) → IsSmallDefinition what → SmallNodes ns → Every SmallNodes (at_found k what ns o)
at-found-small k what ns None small h = every-one _ (inserted k (new_node what) ns (new-small what small) h)
at-found-small k what ns (Some x) small h = every-through IsSmallNode (λ y. replace k y ns) (redefine what x) (redefined what x) (λ y g. replaced k y ns g h)

at-key-small : (k : List ℕ) (what : Definition) (ns : Nodes) → IsSmallDefinition what → SmallNodes ns → Every SmallNodes (at_key k what ns)
unfolding at_key
at-key-small k what ns small h = at-found-small k what ns (get_node k ns) small h

put-small : (path : List (List ℕ)) (k : List ℕ) (d : Data) (ns : Nodes) → IsSmall d → SmallNodes ns → Every SmallNodes (along_dots path (at_key k (key_value d)) ns)
unfolding along_dots
put-small [] k d ns small h = at-key-small k (key_value d) ns small h
put-small (l ∷ path) k d ns small h = by-dot-small l (along_dots path (at_key k (key_value d))) ns (get_node l ns) h

header-path-small : (path : List (List ℕ)) (edit : Edit) (ns : Nodes) → (SmallNodes ns → Every SmallNodes (edit ns)) → SmallNodes ns → Every SmallNodes (along_header path edit ns)
unfolding along_header
header-path-small [] edit ns g h = g h
header-path-small (l ∷ path) edit ns g h = by-header-small l (along_header path edit) ns (get_node l ns) h

abbrev SmallDocument : Document → Type 0
SmallDocument doc = SmallNodes doc.0

with-path : (path : List (List ℕ)) (o : Option Nodes) → Every SmallNodes o → Every SmallDocument (option_map (λ root. (root, path)) o)
unfolding Every
with-path path None h = tt
with-path path (Some ns) h = h

define-as-small : (doc : Document) (key : Key) (what : Definition) → IsSmallDefinition what → SmallDocument doc → Every SmallDocument (define_as doc key what)
define-as-small doc key (key_value d) small h =
    with-path doc.1 _ (header-path-small doc.1 (put key d) doc.0 (λ g. put-small key.0 key.1 d doc.0 small g) h)
define-as-small doc key std_table small h =
    with-path _ _ (header-path-small key.0 (at_key key.1 std_table) doc.0 (λ g. at-key-small key.1 std_table doc.0 tt g) h)
define-as-small doc key array_table small h =
    with-path _ _ (header-path-small key.0 (at_key key.1 array_table) doc.0 (λ g. at-key-small key.1 array_table doc.0 tt g) h)

define-small : (doc : Document) (e : Expression) → IsSmallDefinition e.1 → SmallDocument doc → Every SmallDocument (define doc e)
unfolding define
define-small doc e small h = define-as-small doc e.0 e.1 small h

-- what a line defines is small
abbrev SmallExpression : Expression → Type 0
SmallExpression e = IsSmallDefinition e.1

keyval-small : (text : List ℕ) → Each (λ (p : Key × Data). IsSmall p.1) (keyval (val recursion_limit) text)
keyval-small text =
    each-then (λ (p : Key × Data). IsSmall p.1) (key_equals text) _ (λ k.
    each-map IsSmall (λ (p : Key × Data). IsSmall p.1) (λ d. (k.0, d)) (val recursion_limit k.1) (val-small recursion_limit k.1) (λ d h. h))

rest-small : (k : Key) (o : Option (List ℕ)) → Each SmallExpression (option_map (λ rest. ((k, array_table), rest)) o)
unfolding Each
rest-small k None = tt
rest-small k (Some rest) = tt

expression-small : (text : List ℕ) → Each SmallExpression (expression text)
unfolding expression
expression-small text =
    let doubled = option_and_then (λ k. option_map (λ rest. ((k.0, array_table), rest)) (after_byte right_bracket k.1)) (header_key (drop 2 text)) in
    let single = read_map (λ k. (k, std_table)) (header_key (drop 1 text)) in
    let pair = read_map (λ p. (p.0, key_value p.1)) (keyval (val recursion_limit) text) in
    let rest : Read Expression = if first text == left_bracket then single else pair in
    each-if SmallExpression (first text == left_bracket && slice_index text 1 == left_bracket) doubled rest
    (each-then SmallExpression (header_key (drop 2 text)) (λ k. option_map (λ rest. ((k.0, array_table), rest)) (after_byte right_bracket k.1)) (λ k. rest-small k.0 (after_byte right_bracket k.1)))
    (each-if SmallExpression (first text == left_bracket) single pair (each-any SmallExpression (λ k. (k, std_table)) (header_key (drop 1 text)) (λ k. tt))
    (each-map (λ (p : Key × Data). IsSmall p.1) SmallExpression (λ p. (p.0, key_value p.1)) (keyval (val recursion_limit) text) (keyval-small text) (λ p h. h)))

each-bind : {A B : Type 0} (P : A → Type 0) (Q : B → Type 0) (r : Read A) (k : A × List ℕ → Option B) → Each P r → ((x : A) (rest : List ℕ) → P x → Every Q (k (x, rest))) → Every Q (option_and_then k r)
unfolding Each Every
each-bind P Q None k h g = tt
each-bind P Q (Some p) k h g = g p.0 p.1 h

line-kept : (b : Bool) (e : Expression) (rest : List ℕ) → SmallExpression e → Each SmallExpression (if b then Some (e, rest) else None)
line-kept true e rest h = each-some SmallExpression e rest h
line-kept false e rest h = each-none SmallExpression

each-each : {A B : Type 0} (P : A → Type 0) (Q : B → Type 0) (r : Read A) (k : A × List ℕ → Read B) → Each P r → ((x : A) (rest : List ℕ) → P x → Each Q (k (x, rest))) → Each Q (option_and_then k r)
unfolding Each
each-each P Q None k h g = tt
each-each P Q (Some p) k h g = g p.0 p.1 h

line-small : (text : List ℕ) → Each SmallExpression (line text)
unfolding line
line-small text =
    each-each SmallExpression SmallExpression (expression text) (λ e. if ends_line (skip_ws e.1) then Some e else None) (expression-small text)
    (λ e rest h. line-kept (ends_line (skip_ws rest)) e rest h)

every-bind : {A B : Type 0} (P : A → Type 0) (Q : B → Type 0) (o : Option A) (k : A → Option B) → Every P o → ((x : A) → P x → Every Q (k x)) → Every Q (option_and_then k o)
unfolding Every
every-bind P Q None k h g = tt
every-bind P Q (Some x) k h g = g x h

no-document : Every SmallDocument None
unfolding Every
no-document = tt

the-document : (doc : Document) → SmallDocument doc → Every SmallDocument (Some doc)
unfolding Every
the-document doc h = h

either-document : (b : Bool) (o u : Option Document) → Every SmallDocument o → Every SmallDocument u → Every SmallDocument (if b then o else u)
either-document true o u h g = h
either-document false o u h g = g

lines-small : (n : ℕ) (doc : Document) (text : List ℕ) → SmallDocument doc → Every SmallDocument (lines n doc text)
unfolding lines
lines-small zero doc text h = no-document
lines-small (suc n) doc text h =
    let start = skip_blank text in
    let on = λ (e : Expression × List ℕ). option_and_then (λ next. lines n next e.1) (define doc e.0) in
    either-document (length start == 0) (Some doc) (option_and_then on (line start)) (the-document doc h)
    (each-bind SmallExpression SmallDocument (line start) on (line-small start) (λ e rest small.
    every-bind SmallDocument SmallDocument (define doc e) (λ next. lines n next rest) (define-small doc e small h) (λ next g. lines-small n next rest g)))

closed-document : (o : Option Document) (root : Members) → Every SmallDocument o → option_map (λ doc. close doc.0) o ≡ Some root → AreSmall root
unfolding Every
closed-document None root h e = absurd (cc)
closed-document (Some doc) root h e = subst AreSmall (same_Some _ _ e) (closed doc.0 h)

pub document-small : (text : List ℕ) (root : Members) → parse_document text ≡ Some root → AreSmall root
unfolding parse_document
document-small text root e = closed-document (lines (suc (length text)) (no_nodes, []) (skip_bom text)) root (lines-small (suc (length text)) (no_nodes, []) (skip_bom text) tt) e

pub got-small : (k : List ℕ) (ms : Members) (d : Data) → get_member k ms ≡ Some d → AreSmall ms → IsSmall d
got-small k no_members d e h = absurd (cc)
got-small k (member l x ms) d e h = pick (slice_cmp nat_cmp k l) (λ g. got-small k ms d g h.1) e
  where
    pick : (o : Ordering) → (get_member k ms ≡ Some d → IsSmall d) → match_ordering o (get_member k ms) (Some x) (get_member k ms) ≡ Some d → IsSmall d
    pick Less more g = more g
    pick Equal more g = subst IsSmall (same_Some _ _ g) h.0
    pick Greater more g = more g
