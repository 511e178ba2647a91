-- A document has no more elements than its text has bytes.
use Rattle.std.proofs.Common.{◌≡◌, refl, arith, ℕ, zero, suc, ◌+◌, ◌≤◌, ◌==◌, Bool, true, false, ◌&&◌, List, [], length, drop, Option, Some, None, option_map, option_and_then}
use Rattle.std.proofs.lemmas.Bool.{and_parts}
use Rattle.std.specs.Prelude.{if◌then◌else◌, slice_index}
use Rattle.toml_parser.specs.Lexical.{Read, first, skip_ws, skip_blank, left_bracket, right_bracket, left_brace, right_brace}
use Rattle.toml_parser.specs.Strings.{key, starts_string, quoted, recursion_limit}
use Rattle.toml_parser.specs.Numbers.{unquoted}
use Rattle.toml_parser.specs.declared.scalar.Scalar.{Scalar}
use Rattle.toml_parser.specs.declared.scalar.Scalar.TheVariants.{Boolean, Integer, Float, Datetime}
use Rattle.toml.specs.Data.{Data, string, array, table, no_items, Members}
use Rattle.toml.specs.Tables.{Nodes, no_nodes, close, key_value, std_table, array_table, Expression, put, Document, define}
use Rattle.toml.specs.Parse.{read_map, after_byte, after_element, keyval, items, members, scalar_data, atom, val, header_key, expression, ends_line, line, lines, skip_bom, parse_document}
use Rattle.pm_scenario.proofs.Sizes.{size, items_size, members_size, nodes_size}
use Rattle.pm_scenario.proofs.TextSizes.{Costs, free, one, costs_none, costs_some, costs_more, costs_map, costs_then, costs_if, shorter_if, dropped, first_there, twice, blank, ws, quoted_costs, unquoted_costs, key_costs, byte_costs, charge, pair_charge, keyval_costs, element_then, items_costs}
use Rattle.pm_scenario.proofs.NodeSizes.{Adds, adds_none, adds_some, close_size, definition_size, put_grows, document_nodes, define_adds}

costs_bind : {A B : Type 0} (w : A → ℕ) (v : B → ℕ) (n m : ℕ) (o : Option A) (k : A → Read B) → Adds w n o → ((x : A) → w x ≤ n → Costs v m (k x)) → Costs v m (option_and_then k o)
unfolding Adds
costs_bind w v n m None k a h = costs_none v m
costs_bind w v n m (Some x) k a h = h x a

members_costs : (v : List ℕ → Read Data) → ((text : List ℕ) → Costs charge (length text) (v text)) → (n : ℕ) (found : Nodes) (text : List ℕ) →
    Costs members_size (nodes_size found + length text) (members v n found text)
unfolding members
members_costs v costs zero found text = costs_none _ _
members_costs v costs (suc n) found text =
    costs_if members_size (nodes_size found + length text) (first (skip_blank text) == right_brace) (Some (close found, drop 1 (skip_blank text)))
    (option_and_then (λ e. option_and_then (λ more. option_and_then (members v n more) (after_element right_brace e.1)) (put e.0.0 e.0.1 found)) (keyval v (skip_blank text)))
    (λ _. costs_some _ _ _ _ (let a = dropped 1 (skip_blank text) in let b = blank text in let c = close_size found in omega (arith, a, b, c)))
    (λ _. costs_then pair_charge members_size (length (skip_blank text)) (nodes_size found + length text) (keyval v (skip_blank text))
    (λ e. option_and_then (λ more. option_and_then (members v n more) (after_element right_brace e.1)) (put e.0.0 e.0.1 found)) (keyval_costs v costs (skip_blank text))
    (λ e fits. costs_bind nodes_size members_size (nodes_size found + size e.0.1) (nodes_size found + length text) (put e.0.0 e.0.1 found)
    (λ more. option_and_then (members v n more) (after_element right_brace e.1)) (put_grows e.0.0 e.0.1 found)
    (λ more grown. element_then members_size (nodes_size found + length text) right_brace e.1 (members v n more)
    (λ rest short. costs_more members_size (nodes_size more + length rest) (nodes_size found + length text) _
    (let b = blank text in omega (arith, b, fits, grown, short)) (members_costs v costs n more rest)))))

scalar_charge : (x : Scalar) → charge (scalar_data x) ≡ 1
scalar_charge (Boolean b) = refl
scalar_charge (Integer z) = refl
scalar_charge (Float f) = refl
scalar_charge (Datetime t) = refl

atom_costs : (text : List ℕ) → Costs charge (length text) (atom text)
unfolding atom
atom_costs text =
    costs_if charge (length text) (starts_string text) (read_map string (quoted text)) (read_map scalar_data (unquoted text))
    (λ h. costs_map string charge one (length text) (length text) (quoted text) (λ _. omega arith) (quoted_costs text h))
    (λ _. costs_map scalar_data charge one (length text) (length text) (unquoted text) (λ x. let k = scalar_charge x in omega (arith, k)) (unquoted_costs text))

val_costs : (depth : ℕ) (text : List ℕ) → Costs charge (length text) (val depth text)
unfolding val
val_costs zero text = atom_costs text
val_costs (suc depth) text =
    costs_if charge (length text) (first text == left_bracket) (read_map array (items (val depth) (length text) no_items (drop 1 text)))
    (if first text == left_brace then read_map table (members (val depth) (length text) no_nodes (drop 1 text)) else atom text)
    (λ h. costs_map array charge items_size (0 + length (drop 1 text)) (length text) _ (λ _. let k = first_there 91 text (omega arith) h in omega (arith, k))
    (items_costs (val depth) (val_costs depth) (length text) no_items (drop 1 text)))
    (λ _. costs_if charge (length text) (first text == left_brace) (read_map table (members (val depth) (length text) no_nodes (drop 1 text))) (atom text)
    (λ h. costs_map table charge members_size (0 + length (drop 1 text)) (length text) _ (λ _. let k = first_there 123 text (omega arith) h in omega (arith, k))
    (members_costs (val depth) (val_costs depth) (length text) no_nodes (drop 1 text)))
    (λ _. atom_costs text))

header_key_costs : (text : List ℕ) → Costs free (length text) (header_key text)
unfolding header_key
header_key_costs text =
    costs_then free free (length (skip_ws text)) (length text) (key (skip_ws text)) (λ k. option_map (λ rest. (k.0, rest)) (after_byte right_bracket k.1)) (key_costs (skip_ws text))
    (λ p h. byte_costs free p.0 (λ t. t) (λ t. omega arith) right_bracket p.1 (length text) (let a = ws text in omega (arith, a, h)))

abbrev expression_size : Expression → ℕ
expression_size e = definition_size e.1

expression_costs : (text : List ℕ) → Costs expression_size (length text) (expression text)
unfolding expression
expression_costs text =
    costs_if expression_size (length text) (first text == left_bracket && slice_index text 1 == left_bracket)
    (option_and_then (λ k. option_map (λ rest. ((k.0, array_table), rest)) (after_byte right_bracket k.1)) (header_key (drop 2 text)))
    (if first text == left_bracket then read_map (λ k. (k, std_table)) (header_key (drop 1 text)) else read_map (λ p. (p.0, key_value p.1)) (keyval (val recursion_limit) text))
    (λ h. costs_then free expression_size (length (drop 2 text)) (length text) (header_key (drop 2 text)) (λ k. option_map (λ rest. ((k.0, array_table), rest)) (after_byte right_bracket k.1))
    (header_key_costs (drop 2 text))
    (λ p fits. byte_costs expression_size (p.0, array_table) (λ t. t) (λ t. omega arith) right_bracket p.1 (length text)
    (let both = and_parts (first text == left_bracket) (slice_index text 1 == left_bracket) h in
    let a = first_there 91 text (omega arith) both.0 in let b = twice text in omega (arith, a, b, fits))))
    (λ _. costs_if expression_size (length text) (first text == left_bracket) (read_map (λ k. (k, std_table)) (header_key (drop 1 text))) (read_map (λ p. (p.0, key_value p.1)) (keyval (val recursion_limit) text))
    (λ _. costs_map (λ k. (k, std_table)) expression_size free (length (drop 1 text)) (length text) (header_key (drop 1 text)) (λ _. let a = dropped 1 text in omega (arith, a)) (header_key_costs (drop 1 text)))
    (λ _. costs_map (λ p. (p.0, key_value p.1)) expression_size pair_charge (length text) (length text) (keyval (val recursion_limit) text) (λ _. omega arith)
    (keyval_costs (val recursion_limit) (val_costs recursion_limit) text)))

line_costs : (text : List ℕ) → Costs expression_size (length text) (line text)
unfolding line
line_costs text =
    costs_then expression_size expression_size (length text) (length text) (expression text) (λ e. if ends_line (skip_ws e.1) then Some e else None) (expression_costs text)
    (λ p h. costs_if expression_size (length text) (ends_line (skip_ws p.1)) (Some p) None (λ _. costs_some expression_size (length text) p.0 p.1 h) (λ _. costs_none _ _))

adds_if : {A : Type 0} (w : A → ℕ) (n : ℕ) (b : Bool) (r s : Option A) → Adds w n r → Adds w n s → Adds w n (if b then r else s)
adds_if w n true r s h k = h
adds_if w n false r s h k = k

adds_after : {A B : Type 0} (w : A → ℕ) (v : B → ℕ) (n m : ℕ) (r : Read A) (k : A × List ℕ → Option B) → Costs w n r → ((p : A × List ℕ) → w p.0 + length p.1 ≤ n → Adds v m (k p)) →
    Adds v m (option_and_then k r)
unfolding Costs
adds_after w v n m None k c h = adds_none v m
adds_after w v n m (Some p) k c h = h p c

adds_bind : {A B : Type 0} (w : A → ℕ) (v : B → ℕ) (n m : ℕ) (o : Option A) (k : A → Option B) → Adds w n o → ((x : A) → w x ≤ n → Adds v m (k x)) → Adds v m (option_and_then k o)
unfolding Adds
adds_bind w v n m None k a h = tt
adds_bind w v n m (Some x) k a h = h x a

adds_more : {A : Type 0} (w : A → ℕ) (n m : ℕ) (o : Option A) → n ≤ m → Adds w n o → Adds w m o
unfolding Adds
adds_more w n m None h a = tt
adds_more w n m (Some x) h a = omega (arith, h, a)

lines_adds : (n : ℕ) (doc : Document) (text : List ℕ) → Adds document_nodes (document_nodes doc + length text) (lines n doc text)
unfolding lines
lines_adds zero doc text = adds_none _ _
lines_adds (suc n) doc text =
    adds_if document_nodes (document_nodes doc + length text) (length (skip_blank text) == 0) (Some doc)
    (option_and_then (λ e. option_and_then (λ next. lines n next e.1) (define doc e.0)) (line (skip_blank text)))
    (adds_some document_nodes (document_nodes doc + length text) doc (omega arith))
    (adds_after expression_size document_nodes (length (skip_blank text)) (document_nodes doc + length text) (line (skip_blank text))
    (λ e. option_and_then (λ next. lines n next e.1) (define doc e.0)) (line_costs (skip_blank text))
    (λ e fits. adds_bind document_nodes document_nodes (document_nodes doc + definition_size e.0.1) (document_nodes doc + length text) (define doc e.0) (λ next. lines n next e.1) (define_adds doc e.0)
    (λ next grown. adds_more document_nodes (document_nodes next + length e.1) (document_nodes doc + length text) (lines n next e.1)
    (let b = blank text in omega (arith, b, fits, grown)) (lines_adds n next e.1))))

without_bom : (text : List ℕ) → length (skip_bom text) ≤ length text
unfolding skip_bom
without_bom text =
    shorter_if (length text) ((first text == 0xEF && slice_index text 1 == 0xBB) && slice_index text 2 == 0xBF) (drop 3 text) text (dropped 3 text) (omega arith)

closed : (o : Option Document) (n : ℕ) (root : Members) → Adds document_nodes n o → option_map (λ doc. close doc.0) o ≡ Some root → members_size root ≤ n
unfolding Adds
closed None n root a e = absurd (cc)
closed (Some doc) n root a e =
    let same : close doc.0 ≡ root = cc in
    let c = close_size doc.0 in
    rw (← same) (omega (arith, a, c))

pub document_size : (text : List ℕ) (root : Members) → parse_document text ≡ Some root → members_size root ≤ length text
unfolding parse_document
document_size text root e =
    let most = closed (lines (suc (length text)) (no_nodes, []) (skip_bom text)) (0 + length (skip_bom text)) root (lines_adds (suc (length text)) (no_nodes, []) (skip_bom text)) e in
    let k = without_bom text in
    omega (arith, most, k)
