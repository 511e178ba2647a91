-- A record that receives rows one after another is the settled one of them.
use Rattle.std.proofs.Common.{◌≡◌, ℕ, false, cond, ◌||◌, List, [], ◌∷◌, map, refl, ap, ap₂, ◌∙◌}
use Rattle.std.specs.List.{AllByRecursion}
use Rattle.std.proofs.lemmas.Bool.{or_parts}
use Rattle.pm_base.specs.Stamps.{num_eq}
use Rattle.pm_base.specs.declared.rows.CutRow.{CutRow}
use Rattle.pm_base.specs.declared.rows.Parts.{Parts}
use Rattle.pm_base.specs.declared.rows.PutRow.{PutRow}
use Rattle.pm_base.specs.declared.rows.ReadRow.{ReadRow}
use Rattle.pm_base.specs.declared.value.Value.{Value}
use Rattle.pm_periods.specs.Received.{cuts_received, puts_received, reads_entered}
use Rattle.pm_periods.specs.Records.{IsSettled, Record, empty_record, parts_in_order, record_hit, record_value, record_with, refreshed, settled, with_cut, with_hit, with_parts, with_put, with_read}
use Rattle.pm_periods.specs.Rows.{AreDistinct, add_row, add_rows, cut_key, has_num, put_key, read_key, rows_in_order}
use Rattle.pm_periods.specs.declared.rows.RowKey.{RowKey}
use Rattle.pm_periods.proofs.Hits.{with_hit_in_order}
use Rattle.pm_periods.proofs.Keys.{num_eq-flip}
use Rattle.pm_periods.proofs.Numbers.{rows_in_order-distinct, rows_in_order-in_order}
use Rattle.pm_periods.proofs.Ordered.{add_row-distinct, add_row-in_order, add_rows_same, each_row, has_num-add_row}
use Rattle.pm_periods.proofs.Wholes.{each_all}

abbrev Fresh : {X : Type 0} → (X → RowKey) → List X → List X → Type 0
Fresh key done xs = AllByRecursion (λ x. has_num key (key x).num done ≡ false) xs

pub fresh_on : {X : Type 0} (key : X → RowKey) (x : X) (done xs : List X) → has_num key (key x).num xs ≡ false → AllByRecursion (λ y. has_num key (key y).num done ≡ false) xs → AllByRecursion (λ y. has_num key (key y).num (add_row key x done) ≡ false) xs
fresh_on key x done [] e a = tt
fresh_on key x done (y ∷ ys) e a =
    let o = or_parts (num_eq (key x).num (key y).num) (has_num key (key x).num ys) e in
    (has_num-add_row key (key y).num x done ∙ ap₂ (λ p q. p || q) (num_eq-flip (key x).num (key y).num o.0) a.0, fresh_on key x done ys o.1 a.1)

abbrev plain : Value → List PutRow → List CutRow → Parts
plain b ps cs = record { base = b; puts = ps; cuts = cs; reads = [] }

cuts_plain : (b : Value) (ps : List PutRow) (done cs : List CutRow) → AreDistinct cut_key cs → Fresh cut_key done cs → cuts_received cs (plain b ps done) ≡ plain b ps (add_rows cut_key done cs)
cuts_plain b ps done [] d f = refl
cuts_plain b ps done (c ∷ cs) d f =
    ap (λ z. cuts_received cs (cond z (plain b ps done) (refreshed (with_cut c (plain b ps done))))) f.0
    ∙ cuts_plain b ps (add_row cut_key c done) cs d.1 (fresh_on cut_key c done cs d.0 f.1)

puts_plain : (b : Value) (done ps : List PutRow) (cs : List CutRow) → AreDistinct put_key ps → Fresh put_key done ps → puts_received ps (plain b done cs) ≡ plain b (add_rows put_key done ps) cs
puts_plain b done [] cs d f = refl
puts_plain b done (p ∷ ps) cs d f =
    ap (λ z. puts_received ps (cond z (plain b done cs) (refreshed (with_put p (plain b done cs))))) f.0
    ∙ puts_plain b (add_row put_key p done) ps cs d.1 (fresh_on put_key p done ps d.0 f.1)

reads_plain : (qs : List ReadRow) (r : Parts) → reads_entered qs r ≡ record { base = r.base; puts = r.puts; cuts = r.cuts; reads = add_rows read_key r.reads (map (with_hit (record_value r)) qs) }
reads_plain [] r = refl
reads_plain (q ∷ qs) r = reads_plain qs (with_read (with_hit (record_value r) q) r)

all_fresh : {X : Type 0} (key : X → RowKey) (xs : List X) → AllByRecursion (λ x. has_num key (key x).num [] ≡ false) xs
all_fresh key xs = each_all (λ x. has_num key (key x).num [] ≡ false) (λ x. refl) xs

pub received_whole : (var : ℕ) (r : Parts) (m0 m1 m2 m3 : Record) (cs : List CutRow) (ps : List PutRow) (qs : List ReadRow) → m0 ≡ empty_record var r.base
    → m1 ≡ with_parts m0 (cuts_received cs m0.parts) → cs ≡ rows_in_order cut_key r.cuts → m2 ≡ with_parts m1 (puts_received ps m1.parts) → ps ≡ rows_in_order put_key r.puts
    → m3 ≡ with_parts m2 (reads_entered qs m2.parts) → qs ≡ rows_in_order read_key r.reads → m3 ≡ record_with var (settled r)
received_whole var r m0 m1 m2 m3 cs ps qs e0 e1 is_cs e2 is_ps e3 is_qs =
    let C = rows_in_order cut_key r.cuts in
    let P = rows_in_order put_key r.puts in
    let R = rows_in_order read_key r.reads in
    let o = parts_in_order r in
    let one : m1 ≡ record_with var (plain r.base [] C) =
    e1 ∙ (ap₂ (λ m z. with_parts m (cuts_received z m.parts)) e0 is_cs ∙ ap (record_with var) (cuts_plain r.base [] [] C (rows_in_order-distinct cut_key r.cuts) (all_fresh cut_key C) ∙ ap (plain r.base []) (add_rows_same cut_key [] C (rows_in_order-in_order cut_key r.cuts)))) in
    let two : m2 ≡ record_with var (plain r.base P C) =
    e2 ∙ (ap₂ (λ m z. with_parts m (puts_received z m.parts)) one is_ps ∙ ap (record_with var) (puts_plain r.base [] P C (rows_in_order-distinct put_key r.puts) (all_fresh put_key P) ∙ ap (λ z. plain r.base z C) (add_rows_same put_key [] P (rows_in_order-in_order put_key r.puts)))) in
    let hits = with_hit_in_order (record_value o) R (rows_in_order-in_order read_key r.reads) in
    e3 ∙ (ap₂ (λ m z. with_parts m (reads_entered z m.parts)) two is_qs ∙ ap (record_with var) (reads_plain R (plain r.base P C) ∙ ap (λ z. record { base = r.base; puts = P; cuts = C; reads = z }) (add_rows_same read_key [] (map (with_hit (record_value o)) R) hits)))

pub entered-settled : (q : ReadRow) (r : Parts) → IsSettled r → q.hit ≡ record_hit r q → has_num read_key q.num r.reads ≡ false → IsSettled (with_read q r)
entered-settled q r s hit new = record {
  puts = s.puts;
  cuts = s.cuts;
  reads = add_row-in_order read_key q r.reads s.reads;
  puts_once = s.puts_once;
  cuts_once = s.cuts_once;
  reads_once = add_row-distinct read_key q r.reads new s.reads_once;
  hits = each_row read_key (λ (p : ReadRow). p.hit ≡ record_hit r p) q r.reads hit s.hits;
}
