-- Any parts as a record, and a record's parts as the same record.
use Rattle.std.proofs.Common.{◌≡◌, List, [], ◌∷◌, map, refl, ap, ◌∙◌}
use Rattle.pm_base.specs.declared.rows.CutRow.{CutRow}
use Rattle.pm_base.specs.declared.rows.Parts.{Parts}
use Rattle.pm_base.specs.declared.rows.PutRow.{PutRow}
use Rattle.pm_periods.specs.Records.{IsSettled, parts_in_order, record_value, settled, with_present_hits}
use Rattle.pm_periods.specs.Rows.{cut_key, put_key, read_key}
use Rattle.pm_periods.specs.Walks.{held_row, marked}
use Rattle.pm_periods.proofs.Hits.{hits_set, with_hit-all, with_hit_distinct, with_hit_in_order}
use Rattle.pm_periods.proofs.Numbers.{rows_in_order-distinct, rows_in_order-in_order}
use Rattle.pm_periods.proofs.Ordered.{rows_in_order_same}

pub settled-settled : (r : Parts) → IsSettled (settled r)
settled-settled r = let o = parts_in_order r in record {
  puts = rows_in_order-in_order put_key r.puts;
  cuts = rows_in_order-in_order cut_key r.cuts;
  reads = with_hit_in_order (record_value o) o.reads (rows_in_order-in_order read_key r.reads);
  puts_once = rows_in_order-distinct put_key r.puts;
  cuts_once = rows_in_order-distinct cut_key r.cuts;
  reads_once = with_hit_distinct (record_value o) o.reads (rows_in_order-distinct read_key r.reads);
  hits = hits_set (record_value o) o.reads;
}

-- bringing a settled record into order changes nothing
pub settled-same : (r : Parts) → IsSettled r → settled r ≡ r
settled-same r s = ap with_present_hits same ∙ ap (λ qs. record { base = r.base; puts = r.puts; cuts = r.cuts; reads = qs }) (with_hit-all (record_value r) r.reads s.hits)
  where
    same : parts_in_order r ≡ r
    same =
        let a = rows_in_order_same put_key r.puts s.puts s.puts_once in
        let b = rows_in_order_same cut_key r.cuts s.cuts s.cuts_once in
        let c = rows_in_order_same read_key r.reads s.reads s.reads_once in
        λ i. record { base = r.base; puts = a i; cuts = b i; reads = c i }

pub rows_of_marked : (cuts : List CutRow) (ps : List PutRow) → map held_row (map (marked cuts) ps) ≡ ps
rows_of_marked cuts [] = refl
rows_of_marked cuts (p ∷ ps) = ap (λ z. p ∷ z) (rows_of_marked cuts ps)
