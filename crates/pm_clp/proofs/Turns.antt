-- The turns of a record that comes.
use Rattle.std.proofs.Common.{◌≡◌, ℕ, ◌<◌, ◌≤◌, ◌^◌, Bool, true, false, ◌&&◌, nat_lt, List, [], ◌∷◌, map, refl, arith}
use Rattle.std.specs.List.{AllByRecursion, list_all}
use Rattle.std.proofs.lemmas.Bool.{cond_both, ltb-true}
use Rattle.pm_base.specs.declared.rows.Parts.{Parts}
use Rattle.pm_base.specs.declared.rows.ReadRow.{ReadRow}
use Rattle.pm_base.specs.declared.stamp.Stamp.{Stamp}
use Rattle.pm_base.specs.declared.value.Value.{Value}
use Rattle.pm_periods.specs.Records.{parts_in_order, record_value, settled, with_hit}
use Rattle.pm_periods.specs.Rows.{add_row, add_rows, differs_from, first_rows, key_lt, read_key, rows_in_order}
use Rattle.pm_periods.specs.declared.rows.RowKey.{RowKey}
use Rattle.pm_periods.proofs.Ordered.{each_filter}
use Rattle.pm_clp.specs.Kept.{TurnsUpTo}
use Rattle.pm_clp.specs.Takes.{has_low_turns}

-- what each of these rows is, each of them in order is
module _ {X : Type 0} (Q : X → Type 0) (key : X → RowKey) where
  each_add : (r : X) (xs : List X) → Q r → AllByRecursion Q xs → AllByRecursion Q (add_row key r xs)
  each_add r [] q a = (q, tt)
  each_add r (x ∷ xs) q a =
      let rest = each_add r xs q a.1 in
      cond_both (key_lt (key r) (key x)) (r ∷ (x ∷ xs)) (x ∷ add_row key r xs) (AllByRecursion Q) (λ _. (q, a))
      (λ _. (a.0, rest))

  each_adds : (done xs : List X) → AllByRecursion Q done → AllByRecursion Q xs → AllByRecursion Q (add_rows key done xs)
  each_adds done [] d a = d
  each_adds done (x ∷ xs) d a = each_adds (add_row key x done) xs (each_add x done a.0 d) a.1

  each_first : (xs : List X) → AllByRecursion Q xs → AllByRecursion Q (first_rows key xs)
  each_first [] a = tt
  each_first (x ∷ xs) a = (a.0, each_filter Q (differs_from key x) (first_rows key xs) (each_first xs a.1))

  each_in_order : (xs : List X) → AllByRecursion Q xs → AllByRecursion Q (rows_in_order key xs)
  each_in_order xs a = each_first (add_rows key [] xs) (each_adds [] xs tt a)

-- a settled record has the turns that came
pub settled_turns : (n : ℕ) (r : Parts) → TurnsUpTo n r → TurnsUpTo n (settled r)
settled_turns n r a = hits (record_value (parts_in_order r)) (rows_in_order read_key r.reads)
    (each_in_order (λ (q : ReadRow). q.turn ≤ n) read_key r.reads a)
  where
    hits : (sees : Stamp → Value) (qs : List ReadRow) → AllByRecursion (λ (q : ReadRow). q.turn ≤ n) qs
        → AllByRecursion (λ (q : ReadRow). q.turn ≤ n) (map (with_hit sees) qs)
    hits sees [] a = tt
    hits sees (q ∷ qs) a = (a.0, hits sees qs a.1)

-- both of two that are both true
pub both : (a b : Bool) → (a && b) ≡ true → (a ≡ true) × (b ≡ true)
both true b e = (refl, e)
both false b e = absurd (cc e)

-- turns of 32 bits are
pub low_turns : (r : Parts) → has_low_turns r ≡ true → TurnsUpTo (2 ^ 32) r
low_turns r e = each r.reads e
  where
    each : (qs : List ReadRow) → list_all (λ (q : ReadRow). nat_lt q.turn (2 ^ 32)) qs ≡ true
        → AllByRecursion (λ (q : ReadRow). q.turn ≤ 2 ^ 32) qs
    each [] e = tt
    each (q ∷ qs) e =
        let p = both (nat_lt q.turn (2 ^ 32)) (list_all (λ (q : ReadRow). nat_lt q.turn (2 ^ 32)) qs) e in
        let low : q.turn < 2 ^ 32 = ltb-true q.turn (2 ^ 32) p.0 in
        (omega arith, each qs p.1)
