-- What a step has asked is no more than its program has: its senses are the program's, in order.
use Rattle.std.proofs.Common.{◌≡◌, ℕ, zero, suc, ◌≤◌, List, [], ◌∷◌, ◌++◌, length, slice_get, drop, refl, arith, ap, sym, subst, Option, Some, None, ℤ}
use Rattle.pm_base.specs.declared.program.Sense.{Sense}
use Rattle.pm_base.specs.declared.program.Sense.TheVariants.{Read, Scan}
use Rattle.pm_base.specs.declared.program.SenseRow.{SenseRow}
use Rattle.pm_base.specs.declared.stamp.Stamp.{Stamp}
use Rattle.pm_base.specs.declared.value.Hit.{Hit}
use Rattle.pm_base.specs.declared.value.Query.{Query}
use Rattle.pm_saved.specs.Senses.{answer}
use Rattle.pm_saved.specs.declared.kept.KeptSense.{KeptSense}
use Rattle.pm_step.specs.Expressions.{Sight, sight}
use Rattle.pm_step.specs.Steps.{ask_or_act, query_of, step}
use Rattle.pm_step.specs.declared.Next.TheVariants as outcome
use Rattle.pm_alp.specs.Agents.{Rule, step_of}
use Rattle.pm_sim.specs.Sims.{Asked}
use Rattle.pm_cost.specs.Costs.{AsksNoMore, one_range, one_read, one_scan, one_single, ranges_of, reads_of, scans_of, singles_of}

-- an Ask is of the sense whose turn it is
asks_at : (r : Rule) (s : Stamp) (regs : List ℤ) (done : List (List Hit)) (q : Query)
    → step_of r s regs done ≡ outcome.Ask q
    → (row : SenseRow) × (slice_get r.program.senses (length done) ≡ Some row)
    × (q ≡ query_of (sight r.classes s regs done) row.sense)
unfolding step
asks_at r s regs done q e = go (slice_get r.program.senses (length done)) refl e
  where
    go : (o : Option SenseRow) → slice_get r.program.senses (length done) ≡ o
        → ask_or_act (sight r.classes s regs done) r.program o ≡ outcome.Ask q
        → (row : SenseRow) × (slice_get r.program.senses (length done) ≡ Some row)
        × (q ≡ query_of (sight r.classes s regs done) row.sense)
    go None f g = absurd (cc)
    go (Some row) f g = (row, f, (let h : query_of (sight r.classes s regs done) row.sense ≡ q = cc in sym h))

drop_next : (xs : List SenseRow) (n : ℕ) (x : SenseRow) → slice_get xs n ≡ Some x → drop n xs ≡ x ∷ drop (suc n) xs
drop_next [] n x e = absurd (cc)
drop_next (y ∷ xs) zero x e = (let f : y ≡ x = cc in ap (λ z. z ∷ xs) f)
drop_next (y ∷ xs) (suc n) x e = drop_next xs n x e

length_more : {X : Type 0} (xs : List X) (x : X) → length (xs ++ x ∷ []) ≡ suc (length xs)
length_more [] x = refl
length_more (y ∷ xs) x = ap suc (length_more xs x)

single_less : (g : Sight) (x : Sense) (n k : ℕ) → n ≤ k → one_single (query_of g x) n ≤ one_read x k
single_less g (Read place) n k le = omega (arith, le)
single_less g (Scan class x0 x1 y0 y1) n k le = le

range_less : (g : Sight) (x : Sense) (n k : ℕ) → n ≤ k → one_range (query_of g x) n ≤ one_scan x k
range_less g (Read place) n k le = le
range_less g (Scan class x0 x1 y0 y1) n k le = omega (arith, le)

-- of the senses that are left
asked_left : (r : Rule) (s : Stamp) (regs : List ℤ) (done : List (List Hit)) (xs : List KeptSense)
    → Asked r s regs done xs → (singles_of xs ≤ reads_of (drop (length done) r.program.senses))
    × (ranges_of xs ≤ scans_of (drop (length done) r.program.senses))
asked_left r s regs done [] a = (omega arith, omega arith)
asked_left r s regs done (x ∷ xs) a =
    let g : Sight = sight r.classes s regs done in
    let o = asks_at r s regs done x.query a.0 in
    let again = subst (λ n. (singles_of xs ≤ reads_of (drop n r.program.senses))
    × (ranges_of xs ≤ scans_of (drop n r.program.senses))) (length_more done (answer x.hits))
    (asked_left r s regs (done ++ answer x.hits ∷ []) xs a.1) in
    subst (λ ys. (one_single x.query (singles_of xs) ≤ reads_of ys) × (one_range x.query (ranges_of xs) ≤ scans_of ys))
    (sym (drop_next r.program.senses (length done) o.0 o.1))
    (subst (λ q. (one_single q (singles_of xs)
    ≤ one_read o.0.sense (reads_of (drop (suc (length done)) r.program.senses)))
    × (one_range q (ranges_of xs) ≤ one_scan o.0.sense (scans_of (drop (suc (length done)) r.program.senses))))
    (sym o.2)
    (single_less g o.0.sense _ _ again.0, range_less g o.0.sense _ _ again.1))

pub asks_no_more : (r : Rule) (s : Stamp) (regs : List ℤ) (xs : List KeptSense) → AsksNoMore r s regs xs
asks_no_more r s regs xs a = asked_left r s regs [] xs a
