use Rattle.std.proofs.Common.{◌≡◌, ◌∙◌, ap, sym, ℕ, true, false, drop, set}
use Rattle.pm_step.specs.Writes.{begins_with, place_of}
use Rattle.pm_step.proofs.Writes.{written-set, written-insert}
use Rattle.pm_step.proofs.steps.write.Goals as goal

pub returns-then-is_at : goal.returns-then-is_at
returns-then-is_at c =
    let place : c.place_of-at.result ≡ place_of c.args.write.var c.args.writes.now = rw c.as_slice.ensures at c.place_of-at.ensures.place in
    let there : begins_with c.args.write.var (drop (place_of c.args.write.var c.args.writes.now) c.args.writes.now) ≡ true =
    rw (c.as_slice-2.ensures, place) at (sym c.is_at.ensures ∙ c.if-is_at.true) in
    c.set.ensures ∙ ap (λ (k : ℕ). set c.args.writes.now k c.args.write) place ∙ written-set c.args.write c.args.writes.now c.requires there

pub returns-else-is_at : goal.returns-else-is_at
returns-else-is_at c =
    let place : c.place_of-at.result ≡ place_of c.args.write.var c.args.writes.now = rw c.as_slice.ensures at c.place_of-at.ensures.place in
    let there : begins_with c.args.write.var (drop (place_of c.args.write.var c.args.writes.now) c.args.writes.now) ≡ false =
    rw (c.as_slice-2.ensures, place) at (sym c.is_at.ensures ∙ c.if-is_at.false) in
    rw (place, written-insert c.args.write c.args.writes.now c.requires there) at c.insert.ensures.ok
