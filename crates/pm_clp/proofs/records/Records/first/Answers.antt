use Rattle.std.proofs.Common.{ℕ, List, Option, None, false, get_or, ◌≡◌, ◌∙◌, ◌≤◌, ◌^◌, length, ap, sym, subst}
use Rattle.pm_clp.specs.Kept.{kept_of}
use Rattle.pm_clp.proofs.Keeping.{first_parts_of}
use Rattle.pm_periods.specs.Records.{Record}
use Rattle.pm_clp.specs.Laid.{in_set}
use Rattle.pm_clp.proofs.Slots.{first_few, first-laid}
use Rattle.pm_clp.proofs.records.Records.first.Goals as goal

pub taken-requires : goal.taken-requires
taken-requires c = first_few c.as_slice.result.now c.args.ways.now c.args.values.now (c.as_slice.ensures.value ∙ c.in_ok-each.ensures) c.requires.few

pub invariant_of-result : goal.invariant_of-result
invariant_of-result c =
    first-laid c.in_ok-each.each.items c.args.ways.now c.args.values.now (in_set c.in_ok-here.here) (in_set c.new-busy.result) c.in_ok-each.ensures c.requires.few
    (subst (λ (z : List (Option Record)). (v : ℕ) → in_set c.in_ok-here.here v ≡ false → get_or z v None ≡ None) c.as_slice.ensures.value c.in_ok-here.ensures)

pub returns : goal.returns
returns c =
    ap (λ z. kept_of z (2 ^ 32)) c.in_ok-each.ensures ∙ ap (λ z. record { recs = z; limit = 2 ^ 32 }) (first_parts_of 0 c.args.ways.now c.args.values.now)
