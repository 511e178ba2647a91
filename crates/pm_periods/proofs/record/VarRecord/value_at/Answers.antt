use Rattle.std.proofs.Common.{ap, sym, ◌∙◌}
use Rattle.pm_base.specs.declared.stamp.Line.TheVariants as line
use Rattle.pm_periods.specs.Laid.{base_of, puts_of, value_under}
use Rattle.pm_periods.specs.Records.{Record, record_value}
use Rattle.pm_periods.proofs.Wholes.{sound_sees}
use Rattle.pm_periods.proofs.record.VarRecord.value_at.Goals as goal

pub returns : goal.returns
returns c =
    let i = c.self.inside in
    c.value_at_line.ensures ∙ (ap (λ z. value_under (line.At c.args.s) (puts_of z) (base_of z)) c.as_slice.ensures.value
    ∙ (sym (sound_sees i.periods.items i.withdrawals.items c.self.invariant.sound (line.At c.args.s)) ∙ ap (λ (z : Record). record_value z.parts c.args.s) c.self.view_is))
