use Rattle.std.proofs.Common.{ap, sym, ◌∙◌, subst}
use Rattle.std.specs.BTreeMap.{get}
use Rattle.pm_periods.specs.Inner.{parts_of}
use Rattle.pm_periods.specs.Known.{AreKnown, num_cmp}
use Rattle.pm_periods.specs.Records.{IsSettled, Record, record_value, trimmed, with_parts}
use Rattle.pm_periods.proofs.Forgetting.{trim_whole}
use Rattle.pm_periods.proofs.Known.{known-trim}
use Rattle.pm_periods.proofs.Trimming.{trim_keeps, trimmed-settled}
use Rattle.pm_periods.proofs.record.VarRecord.trim.Goals as goal

pub invariant_of-self : goal.invariant_of-self
invariant_of-self c =
    let i = c.self.inside in
    let hs = i.periods.items in
    let ws = i.withdrawals.items in
    let whole =
    trim_whole c.args.line hs ws c.self.invariant.settled c.self.invariant.sound c.trim_periods.new.periods.items
    c.trim_periods.ensures c.trim_withdrawals.new.withdrawals.items c.trim_withdrawals.ensures in
    record {
      settled = subst IsSettled (sym whole.0) (trimmed-settled (parts_of i) c.args.line c.self.invariant.settled);
      sound = whole.1;
      known = subst (λ z. AreKnown z (get num_cmp c.forget_below.new.known) (get num_cmp c.forget_cuts.new.cuts)
          (get num_cmp c.forget_below-2.new.known)) (sym whole.0)
          (known-trim c.args.line (parts_of i) (get num_cmp i.put_stamps) (get num_cmp i.cut_stamps)
          (get num_cmp i.read_stamps)
          (get num_cmp c.forget_below.new.known) (get num_cmp c.forget_cuts.new.cuts)
          (get num_cmp c.forget_below-2.new.known)
          c.self.invariant.settled c.self.invariant.known c.forget_below.ensures c.forget_cuts.ensures
          c.forget_below-2.ensures);
    }

pub returns-clause-value : goal.returns-clause-value
returns-clause-value c =
    let i = c.self.inside in
    let hs = i.periods.items in
    let ws = i.withdrawals.items in
    let whole =
    trim_whole c.args.line hs ws c.self.invariant.settled c.self.invariant.sound c.trim_periods.new.periods.items
    c.trim_periods.ensures c.trim_withdrawals.new.withdrawals.items c.trim_withdrawals.ensures in
    ap (λ z. record { var = i.var; parts = z }) whole.0
    ∙ ap (λ (z : Record). with_parts z (trimmed c.args.line z.parts)) c.self.view_is

pub returns-clause-keeps : goal.returns-clause-keeps
returns-clause-keeps c s e =
    let i = c.self.inside in
    let hs = i.periods.items in
    let ws = i.withdrawals.items in
    let whole =
    trim_whole c.args.line hs ws c.self.invariant.settled c.self.invariant.sound c.trim_periods.new.periods.items
    c.trim_periods.ensures c.trim_withdrawals.new.withdrawals.items c.trim_withdrawals.ensures in
    ap (λ z. record_value z s) whole.0 ∙ (trim_keeps (parts_of i) c.args.line s c.self.invariant.settled.puts e
    ∙ ap (λ (z : Record). record_value z.parts s) c.self.view_is)
