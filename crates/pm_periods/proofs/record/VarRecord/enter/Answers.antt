use Rattle.std.proofs.Common.{◌≡◌, false, ap, sym, ◌∙◌, subst}
use Rattle.std.specs.BTreeMap.{get}
use Rattle.pm_periods.specs.Inner.{parts_of}
use Rattle.pm_periods.specs.Known.{AreKnown, num_cmp}
use Rattle.pm_periods.specs.Records.{IsSettled, Record, record_hit, with_parts, with_read}
use Rattle.pm_periods.specs.Rows.{has_num, read_key}
use Rattle.pm_periods.proofs.Entering.{entered_whole}
use Rattle.pm_periods.proofs.Known.{known-read, stamp-none}
use Rattle.pm_periods.proofs.Receiving.{entered-settled}
use Rattle.pm_periods.proofs.record.VarRecord.enter.Goals as goal

pub add_known-requires-clause-new : goal.add_known-requires-clause-new
add_known-requires-clause-new c =
    let i = c.self.inside in
    let row = c.args.row in
    let new : has_num read_key row.num (parts_of i).reads ≡ false =
    ap (λ (z : Record). has_num read_key row.num z.parts.reads) c.self.view_is ∙ c.requires.new in
    c.self.invariant.known.reads row.num ∙ stamp-none read_key row.num (parts_of i).reads new

pub invariant_of-self-2 : goal.invariant_of-self-2
invariant_of-self-2 c =
    let i = c.self.inside in
    let hs = i.periods.items in
    let ws = i.withdrawals.items in
    let row = c.args.row in
    let hit : row.hit ≡ record_hit (parts_of i) row =
    c.requires.hit ∙ ap (λ (z : Record). record_hit z.parts row) (sym c.self.view_is) in
    let new : has_num read_key row.num (parts_of i).reads ≡ false =
    ap (λ (z : Record). has_num read_key row.num z.parts.reads) c.self.view_is ∙ c.requires.new in
    let whole =
    entered_whole hs ws c.self.invariant.sound row hit c.add_known.new.periods.items c.in_ok-add_known.ensures.ok in
    record {
      settled = subst IsSettled (sym whole.0) (entered-settled row (parts_of i) c.self.invariant.settled hit new);
      sound = whole.1;
      known = subst (λ z. AreKnown z (get num_cmp i.put_stamps) (get num_cmp i.cut_stamps)
          (get num_cmp c.add_known.new.reads)) (sym whole.0)
          (known-read row (parts_of i) (get num_cmp i.put_stamps) (get num_cmp i.cut_stamps)
          (get num_cmp i.read_stamps)
          (get num_cmp c.add_known.new.reads) c.self.invariant.known new c.in_ok-add_known.ensures.known);
    }

pub returns-clause-ok : goal.returns-clause-ok
returns-clause-ok c =
    let i = c.self.inside in
    let hs = i.periods.items in
    let ws = i.withdrawals.items in
    let row = c.args.row in
    let hit : row.hit ≡ record_hit (parts_of i) row =
    c.requires.hit ∙ ap (λ (z : Record). record_hit z.parts row) (sym c.self.view_is) in
    let new : has_num read_key row.num (parts_of i).reads ≡ false =
    ap (λ (z : Record). has_num read_key row.num z.parts.reads) c.self.view_is ∙ c.requires.new in
    let whole =
    entered_whole hs ws c.self.invariant.sound row hit c.add_known.new.periods.items c.in_ok-add_known.ensures.ok in
    ap (λ z. record { var = i.var; parts = z }) whole.0
    ∙ ap (λ (z : Record). with_parts z (with_read row z.parts)) c.self.view_is
