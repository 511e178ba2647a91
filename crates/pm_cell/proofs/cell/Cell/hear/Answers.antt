use Rattle.std.proofs.Common.{◌≡◌, ◌≤◌, ◌+◌, ◌∙◌, ap, arith, map, subst, sym}
use Rattle.pm_cell.specs.Helds.{out_wire}
use Rattle.std.specs.List.{AllByRecursion}
use Rattle.std.proofs.lemmas.Bool.{false≢true}
use Rattle.pm_history.specs.Stories.{Story}
use Rattle.pm_history.specs.declared.histories.Heard.{Heard}
use Rattle.pm_cell.proofs.Heard.{clocks_below, clocks_more, tos_wires}
use Rattle.pm_cell.proofs.cell.Cell.hear.Goals as goal

pub invariant_of-self : goal.invariant_of-self
invariant_of-self c =
    let i = c.self.invariant in
    record {
      valid = i.valid;
      there = i.there;
      process = λ e. absurd (false≢true (sym e));
      history = i.history;
      clocks = i.clocks;
      receivers = tos_wires c.self.inside.outs.value c.act.new.outs
          (c.act.ensures.wires ∙ ap (map out_wire) c.deref_mut-2.ensures.value) ∙ i.receivers;
    }

pub hear-requires : goal.hear-requires
hear-requires c = record {
  rises = clocks_below c.self.inside.clock (c.max-clock.result + 1) c.self.inside.story.heard
      (omega (arith, c.max-clock.ensures)) c.self.invariant.clocks;
}

pub invariant_of-self-in_err-hear : goal.invariant_of-self-in_err-hear
invariant_of-self-in_err-hear c =
    let i = c.self.invariant in
    let same : c.hear.new.self ≡ c.self.inside.story = c.in_err-hear.ensures.err in
    record {
      valid = i.valid;
      there = i.there;
      process = λ e. absurd (false≢true (sym e));
      history = ap (λ (s : Story). s.process) same ∙ i.history;
      clocks = subst (λ (s : Story). AllByRecursion (λ (h : Heard). h.clock ≤ c.self.inside.clock) s.heard)
          (sym same) i.clocks;
      receivers = tos_wires c.self.inside.outs.value c.act.new.outs
          (c.act.ensures.wires ∙ ap (map out_wire) c.deref_mut-2.ensures.value) ∙ i.receivers;
    }

pub invariant_of-self-2 : goal.invariant_of-self-2
invariant_of-self-2 c =
    let i = c.self.invariant in
    let m = c.max-clock.result + 1 in
    let le : c.self.inside.clock ≤ m = omega (arith, c.max-clock.ensures) in
    record {
      valid = i.valid;
      there = i.there;
      process = λ _. c.in_ok-act.ensures.acted.fits;
      history = ap (λ (s : Story). s.process) c.in_ok-hear.ensures.ok ∙ i.history;
      clocks = subst (λ (s : Story). AllByRecursion (λ (h : Heard). h.clock ≤ m) s.heard) (sym c.in_ok-hear.ensures.ok)
          (clocks_more c.self.inside.clock m c.args.from c.self.inside.story.heard le i.clocks);
      receivers = tos_wires c.self.inside.outs.value c.act.new.outs
          (c.act.ensures.wires ∙ ap (map out_wire) c.deref_mut-2.ensures.value) ∙ i.receivers;
    }
