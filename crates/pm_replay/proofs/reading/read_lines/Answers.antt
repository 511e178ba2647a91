use Rattle.std.proofs.Common.{rules, ◌≡◌, ◌≢◌, ◌∙◌, ◌+◌, ◌<◌, ◌++◌, ◌∷◌, [], List, None, Some, ap, arith, false, length, subst, sym, true, ℕ}
use Rattle.pm_base.specs.declared.run.Event.{Event}
use Rattle.pm_history.specs.Journals.{IsWritable, event_line}
use Rattle.pm_history.specs.Scans.{event_at}
use Rattle.pm_history.proofs.Lines.{event_whole}
use Rattle.pm_history.proofs.Texts.{IsRead, one_more, shorter}
use Rattle.pm_replay.specs.Replays.{AreLines}
use Rattle.pm_replay.proofs.reading.read_lines.Goals as goal

-- a line isn't one of an event
stops : (text : List ℕ) (j : List Event) (rest : List ℕ) → IsRead text j rest → 0 < length rest → event_at rest ≡ None
    → AreLines j false text
stops text j rest read some none = record {
  rest = rest;
  written = read.numbers;
  cut = read.cut;
  ended = λ e. absurd (cc);
  more = λ e h. omega (arith, some, ap length h);
  faulty = λ e f after w h. (let g : None ≡ Some (f, after) = sym none ∙ (ap event_at h ∙ event_whole f after w) in cc);
}

pub returns-in_default : goal.returns-in_default
returns-in_default c =
    let none : event_at c.lines.rest.now ≡ None = search rules in
    let some : 0 < length c.lines.rest.now = search rules in
    stops c.args.text.now c.lines.journal c.lines.rest.now c.lines.invariant some none

pub lines-smaller : goal.lines-smaller
lines-smaller c =
    let at : event_at c.lines.rest.now ≡ Some (c.in-Some.event, c.in-Some.after.now) = search rules in
    shorter c.lines.rest.now c.in-Some.event c.in-Some.after.now at

pub lines-preserved : goal.lines-preserved
lines-preserved c =
    let at : event_at c.lines.rest.now ≡ Some (c.in-Some.event, c.in-Some.after.now) = search rules in
    let pushed : c.push.new.self ≡ c.lines.journal ++ c.in-Some.event ∷ [] = search rules in
    subst (λ j. IsRead c.args.text.now j c.in-Some.after.now) (sym pushed)
    (one_more c.args.text.now c.lines.journal c.lines.rest.now c.in-Some.event c.in-Some.after.now c.lines.invariant at)
