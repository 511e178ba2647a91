use Rattle.std.proofs.Common.{◌≡◌, ◌+◌, ◌++◌, ◌∙◌, ap, append_assoc, arith, drop, get_or, length, length-append, set, subst, sym, take}
use Rattle.std.proofs.lemmas.List.Edits.{map_over_more}
use Rattle.pm_core.proofs.Handing.{item_left}
use Rattle.pm_cell.specs.Committings.{handed_at, held_at, ready_in}
use Rattle.pm_cell.specs.Helds.{Held, IsOwn}
use Rattle.pm_cell.proofs.Commitments.{own_more, ready_left, ready_more}
use Rattle.pm_cell.proofs.committing.commit_all.Goals as goal

pub loop-cell-preserved : goal.loop-cell-preserved
loop-cell-preserved c =
    let i = c.loop-cell.cell-index in
    let hs = c.args.cells.now in
    let l = c.args.line in
    let h = c.cell-item.result in
    let lt = c.loop-cell-test.true in
    let old = c.args.entries.now.items in
    let is : h ≡ get_or hs i h =
    c.cell-item.is ∙ (ap (λ z. get_or z i h) c.loop-cell.invariant.cells ∙ item_left (held_at l) hs i h lt) in
    let left : length (ready_in l (drop i hs)) ≡ length (handed_at l h.process) + length
    (ready_in l (drop (i + 1) hs)) =
    ap length (ready_left l hs i h lt is) ∙ length-append (handed_at l h.process) (ready_in l (drop (i + 1) hs)) in
    let same = ap (λ (z : Held). length (handed_at l z.process)) c.cell-item.is in
    record {
      cells = ap (set c.loop-cell.cells i) (c.commit.ensures.cell ∙ ap (held_at l) (sym c.cell-item.is))
          ∙ map_over_more (held_at l) hs c.loop-cell.cells i h lt c.loop-cell.invariant.cells c.cell-item.is;
      entries = c.commit.ensures.entries
          ∙ (ap (λ (z : Held). c.loop-cell.entries.items ++ handed_at l z.process) (sym c.cell-item.is)
          ∙ (ap (λ z. z ++ handed_at l h.process) c.loop-cell.invariant.entries
          ∙ (append_assoc old (ready_in l (take i hs)) (handed_at l h.process)
          ∙ ap (λ z. old ++ z) (sym (ready_more l hs i h lt is)))));
      room = omega (arith, left, same, c.commit.ensures.len, c.commit.ensures.room, c.loop-cell.invariant.room);
      own = own_more hs i h lt is c.loop-cell.invariant.own (ap_own (sym c.cell-item.is) c.commit.ensures.own);
    }
  where
    ap_own : {a b : Held} → a ≡ b → IsOwn a → IsOwn b
    ap_own e o = subst IsOwn e o
