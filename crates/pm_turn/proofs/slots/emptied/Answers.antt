use Rattle.std.proofs.Common.{rules, ◌≡◌, ℕ, List, length, Option, Some, ⊎_elim, ap, sym, ◌∙◌, arith}
use mathlib.Core.Option.{some}
use lib.ListN.{get_elem?}
use Rattle.std.specs.Mem.Slots.{slots_items}
use Rattle.pm_turn.proofs.Places.{last_at, not_none, still_full, more_empty}
use Rattle.pm_turn.proofs.slots.emptied.Goals as goal

pub unreachable-requires : goal.unreachable-requires
unreachable-requires g c =
    let i : ℕ = c.loop-i.i in
    let all = slots_items c.args.closed.slots in
    let same = c.loop-i.invariant.2 in
    let t = c.requires.full.1 i (search rules) in
    let no = not_none (get_elem? all i) t.0 t.1 (ap (λ l. get_elem? l i) (sym same) ∙ c.in-None.ensures.value) in
    omega (arith, no)

pub loop-i-preserved : goal.loop-i-preserved
loop-i-preserved g c =
    let T : Type 0 = g.row.T.Denot in
    let i : ℕ = c.loop-i.i in
    let all : List (Option T) = slots_items c.args.closed.slots in
    let old : List T = c.loop-i.room.items in
    let same = c.loop-i.invariant.2 in
    let long : length old ≡ i = search rules in
    let new : get_elem? all i ≡ some (Some c.in-Some.x) = ap (λ l. get_elem? l i) (sym same)
    ∙ c.in-Some.ensures.value in
    let took = c.take.ensures.others in (
      still_full _ _ i _ _ c.loop-i.invariant.0 took.1 took.2,
      more_empty _ _ i c.loop-i.invariant.1 took.1,
      took.0 ∙ same,
      took.2 ∙ c.loop-i.invariant.3,
      search rules,
      search rules,
      λ k x e. ⊎_elim
          (λ t. c.loop-i.invariant.6 k x t)
          (λ t. ap (λ j. get_elem? all j) (t.0 ∙ long) ∙ new ∙ ap (λ (y : T). some (Some y)) t.1)
          (last_at old c.in-Some.x x k (ap (λ (l : List T). get_elem? l k) (sym c.push_reserved.ensures.items) ∙ e)),
    )
