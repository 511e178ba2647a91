use Rattle.std.proofs.Common.{◌≡◌, ◌<◌, ◌+◌, suc, ◌∙◌, ◌++◌, map, take, drop, set, get_or, length, sym, ap, subst, arith}
use Rattle.pm_ranges.specs.declared.piece.Piece.{Piece}
use Rattle.pm_ranges.specs.Known.{raised_one}
use Rattle.pm_ranges.specs.Laid.{Upright}
use Rattle.pm_ranges.proofs.Laying.{raise-here, raise-step, upright-at}
use Rattle.pm_ranges.proofs.pieces.raise.Goals as goal

pub raised_one-requires-clause-piece : goal.raised_one-requires-clause-piece
raised_one-requires-clause-piece c =
    let xs = c.args.pieces.now.items in
    let more = c.loop-at-test.true in
    let end = c.len-at-end.ensures in
    let len = c.args.pieces.now.ok.0 in
    let low : c.loop-at.at < length c.args.pieces.now.items = omega (arith, more, end, len) in
    let is : c.index.result.now ≡ get_or c.args.pieces.now.items c.loop-at.at c.index.result.now =
    c.index.ensures ∙ ap (λ ps. get_or ps c.loop-at.at c.index.result.now) c.loop-at.invariant ∙ raise-here (raised_one c.args.when.now c.args.window.now) c.args.pieces.now.items c.loop-at.at c.index.result.now low in
    subst (λ (p : Piece). Upright p.window) (sym is) (upright-at c.args.pieces.now.items c.requires.upright c.loop-at.at c.index.result.now low)

pub loop-at-preserved : goal.loop-at-preserved
loop-at-preserved c =
    let more = c.loop-at-test.true in
    let end = c.len-at-end.ensures in
    let len = c.args.pieces.now.ok.0 in
    let low : c.loop-at.at < length c.args.pieces.now.items = omega (arith, more, end, len) in
    let next : suc c.loop-at.at ≡ c.loop-at.at + 1 = omega arith in
    let is : c.index.result.now ≡ get_or c.args.pieces.now.items c.loop-at.at c.index.result.now =
    c.index.ensures ∙ ap (λ ps. get_or ps c.loop-at.at c.index.result.now) c.loop-at.invariant ∙ raise-here (raised_one c.args.when.now c.args.window.now) c.args.pieces.now.items c.loop-at.at c.index.result.now low in
    ap (λ ps. set ps c.loop-at.at c.raised_one.result) c.loop-at.invariant
    ∙ ap (set (map (raised_one c.args.when.now c.args.window.now) (take c.loop-at.at c.args.pieces.now.items) ++ drop c.loop-at.at c.args.pieces.now.items) c.loop-at.at) (c.raised_one.ensures ∙ ap (raised_one c.args.when.now c.args.window.now) is)
    ∙ raise-step (raised_one c.args.when.now c.args.window.now) c.args.pieces.now.items c.loop-at.at c.index.result.now low
    ∙ ap (λ k. map (raised_one c.args.when.now c.args.window.now) (take k c.args.pieces.now.items) ++ drop k c.args.pieces.now.items) next
