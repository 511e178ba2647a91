use Rattle.std.proofs.Common.{◌<◌, List, ℕ, sym, take, get_or, subst}
use Rattle.std.specs.List.{AllByRecursion}
use Rattle.std.proofs.lemmas.List.{take_more}
use Rattle.pm_ends.specs.Wires.{AreWires}
use Rattle.pm_ends.proofs.Lists.{all_get}
use Rattle.pm_ends.proofs.Wirings.{froms_below, links_before, tos_below, wires_more}
use Rattle.pm_ends.proofs.wiring.wires.Goals as goal

pub connect-requires-clause-senders : goal.connect-requires-clause-senders
connect-requires-clause-senders c =
    let ls : List (ℕ × ℕ) = c.args.links.now in
    let i : ℕ = c.loop-link.link-index in
    let l : ℕ × ℕ = get_or ls i (0, 0) in
    let both : (l.0 < c.args.count) × (l.1 < c.args.count) =
    all_get (λ (x : ℕ × ℕ). (x.0 < c.args.count) × (x.1 < c.args.count)) ls i
    (0, 0) c.requires.below c.loop-link-test.true in
    subst (AllByRecursion (λ (k : ℕ). k < l.1)) (sym (c.loop-link.invariant.froms_are l.0 both.0))
    (froms_below l (take i ls) (links_before ls i (0, 0) c.requires.rises c.loop-link-test.true))

pub connect-requires-clause-receivers : goal.connect-requires-clause-receivers
connect-requires-clause-receivers c =
    let ls : List (ℕ × ℕ) = c.args.links.now in
    let i : ℕ = c.loop-link.link-index in
    let l : ℕ × ℕ = get_or ls i (0, 0) in
    let both : (l.0 < c.args.count) × (l.1 < c.args.count) =
    all_get (λ (x : ℕ × ℕ). (x.0 < c.args.count) × (x.1 < c.args.count)) ls i
    (0, 0) c.requires.below c.loop-link-test.true in
    subst (AllByRecursion (λ (k : ℕ). k < l.0)) (sym (c.loop-link.invariant.tos_are l.1 both.1))
    (tos_below l (take i ls) (links_before ls i (0, 0) c.requires.rises c.loop-link-test.true))

pub loop-link-preserved : goal.loop-link-preserved
loop-link-preserved c =
    let ls : List (ℕ × ℕ) = c.args.links.now in
    let i : ℕ = c.loop-link.link-index in
    let l : ℕ × ℕ = get_or ls i (0, 0) in
    let both : (l.0 < c.args.count) × (l.1 < c.args.count) =
    all_get (λ (x : ℕ × ℕ). (x.0 < c.args.count) × (x.1 < c.args.count)) ls i
    (0, 0) c.requires.below c.loop-link-test.true in
    subst (λ (xs : List (ℕ × ℕ)). AreWires xs c.args.count c.connect.new.inns.items c.connect.new.outs.items)
    (sym (take_more ls i (0, 0) c.loop-link-test.true))
    (wires_more (take i ls) c.args.count l.0 l.1 c.loop-link.inns.items c.loop-link.outs.items c.connect.new.inns.items
    c.connect.new.outs.items
    c.loop-link.invariant c.in_ok-connect.ensures both)
