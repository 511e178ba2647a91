use Rattle.std.proofs.Common.{◌≡◌, ◌<◌, ◌∙◌, List, ap, length, map, refl, set, subst, sym, Some}
use Rattle.pm_links.specs.Links.{waiting}
use Rattle.pm_ends.specs.declared.in_ends.InSide.{InSide}
use Rattle.pm_ends.specs.declared.out_ends.OutSide.{OutSide}
use Rattle.pm_ends.specs.Ends.{Grew, Inn, Out}
use Rattle.pm_ends.specs.Numbers.{nth}
use Rattle.pm_ends.specs.Sides.{inn_of, out_of}
use Rattle.pm_ends.proofs.Lists.{map_nth, nth_else, nth_is, nth_set}
use Rattle.pm_ends.proofs.Held.{begins_prefix, held_grew, held_rising, held_set, on_ok, outs_rising, outs_same}
use Rattle.pm_ends.specs.Trees.{IsTree, IsTreeBut}
use Rattle.pm_ends.proofs.Trees.{held_but}
use Rattle.pm_ends.proofs.drawing.draw.Goals as goal

-- the in-end before the call, and after it
abbrev before : (c : goal.After-mend) → InSide
before c = c.index_mut-inn.result.now

abbrev now : (c : goal.After-mend) → InSide
now c = record { from = (before c).from; slot = (before c).slot; end = c.draw-drawn.new.inn }

-- the out-end before the call, and after it
abbrev out : (c : goal.After-mend) → OutSide
out c = c.index_mut-out.result.now

abbrev out_now : (c : goal.After-mend) → OutSide
out_now c = record { to = (out c).to; end = c.draw-drawn.new.out }

same : (c : goal.After-mend) → out_of (out_now c) ≡ out_of (out c)
same c i = record { to = (out c).to; link = c.draw-drawn.ensures.out.0 i; sent = c.draw-drawn.ensures.out.1 i }

grew : (c : goal.After-mend) → Grew (inn_of (before c)) (inn_of (now c))
grew c = record {
  from = refl;
  slot = refl;
  link = c.draw-drawn.ensures.inn.0;
  received = c.draw-drawn.ensures.inn.1;
  waiting = begins_prefix (waiting (before c).end) (waiting (now c).end) c.draw-drawn.ensures.inn.2;
}

-- what contracts see of the out-ends stays
outs : (c : goal.After-mend) → map out_of (set c.outs.inside.ends.items (before c).slot (out_now c)) ≡ c.args.outs.now
outs c = outs_same c.outs.inside.ends.items (before c).slot (out c) (out_now c) c.index_mut-out.ensures.value (same c)
    ∙ c.outs.view_is

pub invariant_of-outs : goal.invariant_of-outs
invariant_of-outs c = outs_rising c.outs.inside.ends.items (before c).slot (out c)
    (out_now c) c.index_mut-out.ensures.value refl
    c.outs.invariant

pub mend-requires-clause-but : goal.mend-requires-clause-but
mend-requires-clause-but c = subst (λ l. IsTreeBut (map inn_of l) c.inns.inside.best.items c.args.at)
    (sym c.as_slice.ensures.value)
    (held_but c.inns.inside.ends.items c.inns.inside.best.items c.args.at _ c.inns.invariant.1)

pub invariant_of-inns : goal.invariant_of-inns
invariant_of-inns c = (
  held_rising c.inns.inside.ends.items c.args.inns.now c.inns.view_is c.args.at (before c) (now c)
      c.index_mut-inn.ensures.value c.inns.invariant.0 refl,
  subst (λ l. IsTree (map inn_of l) c.mend.new.best.items) c.as_slice.ensures.value c.mend.ensures,
)

pub returns-clause-outs : goal.returns-clause-outs
returns-clause-outs c = outs c

pub returns-clause-inns : goal.returns-clause-inns
returns-clause-inns c = held_grew c.inns.inside.ends.items c.args.inns.now c.inns.view_is c.args.at (before c) (now c)
    c.index_mut-inn.ensures.value (grew c)

pub returns-clause-drawn : goal.returns-clause-drawn
returns-clause-drawn c =
    let xs = c.inns.inside.ends.items in
    let r = c.requires in
    let at = map_nth inn_of xs c.args.at (before c) r.inn (ap (λ (l : List Inn). nth l c.args.at) c.inns.view_is
    ∙ r.at) in
    let inn : inn_of (before c) ≡ r.inn = ap inn_of c.index_mut-inn.ensures.value ∙ at.1 in
    let slot : nth (map out_of c.outs.inside.ends.items) (before c).slot ≡ Some r.out =
    ap (λ (l : List Out). nth l (before c).slot) c.outs.view_is ∙ ap (λ (x : Inn). nth c.args.outs.now x.slot) inn
    ∙ r.there in
    let there = map_nth out_of c.outs.inside.ends.items (before c).slot (out c) r.out slot in
    let o : out_of (out c) ≡ r.out = ap out_of c.index_mut-out.ensures.value ∙ there.1 in
    let long : c.args.at < length c.args.inns.now = (nth_is c.args.inns.now c.args.at r.inn r.inn r.at).0 in
    on_ok c.draw-drawn.result _ _ (λ all. record {
      inn = inn_of (now c);
      at = ap (λ (l : List Inn). nth l c.args.at) (held_set xs c.args.inns.now c.inns.view_is c.args.at (before c)
          (now c) c.index_mut-inn.ensures.value)
          ∙ nth_set c.args.inns.now c.args.at (inn_of (now c)) long;
      out = r.out;
      there = ap (λ (l : List Out). nth l (before c).slot) (outs c) ∙ ap (λ (x : Inn). nth c.args.outs.now x.slot) inn
          ∙ r.there;
      all = ap (λ (z : Out). z.sent) (sym o ∙ sym (same c)) ∙ sym all;
    }) c.draw-drawn.ensures.all

pub returns-clause-others : goal.returns-clause-others
returns-clause-others c = λ j ne.
    ap (λ (l : List Inn). nth l j) (held_set c.inns.inside.ends.items c.args.inns.now c.inns.view_is c.args.at
    (before c) (now c) c.index_mut-inn.ensures.value)
    ∙ nth_else c.args.inns.now c.args.at j (inn_of (now c)) ne
