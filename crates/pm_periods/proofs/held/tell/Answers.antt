use Rattle.std.proofs.Common.{◌≡◌, ◌+◌, ◌++◌, ◌∷◌, append-nil, append_assoc, drop, ap, sym, ◌∙◌, subst}
use Rattle.std.proofs.lemmas.List.{drop_more}
use Rattle.pm_periods.specs.Laid.{AreLinked, reads_of, told}
use Rattle.pm_periods.specs.Records.{HaveTurns, changed_of}
use Rattle.pm_periods.proofs.Hits.{value_eq-same}
use Rattle.pm_periods.proofs.Laid.{laid-linked, renewed-same, turns-split}
use Rattle.pm_periods.proofs.held.tell.Goals as goal

pub returns-then-is_same_value : goal.returns-then-is_same_value
returns-then-is_same_value c =
    let hs = c.args.periods.now in
    let i = c.loop-h.h-index in
    let h = c.h-item.result in
    let tail = drop (i + 1) hs in
    let rest : drop i hs ≡ h ∷ tail = drop_more hs i h c.loop-h-test.true ∙ ap (λ z. z ∷ tail) (sym c.h-item.is) in
    let linked = subst AreLinked rest c.loop-h.invariant.linked in
    let same = value_eq-same c.after-value.result h.value (sym c.is_same_value.ensures ∙ c.if-is_same_value.true) in
    let none = (renewed-same c.args.var c.loop-h.value (h ∷ tail) (sym same ∙ c.after-value.ensures, linked.0, linked.1)).1 in
    sym (append-nil c.loop-h.gives.items) ∙ (ap (λ z. c.loop-h.gives.items ++ z) (sym none)
    ∙ (ap (λ z. c.loop-h.gives.items ++ told c.args.var c.loop-h.value z) (sym rest) ∙ sym c.loop-h.invariant.told))

pub tell_reads-requires : goal.tell_reads-requires
tell_reads-requires c =
    let hs = c.args.periods.now in
    let i = c.loop-h.h-index in
    let h = c.h-item.result in
    let rest : drop i hs ≡ h ∷ drop (i + 1) hs = drop_more hs i h c.loop-h-test.true ∙ ap (λ z. z ∷ drop (i + 1) hs) (sym c.h-item.is) in
    subst HaveTurns (sym c.as_slice.ensures) (turns-split h.reads (reads_of (drop (i + 1) hs)) (subst (λ z. HaveTurns (reads_of z)) rest c.loop-h.invariant.turns)).0

pub loop-h-preserved : goal.loop-h-preserved
loop-h-preserved c =
    let hs = c.args.periods.now in
    let i = c.loop-h.h-index in
    let h = c.h-item.result in
    let tail = drop (i + 1) hs in
    let var = c.args.var in
    let gives = c.loop-h.gives.items in
    let rest : drop i hs ≡ h ∷ tail = drop_more hs i h c.loop-h-test.true ∙ ap (λ z. z ∷ tail) (sym c.h-item.is) in
    let linked = subst AreLinked rest c.loop-h.invariant.linked in
    let now = c.after-value.ensures in
    record {
      told = c.loop-h.invariant.told ∙ (ap (λ z. gives ++ told var c.loop-h.value z) rest
          ∙ (ap (λ z. gives ++ (changed_of var (λ _. z) h.reads ++ told var z tail)) (sym now)
          ∙ (sym (append_assoc gives (changed_of var (λ _. c.after-value.result) h.reads) (told var c.after-value.result tail))
          ∙ ap (λ z. z ++ told var c.after-value.result tail) (sym (c.in_ok-tell_reads.ensures ∙ ap (λ z. gives ++ changed_of var (λ _. c.after-value.result) z) c.as_slice.ensures)))));
      linked = laid-linked h.value tail linked.1;
      turns = (turns-split h.reads (reads_of tail) (subst (λ z. HaveTurns (reads_of z)) rest c.loop-h.invariant.turns)).1;
    }
