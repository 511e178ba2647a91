use Rattle.std.proofs.Common.{◌≡◌, ◌∙◌, sym, ap, arith, ◌+◌, ◌≤◌, ◌<◌, ◌++◌}
use Rattle.std.specs.Prelude.{slice_get}
use Rattle.pm_base.specs.Layouts.{class_row}
use Rattle.pm_base.specs.declared.layout.ClassRow.{ClassRow}
use Rattle.pm_base.specs.declared.value.Query.TheVariants as query
use Rattle.pm_base.proofs.Classes.{row_under}
use Rattle.pm_model.proofs.HitLaws.{hits_to, hits_to-first, hits_to-more, hits_to-end}
use Rattle.pm_model.specs.Hits.{shown_in}
use Rattle.pm_seq.proofs.hits.class_hits.Goals as goal

pub overflow_add-var-end : goal.overflow_add-var-end
overflow_add-var-end c =
    let row : c.class_row-row.result ≡ class_row c.args.layout.now.classes c.args.class = c.class_row-row.ensures in
    let below = row_under 0 c.args.layout.now.classes c.requires.follow c.args.class in
    let first : c.class_row-row.result.first ≡ (class_row c.args.layout.now.classes c.args.class).first = ap (λ (r : ClassRow). r.first) row in
    let count : c.class_row-row.result.count ≡ (class_row c.args.layout.now.classes c.args.class).count = ap (λ (r : ClassRow). r.count) row in
    omega (arith, below, first, count)

pub loop-var-init : goal.loop-var-init
loop-var-init c =
    let row : c.class_row-row.result ≡ class_row c.args.layout.now.classes c.args.class = c.class_row-row.ensures in
    c.new-hits.ensures
    ∙ sym (hits_to-first c.args.layout.now.classes c.args.values.now c.args.class c.args.window.now)
    ∙ ap (λ (r : ClassRow). hits_to c.args.layout.now.classes c.args.values.now (query.Class c.args.class c.args.window.now) r.first) (sym row)

pub loop-var-preserved : goal.loop-var-preserved
loop-var-preserved c =
    let row : c.class_row-row.result ≡ class_row c.args.layout.now.classes c.args.class = c.class_row-row.ensures in
    let first : c.class_row-row.result.first ≡ (class_row c.args.layout.now.classes c.args.class).first = ap (λ (r : ClassRow). r.first) row in
    let count : c.class_row-row.result.count ≡ (class_row c.args.layout.now.classes c.args.class).count = ap (λ (r : ClassRow). r.count) row in
    let from : (class_row c.args.layout.now.classes c.args.class).first ≤ c.loop-var.var = omega (arith, first) in
    let to : c.loop-var.var < (class_row c.args.layout.now.classes c.args.class).first + (class_row c.args.layout.now.classes c.args.class).count = omega (arith, first, count) in
    c.in_ok-add_inside.ensures
    ∙ ap (λ hs. hs ++ shown_in c.args.window.now c.loop-var.var (slice_get c.args.values.now c.loop-var.var)) c.loop-var.invariant
    ∙ sym (hits_to-more c.args.layout.now.classes c.args.values.now c.args.class c.args.window.now c.loop-var.var from to)

pub returns : goal.returns
returns c =
    let row : c.class_row-row.result ≡ class_row c.args.layout.now.classes c.args.class = c.class_row-row.ensures in
    let first : c.class_row-row.result.first ≡ (class_row c.args.layout.now.classes c.args.class).first = ap (λ (r : ClassRow). r.first) row in
    let count : c.class_row-row.result.count ≡ (class_row c.args.layout.now.classes c.args.class).count = ap (λ (r : ClassRow). r.count) row in
    let end : c.loop-var.var ≡ (class_row c.args.layout.now.classes c.args.class).first + (class_row c.args.layout.now.classes c.args.class).count = omega (arith, first, count) in
    c.loop-var.invariant ∙ hits_to-end c.args.layout.now.classes c.args.values.now c.args.class c.args.window.now c.loop-var.var end
