use Rattle.std.proofs.Common.{◌≡◌, ◌<◌, ◌∙◌, ap, arith, length, subst, sym}
use Rattle.pm_periods.specs.declared.rows.RowKey.{RowKey}
use Rattle.pm_queries.specs.Laid.{before}
use Rattle.pm_queries.proofs.Finishes.{before-found, finish-row, finish-same, finish-sent, found-low, number_at}
use Rattle.pm_queries.proofs.class_rows.finish_one.Goals as goal

pub index_mut-row-requires : goal.index_mut-row-requires
index_mut-row-requires c =
    let xs = c.args.rows.now.items in
    let at : c.before-at.result ≡ number_at c.args.num c.args.rows.now.items =
    c.before-at.ensures ∙ (ap (before (record { stamp = c.args.spot.stamp; num = c.args.num })) c.as_slice.ensures.value
    ∙ before-found c.args.num xs c.args.spot c.requires.order c.requires.there) in
    let low = found-low c.args.num xs c.args.spot c.requires.there in
    let len = c.args.rows.now.ok.0 in
    omega (arith, at, low, len)

pub returns-clause-rows : goal.returns-clause-rows
returns-clause-rows c =
    let xs = c.args.rows.now.items in
    let at : c.before-at.result ≡ number_at c.args.num c.args.rows.now.items =
    c.before-at.ensures ∙ (ap (before (record { stamp = c.args.spot.stamp; num = c.args.num })) c.as_slice.ensures.value
    ∙ before-found c.args.num xs c.args.spot c.requires.order c.requires.there) in
    let low = subst (λ i. i < length xs) (sym at) (found-low c.args.num xs c.args.spot c.requires.there) in
    finish-row c.args.num c.args.port xs c.before-at.result
    c.index_mut-row.result.now c.take_off.new.row at low c.index_mut-row.ensures.value c.take_off.ensures.row

pub returns-clause-sent : goal.returns-clause-sent
returns-clause-sent c =
    let xs = c.args.rows.now.items in
    let at : c.before-at.result ≡ number_at c.args.num c.args.rows.now.items =
    c.before-at.ensures ∙ (ap (before (record { stamp = c.args.spot.stamp; num = c.args.num })) c.as_slice.ensures.value
    ∙ before-found c.args.num xs c.args.spot c.requires.order c.requires.there) in
    let low = subst (λ i. i < length xs) (sym at) (found-low c.args.num xs c.args.spot c.requires.there) in
    c.take_off.ensures.sent ∙ finish-sent
    c.args.num c.args.port xs c.before-at.result c.index_mut-row.result.now at low c.index_mut-row.ensures.value

pub returns-clause-same : goal.returns-clause-same
returns-clause-same c =
    let xs = c.args.rows.now.items in
    let at : c.before-at.result ≡ number_at c.args.num c.args.rows.now.items =
    c.before-at.ensures ∙ (ap (before (record { stamp = c.args.spot.stamp; num = c.args.num })) c.as_slice.ensures.value
    ∙ before-found c.args.num xs c.args.spot c.requires.order c.requires.there) in
    let low = subst (λ i. i < length xs) (sym at) (found-low c.args.num xs c.args.spot c.requires.there) in
    finish-same c.args.port xs c.before-at.result
    c.index_mut-row.result.now c.take_off.new.row low c.index_mut-row.ensures.value c.take_off.ensures.row
