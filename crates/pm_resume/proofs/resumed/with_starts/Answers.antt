use Rattle.std.proofs.Common.{◌≡◌, ◌∙◌, ap, length, min}
use Rattle.std.proofs.lemmas.Slice.Zip.{zip_end}
use Rattle.std.specs.Iterator.Adapters.{zip_first, zip_second}
use Rattle.std.specs.Slice.Iter.{iter_rest}
use Rattle.pm_resume.proofs.Pairs.{pairwise_end, so_far_end}
use Rattle.pm_resume.specs.Cuts.{with_start}
use Rattle.pm_resume.proofs.resumed.with_starts.Goals as goal

pub returns : goal.returns
returns c =
    let s = c.into_iter-row-iterator.result in
    let gives = c.into_iter-row-iterator.ensures.into_iter_gives in
    let first : iter_rest (zip_first s) ≡ c.args.rows.now =
    ap (λ z. iter_rest (zip_first z)) gives ∙ ap (λ i. iter_rest i) c.zip-row-items.ensures.first ∙ c.iter.ensures.rest in
    let second : iter_rest (zip_second s) ≡ c.args.starts.now = ap (λ z. iter_rest (zip_second z)) gives ∙ c.zip-row-items.ensures.second.0 in
    let all : length c.loop-row.yielded ≡ min (length c.args.rows.now) (length c.args.starts.now) =
    zip_end c.args.rows.now c.args.starts.now c.loop-row.yielded s c.loop-row.row-iterator c.next.new.self c.next.result first second
    c.loop-row.yielded_by c.in-None.is c.next.ensures.steps in
    so_far_end c.loop-row.all _ _ c.loop-row.invariant
    (pairwise_end with_start c.args.rows.now c.args.starts.now (length c.loop-row.yielded) all)
