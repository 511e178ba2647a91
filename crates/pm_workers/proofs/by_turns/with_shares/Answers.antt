use Rattle.std.proofs.Common.{rules, ◌≡◌, List, length, ◌++◌, ◌∷◌, sym, subst, ap, ◌∙◌, map}
use Rattle.std.specs.Vec.Iter.{into_iter_items}
use Rattle.pm_workers.specs.Shares.{share}
use Rattle.pm_workers.specs.declared.post.Post.{Post}
use Rattle.pm_workers.specs.Posts.{HaveShares}
use Rattle.pm_workers.proofs.Posts.{one_more_share, mapped_push}
use Rattle.pm_workers.proofs.by_turns.with_shares.Goals as goal

pub loop-station-preserved : goal.loop-station-preserved
loop-station-preserved g c =
    let S : Type 0 = g.row.S.Denot in
    let q = c.args.plan.now.quota in
    let n = c.args.plan.now.count in
    let posts : List (Post S) = c.loop-station.posts.items in
    let of : Post S → S = λ p. p.station in
    let rest : List S = into_iter_items c.next.new.self in
    let step : into_iter_items c.loop-station.station-iterator ≡ c.in-Some.station ∷ rest = search rules in
    let long : c.len.result ≡ length posts = search rules in (
      tt,
      tt,
      ap (λ (l : List (Post S)). map of l ++ rest) c.push_reserved.ensures.items ∙ mapped_push of posts _ rest
          ∙ ap (λ (l : List S). map of posts ++ l) (sym {A = List S} step) ∙ c.loop-station.invariant.2,
      search rules,
      search rules,
      subst (λ (ps : List (Post S)). HaveShares q n ps) (sym c.push_reserved.ensures.items)
          (one_more_share q n posts _ c.loop-station.invariant.5 (c.share-left.ensures ∙ ap (share q n) long)),
    )
