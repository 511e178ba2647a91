use Rattle.std.proofs.Common.{◌≡◌, ℕ, List, map, sym, subst, ◌∙◌}
use Rattle.pm_turn.specs.Rule.{AllFit}
use Rattle.pm_turn.specs.Seats.{marks}
use Rattle.pm_workers.specs.Shares.{share}
use Rattle.pm_workers.specs.Epochs.{Moved, AtEach}
use Rattle.pm_workers.specs.declared.post.Post.{Post}
use Rattle.pm_workers.specs.Posts.{FitsPost}
use Rattle.pm_workers.proofs.Posts.{moved_all}
use Rattle.pm_workers.proofs.by_turns.run_stations.Goals as goal

pub returns : goal.returns
returns g c =
    let S : Type 0 = g.row.S.Denot in
    let story = g.S.Station.story in
    let follows = g.S.Station.follows in
    let q = c.args.plan.now.quota in
    let n = c.args.plan.now.count in
    let R : ℕ → S → S → Type 0 = λ i. Moved story follows (share q n i) in
    let posts : List (Post S) = c.in_ok-posts.posts.items in
    let finals : List (Post S) = c.into_vec.result.items in
    let of : Post S → S = λ p. p.station in
    let known : marks c.in_ok-turns.turns ≡ posts = c.in_ok-turns.ensures.marks ∙ c.from_vec.ensures in
    let fit : AllFit (FitsPost story follows) posts finals =
    subst (λ (xs : List (Post S)). AllFit (FitsPost story follows) posts xs) (sym c.into_vec.ensures)
    (subst (λ (ms : List (Post S)). AllFit (FitsPost story follows) ms c.run_turns-posts.result) known
    c.run_turns-posts.ensures) in
    let met = g.met.S.Station g.world.𝓛 g.world.𝓜 g.world.𝓡 ((λ s x. x), (λ x. x), (λ x. x), λ x. x) in
    let all : AtEach R (map of posts) (map of finals) =
    moved_all story follows met.begins q n posts finals c.in_ok-posts.ensures.shares fit in
    subst (λ (xs : List S). AtEach R xs c.without_shares.result.items) c.in_ok-posts.ensures.stations
    (subst (λ (ys : List S). AtEach R (map of posts) ys) (sym c.without_shares.ensures) all)
