-- Stations with their shares, and what the marks say at the end.
use Rattle.std.proofs.Common.{◌≡◌, ℕ, zero, suc, ◌<◌, ◌≤◌, List, [], ◌∷◌, ◌++◌, map, length, get_or, sym, refl, ap, ◌∙◌, subst, ⊎_elim, arith, length-append}
use mathlib.Core.Option as maybe
use mathlib.Core.List.{IsPrefix}
use lib.ListN.{get_elem?}
use Rattle.pm_turn.proofs.Places.{last_at}
use Rattle.pm_turn.specs.Rule.{AllFit}
use Rattle.pm_workers.specs.Shares.{share}
use Rattle.pm_workers.specs.Epochs.{Moved, AtEach}
use Rattle.pm_workers.specs.declared.post.Post.{Post}
use Rattle.pm_workers.specs.Posts.{FitsPost, HaveShares}

mapped : {A B : Type 0} (g : A → B) (xs : List A) → length (map g xs) ≡ length xs
mapped g [] = refl
mapped g (x ∷ xs) = omega (arith, mapped g xs)

there : {A : Type 0} (xs : List A) (i : ℕ) → i < length xs → (a : A) × (get_elem? xs i ≡ maybe.some a)
there [] i h = absurd (omega arith)
there (x ∷ xs) zero h = (x, refl)
there (x ∷ xs) (suc i) h = there xs i (omega arith)

at_place : {A B : Type 0} (g : A → B) (xs : List A) (i : ℕ) (a : A) (d : B) → get_elem? xs i ≡ maybe.some a
    → get_or (map g xs) i d ≡ g a
at_place g [] i a d e = absurd (maybe.some-ne-none a (sym e))
at_place g (x ∷ xs) zero a d e = ap g (maybe.some-injective x a e)
at_place g (x ∷ xs) (suc i) a d e = at_place g xs i a d e

prefix_length : {A : Type 0} (xs ys : List A) → IsPrefix xs ys → length xs ≤ length ys
prefix_length xs ys p = omega (arith, length-append xs p.0, ap length p.1)

pub mapped_push : {A B : Type 0} (g : A → B) (xs : List A) (a : A) (ys : List B)
    → map g (xs ++ a ∷ []) ++ ys ≡ map g xs ++ g a ∷ ys
mapped_push g [] a ys = refl
mapped_push g (x ∷ xs) a ys = ap (λ l. g x ∷ l) (mapped_push g xs a ys)

module _ {S : Type 0} (q n : ℕ) where
  pub one_more_share : (posts : List (Post S)) (p : Post S) → HaveShares q n posts → p.left ≡ share q n (length posts)
      → HaveShares q n (posts ++ p ∷ [])
  one_more_share posts p all is k x e = ⊎_elim
      (λ t. all k x t)
      (λ t. ap (λ (y : Post S). y.left) (sym t.1) ∙ is ∙ ap (share q n) (sym t.0))
      (last_at posts p x k e)

module _ {S N : Type 0} (story : S → List N) (follows : S → S → Type 0) (begins : (a b : S) → follows a b
    → IsPrefix (story b) (story a)) (q n : ℕ) where
  abbrev of : Post S → S
  of p = p.station

  pub moved_all : (posts finals : List (Post S)) → HaveShares q n posts → AllFit (FitsPost story follows) posts finals
      → AtEach (λ i. Moved story follows (share q n i)) (map of posts) (map of finals)
  moved_all posts finals have fit = (
    mapped of finals ∙ fit.0 ∙ sym (mapped of posts),
    λ i d h.
        let f = there finals i (omega (arith, h, fit.0, mapped of posts)) in
        let m = fit.1 i f.0 f.1 in
        let left = have i m.0 m.1 in
        let longer = prefix_length (story m.0.station) (story f.0.station) (begins _ _ m.2.0) in
        let moved : Moved story follows (share q n i) m.0.station f.0.station = (
          m.2.0,
          longer,
          omega (arith, m.2.1, left),
        ) in
        let before = sym (at_place of posts i m.0 d m.1) in
        let after = sym (at_place of finals i f.0 d f.1) in
        subst (λ (x : S). Moved story follows (share q n i) x (get_or (map of finals) i d)) before
        (subst (λ (y : S). Moved story follows (share q n i) m.0.station y) after moved),
  )
