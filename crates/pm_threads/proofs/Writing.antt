-- A list that is written back whole.
use Rattle.std.proofs.Common.{◌≡◌, ◌∙◌, ℕ, ◌++◌, List, length, take, drop, ap, refl, sym}
use Rattle.std.proofs.lemmas.List.{length-map, take_at}
use Rattle.pm_cell.specs.Helds.{Held, view_of, views}
use Rattle.pm_cell.specs.Stands.{CellView}
use Rattle.pm_cell.proofs.Rows.{pairs_length}
use Rattle.pm_ends.specs.Numbers.{Pairs}

pub written : {X : Type 0} (n : ℕ) (old new : List X) → n ≡ length old → length new ≡ length old
    → take n (new ++ drop (length new) old) ≡ new
written n old new e f =
    ap (λ k. take k (new ++ drop (length new) old)) (e ∙ sym f) ∙ take_at new (drop (length new) old) (length new) refl

-- as many cells as before
pub as_many : (R : CellView → CellView → Type 0) (old new : List Held) → Pairs R (views old) (views new)
    → length new ≡ length old
as_many R old new r =
    sym (length-map new view_of) ∙ (pairs_length R (views old) (views new) r ∙ length-map old view_of)
