-- What an epoch did to each station, and to all.
use Rattle.std.specs.Prelude.{◌≡◌, ℕ, ◌+◌, ◌<◌, ◌≤◌, List, length, Bool, true, false, slice_index_or, sum_by}
use Rattle.std.specs.Prelude.{All, Any, IsTrue, ◌↔◌}
use Rattle.pm_workers.specs.declared.counting.Count.{Count}

-- how long all stories are together
abbrev pub told_by : {S N : Type 0} → (S → List N) → List S → ℕ
told_by story xs = sum_by (λ s. length (story s)) xs

module _ {S : Type 0} (R : ℕ → S → S → Type 0) where
  -- two lists of one length, and R i of what they have at each place i
  abbrev pub AtEach : List S → List S → Type 0
  AtEach xs ys =
      (length ys ≡ length xs)
      × ((i : ℕ) (d : S) → i < length xs → R i (slice_index_or xs i d) (slice_index_or ys i d))

  -- the same below place k, and from k on the lists are the same
  abbrev pub Reached : ℕ → List S → List S → Type 0
  Reached k xs ys =
      (length ys ≡ length xs)
      × ((i : ℕ) (d : S) → i < length xs →
      (i < k → R i (slice_index_or xs i d) (slice_index_or ys i d))
      × (k ≤ i → slice_index_or ys i d ≡ slice_index_or xs i d))

module _ {S N : Type 0} (story : S → List N) (follows : S → S → Type 0) where
  -- a station follows what it was, and made at most so many deliveries
  abbrev pub Moved : ℕ → S → S → Type 0
  Moved most before after =
      follows after before
      × (length (story before) ≤ length (story after))
      × (length (story after) ≤ length (story before) + most)

  module _ (idle : S → Type 0) (is_spoilt : S → Bool) where
    -- how an epoch ends of which the workers made so many deliveries
    pub record IsDone (quota made : ℕ) (before after : List S) (count : Count) : Type 0 where
      pub order : AtEach (λ i x y. follows y x) before after
      pub made_all : told_by story before + count.made ≡ told_by story after + made
      pub most : count.made ≤ quota
      pub memory : IsTrue count.memory ↔ Any (λ s. is_spoilt s ≡ true) after
      pub nothing : 1 ≤ quota → count.memory ≡ false → count.made ≡ 0 → All idle after
