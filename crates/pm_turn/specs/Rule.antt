-- What holds of the turns between any two steps, and what a try tells.
use Rattle.std.specs.Prelude.{◌≡◌, ◌≢◌, ℕ, ◌+◌, ◌<◌, ◌≤◌, List, [], ◌∷◌, length, Option, Some, slice_index}
use mathlib.Core.Option as maybe
use lib.ListN.{get_elem?}
use Rattle.atomic_table.specs.Table.{State, Me}
use Rattle.pm_turn.specs.Sums.{total, times}
use Rattle.pm_turn.specs.declared.view.View.{View}

-- each of the first n slots has a value
abbrev pub AllSome : {T : Type 0} → ℕ → List (Option T) → Type 0
AllSome {T = T} n xs = (i : ℕ) → i < n → (x : T) × (get_elem? xs i ≡ maybe.some (Some x))

module _ {T : Type 0} (fits : T → T → Type 0) where
  -- x fits mark i
  abbrev pub FitsMark : List T → ℕ → T → Type 0
  FitsMark marks i x = (mark : T) × (get_elem? marks i ≡ maybe.some mark) × fits mark x

  -- as many values as marks, each of which fits the mark at its place
  abbrev pub AllFit : List T → List T → Type 0
  AllFit marks xs =
      (length xs ≡ length marks) × ((i : ℕ) (x : T) → get_elem? xs i ≡ maybe.some x → FitsMark marks i x)

  -- slot i is at home and has a value that fits mark i
  abbrev pub AtHome : List T → List (maybe.Option (Option T)) → ℕ → Type 0
  AtHome marks homes i = (x : T) × (get_elem? homes i ≡ maybe.some (maybe.some (Some x))) × FitsMark marks i x

  -- word i is 0 or 1, and as many seats hold turn i; where it is 0, the turn's value is at home
  pub record TurnKept (marks : List T) (words : List ℕ) (homes : List (maybe.Option (Option T)))
      (views : List (View T)) (i : ℕ) : Type 0 where
    pub bit : slice_index words i ≤ 1
    pub holders : total (λ v. times i v.holds) views ≡ slice_index words i
    pub home : slice_index words i ≡ 0 → AtHome marks homes i

  -- a seat with no share is spent and holds nothing, and every other one knows the marks
  abbrev pub ViewKept : List T → View T → Type 0
  ViewKept marks v = (v.shares ≡ 0 → v.holds ≡ []) × (0 < v.shares → v.marks ≡ marks)

  -- what holds between any two steps: one word and one slot for each turn, each turn kept, all shares together
  pub record Kept (marks : List T) (s : State (Option T) (View T)) : Type 0 where
    pub count : length s.words ≡ length marks
    pub slots : length s.homes ≡ length marks
    pub turns : (i : ℕ) → i < length marks → TurnKept marks s.words s.homes s.views i
    pub shares : total (λ v. v.shares) s.views ≡ 4294967296
    pub views : (port : ℕ) (v : View T) → get_elem? s.views port ≡ maybe.some v → ViewKept marks v

  -- one more try, and the word that it read; where that was 0, turn i with a value that fits its mark
  pub record Took (i : ℕ) (m : Me (Option T) (View T)) (found : ℕ) (n : Me (Option T) (View T)) : Type 0 where
    pub tries : n.0.tries ≡ m.0.tries + 1
    pub last : n.0.last ≡ found
    pub shares : n.0.shares ≡ m.0.shares
    pub marks : n.0.marks ≡ m.0.marks
    pub taken : found ≡ 0 →
        (n.0.holds ≡ i ∷ m.0.holds) × ((x : T) × (n.1 ≡ (i, Some x) ∷ m.1) × FitsMark m.0.marks i x)
    pub missed : found ≢ 0 → (n.0.holds ≡ m.0.holds) × (n.1 ≡ m.1)
