-- What a sense was given, and what it answers.
use Rattle.std.specs.Prelude.{ℕ, ◌==◌, ◌&&◌, nat_lt, Bool, true, false, if◌then◌else◌}
use Rattle.std.specs.Prelude.{List, [], ◌∷◌, map, Option, Some, None}
use Rattle.pm_base.specs.Changes.{value_eq}
use Rattle.pm_base.specs.declared.value.Hit.{Hit}
use Rattle.pm_base.specs.declared.value.Value.{Value}
use Rattle.pm_saved.specs.declared.kept.KeptHit.{KeptHit}
use Rattle.pm_saved.specs.declared.kept.KeptSense.{KeptSense}

-- the hits with one more kept: it stands in place of the one of its variable, and hits stand in order of variable
abbrev pub add_kept : KeptHit → List KeptHit → List KeptHit
add_kept k [] = k ∷ []
add_kept k (x ∷ xs) = if nat_lt k.var x.var then k ∷ (x ∷ xs) else if k.var == x.var then k ∷ xs else x ∷ add_kept k xs

-- the turn of the hit that is kept for a variable, 0 where none is kept
abbrev pub kept_turn : ℕ → List KeptHit → ℕ
kept_turn v [] = 0
kept_turn v (k ∷ ks) = if k.var == v then k.turn else kept_turn v ks

-- the hit that is kept for a variable, None where none is kept
abbrev pub kept_hit : ℕ → List KeptHit → Option Value
kept_hit v [] = None
kept_hit v (k ∷ ks) = if k.var == v then k.hit else kept_hit v ks

-- a hit before others, where it tells a value
abbrev pub shown_before : ℕ → Option Value → List Hit → List Hit
shown_before v None hs = hs
shown_before v (Some x) hs = record { var = v; value = x } ∷ hs

-- the answer of a sense: its kept hits that tell a value, in order of variable
abbrev pub answer : List KeptHit → List Hit
answer [] = []
answer (k ∷ ks) = shown_before k.var k.hit (answer ks)

-- the answers of these senses, in order
abbrev pub answers : List KeptSense → List (List Hit)
answers ss = map (λ (s : KeptSense). answer s.hits) ss

-- two answers are the same
abbrev pub hits_eq : List Hit → List Hit → Bool
hits_eq [] [] = true
hits_eq [] (y ∷ ys) = false
hits_eq (x ∷ xs) [] = false
hits_eq (x ∷ xs) (y ∷ ys) = x.var == y.var && value_eq x.value y.value && hits_eq xs ys
