-- What the parser finds among our arguments.
use Rattle.std.proofs.Common.{◌≡◌, ◌||◌, ℕ, Bool, codes, true, false, refl, sym, subst, List, [], ◌∷◌, Some, None, true≢false}
use Rattle.std.specs.Str.{bytes_eq}
use Rattle.std.proofs.lemmas.Slice.Eq.{bytes_eq-Decides}
use Rattle.clap.specs.Walk.{Rule, arg_by_id, arg_by_index, arg_by_long, arg_by_short}
use Rattle.clap.specs.Faults.{stray_fault}
use Rattle.clap.specs.Simple.{filled, with_index}
use Rattle.clap.specs.declared.error.kind.ErrorKind.TheVariants as kind
use Rattle.pm_words.specs.Line as l
use Rattle.pm_words.specs.Line.{shape}
use Rattle.std.specs.List.{list_any}
use Rattle.pm_words.specs.Words.{Text, NumberOption, is_option, flag_name, mode_name, budget, epoch, window, seed, from}

abbrev pub option_rule : Text → Rule
option_rule name = filled (l.option name)

abbrev pub mode_rule : Rule
mode_rule = with_index 1 (filled l.mode)

abbrev pub flag_rule : Rule
flag_rule = filled l.flag

pub no_short : (x : ℕ) → arg_by_short shape.rules x ≡ None
unfolding shape
no_short x = refl

pub first_place : arg_by_index shape.rules 1 ≡ Some mode_rule
unfolding shape
first_place = refl

pub second_place : arg_by_index shape.rules 2 ≡ None
unfolding shape
second_place = refl

pub no_repeats : shape.args_override_self ≡ false
unfolding shape
no_repeats = refl

pub stray : stray_fault shape ≡ kind.UnknownArgument ∷ []
unfolding shape
stray = refl

pub mode_by_id : arg_by_id shape.rules mode_name ≡ Some mode_rule
unfolding shape
mode_by_id = refl

pub flag_by_id : arg_by_id shape.rules flag_name ≡ Some flag_rule
unfolding shape
flag_by_id = refl

-- ---- the options, one by one

pub same_text : (a b : Text) → bytes_eq a b ≡ true → a ≡ b
same_text a b = (bytes_eq-Decides a b).0

module _ (P : Text → Type 0) (name : Text) where
  pick : (a : Text) → P a → (r : Bool) → (b : Bool) → bytes_eq a name ≡ b → (r ≡ true → P name) → (b || r) ≡ true
      → P name
  pick a p r true is next h = subst P (same_text a name is) p
  pick a p r false is next h = next h

  pub each_option : P (codes "workers") → P (codes "budget") → P (codes "epoch") → P (codes "window") → P (codes "seed")
      → P (codes "from") → is_option name ≡ true → P name
  each_option a b c d e f =
      pick (codes "workers") a _ _ refl (
      pick (codes "budget") b _ _ refl (
      pick (codes "epoch") c _ _ refl (
      pick (codes "window") d _ _ refl (
      pick (codes "seed") e _ _ refl (
      pick (codes "from") f _ _ refl (λ h. absurd (true≢false (sym h))))))))

abbrev IsFoundBoth : Text → Type 0
IsFoundBoth name = (arg_by_long shape.rules name ≡ Some (option_rule name)) × (arg_by_id shape.rules name
    ≡ Some (option_rule name))

found_both : (name : Text) → is_option name ≡ true → IsFoundBoth name
unfolding shape
found_both name = each_option IsFoundBoth name (refl, refl) (refl, refl) (refl, refl) (refl, refl) (refl, refl)
    (refl, refl)

pub option_by_long : (name : Text) → is_option name ≡ true → arg_by_long shape.rules name ≡ Some (option_rule name)
option_by_long name h = (found_both name h).0

pub option_by_id : (name : Text) → is_option name ≡ true → arg_by_id shape.rules name ≡ Some (option_rule name)
option_by_id name h = (found_both name h).1

pub flag_by_long : arg_by_long shape.rules flag_name ≡ Some flag_rule
unfolding shape
flag_by_long = refl

-- an option is neither the mode nor the flag
pub no_mode : (name : Text) → is_option name ≡ true → bytes_eq name mode_name ≡ false
no_mode name = each_option (λ n. bytes_eq n mode_name ≡ false) name refl refl refl refl refl refl

pub no_flag : (name : Text) → is_option name ≡ true → bytes_eq flag_name name ≡ false
no_flag name = each_option (λ n. bytes_eq flag_name n ≡ false) name refl refl refl refl refl refl

-- ---- no other name

neither : (a b : Bool) → (a || b) ≡ false → (a ≡ false) × (b ≡ false)
neither true b h = absurd (true≢false h)
neither false b h = (refl, h)

pub no_other : (name : Text) → bytes_eq flag_name name ≡ false → is_option name ≡ false → arg_by_long shape.rules name
    ≡ None
unfolding shape
no_other name other h =
    let a = neither (bytes_eq (codes "workers") name) (any (budget ∷ epoch ∷ window ∷ seed ∷ from ∷ [])) h in
    let b = neither (bytes_eq (codes "budget") name) (any (epoch ∷ window ∷ seed ∷ from ∷ [])) a.1 in
    let c = neither (bytes_eq (codes "epoch") name) (any (window ∷ seed ∷ from ∷ [])) b.1 in
    let d = neither (bytes_eq (codes "window") name) (any (seed ∷ from ∷ [])) c.1 in
    let e = neither (bytes_eq (codes "seed") name) (any (from ∷ [])) d.1 in
    let f = neither (bytes_eq (codes "from") name) false e.1 in
    rw (a.0, b.0, c.0, d.0, e.0, f.0, other) refl
  where
    any : List NumberOption → Bool
    any os = list_any (λ o. bytes_eq o.name name) os
