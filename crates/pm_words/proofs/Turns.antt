-- The walk over the words, one word at a time.
use Rattle.std.proofs.Common.{◌≡◌, ◌∙◌, ℕ, Bool, cond, codes, true, false, refl, sym, ap, ap₂, List, [], ◌∷◌, length, Option, Some, None, is_some, true≢false}
use Rattle.std.specs.Prelude.{slice_get, drop, encode_utf8}
use Rattle.std.specs.Option.{option_map_or}
use Rattle.pm_words.proofs.Taken.{short_in}
use Rattle.std.specs.List.{fold}
use Rattle.std.specs.Str.{bytes_eq, chars}
use Rattle.std.proofs.lemmas.Slice.Eq.{bytes_eq-Decides}
use Rattle.clap.specs.Lexer.{long_of, short_of}
use Rattle.clap.specs.Walk.{Held, Outcome, Row, Rule, Step, Waiting, Walk, idle, option, trailing, after_step, arg_by_long, arg_by_short, bundle, bundle_met, bundle_step, long_or_other, after_flag, long_met, plain, plain_word, short_or_plain, settled, settled_rows, used, walked}
use Rattle.clap.specs.Kinds.{Kinds, or_else}
use Rattle.clap.specs.Faults.{settle_fault, use_fault, turn_fault, walk_fault, flag_word_fault, step_fault, long_fault, react_fault, bundle_fault, bundle_step_fault, flags_fault, short_fault}
use Rattle.pm_words.specs.Line.{shape}
use Rattle.pm_words.specs.Words.{Text, is_option, flag_name}
use Rattle.pm_words.proofs.Rules.{option_rule, flag_rule, option_by_long, flag_by_long, no_other, no_short}
use Rattle.pm_words.proofs.Uses.{again, has_fault, held}

-- the rows at the end, if no step fails
abbrev pub result : Kinds → List Row → Option (List Row)
result [] rows = Some rows
result (k ∷ ks) rows = None

abbrev pub end_of : Walk → List Text → Held
end_of at words = (fold (walked shape.rules []) at words).held

abbrev pub taken : Walk → List Text → Option (List Row)
taken at words = result (or_else (walk_fault shape [] at words) (settle_fault shape.rules again (end_of at words)))
    (settled shape.rules (end_of at words)).rows

-- a word that passes
pub goes : (at next : Walk) (word : Text) (rest : List Text) → turn_fault shape [] at word ≡ [] → walked shape.rules []
    at word ≡ next → taken at (word ∷ rest) ≡ taken next rest
unfolding walk_fault
goes at next word rest ok is = ap₂ (λ (f : Kinds) (v : Walk). result
    (or_else (or_else f (walk_fault shape [] v rest)) (settle_fault shape.rules again (end_of v rest)))
    (settled shape.rules (end_of v rest)).rows) ok is

stop_by : (f g h : Kinds) (rows : List Row) → has_fault f ≡ true → result (or_else (or_else f g) h) rows ≡ None
stop_by [] g h rows is = absurd (true≢false (sym is))
stop_by (k ∷ ks) g h rows is = refl

-- a word that is refused
pub stops : (at : Walk) (word : Text) (rest : List Text) → has_fault (turn_fault shape [] at word) ≡ true
    → taken at (word ∷ rest) ≡ None
unfolding walk_fault
stops at word rest is = stop_by (turn_fault shape [] at word) _ _ _ is

pub first_fault : (f g : Kinds) → has_fault f ≡ true → has_fault (or_else f g) ≡ true
first_fault [] g is = absurd (true≢false (sym is))
first_fault (k ∷ ks) g is = refl

pub later_fault : (f g : Kinds) → has_fault g ≡ true → has_fault (or_else f g) ≡ true
later_fault [] g is = is
later_fault (k ∷ ks) g is = refl

-- ---- where the walk stands

abbrev pub place : Bool → ℕ
place true = 2
place false = 1

abbrev pub at : List Row → Option (Text × List Text) → Waiting → Bool → Bool → Walk
at rows pending waiting trails b = record {
  held = held rows pending;
  waiting = waiting;
  position = place b;
  is_trailing = trails;
  stopped = None;
}

-- what waits is nothing, or an option
abbrev pub waits : Option Text → Waiting
waits None = idle
waits (Some name) = option name

-- ---- one word, by what it looks like

abbrev pub met_by : Option Text → Bool → Text → Held → Bool → Option (Text × Option Text) → Held × Step
met_by o b word h dash long = cond dash (h, trailing (place b)) (long_or_other shape.rules (waits o) word long h)

abbrev pub fault_by : Option Text → Bool → Text → Held → Bool → Option (Text × Option Text) → Kinds
fault_by o b word h dash long = or_else (cond dash [] (flag_word_fault shape.rules again long word h))
    (step_fault shape (place b) (met_by o b word h dash long).0 (met_by o b word h dash long).1)

pub fault_is : (o : Option Text) (b : Bool) (rows : List Row) (p : Option (Text × List Text)) (word : Text)
    (dash : Bool) (long : Option (Text × Option Text))
    → bytes_eq word (codes "--") ≡ dash → long_of word ≡ long → turn_fault shape [] (at rows p (waits o) false b) word
    ≡ fault_by o b word (held rows p) dash long
fault_is None b rows p word dash long d l = ap₂ (λ (x : Bool) (y : Option (Text × Option Text)). fault_by None b word
    (held rows p) x y) d l
fault_is (Some name) b rows p word dash long d l = ap₂ (λ (x : Bool) (y : Option (Text × Option Text)).
    fault_by (Some name) b word (held rows p) x y) d l

pub walked_is : (o : Option Text) (b : Bool) (rows : List Row) (p : Option (Text × List Text)) (word : Text)
    (dash : Bool) (long : Option (Text × Option Text))
    → bytes_eq word (codes "--") ≡ dash → long_of word ≡ long → walked shape.rules [] (at rows p (waits o) false b) word
    ≡ after_step shape.rules word (at rows p (waits o) false b) (met_by o b word (held rows p) dash long).0
    (met_by o b word (held rows p) dash long).1
unfolding walked
walked_is None b rows p word dash long d l = ap₂ (λ (x : Bool) (y : Option (Text × Option Text)).
    after_step shape.rules word (at rows p idle false b) (met_by None b word (held rows p) x y).0
    (met_by None b word (held rows p) x y).1) d l
walked_is (Some name) b rows p word dash long d l = ap₂ (λ (x : Bool) (y : Option (Text × Option Text)).
    after_step shape.rules word (at rows p (option name) false b) (met_by (Some name) b word (held rows p) x y).0
    (met_by (Some name) b word (held rows p) x y).1) d l

module _ (o : Option Text) (b : Bool) (rows : List Row) (p : Option (Text × List Text)) (word : Text) where
  abbrev pub here : Walk
  here = at rows p (waits o) false b

  -- ---- `--name` and `--name=value`, by the argument that is found

  abbrev pub long_fault_by : Option Rule → Option Text → Kinds
  long_fault_by a v = or_else (long_fault shape.rules again a v (held rows p))
      (step_fault shape (place b) (after_flag shape.rules (waits o) word (long_met shape.rules a v (held rows p)).0
      (long_met shape.rules a v (held rows p)).1).0
      (after_flag shape.rules (waits o) word (long_met shape.rules a v (held rows p)).0 (long_met shape.rules a v
      (held rows p)).1).1)

  abbrev pub long_walk_by : Option Rule → Option Text → Walk
  long_walk_by a v = after_step shape.rules word here
      (after_flag shape.rules (waits o) word (long_met shape.rules a v (held rows p)).0 (long_met shape.rules a v
      (held rows p)).1).0
      (after_flag shape.rules (waits o) word (long_met shape.rules a v (held rows p)).0 (long_met shape.rules a v
      (held rows p)).1).1

  pub long_fault_is : (name : Text) (v : Option Text) (a : Option Rule) → bytes_eq word (codes "--") ≡ false
      → long_of word ≡ Some (name, v) → arg_by_long shape.rules name ≡ a
      → turn_fault shape [] here word ≡ long_fault_by a v
  long_fault_is name v a d l is = fault_is o b rows p word false (Some (name, v)) d l ∙ ap (λ (x : Option Rule).
      long_fault_by x v) is

  pub long_walk_is : (name : Text) (v : Option Text) (a : Option Rule) → bytes_eq word (codes "--") ≡ false
      → long_of word ≡ Some (name, v) → arg_by_long shape.rules name ≡ a
      → walked shape.rules [] here word ≡ long_walk_by a v
  long_walk_is name v a d l is = walked_is o b rows p word false (Some (name, v)) d l ∙ ap (λ (x : Option Rule).
      long_walk_by x v) is

  -- the option or the flag is used at once
  pub used_now : (name : Text) (v : Option Text) (a : Rule) → bytes_eq word (codes "--") ≡ false → long_of word
      ≡ Some (name, v) → arg_by_long shape.rules name ≡ Some a
      → (vs : List Text) → long_fault_by (Some a) v ≡ or_else (react_fault shape.rules again a vs (held rows p)) []
      → long_walk_by (Some a) v ≡ at (used a vs (settled_rows shape.rules p rows)) None idle false b
      → (now after : List Row) → settle_fault shape.rules again (held rows p) ≡ [] → settled_rows shape.rules p rows
      ≡ now → use_fault again a vs now ≡ [] → used a vs now ≡ after
      → (rest : List Text) → taken here (word ∷ rest) ≡ taken (at after None idle false b) rest
  used_now name v a d l is vs fault walk now after ok settles use_ok uses rest = goes here (at after None idle false b)
      word rest
      (long_fault_is name v (Some a) d l is ∙ fault ∙ ap (λ (f : Kinds).
      or_else (or_else f (use_fault again a vs (settled_rows shape.rules p rows))) []) ok
      ∙ ap (λ (r : List Row). or_else (use_fault again a vs r) []) settles ∙ ap (λ (f : Kinds). or_else f []) use_ok)
      (long_walk_is name v (Some a) d l is ∙ walk ∙ ap (λ (r : List Row). at (used a vs r) None idle false b) settles
      ∙ ap (λ (r : List Row). at r None idle false b) uses)

  -- or its use is refused
  pub used_twice : (name : Text) (v : Option Text) (a : Rule) → bytes_eq word (codes "--") ≡ false → long_of word
      ≡ Some (name, v) → arg_by_long shape.rules name ≡ Some a
      → (vs : List Text) → long_fault_by (Some a) v ≡ or_else (react_fault shape.rules again a vs (held rows p)) []
      → (now : List Row) → settled_rows shape.rules p rows ≡ now → has_fault (use_fault again a vs now) ≡ true
      → (rest : List Text) → taken here (word ∷ rest) ≡ None
  used_twice name v a d l is vs fault now settles bad rest = stops here word rest
      (ap has_fault (long_fault_is name v (Some a) d l is ∙ fault)
      ∙ first_fault _ [] (later_fault (settle_fault shape.rules again (held rows p)) _
      (ap (λ (r : List Row). has_fault (use_fault again a vs r)) settles ∙ bad)))

  -- what was pending is refused
  pub long_stops : (name : Text) (v : Option Text) → bytes_eq word (codes "--") ≡ false → long_of word ≡ Some (name, v)
      → has_fault (settle_fault shape.rules again (held rows p)) ≡ true → (rest : List Text) → taken here (word ∷ rest)
      ≡ None
  long_stops name v d l bad rest = go (is_option name) refl (bytes_eq flag_name name) refl
    where
      by_option : (v : Option Text) → has_fault (long_fault_by (Some (option_rule name)) v) ≡ true
      by_option (Some x) = first_fault _ _ (first_fault _ _ bad)
      by_option None = first_fault _ _ bad

      by_flag : (v : Option Text) → has_fault (long_fault_by (Some flag_rule) v) ≡ true
      by_flag (Some x) = refl
      by_flag None = first_fault _ _ (first_fault _ _ bad)

      go : (t : Bool) → is_option name ≡ t → (f : Bool) → bytes_eq flag_name name ≡ f → taken here (word ∷ rest) ≡ None
      go true is f isf = stops here word rest (ap has_fault (long_fault_is name v _ d l (option_by_long name is))
          ∙ by_option v)
      go false is true isf = stops here word rest (ap has_fault (long_fault_is name v (Some flag_rule) d l
          (ap (arg_by_long shape.rules) (sym ((bytes_eq-Decides flag_name name).0 isf)) ∙ flag_by_long)) ∙ by_flag v)
      go false is false isf = stops here word rest (ap has_fault (long_fault_is name v None d l (no_other name isf is)))

  -- no such option or flag
  pub unknown_stops : (name : Text) (v : Option Text) → bytes_eq word (codes "--") ≡ false → long_of word
      ≡ Some (name, v)
      → arg_by_long shape.rules name ≡ None → (rest : List Text) → taken here (word ∷ rest) ≡ None
  unknown_stops name v d l none rest = stops here word rest (ap has_fault (long_fault_is name v None d l none))

  -- ---- `-abc`

  abbrev short_fault_by : Option Text → Kinds
  short_fault_by s = or_else (option_map_or (λ flags. bundle_fault shape.rules again flags (held rows p)) s [])
      (step_fault shape (place b) (short_or_plain shape.rules (waits o) word s (held rows p)).0
      (short_or_plain shape.rules (waits o) word s (held rows p)).1)

  abbrev short_walk_by : Option Text → Walk
  short_walk_by s = after_step shape.rules word here
      (short_or_plain shape.rules (waits o) word s (held rows p)).0 (short_or_plain shape.rules (waits o) word s
      (held rows p)).1

  abbrev pub plain_fault : Kinds
  plain_fault = step_fault shape (place b) (plain_word shape.rules (waits o) word (held rows p)).0
      (plain_word shape.rules (waits o) word (held rows p)).1

  abbrev pub plain_walk : Walk
  plain_walk = after_step shape.rules word here
      (plain_word shape.rules (waits o) word (held rows p)).0 (plain_word shape.rules (waits o) word (held rows p)).1

  no_such : (x : ℕ) (t : Text) (n : Held → Kinds) → has_fault (short_fault shape.rules again (arg_by_short shape.rules
      x) t (held rows p) n) ≡ true
  no_such x t n = ap (λ (a : Option Rule). has_fault (short_fault shape.rules again a t (held rows p) n)) (no_short x)

  bundle_bad : (flags : Text) (x : ℕ) → slice_get (chars flags) 0 ≡ Some x → has_fault (bundle_fault shape.rules again
      flags (held rows p)) ≡ true
  unfolding flags_fault chars
  bundle_bad [] x is = absurd (true≢false (ap is_some (sym is)))
  bundle_bad (f ∷ fs) x is = ap (λ (y : Option ℕ). has_fault (bundle_step_fault shape.rules again y (f ∷ fs) 0
      (held rows p) (flags_fault shape.rules again (length fs)))) is
      ∙ no_such x (drop (length (encode_utf8 x)) (f ∷ fs)) (flags_fault shape.rules again (length fs)
      (drop (length (encode_utf8 x)) (f ∷ fs)) 0)

  bundle_none : (flags : Text) → slice_get (chars flags) 0 ≡ None → bundle_fault shape.rules again flags (held rows p)
      ≡ []
  unfolding flags_fault
  bundle_none [] is = refl
  bundle_none (f ∷ fs) is = ap (λ (y : Option ℕ). bundle_step_fault shape.rules again y (f ∷ fs) 0 (held rows p)
      (flags_fault shape.rules again (length fs))) is

  bundle_left : (flags : Text) → slice_get (chars flags) 0 ≡ None → bundle shape.rules flags (held rows p)
      ≡ (held rows p, plain)
  unfolding bundle_met
  bundle_left [] is = refl
  bundle_left (f ∷ fs) is = ap (λ (y : Option ℕ). bundle_step shape.rules y (f ∷ fs) 0 plain (held rows p)
      (bundle_met shape.rules (length fs))) is

  pub short_stops : (flags : Text) (x : ℕ) → bytes_eq word (codes "--") ≡ false → long_of word ≡ None → short_of word
      ≡ Some flags → slice_get (chars flags) 0 ≡ Some x
      → (rest : List Text) → taken here (word ∷ rest) ≡ None
  short_stops flags x d l s is rest = stops here word rest (ap has_fault (fault_is o b rows p word false None d l
      ∙ ap short_fault_by s)
      ∙ first_fault _ _ (bundle_bad flags x is))

  -- a word that is no flag
  pub plain_fault_is : (s : Option Text) → bytes_eq word (codes "--") ≡ false → long_of word ≡ None → short_of word ≡ s
      → short_in s ≡ None → turn_fault shape [] here word ≡ plain_fault
  plain_fault_is None d l s none = fault_is o b rows p word false None d l ∙ ap short_fault_by s
  plain_fault_is (Some flags) d l s none = fault_is o b rows p word false None d l ∙ ap short_fault_by s
      ∙ ap₂ (λ (f : Kinds) (m : Held × Outcome). or_else f (step_fault shape (place b) (after_flag shape.rules (waits o)
      word m.0 m.1).0 (after_flag shape.rules (waits o) word m.0 m.1).1))
      (bundle_none flags none) (bundle_left flags none)

  pub plain_walk_is : (s : Option Text) → bytes_eq word (codes "--") ≡ false → long_of word ≡ None → short_of word ≡ s
      → short_in s ≡ None → walked shape.rules [] here word ≡ plain_walk
  plain_walk_is None d l s none = walked_is o b rows p word false None d l ∙ ap short_walk_by s
  plain_walk_is (Some flags) d l s none = walked_is o b rows p word false None d l ∙ ap short_walk_by s
      ∙ ap (λ (m : Held × Outcome). after_step shape.rules word here (after_flag shape.rules (waits o) word m.0 m.1).0
      (after_flag shape.rules (waits o) word m.0 m.1).1)
      (bundle_left flags none)
