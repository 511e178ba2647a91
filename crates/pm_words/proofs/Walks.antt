-- What the parser takes the words for, over all words.
use Rattle.std.proofs.Common.{◌≡◌, ◌∙◌, ◌&&◌, ◌||◌, ◌⊎◌, inl, inr, ℕ, Bool, cond, codes, true, false, refl, sym, ap, ap₂, List, [], ◌∷◌, ◌++◌, map, Option, Some, None, is_some, true≢false}
use Rattle.std.specs.Prelude.{option_and_then, nat_lt}
use Rattle.std.specs.Option.{option_map_or}
use Rattle.std.specs.Str.{bytes_eq}
use Rattle.std.proofs.lemmas.Slice.Eq.{bytes_eq-Decides}
use Rattle.clap.specs.Lexer.{long_of, short_of}
use Rattle.clap.specs.Walk.{Held, Row, Rule, Step, Waiting, Walk, idle, option, value, arg_by_id, arg_by_index, has_row, next, arg_by_long, is_pending, takes_several, option_word, pushed, settled, settled_rows, used, to_positional, walked, after_step}
use Rattle.clap.specs.Kinds.{Kinds, or_else}
use Rattle.clap.specs.Faults.{settle_fault, step_fault, use_fault, positional_fault, react_fault, turn_fault, stray_fault, walk_fault}
use Rattle.pm_words.specs.Line.{shape}
use Rattle.pm_words.specs.Words.{Text, Part, is_option, flag_name, mode_name, flag_part, positional, with_part, named_parts}
use Rattle.pm_words.proofs.Rules.{option_rule, mode_rule, flag_rule, option_by_long, option_by_id, flag_by_long, no_other, first_place, second_place, stray, no_mode}
use Rattle.pm_words.proofs.Taken.{taken_from, word_taken, value_taken, unless_short, short_in, part_row, once, bind_none, bind_same, bind_with}
use Rattle.pm_words.proofs.Uses.{again, has_fault, held, pend_parts, pend_held, AllValued, MeetsMode, Refuses, Settles, settles, repeat, fault_at, use_option, use_flag, used_option, used_flag}
use Rattle.pm_words.proofs.Turns.{taken, result, goes, stops, at, place, fault_is, walked_is, long_fault_is, long_fault_by, long_walk_by, used_now, used_twice, long_stops, unknown_stops, short_stops, plain_fault_is, plain_walk_is, long_walk_is}

-- ---- the end of the words

refused_end : (f : Kinds) (rows : List Row) → has_fault f ≡ true → result f rows ≡ None
refused_end [] rows is = absurd (true≢false (sym is))
refused_end (k ∷ ks) rows is = refl

end : (rows : List Row) (pend : Option Part) (b : Bool) (waiting : Waiting) (trails : Bool) → AllValued pend
    → MeetsMode rows pend b
    → taken (at rows (pend_held pend) waiting trails b) [] ≡ once rows (pend_parts pend ++ [])
unfolding once walk_fault
end rows pend b waiting trails valued meets = by (settles rows pend b valued meets)
  where
    by : Refuses rows pend ⊎ Settles rows pend b → taken (at rows (pend_held pend) waiting trails b) []
        ≡ once rows (pend_parts pend ++ [])
    by (inl bad) = refused_end _ _ bad.0 ∙ sym (bad.1 [])
    by (inr s) = ap₂ (λ (f : Kinds) (r : List Row). result f r) s.1 s.2 ∙ sym (s.4 [])

-- ---- a positional word

flag_found : (name : Text) → bytes_eq flag_name name ≡ true → arg_by_long shape.rules name ≡ Some flag_rule
flag_found name isf = ap (arg_by_long shape.rules) (sym ((bytes_eq-Decides flag_name name).0 isf)) ∙ flag_by_long

same_name : (name : Text) → bytes_eq name name ≡ true
same_name name = (bytes_eq-Decides name name).1 refl

and_false : (t : Bool) → (t && false) ≡ false
and_false true = refl
and_false false = refl

or_false : (t : Bool) → (t || false) ≡ t
or_false true = refl
or_false false = refl

abbrev trailing_at : Walk → Bool → Walk
trailing_at w u = record w { is_trailing = u }

module _ (rows : List Row) (p : Option (Text × List Text)) (word : Text) (trails : Bool) (waiting : Waiting) where
  abbrev after_positional : Bool → Walk
  after_positional t = record {
    held = Rattle.clap.specs.Walk.pushed mode_name word (cond t (held rows p) (settled shape.rules (held rows p)));
    waiting = idle;
    position = 2;
    is_trailing = trails;
    stopped = None;
  }

  -- the first
  pub positional_fault_is : step_fault shape 1 (held rows p) value ≡ settle_fault shape.rules again (held rows p)
  positional_fault_is = ap (λ (a : Option Rule). option_map_or (λ r. positional_fault shape.rules again r (held rows p))
      a (stray_fault shape)) first_place
      ∙ ap (λ (t : Bool). cond t [] (settle_fault shape.rules again (held rows p))) (and_false (is_pending mode_rule p))

  pub positional_walk_is : to_positional shape.rules (arg_by_index shape.rules 1) word (at rows p waiting trails false)
      (held rows p)
      ≡ at (settled_rows shape.rules p rows) (Some (mode_name, word ∷ [])) idle trails true
  positional_walk_is = ap (λ (a : Option Rule). to_positional shape.rules a word (at rows p waiting trails false)
      (held rows p)) first_place
      ∙ ap₂ (λ (t : Bool) (u : Bool). trailing_at (after_positional t) u) (and_false (is_pending mode_rule p))
      (or_false trails)

  -- a second
  pub stray_is : has_fault (step_fault shape 2 (held rows p) value) ≡ true
  stray_is = ap (λ (a : Option Rule). has_fault (option_map_or (λ r. positional_fault shape.rules again r (held rows p))
      a (stray_fault shape))) second_place
      ∙ ap has_fault stray

-- ---- the rows

row_more : (id : Text) (rs : List Row) (r : Row) → has_row id (rs ++ r ∷ []) ≡ (has_row id rs || bytes_eq r.id id)
row_more id [] r = or_false (bytes_eq r.id id)
row_more id (x ∷ rs) r = by (bytes_eq x.id id) (row_more id rs r)
  where
    by : (t : Bool) → has_row id (rs ++ r ∷ []) ≡ (has_row id rs || bytes_eq r.id id) → (t || has_row id (rs ++ r ∷ []))
        ≡ ((t || has_row id rs) || bytes_eq r.id id)
    by true is = refl
    by false is = is

-- an option or the flag is no positional word
no_more : (rs : List Row) (p : Part) → bytes_eq p.0 mode_name ≡ false → has_row mode_name rs ≡ has_row mode_name
    (rs ++ part_row p ∷ [])
no_more rs p is = sym (row_more mode_name rs (part_row p) ∙ ap (λ t. has_row mode_name rs || t) is
    ∙ or_false (has_row mode_name rs))

mode_met : (rs : List Row) (word : Text) → has_row mode_name rs ≡ false → true ≡ has_row mode_name
    (rs ++ part_row (positional word) ∷ [])
mode_met rs word is = sym (row_more mode_name rs (part_row (positional word))
    ∙ ap (λ t. t || bytes_eq mode_name mode_name) is)

once_more : (now : List Row) (p : Part) (ps : List Part) → has_row p.0 now ≡ false → once now (p ∷ ps)
    ≡ once (now ++ part_row p ∷ []) ps
unfolding once
once_more now p ps is = ap (λ t. cond t None (once (now ++ part_row p ∷ []) ps)) is

once_stop : (now : List Row) (p : Part) (ps : List Part) → has_row p.0 now ≡ true → once now (p ∷ ps) ≡ None
unfolding once
once_stop now p ps is = ap (λ t. cond t None (once (now ++ part_row p ∷ []) ps)) is

-- ---- a positional word, whatever is pending

module _ (rows : List Row) (pend : Option Part) (b : Bool) (valued : AllValued pend) (meets : MeetsMode rows pend b)
    (waiting : Waiting) (trails : Bool) (word : Text) (rest : List Text) where
  abbrev there : Walk
  there = at rows (pend_held pend) waiting trails b

  abbrev meant : Option (List Part) → Option (List Row)
  meant = option_and_then (λ ps. once rows (pend_parts pend ++ ps))

  positional_step : turn_fault shape [] there word ≡ step_fault shape (place b) (held rows (pend_held pend)) value
      → walked shape.rules [] there word ≡ to_positional shape.rules (arg_by_index shape.rules (place b)) word there
      (held rows (pend_held pend))
      → (n : Option (List Part))
      → ((now : List Row) → (has_row mode_name now ≡ false → true ≡ has_row mode_name (now ++ part_row (positional word)
      ∷ []))
      → taken (at now (Some (mode_name, word ∷ [])) idle trails true) rest ≡ option_and_then
      (λ ps. once now (positional word ∷ ps)) n)
      → taken there (word ∷ rest) ≡ meant (with_part (positional word) n)
  positional_step fault walk n onward = by (settles rows pend b valued meets) b refl
      ∙ sym (bind_with _ (positional word) n)
    where
      by : Refuses rows pend ⊎ Settles rows pend b → (c : Bool) → b ≡ c → taken there (word ∷ rest) ≡ option_and_then
          (λ ps. once rows (pend_parts pend ++ positional word ∷ ps)) n
      by (inl bad) true is = stops there word rest (ap has_fault
          (fault ∙ ap (λ c. step_fault shape (place c) (held rows (pend_held pend)) value) is) ∙ stray_is rows
          (pend_held pend) word trails waiting)
          ∙ sym (bind_none _ n (λ ps. bad.1 (positional word ∷ ps)))
      by (inl bad) false is = stops there word rest (ap has_fault
          (fault ∙ ap (λ c. step_fault shape (place c) (held rows (pend_held pend)) value) is ∙ positional_fault_is rows
          (pend_held pend) word trails waiting) ∙ bad.0)
          ∙ sym (bind_none _ n (λ ps. bad.1 (positional word ∷ ps)))
      by (inr s) true is = stops there word rest (ap has_fault
          (fault ∙ ap (λ c. step_fault shape (place c) (held rows (pend_held pend)) value) is) ∙ stray_is rows
          (pend_held pend) word trails waiting)
          ∙ sym (bind_none _ n (λ ps. s.4 (positional word ∷ ps) ∙ once_stop s.0 (positional word) ps (sym s.3 ∙ is)))
      by (inr s) false is = goes there (at s.0 (Some (mode_name, word ∷ [])) idle trails true) word rest
          (fault ∙ ap (λ c. step_fault shape (place c) (held rows (pend_held pend)) value) is ∙ positional_fault_is rows
          (pend_held pend) word trails waiting ∙ s.1)
          (walk ∙ ap (λ (c : Bool). to_positional shape.rules (arg_by_index shape.rules (place c)) word
          (at rows (pend_held pend) waiting trails c) (held rows (pend_held pend))) is
          ∙ positional_walk_is rows (pend_held pend) word trails waiting
          ∙ ap (λ (r : List Row). at r (Some (mode_name, word ∷ [])) idle trails true) s.2)
          ∙ onward s.0 (mode_met s.0 word) ∙ sym (bind_same _ _ n (λ ps. s.4 (positional word ∷ ps)))

-- ---- after `--`

trail : (rest : List Text) (rows : List Row) (pend : Option Part) (b : Bool) → AllValued pend → MeetsMode rows pend b
    → taken (at rows (pend_held pend) idle true b) rest ≡ once rows (pend_parts pend ++ map positional rest)
unfolding walked
trail [] rows pend b valued meets = end rows pend b idle true valued meets
trail (word ∷ rest) rows pend b valued meets = positional_step rows pend b valued meets idle true word rest refl refl
    (Some (map positional rest))
    (λ now met. trail rest now (Some (positional word)) true (inl refl) met)

waits_fault : (rows : List Row) (name : Text) → is_option name ≡ true → has_fault (fault_at rows (Some (name, [])))
    ≡ true
waits_fault rows name is = ap (λ (o : Option Rule). has_fault (option_map_or (λ a. use_fault again a [] rows) o []))
    (option_by_id name is)

dead : (rest : List Text) (rows : List Row) (name : Text) (b : Bool) → is_option name ≡ true
    → taken (at rows (Some (name, [])) (option name) true b) rest ≡ None
unfolding walk_fault
dead [] rows name b is = refused_end _ _ (waits_fault rows name is)
dead (word ∷ rest) rows name true is = stops (at rows (Some (name, [])) (option name) true true) word rest
    (stray_is rows (Some (name, [])) word true (option name))
dead (word ∷ rest) rows name false is = stops (at rows (Some (name, [])) (option name) true false) word rest
    (ap has_fault (positional_fault_is rows (Some (name, [])) word true (option name)) ∙ waits_fault rows name is)

-- ---- before it

abbrev IdleHolds : List Text → Type 0
IdleHolds rest = (rows : List Row) (pend : Option Part) (b : Bool) → AllValued pend → MeetsMode rows pend b
    → taken (at rows (pend_held pend) idle false b) rest ≡ option_and_then (λ ps. once rows (pend_parts pend ++ ps))
    (taken_from None rest)

abbrev WaitHolds : List Text → Type 0
WaitHolds rest = (rows : List Row) (name : Text) (b : Bool) → is_option name ≡ true → b ≡ has_row mode_name rows
    → taken (at rows (Some (name, [])) (option name) false b) rest ≡ option_and_then (once rows)
    (taken_from (Some name) rest)

module _ (word : Text) (rest : List Text) (idle_next : IdleHolds rest) (wait_next : WaitHolds rest) where
  module _ (rows : List Row) (pend : Option Part) (b : Bool) (valued : AllValued pend) (meets : MeetsMode rows pend b)
      (d : bytes_eq word (codes "--") ≡ false) where
    abbrev now_at : Walk
    now_at = at rows (pend_held pend) idle false b

    abbrev meaning : Option (List Part) → Option (List Row)
    meaning = option_and_then (λ ps. once rows (pend_parts pend ++ ps))

    -- the option or the flag with its value
    used_part : (name : Text) (v : Option Text) (a : Rule) (p : Part) → long_of word ≡ Some (name, v)
        → arg_by_long shape.rules name ≡ Some a → (vs : List Text)
        → long_fault_by None b rows (pend_held pend) word (Some a) v ≡ or_else (react_fault shape.rules again a vs
        (held rows (pend_held pend))) []
        → long_walk_by None b rows (pend_held pend) word (Some a) v
        ≡ at (used a vs (settled_rows shape.rules (pend_held pend) rows)) None idle false b
        → ((now : List Row) → use_fault again a vs now ≡ repeat (has_row p.0 now))
        → ((now : List Row) → has_row p.0 now ≡ false → used a vs now ≡ now ++ part_row p ∷ [])
        → bytes_eq p.0 mode_name ≡ false → taken now_at (word ∷ rest) ≡ meaning (with_part p (taken_from None rest))
    used_part name v a p l is vs fault walk uses used_is other = by (settles rows pend b valued meets)
        ∙ sym (bind_with _ p (taken_from None rest))
      where
        inner : (s : Settles rows pend b) → (t : Bool) → has_row p.0 s.0 ≡ t → taken now_at (word ∷ rest)
            ≡ option_and_then (λ ps. once rows (pend_parts pend ++ p ∷ ps)) (taken_from None rest)
        inner s true row = used_twice None b rows (pend_held pend) word name v a d l is vs fault s.0 s.2
            (ap has_fault (uses s.0 ∙ ap repeat row)) rest
            ∙ sym (bind_none _ (taken_from None rest) (λ ps. s.4 (p ∷ ps) ∙ once_stop s.0 p ps row))
        inner s false row = used_now None b rows (pend_held pend) word name v a d l is vs fault walk s.0
            (s.0 ++ part_row p ∷ []) s.1 s.2 (uses s.0 ∙ ap repeat row) (used_is s.0 row) rest
            ∙ idle_next (s.0 ++ part_row p ∷ []) None b tt (s.3 ∙ no_more s.0 p other)
            ∙ sym (bind_same _ _ (taken_from None rest) (λ ps. s.4 (p ∷ ps) ∙ once_more s.0 p ps row))

        by : Refuses rows pend ⊎ Settles rows pend b → taken now_at (word ∷ rest) ≡ option_and_then
            (λ ps. once rows (pend_parts pend ++ p ∷ ps)) (taken_from None rest)
        by (inl bad) = long_stops None b rows (pend_held pend) word name v d l bad.0 rest
            ∙ sym (bind_none _ (taken_from None rest) (λ ps. bad.1 (p ∷ ps)))
        by (inr s) = inner s (has_row p.0 s.0) refl

    option_waits : (name : Text) → long_of word ≡ Some (name, None) → is_option name ≡ true → taken now_at (word ∷ rest)
        ≡ meaning (taken_from (Some name) rest)
    option_waits name l is = by (settles rows pend b valued meets)
      where
        by : Refuses rows pend ⊎ Settles rows pend b → taken now_at (word ∷ rest)
            ≡ meaning (taken_from (Some name) rest)
        by (inl bad) = long_stops None b rows (pend_held pend) word name None d l bad.0 rest
            ∙ sym (bind_none _ (taken_from (Some name) rest) bad.1)
        by (inr s) = goes now_at (at s.0 (Some (name, [])) (option name) false b) word rest
            (long_fault_is None b rows (pend_held pend) word name None _ d l (option_by_long name is)
            ∙ ap (λ (f : Kinds). or_else f []) s.1)
            (long_walk_is None b rows (pend_held pend) word name None _ d l (option_by_long name is)
            ∙ ap (λ (r : List Row). at r (Some (name, [])) (option name) false b) s.2)
            ∙ wait_next s.0 name b is s.3 ∙ sym (bind_same _ _ (taken_from (Some name) rest) s.4)

    named : (name : Text) (v : Option Text) → long_of word ≡ Some (name, v) → (t : Bool) → is_option name ≡ t
        → (f : Bool) → bytes_eq flag_name name ≡ f
        → taken now_at (word ∷ rest) ≡ meaning (named_parts name v (taken_from None rest) (taken_from (Some name) rest))
    named name (Some x) l true is f isf = used_part name (Some x) (option_rule name) (name, x) l
        (option_by_long name is) (x ∷ []) refl refl
        (use_option name x) (used_option name x) (no_mode name is)
        ∙ sym (ap (λ t. meaning (cond t (with_part (name, x) (taken_from None rest)) None)) is)
    named name (Some x) l false is true isf = stops now_at word rest
        (ap has_fault (long_fault_is None b rows (pend_held pend) word name (Some x) (Some flag_rule) d l
        (flag_found name isf)))
        ∙ sym (ap (λ t. meaning (cond t (with_part (name, x) (taken_from None rest)) None)) is)
    named name (Some x) l false is false isf = unknown_stops None b rows (pend_held pend) word name (Some x) d l
        (no_other name isf is) rest
        ∙ sym (ap (λ t. meaning (cond t (with_part (name, x) (taken_from None rest)) None)) is)
    named name None l t is true isf = used_part name None flag_rule flag_part l (flag_found name isf) [] refl refl
        use_flag used_flag refl
        ∙ sym (ap (λ f. meaning (cond f (with_part flag_part (taken_from None rest))
        (cond (is_option name) (taken_from (Some name) rest) None))) isf)
    named name None l true is false isf = option_waits name l is
        ∙ sym (ap₂ (λ f t. meaning (cond f (with_part flag_part (taken_from None rest))
        (cond t (taken_from (Some name) rest) None))) isf is)
    named name None l false is false isf = unknown_stops None b rows (pend_held pend) word name None d l
        (no_other name isf is) rest
        ∙ sym (ap₂ (λ f t. meaning (cond f (with_part flag_part (taken_from None rest))
        (cond t (taken_from (Some name) rest) None))) isf is)

    plain_idle : (s : Option Text) → long_of word ≡ None → short_of word ≡ s → short_in s ≡ None
        → taken now_at (word ∷ rest) ≡ meaning (with_part (positional word) (taken_from None rest))
    plain_idle s l short none = positional_step rows pend b valued meets idle false word rest
        (plain_fault_is None b rows (pend_held pend) word s d l short none) (plain_walk_is None b rows (pend_held pend)
        word s d l short none)
        (taken_from None rest) (λ now met. idle_next now (Some (positional word)) true (inl refl) met)

    other_idle : (s : Option Text) → long_of word ≡ None → short_of word ≡ s → (x : Option ℕ) → short_in s ≡ x
        → taken now_at (word ∷ rest) ≡ meaning (unless_short x (with_part (positional word) (taken_from None rest)))
    other_idle s l short None is = plain_idle s l short is
    other_idle None l short (Some x) is = absurd (true≢false (ap is_some (sym is)))
    other_idle (Some flags) l short (Some x) is = short_stops None b rows (pend_held pend) word flags x d l short is
        rest

    word_idle : (long : Option (Text × Option Text)) → long_of word ≡ long
        → taken now_at (word ∷ rest) ≡ meaning (word_taken long word (taken_from None rest)
        (λ name. taken_from (Some name) rest))
    word_idle (Some p) l = named p.0 p.1 l (is_option p.0) refl (bytes_eq flag_name p.0) refl
    word_idle None l = other_idle (short_of word) l refl (short_in (short_of word)) refl

  idle_word : IdleHolds (word ∷ rest)
  unfolding taken_from
  idle_word rows pend b valued meets = by (bytes_eq word (codes "--")) refl
    where
      by : (dash : Bool) → bytes_eq word (codes "--") ≡ dash → taken (at rows (pend_held pend) idle false b)
          (word ∷ rest)
          ≡ option_and_then (λ ps. once rows (pend_parts pend ++ ps)) (cond dash (Some (map positional rest))
          (word_taken (long_of word) word (taken_from None rest) (λ name. taken_from (Some name) rest)))
      by true d = goes (at rows (pend_held pend) idle false b) (at rows (pend_held pend) idle true b) word rest
          (fault_is None b rows (pend_held pend) word true (long_of word) d refl)
          (walked_is None b rows (pend_held pend) word true (long_of word) d refl)
          ∙ trail rest rows pend b valued meets
      by false d = word_idle rows pend b valued meets d (long_of word) refl

  -- ---- an option waits for its value

  module _ (rows : List Row) (name : Text) (b : Bool) (is : is_option name ≡ true) (meets : b ≡ has_row mode_name rows)
    where
      abbrev wait_at : Walk
      wait_at = at rows (Some (name, [])) (option name) false b

      plain_wait : (s : Option Text) → bytes_eq word (codes "--") ≡ false → long_of word ≡ None → short_of word ≡ s
          → short_in s ≡ None
          → taken wait_at (word ∷ rest) ≡ option_and_then (once rows) (with_part (name, word) (taken_from None rest))
      plain_wait s d l short none = goes wait_at (at rows (Some (name, word ∷ [])) idle false b) word rest
          (plain_fault_is (Some name) b rows (Some (name, [])) word s d l short none)
          (plain_walk_is (Some name) b rows (Some (name, [])) word s d l short none
          ∙ ap (λ (o : Option Rule). after_step shape.rules word wait_at
          (option_word o name word (held rows (Some (name, [])))).0
          (next (option_word o name word (held rows (Some (name, [])))).1)) (option_by_id name is)
          ∙ ap (λ (t : Bool). at rows (Some (name, word ∷ [])) (cond (nat_lt (cond t 1 0) 1) (option name) idle) false b)
          (same_name name))
          ∙ idle_next rows (Some (name, word)) b (inr is) (λ row. meets ∙ no_more rows (name, word) (no_mode name is))
          ∙ sym (bind_with (once rows) (name, word) (taken_from None rest))

      other_wait : (s : Option Text) → bytes_eq word (codes "--") ≡ false → long_of word ≡ None → short_of word ≡ s
          → (x : Option ℕ) → short_in s ≡ x
          → taken wait_at (word ∷ rest) ≡ option_and_then (once rows)
          (unless_short x (with_part (name, word) (taken_from None rest)))
      other_wait s d l short None e = plain_wait s d l short e
      other_wait None d l short (Some x) e = absurd (true≢false (ap is_some (sym e)))
      other_wait (Some flags) d l short (Some x) e = short_stops (Some name) b rows (Some (name, [])) word flags x d l
          short e rest

      value_wait : bytes_eq word (codes "--") ≡ false → (long : Option (Text × Option Text)) → long_of word ≡ long
          → taken wait_at (word ∷ rest) ≡ option_and_then (once rows)
          (value_taken long word (with_part (name, word) (taken_from None rest)))
      value_wait d (Some p) l = long_stops (Some name) b rows (Some (name, [])) word p.0 p.1 d l
          (waits_fault rows name is) rest
      value_wait d None l = other_wait (short_of word) d l refl (short_in (short_of word)) refl

  wait_word : WaitHolds (word ∷ rest)
  unfolding taken_from
  wait_word rows name b is meets = by (bytes_eq word (codes "--")) refl
    where
      by : (dash : Bool) → bytes_eq word (codes "--") ≡ dash → taken (at rows (Some (name, [])) (option name) false b)
          (word ∷ rest)
          ≡ option_and_then (once rows) (cond dash None (value_taken (long_of word) word
          (with_part (name, word) (taken_from None rest))))
      by true d = goes (at rows (Some (name, [])) (option name) false b) (at rows (Some (name, [])) (option name) true
          b) word rest
          (fault_is (Some name) b rows (Some (name, [])) word true (long_of word) d refl) (walked_is (Some name) b rows
          (Some (name, [])) word true (long_of word) d refl)
          ∙ dead rest rows name b is
      by false d = value_wait rows name b is meets d (long_of word) refl

wait_end : WaitHolds []
unfolding taken_from walk_fault
wait_end rows name b is meets = refused_end _ _ (waits_fault rows name is)

idle_end : IdleHolds []
unfolding taken_from
idle_end rows pend b valued meets = end rows pend b idle false valued meets

both : (words : List Text) → IdleHolds words × WaitHolds words
both [] = (idle_end, wait_end)
both (word ∷ rest) = (idle_word word rest (both rest).0 (both rest).1, wait_word word rest (both rest).0 (both rest).1)

-- the walk over all the words, from the start
pub walk_is : (words : List Text) → taken (at [] None idle false false) words ≡ option_and_then (once [])
    (taken_from None words)
walk_is words = (both words).0 [] None false tt refl
