-- The slots of the records: one of them changes, or all forget what is below a line.
use Rattle.std.proofs.Common.{◌≡◌, ℕ, zero, suc, ◌+◌, ◌<◌, ◌≤◌, ◌^◌, ◌==◌, ◌||◌, ◌&&◌, not, ◌⊎◌, inl, inr, Bool, true, false, List, [], ◌∷◌, map, filter, get_or, set, length, Option, Some, None, refl, arith, ap, ap₂, sym, ◌∙◌, subst}
use Rattle.std.proofs.Math.ListN.{get_or-map}
use Rattle.std.proofs.lemmas.Bool.{cases_Bool, false≢true, cases_eq, cases_lt}
use Rattle.std.proofs.lemmas.Bool.Decides.{nat_tests}
use Rattle.std.proofs.lemmas.List.{ext_get_or, get_or_default, get_or-set_same, get_or-set_other, get_or_past, length-map, length-set}
use Rattle.pm_base.specs.declared.rows.CutRow.{CutRow}
use Rattle.pm_base.specs.declared.rows.PutRow.{PutRow}
use Rattle.pm_base.specs.declared.rows.ReadRow.{ReadRow}
use Rattle.pm_base.specs.declared.stamp.Line.{Line}
use Rattle.pm_base.specs.declared.value.Value.{Value}
use Rattle.pm_periods.specs.Records.{Record, trimmed, with_parts}
use Rattle.pm_routes.specs.declared.way.Way.{Way}
use Rattle.pm_routes.specs.declared.way.Way.TheVariants as way
use Rattle.pm_clp.specs.Kept.{AreRecords, IsRecordOf, TurnsUpTo, first_each, first_kept, trimmed_in}
use Rattle.pm_clp.specs.Laid.{AreLaid, IsBare, IsSlot}
use Rattle.pm_clp.proofs.Keeping.{Found, first-records, found-at, record_more, trim-records, turns_more}

-- slots are records
pub laid-records : (each : List (Option Record)) (n : ℕ) (here busy : ℕ → Bool) → AreLaid each n here busy → AreRecords each n
laid-records each n here busy l = record { of = λ v. (l.slots v).of; high = l.high }

-- a slot that was looked up
pub laid-found : (each : List (Option Record)) (n v : ℕ) (x : Option Record) (here busy : ℕ → Bool) → AreLaid each n here busy → v < length each → x ≡ get_or each v x → Found each n v x
laid-found each n v x here busy l low is = record { all = laid-records each n here busy l; below = low; is = is }

-- a slot of a higher limit, of which no less is told
pub slot-more : (n m : ℕ) (h b h2 b2 : Bool) (v : ℕ) (x : Option Record) → n ≤ m → (h2 ≡ false → h ≡ false) → (b2 ≡ false → b ≡ false) → IsSlot n h b v x → IsSlot m h2 b2 v x
slot-more n m h b h2 b2 v x e i j s = record { of = record_more n m v e x s.of; here = λ z. s.here (i z); busy = λ z. s.busy (j z) }

-- all slots
pub laid-more : (each : List (Option Record)) (n m : ℕ) (here busy here2 busy2 : ℕ → Bool) → AreLaid each n here busy → n ≤ m
    → ((w : ℕ) → here2 w ≡ false → here w ≡ false) → ((w : ℕ) → busy2 w ≡ false → busy w ≡ false) → AreLaid each m here2 busy2
laid-more each n m here busy here2 busy2 l e i j = record {
  slots = λ w. slot-more n m (here w) (busy w) (here2 w) (busy2 w) w (get_or each w None) e (i w) (j w) (l.slots w);
  high = (let h = l.high in omega arith);
  few = l.few;
}

-- one slot in the place of another
pub laid-set : (each : List (Option Record)) (n m v : ℕ) (x : Option Record) (here busy here2 busy2 : ℕ → Bool) → AreLaid each n here busy → n ≤ m → v < length each
    → ((w : ℕ) → (w ≡ v → ⊥) → here2 w ≡ false → here w ≡ false) → ((w : ℕ) → (w ≡ v → ⊥) → busy2 w ≡ false → busy w ≡ false)
    → IsSlot m (here2 v) (busy2 v) v x → AreLaid (set each v x) m here2 busy2
laid-set each n m v x here busy here2 busy2 l e low i j s = record {
  slots = λ w. at w (cases_eq w v);
  high = (let h = l.high in omega arith);
  few = subst (λ z. z < 2 ^ 32) (sym (length-set each v x)) l.few;
}
  where
    at : (w : ℕ) → (w ≡ v) ⊎ (w ≡ v → ⊥) → IsSlot m (here2 w) (busy2 w) w (get_or (set each v x) w None)
    at w (inl q) = subst (λ z. IsSlot m (here2 z) (busy2 z) z (get_or (set each v x) z None)) (sym q)
        (subst (IsSlot m (here2 v) (busy2 v) v) (sym (get_or-set_same each v x None low)) s)
    at w (inr d) = subst (IsSlot m (here2 w) (busy2 w) w) (sym (get_or-set_other each v w x None d))
        (slot-more n m (here w) (busy w) (here2 w) (busy2 w) w (get_or each w None) e (i w d) (j w d) (l.slots w))

-- a number in a set to which it was added, and others
pub added_in : (v : ℕ) (a b : Bool) → b ≡ (v == v || a) → b ≡ true
added_in v a b e = grind (arith, nat_tests)

pub added_less : (v w : ℕ) (a b : Bool) → b ≡ (v == w || a) → b ≡ false → a ≡ false
added_less v w a b e f = elim (cases_Bool (v == w)) [
  | inl q ↦ absurd (let t : b ≡ true = rw (e, q) refl in cc)
  | inr q ↦ (let t : b ≡ a = rw (e, q) refl in sym t ∙ f)
]

pub removed_same : (v w : ℕ) (a b : Bool) → b ≡ (not (v == w) && a) → (w ≡ v → ⊥) → b ≡ a
removed_same v w a b e d = (let q : (v == w) ≡ false = grind (arith, nat_tests) in rw (e, q) refl)

-- a record takes a letter, and may have rows then
pub laid-letter : (each : List (Option Record)) (n m v : ℕ) (old new : Option Record) (here busy busy2 : ℕ → Bool) → AreLaid each n here busy → n ≤ m → Found each n v old
    → ((w : ℕ) → busy2 w ≡ (v == w || busy w)) → IsRecordOf m v new → (old ≡ None → new ≡ None) → AreLaid (set each v new) m here busy2
laid-letter each n m v old new here busy busy2 l e f added of none =
    laid-set each n m v new here busy here busy2 l e f.below (λ w d q. q) (λ w d q. added_less v w (busy w) (busy2 w) (added w) q) (record {
      of = of;
      here = λ q. none (found-at each n v old f ∙ (l.slots v).here q);
      busy = λ q. absurd (let t = added_in v (busy v) (busy2 v) (added v) in false≢true (sym q ∙ t));
    })

-- a record leaves
pub laid-take : (each : List (Option Record)) (n v : ℕ) (new : Option Record) (here busy here2 busy2 : ℕ → Bool) → AreLaid each n here busy → v < length each → new ≡ None
    → ((w : ℕ) → here2 w ≡ (not (v == w) && here w)) → ((w : ℕ) → busy2 w ≡ (not (v == w) && busy w)) → AreLaid (set each v new) n here2 busy2
laid-take each n v new here busy here2 busy2 l low is gone free =
    laid-set each n n v new here busy here2 busy2 l (omega arith) low
    (λ w d q. sym (removed_same v w (here w) (here2 w) (gone w) d) ∙ q)
    (λ w d q. sym (removed_same v w (busy w) (busy2 w) (free w) d) ∙ q)
    (subst (IsSlot n (here2 v) (busy2 v) v) (sym is) (record { of = tt; here = λ q. refl; busy = λ q. tt }))

-- a record comes
pub laid-install : (each : List (Option Record)) (n v : ℕ) (new : Option Record) (held : Record) (here busy here2 busy2 : ℕ → Bool) → AreLaid each n here busy → v < length each
    → new ≡ Some held → held.var ≡ v → TurnsUpTo (2 ^ 32) held.parts
    → ((w : ℕ) → here2 w ≡ (v == w || here w)) → ((w : ℕ) → busy2 w ≡ (v == w || busy w)) → AreLaid (set each v new) n here2 busy2
laid-install each n v new held here busy here2 busy2 l low is var turns came marked =
    laid-set each n n v new here busy here2 busy2 l (omega arith) low
    (λ w d q. added_less v w (here w) (here2 w) (came w) q) (λ w d q. added_less v w (busy w) (busy2 w) (marked w) q)
    (subst (IsSlot n (here2 v) (busy2 v) v) (sym is) (record {
      of = (var, turns_more (2 ^ 32) n l.high held.parts.reads turns);
      here = λ q. absurd (false≢true (sym q ∙ added_in v (here v) (here2 v) (came v)));
      busy = λ q. absurd (false≢true (sym q ∙ added_in v (busy v) (busy2 v) (marked v)));
    }))

-- the first records are bare
pub first_bare : (v : ℕ) (ys : List Way) (xs : List Value) (w : ℕ) → IsBare (get_or (first_each v ys xs) w None)
first_bare v [] xs w = tt
first_bare v (y ∷ ys) [] w = tt
first_bare v (way.Here ∷ ys) (x ∷ xs) zero = (refl, (refl, refl))
first_bare v (way.Port d ∷ ys) (x ∷ xs) zero = tt
first_bare v (y ∷ ys) (x ∷ xs) (suc w) = first_bare (suc v) ys xs w

first_length : (v : ℕ) (ys : List Way) (xs : List Value) → length (first_each v ys xs) ≤ length ys
first_length v [] xs = omega arith
first_length v (y ∷ ys) [] = omega arith
first_length v (y ∷ ys) (x ∷ xs) = (let m = first_length (suc v) ys xs in omega (arith, m))

pub first_few : (each : List (Option Record)) (ys : List Way) (xs : List Value) → each ≡ first_each 0 ys xs → length ys < 2 ^ 32 → length each < 2 ^ 32
first_few each ys xs is few = (let m = first_length 0 ys xs in let e : length each ≡ length (first_each 0 ys xs) = ap length is in omega (arith, m, e, few))

pub first-laid : (each : List (Option Record)) (ys : List Way) (xs : List Value) (here busy : ℕ → Bool) → each ≡ first_each 0 ys xs → length ys < 2 ^ 32
    → ((v : ℕ) → here v ≡ false → get_or each v None ≡ None) → AreLaid each (2 ^ 32) here busy
first-laid each ys xs here busy is few absent = record {
  slots = λ v. record {
    of = are.of v;
    here = absent v;
    busy = λ q. subst (λ z. IsBare (get_or z v None)) (sym is) (first_bare 0 ys xs v);
  };
  high = are.high;
  few = first_few each ys xs is few;
}
  where
    are : AreRecords each (2 ^ 32)
    are = subst (λ z. AreRecords z (2 ^ 32)) (sym is) (first-records ys xs)

-- the variables that have a record, up to one more
pub taken-more : (each : List (Option Record)) (v : ℕ) (x : Option Record) (old new : ℕ → Bool) → ((w : ℕ) → w < v → old w ≡ false → get_or each w None ≡ None)
    → ((w : ℕ) → new w ≡ false → old w ≡ false) → (new v ≡ false → x ≡ None) → x ≡ get_or each v x → v < length each
    → (w : ℕ) → w < v + 1 → new w ≡ false → get_or each w None ≡ None
taken-more each v x old new before others this is low w i q = elim (cases_eq w v) [
  | inl e ↦ subst (λ z. get_or each z None ≡ None) (sym e)
      (get_or_default each v None x low ∙ sym is ∙ this (subst (λ z. new z ≡ false) e q))
  | inr d ↦ before w (grind (arith, d, i)) (others w q)
]

pub taken_all : (each : List (Option Record)) (v : ℕ) (here : ℕ → Bool) → ((w : ℕ) → w < v → here w ≡ false → get_or each w None ≡ None) → length each ≤ v
    → (w : ℕ) → here w ≡ false → get_or each w None ≡ None
taken_all each v here all past w q = elim (cases_lt w v) [
  | inl i ↦ all w i q
  | inr j ↦ get_or_past each w None (omega (arith, j, past))
]

-- a record without rows is as it is without what is below a line
bare_parts : (l : Line) (base : Value) (puts : List PutRow) (cuts : List CutRow) (reads : List ReadRow) → puts ≡ [] → cuts ≡ [] → reads ≡ []
    → trimmed l (record { base = base; puts = puts; cuts = cuts; reads = reads }) ≡ record { base = base; puts = puts; cuts = cuts; reads = reads }
bare_parts l base puts cuts reads a c q = rw (a, c, q) refl

pub bare_trimmed : (l : Line) (x : Option Record) → IsBare x → trimmed_in l x ≡ x
bare_trimmed l None b = refl
bare_trimmed l (Some r) b =
    ap (λ z. Some (with_parts r z)) (bare_parts l r.parts.base r.parts.puts r.parts.cuts r.parts.reads b.0 b.1.0 b.1.1)

-- on the way through the slots: those below `at` have forgotten what is below the line, and those from there on are as
-- they were
pub record Trimming (l : Line) (each0 each : List (Option Record)) (busy0 busy : ℕ → Bool) (at : ℕ) : Type 0 where
  pub len : length each ≡ length each0
  pub done : (v : ℕ) → v < at → get_or each v None ≡ trimmed_in l (get_or each0 v None)
  pub rest : (v : ℕ) → at ≤ v → get_or each v None ≡ get_or each0 v None
  pub clean : (v : ℕ) → v < at → busy v ≡ false → IsBare (get_or each v None)
  pub same : (v : ℕ) → at ≤ v → busy v ≡ busy0 v

-- no slot before the first busy one has to forget anything
pub trim-start : (l : Line) (each : List (Option Record)) (n at : ℕ) (here busy : ℕ → Bool) → AreLaid each n here busy
    → ((v : ℕ) → 0 ≤ v → v < at → busy v ≡ false) → Trimming l each each busy busy at
trim-start l each n at here busy laid free = record {
  len = refl;
  done = λ v i. sym (bare_trimmed l (get_or each v None) ((laid.slots v).busy (free v (omega arith) i)));
  rest = λ v i. refl;
  clean = λ v i f. (laid.slots v).busy f;
  same = λ v i. refl;
}

-- one slot forgets, and so have those up to the next busy one
pub trim-step : (l : Line) (each0 each each2 : List (Option Record)) (n at at2 : ℕ) (here busy0 busy busy2 : ℕ → Bool) → AreLaid each0 n here busy0
    → Trimming l each0 each busy0 busy at → at < length each → each2 ≡ set each at (trimmed_in l (get_or each at None))
    → ((w : ℕ) → (w ≡ at → ⊥) → busy2 w ≡ busy w) → (busy2 at ≡ false → IsBare (trimmed_in l (get_or each at None)))
    → at + 1 ≤ at2 → ((v : ℕ) → at + 1 ≤ v → v < at2 → busy2 v ≡ false) → Trimming l each0 each2 busy0 busy2 at2
trim-step l each0 each each2 n at at2 here busy0 busy busy2 laid t low is others bare up free = record {
  len = ap length is ∙ length-set each at new ∙ t.len;
  done = λ v i. done v i (cases_eq v at);
  rest = λ v i. other v (λ q. absurd (omega (arith, q, i, up))) ∙ t.rest v (omega (arith, i, up));
  clean = λ v i f. clean v i f (cases_eq v at);
  same = λ v i. others v (λ q. absurd (omega (arith, q, i, up))) ∙ t.same v (omega (arith, i, up));
}
  where
    new : Option Record
    new = trimmed_in l (get_or each at None)

    here-is : get_or each2 at None ≡ new
    here-is = ap (λ z. get_or z at None) is ∙ get_or-set_same each at new None low

    other : (v : ℕ) → (v ≡ at → ⊥) → get_or each2 v None ≡ get_or each v None
    other v d = ap (λ z. get_or z v None) is ∙ get_or-set_other each at v new None d

    free-of : (v : ℕ) → at + 1 ≤ v → v < at2 → IsBare (get_or each0 v None)
    free-of v i j = (laid.slots v).busy (sym (t.same v (omega (arith, i))) ∙ sym (others v (λ q. absurd (omega (arith, q, i)))) ∙ free v i j)

    after : (v : ℕ) → at + 1 ≤ v → get_or each2 v None ≡ get_or each0 v None
    after v i = other v (λ q. absurd (omega (arith, q, i))) ∙ t.rest v (omega (arith, i))

    later : (v : ℕ) → (v ≡ at → ⊥) → at ≤ v → at + 1 ≤ v
    later v d j = grind (arith, d, j)

    done : (v : ℕ) → v < at2 → (v ≡ at) ⊎ (v ≡ at → ⊥) → get_or each2 v None ≡ trimmed_in l (get_or each0 v None)
    done v i (inl q) = subst (λ z. get_or each2 z None ≡ trimmed_in l (get_or each0 z None)) (sym q)
        (here-is ∙ ap (trimmed_in l) (t.rest at (omega arith)))
    done v i (inr d) = elim (cases_lt v at) [
      | inl j ↦ other v d ∙ t.done v j
      | inr j ↦ (let k : at + 1 ≤ v = later v d j in after v k ∙ sym (bare_trimmed l (get_or each0 v None) (free-of v k i)))
    ]

    clean : (v : ℕ) → v < at2 → busy2 v ≡ false → (v ≡ at) ⊎ (v ≡ at → ⊥) → IsBare (get_or each2 v None)
    clean v i f (inl q) = subst (λ z. IsBare (get_or each2 z None)) (sym q)
        (subst IsBare (sym here-is) (bare (subst (λ z. busy2 z ≡ false) q f)))
    clean v i f (inr d) = elim (cases_lt v at) [
      | inl j ↦ subst IsBare (sym (other v d)) (t.clean v j (sym (others v d) ∙ f))
      | inr j ↦ (let k : at + 1 ≤ v = later v d j in subst IsBare (sym (after v k)) (free-of v k i))
    ]

-- at the end all have
pub trim-all : (l : Line) (each0 each : List (Option Record)) (busy0 busy : ℕ → Bool) (at : ℕ) → Trimming l each0 each busy0 busy at → length each0 ≤ at
    → each ≡ map (trimmed_in l) each0
trim-all l each0 each busy0 busy at t low =
    ext_get_or None each (map (trimmed_in l) each0) (t.len ∙ sym (length-map each0 (trimmed_in l)))
    (λ v i. t.done v (let k = t.len in omega (arith, k, i, low)) ∙ sym (get_or-map (trimmed_in l) each0 v None))

pub trim-laid : (l : Line) (each0 each : List (Option Record)) (n at : ℕ) (here busy0 busy : ℕ → Bool) → AreLaid each0 n here busy0
    → Trimming l each0 each busy0 busy at → length each0 ≤ at → AreLaid each n here busy
trim-laid l each0 each n at here busy0 busy laid t low = record {
  slots = λ v. record {
    of = are.of v;
    here = λ f. ap (λ z. get_or z v None) all ∙ get_or-map (trimmed_in l) each0 v None ∙ ap (trimmed_in l) ((laid.slots v).here f);
    busy = λ f. elim (cases_lt v at) [
      | inl i ↦ t.clean v i f
      | inr i ↦ subst IsBare (sym (get_or_past each v None (let k = t.len in omega (arith, k, i, low)))) tt
    ];
  };
  high = laid.high;
  few = (let k = t.len in let f = laid.few in omega (arith, k, f));
}
  where
    all : each ≡ map (trimmed_in l) each0
    all = trim-all l each0 each busy0 busy at t low

    are : AreRecords each n
    are = subst (λ z. AreRecords z n) (sym all) (trim-records l each0 n (laid-records each0 n here busy0 laid))
