-- Each kind of step keeps the rule.
use Rattle.std.proofs.Common.{◌≡◌, ℕ, zero, suc, ◌+◌, ◌<◌, ◌≤◌, List, [], ◌∷◌, length, get_or, set, map, replicate, Option, Some, sym, refl, ap, ◌∙◌, subst, ⊎_elim, arith, length-set, eqb}
use mathlib.Core.Logic.{dite}
use native.Mathlib.Decide.{ℕ_discrete}
use mathlib.Core.Option as maybe
use lib.ListN.{get_elem?}
use Rattle.std.proofs.lemmas.List.{set-get_or, get_or-set_same, get_or-set_other, length-replicate}
use prog.Atomic.{either}
use Rattle.atomic_table.specs.Table.{State, Me, rest, Final, Seen, Act, keeps, takes, gives, Valid, stepped, carried_after, Allows, Splits, Joins, opening}
use Rattle.atomic_table.proofs.Lists.{at_set, set_here, set_else, at_snoc, exchanged}
use Rattle.pm_turn.specs.Sums.{total, times}
use Rattle.pm_turn.specs.declared.view.View.{View}
use Rattle.pm_turn.specs.Rule.{FitsMark, TurnKept, ViewKept, Kept, Took}
use Rattle.pm_turn.specs.Views.{opened, opened_with, halved, joined, spent, tail, given}
use Rattle.pm_turn.proofs.Sums.{times_same, times_other, total-append, total-set, alone}

module _ {T : Type 0} (fits : T → T → Type 0) (marks : List T) where
  abbrev St : Type 0
  St = State (Option T) (View T)

  abbrev holders : ℕ → View T → ℕ
  holders j v = times j v.holds

  next_kept : (s : St) (id : ℕ) (v w : View T) (ws : List ℕ) (hs : List (maybe.Option (Option T))) → Kept fits marks s
      → get_elem? s.views id ≡ maybe.some v
      → 0 < v.shares → w.shares ≡ v.shares → w.marks ≡ v.marks → length ws ≡ length s.words → length hs ≡ length s.homes
      → ((i : ℕ) → i < length marks → TurnKept fits marks ws hs (set s.views id w) i)
      → Kept fits marks (record { words = ws; homes = hs; views = set s.views id w })
  next_kept s id v w ws hs kept at some same_shares same_marks long wide turns = record {
    count = long ∙ kept.count;
    slots = wide ∙ kept.slots;
    turns = turns;
    shares = omega (arith, total-set (λ (u : View T). u.shares) s.views id v w at, same_shares, kept.shares);
    views = λ port u e. ⊎_elim
        (λ t. subst (λ (x : View T). ViewKept fits marks x) t.1 (
          (λ none. absurd (omega (arith, same_shares))),
          (λ _. same_marks ∙ (kept.views id v at).1 some),
        ))
        (λ t. kept.views port u t.1)
        (at_set s.views id port w u e);
  }

  pub tries : (slots id i : ℕ) (me : Me (Option T) (View T)) → 0 < me.0.shares → i < length marks
      → Allows (Kept fits marks) slots id me i (λ n. either (eqb n 0) 1 n) (Took fits i me)
  tries slots id i me some inside s kept wide at small =
      let n : ℕ = get_or s.words i 0 in
      let v : View T = me.0 in
      let near : i < length s.words = omega (arith, kept.count) in
      let known : v.marks ≡ marks = (kept.views id v at).1 some in
      let G : ℕ → Type 0 = λ x. (w : View T) × (a : Act (Option T)) × Valid s.homes me.1 a
      × Kept fits marks (stepped s i x id me.1 w a) × Took fits i me n (w, carried_after me.1 a) in
      exchanged n 0 1 G
      (λ free.
      let home = (kept.turns i inside).home free in
      let x : T = home.0 in
      let w : View T = record v { holds = i ∷ v.holds; tries = v.tries + 1; last = n } in (
        w,
        takes i (Some x),
        home.1,
        next_kept s id v w (set s.words i 1) (set s.homes i maybe.none) kept at some refl refl
            (length-set s.words i 1) (length-set s.homes i maybe.none)
            (λ j lt. let old = kept.turns j lt in let sum = total-set (holders j) s.views id v w at in
            dite (ℕ_discrete j i)
            (λ is. let one : get_or (set s.words i 1) j 0 ≡ 1 = ap (λ (k : ℕ). get_or (set s.words i 1) k 0) is
            ∙ get_or-set_same s.words i 1 0 near in
            let was : get_or s.words j 0 ≡ 0 = ap (λ (k : ℕ). get_or s.words k 0) is ∙ free in
            let more : times j (i ∷ v.holds) ≡ 1 + times j v.holds =
            subst (λ (k : ℕ). times j (k ∷ v.holds) ≡ 1 + times j v.holds) is (times_same j v.holds) in
            record {
              bit = omega (arith, one);
              holders = omega (arith, one, sum, more, old.holders, was);
              home = λ zero'. absurd (omega (arith, one));
            })
            (λ ne. let same : get_or (set s.words i 1) j 0 ≡ get_or s.words j 0 =
            get_or-set_other s.words i j 1 0 ne in
            let more : times j (i ∷ v.holds) ≡ times j v.holds = times_other j i v.holds ne in record {
              bit = omega (arith, same, old.bit);
              holders = omega (arith, same, sum, more, old.holders);
              home = λ zero'. let h = old.home (omega (arith, same)) in
                  (h.0, set_else s.homes i j maybe.none ne ∙ h.1, h.2);
            })),
        record {
          tries = refl;
          last = refl;
          shares = refl;
          marks = refl;
          taken = λ _. (
            refl,
            (x, refl, subst (λ (ms : List T). FitsMark fits ms i x) (sym known) home.2),
          );
          missed =
              λ ne. absurd (ne free);
        },
      ))
      (λ held.
      let w : View T = record v { tries = v.tries + 1; last = n } in
      let same : set s.words i n ≡ s.words = set-get_or s.words i 0 in (
        w,
        keeps,
        tt,
        next_kept s id v w (set s.words i n) s.homes kept at some refl refl (length-set s.words i n) refl
            (λ j lt. let old = kept.turns j lt in let sum = total-set (holders j) s.views id v w at in
            let here : get_or (set s.words i n) j 0 ≡ get_or s.words j 0 =
            ap (λ (ws : List ℕ). get_or ws j 0) same in record {
              bit = omega (arith, here, old.bit);
              holders = omega (arith, here, sum, old.holders);
              home = λ zero'. old.home (omega (arith, here));
            }),
        record {
          tries = refl;
          last = refl;
          shares = refl;
          marks = refl;
          taken =
              λ free. absurd (held free);
          missed = λ _. (refl, refl);
        },
      ))

  pub releases : (slots id i : ℕ) (me : Me (Option T) (View T)) (hs : List ℕ) (x : T) (more : List (ℕ × Option T))
      → 0 < me.0.shares → i < length marks
      → me.0.holds ≡ i ∷ hs → me.1 ≡ (i, Some x) ∷ more → FitsMark fits marks i x
      → Allows (Kept fits marks) slots id me i (λ _. 0) (λ _ n. n ≡ given me)
  releases slots id i me hs x more some inside held out ok s kept wide at small =
      let v : View T = me.0 in
      let w : View T = record v { holds = tail v.holds } in
      let near : i < length s.words = omega (arith, kept.count) in
      let at_home : i < length s.homes = omega (arith, kept.slots) in
      let back : carried_after me.1 gives ≡ rest me.1 = refl in
      let P : List (ℕ × Option T) → Type 0 = λ c. Kept fits marks (stepped s i 0 id c w gives) in (
        w,
        gives,
        tt,
        subst P (sym out) (next_kept s id v w (set s.words i 0) (set s.homes i (maybe.some (Some x)))
            kept at some refl refl
            (length-set s.words i 0) (length-set s.homes i (maybe.some (Some x)))
            (λ j lt. let old = kept.turns j lt in let sum = total-set (holders j) s.views id v w at in
            let before : times j v.holds ≡ times j (i ∷ hs) = ap (times j) held in
            let after : times j w.holds ≡ times j hs = ap (λ (h : List ℕ). times j (tail h)) held in
            dite (ℕ_discrete j i)
            (λ is. let none : get_or (set s.words i 0) j 0 ≡ 0 = ap (λ (k : ℕ). get_or (set s.words i 0) k 0) is
            ∙ get_or-set_same s.words i 0 0 near in
            let one : times j (i ∷ hs) ≡ 1 + times j hs =
            subst (λ (k : ℕ). times j (k ∷ hs) ≡ 1 + times j hs) is (times_same j hs) in record {
              bit = omega (arith, none);
              holders = omega (arith, none, sum, before, after, one, old.holders, old.bit);
              home = λ _. (
                x,
                ap (λ (k : ℕ). get_elem? (set s.homes i (maybe.some (Some x))) k) is
                    ∙ set_here s.homes i (maybe.some (Some x)) at_home,
                subst (λ (k : ℕ). FitsMark fits marks k x) (sym is) ok,
              );
            })
            (λ ne. let same : get_or (set s.words i 0) j 0 ≡ get_or s.words j 0 = get_or-set_other s.words i j 0 0 ne in
            let none : times j (i ∷ hs) ≡ times j hs = times_other j i hs ne in record {
              bit = omega (arith, same, old.bit);
              holders = omega (arith, same, sum, before, after, none, old.holders);
              home = λ zero'. let h = old.home (omega (arith, same)) in
                  (h.0, set_else s.homes i j (maybe.some (Some x)) ne ∙ h.1, h.2);
            }))),
        refl,
      )

  pub splits : (id : ℕ) (v : View T) → 2 ≤ v.shares → Splits (Kept fits marks) id v (halved v) (opened_with v.marks 1)
  splits id v some s kept at =
      let w : View T = halved v in
      let u : View T = opened_with v.marks 1 in
      let known : v.marks ≡ marks = (kept.views id v at).1 (omega arith) in
      let kept_w : ViewKept fits marks w = ((λ none. absurd (omega (arith, none, some))), (λ _. known)) in
      let kept_u : ViewKept fits marks u = ((λ none. absurd (omega (arith, none))), (λ _. known)) in record {
        count = kept.count;
        slots = kept.slots;
        turns = λ j lt. let old = kept.turns j lt in
            let sum = total-set (holders j) s.views id v w at in
            let all = total-append (holders j) (set s.views id w) (u ∷ []) in record {
              bit = old.bit;
              holders = omega (arith, sum, all, old.holders);
              home = old.home;
            };
        shares =
            let sum = total-set (λ (z : View T). z.shares) s.views id v w at in
            let all = total-append (λ (z : View T). z.shares) (set s.views id w) (u ∷ []) in
            omega (arith, sum, all, kept.shares);
        views = λ port z e. ⊎_elim
            (λ here. ⊎_elim
            (λ t. subst (λ (y : View T). ViewKept fits marks y) t.1 kept_w)
            (λ t. kept.views port z t.1)
            (at_set s.views id port w z here))
            (λ new. subst (λ (y : View T). ViewKept fits marks y) new kept_u)
            (at_snoc (set s.views id w) u z port e);
      }

  pub joins : (id : ℕ) (v : View T) (other : ℕ) (u : View T) → 0 < v.shares → u.holds ≡ []
      → Joins (Kept fits marks) id v other u (joined v u) spent
  joins id v other u some none s kept at apart at' =
      let w : View T = joined v u in
      let vs : List (View T) = set s.views id w in
      let known : v.marks ≡ marks = (kept.views id v at).1 some in record {
        count = kept.count;
        slots = kept.slots;
        turns = λ j lt. let old = kept.turns j lt in
            let one = total-set (holders j) s.views id v w at in
            let two = total-set (holders j) vs other u spent at' in
            let zero' : times j u.holds ≡ 0 = ap (times j) none in record {
              bit = old.bit;
              holders = omega (arith, one, two, zero', old.holders);
              home = old.home;
            };
        shares =
            let one = total-set (λ (z : View T). z.shares) s.views id v w at in
            let two = total-set (λ (z : View T). z.shares) vs other u spent at' in omega (arith, one, two, kept.shares);
        views = λ port z e. ⊎_elim
            (λ t. subst (λ (y : View T). ViewKept fits marks y) t.1 ((λ _. refl), (λ more. absurd (omega arith))))
            (λ t. ⊎_elim
            (λ t'. subst (λ (y : View T). ViewKept fits marks y) t'.1 (
              (λ none'. absurd (omega arith)),
              (λ _. known),
            ))
            (λ t'. kept.views port z t'.1)
            (at_set s.views id port w z t.1))
            (at_set vs other port spent z e);
      }

  some_of : {A : Type 0} (xs : List A) (i : ℕ) (a : A) → get_elem? xs i ≡ maybe.some a
      → get_elem? (map maybe.some (map Some xs)) i ≡ maybe.some (maybe.some (Some a))
  some_of [] i a e = absurd (maybe.some-ne-none a (sym e))
  some_of (x ∷ xs) zero a e = ap (λ y. maybe.some (maybe.some (Some y))) (maybe.some-injective x a e)
  some_of (x ∷ xs) (suc i) a e = some_of xs i a e

  there : {A : Type 0} (xs : List A) (i : ℕ) → i < length xs → (a : A) × (get_elem? xs i ≡ maybe.some a)
  there [] i h = absurd (omega arith)
  there (x ∷ xs) zero h = (x, refl)
  there (x ∷ xs) (suc i) h = there xs i (omega arith)

  no_zero : (n i : ℕ) → ◌≡◌ {A = ℕ} (get_or (replicate n 0) i 0) 0
  no_zero zero i = refl
  no_zero (suc n) zero = refl
  no_zero (suc n) (suc i) = no_zero n i

  first_kept : (port : ℕ) (u : View T) → get_elem? (opened marks ∷ []) port ≡ maybe.some u → ViewKept fits marks u
  first_kept zero u e =
      let kept_v : ViewKept fits marks (opened marks) = ((λ none. absurd (omega (arith, none))), (λ _. refl)) in
      subst (λ (y : View T). ViewKept fits marks y) (maybe.some-injective (opened marks) u e) kept_v
  first_kept (suc port) u e = absurd (maybe.some-ne-none u (sym e))

  mapped : (xs : List (Option T)) → length (map maybe.some xs) ≡ length xs
  mapped [] = refl
  mapped (x ∷ xs) = omega (arith, mapped xs)

  mapped' : (xs : List T) → length (map Some xs) ≡ length xs
  mapped' [] = refl
  mapped' (x ∷ xs) = omega (arith, mapped' xs)

  pub opens : ((x : T) → fits x x) → (words : List ℕ) → words ≡ replicate (length marks) 0
      → Kept fits marks (opening words (map Some marks) (opened marks))
  opens same words zeros =
      let v : View T = opened marks in
      let none : (i : ℕ) → get_or words i 0 ≡ 0 =
      λ i. subst (λ (ws : List ℕ). get_or ws i 0 ≡ 0) (sym zeros) (no_zero (length marks) i) in record {
        count = ap length zeros ∙ length-replicate (length marks) 0;
        slots = mapped (map Some marks) ∙ mapped' marks;
        turns = λ i inside. let t = there marks i inside in record {
          bit = omega (arith, none i);
          holders = omega (arith, none i);
          home = λ _. (t.0, some_of marks i t.0 t.1, (t.0, t.1, same t.0));
        };
        shares = omega arith;
        views = λ port u e. first_kept port u e;
      }

  -- what is left at the end, where the seat that closes has all shares and holds nothing
  pub closes : (ws : List ℕ) (xs : List (Option T)) (id : ℕ) (v : View T)
      → Final (Seen (Kept fits marks) id v) ws xs
      → v.shares ≡ 4294967296 → v.holds ≡ [] → (i : ℕ) → i < length marks → (x : T)
      × (get_elem? xs i ≡ maybe.some (Some x)) × FitsMark fits marks i x
  closes ws xs id v last all none i inside =
      let s = last.0 in
      let kept : Kept fits marks s = last.1.0 in
      let at : get_elem? s.views id ≡ maybe.some v = last.1.1 in
      let turn = kept.turns i inside in
      let nobody : total (holders i) s.views ≡ 0 =
      alone (λ (u : View T). u.shares) (holders i) s.views id v at
      (omega (arith, kept.shares, all)) (ap (times i) none)
      (λ port u e spent'. ap (times i) ((kept.views port u e).0 spent')) in
      let home = turn.home (omega (arith, nobody, turn.holders)) in (home.0, last.4 i (Some home.0) home.1, home.2)
