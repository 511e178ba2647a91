-- A receiver whose only head is gone isn't looked for any more.
use Rattle.std.proofs.Common.{◌≡◌, ℕ, ◌==◌, inl, inr, true, not, ◌&&◌, cond, List, None, length, sym, ap, ap₂, arith, ◌∙◌}
use Rattle.std.specs.BTreeMap.{BTreeMap, get, is_at}
use Rattle.std.specs.Ordering.{nat_cmp}
use Rattle.std.proofs.lemmas.Bool.{cases_Bool}
use Rattle.std.proofs.lemmas.Bool.Decides.{nat_tests}
use Rattle.pm_mail.specs.Heads.{heads_at, is_in, or_none, same}
use Rattle.pm_mail.specs.declared.heads.Head.{Head}
use Rattle.pm_mail.proofs.Ordered.{lone}

same-number : (a b : ℕ) → is_at (nat_cmp a) b ≡ (a == b)
same-number a b = grind (arith, nat_tests)

number-is : (a b : ℕ) → (a == b) ≡ true → b ≡ a
number-is a b e = grind (arith, nat_tests, e)

pub closed : (m n : BTreeMap ℕ (List Head)) (to : ℕ) (h : Head)
    → ((t : ℕ) → get nat_cmp n t ≡ cond (is_at (nat_cmp to) t) None (get nat_cmp m t))
    → (length (heads_at to m) == 1) ≡ true → is_in h (heads_at to m) ≡ true
    → (t : ℕ) (k : Head) → is_in k (heads_at t n) ≡ (not (to == t && same h k) && is_in k (heads_at t m))
closed m n to h gone one there t k =
    ap (λ o. is_in k (or_none o)) (gone t ∙ ap (λ b. cond b None (get nat_cmp m t)) (same-number to t))
    ∙ elim (cases_Bool (to == t)) [
      | inl e ↦
          ap (λ b. is_in k (or_none (cond b None (get nat_cmp m t)))) e
          ∙ (lone h k (heads_at to m) one there
          ∙ ap₂ (λ b z. not (b && same h k) && is_in k (heads_at z m)) (sym e) (sym (number-is to t e)))
      | inr e ↦
          ap (λ b. is_in k (or_none (cond b None (get nat_cmp m t)))) e
          ∙ ap (λ b. not (b && same h k) && is_in k (heads_at t m)) (sym e)
    ]
