-- What posting and taking do to the heads, as the tests whether a receiver has one.
use Rattle.std.proofs.Common.{◌≡◌, ℕ, ◌<◌, ◌≤◌, ◌==◌, Bool, true, false, not, ◌||◌, ◌&&◌, Bor, List, [], Option, Some, None, is_some, sym, ap, ap₂, ◌∙◌}
use Rattle.std.specs.Prelude.{option_copied, IfNone, IfSome, Result, Ok, Err, OnOk, OnErr}
use Rattle.std.proofs.lemmas.Bool.{false≢true}
use Rattle.pm_base.specs.declared.stamp.Stamp.{Stamp}
use Rattle.pm_message.specs.Messages.{stamp_of}
use Rattle.pm_message.specs.declared.Message.{Message}
use Rattle.pm_mail.specs.Headed.{leads}
use Rattle.pm_mail.specs.Heads.{is_in, same}
use Rattle.pm_mail.specs.Links.{IsAwaited, IsIdle, Link, first_moment, first_of, posted, taken, waiting}
use Rattle.pm_mail.specs.declared.heads.Head.{Head}
use Rattle.pm_mail.proofs.Leads.{head, lead-followed, lead-left, lead-posted, next-none, next-there, posted-behind, taken-none}

-- ---- the first message as it was looked for

pub no-first : (o : Option (Bor Message)) (p : Option Message) → option_copied o ≡ p → is_some o ≡ false → p ≡ None
no-first None p e is = sym e
no-first (Some x) p e is = absurd (false≢true (sym is))

-- behind a first message one more changes none, nor does failing to post it
pub posted-same : {E : Type 0} (t f : ℕ) (m : Message) (r : Result (Unit {0}) E) (old new : List Link)
    (o : Option (Bor Message)) → option_copied o ≡ first_of (waiting t f old) → is_some o ≡ true
    → OnOk r (new ≡ posted t f m old) → OnErr r (new ≡ old) → (u g : ℕ) → first_moment u g new ≡ first_moment u g old
posted-same t f m r old new None e is ok err u g = absurd (false≢true is)
posted-same t f m (Ok x) old new (Some y) e is ok err u g =
    ap (first_moment u g) ok ∙ posted-behind t f m y.now old u g (sym e)
posted-same t f m (Err x) old new (Some y) e is ok err u g = ap (first_moment u g) err

-- ---- the heads

module _ (had : ℕ → Head → Bool) (ls : List Link)
    (are : (t : ℕ) (k : Head) → had t k ≡ leads k (first_moment t k.from ls))
    (to from : ℕ) (m : Message) (s : Stamp) (at : s ≡ stamp_of m) where
  -- a link without a message has one now
  pub entered : first_of (waiting to from ls) ≡ None → (now : ℕ → Head → Bool)
      → ((t : ℕ) (k : Head) → now t k ≡ ((to == t && same (head from s) k) || had t k)) → (new : List Link)
      → new ≡ posted to from m ls → (t : ℕ) (k : Head) → now t k ≡ leads k (first_moment t k.from new)
  entered none now more new is t k =
      more t k ∙ (ap₂ (λ z b. (to == t && same (head from z) k) || b) at (are t k)
      ∙ sym (ap (λ z. leads k (first_moment t k.from z)) is ∙ lead-posted to from t k m ls none))

  -- the first message m of a link was taken
  module _ (first : first_of (waiting to from ls) ≡ Some m)
      (now : ℕ → Head → Bool) (new : List Link) (is : new ≡ taken to from ls) where
    pub left-all : first_moment to from new ≡ None
        → ((t : ℕ) (k : Head) → now t k ≡ (not (to == t && same (head from s) k) && had t k))
        → (t : ℕ) (k : Head) → now t k ≡ leads k (first_moment t k.from new)
    left-all next less t k =
        less t k ∙ (ap₂ (λ z b. not (to == t && same (head from z) k) && b) at (are t k)
        ∙ sym (ap (λ z. leads k (first_moment t k.from z)) is
        ∙ lead-left to from t k m ls first (ap (first_moment to from) (sym is) ∙ next)))

    pub followed : (n : Stamp) → first_moment to from new ≡ Some n
        → ((t : ℕ) (k : Head)
        → now t k ≡ ((to == t && same (head from n) k) || (not (to == t && same (head from s) k) && had t k)))
        → (t : ℕ) (k : Head) → now t k ≡ leads k (first_moment t k.from new)
    followed n next less t k =
        less t k ∙ (ap₂ (λ z b. (to == t && same (head from n) k) || (not (to == t && same (head from z) k) && b))
        at (are t k)
        ∙ sym (ap (λ z. leads k (first_moment t k.from z)) is
        ∙ lead-followed to from t k m ls first n (ap (first_moment to from) (sym is) ∙ next)))

-- where nothing was taken, nothing changes
pub nothing-taken : (t f : ℕ) (old new : List Link) → new ≡ taken t f old → first_of (waiting t f old) ≡ None
    → (u g : ℕ) → first_moment u g new ≡ first_moment u g old
nothing-taken t f old new is none u g = ap (first_moment u g) is ∙ taken-none t f u g old none

-- ---- the receivers that messages are on their way to

module _ (hs : ℕ → List Head) (ls : List Link)
    (are : (t : ℕ) (k : Head) → is_in k (hs t) ≡ leads k (first_moment t k.from ls)) where
  pub one-awaited : (o : Option ℕ) → IfSome o (λ to. (k : Head) × (is_in k (hs to) ≡ true))
      → IfSome o (λ to. IsAwaited to ls)
  one-awaited None h = tt
  one-awaited (Some to) h = (h.0.from, next-there to (hs to) ls (are to) h.0 h.1)

  pub others-idle : (start : ℕ) (o : Option ℕ) → IfSome o (λ to. (t : ℕ) → start ≤ t → t < to → hs t ≡ [])
      → IfSome o (λ to. (t : ℕ) → start ≤ t → t < to → IsIdle t ls)
  others-idle start None h = tt
  others-idle start (Some to) h = λ t from below. next-none t (hs t) ls (are t) (h t from below)

  pub none-idle : (start : ℕ) (o : Option ℕ) → IfNone o ((t : ℕ) → start ≤ t → hs t ≡ [])
      → IfNone o ((t : ℕ) → start ≤ t → IsIdle t ls)
  none-idle start None h = λ t from. next-none t (hs t) ls (are t) (h t from)
  none-idle start (Some to) h = tt
