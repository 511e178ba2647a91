-- An insert into the map of a table, as its members show it.
use Rattle.std.proofs.Common.{◌≡◌, refl, ap, ℕ, List, [], ◌∷◌, Ordering, Less, Equal, Greater, String, Global, string_bytes, nat_cmp}
use Rattle.std.specs.Cmp.Lexicographic.{slice_cmp}
use Rattle.std.specs.Ordering.{match_ordering}
use Rattle.std.specs.BTreeMap.{insert_entry}
use Rattle.std.specs.String.{string_cmp}
use Rattle.toml.specs.Data.{member}
use Rattle.toml.specs.View.{view, members_view}
use Rattle.toml.proofs.Views.{Entry}
use Rattle.toml.specs.declared.value.Value.{Value}
use Rattle.pm_upgrade.specs.Tables.{put_member}

put_at : (o : Ordering) (k : String Global) (v : Value) (e : Entry) (es : List Entry) → o ≡ slice_cmp nat_cmp (string_bytes k) (string_bytes e.0) →
    members_view (insert_entry string_cmp es k v) ≡ put_member (string_bytes k) (view v) (members_view es) →
    members_view (match_ordering o ((k, v) ∷ e ∷ es) ((e.0, v) ∷ es) (e ∷ insert_entry string_cmp es k v))
    ≡ match_ordering o (member (string_bytes k) (view v) (members_view (e ∷ es))) (member (string_bytes e.0) (view v) (members_view es)) (member (string_bytes e.0) (view e.1) (put_member (string_bytes k) (view v) (members_view es)))
put_at Less k v e es same ih = refl
put_at Equal k v e es same ih = refl
put_at Greater k v e es same ih = ap (member (string_bytes e.0) (view e.1)) ih

insert_shows : (k : String Global) (v : Value) (es : List Entry) → members_view (insert_entry string_cmp es k v) ≡ put_member (string_bytes k) (view v) (members_view es)
insert_shows k v [] = refl
insert_shows k v (e ∷ es) = put_at (slice_cmp nat_cmp (string_bytes k) (string_bytes e.0)) k v e es refl (insert_shows k v es)

pub insert_shows_at : (k : String Global) (name : List ℕ) (v : Value) (es : List Entry) → string_bytes k ≡ name →
    members_view (insert_entry string_cmp es k v) ≡ put_member name (view v) (members_view es)
insert_shows_at k name v es same = rw (← same) (insert_shows k v es)
