-- How the ends of several processes belong together.
use Rattle.std.specs.Prelude.{ℕ, ◌<◌, ◌≡◌, List, [], ◌∷◌, ◌++◌, length, get_or, set, Some}
use Rattle.std.specs.List.{AllByRecursion}
use Rattle.pm_links.specs.Links.{Link}
use Rattle.pm_ends.specs.Numbers.{froms_to, nth, tos_from}
use Rattle.pm_ends.specs.Ends.{Inn, Out, froms, tos}

-- the out-end that an in-end of process a names goes to process a, and is of the same link
pub record IsWiredTo (outs : List (List Out)) (a : ℕ) (x : Inn) : Type 0 where
  pub out : Out
  pub at : nth (get_or outs x.from []) x.slot ≡ Some out
  pub to : out.to ≡ a
  pub link : x.link ≡ out.link

-- nothing went over it
pub record IsFreshIn (x : Inn) : Type 0 where
  pub received : x.received ≡ []
  pub waiting : x.waiting ≡ []

-- the ends of these links between n processes, each process's by number; nothing went over them
pub record AreWires (links : List (ℕ × ℕ)) (n : ℕ) (inns : List (List Inn)) (outs : List (List Out)) : Type 0 where
  pub receivers : length inns ≡ n
  pub senders : length outs ≡ n
  pub froms_are : (k : ℕ) → k < n → froms (get_or inns k []) ≡ froms_to k links
  pub tos_are : (k : ℕ) → k < n → tos (get_or outs k []) ≡ tos_from k links
  pub wired : (a j : ℕ) (x : Inn) → nth (get_or inns a []) j ≡ Some x → IsWiredTo outs a x
  pub fresh_ins : (k : ℕ) → AllByRecursion IsFreshIn (get_or inns k [])
  pub fresh_outs : (k : ℕ) → AllByRecursion (λ (o : Out). o.sent ≡ []) (get_or outs k [])

-- the in-end at that place is of one link with the out-end that it names
pub record IsWiredAt (outs : List Out) (inns : List Inn) (i : ℕ) : Type 0 where
  pub inn : Inn
  pub at : nth inns i ≡ Some inn
  pub out : Out
  pub there : nth outs inn.slot ≡ Some out
  pub link : inn.link ≡ out.link

-- what was sent over the link of the in-end at that place is what was handed out there and what waits there
pub record IsDrawn (outs : List Out) (inns : List Inn) (i : ℕ) : Type 0 where
  pub inn : Inn
  pub at : nth inns i ≡ Some inn
  pub out : Out
  pub there : nth outs inn.slot ≡ Some out
  pub all : out.sent ≡ inn.received ++ inn.waiting

-- one more link between two processes: each of its ends stands last at its process, and nothing went over it
pub record IsConnected (to from : ℕ) (inns : List (List Inn)) (outs : List (List Out)) (inns' : List (List Inn))
    (outs' : List (List Out)) : Type 0 where
  pub link : Link
  pub ins_are : inns' ≡ set inns to (get_or inns to [] ++ record {
    from = from;
    slot = length (get_or outs from []);
    link = link;
    received = [];
    waiting = [];
  } ∷ [])
  pub outs_are : outs' ≡ set outs from (get_or outs from [] ++ record { to = to; link = link; sent = [] } ∷ [])
