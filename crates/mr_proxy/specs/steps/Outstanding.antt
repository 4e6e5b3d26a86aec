-- The requests under way, and how a map by name beside their numbers in order of issue stands for the list of them.
use Rattle.std.specs.Prelude.{◌≡◌, ℕ, ◌<◌, ◌==◌, ◌&&◌, Bool, true, List, [], ◌∷◌, ◌++◌, Option, Some, None, IsSome, Result, Ok, Err, option_to_list, slice_set, remove, if◌then◌else◌}
use Rattle.std.specs.Option.{option_and_then}
use Rattle.std.specs.List.{AllByRecursion, list_any}
use Rattle.mr_history.specs.OpIds.{is_same_op}
use Rattle.mr_history.specs.declared.op_id.OpId.{OpId}
use Rattle.mr_join.specs.declared.leg_reply.LegReply.{LegReply}
use Rattle.mr_proxy.specs.declared.sheet.LegId.{LegId}
use Rattle.mr_proxy.specs.Pending.{PendingView, is_complete, with_reply}
use Rattle.mr_proxy.specs.Transitions.{place_of_op, pending_with}

pub record OutstandingView : Type 0 where
  pub proxy : ℕ
  pub incarnation : ℕ
  -- in order of issue
  pub list : List PendingView
  -- how many more can be added without memory
  pub spare : ℕ

-- how the map compares names: field by field
abbrev pub is_equal : OpId → OpId → Bool
is_equal a b = (a.proxy == b.proxy) && ((a.incarnation == b.incarnation) && (a.number == b.number))

-- the name that this incarnation of the proxy gave with a number
abbrev pub named : ℕ → ℕ → ℕ → OpId
named proxy incarnation number = record { proxy = proxy; incarnation = incarnation; number = number }

-- what is found by the names of these numbers, in their order
abbrev pub listed : (OpId → Option PendingView) → ℕ → ℕ → List ℕ → List PendingView
listed find proxy incarnation [] = []
listed find proxy incarnation (number ∷ later) =
    option_to_list (find (named proxy incarnation number)) ++ listed find proxy incarnation later

-- a request is found by this name, and has it
pub record IsFound (find : OpId → Option PendingView) (op : OpId) : Type 0 where
  pub pending : PendingView
  pub there : find op ≡ Some pending
  pub own : pending.op ≡ op

-- each number is less than all behind it
abbrev pub Rise : List ℕ → Type 0
Rise [] = Unit {0}
Rise (number ∷ later) = AllByRecursion (λ other. number < other) later × Rise later

-- a request is found by the name of each number and by no other name, and the numbers rise
pub record IsKept (find : OpId → Option PendingView) (proxy incarnation : ℕ) (numbers : List ℕ) : Type 0 where
  pub found : AllByRecursion (λ number. IsFound find (named proxy incarnation number)) numbers
  pub known : (op : OpId) → IsSome (find op) → list_any (λ number. is_same_op (named proxy incarnation number) op) numbers ≡ true
  pub rise : Rise numbers

-- the request of a leg with this reply noted; none where no leg awaits the reply
abbrev pub noted_in : List PendingView → LegId → LegReply → Option PendingView
noted_in list id reply = option_and_then (λ pending. with_reply pending id.place reply) (pending_with list id.op)

-- the list with this request at that place, if there is one to write
abbrev pub written_at : List PendingView → ℕ → Option PendingView → List PendingView
written_at list place None = list
written_at list place (Some pending) = slice_set list place pending

-- the list with a reply noted
abbrev pub list_noted : List PendingView → LegId → LegReply → List PendingView
list_noted list id reply = written_at list (place_of_op list id.op) (noted_in list id reply)

-- the list without the request of that place once that is complete, and else with it
abbrev pub settled_at : List PendingView → ℕ → Option PendingView → List PendingView
settled_at list place None = list
settled_at list place (Some pending) = if is_complete pending then remove list place else slice_set list place pending

-- the list after a reply: a request leaves with its last one
abbrev pub list_settled : List PendingView → LegId → LegReply → List PendingView
list_settled list id reply = settled_at list (place_of_op list id.op) (noted_in list id reply)

-- the request with the reply noted, once it is complete; the reply comes back where no leg awaits it
abbrev pub settled_as : LegReply → Option PendingView → Result (Option PendingView) LegReply
settled_as reply None = Err reply
settled_as reply (Some pending) = if is_complete pending then Ok (Some pending) else Ok None
